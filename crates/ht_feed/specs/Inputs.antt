-- What it comes to that a whole input is read and told to a consumer.
use Rattle.std.specs.Prelude.{◌≡◌, ◌≢◌, ℕ, List, Result, Err}
use Rattle.ht_io.specs.Devices.{Device, IsLater}
use Rattle.ht_fields.specs.Meanings.{Meaning}
use Rattle.ht_runs.specs.declared.faults.RunFault.{RunFault}
use Rattle.ht_runs.specs.declared.faults.RunFault.TheVariants.{Write}
use Rattle.ht_feed.specs.declared.ended.Ended.{Ended}
use Rattle.ht_feed.specs.Consumers.{Telling}
use Rattle.ht_feed.specs.Items.{Item}
use Rattle.ht_feed.specs.Outcomes.{Comes}

-- What it comes to that a whole input is told to a consumer: from a reader that means this and the head that stands for the
-- one that came last, the source, the consumer and the borrows that it names, before and after, and the answer.
pub record TellsInput {R H P : Type 0} (means : R → List ℕ → Meaning (Item H)) (at : R → ℕ) (reader : R) (head : H) (source source' : Device ℕ)
    (old new : Telling H P) (lent lent' : List ℕ) (result : Result Ended RunFault) : Type 0 where
  -- what was read, and what was put of it
  pub tells : Comes means at reader head source source' old new result
  -- where the device failed the answer is `Write`, whatever else failed
  pub writes : result ≢ Err Write → new.device.faults ≡ old.device.faults
  -- however it ends, the source is the same, and takes back no fault
  pub reads_later : IsLater source source'
  -- the consumer's device is the same, too, and takes back none
  pub puts_later : IsLater old.device new.device
  -- the consumer borrows what it borrowed
  pub same : lent' ≡ lent
