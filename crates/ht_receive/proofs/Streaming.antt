-- Lines that were put of frames, and the end line, are the text of a format.
use Rattle.std.proofs.Common.{◌≡◌, ◌≢◌, ℕ, List, Result, Err, refl, sym, subst, ◌∙◌}
use Rattle.ht_io.specs.Devices.{Device, IsLater}
use Rattle.ht_io.proofs.Calls.{later-later, later-refl}
use Rattle.ht_fields.specs.Grammar.{Grammar}
use Rattle.ht_fields.specs.Meanings.{Meaning, meaning}
use Rattle.ht_runs.specs.Filters.{Filter}
use Rattle.ht_runs.specs.Formats.{filter}
use Rattle.ht_runs.specs.Streamed.{Streamed}
use Rattle.ht_runs.specs.declared.faults.RunFault.{RunFault}
use Rattle.ht_runs.specs.declared.faults.RunFault.TheVariants.{Write, NoMemory}
use Rattle.ht_feed.specs.declared.ended.Ended.{Ended}
use Rattle.ht_feed.specs.Inputs.{TellsInput}
use Rattle.ht_feed.specs.Items.{Headed, Item}
use Rattle.ht_frames.specs.Gathering.{booked_in}
use Rattle.ht_receive.specs.Endings.{EndsLines, IsTold, MeansFrames, seen_as}
use Rattle.ht_receive.proofs.Endings.{ends}
use Rattle.ht_receive.proofs.Nothing.{nothing_put}
use Rattle.ht_receive.specs.Ends.{StreamsText}
use Rattle.ht_receive.specs.Receiving.{books}

-- without memory for a reader nothing is taken, and nothing put
pub lacks : (f : Filter) (Says : ℕ → List ℕ → Type 0) (source sink : Device ℕ) (result : Result ℕ RunFault) → result ≡ Err NoMemory
    → StreamsText f Says source source sink sink result
lacks f Says source sink result is =
    record {
      streams = subst (λ (r : Result ℕ RunFault). Streamed f source source sink sink Says r) (sym is) (nothing_put f.front source sink);
      writes = λ well. refl;
      reads_later = later-refl source;
      puts_later = later-refl sink;
    }

-- the text of an input, whose lines a run put that ended so, and the end line behind them
pub with_end_line : (f : Filter) (Says : ℕ → List ℕ → Type 0) (source source' sink mid sink' : Device ℕ) (ended : Result Ended RunFault)
    (result : Result ℕ RunFault) → Streamed f source source' sink sink' Says result
    → (ended ≢ Err Write → mid.faults ≡ sink.faults) → IsLater source source' → IsLater sink mid
    → EndsLines ended mid sink' result → StreamsText f Says source source' sink sink' result
with_end_line f Says source source' sink mid sink' ended result streamed steady reads puts last = record {
  streams = streamed;
  writes = λ well. last.writes well ∙ steady (λ is. well (last.failed is));
  reads_later = reads;
  puts_later = later-later sink mid sink' puts last.later;
}

-- a format, how a reader of blocks sees its items, and a line of each result
module _ {S I H T R : Type 0} (f : Grammar S I) (items_as : List I → List (Item H)) (means : R → List ℕ → Meaning (Item H)) (at : R → ℕ) (reader : R)
    (head : H) (line : T → List ℕ) (results : List (Headed H) → List T) (text lines : List ℕ → List ℕ) where
  pub streams : (source source' sink start mid sink' : Device ℕ) (lent lent' : List ℕ) (ended : Result Ended RunFault) (result : Result ℕ RunFault)
      → IsTold f items_as head (booked_in line results) text lines
      → ((octets : List ℕ) → means reader octets ≡ seen_as items_as (meaning f f.start 0 octets)) → at reader ≡ 0
      → start ≡ sink → TellsInput means at reader head source source' (books line results start) (books line results mid) lent lent' ended
      → EndsLines ended mid sink' result
      → StreamsText (filter f text lines) (MeansFrames f items_as) source source' sink sink' result
  streams source source' sink start mid sink' lent lent' ended result told same zero from told_from last =
      let tells : TellsInput means at reader head source source' (books line results sink) (books line results mid) lent lent' ended =
      subst (λ (d : Device ℕ). TellsInput means at reader head source source' (books line results d) (books line results mid) lent lent' ended) from
      told_from in
      with_end_line (filter f text lines) (MeansFrames f items_as) source source' sink mid sink' ended result
      (ends f items_as head (booked_in line results) text lines told means at reader source source' (books line results sink)
      (books line results mid) ended sink' result same zero refl tells.tells tells.puts_later last.puts)
      tells.writes tells.reads_later tells.puts_later last
