-- A block is found, behind the heads of frames, or the end of the reading.
use Rattle.std.specs.Prelude.{◌≡◌, ℕ, ◌+◌, List, [], ◌∷◌, ◌++◌, map, Option, None, Some}
use Rattle.std.proofs.Common.{refl, ap, ◌∙◌, sym, subst, arith, append-nil}
use Rattle.ht_io.specs.Devices.{Device, IsLater}
use Rattle.ht_io.proofs.Calls.{later-refl, later-later}
use Rattle.ht_io.specs.declared.faults.InFault.{InFault}
use Rattle.ht_io.specs.declared.faults.InFault.TheVariants.{Format, Read, NoMemory}
use Rattle.ht_fields.specs.Readers.{ReaderView, Gives}
use Rattle.ht_fields.proofs.Joins.{gives_none, gives_more}
use Rattle.ht_metric.specs.Jobs.{JobView}
use Rattle.ht_feed.specs.declared.stop.Stop.{Stop}
use Rattle.ht_feed.specs.Items.{Item, Begins, One, Headed, headed, headed_of, last_head, frames_of}
use Rattle.ht_feed.specs.Dues.{due_of, headed_due}
use Rattle.ht_feed.specs.Reading.{Begun, Standing, Closes, ReadsOn, ReadsBy, Finds, Halts}
use Rattle.ht_feed.specs.Stops.{stop_of}
use Rattle.ht_feed.specs.Leading.{reads_none, reads_on, frames_of-append, headed-on, heads-on}

abbrev pub at : {H : Type 0} → ReaderView (Item H) → Option Stop → Standing (Item H)
at reader stop = record { reader = reader; stop = stop }

pub halts_closes : {I : Type 0} (b : ReaderView I) (after : Device ℕ) (fault : InFault) → Halts b after fault → Closes b after (stop_of fault)
halts_closes b after (Format fault) halts = halts
halts_closes b after Read halts = halts
halts_closes b after NoMemory halts = halts

frames_of-ones : (H : Type 0) (jobs : List JobView) → frames_of {H = H} (map One jobs) ≡ 0
frames_of-ones H [] = refl
frames_of-ones H (job ∷ jobs) = frames_of-ones H jobs

module _ {H : Type 0} where
  headed-ones : (head : H) (jobs : List JobView) → headed head (map One jobs) ≡ headed_due (due_of head jobs)
  headed-ones head [] = refl
  headed-ones head (job ∷ jobs) = ap (λ (xs : List (Headed H)). headed_of head job ∷ xs) (headed-ones head jobs)

  last_head-ones : (head : H) (jobs : List JobView) → last_head head (map One jobs) ≡ head
  last_head-ones head [] = refl
  last_head-ones head (job ∷ jobs) = last_head-ones head jobs

  pub finds_none : (standing : Standing (Item H)) (now : Begun H) → Finds standing standing now now []
  finds_none standing now =
      record { items = []; reads = reads_none standing; jobs = refl; head = refl; frames = omega arith; later = later-refl standing.reader.source }

  finds_more : (a b c : ReaderView (Item H)) (before now after : Begun H) (items : List (Item H)) (came : List (Headed H))
      → Finds (at a None) (at b None) before now [] → Gives b c items → headed now.head items ≡ came → after.head ≡ last_head now.head items
      → after.frames ≡ now.frames + frames_of items → IsLater b.source c.source → Finds (at a None) (at c None) before after came
  finds_more a b c before now after items came f gives jobs head count le =
      let q = f.frames in
      record {
        items = f.items ++ items;
        reads = gives_more a b c f.items items f.reads gives;
        jobs = headed-on before.head now.head f.items items f.head ∙ (ap (λ (xs : List (Headed H)). xs ++ headed now.head items) f.jobs ∙ jobs);
        head = heads-on before.head now.head after.head f.items items f.head head;
        frames = let e = frames_of-append f.items items in omega (arith, e, q, count);
        later = later-later a.source b.source c.source f.later le;
      }

  -- the head of a frame came
  pub finds_head : (a b c : ReaderView (Item H)) (before now after : Begun H) → Finds (at a None) (at b None) before now []
      → Gives b c (Begins after.head ∷ []) → after.frames ≡ now.frames + 1 → IsLater b.source c.source
      → Finds (at a None) (at c None) before after []
  finds_head a b c before now after f gives count le =
      finds_more a b c before now after (Begins after.head ∷ []) [] f gives refl refl (omega (arith, count)) le

  -- a block of these jobs came
  pub finds_block : (a b c : ReaderView (Item H)) (before now : Begun H) (jobs : List JobView) → Finds (at a None) (at b None) before now []
      → Gives b c (map One jobs) → IsLater b.source c.source → Finds (at a None) (at c None) before now (headed_due (due_of now.head jobs))
  finds_block a b c before now jobs f gives le =
      let none = frames_of-ones H jobs in
      finds_more a b c before now now (map One jobs) (headed_due (due_of now.head jobs)) f gives
      (headed-ones now.head jobs) (sym (last_head-ones now.head jobs)) (omega (arith, none)) le

  -- the reading stopped
  pub finds_end : (a b c : ReaderView (Item H)) (before now : Begun H) (stop : Stop)
      → Finds (at a None) (at b None) before now [] → Closes b c.source stop → IsLater b.source c.source
      → Finds (at a None) (at c (Some stop)) before now []
  finds_end a b c before now stop f closes le =
      let reads : ReadsBy None (Some stop) b c [] = record { between = b; gives = gives_none b; later = later-refl b.source; closes = closes } in
      let same : f.items ++ [] ≡ f.items = append-nil f.items in
      record {
        items = f.items;
        reads = subst (λ (xs : List (Item H)). ReadsOn (at a None) (at c (Some stop)) xs) same
            (reads_on None None (Some stop) a b c f.items [] f.later f.reads reads);
        jobs = f.jobs;
        head = f.head;
        frames = f.frames;
        later = later-later a.source b.source c.source f.later le;
      }
