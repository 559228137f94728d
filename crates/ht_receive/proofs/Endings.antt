-- What a run over blocks comes to that puts lines while it reads, and then its end line.
use Rattle.std.specs.Prelude.{◌≡◌, ℕ, ◌+◌, List, length, take, Some, Result, Ok, Err, MatchResult}
use Rattle.std.proofs.Common.{ap, ◌∙◌, sym, subst, arith}
use Rattle.std.proofs.lemmas.Option.{IfSome_then}
use Rattle.ht_io.specs.Devices.{Device, IsLater}
use Rattle.ht_io.specs.declared.faults.FormatFault.{FormatFault}
use Rattle.ht_fields.specs.Grammar.{Grammar}
use Rattle.ht_fields.specs.Meanings.{Meaning}
use Rattle.ht_fields.specs.Readers.{IsEarly}
use Rattle.ht_text.specs.Lines.{end_text}
use Rattle.ht_runs.specs.Formats.{IsFaultless, filter}
use Rattle.ht_runs.specs.Outcomes.{IsFrontOf, TellsWhole}
use Rattle.ht_runs.specs.Streamed.{StopsAtFault, Streamed}
use Rattle.ht_runs.specs.declared.faults.RunFault.{RunFault}
use Rattle.ht_runs.specs.declared.faults.RunFault.TheVariants.{Format, Read, Write, NoMemory}
use Rattle.ht_runs.proofs.Streaming.{no_file}
use Rattle.ht_fields.proofs.Joins.{early_text}
use Rattle.ht_feed.specs.declared.ended.Ended.{Ended}
use Rattle.ht_feed.specs.Consumers.{Telling}
use Rattle.ht_feed.specs.Items.{Headed, Item, headed}
use Rattle.ht_feed.specs.Outcomes.{Comes, StopsAs as BlockStops, EndsRefused as BlockRefused, EndsWhole as BlockWhole}
use Rattle.ht_receive.specs.Endings.{IsTold, MeansFrames, PutsEnd, end_as, seen_as}
use Rattle.ht_receive.proofs.EndLines.{PutsLines, with_end}
use Rattle.ht_receive.proofs.Runs.{broken, ends_at, from_front, front, in_part, means_in, whole}

-- a format and how a reader of blocks sees its items; the pieces of jobs, and the text and the lines that come of them
module _ {S I H : Type 0} (f : Grammar S I) (items_as : List I → List (Item H)) (head : H) (pieces : List (Headed H) → List ℕ)
    (text lines : List ℕ → List ℕ) (s : IsTold f items_as head pieces text lines) where
  -- the source before and after, and the sink before
  module _ (source source' sink : Device ℕ) where
    module _ (mid : Device ℕ) where
      faultless : (octets : List ℕ) → IsFrontOf f octets → IsFaultless f octets
      faultless octets early =
          let place : length octets ≡ 0 + length octets = omega arith in
          early_text f octets (subst (λ n. IsEarly n (means_in f octets).fault) place early)

      whole_so : (ended : Ended) → BlockWhole (front f items_as source) lines source' sink mid ended
          → TellsWhole f lines source source' sink mid (MeansFrames f items_as ended.frames)
      whole_so ended w = whole f items_as lines source source' sink mid (MeansFrames f items_as ended.frames) ended (λ octets are jobs_are. are) w

      same_lines : (xs ys : List ℕ) → seen_as items_as (means_in f xs) ≡ seen_as items_as (means_in f ys) → lines xs ≡ lines ys
      same_lines xs ys is = sym (s.are xs) ∙ (ap (λ (m : Meaning (Item H)). pieces (headed head m.items)) is ∙ s.are ys)

      stopped : (fault : FormatFault) → BlockRefused (front f items_as source) lines source' sink mid fault
          → StopsAtFault (filter f text lines) source source' sink mid fault
      stopped fault r =
          let fault_of : (all : List ℕ) → seen_as items_as (means_in f all) ≡ seen_as items_as (means_in f r.taken) → (means_in f all).fault ≡ Some fault =
          λ all is. ap (λ (m : Meaning (Item H)). m.fault) is ∙ r.refused in
          record {
            taken = r.taken;
            octets = r.octets;
            refused = r.refused;
            ends = λ n few. faultless (take n r.taken) (ends_at f items_as lines source source' sink mid r.taken fault n r.refused r.ends few);
            front = r.put;
            no_input = IfSome_then source.known r.comes (λ all is. no_file f all fault (fault_of all is));
            same_fault = IfSome_then source.known r.comes fault_of;
            same_front = IfSome_then source.known r.comes (λ all is. same_lines all r.taken is);
          }

    -- what a run over blocks came to is what its lines came to
    lines_put : (run : Result Ended RunFault) (mid : Device ℕ)
        → MatchResult run (BlockWhole (front f items_as source) lines source' sink mid) (BlockStops (front f items_as source) lines source' sink mid)
        → PutsLines f text lines source source' sink (MeansFrames f items_as) run mid
    lines_put (Ok ended) mid t = whole_so mid ended t
    lines_put (Err (Format fault)) mid t = stopped mid fault t
    lines_put (Err Read) mid t = (broken f items_as lines source source' sink mid t.0, t.1)
    lines_put (Err Write) mid t = (in_part f items_as lines source source' sink mid t.0, t.1)
    lines_put (Err NoMemory) mid t = in_part f items_as lines source source' sink mid t

  -- A run of blocks from a reader in front of an input, by a consumer that keeps nothing back and shows these pieces, and
  -- then its end line: what the whole call promises.
  pub ends : {R : Type 0} (means_of : R → List ℕ → Meaning (Item H)) (at : R → ℕ) (reader : R) (source source' : Device ℕ) (a b : Telling H ℕ)
      (run : Result Ended RunFault) (sink' : Device ℕ) (result : Result ℕ RunFault)
      → ((octets : List ℕ) → means_of reader octets ≡ seen_as items_as (means_in f octets)) → at reader ≡ 0 → a.pieces ≡ pieces
      → Comes means_of at reader head source source' a b run → IsLater a.device b.device → PutsEnd run b.device sink' result
      → Streamed (filter f text lines) source source' a.device sink' (MeansFrames f items_as) result
  ends means_of at reader source source' a b run sink' result same zero shown came later puts =
      let are : (octets : List ℕ) → a.pieces (headed head (items_as (means_in f octets).items)) ≡ lines octets =
      λ octets. ap (λ (g : List (Headed H) → List ℕ). g (headed head (items_as (means_in f octets).items))) shown ∙ s.are octets in
      with_end f text lines source source' a.device (MeansFrames f items_as) (end_as f items_as) s.lined (λ frames octets is. ap end_text is) run b.device
      sink' result
      (lines_put source source' a.device run b.device
      (from_front f items_as means_of at reader head lines source source' a b run same zero are came)) later puts
