-- Blocks that are due, and what holds of an in-flight reader.
use Rattle.std.proofs.Common.{◌≡◌, ℕ, ◌+◌, ◌<◌, ◌≤◌, List, [], ◌∷◌, ◌++◌, drop, length, Option, None, Some, refl, ap, ◌∙◌, sym, subst, arith}
use Rattle.std.proofs.Common.{append-nil, append_assoc}
use Rattle.std.proofs.lemmas.Option.{none-some}
use Rattle.ht_io.specs.Devices.{Device}
use Rattle.ht_fields.specs.Meanings.{Meaning}
use Rattle.ht_metric.specs.Jobs.{JobView}
use Rattle.ht_feed.specs.declared.stop.Stop.{Stop}
use Rattle.ht_feed.specs.Items.{Item, Headed, Numbered}
use Rattle.ht_feed.specs.Dues.{Due, NoneEmpty, all_due, count_in, due_of, headed_due, jobs_in}
use Rattle.ht_feed.specs.Reading.{Counts, CountsBlock, Finds, begun}
use Rattle.ht_feed.specs.InFlights.{AddsBlock, InFlightView, IsSoundInFlight, ReadsMore, standing}

-- no more blocks than jobs
few_blocks : (blocks : List (List JobView)) → NoneEmpty blocks → length blocks ≤ count_in blocks
few_blocks [] full = omega arith
few_blocks (jobs ∷ blocks) full = let e = few_blocks blocks full.1 in let f = full.0 in omega (arith, e, f)

full-append : (blocks : List (List JobView)) (jobs : List JobView) → NoneEmpty blocks → 1 ≤ length jobs → NoneEmpty (blocks ++ jobs ∷ [])
full-append [] jobs full some = (some, tt)
full-append (b ∷ bs) jobs full some = (full.0, full-append bs jobs full.1 some)

full-drop : (blocks : List (List JobView)) → NoneEmpty blocks → NoneEmpty (drop 1 blocks)
full-drop [] full = full
full-drop (b ∷ bs) full = full.1

module _ {H : Type 0} where
  length-jobs_in : (due : List (Due H)) → length (jobs_in due) ≡ length due
  length-jobs_in [] = refl
  length-jobs_in (d ∷ ds) = let e = length-jobs_in ds in omega (arith, e)

  pub jobs_in-append : (due : List (Due H)) (d : Due H) → jobs_in (due ++ d ∷ []) ≡ jobs_in due ++ d.jobs ∷ []
  jobs_in-append [] d = refl
  jobs_in-append (x ∷ xs) d = ap (λ (bs : List (List JobView)). x.jobs ∷ bs) (jobs_in-append xs d)

  pub jobs_in-drop : (due : List (Due H)) → jobs_in (drop 1 due) ≡ drop 1 (jobs_in due)
  jobs_in-drop [] = refl
  jobs_in-drop (d ∷ ds) = refl

  all_due-append : (due : List (Due H)) (d : Due H) → all_due (due ++ d ∷ []) ≡ all_due due ++ headed_due d
  all_due-append [] d = append-nil (headed_due d)
  all_due-append (x ∷ xs) d =
      ap (λ (hs : List (Headed H)). headed_due x ++ hs) (all_due-append xs d) ∙ sym (append_assoc (headed_due x) (all_due xs) (headed_due d))

  length-headed : (head : H) (jobs : List JobView) → length (headed_due (due_of head jobs)) ≡ length jobs
  length-headed head [] = refl
  length-headed head (job ∷ jobs) = let e = length-headed head jobs in omega (arith, e)

  pub none_in : (due : List (Due H)) → jobs_in due ≡ [] → due ≡ []
  none_in [] is = refl
  none_in (d ∷ ds) is = let e : length (jobs_in (d ∷ ds)) ≡ 0 = ap length is in absurd (omega (arith, e))

  -- where these jobs and one more may be due, there may be one more block
  pub room_for : (due : List (Due H)) (most : ℕ) → NoneEmpty (jobs_in due) → 1 ≤ most → count_in (jobs_in due) + most ≤ 4096 → length due < 4096
  room_for due most full some few =
      let e = length-jobs_in due in
      let f = few_blocks (jobs_in due) full in
      omega (arith, e, f, some, few)

-- a block was given
module _ {R H : Type 0} (counts : R → Counts) (in_flight : InFlightView R H) (reader : R) (head : H) (frames : ℕ) (due : List (Due H)) (count most : ℕ)
    (jobs : List JobView)
    (sound : IsSoundInFlight counts in_flight) (none : in_flight.stop ≡ None) (counted : CountsBlock most (counts in_flight.reader) (counts reader) jobs)
    (fewer : frames + (counts reader).more + length jobs ≤ in_flight.frames + (counts in_flight.reader).more)
    (is : due ≡ in_flight.due ++ due_of head jobs ∷ []) (number : count ≡ in_flight.count + length jobs) where
  abbrev pub added : InFlightView R H
  added = record in_flight { reader = reader; head = head; frames = frames; due = due; count = count }

  pub sound_added : IsSoundInFlight counts added
  sound_added =
      let bound = sound.bound in
      record {
        going = λ stop. counted.going;
        given = λ stop. counted.given ∙ (ap (λ n. n + length jobs) (sound.given none) ∙ sym number);
        bound = omega (arith, bound, fewer, number);
        full = subst NoneEmpty (sym (ap jobs_in is ∙ jobs_in-append in_flight.due (due_of head jobs)))
            (full-append (jobs_in in_flight.due) jobs sound.full counted.some);
      }

  pub adds_block : AddsBlock counts most in_flight added jobs
  adds_block = record {
    due = is;
    numbers = subst (λ n. Numbered n jobs) (sound.given none) counted.numbers;
    count = number;
    some = counted.some;
    few = counted.few;
    fewer = counted.fewer;
    going = none;
  }

  pub reads_block : (means : R → List ℕ → Meaning (Item H)) (at : R → ℕ) (source after : Device ℕ)
      → Finds (standing means at in_flight.reader None source) (standing means at reader None after) (begun in_flight.head in_flight.frames) (begun head frames)
      (headed_due (due_of head jobs)) → ReadsMore means at in_flight added source after
  reads_block means at source after finds = record {
    came = headed_due (due_of head jobs);
    finds = subst (λ (stop : Option Stop). Finds (standing means at in_flight.reader stop source) (standing means at reader stop after)
        (begun in_flight.head in_flight.frames) (begun head frames) (headed_due (due_of head jobs))) (sym none) finds;
    due = ap all_due is ∙ all_due-append in_flight.due (due_of head jobs);
    count = number ∙ ap (λ n. in_flight.count + n) (sym (length-headed head jobs));
  }

-- the reading stopped
module _ {R H : Type 0} (in_flight : InFlightView R H) (reader : R) (head : H) (frames : ℕ) (stop : Stop) (none : in_flight.stop ≡ None) where
  abbrev pub stopped : InFlightView R H
  stopped = record in_flight { reader = reader; stop = Some stop; head = head; frames = frames }

  pub sound_stopped : (counts : R → Counts) → IsSoundInFlight counts in_flight
      → frames + (counts reader).more ≤ in_flight.frames + (counts in_flight.reader).more → IsSoundInFlight counts stopped
  sound_stopped counts sound fewer =
      let bound = sound.bound in
      record {
        going = λ is. absurd (none-some stop (sym is));
        given = λ is. absurd (none-some stop (sym is));
        bound = omega (arith, bound, fewer);
        full = sound.full;
      }

  pub reads_none : (means : R → List ℕ → Meaning (Item H)) (at : R → ℕ) (source after : Device ℕ)
      → Finds (standing means at in_flight.reader None source) (standing means at reader (Some stop) after) (begun in_flight.head in_flight.frames)
      (begun head frames) []
      → ReadsMore means at in_flight stopped source after
  reads_none means at source after finds = record {
    came = [];
    finds = subst (λ (s : Option Stop). Finds (standing means at in_flight.reader s source) (standing means at reader (Some stop) after)
        (begun in_flight.head in_flight.frames) (begun head frames) []) (sym none) finds;
    due = sym (append-nil (all_due in_flight.due));
    count = omega arith;
  }

-- the first block was taken
pub sound_taken : {R H : Type 0} (counts : R → Counts) (in_flight : InFlightView R H) (due : List (Due H)) → IsSoundInFlight counts in_flight
    → due ≡ drop 1 in_flight.due
    → IsSoundInFlight counts (record in_flight { due = due })
sound_taken counts in_flight due sound is = record {
  going = sound.going;
  given = sound.given;
  bound = sound.bound;
  full = subst NoneEmpty (sym (ap jobs_in is ∙ jobs_in-drop in_flight.due)) (full-drop (jobs_in in_flight.due) sound.full);
}
