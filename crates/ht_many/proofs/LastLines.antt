-- The last lines of several captures, one behind another, and how each capture ended with its own.
use Rattle.std.specs.Prelude.{◌≡◌, ◌≢◌, ◌⊎◌, ℕ, ◌+◌, ◌<◌, ◌≤◌, List, [], ◌∷◌, ◌++◌, length, get_or, Bool, true, false, nat_eq, nat_lt, Result, Err}
use Rattle.std.proofs.Common.{refl, ap, ◌∙◌, sym, subst, inl, inr, arith}
use Rattle.std.proofs.lemmas.Bool.Decides.{nat_tests}
use Rattle.std.proofs.lemmas.List.{get_or_append_left, get_or_default, get_or_past, get_or_push, length_push}
use Rattle.ht_io.specs.Devices.{Device, IsLater}
use Rattle.ht_io.proofs.Calls.{later-later, later-refl}
use Rattle.ht_runs.specs.declared.faults.RunFault.{RunFault}
use Rattle.ht_runs.specs.declared.faults.RunFault.TheVariants.{Read as RunRead, Write as RunWrite}
use Rattle.ht_feed.specs.declared.ended.Ended.{Ended}
use Rattle.ht_feed.specs.Others.{OthersStay}
use Rattle.ht_feed.proofs.Others.{each_of, other_number, same_number}
use Rattle.ht_many.specs.declared.many_end.ManyEnd.{ManyEnd}
use Rattle.ht_many.specs.declared.many_end.ManyEnd.TheVariants.{Done, Refused, Read, Write}
use Rattle.ht_many.specs.Alone.{Alone, FinishesCapture, PutsPieces, answer_of}
use Rattle.ht_many.specs.Several.{AreLater, Devices, EachEnds, EachHeard, EachInPart, answer_at, devices, end_at, sink_at, source_at}
use Rattle.ht_many.specs.LastLines.{EachFinishes, EachMayFinish, FinishesAt, KeepSinks}
use Rattle.ht_many.proofs.Ended.{ended_part, heard_ends, heard_part}

-- how sinks are seen, and what receiving answered of each capture
module _ {K : Type 0} (sink : K → Device ℕ) (answers : List (Result Ended RunFault)) where
  -- the first captures ended so, and the sinks of the others are as they were
  pub record SoFar (a b : List K) (count : ℕ) (ends : List ManyEnd) : Type 0 where
    pub as_many : length ends ≡ count
    pub each : (k : ℕ) → k < count → FinishesAt sink a b answers k (end_at ends k)
    pub writes : (k : ℕ) (t : K) → k < count → end_at ends k ≢ Write → (sink (get_or b k t)).faults ≡ (sink (get_or a k t)).faults
    pub others : (k : ℕ) (t : K) → count ≤ k → get_or b k t ≡ get_or a k t
    pub later : KeepSinks sink a b

  pub none_yet : (a : List K) (ends : List ManyEnd) → ends ≡ [] → SoFar a a 0 ends
  none_yet a ends none = record {
    as_many = ap (λ (z : List ManyEnd). length z) none;
    each = λ k few. absurd (omega (arith, few));
    writes = λ k t few. absurd (omega (arith, few));
    others = λ k t more. refl;
    later = record { as_many = refl; puts = λ k t. later-refl (sink (get_or a k t)) };
  }

  -- within the answers it doesn't matter which answer stands for a missing one
  pub answered_so : (a b : List K) (at : ℕ) (none : Result Ended RunFault) (end : ManyEnd) → at < length answers
      → ((t : K) → FinishesCapture (get_or answers at none) (sink (get_or a at t)) (sink (get_or b at t)) end) → FinishesAt sink a b answers at end
  answered_so a b at none end low f = λ t.
      subst (λ (x : Result Ended RunFault). FinishesCapture x (sink (get_or a at t)) (sink (get_or b at t)) end)
      (get_or_default answers at none (Err RunRead) low) (f t)

  module _ (a b c : List K) (at : ℕ) (ends : List ManyEnd) (so : SoFar a b at ends) (one : OthersStay b c at)
      (here-later : (t : K) → IsLater (sink (get_or b at t)) (sink (get_or c at t))) where
    pub keep_on : KeepSinks sink a c
    keep_on = record {
      as_many = one.as_many ∙ so.later.as_many;
      puts = λ k t.
          each_of one (λ n x. IsLater (sink (get_or a n t)) (sink x)) t
          (later-later (sink (get_or a at t)) (sink (get_or b at t)) (sink (get_or c at t)) (so.later.puts at t) (here-later t)) (λ n far. so.later.puts n t) k;
    }

    -- before it, the sinks stay as they are
    stay : (k : ℕ) (t : K) → k < at → get_or c k t ≡ get_or b k t
    stay k t low = one.others t k (λ e. absurd (omega (arith, low, e)))

    stays : (k : ℕ) (end : ManyEnd) → k < at → FinishesAt sink a b answers k end → FinishesAt sink a c answers k end
    stays k end low f = λ t. subst (λ (x : K). FinishesCapture (answer_at answers k) (sink (get_or a k t)) (sink x) end) (sym (stay k t low)) (f t)

    -- and behind it they are as they were
    behind : (k : ℕ) (t : K) → at + 1 ≤ k → get_or c k t ≡ get_or a k t
    behind k t high = one.others t k (λ e. absurd (omega (arith, high, e))) ∙ so.others k t (omega (arith, high))

    here : (end : ManyEnd) → FinishesAt sink b c answers at end → FinishesAt sink a c answers at end
    here end f = λ t. subst (λ (x : K). FinishesCapture (answer_at answers at) (sink x) (sink (get_or c at t)) end) (so.others at t (omega arith)) (f t)

    -- the sink of the capture with this number didn't fail, unless the capture ended with Write
    abbrev Steady : ℕ → K → ManyEnd → Type 0
    Steady k t end = end ≢ Write → (sink (get_or c k t)).faults ≡ (sink (get_or a k t)).faults

    pub one_more : (end : ManyEnd) (more : List ManyEnd) → more ≡ ends ++ end ∷ [] → FinishesAt sink b c answers at end
        → ((t : K) → end ≢ Write → (sink (get_or c at t)).faults ≡ (sink (get_or b at t)).faults) → SoFar a c (at + 1) more
    one_more end more is ended steady = record {
      as_many = ap (λ (z : List ManyEnd). length z) is ∙ (length_push ends end ∙ ap (λ n. n + 1) so.as_many);
      each = λ k few. each-more (nat_eq k at) k few refl;
      writes = λ k t few. writes-more (nat_eq k at) k t few refl;
      others = behind;
      later = keep_on;
    } where
      at_end : (k : ℕ) → nat_eq k at ≡ true → end_at more k ≡ end
      at_end k e =
          ap (λ (z : List ManyEnd). get_or z k Read) is
          ∙ (ap (λ n. get_or (ends ++ end ∷ []) n Read) (same_number at k e ∙ sym so.as_many) ∙ get_or_push ends end Read (length ends) refl)

      before : (k : ℕ) → k < at → end_at more k ≡ end_at ends k
      before k low = ap (λ (z : List ManyEnd). get_or z k Read) is ∙ get_or_append_left ends (end ∷ []) Read k (omega (arith, low, so.as_many))

      each-more : (u : Bool) (k : ℕ) → k < at + 1 → nat_eq k at ≡ u → FinishesAt sink a c answers k (end_at more k)
      each-more true k few e =
          subst (λ (z : ManyEnd). FinishesAt sink a c answers k z) (sym (at_end k e))
          (subst (λ (n : ℕ). FinishesAt sink a c answers n end) (sym (same_number at k e)) (here end ended))
      each-more false k few e =
          let low : k < at = omega (arith, few, other_number at k e) in
          subst (λ (z : ManyEnd). FinishesAt sink a c answers k z) (sym (before k low)) (stays k (end_at ends k) low (so.each k low))

      writes-more : (u : Bool) (k : ℕ) (t : K) → k < at + 1 → nat_eq k at ≡ u → Steady k t (end_at more k)
      writes-more true k t few e =
          subst (λ (z : ManyEnd). Steady k t z) (sym (at_end k e))
          (subst (λ (n : ℕ). Steady n t end) (sym (same_number at k e))
          (λ else. steady t else ∙ ap (λ (x : K). (sink x).faults) (so.others at t (omega arith))))
      writes-more false k t few e =
          let low : k < at = omega (arith, few, other_number at k e) in
          subst (λ (z : ManyEnd). Steady k t z) (sym (before k low))
          (λ else. ap (λ (x : K). (sink x).faults) (stay k t low) ∙ so.writes k t low else)

    abbrev MayEndAt : ℕ → K → Type 0
    MayEndAt k t = ((end : ManyEnd) × FinishesCapture (answer_at answers k) (sink (get_or a k t)) (sink (get_or c k t)) end) ⊎ (get_or c k t ≡ get_or a k t)

    before-so : (k : ℕ) (t : K) → k < at → MayEndAt k t
    before-so k t low = inl (end_at ends k, stays k (end_at ends k) low (so.each k low) t)

    -- memory ran out within it
    pub lacks_within : ((t : K) → get_or c at t ≡ get_or b at t) → EachMayFinish sink a c answers
    lacks_within same = λ k few t. within (nat_lt k at) k t refl where
      unchanged : (u : Bool) (k : ℕ) (t : K) → at ≤ k → nat_eq k at ≡ u → get_or c k t ≡ get_or a k t
      unchanged true k t high e =
          subst (λ (n : ℕ). get_or c n t ≡ get_or a n t) (sym (same_number at k e)) (same t ∙ so.others at t (omega arith))
      unchanged false k t high e = behind k t (omega (arith, high, other_number at k e))

      within : (u : Bool) (k : ℕ) (t : K) → nat_lt k at ≡ u → MayEndAt k t
      within true k t e = before-so k t (grind (arith, nat_tests, e))
      within false k t e = inr (unchanged (nat_eq k at) k t (grind (arith, nat_tests, e)) refl)

  -- memory ran out behind it
  pub lacks_after : (a c : List K) (count : ℕ) (ends : List ManyEnd) → SoFar a c count ends → EachMayFinish sink a c answers
  lacks_after a c count ends so = λ k few t. within (nat_lt k count) k t refl where
    within : (u : Bool) (k : ℕ) (t : K) → nat_lt k count ≡ u
        → ((end : ManyEnd) × FinishesCapture (answer_at answers k) (sink (get_or a k t)) (sink (get_or c k t)) end) ⊎ (get_or c k t ≡ get_or a k t)
    within true k t e = inl (end_at ends k, so.each k (grind (arith, nat_tests, e)) t)
    within false k t e = inr (so.others k t (grind (arith, nat_tests, e)))

  -- all ended
  pub all_finish : (a b : List K) (count : ℕ) (ends : List ManyEnd) → SoFar a b count ends → count ≡ length answers → EachFinishes sink a b answers ends
  all_finish a b count ends so all = record {
    as_many = so.as_many ∙ all;
    each = λ k few. so.each k (subst (λ (n : ℕ). k < n) (sym all) few);
    writes = λ k t. steady (nat_lt k count) k t refl;
  } where
    steady : (u : Bool) (k : ℕ) (t : K) → nat_lt k count ≡ u → end_at ends k ≢ Write → (sink (get_or b k t)).faults ≡ (sink (get_or a k t)).faults
    steady true k t e = so.writes k t (grind (arith, nat_tests, e))
    steady false k t e = λ else. ap (λ (x : K). (sink x).faults) (so.others k t (grind (arith, nat_tests, e)))

-- a capture that is heard to have failed at its sink ends so
failed_ends : (answer : Result Ended RunFault) (c d : Device ℕ) (end : ManyEnd) → answer ≡ Err RunWrite → FinishesCapture answer c d end → end ≡ Write
failed_ends answer c d end is f =
    let so : FinishesCapture (Err RunWrite) c d end = subst (λ (x : Result Ended RunFault). FinishesCapture x c d end) is f in
    written end so.0
  where
    written : (end : ManyEnd) → answer_of end ≡ Err RunWrite → end ≡ Write
    written (Done frames) so = absurd (cc)
    written (Refused fault) so = absurd (cc)
    written Read so = absurd (cc)
    written Write so = refl

-- captures were received, between the first two moments, and got their last lines between the last two
module _ {S K : Type 0} (source : S → Device ℕ) (sink : K → Device ℕ) (a b : Devices S K) (after : List K) (answers : List (Result Ended RunFault))
    (heard : EachHeard source sink a b answers) (later : AreLater source sink a b) where
  abbrev last : Devices S K
  last = devices b.sources after

  pub last_later : KeepSinks sink b.sinks after → AreLater source sink a last
  last_later keep = record {
    sources = later.sources;
    sinks = keep.as_many ∙ later.sinks;
    reads = later.reads;
    puts = λ k t. later-later (sink_at sink a k t) (sink_at sink b k t) (sink_at sink last k t) (later.puts k t) (keep.puts k t);
  }

  ends-alone : (k : ℕ) (end : ManyEnd) → k < length a.sources → FinishesAt sink b.sinks after answers k end → (s : S) (t : K)
      → Alone (source_at source a k s) (source_at source b k s) (sink_at sink a k t) (sink (get_or after k t)) end
  ends-alone k end few f s t =
      heard_ends (source_at source a k s) (source_at source b k s) (sink_at sink a k t) (answer_at answers k) (sink_at sink b k t)
      (sink (get_or after k t)) (answer_of end) (heard.each k few s t) (later.puts k t) (f t)

  answered : (k : ℕ) → k < length a.sources → k < length answers
  answered k few = subst (λ (n : ℕ). k < n) (sym heard.as_many) few

  -- the capture with this number has ended, and its sink didn't fail but at the end Write
  steady-within : (ends : List ManyEnd) → EachFinishes sink b.sinks after answers ends → (k : ℕ) (t : K) → k < length answers → end_at ends k ≢ Write
      → (sink (get_or after k t)).faults ≡ (sink_at sink a k t).faults
  steady-within ends finish k t few else =
      finish.writes k t else
      ∙ heard.writes k t (λ is. else (failed_ends (answer_at answers k) (sink_at sink b k t) (sink (get_or after k t)) (end_at ends k) is
      (finish.each k few t)))

  -- beyond the captures there is no sink
  steady-past : KeepSinks sink b.sinks after → length a.sinks ≡ length a.sources → (k : ℕ) (t : K) → length answers ≤ k
      → (sink (get_or after k t)).faults ≡ (sink_at sink a k t).faults
  steady-past keep pairs k t high =
      let none : length a.sinks ≤ k = omega (arith, high, pairs, heard.as_many) in
      let gone : length after ≤ k = omega (arith, none, keep.as_many, later.sinks) in
      ap (λ (x : K). (sink x).faults) (get_or_past after k t gone ∙ sym (get_or_past a.sinks k t none))

  pub each_ends : (ends : List ManyEnd) → EachFinishes sink b.sinks after answers ends → KeepSinks sink b.sinks after → length a.sinks ≡ length a.sources
      → EachEnds source sink a last ends
  each_ends ends finish keep pairs = record {
    as_many = finish.as_many ∙ heard.as_many;
    each = λ k few s t. ends-alone k (end_at ends k) few (finish.each k (answered k few)) s t;
    writes = λ k t. steady (nat_lt k (length answers)) k t refl;
  } where
    steady : (u : Bool) (k : ℕ) (t : K) → nat_lt k (length answers) ≡ u → end_at ends k ≢ Write
        → (sink (get_or after k t)).faults ≡ (sink_at sink a k t).faults
    steady true k t e = steady-within ends finish k t (grind (arith, nat_tests, e))
    steady false k t e = λ else. steady-past keep pairs k t (grind (arith, nat_tests, e))

  part : (k : ℕ) (s : S) (t : K) → k < length a.sources
      → ((end : ManyEnd) × FinishesCapture (answer_at answers k) (sink_at sink b k t) (sink (get_or after k t)) end) ⊎ (get_or after k t ≡ get_or b.sinks k t)
      → PutsPieces (source_at source a k s) (source_at source b k s) (sink_at sink a k t) (sink (get_or after k t))
  part k s t few (inl (end, f)) =
      ended_part (source_at source a k s) (source_at source b k s) (sink_at sink a k t) (sink (get_or after k t)) end
      (heard_ends (source_at source a k s) (source_at source b k s) (sink_at sink a k t) (answer_at answers k) (sink_at sink b k t)
      (sink (get_or after k t)) (answer_of end) (heard.each k few s t) (later.puts k t) f)
  part k s t few (inr same) =
      subst (λ (x : K). PutsPieces (source_at source a k s) (source_at source b k s) (sink_at sink a k t) (sink x)) (sym same)
      (heard_part (source_at source a k s) (source_at source b k s) (sink_at sink a k t) (answer_at answers k) (sink_at sink b k t) (heard.each k few s t))

  -- memory ran out between the last lines
  pub each_in_part : EachMayFinish sink b.sinks after answers → EachInPart source sink a last
  each_in_part may = λ k few s t. part k s t few (may k (answered k few) t)
