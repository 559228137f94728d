-- Lanes are finished, one after another.
use Rattle.std.proofs.Common.{◌≡◌, ℕ, ◌+◌, ◌<◌, List, length, get_or, Bool, true, false, refl, ◌∙◌, arith}
use Rattle.ht_metric.specs.Jobs.{JobView}
use Rattle.ht_feed.specs.Others.{OthersStay}
use Rattle.ht_feed.proofs.Others.{each_of}
use Rattle.ht_lanes.specs.Calls.{FinishesLane}
use Rattle.ht_lanes.specs.Lanes.{AreFinished, AreOver, HaveNone}

module _ {L : Type 0} (due : L → List (List JobView)) (rests over : L → Bool) (finished : L → Type 0) where
  -- a lane that still takes answers took some, and waits for the same ones; one that was over is
  pub record GoesOn (a b : L) : Type 0 where
    pub takes : rests b ≡ false → rests a ≡ false
    pub waits : due b ≡ due a
    pub stays : over a ≡ true → over b ≡ true

  pub goes_none : (a : L) → GoesOn a a
  goes_none a = record { takes = λ is. is; waits = refl; stays = λ is. is }

  goes_both : (a b c : L) → GoesOn a b → GoesOn b c → GoesOn a c
  goes_both a b c p q = record { takes = λ is. p.takes (q.takes is); waits = q.waits ∙ p.waits; stays = λ is. q.stays (p.stays is) }

  -- the lanes in front of this one were finished
  pub record FinishedTo (a b : List L) (count : ℕ) : Type 0 where
    pub each : (l : L) (k : ℕ) → GoesOn (get_or a k l) (get_or b k l)
    pub ends : (l : L) (k : ℕ) → k < count → rests (get_or b k l) ≡ false → finished (get_or b k l)

  pub none_yet : (a : List L) → FinishedTo a a 0
  none_yet a = record { each = λ l k. goes_none (get_or a k l); ends = λ l k few. absurd (omega (arith, few)) }

  finishes : (a b : L) → FinishesLane due rests over finished a b → GoesOn a b
  finishes a b ends = record { takes = ends.takes; waits = ends.waits; stays = ends.ended }

  module _ (a b c : List L) (at : ℕ) (one : OthersStay b c at) where
    pub one_more : FinishedTo a b at → ((l : L) → FinishesLane due rests over finished (get_or b at l) (get_or c at l)) → FinishedTo a c (at + 1)
    one_more so here = record {
      each = λ l.
          let now = finishes (get_or b at l) (get_or c at l) (here l) in
          each_of one (λ k x. GoesOn (get_or a k l) x) l (goes_both (get_or a at l) (get_or b at l) (get_or c at l) (so.each l at) now) (λ k far. so.each l k);
      ends = λ l.
          each_of one (λ k x. k < at + 1 → rests x ≡ false → finished x) l (λ few. (here l).finished)
          (λ k far few. so.ends l k (omega (arith, few, far)));
    }

  module _ (a b : List L) (count : ℕ) (as_many : length b ≡ length a) (so : FinishedTo a b count) where
    pub all_finished : count ≡ length a → AreFinished finished rests b
    all_finished all = λ l k few. so.ends l k (omega (arith, few, as_many, all))

    pub still_over : AreOver over 0 a → AreOver over 0 b
    still_over were = λ l k high few. (so.each l k).stays (were l k high (omega (arith, few, as_many)))

    pub still_none : HaveNone due rests a → HaveNone due rests b
    still_none had = λ l k few is. (so.each l k).waits ∙ had l k (omega (arith, few, as_many)) ((so.each l k).takes is)
