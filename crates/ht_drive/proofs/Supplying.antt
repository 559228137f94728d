-- What a feed gave stands in the window, until the feed takes the answer to it.
use Rattle.std.proofs.Common.{◌≡◌, ℕ, ◌+◌, ◌≤◌, List, [], ◌∷◌, ◌++◌, length, Bool, true, false, not, ap, sym, subst, ◌∙◌, arith, rules}
use Rattle.std.specs.Prelude.{Option, Result, Ok, Err, OnOk}
use Rattle.std.specs.Result.{is_err}
use Rattle.ht_metric.specs.Jobs.{JobView}
use Rattle.ht_feed.specs.Dues.{count_in}
use Rattle.ht_feed.specs.Feeds.{EndsBlocks, FeedView, GivesBlock, IsLeft}
use Rattle.ht_drive.specs.Blocks.{BlockWindow, block_window}
use Rattle.ht_drive.specs.Driving.{Holds, IsUnderWay, OnlyTakes}
use Rattle.ht_feed.proofs.Turning.{count_in-more}

-- what is ensured where there is no error
pub on_ok : {T E : Type 0} (r : Result T E) (P : Type 0) → is_err r ≡ false → OnOk r P → P
on_ok (Ok x) P e p = p
on_ok (Err x) P e p = search rules

module _ {Fault : Type 0} where
  pub holds_more : (most : ℕ) (w after : BlockWindow) (old new : FeedView Fault) (jobs : List JobView) → Holds w old → GivesBlock most old new jobs
      → count_in w.due + length jobs ≤ w.capacity → after ≡ block_window w.capacity (w.due ++ jobs ∷ []) → Holds after new
  holds_more most w after old new jobs holds gives room is =
      subst (λ (x : BlockWindow). Holds x new) (sym is) (record {
        due = ap (λ (blocks : List (List JobView)). blocks ++ jobs ∷ []) holds.due ∙ sym gives.due;
        few =
            let e = ap count_in gives.due ∙ count_in-more old.due jobs in
            let d = ap count_in holds.due in
            omega (arith, e, d, room);
      })

  pub goes_on_more : (most : ℕ) (running : Bool) (old new : FeedView Fault) (jobs : List JobView) → running ≡ true → IsUnderWay running old
      → GivesBlock most old new jobs → IsUnderWay running new
  goes_on_more most running old new jobs on before gives =
      let still : IsUnderWay true new = record { ended = gives.running; left = λ off. search rules; well = gives.failed ∙ before.well } in
      subst (λ (r : Bool). IsUnderWay r new) (sym on) still

  -- a feed under way that goes on hasn't ended
  pub is_running : (running : Bool) (f : FeedView Fault) → running ≡ true → IsUnderWay running f → f.ended ≡ false
  is_running running f on way = way.ended ∙ ap not on

  -- where the same is due, it stands there still
  pub holds_still : (w : BlockWindow) (old new : FeedView Fault) → Holds w old → new.due ≡ old.due → Holds w new
  holds_still w old new holds due =
      let d = ap count_in due in
      let f = holds.few in
      record { due = holds.due ∙ sym due; few = omega (arith, d, f) }

  -- the feed ended
  pub goes_on_end : (running : Bool) (old new : FeedView Fault) → IsUnderWay running old → EndsBlocks old new → IsUnderWay false new
  goes_on_end running old new before ends = record { ended = ends.ended; left = λ off. ends.left; well = ends.failed ∙ before.well }

  -- answers were taken
  pub goes_on_taken : (running : Bool) (old new : FeedView Fault) → IsUnderWay running old → OnlyTakes old new → IsUnderWay running new
  goes_on_taken running old new before takes = record {
    ended = takes.ended ∙ before.ended;
    left = λ off. subst (λ (left : Option (List JobView)). IsLeft left []) (sym takes.left) (before.left off);
    well = takes.failed ∙ before.well;
  }
