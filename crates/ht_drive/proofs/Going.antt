-- A caller goes on, step by step.
use Rattle.std.proofs.Common.{◌≡◌, ◌≤◌, ℕ, List, Bool, Option, Some, ap, sym, subst, ◌∙◌}
use Rattle.ht_metric.specs.Jobs.{JobView}
use Rattle.ht_feed.specs.OwnNumbers.{AreByNumber}
use Rattle.ht_feed.specs.Drives.{LeavesInTurn}
use Rattle.ht_feed.specs.Dues.{all_in, count_in}
use Rattle.ht_feed.specs.Feeds.{FeedView, IsAlong, IsFreshFeed, IsInTurn}
use Rattle.ht_feed.proofs.Turning.{along_fresh}
use Rattle.ht_drive.specs.Blocks.{IsSameCaller}
use Rattle.ht_drive.specs.Blocks.{BlockCaller, BlockWindow}
use Rattle.ht_drive.specs.Driving.{HasYetToLead, Holds, IsLeading, KeepsTurn, OnlyTakes, StepsOn}
use Rattle.ht_drive.specs.declared.counts.CallerCounts.{CallerCounts}
use Rattle.ht_drive.proofs.Giving.{same_on, counted_still}
use Rattle.ht_drive.proofs.Supplying.{goes_on_taken}

module _ {F Fault : Type 0} (shown : F → FeedView Fault) (Leads : F → F → Type 0) where
  -- a step behind which what is due stands in the window
  pub steps_held : (w w' : BlockWindow) (f f' : F) → Leads f f' → w'.capacity ≡ w.capacity → Holds w' (shown f')
      → ((known : Option (List JobView)) → IsAlong known (shown f) → IsInTurn known (shown f')) → StepsOn shown Leads w w' f f'
  steps_held w w' f f' leads capacity holds in_turn = record {
    leads = leads;
    capacity = capacity;
    due = subst (λ (n : ℕ). count_in (shown f').due ≤ n) capacity holds.few;
    in_turn = in_turn;
  }

  module _ (on : (a b c : F) → Leads a b → Leads b c → Leads a c) where
    -- it goes on, and then on again
    pub goes_further : {r r' : Bool} {w w' w'' : BlockWindow} {h h' h'' : BlockCaller} {t t' : CallerCounts} {f f' f'' : F}
        → IsLeading shown Leads r w w' h h' t f f' → IsLeading shown Leads r' w' w'' h' h'' t' f' f'' → IsLeading shown Leads r' w w'' h h'' t' f f''
    goes_further {h = h} {h' = h'} {h'' = h''} {f = f} {f' = f'} {f'' = f''} first later = record {
      stands = later.stands;
      leads = on f f' f'' first.leads later.leads;
      capacity = later.capacity ∙ first.capacity;
      same = same_on h h' h'' first.same later.same;
      whole = later.whole ∙ first.whole;
      turn = λ known along. later.turn known (first.turn known along);
      by_number = λ all along told. later.by_number all (first.turn (Some all) along) (first.by_number all along told);
    }

    -- the feed took answers, and then one came or a block was run
    pub goes_taken : {r : Bool} {w w' w'' last : BlockWindow} {h h' h'' : BlockCaller} {t : CallerCounts} {f f' f'' : F}
        → IsLeading shown Leads r w w' h h' t f f'
        → StepsOn shown Leads w' w'' f' f'' → Holds w'' (shown f'') → KeepsTurn (shown f') (shown f'') → OnlyTakes (shown f') (shown f'')
        → last ≡ w'' → h''.given ≡ h'.given → IsSameCaller h' h'' → h''.whole ≡ h'.whole → IsLeading shown Leads r w last h h'' t f f''
    goes_taken {r = r} {h = h} {h' = h'} {h'' = h''} {t = t} {f = f} {f' = f'} {f'' = f''} first steps holds turn takes window given same whole = record {
      stands = record {
        holds = subst (λ (x : BlockWindow). Holds x (shown f'')) (sym window) holds;
        counted = counted_still t h' h'' first.stands.counted given same.capacity_is;
        issued = first.stands.issued ∙ sym takes.count;
        under_way = goes_on_taken r (shown f') (shown f'') first.stands.under_way takes;
      };
      leads = on f f' f'' first.leads steps.leads;
      capacity = ap (λ (x : BlockWindow). x.capacity) window ∙ (steps.capacity ∙ first.capacity);
      same = same_on h h' h'' first.same same;
      whole = whole ∙ first.whole;
      turn = λ known along. turn known (first.turn known along);
      by_number = λ all along told. subst (λ (blocks : List (List JobView)). AreByNumber all (all_in blocks)) (sym given) (first.by_number all along told);
    }

    -- how a step leaves the feed, that was fresh, of a caller that has come so far
    pub leaves_by : {r : Bool} {w w' w'' : BlockWindow} {h h' : BlockCaller} {t : CallerCounts} {f f' f'' : F} → IsFreshFeed (shown f)
        → IsLeading shown Leads r w w' h h' t f f' → StepsOn shown Leads w' w'' f' f'' → LeavesInTurn shown Leads w.capacity f f''
    leaves_by {f = f} {f' = f'} {f'' = f''} fresh first steps = record {
      leads = on f f' f'' first.leads steps.leads;
      due = subst (λ (n : ℕ). count_in (shown f'').due ≤ n) first.capacity steps.due;
      in_turn = steps.in_turn (shown f).left (first.turn (shown f).left (along_fresh (shown f) fresh));
    }

  -- each job given to the pool since nothing was is that of its number
  pub numbers_first : {r : Bool} {w w' : BlockWindow} {h h' : BlockCaller} {t : CallerCounts} {f f' : F} → HasYetToLead w h (shown f)
      → IsLeading shown Leads r w w' h h' t f f' → (all : List JobView) → (shown f).left ≡ Some all → AreByNumber all (all_in h'.given)
  numbers_first {f = f} yet first all is =
      first.by_number all (subst (λ (known : Option (List JobView)). IsAlong known (shown f)) is (along_fresh (shown f) yet.fresh))
      (subst (λ (blocks : List (List JobView)). AreByNumber all (all_in blocks)) (sym yet.untouched) tt)
