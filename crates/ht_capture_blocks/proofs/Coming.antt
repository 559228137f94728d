-- What is known of an item that came, whatever it is called.
use Rattle.std.specs.Prelude.{◌≡◌, ℕ, None, Ok, not, is_some, true}
use Rattle.std.proofs.Common.{subst}
use Rattle.ht_io.specs.Devices.{Device}
use Rattle.ht_capture.specs.declared.block_item.BlockItem.{BlockItem}
use Rattle.ht_capture.specs.Blocks.{CountsBlock, FallsBy, GivesBlockItem, GoesOnBy}
use Rattle.ht_capture.specs.Readers.{Progress, counts, finished, more, shown_by}
use Rattle.ht_capture_blocks.proofs.Mapping.{unfinished}

pub record HasCome (most : ℕ) (old new : Progress) (source after : Device ℕ) (item : BlockItem) : Type 0 where
  pub told : GivesBlockItem (shown_by old source) (shown_by new after) item
  pub counted : CountsBlock most (counts old) (counts new) item
  pub going : GoesOnBy new (Ok item)
  pub fewer : FallsBy (more old) (more new) (Ok item)

pub has_come : (most : ℕ) (old new : Progress) (source after : Device ℕ) (item other : BlockItem) → other ≡ item → not (is_some (finished old)) ≡ true
    → (finished old ≡ None → GivesBlockItem (shown_by old source) (shown_by new after) other) → CountsBlock most (counts old) (counts new) other
    → GoesOnBy new (Ok other) → FallsBy (more old) (more new) (Ok other) → HasCome most old new source after item
has_come most old new source after item other is asked told counted going fewer =
    subst (λ (i : BlockItem). HasCome most old new source after i) is
    (record { told = told (unfinished (finished old) asked); counted = counted; going = going; fewer = fewer })
