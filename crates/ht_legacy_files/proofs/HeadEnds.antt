-- From every state of a file good fields lead to its end, in any format with heads in which they do behind the heads.
use Rattle.std.proofs.Common.{ℕ, ◌-◌, [], ◌∷◌, refl, arith}
use Rattle.ht_io.specs.declared.faults.Kind.TheVariants.{BadLength, BadMcs}
use Rattle.ht_fields.specs.Cases.{CanEnd}
use Rattle.ht_fields.specs.Tests.{is_above}
use Rattle.ht_fields.proofs.Choices.{checked_good}
use Rattle.ht_heads.specs.Starts.{Body, is_outside}
use Rattle.ht_heads.proofs.Leading.{not_above}
use Rattle.ht_counted.specs.Counted.{counted_format}
use Rattle.ht_counted.proofs.Counting.{is_count}
use Rattle.ht_counted.proofs.Ends.{HasAnEnd, can_end, field_first}
use Rattle.ht_counted.proofs.Lasting.{due_end}
use Rattle.ht_clause18.specs.declared.rates.LegacyRate.{LegacyRate}
use Rattle.ht_legacy_files.specs.HeadedFormats.{HeadBody, HeadState, Index, Length, Behind, HeadedFormat, behind_head, frames_due}
use Rattle.ht_legacy_files.specs.HeadedFormats.{good_index, good_length, grammar_of, headed, length_limits, rate_at}

module _ {B I : Type 0} (h : HeadedFormat B I) where
  -- good fields lead from the state to the end of a file
  abbrev pub HasEnd : HeadState B → Type 0
  HasEnd = HasAnEnd (grammar_of h)

  -- behind a head they do, where they do from the next frame on
  abbrev pub FirstEnds : Type 0
  FirstEnds = (left : ℕ) (r : LegacyRate) (len : ℕ) → HasEnd (frames_due (left - 1)) → HasEnd (behind_head (h.first left r len))

  length_end : FirstEnds → (left : ℕ) (r : LegacyRate) → HasEnd (frames_due (left - 1)) → HasEnd (Body (Length left r))
  unfolding good_length is_outside
  length_end first left r rest =
      field_first (grammar_of h) (Body (Length left r)) (behind_head (h.first left r 1)) (0 ∷ 1 ∷ []) []
      (refl, checked_good BadLength (is_outside length_limits) (good_length h left r) (0 ∷ 1 ∷ []) _ refl refl) (first left r 1 rest)

  index_end : FirstEnds → (left : ℕ) → HasEnd (frames_due (left - 1)) → HasEnd (Body (Index left))
  unfolding good_index
  index_end first left rest =
      field_first (grammar_of h) (Body (Index left)) (Body (Length left (rate_at 0))) (0 ∷ []) []
      (refl, checked_good BadMcs (is_above 7) (good_index left) (0 ∷ []) _ (not_above 0 7 (omega arith)) refl) (length_end first left (rate_at 0) rest)

  frames_end : FirstEnds → (left : ℕ) → HasEnd (frames_due left)
  frames_end first = due_end (headed h) (index_end first)

  -- behind a head they do, if they do from each number of frames on
  abbrev pub BehindEnds : Type 0
  BehindEnds = ((left : ℕ) → HasEnd (frames_due left)) → (b : B) → HasEnd (behind_head b)

  body_end : FirstEnds → BehindEnds → (b : HeadBody B) → HasEnd (Body b)
  body_end first behind (Index left) = index_end first left (frames_end first (left - 1))
  body_end first behind (Length left r) = length_end first left r (frames_end first (left - 1))
  body_end first behind (Behind b) = behind (frames_end first) b

  pub headed_can_end : FirstEnds → BehindEnds → CanEnd (grammar_of h)
  headed_can_end first behind = can_end (counted_format (headed h)) is_count (frames_end first 0) (body_end first behind)
