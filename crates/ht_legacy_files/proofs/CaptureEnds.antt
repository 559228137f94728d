-- From every state of a capture good fields lead to its end.
use Rattle.std.proofs.Common.{ℕ, zero, suc, ◌≡◌, ◌-◌, List, [], ◌∷◌, replicate, refl, ap, arith}
use Rattle.std.proofs.lemmas.List.{length-replicate}
use Rattle.ht_fields.specs.Cases.{CanEnd}
use Rattle.ht_counted.proofs.Ends.{field_first, same_as}
use Rattle.ht_clause18.specs.Rates.{symbols_of}
use Rattle.ht_legacy_files.specs.HeadedFormats.{behind_head}
use Rattle.ht_legacy_files.proofs.HeadEnds.{BehindEnds, FirstEnds, HasEnd, headed_can_end}
use Rattle.ht_legacy_files.specs.CaptureFormats.{Diagonals, Samples, captured, captures, captures_due}
use Rattle.ht_legacy_files.specs.CaptureFormats.{good_diagonals, good_samples, numbers_from, samples_from, symbols_due}
use Rattle.ht_legacy_files.specs.CaptureItems.{Begins, Symbol}
use Rattle.ht_legacy_files.proofs.CaptureRoutes.{behind_is, symbol_is}

-- the symbols of a frame that are left
symbols_end : (n left : ℕ) → HasEnd captured (captures_due (left - 1)) → HasEnd captured (symbols_due left n)
unfolding good_samples
symbols_end zero left rest = same_as captures (symbols_due left 0) (captures_due (left - 1)) (behind_is left 0 refl) rest
symbols_end (suc n) left rest =
    let x : List ℕ = replicate 416 0 in
    let less : suc n - 1 ≡ n = omega arith in
    same_as captures (symbols_due left (suc n)) (behind_head (Samples left (suc n))) (symbol_is left (suc n) (omega arith))
    (field_first captures (behind_head (Samples left (suc n))) (symbols_due left (suc n - 1)) x (Symbol (samples_from 52 x) ∷ [])
    (length-replicate {A = ℕ} 416 0, refl)
    (same_as captures (symbols_due left (suc n - 1)) (symbols_due left n) (ap (symbols_due left) less) (symbols_end n left rest)))

samples_end : (left n : ℕ) → HasEnd captured (captures_due (left - 1)) → HasEnd captured (behind_head (Samples left n))
unfolding good_samples
samples_end left n rest =
    let x : List ℕ = replicate 416 0 in
    field_first captures (behind_head (Samples left n)) (symbols_due left (n - 1)) x (Symbol (samples_from 52 x) ∷ []) (length-replicate {A = ℕ} 416 0, refl)
    (symbols_end (n - 1) left rest)

diagonals_end : FirstEnds captured
unfolding good_diagonals
diagonals_end left r len rest =
    let x : List ℕ = replicate 104 0 in
    field_first captures (behind_head (Diagonals left r len)) (symbols_due left (symbols_of r len)) x
    (Begins (record { rate = r; length = len; diagonals = numbers_from 52 x }) ∷ []) (length-replicate {A = ℕ} 104 0, refl)
    (symbols_end (symbols_of r len) left rest)

behind_end : BehindEnds captured
behind_end next (Diagonals left r len) = diagonals_end left r len (next (left - 1))
behind_end next (Samples left n) = samples_end left n (next (left - 1))

pub captures_can_end : CanEnd captures
captures_can_end = headed_can_end captured diagonals_end behind_end
