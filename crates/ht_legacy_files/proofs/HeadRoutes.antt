-- How the octets of a head lead through the fields of a file, in any format with heads, and why they don't.
use Rattle.std.proofs.Common.{◌≡◌, ℕ, ◌^◌, ◌<◌, ◌≤◌, List, [], ◌∷◌, false, refl, ap, arith}
use Rattle.byteorder.specs.Endian.{big_bytes, big_number}
use Rattle.byteorder.specs.Numbers.{big_number-reads_back}
use Rattle.ht_io.specs.Devices.{Device}
use Rattle.ht_io.specs.declared.faults.InFault.{InFault}
use Rattle.ht_io.specs.declared.faults.Kind.TheVariants.{BadLength, BadMcs}
use Rattle.ht_fields.specs.Grammar.{Verdict, Good}
use Rattle.ht_fields.specs.Lacking.{FailsBehind, FailsField}
use Rattle.ht_fields.specs.Readers.{reader_in}
use Rattle.ht_fields.specs.Tests.{is_above}
use Rattle.ht_fields.specs.WholeFiles.{StopsWithCause}
use Rattle.ht_fields.proofs.Choices.{checked_good}
use Rattle.ht_fields.proofs.Halting.{behind_halts, fails_halts, judges_checked}
use Rattle.ht_fields.proofs.Routes.{Route, route_field, route_from, route_then}
use Rattle.ht_clause18.specs.declared.rates.LegacyRate.{LegacyRate}
use Rattle.ht_clause18.specs.declared.rates.LegacyRate.TheVariants.{Mbit6, Mbit9, Mbit12, Mbit18, Mbit24, Mbit36, Mbit48, Mbit54}
use Rattle.ht_clause18.specs.Rates.{index_of}
use Rattle.ht_heads.specs.Starts.{Body, is_outside}
use Rattle.ht_heads.proofs.Leading.{not_above}
use Rattle.ht_heads.proofs.Started.{inside}
use Rattle.ht_counted.proofs.Counting.{entry_is}
use Rattle.ht_legacy_files.specs.HeadedFormats.{HeadState, Index, Length, HeadedFormat, behind_head, frames_due, length_limits}
use Rattle.ht_legacy_files.specs.HeadedFormats.{good_index, good_length, grammar_of, rate_at}

-- the index of a rate
rate_back : (r : LegacyRate) → rate_at (index_of r) ≡ r
rate_back Mbit6 = refl
rate_back Mbit9 = refl
rate_back Mbit12 = refl
rate_back Mbit18 = refl
rate_back Mbit24 = refl
rate_back Mbit36 = refl
rate_back Mbit48 = refl
rate_back Mbit54 = refl

low_index : (r : LegacyRate) → index_of r ≤ 7
low_index Mbit6 = omega arith
low_index Mbit9 = omega arith
low_index Mbit12 = omega arith
low_index Mbit18 = omega arith
low_index Mbit24 = omega arith
low_index Mbit36 = omega arith
low_index Mbit48 = omega arith
low_index Mbit54 = omega arith

module _ {B I : Type 0} (h : HeadedFormat B I) where
  route_rate : (left : ℕ) (r : LegacyRate) → 0 < left → Route (grammar_of h) (frames_due left) (Body (Length left r)) (index_of r ∷ []) []
  unfolding good_index
  route_rate left r some =
      let f = grammar_of h in
      let state : LegacyRate → Verdict (HeadState B) I = λ q. Good (Body (Length left q)) [] in
      route_from f (frames_due left) (Body (Index left)) (Body (Length left r)) (index_of r ∷ []) [] (entry_is Index left some)
      (route_field f (Body (Index left)) (Body (Length left r)) (index_of r ∷ []) [] (
        refl,
        checked_good BadMcs (is_above 7) (good_index left) (index_of r ∷ []) _ (not_above (index_of r) 7 (low_index r)) (ap state (rate_back r)),
      ))

  length_is : (left : ℕ) (r : LegacyRate) (octets : List ℕ) (len : ℕ) → big_number 2 octets ≡ len
      → good_length h left r octets ≡ Good (behind_head (h.first left r len)) []
  unfolding good_length
  length_is left r octets len is = ap (λ (n : ℕ). let v : Verdict (HeadState B) I = Good (behind_head (h.first left r n)) [] in v) is

  -- the index of the rate and the number of octets
  pub route_head : (left : ℕ) (r : LegacyRate) (len : ℕ) → 0 < left → 1 ≤ len → len ≤ 4095
      → Route (grammar_of h) (frames_due left) (behind_head (h.first left r len)) (index_of r ∷ big_bytes 2 len) []
  route_head left r len left_some some few =
      let f = grammar_of h in
      let octets = big_bytes 2 len in
      let small : len < 256 ^ 2 = omega (arith, few) in
      let back : big_number 2 octets ≡ len = big_number-reads_back 2 len [] small in
      let pass : is_outside length_limits octets ≡ false = inside length_limits octets len back some few in
      route_then f (frames_due left) (Body (Length left r)) (behind_head (h.first left r len)) (index_of r ∷ []) octets [] [] (route_rate left r left_some)
      (route_field f (Body (Length left r)) (behind_head (h.first left r len)) octets []
      (refl, checked_good BadLength (is_outside length_limits) (good_length h left r) octets _ pass (length_is left r octets len back)))

  -- the rate of a frame was not read, or its length
  pub rate_halts : (left at : ℕ) (source after : Device ℕ) (fault : InFault) → 0 < left → FailsField 1 BadMcs (is_above 7) at source after fault
      → StopsWithCause (reader_in (grammar_of h) (frames_due left) at source) after fault
  rate_halts left at source after fault some fails =
      let f = grammar_of h in
      fails_halts f (frames_due left) at 1 BadMcs (is_above 7) source after fault
      (judges_checked f (frames_due left) 1 BadMcs (is_above 7) (good_index left) (ap f.due (entry_is Index left some)) (omega arith) (λ e. cc, λ e. cc))
      fails

  pub length_halts : (left at : ℕ) (r : LegacyRate) (source after : Device ℕ) (fault : InFault) → 0 < left
      → FailsBehind (index_of r ∷ []) 2 BadLength (is_outside length_limits) at source after fault
      → StopsWithCause (reader_in (grammar_of h) (frames_due left) at source) after fault
  length_halts left at r source after fault some fails =
      let f = grammar_of h in
      behind_halts f (frames_due left) (Body (Length left r)) (index_of r ∷ []) at 2 BadLength (is_outside length_limits) source after fault
      (route_rate left r some)
      (judges_checked f (Body (Length left r)) 2 BadLength (is_outside length_limits) (good_length h left r) refl (omega arith) (λ e. cc, λ e. cc)) fails
