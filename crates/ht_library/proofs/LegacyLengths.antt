-- How many octets a frame of clause 18 is decoded to.
use Rattle.std.proofs.Common.{◌≡◌, ℕ, ◌+◌, ◌*◌, ◌≤◌, List, length, arith}
use Rattle.std.proofs.lemmas.List.{length-take-le}
use Rattle.ht_inverse.specs.declared.outcome.Outcome.TheVariants.{Octets}
use Rattle.ht_clause18.specs.declared.rates.LegacyRate.{LegacyRate}
use Rattle.ht_clause18.specs.Rates.{needed_bits, pattern_of}
use Rattle.ht_viterbi.proofs.Enumerating.{decoded_near}
use Rattle.ht_viterbi.proofs.Orders.{zeros-end}
use Rattle.ht_legacy_inverse.specs.Decoding.{input_of, legacy_decoded_frame, scrambled_bits}
use Rattle.ht_legacy_inverse.specs.Received.{received_of}
use Rattle.ht_library.proofs.Lengths.{length-outcome}

length-input : (r : LegacyRate) (n : ℕ) (labels : List ℕ) → length (input_of r n labels) ≡ needed_bits n
unfolding input_of
length-input r n labels =
    let steps : 6 ≤ needed_bits n = omega arith in
    let near = decoded_near (needed_bits n) (pattern_of r) (received_of r n labels) steps in
    (zeros-end (needed_bits n) (input_of r n labels) steps near.within).0

length-scrambled : (r : LegacyRate) (n : ℕ) (labels : List ℕ) → length (scrambled_bits r n labels) ≡ 16 + 8 * n
unfolding scrambled_bits
length-scrambled r n labels =
    length-take-le (16 + 8 * n) (input_of r n labels) (omega (arith, length-input r n labels))

pub length-legacy_decoded : (r : LegacyRate) (n : ℕ) (labels octets : List ℕ)
    → (legacy_decoded_frame r n labels).outcome ≡ Octets octets → length octets ≡ n
unfolding legacy_decoded_frame
length-legacy_decoded r n labels octets is =
    length-outcome n (scrambled_bits r n labels) octets (length-scrambled r n labels) is
