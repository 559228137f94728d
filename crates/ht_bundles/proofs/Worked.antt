-- Worked values: the bundle of `HX` and of no octets, the least bundle, and first faults.
use Rattle.std.proofs.Common.{◌≡◌, ℕ, List, [], ◌∷◌, Some, None, refl}
use Rattle.ht_io.specs.declared.faults.Kind.TheVariants.{BadCount, BadVersion, Truncated, Trailing}
use Rattle.ht_fields.specs.Meanings.{Meaning, meaning, meaning_of}
use Rattle.ht_fields.specs.Tests.{checked}
use Rattle.ht_heads.specs.Starts.{good_count, good_magic, good_version, is_outside, started_octets}
use Rattle.ht_counted.specs.Counted.{entries_due}
use Rattle.ht_bundles.specs.Formats.{bundles, good_octets, good_size, octets_due, size_given}
use Rattle.ht_bundles.specs.Files.{bundle_of, sized_octets}

-- magic, version, and then these octets
abbrev behind_version : List ℕ → List ℕ
behind_version octets = 0x48 ∷ 0x54 ∷ 0x4d ∷ 0x42 ∷ 1 ∷ octets

-- two captures: `HX`, and one of no octets
abbrev two : List (List ℕ)
two = (0x48 ∷ 0x58 ∷ []) ∷ [] ∷ []

abbrev two_octets : List ℕ → List ℕ
two_octets more = behind_version (2 ∷ 0 ∷ 0 ∷ 0 ∷ 2 ∷ 0x48 ∷ 0x58 ∷ 0 ∷ 0 ∷ 0 ∷ 0 ∷ more)

two_file : bundle_of two ≡ two_octets []
unfolding bundle_of sized_octets started_octets
two_file = refl

least_file : bundle_of ([] ∷ []) ≡ behind_version (1 ∷ 0 ∷ 0 ∷ 0 ∷ 0 ∷ [])
unfolding bundle_of sized_octets started_octets
least_file = refl

means : List ℕ → Meaning (List ℕ)
means octets = meaning bundles bundles.start 0 octets

a_bundle : means (two_octets []) ≡ record { items = two; fault = None }
unfolding means meaning meaning_of checked is_outside good_magic good_version good_count entries_due octets_due size_given good_size good_octets
a_bundle = refl

one_more : means (two_octets (0 ∷ [])) ≡ record { items = two; fault = Some (record { kind = Trailing; offset = 16 }) }
unfolding means meaning meaning_of checked is_outside good_magic good_version good_count entries_due octets_due size_given good_size good_octets
one_more = refl

cut_short : means (behind_version (1 ∷ 0 ∷ 0 ∷ 0 ∷ 2 ∷ 0x48 ∷ [])) ≡ record { items = []; fault = Some (record { kind = Truncated; offset = 11 }) }
unfolding means meaning meaning_of checked is_outside good_magic good_version good_count entries_due octets_due size_given good_size
cut_short = refl

none : (means (behind_version (0 ∷ []))).fault ≡ Some (record { kind = BadCount; offset = 5 })
unfolding means meaning meaning_of checked is_outside good_magic good_version
none = refl

too_many : (means (behind_version (17 ∷ []))).fault ≡ Some (record { kind = BadCount; offset = 5 })
unfolding means meaning meaning_of checked is_outside good_magic good_version
too_many = refl

other_version : (means (0x48 ∷ 0x54 ∷ 0x4d ∷ 0x42 ∷ 2 ∷ 1 ∷ [])).fault ≡ Some (record { kind = BadVersion; offset = 4 })
unfolding means meaning meaning_of checked is_outside good_magic good_version
other_version = refl
