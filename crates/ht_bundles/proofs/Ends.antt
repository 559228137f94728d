-- From every state of a bundle good fields lead to its end.
use Rattle.std.proofs.Common.{ℕ, ◌+◌, ◌-◌, List, [], ◌∷◌, replicate, refl}
use Rattle.std.proofs.lemmas.List.{length-replicate}
use Rattle.ht_fields.specs.Cases.{CanEnd}
use Rattle.ht_heads.specs.Starts.{StartState, Body}
use Rattle.ht_counted.specs.Counted.{counted_format}
use Rattle.ht_counted.proofs.Ends.{HasAnEnd, can_end, field_first}
use Rattle.ht_counted.proofs.Lasting.{due_end}
use Rattle.ht_bundles.specs.Formats.{CaptureState, Size, Octets, bundled, bundles, captures_due, good_octets, good_size, octets_due, size_given}
use Rattle.ht_bundles.proofs.Routes.{is_count}

-- good fields lead from the state to the end of a bundle
abbrev HasEnd : StartState CaptureState → Type 0
HasEnd = HasAnEnd bundles

octets_end : (left size : ℕ) → HasEnd (captures_due (left - 1)) → HasEnd (Body (Octets left size))
unfolding good_octets
octets_end left size rest =
    let x : List ℕ = replicate (size - 1 + 1) 0 in
    field_first bundles (Body (Octets left size)) (captures_due (left - 1)) x (x ∷ []) (length-replicate (size - 1 + 1) 0, refl) rest

size_end : (left : ℕ) → HasEnd (captures_due (left - 1)) → HasEnd (Body (Size left))
unfolding good_size octets_due size_given
size_end left rest = field_first bundles (Body (Size left)) (captures_due (left - 1)) (0 ∷ 0 ∷ 0 ∷ 0 ∷ []) ([] ∷ []) (refl, refl) rest

body_end : (b : CaptureState) → HasEnd (Body b)
body_end (Size left) = size_end left (due_end bundled size_end (left - 1))
body_end (Octets left size) = octets_end left size (due_end bundled size_end (left - 1))

pub bundles_can_end : CanEnd bundles
bundles_can_end = can_end (counted_format bundled) is_count (due_end bundled size_end 1) body_end
