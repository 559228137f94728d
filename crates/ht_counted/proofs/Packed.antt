-- Items that are put by way of a chunk.
use Rattle.std.proofs.Common.{◌≡◌, ℕ, ◌+◌, ◌<◌, List, [], ◌∷◌, ◌++◌, length, take, drop, flat_map, get_or}
use Rattle.std.proofs.Common.{sym, ap, subst, ◌∙◌, append_assoc}
use Rattle.std.proofs.lemmas.List.{append-nil, take_more}
use Rattle.std.proofs.lemmas.Grind.{flat_map-append}
use Rattle.ht_io.specs.Devices.{Device, GrowsByPart}
use Rattle.ht_io.proofs.Pieces.{grown-append, grown_by_part-append, grown_by_part-front}
use Rattle.ht_fields.proofs.Putting.{map_split}
use Rattle.ht_counted.specs.Packing.{Moves}

module _ {X : Type 0} (octets : X → List ℕ) (xs : List X) (k : ℕ) where
  one_more : (x : X) → k < length xs → x ≡ get_or xs k x → flat_map octets (take k xs) ++ octets x ≡ flat_map octets (take (k + 1) xs)
  one_more x lt is =
      let one : octets x ≡ flat_map octets (get_or xs k x ∷ []) = ap octets is ∙ sym (append-nil (octets (get_or xs k x))) in
      ap (λ (z : List ℕ). flat_map octets (take k xs) ++ z) one
      ∙ (sym (flat_map-append octets (take k xs) (get_or xs k x ∷ [])) ∙ ap (flat_map octets) (sym (take_more xs k x lt)))

  -- one item more
  pub moves_more : (x : X) (a b c : Device ℕ) (waited mid waits : List ℕ) → k < length xs → x ≡ get_or xs k x
      → Moves a b waited mid (flat_map octets (take k xs)) → Moves b c mid waits (octets x) → Moves a c waited waits (flat_map octets (take (k + 1) xs))
  moves_more x a b c waited mid waits lt is (front, before, grown) (piece, behind, more) = (
    front ++ piece,
    append_assoc front piece waits
        ∙ (ap (λ (z : List ℕ). front ++ z) behind
        ∙ (sym (append_assoc front mid (octets x))
        ∙ (ap (λ (z : List ℕ). z ++ octets x) before
        ∙ (append_assoc waited (flat_map octets (take k xs)) (octets x) ∙ ap (λ (z : List ℕ). waited ++ z) (one_more x lt is))))),
    grown-append a.known b.known c.known front piece grown more,
  )

  -- a part of what waits then
  pub part_moved : (a b c : Device ℕ) (waited mid : List ℕ) → Moves a b waited mid (flat_map octets (take k xs)) → GrowsByPart b c mid
      → GrowsByPart a c (waited ++ flat_map octets xs)
  part_moved a b c waited mid (front, before, grown) part =
      let rest : List ℕ = flat_map octets (drop k xs) in
      let all : front ++ (mid ++ rest) ≡ waited ++ flat_map octets xs =
      sym (append_assoc front mid rest)
      ∙ (ap (λ (z : List ℕ). z ++ rest) before
      ∙ (append_assoc waited (flat_map octets (take k xs)) rest ∙ ap (λ (z : List ℕ). waited ++ z) (map_split octets xs k))) in
      subst (λ (z : List ℕ). GrowsByPart a c z) all
      (grown_by_part-append a.known b.known c.known front (mid ++ rest) grown (grown_by_part-front b.known c.known mid rest part))
