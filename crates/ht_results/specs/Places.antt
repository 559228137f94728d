-- Places in a frame, without the frame, and values that are put on them.
use Rattle.std.specs.Prelude.{ℕ, List, [], ◌∷◌, ◌++◌, set}
use Rattle.std.specs.List.{flat_map, range_with_len}
use Rattle.ht_results.specs.declared.placing.Stretch.{Stretch}

-- the places of a stretch
abbrev pub stretch_places : Stretch → List ℕ
stretch_places stretch = range_with_len stretch.at stretch.count

-- those of stretches, one after another
abbrev pub places_in : List Stretch → List ℕ
places_in stretches = flat_map stretch_places stretches

-- and those of a last one
abbrev pub places_of : List Stretch → Stretch → List ℕ
places_of stretches last = places_in stretches ++ stretch_places last

-- one value after another is put on its place, where there is such a place
abbrev pub put_on : {V : Type 0} → List ℕ → List V → List V → List V
put_on [] vs kept = kept
put_on (p ∷ ps) [] kept = kept
put_on (p ∷ ps) (v ∷ vs) kept = put_on ps vs (set kept p v)
