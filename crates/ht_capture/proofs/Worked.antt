-- Octets of frames, by computation.
use Rattle.std.specs.Prelude.{◌≡◌, pos, negsuc, List, [], ◌∷◌, refl}
use Rattle.ht_metric.specs.Rows.{Leg}
use Rattle.ht_heads.specs.Heads.{start_octets}
use Rattle.ht_capture.specs.Files.{capture_file_of, flagged_octets, legs_octets, present_among, sample_octets, tap_octets}

-- the entry -1 + 2j
entry : tap_octets (record { re = negsuc 0; im = pos 2 }) ≡ 255 ∷ 255 ∷ 0 ∷ 2 ∷ []
entry = refl

-- the sample 65536 - 2j
sample : sample_octets (record { re = pos 65536; im = negsuc 1 }) ≡ 0 ∷ 1 ∷ 0 ∷ 0 ∷ 255 ∷ 255 ∷ 255 ∷ 254 ∷ []
sample = refl

-- the diagonals 3 and 258, and the entry 1 - j above them
two_rows : List Leg
two_rows = record { diagonal = 3; right = record { re = pos 1; im = negsuc 0 } ∷ [] } ∷ record { diagonal = 258; right = [] } ∷ []

triangle : legs_octets two_rows ≡ 0 ∷ 3 ∷ 0 ∷ 1 ∷ 255 ∷ 255 ∷ 1 ∷ 2 ∷ []
unfolding two_rows
triangle = refl

-- of three subcarriers the second one is erased
one_erased : present_among 3 0 2 ≡ 2
one_erased = refl

flags : flagged_octets 3 0 2 ((record { diagonal = 7; right = [] } ∷ []) ∷ (record { diagonal = 9; right = [] } ∷ []) ∷ []) ≡ 0 ∷ 0 ∷ 7 ∷ 1 ∷ 0 ∷ 0 ∷ 9 ∷ []
flags = refl

-- files of no frame
empty_1 : capture_file_of 1 [] ≡ 72 ∷ 84 ∷ 67 ∷ 80 ∷ 1 ∷ 0 ∷ 0 ∷ []
unfolding capture_file_of start_octets
empty_1 = refl

empty_2 : capture_file_of 2 [] ≡ 72 ∷ 84 ∷ 67 ∷ 80 ∷ 2 ∷ 0 ∷ 0 ∷ []
unfolding capture_file_of start_octets
empty_2 = refl
