-- The frame of the octet a5 at 6 Mbit/s with seed 127, through the channel of seed 42 without noise, by computation.
use Rattle.std.proofs.Common.{◌≡◌, pos, negsuc, List, [], ◌∷◌, ◌++◌, codes, refl}
use Rattle.std.specs.Fmt.{digits}
use Rattle.ht_text.specs.Lines.{end_text, frame_text, outcome_text, sums_text}
use Rattle.ht_clause18.specs.declared.rates.LegacyRate.TheVariants.{Mbit6, Mbit54}
use Rattle.ht_clause18.specs.Frames.{LegacyFrameView}
use Rattle.ht_sim.specs.Draws.{several}
use Rattle.ht_sim.specs.Words.{first, next, word}
use Rattle.ht_legacy_sim.specs.Drawing.{diagonal_drawn, exact_from}
use Rattle.ht_results.specs.Texts.{result_line}
use Rattle.ht_legacy_return.specs.Returned.{returned_text}

-- the text of it, and of a second frame behind it
frames : List LegacyFrameView
frames = record { rate = Mbit6; seed = 127; octets = 165 ∷ [] } ∷ record { rate = Mbit54; seed = 1; octets = 7 ∷ 0 ∷ [] } ∷ []

text : returned_text frames
    ≡ codes "frame 0 data 0 pilot 0 code 0 octets a5" ++ 10 ∷ (codes "frame 1 data 0 pilot 0 code 0 octets 0700" ++ 10 ∷ (codes "end 2 frames" ++ 10 ∷ []))
unfolding frames result_line frame_text sums_text outcome_text end_text digits
text = refl

-- the first diagonals
diagonals : (several diagonal_drawn 4 (first 42)).value ≡ 247 ∷ 73 ∷ 240 ∷ 83 ∷ []
unfolding first next word
diagonals = refl

-- what these make of the first points, -1, 1 and 1
samples : exact_from (247 ∷ 73 ∷ 240 ∷ 83 ∷ []) 0 (record { i = negsuc 0; q = pos 0 } ∷ record { i = pos 1; q = pos 0 } ∷ record { i = pos 1; q = pos 0 } ∷ [])
    ≡ record { re = negsuc 246; im = pos 0 } ∷ record { re = pos 73; im = pos 0 } ∷ record { re = pos 240; im = pos 0 } ∷ []
samples = refl

-- the second symbol takes the diagonals anew
next_symbol : exact_from (247 ∷ 73 ∷ 240 ∷ 83 ∷ []) 52 (record { i = pos 3; q = negsuc 4 } ∷ []) ≡ record { re = pos 741; im = negsuc 1234 } ∷ []
next_symbol = refl
