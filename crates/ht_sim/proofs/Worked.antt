-- The first words of the seed 42, by computation.
use Rattle.std.specs.Prelude.{◌≡◌, ℕ, [], ◌∷◌, refl}
use Rattle.ht_sim.specs.Words.{first, next, word}
use Rattle.ht_sim.specs.Draws.{Drawn, drawn, several}

word_drawn : ℕ → Drawn ℕ
word_drawn z = drawn (word z) (next z)

words_42 : (several word_drawn 6 (first 42)).value ≡ 0xa15c02b7 ∷ 0x7b47f409 ∷ 0xba1d3330 ∷ 0x83d2f293 ∷ 0xbfa4784b ∷ 0xcbed606e ∷ []
unfolding word_drawn first next word
words_42 = refl
