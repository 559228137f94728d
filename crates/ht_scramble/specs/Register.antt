-- The shift register before bit t.
use Rattle.std.specs.Prelude.{ℕ, suc, [], ◌∷◌}
use Rattle.ht_bits.specs.Bits.{number_of}
use Rattle.ht_scramble.specs.Sequence.{delayed}

-- bit i is s(t - 1 - i)
unfoldable pub register_at : ℕ → ℕ → ℕ
register_at seed t = number_of (
    delayed seed (suc (suc (suc (suc (suc (suc t))))))
    ∷ delayed seed (suc (suc (suc (suc (suc t)))))
    ∷ delayed seed (suc (suc (suc (suc t))))
    ∷ delayed seed (suc (suc (suc t)))
    ∷ delayed seed (suc (suc t))
    ∷ delayed seed (suc t)
    ∷ delayed seed t
    ∷ []
    )
