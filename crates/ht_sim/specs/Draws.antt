-- Values that are made of words, in order.
use Rattle.std.specs.Prelude.{ℕ, zero, suc, List, [], ◌∷◌, ◌++◌}

-- a value, and the state behind the words that it was made of
pub record Drawn (A : Type 0) : Type 0 where
  pub value : A
  pub state : ℕ

abbrev pub drawn : {A : Type 0} → A → ℕ → Drawn A
drawn x z = record { value = x; state = z }

-- a number of values, one after another
abbrev pub several : {A : Type 0} → (ℕ → Drawn A) → ℕ → ℕ → Drawn (List A)
several draw zero z = drawn [] z
several draw (suc n) z = drawn ((draw z).value ∷ (several draw n (draw z).state).value) (several draw n (draw z).state).state

-- a value for each member of a list, in its order
abbrev pub each : {A B : Type 0} → (A → ℕ → Drawn B) → List A → ℕ → Drawn (List B)
each draw [] z = drawn [] z
each draw (x ∷ xs) z = drawn ((draw x z).value ∷ (each draw xs (draw x z).state).value) (each draw xs (draw x z).state).state

-- a list that was drawn and then another one, as one list
abbrev pub joined : {A : Type 0} → List A → Drawn (List A) → Drawn (List A)
joined before more = drawn (before ++ more.value) more.state
