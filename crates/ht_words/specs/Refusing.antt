-- What is read of words, and when these are refused.
use Rattle.std.specs.Prelude.{◌≡◌, Option, None, Some, Result, Err, IfOk}
use Rattle.ht_words.specs.declared.plain.Refusal.{Refusal}
use Rattle.ht_words.specs.declared.plain.Refusal.TheVariants.{Words}

-- the answer to words that ask for this, or for nothing
pub record Reads {A : Type 0} (wanted : Option A) (result : Result A Refusal) : Type 0 where
  pub asked : IfOk result (λ asked. wanted ≡ Some asked)
  pub refused : result ≡ Err Words → wanted ≡ None
