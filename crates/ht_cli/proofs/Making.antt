-- What a command comes to that reads nothing and puts one text.
use Rattle.std.specs.Prelude.{◌≡◌, ℕ, List, Result, Ok, Err, IfOk, OnErr}
use Rattle.std.proofs.Common.{refl, sym, subst, inl, inr}
use Rattle.ht_io.specs.Devices.{Device}
use Rattle.ht_cli.specs.declared.status.Status.{Status}
use Rattle.ht_cli.specs.declared.status.Status.TheVariants.{Done, NoMemory}
use Rattle.ht_cli.specs.Commands.{Answers, Makes}
use Rattle.ht_cli.specs.Putting.{PutsLine}

pub done_is_not : Done ≡ NoMemory → ⊥
done_is_not is = cc

module _ (IsText : List ℕ → Type 0) (a b c d : Device ℕ) where
  put_text : (text : List ℕ) (status : Status) → IsText text → PutsLine text Done c d status → Answers (Makes IsText) a b c d status
  put_text text status made (inl (is, put)) = subst (λ s. Answers (Makes IsText) a b c d s) (sym is) (record { text = text; made = made; put = put })
  put_text text status made (inr (inl (is, put, rose))) =
      subst (λ s. Answers (Makes IsText) a b c d s) (sym is) (record { text = text; made = made; put = put }, rose)
  put_text text status made (inr (inr (is, nothing))) = subst (λ s. Answers (Makes IsText) a b c d s) (sym is) nothing

  pub makes : {V E : Type 0} (items : V → List ℕ) (line : Result V E) (status : Status) → IfOk line (λ v. IsText (items v))
      → ((text : List ℕ) → IfOk line (λ v. items v ≡ text) → PutsLine text Done c d status)
      → OnErr line (status ≡ NoMemory) → (status ≡ NoMemory → d ≡ c) → Answers (Makes IsText) a b c d status
  makes items (Ok v) status made puts lacks nothing = put_text (items v) status made (puts (items v) refl)
  makes items (Err e) status made puts lacks nothing = subst (λ s. Answers (Makes IsText) a b c d s) (sym lacks) (nothing lacks)
