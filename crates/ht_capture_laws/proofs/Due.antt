-- What is due from a subcarrier on, by cases.
use Rattle.std.proofs.Common.{◌≡◌, inl, inr, ℕ, ◌<◌, ◌≤◌, List, length, nat_eq, nat_lt, sym, subst, arith}
use Rattle.std.proofs.lemmas.Bool.{cases_Bool}
use Rattle.std.proofs.lemmas.Bool.Decides.{nat_tests}
use Rattle.ht_rate.specs.Rates.{carriers_of}
use Rattle.ht_capture.specs.declared.items.FrameHead.{FrameHead}
use Rattle.ht_capture.specs.declared.places.Present.{Present}
use Rattle.ht_capture.specs.declared.places.Turn.{Turn}
use Rattle.ht_capture.specs.Fields.{CaptureState, Flag, Triangle, Symbol, carriers_due, first_symbol}
use Rattle.ht_capture.proofs.Turns.{flag_is, symbol_is, triangle_is}

-- what holds behind the last subcarrier, at a flag in version 2 and at a triangle in version 1, holds of what is due
pub by_carrier : (P : CaptureState → Type 0) (turn : Turn) (head : FrameHead) (carrier : ℕ) (present : List Present)
    → (carriers_of head.rate ≤ carrier → P (Symbol (first_symbol turn head (length present)) present))
    → (turn.version ≡ 2 → P (Flag turn head carrier present)) → ((turn.version ≡ 2 → ⊥) → P (Triangle turn head carrier present))
    → P (carriers_due turn head carrier present)
by_carrier P turn head carrier present over flag triangle =
    elim (cases_Bool (nat_lt carrier (carriers_of head.rate))) [
      | inl e ↦
          let lt : carrier < carriers_of head.rate = grind (arith, nat_tests) in
          elim (cases_Bool (nat_eq turn.version 2)) [
            | inl v ↦
                let two : turn.version ≡ 2 = grind (arith, nat_tests) in subst P (sym (flag_is turn head carrier present lt two)) (flag two)
            | inr v ↦
                let one : turn.version ≡ 2 → ⊥ = λ z. grind (arith, nat_tests) in subst P (sym (triangle_is turn head carrier present lt one)) (triangle one)
          ]
      | inr e ↦
          let le : carriers_of head.rate ≤ carrier = grind (arith, nat_tests) in subst P (sym (symbol_is turn head carrier present le)) (over le)
    ]
