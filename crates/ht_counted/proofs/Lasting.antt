-- From every number of entries that are due good fields lead to the end of the file, if they do from one entry to the next.
use Rattle.std.proofs.Common.{◌≡◌, inl, inr, ℕ, zero, suc, ◌-◌, ◌<◌, nat_eq, refl, sym, subst, arith}
use Rattle.std.proofs.lemmas.Bool.{cases_Bool}
use Rattle.std.proofs.lemmas.Bool.Decides.{nat_tests}
use Rattle.ht_heads.specs.Starts.{Body, Over}
use Rattle.ht_counted.specs.Counted.{CountedFormat, counted, counted_format, entries_due}
use Rattle.ht_counted.proofs.Counting.{entry_is, over_is}
use Rattle.ht_counted.proofs.Ends.{FirstSound, HasAnEnd, Sound, over_end, same_as}

module _ {B I : Type 0} (h : CountedFormat B I) where
  -- an entry can end where those behind it can
  abbrev pub EntryEnds : Type 0
  EntryEnds = (left : ℕ) → HasAnEnd (counted h) (entries_due h.first (left - 1)) → HasAnEnd (counted h) (Body (h.first left))

  entries_end : EntryEnds → (n left : ℕ) → left ≡ n → HasAnEnd (counted h) (entries_due h.first left)
  entries_end one zero left is = same_as (counted h) (entries_due h.first left) Over (over_is h.first left is) (over_end (counted_format h))
  entries_end one (suc n) left is =
      same_as (counted h) (entries_due h.first left) (Body (h.first left)) (entry_is h.first left (omega (arith, is)))
      (one left (entries_end one n (left - 1) (omega (arith, is))))

  -- the entries that are due
  pub due_end : EntryEnds → (left : ℕ) → HasAnEnd (counted h) (entries_due h.first left)
  due_end one left = entries_end one left left refl

  pub due_sound : (Sound_body : B → Type 0) → ((left : ℕ) → Sound_body (h.first left)) → FirstSound (counted_format h) Sound_body
  due_sound Sound_body first left =
      elim (cases_Bool (nat_eq left 0)) [
        | inl e ↦
            let none : left ≡ 0 = grind (arith, nat_tests) in subst (Sound (counted_format h) Sound_body) (sym (over_is h.first left none)) tt
        | inr e ↦
            let some : 0 < left = grind (arith, nat_tests) in
            subst (Sound (counted_format h) Sound_body) (sym (entry_is h.first left some)) (first left)
      ]
