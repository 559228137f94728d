use Rattle.std.proofs.Common.{◌≡◌, ℕ, ◌<◌, ◌∙◌, List, ◌∷◌, [], ◌++◌, length, get_or, inl, inr, ap, sym, arith}
use Rattle.std.proofs.lemmas.Bool.{cases_lt}
use Rattle.std.proofs.lemmas.List.{get_or_append_left, get_or_push, length-append}
use Rattle.ht_tx.specs.Sources.{source_of_slot}
use Rattle.ht_tx.proofs.sources.sources.Goals as goal

-- one more at the end of a list that holds the first values of a function
one-more : (f : ℕ → ℕ) (old new : List ℕ) (x : ℕ) → new ≡ old ++ x ∷ [] → x ≡ f (length old) → ((k : ℕ) → k < length old → get_or old k 0 ≡ f k)
    → (k : ℕ) → k < length new → get_or new k 0 ≡ f k
one-more f old new x e is was k lt = elim (cases_lt k (length old)) [
  | inl less ↦ ap (λ (l : List ℕ). get_or l k 0) e ∙ (get_or_append_left old (x ∷ []) 0 k less ∙ was k less)
  | inr more ↦
      let last : length old ≡ k = omega (arith, ap length e, length-append old (x ∷ [])) in
      ap (λ (l : List ℕ). get_or l k 0) e ∙ (get_or_push old x 0 k last ∙ (is ∙ ap f last))
]

pub loop-slot-preserved : goal.loop-slot-preserved
loop-slot-preserved c =
    let was = c.loop-slot.invariant in
    let here : length c.loop-slot.sources.items ≡ c.loop-slot.slot = sym c.loop-slot.sources.ok.0 ∙ was.count in
    record {
      count = omega (arith, c.push_reserved.ensures.len, was.count);
      capacity = c.push_reserved.ensures.capacity ∙ was.capacity;
      filled =
          one-more (source_of_slot c.args.rate.now c.args.reach) c.loop-slot.sources.items c.push_reserved.new.self.items c.source.result
          c.push_reserved.ensures.items (c.source.ensures ∙ ap (source_of_slot c.args.rate.now c.args.reach) (sym here)) was.filled;
    }
