use Rattle.std.proofs.Common.{◌≡◌, ◌∙◌, ◌+◌, ◌≤◌, Bool, Some, ap, sym, subst, arith}
use Rattle.std.proofs.lemmas.Bool.{and_parts}
use Rattle.ht_conv.specs.declared.puncture.Kept.{Kept}
use Rattle.ht_conv.specs.Puncturing.{kept_count}
use Rattle.ht_viterbi.specs.Explained.{Explains}
use Rattle.ht_viterbi.specs.Packed.{packed}
use Rattle.ht_viterbi.proofs.Looking.{same-bits}
use Rattle.ht_viterbi.proofs.Packing.{packed-at}
use Rattle.ht_viterbi.proofs.packed.explaining_bit.Goals as goal
use Rattle.ht_viterbi.proofs.packed.explaining_bit.Goals.{in-Both-kept, in-A, in-B-kept}

pub returns-then-explained : goal.returns-then-explained
returns-then-explained c =
    let words = c.args.words.now in
    let count = c.args.count in
    let start = c.args.start in
    elim c.match-kept-2.branch [
      | in-Both-kept w ↦ (
          let both = and_parts _ _ (sym w.explained-is ∙ c.if-explained.true) in
          let fits = subst (λ (k : Kept). start + kept_count k ≤ count) w.in-Both-kept.is c.requires.within in
          subst (λ (k : Kept). Explains k (packed words count) start c.args.state c.match-kept.bit) (sym w.in-Both-kept.is) (
            packed-at words count start (omega (arith, fits))
                ∙ ap (λ (b : Bool). Some b) (sym c.is_one-first.ensures ∙ (same-bits _ _ both.0 ∙ w.coded_a.ensures)),
            packed-at words count (start + 1) (omega (arith, fits))
                ∙ ap (λ (b : Bool). Some b) (sym w.is_one.ensures ∙ (same-bits _ _ both.1 ∙ w.coded_b.ensures)),
          ))
      | in-A w ↦ (
          let fits = subst (λ (k : Kept). start + kept_count k ≤ count) w.in-A.is c.requires.within in
          subst (λ (k : Kept). Explains k (packed words count) start c.args.state c.match-kept.bit) (sym w.in-A.is)
          (packed-at words count start (omega (arith, fits))
          ∙ ap (λ (b : Bool). Some b) (sym c.is_one-first.ensures ∙ (same-bits _ _ (sym w.explained-is ∙ c.if-explained.true) ∙ w.coded_a-in-A.ensures))))
      | in-B-kept w ↦ (
          let fits = subst (λ (k : Kept). start + kept_count k ≤ count) w.in-B-kept.is c.requires.within in
          subst (λ (k : Kept). Explains k (packed words count) start c.args.state c.match-kept.bit) (sym w.in-B-kept.is)
          (packed-at words count start (omega (arith, fits))
          ∙ ap (λ (b : Bool). Some b) (sym c.is_one-first.ensures ∙ (same-bits _ _ (sym w.explained-is ∙ c.if-explained.true) ∙ w.coded_b-in-B-kept.ensures))))
    ]
