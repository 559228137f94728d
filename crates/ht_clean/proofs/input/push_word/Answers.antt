use Rattle.std.proofs.Common.{◌≡◌, ◌∙◌, ◌==◌, ◌+◌, ◌*◌, ℕ, List, Bool, ap, arith, get_or, length, refl}
use Rattle.std.proofs.lemmas.Nat.Bits.{shr_and_one}
use Rattle.ht_viterbi.specs.Packed.{word_steps}
use Rattle.ht_clean.specs.Sparse.{unpacked}
use Rattle.ht_clean.proofs.Words.{unpacked-length, unpacked-more}
use Rattle.ht_clean.proofs.input.push_word.Goals as goal

pub loop-step-init : goal.loop-step-init
loop-step-init c =
    let first : ℕ = c.args.at * word_steps c.args.pattern in
    let none : first ≡ first + 0 = omega arith in
    let long : length c.args.bits.now.items ≡ first =
    ap (λ (z : List Bool). length z) c.requires.so_far ∙ unpacked-length c.args.pattern c.args.words.now first in
    record {
      items = c.requires.so_far ∙ ap (unpacked c.args.pattern c.args.words.now) none;
      count = let same = c.args.bits.now.ok in omega (arith, long, same);
      capacity = refl;
    }

pub loop-step-preserved : goal.loop-step-preserved
loop-step-preserved c =
    let was = c.loop-step.invariant in
    let word = get_or c.args.words.now c.args.at 0 in
    record {
      items = unpacked-more c.args.pattern c.args.words.now c.args.at c.loop-step.step c.loop-step.bits.items _ _
          (omega (arith, c.loop-step-test.true, c.requires.count)) was.items c.push_reserved.ensures.items
          (ap (λ (n : ℕ). n == 1) (shr_and_one word c.loop-step.step));
      count = omega (arith, was.count, c.push_reserved.ensures.len);
      capacity = c.push_reserved.ensures.capacity ∙ was.capacity;
    }
