use Rattle.std.proofs.Common.{◌≡◌, ◌∙◌, ◌+◌, ap, arith, ◌==◌, ℕ}
use Rattle.std.proofs.lemmas.Nat.Bits.{shr_and_one}
use Rattle.ht_viterbi.proofs.Packing.{flags-more}
use Rattle.ht_viterbi.proofs.packed.push_flags.Goals as goal

pub loop-place-preserved : goal.loop-place-preserved
loop-place-preserved c =
    let was = c.loop-place.invariant in
    record {
      items = flags-more c.args.input.now.items c.loop-place.input.items c.push_reserved.new.self.items c.args.bits c.loop-place.place _ was.items
          c.push_reserved.ensures.items (ap (λ (n : ℕ). n == 1) (shr_and_one c.args.bits c.loop-place.place));
      count = omega (arith, was.count, c.push_reserved.ensures.len);
      capacity = c.push_reserved.ensures.capacity ∙ was.capacity;
    }
