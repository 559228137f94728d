use Rattle.std.proofs.Common.{◌≡◌, ◌∙◌, ◌+◌, ◌*◌, ℕ, arith, subst}
use Rattle.ht_scramble.specs.Sequence.{seed_of}
use Rattle.ht_inverse.specs.Words.{HasSequence, first_bits}
use Rattle.ht_inverse.proofs.Descrambled.{descrambled, octets-are, one-more, small-more}
use Rattle.ht_inverse.proofs.Marked.{longer}
use Rattle.ht_inverse.proofs.inputs.octets_by.Goals as goal

pub loop-at-preserved : goal.loop-at-preserved
loop-at-preserved c =
    let was = c.loop-at.invariant in
    let at = c.loop-at.at in
    let seed = seed_of (first_bits c.args.seven) in
    let next : 8 * at + 8 ≡ 8 * (at + 1) = omega arith in
    let far : 8 * at + 16 ≡ 8 * (at + 1) + 8 = omega arith in
    let mask = c.sequence_next-mask.ensures seed (8 * at) was.before was.last in
    record {
      before = subst (λ (t : ℕ). HasSequence seed t c.loop-at.last) next was.last;
      last = subst (λ (t : ℕ). HasSequence seed t c.sequence_next-mask.result) far mask;
      count = longer c.loop-at.found.items c.push_reserved.new.self.items _ at was.count c.push_reserved.ensures.items;
      len = omega (arith, was.len, c.push_reserved.ensures.len);
      bits = one-more c.args.pattern c.args.two c.args.first.now c.args.second.now seed c.loop-at.found.items c.push_reserved.new.self.items _ at was.count
          c.push_reserved.ensures.items
          (descrambled c.args.pattern c.args.two c.args.first.now c.args.second.now seed at c.octet_at-octet.result c.sequence_next-mask.result c.added.result
          c.added.ensures.bits c.octet_at-octet.ensures mask)
          was.bits;
      small = small-more c.loop-at.found.items c.push_reserved.new.self.items _ at was.count c.push_reserved.ensures.items
          c.added.ensures.bound was.small;
      capacity = omega (arith, was.capacity, c.push_reserved.ensures.capacity);
    }

pub returns : goal.returns
returns c =
    let done : c.loop-at.at ≡ c.args.octets = omega (arith, c.loop-at-test.false, c.loop-at.auto.at-end) in
    let was = c.loop-at.invariant in
    octets-are c.args.pattern c.args.two c.args.first.now c.args.second.now c.loop-at.found.items c.args.octets (seed_of (first_bits c.args.seven))
    (was.count ∙ done) (λ m k lt. was.bits m k (omega (arith, lt, done))) (λ m lt. was.small m (omega (arith, lt, done)))
