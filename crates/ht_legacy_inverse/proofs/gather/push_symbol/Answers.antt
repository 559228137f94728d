use Rattle.std.proofs.Common.{◌≡◌, ℕ, ◌+◌, ◌*◌, ◌∙◌, ap, arith, map, refl}
use Rattle.std.specs.List.{range_with_len}
use Rattle.ht_clause18.specs.Rates.{coded_bits_of}
use Rattle.ht_legacy_inverse.specs.Received.{received_at}
use Rattle.ht_legacy_inverse.proofs.Gathered.{bits-more}
use Rattle.ht_legacy_inverse.proofs.gather.push_symbol.Goals as goal

pub loop-k-init : goal.loop-k-init
loop-k-init c =
    let start = c.args.symbol * coded_bits_of c.args.rate in
    let same : start ≡ start + 0 = omega arith in
    record {
      items = c.requires.before ∙ ap (λ (n : ℕ). map (received_at c.args.rate c.args.labels.now) (range_with_len 0 n)) same;
      len = omega arith;
      capacity = refl;
    }

pub push_reserved-requires : goal.push_reserved-requires
push_reserved-requires c =
    omega (arith, c.requires.room, c.loop-k.invariant.len, c.loop-k.invariant.capacity, c.loop-k-test.true)

pub loop-k-preserved : goal.loop-k-preserved
loop-k-preserved c =
    let start = c.args.symbol * coded_bits_of c.args.rate in
    let next : start + c.loop-k.k + 1 ≡ start + (c.loop-k.k + 1) = omega arith in
    record {
      items = bits-more c.args.rate c.args.labels.now c.loop-k.bits.items c.push_reserved.new.self.items c.coded_bit.result (start + c.loop-k.k)
          c.push_reserved.ensures.items c.coded_bit.ensures c.loop-k.invariant.items
          ∙ ap (λ (n : ℕ). map (received_at c.args.rate c.args.labels.now) (range_with_len 0 n)) next;
      len = omega (arith, c.push_reserved.ensures.len, c.loop-k.invariant.len);
      capacity = c.push_reserved.ensures.capacity ∙ c.loop-k.invariant.capacity;
    }

pub returns-clause-bits : goal.returns-clause-bits
returns-clause-bits c =
    let start = c.args.symbol * coded_bits_of c.args.rate in
    let end : start + c.loop-k.k ≡ start + c.args.count = omega (arith, c.loop-k-test.false, c.loop-k.auto.k-end) in
    c.loop-k.invariant.items ∙ ap (λ (n : ℕ). map (received_at c.args.rate c.args.labels.now) (range_with_len 0 n)) end

pub returns-clause-len : goal.returns-clause-len
returns-clause-len c = omega (arith, c.loop-k.invariant.len, c.loop-k-test.false, c.loop-k.auto.k-end)
