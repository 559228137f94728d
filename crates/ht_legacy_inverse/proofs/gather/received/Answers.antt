use Rattle.std.proofs.Common.{rules, ◌≡◌, ℕ, ◌+◌, ◌-◌, ◌*◌, ◌≤◌, ◌∙◌, ap, arith, map, min, subst}
use Rattle.std.specs.List.{range_with_len}
use Rattle.std.proofs.Math.Nat.{min-le_left}
use Rattle.ht_clause18.specs.Rates.{coded_bits_of, symbols_of}
use Rattle.ht_legacy_inverse.specs.Received.{received_at, told_by}
use Rattle.ht_legacy_inverse.proofs.Gathered.{all-bits, symbol-left, whole-symbol}
use Rattle.ht_legacy_inverse.proofs.gather.received.Goals as goal

pub loop-left-init : goal.loop-left-init
loop-left-init c =
    let count = c.coded_bits-count.result in
    let none : 0 ≡ count - count = omega arith in
    let start : map told_by c.in_ok-bits.bits.items ≡ map (received_at c.args.rate c.args.labels.now) (range_with_len 0 0) = search rules in
    record {
      items = start ∙ ap (λ (n : ℕ). map (received_at c.args.rate c.args.labels.now) (range_with_len 0 n)) none;
      len = omega (arith, c.in_ok-bits.ensures.len);
      capacity = search rules;
      before = λ some. omega arith;
    }

pub push_symbol-requires-clause-labels : goal.push_symbol-requires-clause-labels
push_symbol-requires-clause-labels c =
    let low = c.coded_bits-size.ensures in
    let below = symbol-left c.loop-left.symbol c.loop-left.left c.coded_bits-count.result (coded_bits_of c.args.rate) (symbols_of c.args.rate c.args.octets)
    (omega (arith, low.value, low.low)) c.loop-left-test.true (c.loop-left.invariant.before c.loop-left-test.true) c.coded_bits-count.ensures.within in
    omega (arith, below, c.requires.labels)

pub push_symbol-requires-clause-room : goal.push_symbol-requires-clause-room
push_symbol-requires-clause-room c =
    let few = min-le_left c.loop-left.left c.from.result in
    omega (arith, few, c.min-taken.ensures, c.loop-left.invariant.len, c.loop-left.invariant.capacity)

pub push_symbol-requires-clause-before : goal.push_symbol-requires-clause-before
push_symbol-requires-clause-before c =
    let at = c.loop-left.invariant.before c.loop-left-test.true in
    let done : c.coded_bits-count.result - c.loop-left.left ≡ c.loop-left.symbol * coded_bits_of c.args.rate = omega (arith, at) in
    c.loop-left.invariant.items ∙ ap (λ (n : ℕ). map (received_at c.args.rate c.args.labels.now) (range_with_len 0 n)) done

pub overflow_add-symbol : goal.overflow_add-symbol
overflow_add-symbol c =
    let low = c.coded_bits-size.ensures in
    let below = symbol-left c.loop-left.symbol c.loop-left.left c.coded_bits-count.result (coded_bits_of c.args.rate) (symbols_of c.args.rate c.args.octets)
    (omega (arith, low.value, low.low)) c.loop-left-test.true (c.loop-left.invariant.before c.loop-left-test.true) c.coded_bits-count.ensures.within in
    omega (arith, below, c.symbols-symbols.ensures.value, c.symbols-symbols.ensures.high)

pub loop-left-preserved : goal.loop-left-preserved
loop-left-preserved c =
    let size = coded_bits_of c.args.rate in
    let count = c.coded_bits-count.result in
    let n = c.loop-left.symbol in
    let left = c.loop-left.left in
    let at = c.loop-left.invariant.before c.loop-left-test.true in
    let taken : c.from-left.result ≡ min left size =
    c.from-left.ensures ∙ (c.min-taken.ensures ∙ ap (λ (m : ℕ). min left m) (c.from.ensures ∙ c.coded_bits-size.ensures.value)) in
    let few = min-le_left left size in
    let done : n * size + c.min-taken.result ≡ count - (left - c.from-left.result) = omega (arith, at, taken, few, c.from-left.ensures) in
    record {
      items = c.push_symbol.ensures.bits ∙ ap (λ (m : ℕ). map (received_at c.args.rate c.args.labels.now) (range_with_len 0 m)) done;
      len = omega (arith, c.push_symbol.ensures.len, c.loop-left.invariant.len, taken, few, c.from-left.ensures);
      capacity = c.push_symbol.ensures.capacity ∙ c.loop-left.invariant.capacity;
      before = λ more.
          let whole = whole-symbol n left size (subst (λ (m : ℕ). 1 ≤ left - m) taken more) in
          omega (arith, whole, at, taken);
    }

pub returns : goal.returns
returns c =
    let end : c.coded_bits-count.result - c.loop-left.left ≡ c.coded_bits-count.result = omega (arith, c.loop-left-test.false) in
    all-bits c.args.rate c.args.octets c.args.labels.now c.loop-left.bits.items (c.coded_bits-count.result - c.loop-left.left)
    (end ∙ c.coded_bits-count.ensures.value) c.loop-left.invariant.items
