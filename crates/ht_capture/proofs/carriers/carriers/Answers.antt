use Rattle.std.proofs.Common.{◌≡◌, ◌<◌, ◌≤◌, [], length, take, refl, sym, ap, ◌∙◌, subst, arith}
use Rattle.ht_io.proofs.Calls.{later-refl, later-later}
use Rattle.std.proofs.lemmas.List.{length-take-le}
use Rattle.ht_rate.specs.declared.rates.Rate.{Rate}
use Rattle.ht_rate.specs.Rates.{carriers_of}
use Rattle.ht_fields.proofs.Joins.{gives_more}
use Rattle.ht_capture.specs.Reading.{AreSeen}
use Rattle.ht_capture.proofs.Gathering.{read_none, read_more, read_end}
use Rattle.ht_capture.proofs.Turns.{carriers_first, carriers_so_far, carriers_over}
use Rattle.ht_fields.proofs.Halting.{gives_halts}
use Rattle.ht_capture.proofs.carriers.carriers.Goals as goal

pub loop-index-init : goal.loop-index-init
loop-index-init g c =
    let some : 0 < carriers_of c.args.head.now.rate = omega (arith, c.carriers-carriers.ensures.value, c.carriers-carriers.ensures.low) in
    record {
      told = carriers_first c.args.turn.now c.args.head.now c.args.at _ some;
      same = (refl, refl, refl);
      count = omega arith;
      some = λ e. omega (arith, e, some);
      place = omega arith;
      seen = λ d k lt. absurd (omega (arith, lt));
      size = c.requires.space;
      read = read_none c.args.turn.now.version c.args.head.now.rate c.args.head.now.erased _ c.requires.none;
      later = later-refl _;
    }

pub returns-in-Err-clause-told : goal.returns-in-Err-clause-told
returns-in-Err-clause-told g c =
    let rate : carriers_of c.loop-index.head.rate ≡ carriers_of c.args.head.now.rate = ap (λ (r : Rate). carriers_of r) c.loop-index.invariant.same.1 in
    let lt : c.loop-index.index < carriers_of c.loop-index.head.rate = omega (arith, rate, c.carriers-carriers.ensures.value, c.loop-index-test.true) in
    gives_halts _ _ _ _ (carriers_so_far _ c.args.turn.now c.loop-index.head c.loop-index.index _ _ _ lt c.loop-index.invariant.told)
    c.loop-index.invariant.later c.in-Err.ensures.told

pub loop-index-preserved : goal.loop-index-preserved
loop-index-preserved g c =
    let rate : carriers_of c.loop-index.head.rate ≡ carriers_of c.args.head.now.rate = ap (λ (r : Rate). carriers_of r) c.loop-index.invariant.same.1 in
    let lt : c.loop-index.index < carriers_of c.loop-index.head.rate = omega (arith, rate, c.carriers-carriers.ensures.value, c.loop-index-test.true) in
    let was = c.loop-index.invariant.same in
    let now = c.in-Ok.ensures.same in
    record {
      told = gives_more _ _ _ [] _ (carriers_so_far _ c.args.turn.now c.loop-index.head c.loop-index.index _ _ _ lt c.loop-index.invariant.told)
          c.in-Ok.ensures.told;
      same = (now.0 ∙ was.0, now.1 ∙ was.1, now.2 ∙ was.2);
      count = omega (arith, c.loop-index.invariant.count, c.in-Ok.ensures.count.1);
      some = λ e. c.in-Ok.ensures.some (e ∙ sym rate);
      place = omega (arith, c.loop-index.invariant.place, c.in-Ok.ensures.place);
      seen = subst (λ (r : Rate). AreSeen r c.in-Ok.more.count c.carrier.new.present) was.1 c.in-Ok.ensures.seen;
      size = search;
      read = read_more c.args.turn.now.version c.loop-index.index c.loop-index.head
          c.carrier.new.head _ _ _ _ _ c.loop-index.invariant.read now.1 c.in-Ok.ensures.added;
      later = later-later _ _ _ c.loop-index.invariant.later c.in-Ok.ensures.later;
    }

pub returns-clause-told : goal.returns-clause-told
returns-clause-told g c =
    let rate : carriers_of c.loop-index.head.rate ≡ carriers_of c.args.head.now.rate = ap (λ (r : Rate). carriers_of r) c.loop-index.invariant.same.1 in
    let high = c.carriers-carriers.ensures.high in
    let le : carriers_of c.loop-index.head.rate ≤ c.loop-index.index = omega (arith, rate, c.carriers-carriers.ensures.value) in
    let size : length (take c.loop-index.gathered.count c.loop-index.present) ≡ c.loop-index.gathered.count =
    length-take-le c.loop-index.gathered.count c.loop-index.present (omega (arith, c.loop-index.invariant.size, c.loop-index.invariant.count, high)) in
    carriers_over _ c.args.turn.now c.loop-index.head c.loop-index.index c.loop-index.gathered.count _ _ _ le size c.loop-index.invariant.told

pub returns-clause-read : goal.returns-clause-read
returns-clause-read g c =
    let rate : carriers_of c.loop-index.head.rate ≡ carriers_of c.args.head.now.rate = ap (λ (r : Rate). carriers_of r) c.loop-index.invariant.same.1 in
    let end : c.loop-index.index ≡ carriers_of c.loop-index.head.rate =
    omega (arith, rate, c.carriers-carriers.ensures.value, c.loop-index-test.false, c.loop-index.auto.index-end) in
    read_end c.args.turn.now.version c.loop-index.index
    (carriers_of c.loop-index.head.rate) c.loop-index.head.rate c.loop-index.head.erased _ _ _ end c.loop-index.invariant.read
