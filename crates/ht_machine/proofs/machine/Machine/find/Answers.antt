use Rattle.std.proofs.Common.{◌≡◌, ◌≢◌, true, arith, rules}
use Rattle.std.specs.Prelude.{is_some}
use Rattle.std.specs.List.{flat_map}
use Rattle.std.specs.Option.{option_to_list}
use Rattle.ht_machine.specs.Machine.{hit_of}
use Rattle.ht_machine.specs.Facts.{numbered}
use Rattle.ht_machine.proofs.Numbers.{one_of, hit_counts, none_counts}
use Rattle.ht_machine.proofs.Sums.{weigh_places}
use Rattle.ht_machine.proofs.machine.Machine.find.Goals as goal

pub returns-then-has-clause-some : goal.returns-then-has-clause-some
returns-then-has-clause-some c =
    let some : is_some (hit_of c.args.number c.args.self.now.results) ≡ true = search rules in
    hit_counts c.args.number c.args.self.now.results some

pub returns-then-has-2-clause-some : goal.returns-then-has-2-clause-some
returns-then-has-2-clause-some c =
    let some : is_some (hit_of c.args.number c.args.self.now.booked) ≡ true = search rules in
    hit_counts c.args.number c.args.self.now.booked some

pub returns-then-has-3-clause-some : goal.returns-then-has-3-clause-some
returns-then-has-3-clause-some c =
    let some : is_some (hit_of c.args.number c.args.self.now.emitted) ≡ true = search rules in
    hit_counts c.args.number c.args.self.now.emitted some

pub returns-clause-none : goal.returns-clause-none
returns-clause-none c =
    let n = c.args.number in
    let machine = c.args.self.now in
    let hands : numbered n (flat_map option_to_list machine.hands) ≡ 0 = search rules in
    let deques : numbered n (flat_map (λ jobs. jobs) machine.deques) ≡ 0 = search rules in
    let no_result : is_some (hit_of n machine.results) ≢ true = search rules in
    let no_booked : is_some (hit_of n machine.booked) ≢ true = search rules in
    let no_emitted : is_some (hit_of n machine.emitted) ≢ true = search rules in
    omega (
      arith,
      weigh_places (one_of n) machine,
      hands,
      deques,
      none_counts n machine.results no_result,
      none_counts n machine.booked no_booked,
      none_counts n machine.emitted no_emitted,
    )
