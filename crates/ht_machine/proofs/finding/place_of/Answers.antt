use Rattle.ht_machine.proofs.Places.{is_place}
use Rattle.ht_machine.proofs.finding.place_of.Goals as goal

pub returns-clause-issued : goal.returns-clause-issued
returns-clause-issued c = (is_place c.args.machine.now c.find.ensures.machine c.args.number c.find.result c.find.ensures.some c.find.ensures.none).0

pub returns-clause-place : goal.returns-clause-place
returns-clause-place c = (is_place c.args.machine.now c.find.ensures.machine c.args.number c.find.result c.find.ensures.some c.find.ensures.none).1.0

pub returns-clause-only : goal.returns-clause-only
returns-clause-only c = (is_place c.args.machine.now c.find.ensures.machine c.args.number c.find.result c.find.ensures.some c.find.ensures.none).1.1
