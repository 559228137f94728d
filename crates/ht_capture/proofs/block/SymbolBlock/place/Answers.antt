use Rattle.std.proofs.Common.{◌≡◌, ◌<◌, ◌+◌, [], length, arith}
use Rattle.std.specs.Arc.{arc_value}
use Rattle.ht_capture.specs.declared.places.Present.{Present}
use Rattle.ht_capture.specs.Parts.{jobs_of, part_of}
use Rattle.ht_capture.proofs.Sharing.{jobs_length, part_job, part_placed}
use Rattle.ht_capture.proofs.block.SymbolBlock.place.Goals as goal

pub returns : goal.returns
returns c =
    let b = c.self.inside in
    let whole = arc_value b.symbol in
    let d : Present = record { carrier = 0; triangle = [] } in
    let some : 0 < length (jobs_of (part_of whole b.first b.count)) =
    omega (arith, jobs_length whole b.first b.count c.self.invariant.1, c.self.invariant.0) in
    let place : c.from.result ≡ b.first + 0 = omega (arith, c.from.ensures) in
    let job = part_job whole c.deref.result.now b.first b.count 0 c.from.result d c.self.invariant.1 some c.deref.ensures place in
    rw (← c.self.view_is) (part_placed _ c.deref.result.now c.from.result d c.place.result job (c.place.ensures d))
