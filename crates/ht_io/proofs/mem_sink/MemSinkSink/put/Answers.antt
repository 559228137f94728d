use Rattle.std.proofs.Common.{◌≡◌, ◌-◌, ◌≤◌, ◌∙◌, sym, arith}
use Rattle.std.proofs.lemmas.List.{length-take}
use Rattle.ht_io.specs.Writing.{nearest, unspent}
use Rattle.ht_io.proofs.Limits.{nearest-unspent, ascends-unspent, take-held}
use Rattle.ht_io.proofs.mem_sink.MemSinkSink.put.Goals as goal

pub invariant_of-self-2 : goal.invariant_of-self-2
invariant_of-self-2 c =
    let failing = c.self.inside.failing.items in
    let capacity = c.self.inside.capacity in
    let limit : c.limit.result ≡ nearest failing capacity = rw c.deref.ensures.value at c.limit.ensures in
    let left : c.spend_reached.new.failing.items ≡ unspent failing capacity = c.spend_reached.ensures in
    let later : nearest failing capacity ≤ nearest (unspent failing capacity) capacity =
    nearest-unspent failing capacity c.self.invariant.ascends in
    record {
      has_room = omega arith;
      ascends = rw left (ascends-unspent failing capacity c.self.invariant.ascends);
      below = rw left (omega (arith, c.append-2.ensures.len, length-take (c.limit.result - c.len.result) c.args.piece.now));
    }

pub returns-clause-cut : goal.returns-clause-cut
returns-clause-cut c =
    let limit : c.limit.result ≡ nearest c.self.inside.failing.items c.self.inside.capacity = rw c.deref.ensures.value at c.limit.ensures in
    rw (← c.self.view_is) (c.append-2.ensures.items
    ∙ sym (take-held c.self.inside.space.items c.args.piece.now
    (nearest c.self.inside.failing.items c.self.inside.capacity) (c.limit.result - c.len.result) (omega arith)))

pub returns-clause-part : goal.returns-clause-part
returns-clause-part c =
    (c.limit.result - c.len.result, omega arith, rw (← c.self.view_is) c.append-2.ensures.items)
