use Rattle.std.proofs.Common.{rules}
use Rattle.ht_io.proofs.Hands.{ready-is}
use Rattle.ht_io.proofs.mem_source.ready.Goals as goal

pub returns-clause-value : goal.returns-clause-value
returns-clause-value c =
    let room = c.room_for_both.ensures in
    λ octets is. ready-is c.args.cuts.now c.args.failing.now octets c.args.at c.room_for_both.result (search rules) room.some
    (rw is room.within) room.passes_no_cut room.passes_no_failing (rw is room.full)
