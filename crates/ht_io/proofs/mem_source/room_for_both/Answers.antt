use Rattle.ht_io.proofs.Stops.{is_full-both, passes_none-shorter}
use Rattle.ht_io.proofs.mem_source.room_for_both.Goals as goal

pub returns-clause-passes_no_cut : goal.returns-clause-passes_no_cut
returns-clause-passes_no_cut c =
    passes_none-shorter c.args.cuts.now c.args.at c.room_before.result c.room_before-2.result
    c.room_before.ensures.passes_none c.room_before-2.ensures.within

pub returns-clause-full : goal.returns-clause-full
returns-clause-full c =
    is_full-both c.args.cuts.now c.args.failing.now c.args.at c.args.room c.room_before.result c.room_before-2.result
    c.room_before.ensures.full c.room_before-2.ensures.full
