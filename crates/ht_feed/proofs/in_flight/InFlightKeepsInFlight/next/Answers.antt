use Rattle.std.proofs.Common.{◌≡◌, ◌≤◌, ◌+◌, ◌∙◌, ◌∷◌, ◌++◌, [], List, None, Some, ap, sym, subst}
use Rattle.ht_feed.specs.InFlights.{InFlightView, ReadsMore, in_flight_view}
use Rattle.ht_feed.specs.Dues.{Due, count_in, due_of, jobs_in}
use Rattle.ht_feed.proofs.Filling.{reads_none, room_for, sound_added}
use Rattle.ht_feed.proofs.in_flight.InFlightKeepsInFlight.next.Goals as goal

pub make_room-requires : goal.make_room-requires
make_room-requires g c =
    let due : c.self.inside.due.items ≡ c.args.self.now.due = ap (λ (d : InFlightView g.row.R.Denot g.row.R-Head.Denot). d.due) c.self.view_is in
    room_for c.self.inside.due.items c.args.most c.self.invariant.full c.requires.some
    (subst (λ (ds : List (Due g.row.R-Head.Denot)). count_in (jobs_in ds) + c.args.most ≤ 4096) (sym due) c.requires.few_due)

pub invariant_of-self-in-Ok : goal.invariant_of-self-in-Ok
invariant_of-self-in-Ok g c =
    let inside = c.self.inside in
    let in_flight = in_flight_view inside.reader inside.stop inside.head inside.frames inside.due.items inside.count in
    let none : inside.stop ≡ None = ap (λ (d : InFlightView g.row.R.Denot g.row.R-Head.Denot). d.stop) c.self.view_is ∙ c.requires.going in
    let jobs = g.R.Block.Jobs.jobs c.in-Ok.block in
    let new = c.next_block.new in
    let is = ap (λ b. b.items) c.keep.ensures
    ∙ ap (λ (ds : List (Due g.row.R-Head.Denot)). ds ++ due_of new.head jobs ∷ []) c.make_room.ensures.items in
    sound_added g.R.BlockReader.counts in_flight new.reader new.head new.frames c.keep.new.due.items (inside.count + c.from.result) c.args.most jobs
    c.self.invariant none c.in-Ok.ensures.counted c.in-Ok.ensures.fewer is (ap (λ n. inside.count + n) (c.from.ensures ∙ c.size.ensures))

pub returns-in-Ok-clause-sound : goal.returns-in-Ok-clause-sound
returns-in-Ok-clause-sound g c = invariant_of-self-in-Ok g c

pub returns-in-Err-clause-reads : goal.returns-in-Err-clause-reads
returns-in-Err-clause-reads g c =
    let inside = c.self.inside in
    let r = g.R.BlockReader in
    let in_flight = in_flight_view inside.reader inside.stop inside.head inside.frames inside.due.items inside.count in
    let none : inside.stop ≡ None = ap (λ (d : InFlightView g.row.R.Denot g.row.R-Head.Denot). d.stop) c.self.view_is ∙ c.requires.going in
    let source = g.S.Source.shown c.args.source.now in
    let after = g.S.Source.shown c.next_block.new.source in
    let b = c.next_block.new in
    let reads = reads_none in_flight b.reader b.head b.frames c.in-Err.stop none r.means r.at source after c.in-Err.ensures.stopped in
    let new : List (Due g.row.R-Head.Denot) → InFlightView g.row.R.Denot g.row.R-Head.Denot =
    λ due. in_flight_view b.reader (Some c.in-Err.stop) b.head b.frames due inside.count in
    subst (λ (d : InFlightView g.row.R.Denot g.row.R-Head.Denot). ReadsMore r.means r.at d (new c.make_room.new.due.items) source after) c.self.view_is
    (subst (λ (due : List (Due g.row.R-Head.Denot)). ReadsMore r.means r.at in_flight (new due) source after) (sym c.make_room.ensures.items) reads)
