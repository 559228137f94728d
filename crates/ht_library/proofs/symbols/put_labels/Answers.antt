use Rattle.std.proofs.Common.{◌≡◌, ◌+◌, ◌*◌, ◌≤◌, length, arith, sym, ◌∙◌}
use Rattle.ht_library.proofs.Answered.{labels-more, labels-room, not-none}
use Rattle.ht_library.proofs.symbols.put_labels.Goals as goal

pub put_vector-requires : goal.put_vector-requires
put_vector-requires c =
    let size = length c.args.labels.now in
    let room : c.args.at * c.args.streams + c.args.streams ≤ length c.args.labels.now =
    labels-room c.args.at c.args.streams c.args.samples size c.requires.within c.requires.labels
    (not-none size (sym c.is_empty.ensures ∙ c.if-is_empty.false)) in
    let wide = c.requires.streams in
    omega (arith, room, wide)

pub returns-clause-more : goal.returns-clause-more
returns-clause-more c = λ found is are.
    labels-more c.args.modulation c.args.streams c.args.at found c.args.vector.now c.args.labels.now c.put_vector.new.labels is c.requires.streams
    c.put_vector.ensures.length c.put_vector.ensures.before c.put_vector.ensures.labels are
