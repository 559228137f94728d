use Rattle.std.proofs.Common.{◌≡◌, ◌<◌, ◌+◌, ◌-◌, ℕ, length, refl, ap, subst, ◌∙◌, arith}
use Rattle.std.specs.Arc.{arc_value}
use Rattle.ht_fields.specs.Readers.{reader_in}
use Rattle.ht_fields.specs.WholeFiles.{StopsWithCause}
use Rattle.ht_legacy_files.specs.CaptureFormats.{captures, symbols_due}
use Rattle.ht_legacy_blocks.specs.declared.stage.Stage.TheVariants.{Due}
use Rattle.ht_legacy_blocks.specs.Frames.{Course}
use Rattle.ht_legacy_blocks.specs.Jobs.{diagonals_of, samples_of}
use Rattle.ht_legacy_blocks.specs.Readers.{Progress, progress, state_of}
use Rattle.ht_legacy_blocks.proofs.Fronts.{samples_gives, samples_halts}
use Rattle.ht_legacy_blocks.proofs.Seeing.{halts_seen, symbol_seen}
use Rattle.ht_legacy_blocks.proofs.reader.LegacyReader.symbol.Goals as goal

pub returns-in-Err-clause-told : goal.returns-in-Err-clause-told
returns-in-Err-clause-told g c =
    let old = c.args.self.now in
    let source = g.S.Source.shown c.args.source.now in
    let after = g.S.Source.shown c.fill.new.source in
    let due = symbols_due (c.args.frames + 1) c.args.symbols in
    halts_seen old old.course due old.at (record { course = refl; state = ap state_of c.requires.stage; at = refl }) source after c.in-Err.fault c.requires.none
    (subst (λ (n : ℕ). StopsWithCause (reader_in captures due n source) after c.in-Err.fault) (ap (λ (r : Progress). r.at) c.self.view_is)
    (samples_halts (c.args.frames + 1) c.args.symbols c.self.inside.at _ source after c.in-Err.fault (omega (arith, c.requires.some)) (omega arith)
    c.in-Err.ensures.lacking))

pub returns-clause-told : goal.returns-clause-told
returns-clause-told g c =
    let i = c.self.inside in
    let old : Progress = progress i.stage i.at i.frames i.head (diagonals_of i.diagonals) i.symbols i.jobs (arc_value i.symbol) i.left in
    let new : Progress = progress (Due c.args.frames (c.args.symbols - 1)) (i.at + 416) i.frames i.head (diagonals_of i.diagonals) (i.symbols + 1)
    (i.jobs + c.from.result) (arc_value c.keep.new.kept) 52 in
    let course : ℕ → Course = λ n.
    record { frames = i.frames; head = i.head; diagonals = diagonals_of i.diagonals; symbol = i.symbols + 1; number = i.jobs + n } in
    let source = g.S.Source.shown c.args.source.now in
    let after = g.S.Source.shown c.fill.new.source in
    let none : old.left ≡ 0 = rw (← c.self.view_is) at c.requires.none in
    let is : old.stage ≡ Due c.args.frames c.args.symbols = rw (← c.self.view_is) at c.requires.stage in
    let some : 0 < c.args.symbols = omega (arith, c.requires.some) in
    let wide : length c.fill.new.into ≡ 416 = omega arith in
    rw (← c.self.view_is)
    (symbol_seen old new source after old.course (samples_of c.fill.new.into) (symbols_due (c.args.frames + 1) c.args.symbols)
    (symbols_due (c.args.frames + 1) (c.args.symbols - 1)) old.at (old.at + 416) (record { course = refl; state = ap state_of is; at = refl })
    (record { course = ap course c.from.ensures; state = refl; at = refl }) none refl (c.in-Ok-keep.ensures.kept ∙ c.new-symbol.ensures)
    (samples_gives (c.args.frames + 1) c.args.symbols i.at source after c.fill.new.into some wide c.in-Ok.ensures.whole))
