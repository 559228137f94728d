use Rattle.std.proofs.Common.{◌≡◌, ◌<◌, ◌+◌, ◌-◌, ℕ, ap, subst, ◌∙◌, refl, arith}
use Rattle.ht_clause18.specs.Rates.{symbols_of}
use Rattle.ht_fields.specs.Readers.{reader_in}
use Rattle.ht_fields.specs.WholeFiles.{StopsWithCause}
use Rattle.ht_legacy_files.specs.CaptureFormats.{captures, captures_due, symbols_due}
use Rattle.ht_legacy_files.specs.CaptureItems.{LegacyHead}
use Rattle.ht_legacy_blocks.specs.declared.stage.Stage.TheVariants.{Due}
use Rattle.ht_legacy_blocks.specs.Frames.{head_of}
use Rattle.ht_legacy_blocks.specs.Jobs.{diagonals_of}
use Rattle.ht_legacy_blocks.specs.Readers.{Progress, progress, state_of}
use Rattle.std.specs.Arc.{arc_value}
use Rattle.ht_legacy_blocks.proofs.Seeing.{front_seen, halts_seen, next_frame}
use Rattle.ht_legacy_blocks.proofs.reader.LegacyReader.frame.Goals as goal

pub returns-in-Ok-clause-told : goal.returns-in-Ok-clause-told
returns-in-Ok-clause-told g c =
    let i = c.self.inside in
    let old : Progress = progress i.stage i.at i.frames i.head (diagonals_of i.diagonals) i.symbols i.jobs (arc_value i.symbol) i.left in
    let f = c.in-Ok.front in
    let h : LegacyHead = record { rate = f.rate; length = f.length; diagonals = diagonals_of f.diagonals } in
    let new : Progress = progress (Due (c.args.frames - 1) c.symbols.result) (i.at + 107) (i.frames + 1) (head_of i.frames h) (diagonals_of f.diagonals) 0
    i.jobs (arc_value i.symbol) i.left in
    let some : 0 < c.args.frames = omega (arith, c.requires.some) in
    let one : c.args.frames - 1 + 1 ≡ c.args.frames = omega (arith, c.requires.some) in
    let none : old.left ≡ 0 = rw (← c.self.view_is) at c.requires.none in
    let is : old.stage ≡ Due c.args.frames 0 = rw (← c.self.view_is) at c.requires.stage in
    rw (← c.self.view_is)
    (front_seen old new (g.S.Source.shown c.args.source.now) (g.S.Source.shown c.frame_front.new.source) old.course h (captures_due c.args.frames)
    (symbols_due c.args.frames (symbols_of f.rate f.length)) old.at (old.at + 107)
    (record { course = refl; state = ap state_of is ∙ next_frame c.args.frames; at = refl })
    (record {
      course = refl;
      state = ap (λ n. symbols_due n c.symbols.result) one ∙ ap (symbols_due c.args.frames) c.symbols.ensures.value;
      at = refl;
    }) none none (c.in-Ok.ensures.told c.args.frames some))

pub returns-in-Err-clause-told : goal.returns-in-Err-clause-told
returns-in-Err-clause-told g c =
    let old = c.args.self.now in
    let source = g.S.Source.shown c.args.source.now in
    let after = g.S.Source.shown c.frame_front.new.source in
    let some : 0 < c.args.frames = omega (arith, c.requires.some) in
    halts_seen old old.course (captures_due c.args.frames) old.at
    (record { course = refl; state = ap state_of c.requires.stage ∙ next_frame c.args.frames; at = refl }) source after c.in-Err.fault c.requires.none
    (subst (λ (n : ℕ). StopsWithCause (reader_in captures (captures_due c.args.frames) n source) after c.in-Err.fault)
    (ap (λ (r : Progress). r.at) c.self.view_is)
    (c.in-Err.ensures.told c.args.frames some))
