use Rattle.std.proofs.Common.{◌≡◌, [], ℕ, sym, ap, subst, ◌∙◌, refl}
use Rattle.ht_fields.specs.Readers.{Gives, reader_in}
use Rattle.ht_fields.specs.WholeFiles.{StopsWithCause}
use Rattle.ht_legacy_files.specs.CaptureFormats.{captures, captures_due}
use Rattle.std.specs.Arc.{arc_value}
use Rattle.ht_legacy_blocks.specs.declared.stage.Stage.TheVariants.{Due}
use Rattle.ht_legacy_blocks.specs.Jobs.{diagonals_of}
use Rattle.ht_legacy_blocks.specs.Readers.{IsSound, Progress, progress, state_of}
use Rattle.ht_legacy_blocks.proofs.Seeing.{at_start, halts_seen, next_frame, start_seen}
use Rattle.ht_legacy_blocks.proofs.reader.LegacyReader.start.Goals as goal

pub returns-in-Ok-clause-told : goal.returns-in-Ok-clause-told
returns-in-Ok-clause-told g c =
    let old = c.args.self.now in
    let source = g.S.Source.shown c.args.source.now in
    let after = g.S.Source.shown c.start.new.source in
    let i = c.self.inside in
    let new : Progress = progress (Due c.in-Ok.frames 0) 7 i.frames i.head (diagonals_of i.diagonals) i.symbols i.jobs (arc_value i.symbol) i.left in
    let sound : IsSound old = subst (λ (r : Progress). IsSound r) c.self.view_is c.self.invariant in
    let zero : old.at ≡ 0 = at_start old c.requires.stage sound in
    start_seen old new source after old.course captures.start (captures_due c.in-Ok.frames) old.at 7
    (record { course = refl; state = ap state_of c.requires.stage; at = refl })
    (record { course = ap (λ (r : Progress). r.course) c.self.view_is; state = next_frame c.in-Ok.frames; at = refl }) c.requires.none
    (ap (λ (r : Progress). r.left) c.self.view_is ∙ c.requires.none)
    (subst (λ (n : ℕ). Gives (reader_in captures captures.start n source) (reader_in captures (captures_due c.in-Ok.frames) 7 after) []) (sym zero)
    c.in-Ok.ensures.told)

pub returns-in-Err-clause-told : goal.returns-in-Err-clause-told
returns-in-Err-clause-told g c =
    let old = c.args.self.now in
    let source = g.S.Source.shown c.args.source.now in
    let after = g.S.Source.shown c.start.new.source in
    let sound : IsSound old = subst (λ (r : Progress). IsSound r) c.self.view_is c.self.invariant in
    let zero : old.at ≡ 0 = at_start old c.requires.stage sound in
    halts_seen old old.course captures.start old.at (record { course = refl; state = ap state_of c.requires.stage; at = refl }) source after c.in-Err.fault
    c.requires.none
    (subst (λ (n : ℕ). StopsWithCause (reader_in captures captures.start n source) after c.in-Err.fault) (sym zero) c.in-Err.ensures.told)
