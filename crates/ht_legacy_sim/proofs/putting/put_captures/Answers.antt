use Rattle.std.proofs.Common.{◌≡◌, ◌+◌, [], ◌∷◌, ◌++◌, List, ℕ, drop, length, flat_map, refl, ap, ◌∙◌, subst, arith}
use Rattle.std.proofs.lemmas.List.{drop_all}
use Rattle.ht_io.specs.Devices.{Grows}
use Rattle.ht_io.proofs.Calls.{later-later}
use Rattle.ht_io.proofs.Pieces.{grown-append}
use Rattle.ht_fields.proofs.Putting.{on_err, part_first, part_more}
use Rattle.ht_clause18.specs.Frames.{LegacyFrameView}
use Rattle.ht_heads.specs.Heads.{start_octets}
use Rattle.ht_heads.specs.Starts.{started_octets}
use Rattle.ht_sim.specs.Draws.{Drawn, each}
use Rattle.ht_sim.specs.Words.{first}
use Rattle.ht_legacy_files.specs.CaptureFiles.{capture_octets}
use Rattle.ht_legacy_files.specs.CaptureFormats.{captures_magic}
use Rattle.ht_legacy_sim.specs.Drawing.{capture_drawn}
use Rattle.ht_legacy_sim.proofs.Drawn.{behind, behind-end, behind-step}
use Rattle.ht_legacy_sim.proofs.Framed.{next_is, next_put, whole_file}
use Rattle.ht_legacy_sim.proofs.putting.put_captures.Goals as goal

pub returns-in_err-put-clause-part : goal.returns-in_err-put-clause-part
unfolding start_octets started_octets
returns-in_err-put-clause-part g c =
    let fs : List LegacyFrameView = c.args.frames.now in
    on_err _ _ (part_first _ _ c.start_of.result (start_octets captures_magic 1 (length fs))
    (flat_map capture_octets (each (capture_drawn c.args.noise) fs (first c.args.seed)).value) _ c.start_of.ensures
    (whole_file c.args.seed c.args.noise fs) c.in_err-put.ensures.part)

pub loop-frame-init : goal.loop-frame-init
unfolding start_octets started_octets
loop-frame-init g c =
    let fs : List LegacyFrameView = c.args.frames.now in
    let draw = capture_drawn c.args.noise in
    record {
      put = (
        c.start_of.result,
        ap (λ (o : List ℕ). behind capture_octets o (each draw fs c.new-words.result)) c.start_of.ensures
            ∙ ap (λ z. behind capture_octets (started_octets captures_magic 2 (length fs)) (each draw fs z)) c.new-words.ensures,
        c.in_ok-put.ensures.grown,
      );
      later = c.in_ok-put.ensures.later;
      steady = c.in_ok-put.ensures.steady;
    }

pub loop-frame-preserved : goal.loop-frame-preserved
loop-frame-preserved g c =
    let k = c.loop-frame.frame-index in
    let fs : List LegacyFrameView = c.args.frames.now in
    let f : LegacyFrameView = c.frame-item.result in
    let z = c.loop-frame.words in
    let draw = capture_drawn c.args.noise in
    let so_far = c.loop-frame.invariant.put in
    let piece : List ℕ = capture_octets (draw f z).value in
    let here : drop k fs ≡ f ∷ drop (k + 1) fs = next_is fs k f c.loop-frame-test.true c.frame-item.is in
    record {
      put = (
        so_far.0 ++ piece,
        behind-step capture_octets draw f (drop (k + 1) fs) (drop k fs) so_far.0 (so_far.0 ++ piece) piece z c.put_frame.new.words _ here refl refl
            c.in_ok-put_frame.ensures.words so_far.1,
        grown-append _ _ _ so_far.0 piece so_far.2 c.in_ok-put_frame.ensures.grown,
      );
      later = later-later _ _ _ c.loop-frame.invariant.later c.put_frame.ensures.later;
      steady = c.in_ok-put_frame.ensures.steady ∙ c.loop-frame.invariant.steady;
    }

pub returns-in_err-put_frame-clause-part : goal.returns-in_err-put_frame-clause-part
returns-in_err-put_frame-clause-part g c =
    let so_far = c.loop-frame.invariant.put in
    on_err _ _ (part_more _ _ _ so_far.0 _ _ _ _ _ so_far.2 c.in_err-put_frame.ensures.part refl
    (next_put c.args.noise c.args.frames.now c.loop-frame.frame-index c.frame-item.result c.loop-frame.words c.loop-frame-test.true c.frame-item.is)
    (ap (λ (d : Drawn (List ℕ)). d.value) so_far.1 ∙ whole_file c.args.seed c.args.noise c.args.frames.now))

pub returns-clause-grown : goal.returns-clause-grown
returns-clause-grown g c =
    let k = c.loop-frame.frame-index in
    let fs : List LegacyFrameView = c.args.frames.now in
    let draw = capture_drawn c.args.noise in
    let so_far = c.loop-frame.invariant.put in
    let none : drop k fs ≡ [] = drop_all k fs (omega (arith, c.loop-frame-test.false)) in
    let all = behind-end capture_octets draw (drop k fs) so_far.0 c.loop-frame.words _ none so_far.1 in
    subst (λ (o : List ℕ). Grows (g.K.Sink.shown c.args.sink.now) (g.K.Sink.shown c.loop-frame.sink) o)
    (ap (λ (d : Drawn (List ℕ)). d.value) all ∙ whole_file c.args.seed c.args.noise fs) so_far.2
