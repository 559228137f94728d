use Rattle.std.proofs.Common.{◌≡◌, ◌+◌, ◌∷◌, ℕ, List, drop, length, ap, ◌∙◌, sym, add-one}
use Rattle.std.proofs.Math.Seq.{drop-cons}
use Rattle.std.proofs.lemmas.List.{length_push}
use Rattle.std.proofs.lemmas.List.Elements.{All-push, All-same}
use Rattle.ht_pam.specs.declared.point.Point.{Point}
use Rattle.ht_rate.specs.declared.rates.Rate.{Rate}
use Rattle.ht_capture.specs.declared.frames.CaptureFrame.{CaptureFrame}
use Rattle.ht_capture.specs.Files.{FitsFrame, HasAllCarriers}
use Rattle.ht_tx.specs.Symbols.{SymbolsView}
use Rattle.ht_sim.specs.Channel.{frame_drawn}
use Rattle.ht_sim.specs.Draws.{Drawn}
use Rattle.ht_sim.proofs.Drawing.{each-step}
use Rattle.ht_sim.proofs.Shapes.{points_are}
use Rattle.ht_sim.proofs.Typed.{one_more_typed}
use Rattle.ht_sim.proofs.captures.through_channel.Goals as goal

pub capture-requires-clause-points : goal.capture-requires-clause-points
capture-requires-clause-points c =
    points_are c.frame-item.result c.rate.result c.length.result c.points-points.result.now
    c.rate.ensures c.length.ensures c.points-points.ensures.value c.points-points.ensures.fits

pub loop-frame-preserved : goal.loop-frame-preserved
loop-frame-preserved c =
    let k = c.loop-frame.frame-index in
    let frames = c.args.frames.now in
    let noise = c.args.noise in
    let was = c.loop-frame.invariant in
    let sent = c.frame-item.result in
    let old = c.loop-frame.captured.items in
    let new = c.push.new.self.items in
    let f = c.in_ok-capture.field-0 in
    let items = c.in_ok-push.ensures.items in
    let z = c.loop-frame.words in
    let view : Rate → ℕ → List Point → SymbolsView = λ r n xs. record { rate = r; length = n; points = xs } in
    let same : view c.rate.result c.length.result c.points-points.result.now ≡ sent =
    ap (λ r. view r c.length.result c.points-points.result.now) c.rate.ensures
    ∙ ap (λ n. view sent.rate n c.points-points.result.now) c.length.ensures
    ∙ ap (λ xs. view sent.rate sent.length xs) c.points-points.ensures.value in
    let here : drop k frames ≡ sent ∷ drop (k + 1) frames =
    rw add-one (drop-cons frames k sent c.loop-frame-test.true) ∙ ap (λ (s : SymbolsView). s ∷ drop (k + 1) frames) (sym c.frame-item.is) in
    record {
      drawn = each-step (frame_drawn noise) sent (drop (k + 1) frames) (drop k frames) old new f z c.capture.new.words _ here was.drawn items
          (ap (λ (d : Drawn CaptureFrame). d.value) c.in_ok-capture.ensures.drawn ∙ ap (λ (s : SymbolsView). (frame_drawn noise s z).value) same)
          (ap (λ (d : Drawn CaptureFrame). d.state) c.in_ok-capture.ensures.drawn ∙ ap (λ (s : SymbolsView). (frame_drawn noise s z).state) same);
      count = ap (λ (fs : List CaptureFrame). length fs) items ∙ (length_push old f ∙ ap (λ n. n + 1) was.count);
      fit = All-same FitsFrame new _ items (All-push FitsFrame old f was.fit c.in_ok-capture.ensures.fits);
      whole = All-same HasAllCarriers new _ items (All-push HasAllCarriers old f was.whole c.in_ok-capture.ensures.whole);
      typed = one_more_typed old new f items was.typed c.in_ok-capture.ensures.typed;
    }
