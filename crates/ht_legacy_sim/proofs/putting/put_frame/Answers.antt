use Rattle.std.proofs.Common.{List, ℕ, length, refl, ap, ◌∙◌, subst}
use Rattle.ht_io.specs.Devices.{Grows}
use Rattle.ht_io.proofs.Pieces.{grown-append}
use Rattle.ht_fields.proofs.Putting.{on_err, part_first, part_next}
use Rattle.ht_clause18.specs.Points.{sent_points}
use Rattle.ht_legacy_sim.proofs.Framed.{octets_put, words_left}
use Rattle.ht_legacy_sim.proofs.putting.put_frame.Goals as goal

pub returns-in_err-put-clause-part : goal.returns-in_err-put-clause-part
returns-in_err-put-clause-part g c =
    let items = c.diagonals-diagonals.result.items in
    let f = c.args.frame.now in
    on_err _ _ (part_first _ _ c.as_slice.result.now c.as_slice.result.now _ _ refl
    (octets_put c.args.noise f c.rate.result (length c.octets.result.now) items c.deref.result.now items (sent_points f) c.args.words.now
    c.diagonals-diagonals.new.words c.diagonals-diagonals.ensures.value c.deref.ensures.0 refl refl c.rate.ensures
    (ap (λ (o : List ℕ). length o) c.octets.ensures.value) c.as_slice.result.now c.add_head.new.chunk c.clear.new.self
    c.as_slice.ensures c.add_head.ensures c.clear.ensures) c.in_err-put.ensures.part)

pub returns-in_err-put_samples-clause-part : goal.returns-in_err-put_samples-clause-part
returns-in_err-put_samples-clause-part g c =
    on_err _ _ (part_next _ _ _ c.as_slice.result.now _ _
    (octets_put c.args.noise c.args.frame.now c.rate.result (length c.octets.result.now) c.diagonals-diagonals.result.items c.deref.result.now
    c.deref-2.result.now c.deref-3.result.now c.args.words.now c.diagonals-diagonals.new.words c.diagonals-diagonals.ensures.value
    c.deref.ensures.0 c.deref-2.ensures.0 (c.deref-3.ensures.value ∙ c.in_ok-points.ensures) c.rate.ensures
    (ap (λ (o : List ℕ). length o) c.octets.ensures.value) c.as_slice.result.now c.add_head.new.chunk c.clear.new.self
    c.as_slice.ensures c.add_head.ensures c.clear.ensures) c.in_ok-put.ensures.grown c.in_err-put_samples.ensures.puts.part)

pub returns-clause-grown : goal.returns-clause-grown
returns-clause-grown g c =
    subst (λ (o : List ℕ). Grows (g.K.Sink.shown c.args.sink.now) (g.K.Sink.shown c.put_samples.new.sink) o)
    (octets_put c.args.noise c.args.frame.now c.rate.result (length c.octets.result.now) c.diagonals-diagonals.result.items c.deref.result.now
    c.deref-2.result.now c.deref-3.result.now c.args.words.now c.diagonals-diagonals.new.words c.diagonals-diagonals.ensures.value
    c.deref.ensures.0 c.deref-2.ensures.0 (c.deref-3.ensures.value ∙ c.in_ok-points.ensures) c.rate.ensures
    (ap (λ (o : List ℕ). length o) c.octets.ensures.value) c.as_slice.result.now c.add_head.new.chunk c.clear.new.self
    c.as_slice.ensures c.add_head.ensures c.clear.ensures)
    (grown-append _ _ _ c.as_slice.result.now _ c.in_ok-put.ensures.grown c.in_ok-put_samples.ensures.puts.grown)

pub returns-clause-words : goal.returns-clause-words
returns-clause-words g c =
    c.in_ok-put_samples.ensures.words
    ∙ words_left c.args.noise c.args.frame.now c.rate.result (length c.octets.result.now) c.diagonals-diagonals.result.items c.deref.result.now
    c.deref-2.result.now c.deref-3.result.now c.args.words.now c.diagonals-diagonals.new.words c.diagonals-diagonals.ensures.value
    c.deref.ensures.0 c.deref-2.ensures.0 (c.deref-3.ensures.value ∙ c.in_ok-points.ensures) c.rate.ensures
    (ap (λ (o : List ℕ). length o) c.octets.ensures.value)
