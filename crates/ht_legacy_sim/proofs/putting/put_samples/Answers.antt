use Rattle.std.proofs.Common.{◌≡◌, ◌+◌, ◌++◌, List, ℕ, [], flat_map, length, refl, ap, ◌∙◌, arith, rules}
use Rattle.ht_io.proofs.Calls.{later-refl, later-later, failed-later}
use Rattle.ht_io.proofs.Pieces.{grown-none, grown-append}
use Rattle.ht_fields.proofs.Putting.{on_err, part_more}
use Rattle.ht_capture.specs.Files.{sample_octets}
use Rattle.ht_sim.specs.Channel.{sample_drawn}
use Rattle.ht_sim.specs.Draws.{Drawn, each}
use Rattle.ht_legacy_sim.specs.Drawing.{exact_from}
use Rattle.ht_legacy_sim.proofs.Drawn.{behind-part, exact-split, part-octets, parts_of}
use Rattle.ht_legacy_sim.proofs.putting.put_samples.Goals as goal

pub loop-rest-init : goal.loop-rest-init
loop-rest-init g c = record { put = ([], refl, grown-none _); place = omega arith; later = later-refl _; steady = refl }

pub returns-in_err-put-clause-puts : goal.returns-in_err-put-clause-puts
returns-in_err-put-clause-puts g c =
    let so_far = c.loop-rest.invariant.put in
    record {
      grown = search rules;
      steady = search rules;
      part = on_err _ _ (part_more _ _ _ so_far.0 _ _ _ _ _ so_far.2 c.in_err-put.ensures.part (c.as_slice.ensures ∙ c.fill.ensures.samples)
          (part-octets sample_octets (sample_drawn c.args.noise) _ _ _ c.loop-rest.words
          (exact-split c.args.diagonals.now c.loop-rest.place c.min.result c.loop-rest.rest.now c.split_at.result.0.now c.split_at.result.1.now
          c.split_at.ensures.front c.split_at.ensures.back)) (ap (λ (d : Drawn (List ℕ)). d.value) so_far.1));
      cause = on_err _ _ (failed-later (g.K.Sink.shown c.args.sink.now) (g.K.Sink.shown c.loop-rest.sink)
          (g.K.Sink.shown c.put.new.self) c.loop-rest.invariant.later c.in_err-put.ensures.cause);
      later = later-later _ _ _ c.loop-rest.invariant.later c.in_err-put.ensures.later;
    }

pub loop-rest-preserved : goal.loop-rest-preserved
loop-rest-preserved g c =
    let ds = c.args.diagonals.now in
    let place = c.loop-rest.place in
    let rest = c.loop-rest.rest.now in
    let now = c.split_at.result.0.now in
    let later = c.split_at.result.1.now in
    let z = c.loop-rest.words in
    let draw = sample_drawn c.args.noise in
    let so_far = c.loop-rest.invariant.put in
    let put : c.as_slice.result.now ≡ flat_map sample_octets (each draw (exact_from ds place now) z).value = c.as_slice.ensures ∙ c.fill.ensures.samples in
    let split = exact-split ds place c.min.result rest now later c.split_at.ensures.front c.split_at.ensures.back in
    let parts : length now + length later ≡ length rest = parts_of c.min.result rest now later c.split_at.ensures.front c.split_at.ensures.back in
    record {
      put = (
        so_far.0 ++ c.as_slice.result.now,
        behind-part sample_octets draw (exact_from ds place now) (exact_from ds (place + length now) later) (exact_from ds place rest) so_far.0
            c.as_slice.result.now z c.fill.new.words _ split put c.fill.ensures.words so_far.1,
        grown-append _ _ _ so_far.0 c.as_slice.result.now so_far.2 c.in_ok-put.ensures.grown,
      );
      place = omega (arith, parts, c.loop-rest.invariant.place);
      later = later-later _ _ _ c.loop-rest.invariant.later c.in_ok-put.ensures.later;
      steady = c.in_ok-put.ensures.steady ∙ c.loop-rest.invariant.steady;
    }
