use Rattle.std.proofs.Common.{◌≡◌, ◌++◌, List, [], flat_map, take, refl, ap, ◌∙◌, rules}
use Rattle.ht_io.proofs.Calls.{later-refl, later-later, failed-later}
use Rattle.ht_io.proofs.Pieces.{grown-none}
use Rattle.ht_metric.specs.declared.sample.Sample.{Sample}
use Rattle.ht_fields.proofs.Putting.{grows_piece, map_split, on_err, part_more, piece_more}
use Rattle.ht_capture.specs.Files.{sample_octets}
use Rattle.ht_capture.proofs.writing.put_samples.Goals as goal

pub loop-rest-init : goal.loop-rest-init
loop-rest-init g c = record { put = ([], refl, grown-none _); later = later-refl _; steady = refl }

pub returns-in_err-put : goal.returns-in_err-put
returns-in_err-put g c =
    let put : c.as_slice.result.now ≡ flat_map sample_octets (take c.min.result c.loop-rest.rest.now) =
    c.as_slice.ensures ∙ (c.fill.ensures ∙ ap (λ (s : List Sample). flat_map sample_octets s) c.split_at.ensures.front) in
    let so_far = c.loop-rest.invariant.put in
    record {
      grown = search rules;
      steady = search rules;
      part = on_err _ _ (part_more _ _ _ so_far.0 _ _ _ _ _ so_far.2 c.in_err-put.ensures.part put
          (map_split sample_octets c.loop-rest.rest.now c.min.result) so_far.1);
      cause = on_err _ _ (failed-later (g.K.Sink.shown c.args.sink.now) (g.K.Sink.shown c.loop-rest.sink) (g.K.Sink.shown c.put.new.self)
          c.loop-rest.invariant.later c.in_err-put.ensures.cause);
      later = later-later _ _ _ c.loop-rest.invariant.later c.in_err-put.ensures.later;
    }

pub loop-rest-preserved : goal.loop-rest-preserved
loop-rest-preserved g c =
    let put : c.as_slice.result.now ≡ flat_map sample_octets (take c.min.result c.loop-rest.rest.now) =
    c.as_slice.ensures ∙ (c.fill.ensures ∙ ap (λ (s : List Sample). flat_map sample_octets s) c.split_at.ensures.front) in
    let behind : flat_map sample_octets (take c.min.result c.loop-rest.rest.now) ++ flat_map sample_octets c.split_at.result.1.now
    ≡ flat_map sample_octets c.loop-rest.rest.now =
    ap (λ (s : List Sample). flat_map sample_octets (take c.min.result c.loop-rest.rest.now) ++ flat_map sample_octets s) c.split_at.ensures.back
    ∙ map_split sample_octets c.loop-rest.rest.now c.min.result in
    let so_far = c.loop-rest.invariant.put in
    record {
      put = (_, piece_more so_far.0 _ _ _ _ behind so_far.1, grows_piece _ _ _ so_far.0 _ _ so_far.2 c.in_ok-put.ensures.grown put);
      later = later-later _ _ _ c.loop-rest.invariant.later c.in_ok-put.ensures.later;
      steady = c.in_ok-put.ensures.steady ∙ c.loop-rest.invariant.steady;
    }
