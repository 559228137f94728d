use Rattle.std.proofs.Common.{◌≡◌, ◌*◌, List, All, length, flat_map, sym, ap, subst, ◌∙◌, arith}
use Rattle.ht_rate.specs.Rates.{streams_of}
use Rattle.ht_rate.proofs.RateFacts.{carriers_of-range}
use Rattle.ht_metric.specs.declared.sample.Sample.{Sample}
use Rattle.ht_capture.specs.Files.{present_of}
use Rattle.ht_capture.proofs.Grids.{length-grid_of}
use Rattle.ht_cert.specs.declared.record.Record.{Record}
use Rattle.ht_cert.specs.Files.{record_octets}
use Rattle.ht_certify.specs.declared.subcarriers.Subcarrier.{Subcarrier}
use Rattle.ht_certify.specs.Writing.{Writes}
use Rattle.ht_certify.proofs.Shown.{frame_made}
use Rattle.ht_certify.proofs.putting.put_frame.Goals as goal

pub put_symbols-requires-clause-few : goal.put_symbols-requires-clause-few
put_symbols-requires-clause-few g c =
    omega (
      arith,
      ap (λ (xs : List Subcarrier). length xs) c.deref.ensures.value,
      c.in_ok-gather_subcarriers.ensures.few,
      carriers_of-range
          c.args.frame.now.rate,
    )

pub put_symbols-requires-clause-streams : goal.put_symbols-requires-clause-streams
put_symbols-requires-clause-streams g c =
    let r = c.args.frame.now.rate in
    let rows = length-grid_of r c.grid.result c.grid.ensures in
    subst (λ (xs : List Subcarrier). All (λ (s : Subcarrier). length s.triangle ≡ length c.grid.result) xs) (sym c.deref.ensures.value)
    (subst (λ n. All (λ (s : Subcarrier). length s.triangle ≡ n) c.gather_subcarriers.new.into.items) (sym rows) c.in_ok-gather_subcarriers.ensures.streams)

pub put_symbols-requires-clause-samples : goal.put_symbols-requires-clause-samples
put_symbols-requires-clause-samples g c =
    let f = c.args.frame.now in
    let n = streams_of f.rate in
    let symbols = c.symbols-symbols.result in
    let rows : length c.grid.result ≡ n = length-grid_of f.rate c.grid.result c.grid.ensures in
    let present : length c.deref.result.now ≡ present_of f =
    ap (λ (xs : List Subcarrier). length xs) c.deref.ensures.value ∙ c.in_ok-gather_subcarriers.ensures.present in
    ap (λ (xs : List Sample). length xs) c.as_slice-samples.ensures ∙ (c.requires.samples
    ∙ (ap (λ k. k * (present_of f * n)) (sym c.symbols-symbols.ensures.value)
    ∙ (ap (λ k. symbols * (k * n)) (sym present) ∙ ap (λ k. symbols * (length c.deref.result.now * k)) (sym rows))))

pub returns : goal.returns
returns g c =
    let f = c.args.frame.now in
    let made = frame_made f c.modulation-recorded.result c.grid.result (length c.grid.result) c.symbols-symbols.result c.deref.result.now
    c.as_slice-samples.result.now c.modulation-recorded.ensures c.grid.ensures (length-grid_of f.rate c.grid.result c.grid.ensures)
    c.symbols-symbols.ensures.value (c.deref.ensures.value ∙ c.in_ok-gather_subcarriers.ensures.listed) c.as_slice-samples.ensures in
    subst (λ (rs : List Record). Writes c.args.block.now (g.K.Sink.shown c.args.sink.now) (g.K.Sink.shown c.put_symbols.new.sink)
    (flat_map record_octets rs) c.put_symbols.new.block c.put_symbols.result) made c.put_symbols.ensures.writes
