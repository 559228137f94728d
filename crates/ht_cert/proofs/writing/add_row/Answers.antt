use Rattle.std.proofs.Common.{◌≡◌, ◌+◌, ◌-◌, ◌++◌, suc, length, slice_index_or, sym, ap, ◌∙◌, length-append, arith}
use Rattle.ht_metric.specs.Rows.{no_row, no_tap}
use Rattle.ht_capture.specs.Files.{tap_octets}
use Rattle.ht_capture.proofs.Written.{taps_next, put_step}
use Rattle.ht_cert.proofs.writing.add_row.Goals as goal

pub loop-entry-preserved : goal.loop-entry-preserved
loop-entry-preserved c =
    let row = c.args.row in
    let entry = c.loop-entry.entry in
    let below = c.streams.result - row - 1 in
    let right = (slice_index_or c.args.system.now row no_row).right in
    let lt = c.loop-entry-test.true in
    let first : row + 1 - 1 ≡ row = omega arith in
    let place : row + 2 + entry - (row + 1) - 1 ≡ entry = omega arith in
    let tap : c.above.result ≡ slice_index_or right entry no_tap =
    c.above.ensures ∙ (ap (λ r. slice_index_or (slice_index_or c.args.system.now r no_row).right (row + 2 + entry - (row + 1) - 1) no_tap) first
    ∙ ap (λ i. slice_index_or right i no_tap) place) in
    let left : below - entry ≡ suc (below - (entry + 1)) = omega (arith, lt) in
    let next = taps_next (below - entry) (below - (entry + 1)) entry right c.above.result left tap in
    record {
      put = put_step c.loop-entry.chunk c.add_tap.new.chunk (tap_octets c.above.result) _ _ c.add_tap.ensures
          (ap (λ r. c.loop-entry.chunk ++ r) (sym next) ∙ c.loop-entry.invariant.put);
      size = omega (arith, ap length c.add_tap.ensures, length-append c.loop-entry.chunk (tap_octets c.above.result), c.loop-entry.invariant.size);
    }
