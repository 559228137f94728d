use Rattle.std.proofs.Common.{◌≡◌, ◌+◌, ◌-◌, ◌<◌, length, slice_index_or, ap, ◌∙◌, length-append, arith}
use Rattle.ht_metric.specs.Rows.{no_row}
use Rattle.ht_capture.specs.Files.{sample_octets}
use Rattle.ht_cert.proofs.Written.{sample_put}
use Rattle.ht_cert.proofs.writing.add_samples.Goals as goal

pub loop-row-preserved : goal.loop-row-preserved
loop-row-preserved c =
    let k = c.loop-row.row in
    let rows = c.args.system.now in
    let first : k + 1 - 1 ≡ k = omega arith in
    let lt : k < length rows = omega (arith, c.loop-row-test.true, c.streams-row-end.ensures.number) in
    let is : c.sample.result ≡ (slice_index_or rows k no_row).sample = c.sample.ensures ∙ ap (λ i. (slice_index_or rows i no_row).sample) first in
    record {
      put = sample_put c.loop-row.chunk c.add_sample.new.chunk c.args.chunk.now rows c.sample.result k lt is c.add_sample.ensures c.loop-row.invariant.put;
      size = omega (arith, ap length c.add_sample.ensures, length-append c.loop-row.chunk (sample_octets c.sample.result), c.loop-row.invariant.size);
    }
