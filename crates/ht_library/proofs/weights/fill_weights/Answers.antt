use Rattle.std.proofs.Common.{◌+◌, ◌*◌, ◌-◌, ap, drop, length, refl, ◌∙◌}
use Rattle.ht_metric.specs.Jobs.{JobView}
use Rattle.ht_soft.proofs.Cuts.{full-grid}
use Rattle.ht_library.proofs.Weighing.{put-length, put-size, put-weights, size-is, within-all}
use Rattle.ht_library.proofs.weights.fill_weights.Goals as goal

pub weigh-least-requires-clause-full : goal.weigh-least-requires-clause-full
weigh-least-requires-clause-full c =
    full-grid c.args.rate.now c.job_at-job.result.grid c.modulation-modulation.result (ap (λ (j : JobView). j.grid) c.job_at-job.ensures.value)
    c.modulation-modulation.ensures

pub weigh-least-requires-clause-size : goal.weigh-least-requires-clause-size
weigh-least-requires-clause-size c =
    let e = c.from.result * c.from-2.result in
    let streams = c.from.ensures ∙ c.streams.ensures.value in
    let bits = c.from-2.ensures ∙ c.label_bits.ensures.value in
    let room = within-all c.args.rate.now c.from.result c.from-2.result e streams bits refl c.loop-k.k (length c.args.received.now) (length c.loop-k.weights)
    c.loop-k-test.true (c.loop-k.invariant.size ∙ c.requires.each) in
    size-is c.args.rate.now c.from.result c.from-2.result e streams bits refl c.modulation-modulation.result c.job_at-job.result (c.loop-k.k * e)
    c.loop-k.weights c.modulation-modulation.ensures c.job_at-job.ensures.streams room

pub loop-k-preserved : goal.loop-k-preserved
loop-k-preserved c =
    let r = c.args.rate.now in
    let e = c.from.result * c.from-2.result in
    let a = c.loop-k.k * e in
    let ws = c.loop-k.weights in
    let put = c.weigh-least.new.weights in
    let behind = drop (a + e - a) (drop a ws) in
    let m = c.modulation-modulation.result in
    let job = c.job_at-job.result in
    let streams = c.from.ensures ∙ c.streams.ensures.value in
    let bits = c.from-2.ensures ∙ c.label_bits.ensures.value in
    let room = within-all r c.from.result c.from-2.result e streams bits refl c.loop-k.k (length c.args.received.now) (length ws)
    c.loop-k-test.true (c.loop-k.invariant.size ∙ c.requires.each) in
    let size = put-size r c.from.result c.from-2.result e streams bits refl m job put c.modulation-modulation.ensures c.job_at-job.ensures.streams
    c.weigh-least.ensures.weights in
    record {
      size = put-length r c.from.result c.from-2.result e streams bits refl a ws put behind size room refl ∙ c.loop-k.invariant.size;
      done = put-weights r c.from.result c.from-2.result e streams bits refl c.args.channels.now c.args.received.now ws put behind c.loop-k.k m job
          c.modulation-modulation.ensures c.job_at-job.ensures.value c.job_at-job.ensures.streams c.loop-k.invariant.done c.weigh-least.ensures.weights room;
    }
