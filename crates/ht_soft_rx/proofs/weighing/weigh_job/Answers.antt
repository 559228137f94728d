use Rattle.std.proofs.Common.{◌∙◌, sym, arith}
use Rattle.ht_soft.proofs.Cuts.{full-grid}
use Rattle.ht_soft_rx.proofs.Listed.{by_bits, by_search, few_weights, rows_of, size_is}
use Rattle.ht_soft_rx.proofs.weighing.weigh_job.Goals as goal

pub weigh_full-requires-clause-full : goal.weigh_full-requires-clause-full
weigh_full-requires-clause-full c =
    full-grid c.args.head.now.rate c.args.job.now.grid c.modulation-modulation.result
    (sym c.grid.ensures.grid ∙ (c.same.ensures.0 c.if-same.true ∙ c.grid-full.ensures)) c.modulation-modulation.ensures

pub weigh_full-requires-clause-size : goal.weigh_full-requires-clause-size
weigh_full-requires-clause-size c =
    size_is c.args.head.now c.args.job.now c.modulation-modulation.result c.modulation-modulation.ensures c.args.weights.now
    (rows_of c.args.head.now.rate c.args.job.now c.grid.ensures.job
    (sym c.grid.ensures.grid ∙ (c.same.ensures.0 c.if-same.true ∙ c.grid-full.ensures))) c.requires.size

pub returns-then-same-clause-weights : goal.returns-then-same-clause-weights
returns-then-same-clause-weights c =
    by_search c.args.head.now c.args.job.now c.modulation-modulation.result c.modulation-modulation.ensures c.weigh_full.new.weights
    (rows_of c.args.head.now.rate c.args.job.now c.grid.ensures.job
    (sym c.grid.ensures.grid ∙ (c.same.ensures.0 c.if-same.true ∙ c.grid-full.ensures))) c.weigh_full.ensures.weights

pub weigh_bits-requires-clause-few : goal.weigh_bits-requires-clause-few
weigh_bits-requires-clause-few c = let few = few_weights c.args.head.now in omega (arith, few, c.requires.size)

pub returns-clause-weights : goal.returns-clause-weights
returns-clause-weights c =
    by_bits c.args.head.now c.args.job.now c.modulation-modulation.result c.modulation-modulation.ensures c.weigh_bits.new.weights
    (c.weigh_bits.ensures.size ∙ c.requires.size) (λ k within. c.weigh_bits.ensures.weights k (omega (arith, within, c.requires.size)))
