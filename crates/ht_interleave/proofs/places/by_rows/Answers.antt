use Rattle.std.proofs.Common.{arith}
use Rattle.ht_interleave.specs.Steps.{first_back}
use Rattle.ht_interleave.proofs.StepFacts.{first_back-bound, column-fits, row-fits}
use Rattle.ht_interleave.proofs.places.by_rows.Goals as goal

pub overflow_mul-result : goal.overflow_mul-result
overflow_mul-result c = rw c.columns.ensures.value (omega (arith, column-fits c.args.rate.now c.args.i c.requires))

pub overflow_mul-result-2 : goal.overflow_mul-result-2
overflow_mul-result-2 c =
    rw (c.stream_bits.ensures.value, c.rows.ensures.value)
    (omega (arith, column-fits c.args.rate.now c.args.i c.requires, row-fits c.args.rate.now c.args.i c.requires))

pub overflow_sub-result-2 : goal.overflow_sub-result-2
overflow_sub-result-2 c =
    rw (c.stream_bits.ensures.value, c.rows.ensures.value, c.columns.ensures.value) (row-fits c.args.rate.now c.args.i c.requires)

pub returns-clause-value : goal.returns-clause-value
unfolding first_back
returns-clause-value c = cc

pub returns-clause-bound : goal.returns-clause-bound
returns-clause-bound c = rw (returns-clause-value c) (first_back-bound c.args.rate.now c.args.i c.requires)
