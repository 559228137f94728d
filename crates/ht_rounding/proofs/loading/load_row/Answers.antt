use Rattle.std.proofs.Common.{slice_index_or}
use Rattle.ht_rounding.specs.Loading.{no_job}
use Rattle.ht_rounding.proofs.Loaded.{row-loaded}
use Rattle.ht_rounding.proofs.loading.load_row.Goals as goal

pub returns-clause-row : goal.returns-clause-row
returns-clause-row c k lt =
    row-loaded c.row_of.result c.samples_of.result k c.args.row (slice_index_or c.args.jobs.now k no_job).system (c.row_of.ensures.diagonal k lt)
    (c.row_of.ensures.next_re k lt) (c.row_of.ensures.next_im k lt) (c.row_of.ensures.second_re k lt) (c.row_of.ensures.second_im k lt)
    (c.row_of.ensures.third_re k lt) (c.row_of.ensures.third_im k lt) (c.samples_of.ensures.re k lt) (c.samples_of.ensures.im k lt)
