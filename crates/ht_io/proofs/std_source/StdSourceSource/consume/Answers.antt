use Rattle.std.proofs.Common.{◌==◌}
use Rattle.std.specs.Io.Buffered.{reader_buffer, reader_capacity}
use Rattle.ht_io.specs.Standard.{inner_of}
use Rattle.ht_io.proofs.Hands.{consumes-behind}
use Rattle.ht_io.proofs.std_source.StdSourceSource.consume.Goals as goal

pub returns-clause-passed : goal.returns-clause-passed
returns-clause-passed g c =
    let was = c.consume.ensures in
    rw (was.capacity, was.inner, was.buffer)
    (consumes-behind (reader_capacity (inner_of c.args.self.now) == 0) (reader_buffer (inner_of c.args.self.now))
    (g.R.Read.remaining (inner_of c.args.self.now).inner) c.args.count)
