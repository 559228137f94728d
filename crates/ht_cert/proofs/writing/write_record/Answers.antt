use Rattle.std.proofs.Common.{ℕ, List, subst}
use Rattle.ht_io.specs.Devices.{Puts}
use Rattle.ht_cert.proofs.Written.{record_put}
use Rattle.ht_cert.proofs.writing.write_record.Goals as goal

pub returns : goal.returns
returns g c =
    subst (λ (octets : List ℕ). Puts (g.K.Sink.shown c.args.sink.now) (g.K.Sink.shown c.put_packed.new.sink) octets c.put_packed.result)
    (record_put c.args.recorded.now c.front.new.chunk c.as_slice-marks.result.now c.front.ensures.put c.as_slice-marks.ensures)
    (record {
      grown = c.put_packed.ensures.grown;
      steady = c.put_packed.ensures.steady;
      part = c.put_packed.ensures.part;
      cause = c.put_packed.ensures.cause;
      later = c.put_packed.ensures.later;
    })
