-- Nothing is taken or put, as without memory for a reader.
use Rattle.std.proofs.Common.{ℕ, List, [], IfSome, Option, None, Some}
use Rattle.ht_io.specs.Devices.{Device, GrowsByPart}
use Rattle.ht_io.proofs.Calls.{grows_by_part-none, takes-none}
use Rattle.ht_runs.specs.Streamed.{PutsPart}

none_of : (text_of : List ℕ → List ℕ) (sink : Device ℕ) (known : Option (List ℕ)) → IfSome known (λ all. GrowsByPart sink sink (text_of all))
none_of text_of sink None = tt
none_of text_of sink (Some all) = grows_by_part-none sink (text_of all)

pub nothing_put : (text_of : List ℕ → List ℕ) (source sink : Device ℕ) → PutsPart text_of source source sink sink
nothing_put text_of source sink = record {
  taken = [];
  octets = takes-none source;
  text = grows_by_part-none sink (text_of []);
  of_all = none_of text_of sink source.known;
}
