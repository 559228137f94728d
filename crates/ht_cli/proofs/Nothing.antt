-- A run that read nothing and put nothing, for lack of memory.
use Rattle.std.specs.Prelude.{ℕ, List, [], Option, Some, None, IfSome}
use Rattle.std.proofs.Common.{refl}
use Rattle.ht_io.specs.Devices.{Device, GrowsByPart}
use Rattle.ht_io.proofs.Calls.{takes-none, grows_by_part-none}
use Rattle.ht_runs.proofs.Converting.{nothing_put}
use Rattle.ht_words.specs.declared.asked.Asked.{Asked}
use Rattle.ht_cli.specs.declared.status.Status.TheVariants.{NoMemory}
use Rattle.ht_cli.specs.Commands.{Command, Answers, Reads, Converts, Makes}
use Rattle.ht_cli.specs.Tasks.{Answered, CarriesOut, command_of}

none_of_all : (known : Option (List ℕ)) (text : List ℕ → List ℕ) (sink : Device ℕ) → IfSome known (λ all. GrowsByPart sink sink (text all))
none_of_all None text sink = tt
none_of_all (Some all) text sink = grows_by_part-none sink (text all)

nothing_of : (command : Command) (source sink : Device ℕ) → Answers command source source sink sink NoMemory
nothing_of (Reads f) source sink = record {
  taken = [];
  octets = takes-none source;
  text = grows_by_part-none sink (f.front []);
  of_all = none_of_all source.known f.front sink;
}
nothing_of (Converts f) source sink = nothing_put f f.memory source source sink
nothing_of (Makes IsText) source sink = refl

nothing_done : (asked : Option Asked) (source sink : Device ℕ) → Answered asked source source sink sink NoMemory
nothing_done None source sink = refl
nothing_done (Some asked) source sink = nothing_of (command_of asked) source sink

pub nothing_carried : {S K : Type 0} (reads : S → Device ℕ) (puts : K → Device ℕ) (asked : Option Asked) (source : S) (sink : K)
    → CarriesOut reads puts asked source source sink sink NoMemory
nothing_carried reads puts asked source sink = record {
  answered = nothing_done asked (reads source) (puts sink);
  reads_nothing = λ reading. refl;
  puts_nothing = λ none lacks. refl;
  writes = λ other. refl;
}
