-- What is promised of a command in the form for all commands, in the words of captures.
use Rattle.std.specs.Prelude.{◌≡◌, ℕ, List, [], Some}
use Rattle.std.proofs.Common.{sym, subst}
use Rattle.ht_io.specs.Devices.{Device, Grows}
use Rattle.ht_io.proofs.Calls.{takes_all-known}
use Rattle.ht_runs.proofs.Known.{known_has}
use Rattle.ht_cli.specs.declared.status.Status.TheVariants.{Done, Refused, ReadFault, WriteFault, NoMemory}
use Rattle.ht_cli.specs.Streaming.{IsCapture, StreamsAs, StreamsFront, StreamsLines, StreamsPart, StreamsRefused, StreamsWhole}

module _ (lines text : List ℕ → List ℕ) (a b k l : Device ℕ) where
  pub finishes : StreamsAs lines text a b k l Done → StreamsWhole lines text a b k l
  finishes run = record { taken = run.taken; octets = run.octets; capture = run.input; put = run.text }

  pub refuses : StreamsAs lines text a b k l Refused → StreamsRefused lines text a b k l
  refuses run = record {
    taken = run.taken;
    fault = run.fault;
    octets = run.octets;
    refused = run.refused;
    ends = run.ends;
    put = run.text;
    no_capture = run.no_input;
    same_fault = run.same_fault;
    same_text = run.same_text;
  }

  pub breaks_off : StreamsAs lines text a b k l ReadFault → StreamsFront lines text a b k l
  breaks_off run = record { taken = run.taken; octets = run.octets; front = run.front; put = run.text }

  pub part_put : StreamsAs lines text a b k l WriteFault → StreamsPart lines text a b k l
  part_put run = record { taken = run.0.taken; octets = run.0.octets; put = run.0.text; of_all = run.0.of_all }

  pub lines_put : StreamsAs lines text a b k l NoMemory → StreamsLines lines text a b k l
  lines_put run = record { taken = run.taken; octets = run.octets; put = run.text; of_all = run.of_all }

  -- known octets are those that were taken
  pub all_of_capture : (all : List ℕ) → a.known ≡ Some all → StreamsAs lines text a b k l Done
      → IsCapture all × Grows k l (text all) × (b.known ≡ Some [])
  all_of_capture all is run =
      let taken = takes_all-known a b all run.taken run.octets is in
      (subst IsCapture (sym taken.1) run.input, subst (λ (octets : List ℕ). Grows k l (text octets)) (sym taken.1) run.text, taken.0)

  pub text_of_refused : (all : List ℕ) → a.known ≡ Some all → StreamsAs lines text a b k l Refused
      → (IsCapture all → ⊥) × Grows k l (text all)
  text_of_refused all is run =
      let same = known_has all a.known (λ octets. text octets ≡ text run.taken) is run.same_text in
      (known_has all a.known (λ octets. IsCapture octets → ⊥) is run.no_input, subst (λ (xs : List ℕ). Grows k l xs) (sym same) run.text)
