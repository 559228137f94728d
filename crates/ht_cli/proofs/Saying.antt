-- What a status says of a command that reads a format, in the words of its input, its text and its output.
use Rattle.std.specs.Prelude.{◌≡◌, ◌⊎◌, ℕ, List, [], Some}
use Rattle.std.proofs.Common.{inl, inr, sym, subst}
use Rattle.ht_io.specs.Devices.{Device, Grows, GrowsByPart, Takes, TakesAll}
use Rattle.ht_io.specs.declared.faults.FormatFault.{FormatFault}
use Rattle.ht_io.proofs.Calls.{takes_all-known}
use Rattle.ht_fields.specs.Grammar.{Grammar}
use Rattle.ht_runs.specs.Converted.{LacksMemory}
use Rattle.ht_runs.specs.Filters.{Conversion, WithinOutput}
use Rattle.ht_runs.specs.Formats.{IsFaultless, IsWhole, fault_in}
use Rattle.ht_runs.proofs.Known.{known_has}
use Rattle.ht_cli.specs.declared.status.Status.TheVariants.{Done, Refused, ReadFault, WriteFault, NoMemory}
use Rattle.ht_cli.specs.Commands.{Answers, Converts, IsWritten}
use Rattle.ht_cli.specs.Filters.{streaming}

-- a command that puts lines while it reads
module _ {S I : Type 0} (f : Grammar S I) (text lines : List ℕ → List ℕ) (a b c d : Device ℕ) where
  pub text_done : Answers (streaming f text lines) a b c d Done
      → (taken : List ℕ) × TakesAll a b taken × IsWhole f taken × Grows c d (text taken)
  text_done run = (run.taken, run.octets, run.input, run.text)

  pub text_refused : Answers (streaming f text lines) a b c d Refused
      → (taken : List ℕ) × (fault : FormatFault) × Takes a b taken × (fault_in f taken ≡ Some fault) × Grows c d (text taken)
  text_refused run = (run.taken, run.fault, run.octets, run.refused, run.text)

  pub text_broken_off : Answers (streaming f text lines) a b c d ReadFault
      → (taken : List ℕ) × Takes a b taken × IsFaultless f taken × Grows c d (lines taken)
  text_broken_off run = (run.taken, run.octets, run.front, run.text)

  pub text_memory : Answers (streaming f text lines) a b c d NoMemory → (taken : List ℕ) × Takes a b taken × GrowsByPart c d (lines taken)
  text_memory run = (run.taken, run.octets, run.text)

  pub text_part : Answers (streaming f text lines) a b c d WriteFault → (taken : List ℕ) × Takes a b taken × GrowsByPart c d (text taken)
  text_part run = (run.0.taken, run.0.octets, run.0.text)

  -- known octets are those that were taken
  pub text_known : (all : List ℕ) → a.known ≡ Some all → Answers (streaming f text lines) a b c d Done → IsWhole f all × Grows c d (text all)
  text_known all is run =
      let same = (takes_all-known a b all run.taken run.octets is).1 in
      (subst (IsWhole f) (sym same) run.input, subst (λ (octets : List ℕ). Grows c d (text octets)) (sym same) run.text)

  pub text_known_refused : (all : List ℕ) → a.known ≡ Some all → Answers (streaming f text lines) a b c d Refused
      → (IsWhole f all → ⊥) × Grows c d (text all)
  text_known_refused all is run =
      let same = known_has all a.known (λ octets. text octets ≡ text run.taken) is run.same_text in (
        known_has all a.known (λ octets. IsWhole f octets → ⊥) is run.no_input,
        subst (λ (xs : List ℕ). Grows c d xs) (sym same) run.text,
      )

-- a command that reads its input to its end, and then puts its output
module _ (f : Conversion) (a b c d : Device ℕ) where
  pub output_done : Answers (Converts f) a b c d Done
      → (taken : List ℕ) × (output : List ℕ) × TakesAll a b taken × f.ComesTo taken output × Grows c d output
  output_done run = (run.taken, run.output, run.octets, run.comes, run.put)

  pub output_refused : Answers (Converts f) a b c d Refused
      → (taken : List ℕ) × (fault : FormatFault) × Takes a b taken × (f.fault taken ≡ Some fault) × Grows c d (f.refusal fault)
  output_refused run = (run.taken, run.fault, run.octets, run.refused, run.line)

  pub output_part : Answers (Converts f) a b c d WriteFault
      → (taken : List ℕ) × (text : List ℕ) × Takes a b taken × IsWritten f taken text × GrowsByPart c d text
  output_part run = (run.0.taken, run.0.text, run.0.octets, run.0.written, run.0.put)

  pub output_memory : LacksMemory f a b c d WithinOutput
      → (d ≡ c) ⊎ ((taken : List ℕ) × (output : List ℕ) × TakesAll a b taken × f.ComesTo taken output × GrowsByPart c d output)
  output_memory (inl nothing) = inl nothing
  output_memory (inr run) = inr (run.taken, run.output, run.octets, run.comes, run.put)

  pub output_known : (all : List ℕ) → a.known ≡ Some all → Answers (Converts f) a b c d Done
      → (output : List ℕ) × f.ComesTo all output × Grows c d output × (b.known ≡ Some [])
  output_known all is run =
      let taken = takes_all-known a b all run.taken run.octets is in
      (run.output, subst (λ (octets : List ℕ). f.ComesTo octets run.output) (sym taken.1) run.comes, run.put, taken.0)
