-- What a run comes to where no device failed.
use Rattle.std.specs.Prelude.{◌≡◌, ◌⊎◌, ℕ, List, Option, None, Some, IfSome}
use Rattle.std.proofs.Common.{refl, sym, subst, inl, inr, arith}
use Rattle.ht_io.specs.Causes.{HasRisen}
use Rattle.ht_io.specs.Devices.{Device, Grows, Rose}
use Rattle.ht_io.specs.Writing.{Fitting}
use Rattle.ht_io.proofs.Calls.{takes_all-known}
use Rattle.ht_words.specs.declared.asked.Asked.{Asked}
use Rattle.ht_cli.specs.declared.status.Status.{Status}
use Rattle.ht_cli.specs.declared.status.Status.TheVariants.{Done, Refused, Usage, ReadFault, WriteFault, NoMemory}
use Rattle.ht_cli.specs.Commands.{Command, Answers, Converts, Makes, NotConverted, Reads, RefusesRun}
use Rattle.ht_runs.specs.Converted.{PutsOutput}
use Rattle.ht_runs.specs.Filters.{Conversion, Filter}
use Rattle.ht_runs.specs.Streamed.{FinishesRun}
use Rattle.ht_runs.proofs.Known.{known_has}
use Rattle.ht_cli.specs.Exactly.{WritesExactly, sure_sink, sure_source}
use Rattle.ht_cli.specs.Tasks.{Answered, command_of}

-- all octets are known, and no device failed
module _ (all : List ℕ) (a b c d : Device ℕ) (is : a.known ≡ Some all) where
  finishes_exactly : (f : Filter) → FinishesRun f a b c d → WritesExactly (Reads f) all c d Done
  finishes_exactly f run =
      let same = (takes_all-known a b all run.taken run.octets is).1 in
      (inl (refl, subst f.IsInput (sym same) run.input), subst (λ (xs : List ℕ). Grows c d (f.text xs)) (sym same) run.text)

  refuses_exactly : (f : Filter) → RefusesRun f a b c d → WritesExactly (Reads f) all c d Refused
  refuses_exactly f run = (
    inr (refl, known_has all a.known (λ octets. f.IsInput octets → ⊥) is run.no_input),
    subst (λ (xs : List ℕ). Grows c d xs) (sym (known_has all a.known (λ octets. f.text octets ≡ f.text run.taken) is run.same_text)) run.text,
  )

  converts_exactly : (f : Conversion) → PutsOutput f a b c d → WritesExactly (Converts f) all c d Done
  converts_exactly f run =
      let same = (takes_all-known a b all run.taken run.octets is).1 in
      let input = subst f.IsInput (sym same) run.input in
      (inl (refl, input), (run.output, inl (input, subst (λ (xs : List ℕ). f.ComesTo xs run.output) (sym same) run.comes), run.put))

  stops_exactly : (f : Conversion) → NotConverted f a b c d → WritesExactly (Converts f) all c d Refused
  stops_exactly f run = (
    inr (refl, known_has all a.known (λ octets. f.IsInput octets → ⊥) is run.no_input),
    (
      f.refusal run.fault,
      inr (run.fault, known_has all a.known (λ octets. f.fault octets ≡ Some run.fault) is run.same_fault, refl),
      run.line,
    ),
  )

  module _ (reads : Rose a b → ⊥) (writes : Rose c d → ⊥) where
    exactly : (command : Command) (status : Status) → Answers command a b c d status → (status ≡ NoMemory) ⊎ WritesExactly command all c d status
    exactly (Reads f) Done run = inr (finishes_exactly f run)
    exactly (Reads f) Refused run = inr (refuses_exactly f run)
    exactly (Reads f) Usage run = absurd run
    exactly (Reads f) ReadFault run = absurd (reads run.cause)
    exactly (Reads f) WriteFault run = absurd (writes run.1)
    exactly (Reads f) NoMemory run = inl refl
    exactly (Converts f) Done run = inr (converts_exactly f run)
    exactly (Converts f) Refused run = inr (stops_exactly f run)
    exactly (Converts f) Usage run = absurd run
    exactly (Converts f) ReadFault run = absurd (reads run.cause)
    exactly (Converts f) WriteFault run = absurd (writes run.1)
    exactly (Converts f) NoMemory run = inl refl
    exactly (Makes IsText) Done run = inr (refl, run)
    exactly (Makes IsText) Refused run = absurd run
    exactly (Makes IsText) Usage run = absurd run
    exactly (Makes IsText) ReadFault run = absurd run
    exactly (Makes IsText) WriteFault run = absurd (writes run.1)
    exactly (Makes IsText) NoMemory run = inl refl

-- a device that never fails has not failed
unfailed : (count : ℕ) → count ≡ 0 → HasRisen 0 count → ⊥
unfailed count is rose = omega (arith, is, rose)

-- a run over devices that never fail
pub sure_exactly : (asked : Option Asked) (octets left : List ℕ) (held after : Fitting) (status : Status)
    → Answered asked (sure_source octets) (sure_source left) (sure_sink held) (sure_sink after) status
    → IfSome asked (λ asked. (status ≡ NoMemory) ⊎ WritesExactly (command_of asked) octets (sure_sink held) (sure_sink after) status)
sure_exactly None octets left held after status run = tt
sure_exactly (Some asked) octets left held after status run =
    exactly octets (sure_source octets) (sure_source left) (sure_sink held) (sure_sink after) refl (unfailed 0 refl) (unfailed 0 refl)
    (command_of asked) status run
