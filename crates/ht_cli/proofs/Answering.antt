-- What a run comes to whose call has answered, and which then puts the line of the first fault, if there is one.
use Rattle.std.specs.Prelude.{◌≡◌, ℕ, List, ◌++◌, Option, Some, None, IfSome, Result, Ok, Err}
use Rattle.std.proofs.Common.{refl, ap, ◌∙◌, sym, subst, inl, inr}
use Rattle.std.proofs.lemmas.Option.{IfSome_then}
use Rattle.ht_io.specs.Devices.{Device, Grows, GrowsByPart, Rose, IsLater}
use Rattle.ht_io.specs.declared.faults.FormatFault.{FormatFault}
use Rattle.ht_io.proofs.Calls.{failed-later, grows-append, grows_by_part-append, grows_by_part-front}
use Rattle.ht_runs.specs.Converted.{Converted, FindsFault, LacksMemory, LeavesOff, PutsOutput, PutsPartOfOutput}
use Rattle.ht_runs.specs.Filters.{Conversion, Filter, unrefused, where_faulty}
use Rattle.ht_runs.specs.Streamed.{BreaksOff, EndsWithItsFault, FinishesRun, PutsPart, StopsAtFault, Streamed, line_of_fault}
use Rattle.ht_runs.specs.declared.faults.RunFault.{RunFault}
use Rattle.ht_runs.specs.declared.faults.RunFault.TheVariants.{Format, Read, Write, NoMemory}
use Rattle.ht_runs.proofs.Converting.{nothing_put}
use Rattle.ht_runs.proofs.Known.{by_part, known_all, takes_of}
use Rattle.ht_cli.specs.declared.status.Status.{Status}
use Rattle.ht_cli.specs.declared.status.Status.TheVariants.{Refused, WriteFault, NoMemory as OutOfMemory}
use Rattle.ht_cli.specs.Commands.{Answers, Converts, IsWritten, Reads, WritesPart}
use Rattle.ht_cli.specs.Stopping.{Settles, status_of}

-- what holds of known octets by two facts
both : (known : Option (List ℕ)) (P Q R : List ℕ → Type 0) → IfSome known P → IfSome known Q → ((xs : List ℕ) → P xs → Q xs → R xs) → IfSome known R
both None P Q R p q so = tt
both (Some xs) P Q R p q so = so xs p q

-- a run that writes while it reads; the source before and after it, and the sink before it
module _ (f : Filter) (ends : EndsWithItsFault f) (a b c : Device ℕ) where
  -- a text without the line of its fault is a part of it
  whole_part : (d e : Device ℕ) (octets : List ℕ) (fault : Option FormatFault) → f.fault octets ≡ fault
      → GrowsByPart d e (where_faulty fault (f.front octets) (f.text octets)) → GrowsByPart d e (f.text octets)
  whole_part d e octets None is part = part
  whole_part d e octets (Some fault) is part =
      subst (λ (xs : List ℕ). GrowsByPart d e xs) (ends octets fault is) (grows_by_part-front d e (f.front octets) (line_of_fault fault) part)

  -- the sink once its call has answered
  module _ (d : Device ℕ) (later : IsLater c d) (fault : FormatFault) (run : StopsAtFault f a b c d fault) (e : Device ℕ) where
    same_text : IfSome a.known (λ all. f.text all ≡ f.text run.taken)
    same_text =
        both a.known (λ all. f.fault all ≡ Some fault) (λ all. f.front all ≡ f.front run.taken) (λ all. f.text all ≡ f.text run.taken)
        run.same_fault run.same_front
        (λ all is front. sym (ends all fault is) ∙ (ap (λ (xs : List ℕ). xs ++ line_of_fault fault) front ∙ ends run.taken fault run.refused))

    refused : Grows d e (line_of_fault fault) → Answers (Reads f) a b c e Refused
    refused line = record {
      taken = run.taken;
      fault = fault;
      octets = run.octets;
      refused = run.refused;
      ends = run.ends;
      text = subst (λ (xs : List ℕ). Grows c e xs) (ends run.taken fault run.refused)
          (grows-append c d e (f.front run.taken) (line_of_fault fault) run.front line);
      no_input = run.no_input;
      same_fault = run.same_fault;
      same_text = same_text;
    }

    refused_in_part : GrowsByPart d e (line_of_fault fault) → Rose d e → Answers (Reads f) a b c e WriteFault
    refused_in_part line rose =
        let put = subst (λ (xs : List ℕ). GrowsByPart c e xs) (ends run.taken fault run.refused)
        (grows_by_part-append c d e (f.front run.taken) (line_of_fault fault) run.front line) in (
          record {
            taken = run.taken;
            octets = run.octets;
            text = put;
            of_all = IfSome_then a.known same_text (λ all is. subst (λ (xs : List ℕ). GrowsByPart c e xs) (sym is) put);
          },
          failed-later c d e later rose,
        )

    unrefused_yet : Answers (Reads f) a b c d OutOfMemory
    unrefused_yet =
        let put = by_part c d (f.front run.taken) run.front in
        record {
          taken = run.taken;
          octets = run.octets;
          text = put;
          of_all = IfSome_then a.known run.same_front (λ all is. subst (λ (xs : List ℕ). GrowsByPart c d xs) (sym is) put);
        }

  pub streams : {A : Type 0} (Says : A → List ℕ → Type 0) (result : Result A RunFault) (d e : Device ℕ) (status : Status)
      → Streamed f a b c d Says result → IsLater c d → Settles result d e status → Answers (Reads f) a b c e status
  streams Says (Ok answer) d e status run later (is, same) =
      subst (λ s. Answers (Reads f) a b c e s) (sym is) (subst (λ (k : Device ℕ). FinishesRun f a b c k) (sym same) run.0)
  streams Says (Err (Format fault)) d e status run later (last, is, inl (so, line)) =
      subst (λ s. Answers (Reads f) a b c e s) (sym (is ∙ ap status_of so)) (refused d later fault run e line)
  streams Says (Err (Format fault)) d e status run later (last, is, inr (inl (so, line, rose))) =
      subst (λ s. Answers (Reads f) a b c e s) (sym (is ∙ ap status_of so)) (refused_in_part d later fault run e line rose)
  streams Says (Err (Format fault)) d e status run later (last, is, inr (inr (so, same))) =
      subst (λ s. Answers (Reads f) a b c e s) (sym (is ∙ ap status_of so))
      (subst (λ (k : Device ℕ). PutsPart f.front a b c k) (sym same) (unrefused_yet d later fault run e))
  streams Says (Err Read) d e status run later (last, is, (so, same)) =
      subst (λ s. Answers (Reads f) a b c e s) (sym (is ∙ ap status_of so)) (subst (λ (k : Device ℕ). BreaksOff f a b c k) (sym same) run)
  streams Says (Err Write) d e status (part, rose) later (last, is, (so, same)) =
      let own : (octets : List ℕ) → GrowsByPart c d (unrefused f octets) → GrowsByPart c d (f.text octets) =
      λ octets put. whole_part c d octets (f.fault octets) refl put in
      let whole : PutsPart f.text a b c d = record {
        taken = part.taken;
        octets = part.octets;
        text = own part.taken part.text;
        of_all = IfSome_then a.known part.of_all own;
      } in
      subst (λ s. Answers (Reads f) a b c e s) (sym (is ∙ ap status_of so))
      (subst (λ (k : Device ℕ). PutsPart f.text a b c k) (sym same) whole, subst (λ (k : Device ℕ). Rose c k) (sym same) rose)
  streams Says (Err NoMemory) d e status run later (last, is, (so, same)) =
      subst (λ s. Answers (Reads f) a b c e s) (sym (is ∙ ap status_of so)) (subst (λ (k : Device ℕ). PutsPart f.front a b c k) (sym same) run)

-- a run that reads its input to its end first
module _ (f : Conversion) (lines : (fault : FormatFault) → line_of_fault fault ≡ f.refusal fault) (a b c : Device ℕ) where
  part_of_output : (d : Device ℕ) → PutsPartOfOutput f a b c d → WritesPart f a b c d
  part_of_output d run = record {
    taken = run.taken;
    text = run.output;
    octets = takes_of a b run.taken run.octets;
    written = inl (run.input, run.comes);
    of_all = known_all a.known b.known run.taken (λ xs. IsWritten f xs run.output) run.octets (inl (run.input, run.comes));
    put = run.put;
  }

  module _ (fault : FormatFault) (d e : Device ℕ) (run : FindsFault f a b c d fault) where
    not_converted : Grows d e (line_of_fault fault) → Answers (Converts f) a b c e Refused
    not_converted line = record {
      taken = run.taken;
      fault = fault;
      octets = run.octets;
      refused = run.refused;
      line = subst (λ (k : Device ℕ). Grows k e (f.refusal fault)) run.nothing (subst (λ (xs : List ℕ). Grows d e xs) (lines fault) line);
      no_input = run.no_input;
      same_fault = run.same_fault;
    }

    line_in_part : GrowsByPart d e (line_of_fault fault) → Rose d e → Answers (Converts f) a b c e WriteFault
    line_in_part line rose = (
      record {
        taken = run.taken;
        text = f.refusal fault;
        octets = run.octets;
        written = inr (fault, run.refused, refl);
        of_all = IfSome_then a.known run.same_fault (λ all is. inr (fault, is, refl));
        put = subst (λ (k : Device ℕ). GrowsByPart k e (f.refusal fault)) run.nothing
            (subst (λ (xs : List ℕ). GrowsByPart d e xs) (lines fault) line);
      },
      subst (λ (k : Device ℕ). Rose k e) run.nothing rose,
    )

  pub converts : {A : Type 0} (Says : A → List ℕ → Type 0) (result : Result A RunFault) (d e : Device ℕ) (status : Status)
      → Converted f a b c d Says result → Settles result d e status → Answers (Converts f) a b c e status
  converts Says (Ok answer) d e status run (is, same) =
      subst (λ s. Answers (Converts f) a b c e s) (sym is) (subst (λ (k : Device ℕ). PutsOutput f a b c k) (sym same) run.0)
  converts Says (Err (Format fault)) d e status run (last, is, inl (so, line)) =
      subst (λ s. Answers (Converts f) a b c e s) (sym (is ∙ ap status_of so)) (not_converted fault d e run line)
  converts Says (Err (Format fault)) d e status run (last, is, inr (inl (so, line, rose))) =
      subst (λ s. Answers (Converts f) a b c e s) (sym (is ∙ ap status_of so)) (line_in_part fault d e run line rose)
  converts Says (Err (Format fault)) d e status run (last, is, inr (inr (so, same))) =
      subst (λ s. Answers (Converts f) a b c e s) (sym (is ∙ ap status_of so))
      (subst (λ (k : Device ℕ). LacksMemory f a b c k f.memory) (sym (same ∙ run.nothing)) (nothing_put f f.memory a b c))
  converts Says (Err Read) d e status run (last, is, (so, same)) =
      subst (λ s. Answers (Converts f) a b c e s) (sym (is ∙ ap status_of so)) (subst (λ (k : Device ℕ). LeavesOff f a b c k) (sym same) run)
  converts Says (Err Write) d e status (part, rose) (last, is, (so, same)) =
      subst (λ s. Answers (Converts f) a b c e s) (sym (is ∙ ap status_of so))
      (subst (λ (k : Device ℕ). WritesPart f a b c k) (sym same) (part_of_output d part), subst (λ (k : Device ℕ). Rose c k) (sym same) rose)
  converts Says (Err NoMemory) d e status run (last, is, (so, same)) =
      subst (λ s. Answers (Converts f) a b c e s) (sym (is ∙ ap status_of so)) (subst (λ (k : Device ℕ). LacksMemory f a b c k f.memory) (sym same) run)
