-- Which answer a call gives that writes a text or a file for an input in memory.
use Rattle.std.proofs.Common.{◌≡◌, ℕ, ◌<◌, List, drop, length, None, Some, Result, Ok, Err, inl, inr, ap, sym, ◌∙◌, arith}
use Rattle.std.proofs.Common.{length-append, length-drop}
use Rattle.std.proofs.lemmas.Bool.{cases_lt}
use Rattle.std.proofs.lemmas.Option.{none-some}
use Rattle.ht_io.specs.declared.faults.FormatFault.{FormatFault}
use Rattle.ht_fields.specs.Grammar.{Grammar}
use Rattle.ht_fields.specs.Cases.{File}
use Rattle.ht_fields.specs.Meanings.{Meaning, meaning}
use Rattle.ht_fields.proofs.Answered.{met}
use Rattle.ht_runs.specs.Formats.{IsWhole, fault_in}
use Rattle.ht_runs.specs.declared.faults.RunFault.{RunFault}
use Rattle.ht_runs.specs.declared.faults.RunFault.TheVariants.{Format, Read, Write, NoMemory}
use Rattle.ht_library.specs.declared.crossing.MizgaureRefusal.{MizgaureRefusal}
use Rattle.ht_library.specs.Written.{Answers, Handed, Making, PutsOutput, Ran, SaysFault, SaysNoMemory}

-- a whole file has no fault
pub whole_clean : {S I : Type 0} (f : Grammar S I) (octets : List ℕ) → IsWhole f octets → fault_in f octets ≡ None
whole_clean {I = I} f octets file = ap (λ (m : Meaning I). m.fault) (met f octets (meaning f f.start 0 octets).items File file)

-- what is read and how it is written, the input, and what C has before a call and after it; a whole input has no fault
module _ (f : Making) (input : List ℕ) (room room' : List ℕ) (size size' : ℕ) (refusal refusal' : MizgaureRefusal) (result : ℕ)
    (clean : f.IsInput input → f.fault input ≡ None) (run : Result (List ℕ) RunFault) (ran : Ran f input run)
    (handed : Handed room room' size size' refusal refusal' result run) where
  put_done : (output : List ℕ) → f.IsInput input → result ≡ 0 → PutsOutput room room' size size' refusal refusal' result output
      → Answers room room' size size' refusal refusal' result f input
  put_done output whole zero put =
      let fits = put.fits.0 zero in
      let size_is = put.size_is in
      let front = length-append output (drop (length output) room) in
      let behind = length-drop (length output) room in
      let all = ap (λ (xs : List ℕ). length xs) (put.put zero) in
      record {
        comes = (run, ran, handed);
        fault = inl zero;
        done = (λ z. (λ one. absurd (omega (arith, zero, one)), whole, omega (arith, size_is, fits)), λ is. zero);
        no_room = (λ seven. absurd (omega (arith, zero, seven)), λ is. let less = is.2 in absurd (omega (arith, size_is, fits, less)));
        refused = (λ eight. absurd (omega (arith, zero, eight)), λ is. absurd (is.1 (clean whole)));
        kept = λ not_zero. absurd (not_zero zero);
        no_size = λ faulty. elim faulty [ inl one ↦ absurd (omega (arith, zero, one)) | inr eight ↦ absurd (omega (arith, zero, eight)) ];
        no_refusal = λ not_eight. put.no_refusal;
        long = omega (arith, all, front, behind, fits);
      }

  put_not : (output : List ℕ) → f.IsInput input → result ≡ 7 → PutsOutput room room' size size' refusal refusal' result output
      → Answers room room' size size' refusal refusal' result f input
  put_not output whole seven put =
      let size_is = put.size_is in
      let wide : length room < length output = elim (cases_lt (length room) (length output)) [
        | inl less ↦ less
        | inr fits ↦ let zero = put.fits.1 fits in absurd (omega (arith, seven, zero))
      ] in
      record {
        comes = (run, ran, handed);
        fault = inr (inr (inl seven));
        done = (λ zero. absurd (omega (arith, zero, seven)), λ is. let most = is.2 in absurd (omega (arith, size_is, wide, most)));
        no_room = (λ s. (λ one. absurd (omega (arith, seven, one)), whole, omega (arith, size_is, wide)), λ is. seven);
        refused = (λ eight. absurd (omega (arith, seven, eight)), λ is. absurd (is.1 (clean whole)));
        kept = λ not_zero. put.kept seven;
        no_size = λ faulty. elim faulty [ inl one ↦ absurd (omega (arith, seven, one)) | inr eight ↦ absurd (omega (arith, seven, eight)) ];
        no_refusal = λ not_eight. put.no_refusal;
        long = ap (λ (xs : List ℕ). length xs) (put.kept seven);
      }

  said : (fault : FormatFault) → f.fault input ≡ Some fault → SaysFault room room' size size' refusal refusal' result fault
      → Answers room room' size size' refusal refusal' result f input
  said fault is says =
      let eight = says.refused in
      record {
        comes = (run, ran, handed);
        fault = inr (inr (inr eight));
        done = (λ zero. absurd (omega (arith, zero, eight)), λ both. absurd (none-some fault (sym (clean both.1) ∙ is)));
        no_room = (λ seven. absurd (omega (arith, seven, eight)), λ both. absurd (none-some fault (sym (clean both.1) ∙ is)));
        refused = (λ e. (λ one. absurd (omega (arith, one, eight)), λ none. absurd (none-some fault (sym none ∙ is))), λ both. eight);
        kept = λ not_zero. says.kept;
        no_size = λ faulty. says.no_size;
        no_refusal = λ not_eight. absurd (not_eight eight);
        long = ap (λ (xs : List ℕ). length xs) says.kept;
      }

  no_memory : SaysNoMemory room room' size size' refusal refusal' result → Answers room room' size size' refusal refusal' result f input
  no_memory says =
      let one = says.memory in
      record {
        comes = (run, ran, handed);
        fault = inr (inl one);
        done = (λ zero. absurd (omega (arith, zero, one)), λ both. absurd (both.0 one));
        no_room = (λ seven. absurd (omega (arith, seven, one)), λ both. absurd (both.0 one));
        refused = (λ eight. absurd (omega (arith, eight, one)), λ both. absurd (both.0 one));
        kept = λ not_zero. says.kept;
        no_size = λ faulty. says.no_size;
        no_refusal = λ not_eight. says.no_refusal;
        long = ap (λ (xs : List ℕ). length xs) says.kept;
      }

-- what a run over the input comes to was handed over
pub answers_by : (f : Making) (input : List ℕ) (room room' : List ℕ) (size size' : ℕ) (refusal refusal' : MizgaureRefusal) (result : ℕ)
    → (f.IsInput input → f.fault input ≡ None) → (run : Result (List ℕ) RunFault) → Ran f input run
    → Handed room room' size size' refusal refusal' result run → Answers room room' size size' refusal refusal' result f input
answers_by f input room room' size size' refusal refusal' result clean (Ok output) ran put = elim put.ends [
  | inl zero ↦ put_done f input room room' size size' refusal refusal' result clean (Ok output) ran put output ran.0 zero put
  | inr seven ↦ put_not f input room room' size size' refusal refusal' result clean (Ok output) ran put output ran.0 seven put
]
answers_by f input room room' size size' refusal refusal' result clean (Err (Format fault)) ran says =
    said f input room room' size size' refusal refusal' result clean (Err (Format fault)) ran says fault ran says
answers_by f input room room' size size' refusal refusal' result clean (Err Read) ran says =
    no_memory f input room room' size size' refusal refusal' result clean (Err Read) ran says says
answers_by f input room room' size size' refusal refusal' result clean (Err Write) ran says =
    no_memory f input room room' size size' refusal refusal' result clean (Err Write) ran says says
answers_by f input room room' size size' refusal refusal' result clean (Err NoMemory) ran says =
    no_memory f input room room' size size' refusal refusal' result clean (Err NoMemory) ran says says
