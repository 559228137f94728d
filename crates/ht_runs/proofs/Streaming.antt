-- What a call comes to that reads a file, puts lines while it reads, and then the line that ends them.
use Rattle.std.specs.Prelude.{◌≡◌, ℕ, ◌+◌, List, ◌++◌, length, take, Option, Some, None, IfSome}
use Rattle.std.proofs.Common.{refl, ap, ◌∙◌, sym, subst, arith}
use Rattle.std.proofs.lemmas.Option.{IfSome_then, none-some}
use Rattle.ht_io.specs.Devices.{Device, Takes, TakesAll, Grows, GrowsByPart, Rose}
use Rattle.ht_io.specs.declared.faults.FormatFault.{FormatFault}
use Rattle.ht_io.proofs.Calls.{grows-append, grows_by_part-front, grows_by_part-append}
use Rattle.ht_fields.specs.Grammar.{Grammar}
use Rattle.ht_fields.specs.Cases.{File}
use Rattle.ht_fields.specs.Meanings.{Meaning, meaning}
use Rattle.ht_fields.specs.Readers.{IsEarly}
use Rattle.ht_fields.proofs.Answered.{file_found, met}
use Rattle.ht_fields.proofs.Joins.{early_text}
use Rattle.ht_runs.specs.Filters.{unrefused, where_faulty}
use Rattle.ht_runs.specs.Formats.{IsFaultless, IsLined, IsWhole, filter, last_text, lines_by, text_by}
use Rattle.ht_runs.specs.Outcomes.{IsFrontOf, TellsWhole, TellsRefused, TellsBroken, TellsPieces}
use Rattle.ht_runs.specs.Streamed.{BreaksOff, EndsWithItsFault, FinishesRun, PutsPart, StopsAtFault, StreamFails}
use Rattle.ht_runs.specs.declared.faults.RunFault.TheVariants.{Write, NoMemory}
use Rattle.ht_runs.proofs.Known.{by_part, known_all, takes_of}

-- what has a fault is no file
pub no_file : {S I : Type 0} (f : Grammar S I) (octets : List ℕ) (fault : FormatFault) → (meaning f f.start 0 octets).fault ≡ Some fault
    → IsWhole f octets → ⊥
no_file {I = I} f octets fault is file =
    none-some fault (sym (ap (λ (m : Meaning I). m.fault) (met f octets (meaning f f.start 0 octets).items File file)) ∙ is)

faultless : {S I : Type 0} (f : Grammar S I) (octets : List ℕ) → IsFrontOf f octets → IsFaultless f octets
faultless f octets front =
    let place : length octets ≡ 0 + length octets = omega arith in
    early_text f octets (subst (λ n. IsEarly n (meaning f f.start 0 octets).fault) place front)

-- lines that are made of the items
pub lined : {S I : Type 0} (f : Grammar S I) (lines_of end_of : List I → List ℕ) → IsLined f (text_by f lines_of end_of) (lines_by f lines_of) end_of
lined {I = I} f lines_of end_of = record { text_is = λ octets. refl; same = λ a b is. ap (λ (m : Meaning I). lines_of m.items) is }

-- a format, the text and the lines of its files, and the line that ends them
module _ {S I : Type 0} (f : Grammar S I) (text lines : List ℕ → List ℕ) (end_of : List I → List ℕ) (s : IsLined f text lines end_of) where
  text_where : (octets : List ℕ) (fault : Option FormatFault) → (meaning f f.start 0 octets).fault ≡ fault
      → lines octets ++ last_text fault (end_of (meaning f f.start 0 octets).items) ≡ text octets
  text_where octets fault is =
      ap (λ (e : Option FormatFault). lines octets ++ last_text e (end_of (meaning f f.start 0 octets).items)) (sym is) ∙ s.text_is octets

  -- the text of octets with a fault ends with its line
  pub ends_with_its_fault : EndsWithItsFault (filter f text lines)
  ends_with_its_fault octets fault is = text_where octets (Some fault) is

  -- the text without that line
  abbrev own_text : List ℕ → List ℕ
  own_text octets = unrefused (filter f text lines) octets

  lines_part : (sink sink' : Device ℕ) (octets : List ℕ) (fault : Option FormatFault) → (meaning f f.start 0 octets).fault ≡ fault
      → GrowsByPart sink sink' (lines octets) → GrowsByPart sink sink' (where_faulty fault (lines octets) (text octets))
  lines_part sink sink' octets None is part =
      subst (λ (xs : List ℕ). GrowsByPart sink sink' xs) (text_where octets None is)
      (grows_by_part-front sink sink' (lines octets) (end_of (meaning f f.start 0 octets).items) part)
  lines_part sink sink' octets (Some fault) is part = part

  -- the source before and after, and the sink before
  module _ (source source' sink : Device ℕ) where
    -- a part of a text that is the same for all octets that were left
    part : (text_of : List ℕ → List ℕ) (sink' : Device ℕ) (taken : List ℕ) → Takes source source' taken → GrowsByPart sink sink' (text_of taken)
        → IfSome source.known (λ all. text_of all ≡ text_of taken) → PutsPart text_of source source' sink sink'
    part text_of sink' taken octets put same =
        record {
          taken = taken;
          octets = octets;
          text = put;
          of_all = IfSome_then source.known same (λ all is. subst (λ (xs : List ℕ). GrowsByPart sink sink' xs) (sym is) put);
        }

    all_same : (text_of : List ℕ → List ℕ) (taken : List ℕ) → TakesAll source source' taken → IfSome source.known (λ all. text_of all ≡ text_of taken)
    all_same text_of taken octets = known_all source.known source'.known taken (λ all. text_of all ≡ text_of taken) octets refl

    -- the lines of a file, of which this is said, and then its end, or a part of that, or none of it
    module _ (mid sink' : Device ℕ) (Says : List ℕ → Type 0) (end : List ℕ)
        (are : (octets : List ℕ) → Says octets → end ≡ end_of (meaning f f.start 0 octets).items) where
      whole_text : (l : TellsWhole f lines source source' sink mid Says) → lines l.taken ++ end ≡ text l.taken
      whole_text l = ap (λ (xs : List ℕ). lines l.taken ++ xs) (are l.taken l.says) ∙ text_where l.taken None l.whole

      pub ended : TellsWhole f lines source source' sink mid Says → Grows mid sink' end
          → (run : FinishesRun (filter f text lines) source source' sink sink') × Says run.taken
      ended l last = (
        record {
          taken = l.taken;
          octets = l.octets;
          input = file_found f l.taken l.whole;
          text = subst (Grows sink sink') (whole_text l) (grows-append sink mid sink' (lines l.taken) end l.put last);
        },
        l.says,
      )

      pub ended_in_part : TellsWhole f lines source source' sink mid Says → GrowsByPart mid sink' end → Rose sink sink'
          → StreamFails (filter f text lines) source source' sink sink' Write
      ended_in_part l last rose =
          let put = grows_by_part-append sink mid sink' (lines l.taken) end l.put last in
          let whole : text l.taken ≡ own_text l.taken =
          ap (λ (e : Option FormatFault). where_faulty e (lines l.taken) (text l.taken)) (sym l.whole) in (
            part own_text sink' l.taken (takes_of source source' l.taken l.octets)
                (subst (GrowsByPart sink sink') (whole_text l ∙ whole) put) (all_same own_text l.taken l.octets),
            rose,
          )

    pub ended_without : (sink' : Device ℕ) (Says : List ℕ → Type 0) → TellsWhole f lines source source' sink sink' Says
        → StreamFails (filter f text lines) source source' sink sink' NoMemory
    ended_without sink' Says l =
        part lines sink' l.taken (takes_of source source' l.taken l.octets) (by_part sink sink' (lines l.taken) l.put) (all_same lines l.taken l.octets)

    -- the lines of what is whole before the first fault
    pub stopped : (sink' : Device ℕ) (fault : FormatFault) → TellsRefused f lines source source' sink sink' fault
        → StopsAtFault (filter f text lines) source source' sink sink' fault
    stopped sink' fault l =
        let fault_of : (all : List ℕ) → meaning f f.start 0 all ≡ meaning f f.start 0 l.taken → (meaning f f.start 0 all).fault ≡ Some fault =
        λ all is. ap (λ (m : Meaning I). m.fault) is ∙ l.refused in
        record {
          taken = l.taken;
          octets = l.octets;
          refused = l.refused;
          ends = λ n few. faultless f (take n l.taken) (l.ends n few);
          front = l.put;
          no_input = IfSome_then source.known l.comes (λ all is. no_file f all fault (fault_of all is));
          same_fault = IfSome_then source.known l.comes fault_of;
          same_front = IfSome_then source.known l.comes (λ all is. s.same all l.taken is);
        }

    -- the source failed, or the sink, or memory ran out
    pub broken_off : (sink' : Device ℕ) → TellsBroken f lines source source' sink sink' → Rose source source'
        → BreaksOff (filter f text lines) source source' sink sink'
    broken_off sink' l rose = record { taken = l.taken; octets = l.octets; front = faultless f l.taken l.front; text = l.put; cause = rose }

    pub written_in_part : (sink' : Device ℕ) → TellsPieces f lines source source' sink sink' → Rose sink sink'
        → StreamFails (filter f text lines) source source' sink sink' Write
    written_in_part sink' l rose =
        let own : (octets : List ℕ) → GrowsByPart sink sink' (lines octets) → GrowsByPart sink sink' (own_text octets) =
        λ octets put. lines_part sink sink' octets (meaning f f.start 0 octets).fault refl put in
        (record { taken = l.taken; octets = l.octets; text = own l.taken l.put; of_all = IfSome_then source.known l.of_all own }, rose)

    pub lacked : (sink' : Device ℕ) → TellsPieces f lines source source' sink sink'
        → StreamFails (filter f text lines) source source' sink sink' NoMemory
    lacked sink' l = record { taken = l.taken; octets = l.octets; text = l.put; of_all = l.of_all }
