-- What a call comes to that reads a whole file, and then puts its output.
use Rattle.std.specs.Prelude.{◌≡◌, ℕ, List, [], Some}
use Rattle.std.proofs.lemmas.Option.{IfSome_then}
use Rattle.std.proofs.Common.{refl, ap, ◌∙◌, sym, inl, inr, append-nil}
use Rattle.ht_io.specs.Devices.{Device, TakesAll}
use Rattle.ht_io.specs.declared.faults.FormatFault.{FormatFault}
use Rattle.ht_io.specs.declared.faults.InFault.{InFault}
use Rattle.ht_io.specs.declared.faults.InFault.TheVariants.{Format, Read, NoMemory as ReadMemory}
use Rattle.ht_fields.specs.Grammar.{Grammar}
use Rattle.ht_fields.specs.Cases.{File, IsFile}
use Rattle.ht_fields.specs.Meanings.{Meaning, meaning}
use Rattle.ht_fields.specs.Readers.{reader_in}
use Rattle.ht_fields.specs.WholeFiles.{EndsEarly, HasFirstFault}
use Rattle.ht_fields.proofs.Answered.{file_found, met}
use Rattle.ht_fields.proofs.Joins.{early_text}
use Rattle.ht_runs.specs.Converted.{ConversionFails, FindsFault, LacksMemory, TakesWhole}
use Rattle.ht_runs.specs.Faults.{fault_of_reading}
use Rattle.ht_runs.specs.Filters.{Conversion, BeforeOutput, MemoryUse, WithinOutput}
use Rattle.ht_runs.specs.Formats.{IsWhole, conversion}
use Rattle.ht_runs.proofs.Known.{known, known_all, takes_of}
use Rattle.ht_runs.proofs.Streaming.{no_file}

-- a file with these items is whole
pub whole_from : {S I : Type 0} (f : Grammar S I) (octets : List ℕ) (items : List I) → IsFile f octets items → IsWhole f octets
whole_from {I = I} f octets items file = file_found f octets (ap (λ (m : Meaning I). m.fault) (met f octets items File file))

-- where memory ran out nothing was put
pub nothing_put : (f : Conversion) (memory : MemoryUse) (source source' sink : Device ℕ) → LacksMemory f source source' sink sink memory
nothing_put f BeforeOutput source source' sink = refl
nothing_put f WithinOutput source source' sink = inl refl

-- a format and what its files come to; the source before and after, and the sink before
module _ {S I : Type 0} (f : Grammar S I) (memory : MemoryUse) (comes_to : List ℕ → List ℕ → Type 0) (source source' sink : Device ℕ) where
  first_fault : (fault : FormatFault) → HasFirstFault (reader_in f f.start 0 source) source' fault
      → FindsFault (conversion f memory comes_to) source source' sink sink fault
  first_fault fault (taken, inl (takes, all)) =
      let here = ap (λ (xs : List ℕ). (meaning f f.start 0 xs).fault) (sym (append-nil taken)) ∙ all [] in
      let of_all = known source.known source'.known taken (λ xs. (meaning f f.start 0 xs).fault ≡ Some fault) takes all in
      record {
        taken = taken;
        octets = takes;
        refused = here;
        no_input = IfSome_then source.known of_all (λ xs is. no_file f xs fault is);
        same_fault = of_all;
        nothing = refl;
      }
  first_fault fault (taken, inr (takes, is)) =
      let of_all = known_all source.known source'.known taken (λ xs. (meaning f f.start 0 xs).fault ≡ Some fault) takes is in
      record {
        taken = taken;
        octets = takes_of source source' taken takes;
        refused = is;
        no_input = IfSome_then source.known of_all (λ xs is. no_file f xs fault is);
        same_fault = of_all;
        nothing = refl;
      }

  -- the input was not read to its end, and nothing was put
  pub not_read : (fault : InFault) → EndsEarly (reader_in f f.start 0 source) source' fault
      → ConversionFails (conversion f memory comes_to) source source' sink sink (fault_of_reading fault)
  not_read (Format fault) ends = first_fault fault ends
  not_read Read (rose, (taken, octets, early)) = record { taken = taken; octets = octets; front = early_text f taken early; cause = rose; nothing = refl }
  not_read ReadMemory ends = nothing_put (conversion f memory comes_to) memory source source' sink

  -- all that was left is a file with these items; the sink after
  module _ (taken output : List ℕ) (items : List I) (octets : TakesAll source source' taken) (file : IsFile f taken items)
      (comes : comes_to taken output) (sink' : Device ℕ) where
    -- this was put of its output: all of it, or a part
    pub takes_whole : (Puts : List ℕ → Type 0) → Puts output → TakesWhole (conversion f memory comes_to) source source' sink sink' Puts
    takes_whole Puts put =
        record { taken = taken; output = output; octets = octets; input = whole_from f taken items file; comes = comes; put = put }
