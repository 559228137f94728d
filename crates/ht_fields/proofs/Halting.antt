-- Why a reader stops, in any format.
use Rattle.std.proofs.Common.{◌≡◌, ℕ, ◌+◌, ◌<◌, List, [], length, Bool, true, refl, sym, subst, inl, inr}
use Rattle.ht_io.specs.Devices.{Device, TakesAll, IsLater}
use Rattle.ht_io.proofs.Calls.{failed-later}
use Rattle.ht_io.specs.declared.faults.Kind.{Kind}
use Rattle.ht_io.specs.declared.faults.Kind.TheVariants.{Trailing}
use Rattle.ht_io.specs.declared.faults.FormatFault.{FormatFault}
use Rattle.ht_io.specs.declared.faults.InFault.{InFault}
use Rattle.ht_io.specs.declared.faults.InFault.TheVariants.{Format, Read, NoMemory}
use Rattle.ht_fields.specs.Grammar.{Grammar, Due, Verdict, field, Bad}
use Rattle.ht_fields.specs.Cases.{IsEnd, IsField}
use Rattle.ht_fields.specs.Readers.{ReaderView, reader_in, Gives, Refuses, RunsOut, Finishes}
use Rattle.ht_fields.specs.Lacking.{FailsBehind, FailsField, GoesFurther, LacksField}
use Rattle.ht_fields.specs.Tests.{checked}
use Rattle.ht_fields.specs.WholeFiles.{Caused, StopsWithCause}
use Rattle.ht_fields.proofs.Choices.{checked_bad}
use Rattle.ht_fields.proofs.Joins.{gives_stops}
use Rattle.ht_fields.proofs.Readers.{HasWidth, IsNamed, width_is, field_is, field_refuses, field_runs_out, field_breaks, end_refuses, end_breaks}
use Rattle.ht_fields.proofs.Routes.{Route, route_gives}
use Rattle.ht_fields.proofs.Steps.{whole_file}

-- the same fault by another name
pub halts_as : {I : Type 0} (old : ReaderView I) (after : Device ℕ) (fault other : InFault) → other ≡ fault → StopsWithCause old after fault
    → StopsWithCause old after other
halts_as old after fault other e h = subst (λ (f : InFault). StopsWithCause old after f) (sym e) h

-- the field that is due did not come whole
pub lacks_halts : {S I : Type 0} (f : Grammar S I) (s : S) (at width : ℕ) (source after : Device ℕ) (fault : InFault)
    → HasWidth (f.due s) width → LacksField width at source after fault → StopsWithCause (reader_in f s at source) after fault
lacks_halts f s at width source after (Format fault) w (into, count, len, reads, is) =
    let wide : HasWidth (f.due s) (length into) = subst (λ (n : ℕ). HasWidth (f.due s) n) (sym len) w in (
      inr (subst (λ (z : FormatFault). RunsOut (reader_in f s at source) after z) (sym is) (field_runs_out f s at count source after into reads wide)),
      tt,
    )
lacks_halts f s at width source after Read w ((into, len, reads), rose) =
    let wide : HasWidth (f.due s) (length into) = subst (λ (n : ℕ). HasWidth (f.due s) n) (sym len) w in
    (field_breaks f s at source after into reads wide, rose)
lacks_halts f s at width source after NoMemory w l = absurd l

-- a field of this width is due, which the test refuses with this kind of fault
pub record Judges {S I : Type 0} (f : Grammar S I) (s : S) (width : ℕ) (kind : Kind) (refused : List ℕ → Bool) : Type 0 where
  pub wide : HasWidth (f.due s) width
  pub bad : (octets : List ℕ) → length octets ≡ width → refused octets ≡ true → IsField (f.due s) octets (Bad kind)
  pub named : IsNamed kind

pub judges_checked : {S I : Type 0} (f : Grammar S I) (s : S) (width : ℕ) (kind : Kind) (refused : List ℕ → Bool) (good : List ℕ → Verdict S I)
    → f.due s ≡ field width (checked kind refused good) → 0 < width → IsNamed kind → Judges f s width kind refused
judges_checked {S = S} {I = I} f s width kind refused good due some named = record {
  wide = subst (λ (d : Due S I). HasWidth d width) (sym due) (width_is width (checked kind refused good) some);
  bad = λ octets len is. subst (λ (d : Due S I). IsField d octets (Bad kind)) (sym due)
      (field_is width (checked kind refused good) octets (Bad kind) some len (checked_bad kind refused good octets is));
  named = named;
}

-- a field that the test judges was not read
pub fails_halts : {S I : Type 0} (f : Grammar S I) (s : S) (at width : ℕ) (kind : Kind) (refused : List ℕ → Bool) (source after : Device ℕ) (fault : InFault)
    → Judges f s width kind refused → FailsField width kind refused at source after fault → StopsWithCause (reader_in f s at source) after fault
fails_halts f s at width kind refused source after fault j (inl lacks) = lacks_halts f s at width source after fault j.wide lacks
fails_halts f s at width kind refused source after fault j (inr (octets, len, is, taken, same)) =
    halts_as (reader_in f s at source) after _ fault same
    (inl (field_refuses f s at kind source after octets taken (j.bad octets len is) j.named), tt)

caused_later : (old mid new : Device ℕ) (fault : InFault) → IsLater old mid → Caused mid new fault → Caused old new fault
caused_later old mid new (Format f) later c = tt
caused_later old mid new Read later c = failed-later old mid new later c
caused_later old mid new NoMemory later c = c

-- what stopped the reader behind good fields stopped it before them
pub gives_halts : {I : Type 0} (old mid : ReaderView I) (after : Device ℕ) (fault : InFault)
    → Gives old mid [] → IsLater old.source mid.source → StopsWithCause mid after fault → StopsWithCause old after fault
gives_halts old mid after fault g later h =
    (gives_stops old mid after fault g h.0, caused_later old.source mid.source after fault later h.1)

-- the fields in front were read, and then one that a test judges was not
pub behind_halts : {S I : Type 0} (f : Grammar S I) (s t : S) (front : List ℕ) (at width : ℕ) (kind : Kind) (refused : List ℕ → Bool)
    (source after : Device ℕ) (fault : InFault) → Route f s t front [] → Judges f t width kind refused
    → FailsBehind front width kind refused at source after fault → StopsWithCause (reader_in f s at source) after fault
behind_halts f s t front at width kind refused source after fault r j (between, taken, later, fails) =
    let place : at + length front ≡ at + length front = refl in
    gives_halts (reader_in f s at source) (reader_in f t (at + length front) between) after fault
    (route_gives f s t front [] at (at + length front) source between r place taken) later
    (fails_halts f t (at + length front) width kind refused between after fault j fails)

-- the input goes on where its end is due
pub further_halts : {S I : Type 0} (f : Grammar S I) (s : S) (at : ℕ) (source after : Device ℕ) (fault : InFault)
    → IsEnd (f.due s) → GoesFurther at source after fault → StopsWithCause (reader_in f s at source) after fault
further_halts f s at source after (Format fault) end (octets, one, taken, is) =
    let refuses : Refuses (reader_in f s at source) after (record { kind = Trailing; offset = at }) = end_refuses f s at source after octets taken one end in
    (inl (subst (λ (z : FormatFault). Refuses (reader_in f s at source) after z) (sym is) refuses), tt)
further_halts f s at source after Read end ((octets, one, reads), rose) = (end_breaks f s at source after octets reads one end, rose)
further_halts f s at source after NoMemory end g = absurd g

-- nothing follows where the end is due
pub ended_finishes : {S I : Type 0} (f : Grammar S I) (s : S) (at : ℕ) (source after : Device ℕ)
    → IsEnd (f.due s) → TakesAll source after [] → Finishes (reader_in f s at source) after
ended_finishes f s at source after end taken = record { octets = taken; means = whole_file f s at end }
