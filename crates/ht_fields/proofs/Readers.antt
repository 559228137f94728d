-- What a reader may conclude from a field that was read.
use Rattle.std.specs.Prelude.{◌≡◌, ℕ, ◌+◌, ◌-◌, ◌<◌, List, [], ◌∷◌, ◌++◌, length, take}
use Rattle.std.proofs.Common.{refl, ap, ◌∙◌, sym, subst, arith}
use Rattle.std.proofs.lemmas.List.{length-take-le}
use Rattle.ht_io.specs.Devices.{Device, Takes, TakesAll}
use Rattle.ht_io.specs.declared.faults.Kind.{Kind}
use Rattle.ht_io.specs.declared.faults.Kind.TheVariants.{Truncated, Trailing}
use Rattle.ht_fields.specs.declared.read.Field.TheVariants.{Whole, Ended, Broken}
use Rattle.ht_fields.specs.Grammar.{Grammar, Due, End, Wants, Verdict, Good, Bad, field}
use Rattle.ht_fields.specs.Cases.{IsEnd, IsField, IsShort}
use Rattle.ht_fields.specs.Meanings.{Meaning, before, refused, meaning}
use Rattle.ht_fields.specs.Reading.{ReadsField}
use Rattle.ht_fields.specs.Readers.{reader_in, Gives, Refuses, RunsOut, Finishes, IsEarly, Breaks}
use Rattle.ht_fields.proofs.Steps.{good_field, bad_field, early_end, whole_file, trailing_octet}

-- a field of this many octets is due
abbrev pub HasWidth : {S I : Type 0} → Due S I → ℕ → Type 0
HasWidth End width = ⊥
HasWidth (Wants beyond judge) width = width ≡ beyond + 1

short : {S I : Type 0} (d : Due S I) (width : ℕ) (octets : List ℕ) → HasWidth d width → length octets < width → IsShort d octets
short End width octets w few = w
short (Wants beyond judge) width octets w few = omega arith

-- A field whose width is at least one has this width, and is judged once it is whole.
pub width_is : {S I : Type 0} (width : ℕ) (judge : List ℕ → Verdict S I) → 0 < width → HasWidth (field width judge) width
width_is width judge some = omega arith

pub field_is : {S I : Type 0} (width : ℕ) (judge : List ℕ → Verdict S I) (x : List ℕ) (verdict : Verdict S I)
    → 0 < width → length x ≡ width → judge x ≡ verdict → IsField (field width judge) x verdict
field_is width judge x verdict some len is = let width_of : length x ≡ (width - 1) + 1 = omega arith in (width_of, is)

-- A field was read whole and is good.
pub field_gives : {S I : Type 0} (f : Grammar S I) (s t : S) (at behind : ℕ) (items : List I) (source after : Device ℕ) (into : List ℕ)
    → ReadsField source after Whole into → IsField (f.due s) into (Good t items) → behind ≡ at + length into
    → Gives (reader_in f s at source) (reader_in f t behind after) items
field_gives f s t at behind items source after into r p is =
    record {
      taken = into;
      octets = r;
      place = is;
      means = λ rest. good_field f s t at into items rest p ∙ ap (λ n. before items (meaning f t n rest)) (sym is);
    }

-- a kind of fault that a format names for its fields, as Truncated and Trailing are none
abbrev pub IsNamed : Kind → Type 0
IsNamed kind = (kind ≡ Truncated → ⊥) × (kind ≡ Trailing → ⊥)

-- Of a front of a field the reader means its early end.
early_front : {S I : Type 0} (f : Grammar S I) (s : S) (at n : ℕ) (source : Device ℕ) (into : List ℕ)
    → HasWidth (f.due s) (length into) → n < length into → IsEarly (at + n) (meaning f s at (take n into)).fault
early_front {I = I} f s at n source into w few =
    let len : length (take n into) ≡ n = length-take-le n into (omega (arith, few)) in
    let is : meaning f s at (take n into) ≡ refused Truncated (at + n) =
    early_end f s at (take n into) (short (f.due s) (length into) (take n into) w (omega (arith, len, few)))
    ∙ ap (λ k. refused Truncated (at + k)) len in
    subst (λ (m : Meaning I). IsEarly (at + n) m.fault) (sym is) refl

width_of : {S I : Type 0} (d : Due S I) (x : List ℕ) (v : Verdict S I) → IsField d x v → HasWidth d (length x)
width_of End x v p = p
width_of (Wants beyond judge) x v p = p.0

some_of : {S I : Type 0} (d : Due S I) (width : ℕ) → HasWidth d width → 0 < width
some_of End width w = absurd w
some_of (Wants beyond judge) width w = omega arith

-- A field was read whole and is bad.
pub field_refuses : {S I : Type 0} (f : Grammar S I) (s : S) (at : ℕ) (kind : Kind) (source after : Device ℕ) (into : List ℕ)
    → ReadsField source after Whole into → IsField (f.due s) into (Bad kind) → IsNamed kind
    → Refuses (reader_in f s at source) after (record { kind = kind; offset = at })
field_refuses f s at kind source after into r p named =
    let wide = width_of (f.due s) into (Bad kind) p in
    record {
      taken = into;
      octets = r;
      means = λ rest. bad_field f s at into rest kind p;
      ends = record {
        kind = named.0;
        behind = omega arith;
        within = omega (arith, some_of (f.due s) (length into) wide);
        early = λ n from few. early_front f s at n source into wide few;
        trailing = λ e. absurd (named.1 e);
      };
    }

-- The input ended within a field.
pub field_runs_out : {S I : Type 0} (f : Grammar S I) (s : S) (at count : ℕ) (source after : Device ℕ) (into : List ℕ)
    → ReadsField source after (Ended count) into → HasWidth (f.due s) (length into)
    → RunsOut (reader_in f s at source) after (record { kind = Truncated; offset = at + count })
field_runs_out f s at count source after into r w =
    let len : length (take count into) ≡ count = length-take-le count into (omega (arith, r.0)) in
    record {
      taken = take count into;
      octets = r.1;
      kind = refl;
      place = ap (λ n. at + n) (sym len);
      means = early_end f s at (take count into) (short (f.due s) (length into) (take count into) w (omega (arith, len, r.0)))
          ∙ ap (λ n. refused Truncated (at + n)) len;
    }

-- The source failed within a field.
pub field_breaks : {S I : Type 0} (f : Grammar S I) (s : S) (at : ℕ) (source after : Device ℕ) (into : List ℕ)
    → ReadsField source after Broken into → HasWidth (f.due s) (length into) → Breaks (reader_in f s at source) after
field_breaks {I = I} f s at source after into r w =
    let taken = take r.0 into in
    let len : length taken ≡ r.0 = length-take-le r.0 into (omega (arith, r.1)) in
    let is = early_end f s at taken (short (f.due s) (length into) taken w (omega (arith, len, r.1))) in
    record {
      taken = taken;
      octets = r.2;
      items = ap (λ (m : Meaning I). m.items) is;
      early = subst (λ (m : Meaning I). IsEarly (at + length taken) m.fault) (sym is) refl;
    }

nothing : (n k : ℕ) → n < k → k ≡ 1 → n ≡ 0
nothing n k few one = omega arith

-- An octet was read where the end is due.
pub end_refuses : {S I : Type 0} (f : Grammar S I) (s : S) (at : ℕ) (source after : Device ℕ) (into : List ℕ)
    → ReadsField source after Whole into → length into ≡ 1 → IsEnd (f.due s) → Refuses (reader_in f s at source) after (record { kind = Trailing; offset = at })
end_refuses f s at source after [] r one e = absurd (omega arith)
end_refuses {I = I} f s at source after (x ∷ xs) r one e =
    let none : IsEarly (at + 0) (meaning f s at []).fault = subst (λ (m : Meaning I). IsEarly (at + 0) m.fault) (sym (whole_file f s at e)) tt in
    record {
      taken = x ∷ xs;
      octets = r;
      means = λ rest. trailing_octet f s at x (xs ++ rest) e;
      ends = record {
        kind = λ never. cc;
        behind = omega arith;
        within = omega (arith, one);
        early = λ n from few. subst (λ k. IsEarly (at + k) (meaning f s at (take k (x ∷ xs))).fault) (sym (nothing n _ few one)) none;
        trailing = λ same. omega (arith, one);
      };
    }

-- None was source where the end is due.
pub end_finishes : {S I : Type 0} (f : Grammar S I) (s : S) (at count : ℕ) (source after : Device ℕ) (into : List ℕ)
    → ReadsField source after (Ended count) into → length into ≡ 1 → IsEnd (f.due s) → Finishes (reader_in f s at source) after
end_finishes f s at count source after into r one e =
    let none : count ≡ 0 = omega (arith, r.0) in
    record { octets = subst (λ n. TakesAll source after (take n into)) none r.1; means = whole_file f s at e }

-- The source failed where the end is due.
pub end_breaks : {S I : Type 0} (f : Grammar S I) (s : S) (at : ℕ) (source after : Device ℕ) (into : List ℕ)
    → ReadsField source after Broken into → length into ≡ 1 → IsEnd (f.due s) → Breaks (reader_in f s at source) after
end_breaks {I = I} f s at source after into r one e =
    let none : r.0 ≡ 0 = omega (arith, r.1) in
    let is = whole_file f s at e in
    record {
      taken = [];
      octets = subst (λ n. Takes source after (take n into)) none r.2;
      items = ap (λ (m : Meaning I). m.items) is;
      early = subst (λ (m : Meaning I). IsEarly (at + 0) m.fault) (sym is) tt;
    }
