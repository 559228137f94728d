-- What a field, an end or a fault adds to the meaning.
use Rattle.std.specs.Prelude.{◌≡◌, ℕ, zero, suc, ◌+◌, List, [], ◌∷◌, ◌++◌, length}
use Rattle.std.proofs.Common.{refl, ap, ◌∙◌, sym, append_assoc, arith, length-append}
use Rattle.ht_io.specs.declared.faults.Kind.{Kind}
use Rattle.ht_io.specs.declared.faults.Kind.TheVariants.{Truncated, Trailing}
use Rattle.ht_fields.specs.Grammar.{Grammar, Due, End, Wants, Verdict, Good, Bad}
use Rattle.ht_fields.specs.Cases.{IsEnd, IsField, IsShort, Leads, octets_of_fields}
use Rattle.ht_fields.specs.Meanings.{Meaning, before, ended, refused, judged, meaning_of, meaning}

-- a field that is whole is judged
whole : {S I : Type 0} (f : Grammar S I) (beyond : ℕ) (judge : List ℕ → Verdict S I) (began at : ℕ) (x rest : List ℕ)
    → length x ≡ beyond + 1 → meaning_of f (Wants beyond judge) began at (x ++ rest) ≡ judged (judge x) began (λ next. meaning f next (at + length x) rest)
unfolding meaning meaning_of
whole f beyond judge began at [] rest len = absurd (omega arith)
whole f zero judge began at (a ∷ []) rest len = refl
whole f (suc beyond) judge began at (a ∷ []) rest len = absurd (omega arith)
whole f zero judge began at (a ∷ b ∷ xs) rest len = absurd (omega arith)
whole f (suc beyond) judge began at (a ∷ b ∷ xs) rest len =
    let less : length (b ∷ xs) ≡ beyond + 1 = omega arith in
    let place : (at + 1) + length (b ∷ xs) ≡ at + length (a ∷ b ∷ xs) = omega arith in
    whole f beyond (λ r. judge (a ∷ r)) began (at + 1) (b ∷ xs) rest less
    ∙ ap (λ (n : ℕ). judged (judge (a ∷ b ∷ xs)) began (λ next. meaning f next n rest)) place

-- the same where this is due
field_of : {S I : Type 0} (f : Grammar S I) (d : Due S I) (began at : ℕ) (x rest : List ℕ) (verdict : Verdict S I)
    → IsField d x verdict → meaning_of f d began at (x ++ rest) ≡ judged verdict began (λ next. meaning f next (at + length x) rest)
field_of f End began at x rest verdict p = absurd p
field_of f (Wants beyond judge) began at x rest verdict p =
    whole f beyond judge began at x rest p.0 ∙ ap (λ v. judged v began (λ next. meaning f next (at + length x) rest)) p.1

short_of : {S I : Type 0} (f : Grammar S I) (d : Due S I) (began at : ℕ) (x : List ℕ)
    → IsShort d x → meaning_of f d began at x ≡ refused Truncated (at + length x)
unfolding meaning_of
short_of f End began at x p = absurd p
short_of f (Wants beyond judge) began at [] p = let place : at ≡ at + 0 = omega arith in ap (refused Truncated) place
short_of f (Wants zero judge) began at (a ∷ xs) p = absurd (omega arith)
short_of f (Wants (suc beyond) judge) began at (a ∷ xs) p =
    let place : (at + 1) + length xs ≡ at + length (a ∷ xs) = omega arith in
    short_of f (Wants beyond (λ r. judge (a ∷ r))) began (at + 1) xs (omega arith) ∙ ap (refused Truncated) place

end_of : {S I : Type 0} (f : Grammar S I) (d : Due S I) (began at : ℕ) → IsEnd d → meaning_of f d began at [] ≡ ended
unfolding meaning_of
end_of f End began at p = refl
end_of f (Wants beyond judge) began at p = absurd p

trailing_of : {S I : Type 0} (f : Grammar S I) (d : Due S I) (began at x : ℕ) (rest : List ℕ)
    → IsEnd d → meaning_of f d began at (x ∷ rest) ≡ refused Trailing at
unfolding meaning_of
trailing_of f End began at x rest p = refl
trailing_of f (Wants beyond judge) began at x rest p = absurd p

-- A good field: its items, and then what the rest means.
pub good_field : {S I : Type 0} (f : Grammar S I) (s t : S) (at : ℕ) (x : List ℕ) (items : List I) (rest : List ℕ)
    → IsField (f.due s) x (Good t items) → meaning f s at (x ++ rest) ≡ before items (meaning f t (at + length x) rest)
unfolding meaning
good_field f s t at x items rest p = field_of f (f.due s) at at x rest (Good t items) p

-- A bad field: its fault, at its first octet.
pub bad_field : {S I : Type 0} (f : Grammar S I) (s : S) (at : ℕ) (x rest : List ℕ) (kind : Kind)
    → IsField (f.due s) x (Bad kind) → meaning f s at (x ++ rest) ≡ refused kind at
unfolding meaning
bad_field f s at x rest kind p = field_of f (f.due s) at at x rest (Bad kind) p

-- Fewer octets than the field has: Truncated, behind the last octet.
pub early_end : {S I : Type 0} (f : Grammar S I) (s : S) (at : ℕ) (octets : List ℕ)
    → IsShort (f.due s) octets → meaning f s at octets ≡ refused Truncated (at + length octets)
unfolding meaning
early_end f s at octets p = short_of f (f.due s) at at octets p

-- The end, where it is due.
pub whole_file : {S I : Type 0} (f : Grammar S I) (s : S) (at : ℕ) → IsEnd (f.due s) → meaning f s at [] ≡ ended
unfolding meaning
whole_file f s at p = end_of f (f.due s) at at p

-- An octet where the end is due.
pub trailing_octet : {S I : Type 0} (f : Grammar S I) (s : S) (at x : ℕ) (rest : List ℕ)
    → IsEnd (f.due s) → meaning f s at (x ∷ rest) ≡ refused Trailing at
unfolding meaning
trailing_octet f s at x rest p = trailing_of f (f.due s) at at x rest p

pub before-before : {I : Type 0} (a b : List I) (m : Meaning I) → before a (before b m) ≡ before (a ++ b) m
before-before {I = I} a b m = ap (λ (z : List I). record { items = z; fault = m.fault }) (sym (append_assoc a b m.items))

-- Good fields: their items, and then what the rest means.
pub good_fields : {S I : Type 0} (f : Grammar S I) (s t : S) (at : ℕ) (fields : List (List ℕ)) (items : List I) (rest : List ℕ)
    → Leads f s fields items t → meaning f s at (octets_of_fields fields ++ rest) ≡ before items (meaning f t (at + length (octets_of_fields fields)) rest)
good_fields f s t at [] items rest l =
    let place : at ≡ at + 0 = omega arith in
    ap (λ u. meaning f u at rest) l.1 ∙ ap (λ n. meaning f t n rest) place ∙ ap (λ z. before z (meaning f t (at + 0) rest)) (sym l.0)
good_fields f s t at (x ∷ xs) items rest l =
    let next = l.0 in
    let here = l.1 in
    let later = l.2 in
    let place : (at + length x) + length (octets_of_fields xs) ≡ at + length (x ++ octets_of_fields xs) =
    omega (arith, length-append x (octets_of_fields xs)) in
    ap (meaning f s at) (append_assoc x (octets_of_fields xs) rest)
    ∙ good_field f s next at x here (octets_of_fields xs ++ rest) l.3
    ∙ ap (before here) (good_fields f next t (at + length x) xs later rest l.4)
    ∙ before-before here later (meaning f t ((at + length x) + length (octets_of_fields xs)) rest)
    ∙ ap (λ z. before z (meaning f t ((at + length x) + length (octets_of_fields xs)) rest)) (sym l.5)
    ∙ ap (λ n. before items (meaning f t n rest)) place
