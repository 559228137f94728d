-- A clean text is a cut file, where every good beginning can be ended.
use Rattle.std.specs.Prelude.{◌≡◌, ℕ, ◌+◌, ◌<◌, List, [], ◌∷◌, ◌++◌, length}
use Rattle.std.proofs.Common.{refl, sym, subst, arith}
use Rattle.ht_fields.specs.Grammar.{Grammar, Due, End, Wants, Verdict, Good}
use Rattle.ht_fields.specs.Cases.{IsEnd, IsField, IsShort, Leads, octets_of_fields, Reaches, IsClean, IsCut, CanEnd}
use Rattle.ht_fields.proofs.Paths.{Leads-append, Leads-part}
use Rattle.ht_fields.proofs.Texts.{end_not_short}

short_of : {S I : Type 0} (d : Due S I) (x rest : List ℕ) (v : Verdict S I) → IsField d x v → length rest < length x → IsShort d rest
short_of End x rest v p few = p
short_of (Wants beyond judge) x rest v p few = let width : length x ≡ beyond + 1 = p.0 in omega arith

fewer : {S I : Type 0} (d : Due S I) (x rest : List ℕ) (v : Verdict S I) → IsField d x v → IsShort d rest → length rest < length x
fewer End x rest v p few = absurd p
fewer (Wants beyond judge) x rest v p few = let width : length x ≡ beyond + 1 = p.0 in omega arith

-- A cut file is clean.
pub cut_clean : {S I : Type 0} (f : Grammar S I) (octets : List ℕ) → IsCut f octets → (items : List I) × IsClean f octets items
cut_clean f octets c =
    let p = Leads-part f f.start c.4 c.0 (c.1 ∷ c.2) c.3 c.6 in (
      p.front,
      (
        length (octets_of_fields c.0),
        p.state,
        c.5,
        record { fields = c.0; good = p.first; split = c.8; length_is = refl },
        short_of (f.due p.state) c.1 c.5 (Good p.then_on.0 p.then_on.1) p.then_on.3 c.9,
      ),
    )

cut_at : {S I : Type 0} (f : Grammar S I) (octets : List ℕ) (items : List I) (offset : ℕ)
    (state : S) (rest : List ℕ) (more : List (List ℕ)) (later : List I) (last : S)
    → Reaches f octets items offset state rest → IsShort (f.due state) rest → Leads f state more later last → IsEnd (f.due last) → IsCut f octets
cut_at f octets items offset state rest [] later last r short l e =
    absurd (end_not_short (f.due state) rest (subst (λ s. IsEnd (f.due s)) (sym l.1) e) short)
cut_at f octets items offset state rest (x ∷ xs) later last r short l e = (
  r.fields,
  x,
  xs,
  items ++ later,
  last,
  rest,
  Leads-append f f.start state last r.fields (x ∷ xs) items later r.good l,
  e,
  r.split,
  fewer (f.due state) x rest (Good l.0 l.1) l.3 short,
)

-- A clean text is a cut file.
pub clean_cut : {S I : Type 0} (f : Grammar S I) (octets : List ℕ) (items : List I) → CanEnd f → IsClean f octets items → IsCut f octets
clean_cut f octets items can c =
    let on = can c.3.fields items c.1 c.3.good in
    cut_at f octets items c.0 c.1 c.2 on.0 on.1 on.2 c.3 c.4 on.3 on.4
