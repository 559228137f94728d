-- Two readings of one text are the same.
use Rattle.std.specs.Prelude.{◌≡◌, ℕ, ◌+◌, List, [], ◌∷◌, ◌++◌, length, take, drop}
use Rattle.std.proofs.Common.{refl, ap, ◌∙◌, sym, subst, append_assoc, arith, length-append}
use Rattle.std.proofs.Math.Seq.{take-append_seam, drop-append_seam}
use Rattle.ht_io.specs.declared.faults.Kind.{Kind}
use Rattle.ht_fields.specs.Grammar.{Grammar, Due, End, Wants, Verdict, Good, Bad}
use Rattle.ht_fields.specs.Cases.{IsEnd, IsField, IsShort, Leads, octets_of_fields}

-- equal joins of parts of equal length have equal parts
pub same_front : (x y xs ys : List ℕ) → length x ≡ length y → x ++ xs ≡ y ++ ys → (x ≡ y) × (xs ≡ ys)
same_front x y xs ys len e = (
  sym (take-append_seam x xs) ∙ (ap (λ n. take n (x ++ xs)) len ∙ (ap (take (length y)) e ∙ take-append_seam y ys)),
  sym (drop-append_seam x xs) ∙ (ap (λ n. drop n (x ++ xs)) len ∙ (ap (drop (length y)) e ∙ drop-append_seam y ys)),
)

-- one text has one field in front, and one verdict on it
pub same_field : {S I : Type 0} (d : Due S I) (x y r q : List ℕ) (v w : Verdict S I)
    → IsField d x v → IsField d y w → x ++ r ≡ y ++ q → (x ≡ y) × (r ≡ q) × (v ≡ w)
same_field End x y r q v w p o e = absurd p
same_field (Wants beyond judge) x y r q v w p o e =
    let front = same_front x y r q (p.0 ∙ sym o.0) e in
    (front.0, front.1, sym p.1 ∙ (ap judge front.0 ∙ o.1))

-- no good field is in front of the octets
abbrev pub IsStuck : {S I : Type 0} → Due S I → List ℕ → Type 0
IsStuck {S = S} {I = I} d octets = (x rest : List ℕ) (next : S) (here : List I) → IsField d x (Good next here) → octets ≡ x ++ rest → ⊥

-- why a reading stops: the end is due, the octets are too few, or the field in front is bad
pub data Stop {S I : Type 0} (d : Due S I) (octets : List ℕ) : Type 0 where
  at_end : IsEnd d → Stop d octets
  at_short : IsShort d octets → Stop d octets
  at_bad : (bad rest : List ℕ) (kind : Kind) → IsField d bad (Bad kind) → octets ≡ bad ++ rest → Stop d octets

pub end_stuck : {S I : Type 0} (d : Due S I) (octets : List ℕ) → IsEnd d → IsStuck d octets
end_stuck End octets e x rest next here p is = p
end_stuck (Wants beyond judge) octets e x rest next here p is = e

short_stuck : {S I : Type 0} (d : Due S I) (octets : List ℕ) → IsShort d octets → IsStuck d octets
short_stuck End octets e x rest next here p is = e
short_stuck (Wants beyond judge) octets e x rest next here p is =
    let all : length octets ≡ length x + length rest = ap length is ∙ length-append x rest in
    let width : length x ≡ beyond + 1 = p.0 in
    absurd (omega arith)

bad_stuck : {S I : Type 0} (d : Due S I) (octets bad more : List ℕ) (kind : Kind) → IsField d bad (Bad kind) → octets ≡ bad ++ more → IsStuck d octets
bad_stuck d octets bad more kind b is x rest next here p e =
    let same = same_field d bad x more rest (Bad kind) (Good next here) b p (sym is ∙ e) in
    let never : Bad kind ≡ Good next here = same.2 in
    cc

pub stuck : {S I : Type 0} (d : Due S I) (octets : List ℕ) → Stop d octets → IsStuck d octets
stuck d octets (at_end e) = end_stuck d octets e
stuck d octets (at_short e) = short_stuck d octets e
stuck d octets (at_bad bad more kind b is) = bad_stuck d octets bad more kind b is

-- Two paths of good fields over one text, which both end where no good field is in front, end in one place.
pub one_path : {S I : Type 0} (f : Grammar S I) (s t u : S) (xs ys : List (List ℕ)) (a b : List I) (r q : List ℕ)
    → Leads f s xs a t → Leads f s ys b u → IsStuck (f.due t) r → IsStuck (f.due u) q → octets_of_fields xs ++ r ≡ octets_of_fields ys ++ q
    → (a ≡ b) × (t ≡ u) × (r ≡ q) × (octets_of_fields xs ≡ octets_of_fields ys)
one_path f s t u [] [] a b r q l m n k e = (l.0 ∙ sym m.0, sym l.1 ∙ m.1, e, refl)
one_path f s t u [] (y ∷ ys) a b r q l m n k e =
    absurd (n y (octets_of_fields ys ++ q) m.0 m.1 (subst (λ z. IsField (f.due z) y (Good m.0 m.1)) l.1 m.3) (e ∙ append_assoc y (octets_of_fields ys) q))
one_path f s t u (x ∷ xs) [] a b r q l m n k e =
    absurd (k x (octets_of_fields xs ++ r) l.0 l.1 (subst (λ z. IsField (f.due z) x (Good l.0 l.1)) m.1 l.3) (sym e ∙ append_assoc x (octets_of_fields xs) r))
one_path {S = S} {I = I} f s t u (x ∷ xs) (y ∷ ys) a b r q l m n k e =
    let same = same_field (f.due s) x y (octets_of_fields xs ++ r) (octets_of_fields ys ++ q) (Good l.0 l.1) (Good m.0 m.1) l.3 m.3
    (sym (append_assoc x (octets_of_fields xs) r) ∙ (e ∙ append_assoc y (octets_of_fields ys) q)) in
    let verdict : Good l.0 l.1 ≡ Good m.0 m.1 = same.2 in
    let next : m.0 ≡ l.0 = cc in
    let here : l.1 ≡ m.1 = cc in
    let rest = one_path f l.0 t u xs ys l.2 m.2 r q l.4 (subst (λ (z : S). Leads f z ys m.2 u) next m.4) n k same.1 in (
      l.5 ∙ (ap (λ (z : List I). z ++ l.2) here ∙ (ap (λ (z : List I). m.1 ++ z) rest.0 ∙ sym m.5)),
      rest.1,
      rest.2,
      ap (λ (z : List ℕ). z ++ octets_of_fields xs) same.0 ∙ ap (λ (z : List ℕ). y ++ z) rest.3,
    )

pub joined-append : (xs ys : List (List ℕ)) → octets_of_fields (xs ++ ys) ≡ octets_of_fields xs ++ octets_of_fields ys
joined-append [] ys = refl
joined-append (x ∷ xs) ys = ap (λ (z : List ℕ). x ++ z) (joined-append xs ys) ∙ sym (append_assoc x (octets_of_fields xs) (octets_of_fields ys))

-- Good fields, and more good fields.
pub Leads-append : {S I : Type 0} (f : Grammar S I) (s t u : S) (xs ys : List (List ℕ)) (a b : List I)
    → Leads f s xs a t → Leads f t ys b u → Leads f s (xs ++ ys) (a ++ b) u
Leads-append {I = I} f s t u [] ys a b l m = subst (λ (z : List I). Leads f s ys (z ++ b) u) (sym l.0) (subst (λ z. Leads f z ys b u) (sym l.1) m)
Leads-append f s t u (x ∷ xs) ys a b l m =
    (l.0, l.1, l.2 ++ b, l.3, Leads-append f l.0 t u xs ys l.2 b l.4 m, ap (λ z. z ++ b) l.5 ∙ append_assoc l.1 l.2 b)

-- where good fields are parted
pub record Parted {S I : Type 0} (f : Grammar S I) (s t : S) (xs ys : List (List ℕ)) (items : List I) : Type 0 where
  pub state : S
  pub front : List I
  pub later : List I
  pub first : Leads f s xs front state
  pub then_on : Leads f state ys later t
  pub all : items ≡ front ++ later

pub Leads-part : {S I : Type 0} (f : Grammar S I) (s t : S) (xs ys : List (List ℕ)) (items : List I) → Leads f s (xs ++ ys) items t → Parted f s t xs ys items
Leads-part f s t [] ys items l = record { state = s; front = []; later = items; first = (refl, refl); then_on = l; all = refl }
Leads-part f s t (x ∷ xs) ys items l =
    let p = Leads-part f l.0 t xs ys l.2 l.4 in
    record {
      state = p.state;
      front = l.1 ++ p.front;
      later = p.later;
      first = (l.0, l.1, p.front, l.3, p.first, refl);
      then_on = p.then_on;
      all = l.5 ∙ (ap (λ z. l.1 ++ z) p.all ∙ sym (append_assoc l.1 p.front p.later));
    }
