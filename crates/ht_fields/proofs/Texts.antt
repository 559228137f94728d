-- The cases of whole texts.
use Rattle.std.specs.Prelude.{◌≡◌, ◌⊎◌, ℕ, suc, zero, ◌+◌, ◌<◌, ◌≤◌, List, [], ◌∷◌, ◌++◌, length, take, drop}
use Rattle.std.proofs.Common.{refl, ap, ◌∙◌, sym, subst, inl, inr, append_assoc, arith, length-append}
use Rattle.std.proofs.lemmas.Bool.{cases_lt}
use Rattle.std.proofs.lemmas.List.{take-append-drop, length-take-le}
use Rattle.ht_fields.specs.Grammar.{Grammar, Due, End, Wants, Verdict, Good, Bad}
use Rattle.ht_fields.specs.Cases.{IsEnd, IsField, IsShort, Leads, octets_of_fields, Reaches, Case, File, Clean, Longer, Faulty, Meets}
use Rattle.ht_fields.proofs.Paths.{Stop, at_end, at_short, at_bad, stuck, one_path, same_field}

-- a good field in front of the octets
record Front {S I : Type 0} (d : Due S I) (octets : List ℕ) : Type 0 where
  x : List ℕ
  rest : List ℕ
  next : S
  here : List I
  good : IsField d x (Good next here)
  split : octets ≡ x ++ rest
  less : length rest < length octets

judged_front : {S I : Type 0} (beyond : ℕ) (judge : List ℕ → Verdict S I) (octets : List ℕ) (verdict : Verdict S I)
    → beyond + 1 ≤ length octets → judge (take (beyond + 1) octets) ≡ verdict → Stop (Wants beyond judge) octets ⊎ Front (Wants beyond judge) octets
judged_front beyond judge octets (Good next here) enough is =
    let split : octets ≡ take (beyond + 1) octets ++ drop (beyond + 1) octets = sym (take-append-drop (beyond + 1) octets) in
    let width : length (take (beyond + 1) octets) ≡ beyond + 1 = length-take-le (beyond + 1) octets enough in
    inr (record {
      x = take (beyond + 1) octets;
      rest = drop (beyond + 1) octets;
      next = next;
      here = here;
      good = (width, is);
      split = split;
      less = let all : length octets ≡ length (take (beyond + 1) octets) + length (drop (beyond + 1) octets) =
          ap length split ∙ length-append (take (beyond + 1) octets) (drop (beyond + 1) octets) in omega arith;
    })
judged_front beyond judge octets (Bad kind) enough is =
    inl (at_bad (take (beyond + 1) octets) (drop (beyond + 1) octets) kind
    (length-take-le (beyond + 1) octets enough, is) (sym (take-append-drop (beyond + 1) octets)))

-- in front of the octets is a good field, or the reading stops
front_of : {S I : Type 0} (d : Due S I) (octets : List ℕ) → Stop d octets ⊎ Front d octets
front_of End octets = inl (at_end tt)
front_of (Wants beyond judge) octets =
    elim (cases_lt (length octets) (beyond + 1)) [
      | inl short ↦ inl (at_short short)
      | inr enough ↦ judged_front beyond judge octets (judge (take (beyond + 1) octets)) enough refl
    ]

-- good fields, as many as there are
record Path {S I : Type 0} (f : Grammar S I) (s : S) (octets : List ℕ) : Type 0 where
  fields : List (List ℕ)
  items : List I
  state : S
  rest : List ℕ
  good : Leads f s fields items state
  split : octets ≡ octets_of_fields fields ++ rest
  stop : Stop (f.due state) rest

path_of : {S I : Type 0} (f : Grammar S I) (n : ℕ) (s : S) (octets : List ℕ) → length octets < n → Path f s octets
path_of f zero s octets few = absurd (omega arith)
path_of f (suc n) s octets few =
    elim (front_of (f.due s) octets) [
      | inl stop ↦ record { fields = []; items = []; state = s; rest = octets; good = (refl, refl); split = refl; stop = stop }
      | inr w ↦
          let path = path_of f n w.next w.rest (omega (arith, w.less)) in
          record {
            fields = w.x ∷ path.fields;
            items = w.here ++ path.items;
            state = path.state;
            rest = path.rest;
            good = (w.next, w.here, path.items, w.good, path.good, refl);
            split = w.split ∙ (ap (λ z. w.x ++ z) path.split ∙ sym (append_assoc w.x (octets_of_fields path.fields) path.rest));
            stop = path.stop;
          }
    ]

case_at : {S I : Type 0} (f : Grammar S I) (octets : List ℕ) (items : List I) (offset : ℕ) (state : S) (rest : List ℕ)
    → Reaches f octets items offset state rest → Stop (f.due state) rest → (case : Case) × Meets f octets items case
case_at f octets items offset state [] r (at_end e) = (File, (offset, state, r, e))
case_at f octets items offset state (x ∷ xs) r (at_end e) = (Longer offset, (state, x, xs, r, e))
case_at f octets items offset state rest r (at_short e) = (Clean, (offset, state, rest, r, e))
case_at f octets items offset state rest r (at_bad bad more kind b is) =
    (Faulty kind offset, (state, bad, more, subst (λ (z : List ℕ). Reaches f octets items offset state z) is r, b))

-- Each text meets a case.
pub some_case : {S I : Type 0} (f : Grammar S I) (octets : List ℕ) → (items : List I) × (case : Case) × Meets f octets items case
some_case f octets =
    let p = path_of f (length octets + 1) f.start octets (omega arith) in
    let r : Reaches f octets p.items (length (octets_of_fields p.fields)) p.state p.rest =
    record { fields = p.fields; good = p.good; split = p.split; length_is = refl } in
    let found = case_at f octets p.items (length (octets_of_fields p.fields)) p.state p.rest r p.stop in
    (p.items, found.0, found.1)

-- what a case says of the state and the octets that are left
CaseAt : {S I : Type 0} → Due S I → ℕ → List ℕ → Case → Type 0
CaseAt d offset rest File = (rest ≡ []) × IsEnd d
CaseAt d offset rest Clean = IsShort d rest
CaseAt d offset rest (Longer at) = (first : ℕ) × (more : List ℕ) × (rest ≡ first ∷ more) × IsEnd d × (at ≡ offset)
CaseAt d offset rest (Faulty kind at) = (bad : List ℕ) × (more : List ℕ) × (rest ≡ bad ++ more) × IsField d bad (Bad kind) × (at ≡ offset)

record Place {S I : Type 0} (f : Grammar S I) (octets : List ℕ) (items : List I) (case : Case) : Type 0 where
  offset : ℕ
  state : S
  rest : List ℕ
  reaches : Reaches f octets items offset state rest
  stop : Stop (f.due state) rest
  case_is : CaseAt (f.due state) offset rest case

place_of : {S I : Type 0} (f : Grammar S I) (octets : List ℕ) (items : List I) (case : Case) → Meets f octets items case → Place f octets items case
unfolding CaseAt
place_of f octets items File m =
    record { offset = m.0; state = m.1; rest = []; reaches = m.2; stop = at_end m.3; case_is = (refl, m.3) }
place_of f octets items Clean m =
    record { offset = m.0; state = m.1; rest = m.2; reaches = m.3; stop = at_short m.4; case_is = m.4 }
place_of f octets items (Longer at) m =
    record { offset = at; state = m.0; rest = m.1 ∷ m.2; reaches = m.3; stop = at_end m.4; case_is = (m.1, m.2, refl, m.4, refl) }
place_of f octets items (Faulty kind at) m =
    record { offset = at; state = m.0; rest = m.1 ++ m.2; reaches = m.3; stop = at_bad m.1 m.2 kind m.4 refl; case_is = (m.1, m.2, refl, m.4, refl) }

pub end_not_short : {S I : Type 0} (d : Due S I) (x : List ℕ) → IsEnd d → IsShort d x → ⊥
end_not_short End x e p = p
end_not_short (Wants beyond judge) x e p = e

end_not_field : {S I : Type 0} (d : Due S I) (x : List ℕ) (v : Verdict S I) → IsEnd d → IsField d x v → ⊥
end_not_field End x v e p = p
end_not_field (Wants beyond judge) x v e p = e

short_not_field : {S I : Type 0} (d : Due S I) (octets x more : List ℕ) (v : Verdict S I) → IsShort d octets → octets ≡ x ++ more → IsField d x v → ⊥
short_not_field End octets x more v e is p = p
short_not_field (Wants beyond judge) octets x more v e is p =
    let all : length octets ≡ length x + length more = ap length is ∙ length-append x more in
    let width : length x ≡ beyond + 1 = p.0 in
    absurd (omega arith)

-- a field has an octet
pub some_octet : {S I : Type 0} (d : Due S I) (x : List ℕ) (v : Verdict S I) → IsField d x v → 0 < length x
some_octet End x v p = absurd p
some_octet (Wants beyond judge) x v p = let width : length x ≡ beyond + 1 = p.0 in omega arith

one_case_at : {S I : Type 0} (d : Due S I) (offset : ℕ) (rest : List ℕ) (c e : Case) → CaseAt d offset rest c → CaseAt d offset rest e → c ≡ e
unfolding CaseAt
one_case_at d offset rest File File p q = refl
one_case_at d offset rest File Clean p q = absurd (end_not_short d rest p.1 q)
one_case_at d offset rest File (Longer at) p q = let never : q.0 ∷ q.1 ≡ [] = sym q.2 ∙ p.0 in cc
one_case_at d offset rest File (Faulty kind at) p q = absurd (end_not_field d q.0 (Bad kind) p.1 q.3)
one_case_at d offset rest Clean File p q = absurd (end_not_short d rest q.1 p)
one_case_at d offset rest Clean Clean p q = refl
one_case_at d offset rest Clean (Longer at) p q = absurd (end_not_short d rest q.3 p)
one_case_at d offset rest Clean (Faulty kind at) p q = absurd (short_not_field d rest q.0 q.1 (Bad kind) p q.2 q.3)
one_case_at d offset rest (Longer at) File p q = let never : p.0 ∷ p.1 ≡ [] = sym p.2 ∙ q.0 in cc
one_case_at d offset rest (Longer at) Clean p q = absurd (end_not_short d rest p.3 q)
one_case_at d offset rest (Longer at) (Longer other) p q = ap Longer (p.4 ∙ sym q.4)
one_case_at d offset rest (Longer at) (Faulty kind other) p q = absurd (end_not_field d q.0 (Bad kind) p.3 q.3)
one_case_at d offset rest (Faulty kind at) File p q = absurd (end_not_field d p.0 (Bad kind) q.1 p.3)
one_case_at d offset rest (Faulty kind at) Clean p q = absurd (short_not_field d rest p.0 p.1 (Bad kind) q p.2 p.3)
one_case_at d offset rest (Faulty kind at) (Longer other) p q = absurd (end_not_field d p.0 (Bad kind) q.3 p.3)
one_case_at {S = S} {I = I} d offset rest (Faulty kind at) (Faulty another other) p q =
    let same = same_field d p.0 q.0 p.1 q.1 (Bad kind) (Bad another) p.3 q.3 (sym p.2 ∙ q.2) in
    let verdict : Bad kind ≡ Bad another = same.2 in
    let kinds : kind ≡ another = cc in
    ap (λ k. Faulty k at) kinds ∙ ap (Faulty another) (p.4 ∙ sym q.4)

-- No text meets two cases.
pub only_case : {S I : Type 0} (f : Grammar S I) (octets : List ℕ) (items others : List I) (case other : Case)
    → Meets f octets items case → Meets f octets others other → (items ≡ others) × (case ≡ other)
only_case f octets items others case other m n =
    let p = place_of f octets items case m in
    let q = place_of f octets others other n in
    let one = one_path f f.start p.state q.state p.reaches.fields q.reaches.fields items others p.rest q.rest p.reaches.good q.reaches.good
    (stuck (f.due p.state) p.rest p.stop) (stuck (f.due q.state) q.rest q.stop) (sym p.reaches.split ∙ q.reaches.split) in
    let offsets : p.offset ≡ q.offset = p.reaches.length_is ∙ (ap length one.3 ∙ sym q.reaches.length_is) in
    let here : CaseAt (f.due q.state) q.offset q.rest case =
    subst (λ s. CaseAt (f.due s) q.offset q.rest case) one.1
    (subst (λ n. CaseAt (f.due p.state) n q.rest case) offsets
    (subst (λ r. CaseAt (f.due p.state) p.offset r case) one.2 p.case_is)) in
    (one.0, one_case_at (f.due q.state) q.offset q.rest case other here q.case_is)
