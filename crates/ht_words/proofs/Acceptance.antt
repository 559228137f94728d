-- Words ask for something exactly where they are accepted.
use Rattle.std.proofs.Common.{◌≡◌, ◌<◌, ◌&&◌, ◌∙◌, ℕ, Bool, true, false, List, [], ◌∷◌, length, refl, ap, sym, subst, zero, suc, arith}
use Rattle.std.proofs.lemmas.Bool.{and_from, and_parts, true≢false}
use Rattle.std.proofs.lemmas.List.Folds.{Any-from_list_any, list_all_at, list_any_at}
use Rattle.std.proofs.lemmas.Slice.Eq.{bytes_eq-Decides}
use Rattle.std.specs.Prelude.{bytes_eq, get_or, if◌then◌else◌, is_some, not, ◌||◌, Contains, Some}
use Rattle.std.specs.List.{list_all, list_any}
use Rattle.ht_words.specs.declared.asked.Asked.{Asked}
use Rattle.ht_words.specs.Accepted.{AreGiven, IsAccepted, GivenOption, words_of}
use Rattle.ht_words.proofs.Spelling.{accepted_given, given_accepted}
use Rattle.ht_words.specs.Words.{Row, are_accepted, asked_by, asked_of, commands, only_if}

not_true : (b : Bool) → not b ≡ true → b ≡ false
not_true true is = sym is
not_true false is = refl

is_false : (b : Bool) → (b ≡ true → ⊥) → b ≡ false
is_false true never = absurd (never refl)
is_false false never = refl

or_false : (b : Bool) → (b || false) ≡ b
or_false true = refl
or_false false = refl

-- the words are of this command
abbrev is_of : List ℕ → List (List ℕ) → Row → Bool
is_of command words row = bytes_eq command row.name && are_accepted row.options words

-- a test of the words
abbrev pub is_accepted : List (List ℕ) → Bool
is_accepted [] = false
is_accepted (command ∷ words) = list_any (is_of command words) commands

-- no two of the commands have one name
abbrev are_apart : List Row → Bool
are_apart [] = true
are_apart (row ∷ rows) = list_all (λ (other : Row). not (bytes_eq row.name other.name)) rows && are_apart rows

some_if : (accepted : Bool) (asked : Asked) → is_some (only_if accepted asked) ≡ accepted
some_if true asked = refl
some_if false asked = refl

-- a name that is none of these rows' has no accepted words among them
none_of : (command : List ℕ) (words : List (List ℕ)) (rows : List Row)
    → list_all (λ (other : Row). not (bytes_eq command other.name)) rows ≡ true → list_any (is_of command words) rows ≡ false
none_of command words [] apart = refl
none_of command words (row ∷ rows) apart =
    let parts = and_parts (not (bytes_eq command row.name)) _ apart in
    ap (λ (b : Bool). (b && are_accepted row.options words) || list_any (is_of command words) rows) (not_true _ parts.0)
    ∙ none_of command words rows parts.1

module _ (command : List ℕ) (words : List (List ℕ)) where
  -- a row asks for something where the words are its own, and so do the rows behind it; other rows have other names
  by_row : (row : Row) (rows : List Row) (same : Bool) → bytes_eq command row.name ≡ same
      → list_all (λ (other : Row). not (bytes_eq row.name other.name)) rows ≡ true
      → is_some (asked_of rows command words) ≡ list_any (is_of command words) rows
      → is_some (if same then only_if (are_accepted row.options words) (row.asks words) else asked_of rows command words)
      ≡ ((same && are_accepted row.options words) || list_any (is_of command words) rows)
  by_row row rows true is apart rest =
      let own : list_any (is_of command words) rows ≡ false =
      none_of command words rows
      (subst (λ (name : List ℕ). list_all (λ (other : Row). not (bytes_eq name other.name)) rows ≡ true)
      (sym ((bytes_eq-Decides command row.name).0 is)) apart) in
      some_if (are_accepted row.options words) (row.asks words)
      ∙ sym (ap (λ (b : Bool). are_accepted row.options words || b) own ∙ or_false (are_accepted row.options words))
  by_row row rows false is apart rest = rest

  by_rows : (rows : List Row) → are_apart rows ≡ true → is_some (asked_of rows command words) ≡ list_any (is_of command words) rows
  by_rows [] apart = refl
  by_rows (row ∷ rows) apart =
      let parts = and_parts (list_all (λ (other : Row). not (bytes_eq row.name other.name)) rows) _ apart in
      by_row row rows (bytes_eq command row.name) refl parts.0 (by_rows rows parts.1)

accepted-asked : (words : List (List ℕ)) → is_some (asked_by words) ≡ is_accepted words
accepted-asked [] = refl
accepted-asked (command ∷ words) = by_rows command words commands refl

pub accepted_by : (words : List (List ℕ)) → is_accepted words ≡ true → IsAccepted words
accepted_by [] accepted = absurd (true≢false (sym accepted))
accepted_by (command ∷ words) accepted =
    let found = Any-from_list_any (is_of command words) commands accepted in
    let parts = and_parts (bytes_eq command found.1.name) (are_accepted found.1.options words) found.4 in
    let name = (bytes_eq-Decides command found.1.name).0 parts.0 in
    (found.1, words, (found.0, found.2, found.3), ap (λ (w : List ℕ). w ∷ words) name, accepted_given found.1.options words parts.1)

row_by : (words : List (List ℕ)) → IsAccepted words → is_accepted words ≡ true
row_by words is =
    let own : is_of is.0.name is.1 is.0 ≡ true =
    and_from (bytes_eq is.0.name is.0.name) (are_accepted is.0.options is.1) ((bytes_eq-Decides is.0.name is.0.name).1 refl)
    (ap (are_accepted is.0.options) is.4.1 ∙ given_accepted is.0.options is.4.0 is.4.2) in
    let listed : is_accepted (is.0.name ∷ is.1) ≡ true =
    list_any_at (is_of is.0.name is.1) commands is.2.0 is.0 is.2.1 (subst (λ (r : Row). is_of is.0.name is.1 r ≡ true) (sym is.2.2) own) in
    ap is_accepted is.3 ∙ listed

pub accepted_asks : (words : List (List ℕ)) → IsAccepted words → is_some (asked_by words) ≡ true
accepted_asks words is = accepted-asked words ∙ row_by words is

pub asks_accepted : (words : List (List ℕ)) → is_some (asked_by words) ≡ true → IsAccepted words
asks_accepted words asks = accepted_by words (sym (accepted-asked words) ∙ asks)

-- words that fail the test aren't accepted
pub refused : (words : List (List ℕ)) → is_accepted words ≡ false → IsAccepted words → ⊥
refused words fails is = true≢false (sym (row_by words is) ∙ fails)

-- what the words ask for that are of one of these rows
module _ (words : List (List ℕ)) (row : Row) where
  at_first : are_accepted row.options words ≡ true → (first : Row) (rows : List Row) → first ≡ row
      → asked_of (first ∷ rows) row.name words ≡ Some (row.asks words)
  at_first accepted first rows is =
      subst (λ (r : Row). asked_of (r ∷ rows) row.name words ≡ Some (row.asks words)) (sym is)
      (ap (λ (b : Bool). if b then only_if (are_accepted row.options words) (row.asks words) else asked_of rows row.name words)
      ((bytes_eq-Decides row.name row.name).1 refl)
      ∙ ap (λ (b : Bool). only_if b (row.asks words)) accepted)

  -- the first of some rows has another name than one of those behind it
  other_name : (first : Row) (rows : List Row) (i : ℕ) → i < length rows → get_or rows i row ≡ row
      → list_all (λ (other : Row). not (bytes_eq first.name other.name)) rows ≡ true → bytes_eq row.name first.name ≡ false
  other_name first rows i inside is apart =
      is_false (bytes_eq row.name first.name)
      (λ same. true≢false (sym apart
      ∙ list_all_at (λ (other : Row). not (bytes_eq first.name other.name)) rows i row inside
      (ap (λ (r : Row). not (bytes_eq first.name r.name)) is
      ∙ ap not ((bytes_eq-Decides first.name row.name).1 (sym ((bytes_eq-Decides row.name first.name).0 same))))))

  asks_at : are_accepted row.options words ≡ true → (rows : List Row) → are_apart rows ≡ true → (i : ℕ) → i < length rows
      → get_or rows i row ≡ row → asked_of rows row.name words ≡ Some (row.asks words)
  asks_at accepted [] apart i inside is = absurd (omega arith)
  asks_at accepted (first ∷ rows) apart zero inside is = at_first accepted first rows is
  asks_at accepted (first ∷ rows) apart (suc i) inside is =
      let parts = and_parts (list_all (λ (other : Row). not (bytes_eq first.name other.name)) rows) _ apart in
      let within : i < length rows = omega arith in
      ap (λ (b : Bool). if b then only_if (are_accepted first.options words) (first.asks words) else asked_of rows row.name words)
      (other_name first rows i within is parts.0)
      ∙ asks_at accepted rows parts.1 i within is

-- what accepted words ask for
pub asks_row : (words : List (List ℕ)) (row : Row) (pairs : List GivenOption) → Contains commands row → AreGiven row.options pairs
    → words ≡ row.name ∷ words_of pairs → asked_by words ≡ Some (row.asks (words_of pairs))
asks_row words row pairs here are is =
    ap asked_by is ∙ asks_at (words_of pairs) row (given_accepted row.options pairs are) commands refl here.0 here.1 here.2
