-- Words in the plain form are those that pairs of an option and its digits spell.
use Rattle.std.proofs.Common.{◌≡◌, ◌≢◌, ◌≤◌, ◌<◌, ◌∙◌, ℕ, Bool, true, false, List, [], ◌∷◌, Option, Some, None, refl, sym, ap, ap₂, arith}
use Rattle.std.proofs.Common.{◌⊎◌, suc, zero, inl, inr, subst, length, get_or, is_some}
use Rattle.std.proofs.lemmas.Bool.{and_from, and_parts, both_ways, cases_Bool, false_from_ne_true, leb-true, le-leb, not-true, not_from_false, true≢false}
use Rattle.std.proofs.lemmas.List.Elements.{All-contains_itself, All-cons, All-head, All-nil, All-tail}
use Rattle.std.proofs.lemmas.List.Folds.{Any-from_list_any, list_any_at}
use Rattle.std.proofs.lemmas.List.Kept.{AllPairs-cons}
use Rattle.std.proofs.lemmas.List.Sums.{AllPass-from_list_all, list_all-from_AllPass}
use Rattle.std.proofs.lemmas.Slice.Eq.{bytes_eq-Decides}
use Rattle.std.specs.Prelude.{All, AllPairs, Contains, bytes_eq, find, if◌then◌else◌, nat_le}
use Rattle.std.specs.Char.{is_ascii_digit}
use Rattle.std.specs.List.{list_all, list_any}
use Rattle.std.specs.Option.{option_map_or}
use Rattle.std.specs.Str.Parse.{digits_value}
use Rattle.ht_words.specs.declared.setting.Setting.{Setting}
use Rattle.ht_words.specs.declared.setting.Setting.TheVariants.{Workers, Window, Seed, Noise, Frames, Mcs, Bandwidth, Length}
use Rattle.ht_words.specs.Accepted.{AreAccepted, AreGiven, HasNumber, GivenOption, words_of}
use Rattle.ht_words.specs.Settings.{admits, default_of, name_of}
use Rattle.ht_words.specs.Words.{are_accepted, for_demo, given, is_number, is_pair, is_plain, names_one, value_of}

-- the option of a name
named : List ℕ → Option Setting
named name = find (λ setting. bytes_eq name (name_of setting)) for_demo

named_back : (setting : Setting) → named (name_of setting) ≡ Some setting
unfolding named
named_back Workers = refl
named_back Window = refl
named_back Seed = refl
named_back Noise = refl
named_back Frames = refl
named_back Mcs = refl
named_back Bandwidth = refl
named_back Length = refl

-- no two options have one name
pub same_setting : (a b : Setting) → name_of a ≡ name_of b → a ≡ b
same_setting a b same =
    let all : Some a ≡ Some b = sym (named_back a) ∙ (ap named same ∙ named_back b) in
    cc

pub same_name : (a b : Setting) → bytes_eq (name_of a) (name_of b) ≡ true → a ≡ b
same_name a b same = same_setting a b ((bytes_eq-Decides (name_of a) (name_of b)).0 same)

pub other_name : (a b : Setting) → a ≢ b → bytes_eq (name_of a) (name_of b) ≡ false
other_name a b other = false_from_ne_true (bytes_eq (name_of a) (name_of b)) (λ same. other (same_name a b same))

own_name : (setting : Setting) → bytes_eq (name_of setting) (name_of setting) ≡ true
own_name setting = (bytes_eq-Decides (name_of setting) (name_of setting)).1 refl

abbrev Apart : GivenOption → GivenOption → Type 0
Apart pair other = pair.setting ≢ other.setting

apart_head : (pair : GivenOption) (pairs : List GivenOption) → AllPairs Apart (pair ∷ pairs) → All (Apart pair) pairs
apart_head pair pairs once = λ k d within. once 0 (suc k) d (omega arith) (omega (arith, within))

apart_tail : (pair : GivenOption) (pairs : List GivenOption) → AllPairs Apart (pair ∷ pairs) → AllPairs Apart pairs
apart_tail pair pairs once = λ i j d before within. once (suc i) (suc j) d (omega (arith, before)) (omega (arith, within))

-- an option that no pair gives is given by no words of theirs
pub not_given : (setting : Setting) (pairs : List GivenOption) → All (λ (pair : GivenOption). pair.setting ≢ setting) pairs
    → given (name_of setting) (words_of pairs) ≡ None
not_given setting [] none = refl
not_given setting (pair ∷ pairs) none =
    let other = other_name pair.setting setting (All-head (λ (pair : GivenOption). pair.setting ≢ setting) pair pairs none) in
    ap (λ (b : Bool). if b then Some pair.digits else given (name_of setting) (words_of pairs)) other
    ∙ not_given setting pairs (All-tail (λ (pair : GivenOption). pair.setting ≢ setting) pair pairs none)

-- an option that a pair gives has its digits
given_at : (pairs : List GivenOption) (k : ℕ) (pair : GivenOption) → AllPairs Apart pairs → k < length pairs → get_or pairs k pair ≡ pair
    → given (name_of pair.setting) (words_of pairs) ≡ Some pair.digits
given_at [] k pair once within here = absurd (omega (arith, within))
given_at (first ∷ pairs) zero pair once within here =
    subst (λ (p : GivenOption). given (name_of p.setting) (words_of (first ∷ pairs)) ≡ Some p.digits) here
    (ap (λ (b : Bool). if b then Some first.digits else given (name_of first.setting) (words_of pairs)) (own_name first.setting))
given_at (first ∷ pairs) (suc k) pair once within here =
    let apart : first.setting ≢ (get_or pairs k pair).setting = once 0 (suc k) pair (omega arith) within in
    let other = other_name first.setting pair.setting (subst (λ (p : GivenOption). first.setting ≢ p.setting) here apart) in
    ap (λ (b : Bool). if b then Some first.digits else given (name_of pair.setting) (words_of pairs)) other
    ∙ given_at pairs k pair (apart_tail first pairs once) (omega (arith, within)) here

pub is_given : (pairs : List GivenOption) (pair : GivenOption) → AllPairs Apart pairs → Contains pairs pair
    → given (name_of pair.setting) (words_of pairs) ≡ Some pair.digits
is_given pairs pair once here = given_at pairs here.0 pair once here.1 here.2

-- the value of an option that a pair gives, and of one that none gives
pub value_given : (pairs : List GivenOption) (pair : GivenOption) → AllPairs Apart pairs → Contains pairs pair
    → value_of (words_of pairs) pair.setting ≡ digits_value 10 pair.digits
value_given pairs pair once here = ap (λ o. option_map_or (digits_value 10) o (default_of pair.setting)) (is_given pairs pair once here)

pub value_left : (pairs : List GivenOption) (setting : Setting) → All (λ (pair : GivenOption). pair.setting ≢ setting) pairs
    → value_of (words_of pairs) setting ≡ default_of setting
value_left pairs setting none = ap (λ o. option_map_or (digits_value 10) o (default_of setting)) (not_given setting pairs none)

-- words that no pair has given
apart_from : (setting : Setting) (pairs : List GivenOption) → is_some (given (name_of setting) (words_of pairs)) ≡ false
    → All (λ (other : GivenOption). setting ≢ other.setting) pairs
apart_from setting [] free = All-nil (λ (other : GivenOption). setting ≢ other.setting)
apart_from setting (pair ∷ pairs) free = go (bytes_eq (name_of pair.setting) (name_of setting)) refl (apart_from setting pairs)
  where
    go : (same : Bool) → bytes_eq (name_of pair.setting) (name_of setting) ≡ same
        → (is_some (given (name_of setting) (words_of pairs)) ≡ false → All (λ (other : GivenOption). setting ≢ other.setting) pairs)
        → All (λ (other : GivenOption). setting ≢ other.setting) (pair ∷ pairs)
    go true is later =
        let told : true ≡ false =
        sym (ap (λ (b : Bool). is_some (if b then Some pair.digits else given (name_of setting) (words_of pairs))) is) ∙ free in
        absurd (true≢false told)
    go false is later =
        let others : is_some (given (name_of setting) (words_of pairs)) ≡ false =
        sym (ap (λ (b : Bool). is_some (if b then Some pair.digits else given (name_of setting) (words_of pairs))) is) ∙ free in
        All-cons (λ (other : GivenOption). setting ≢ other.setting) pair pairs
        (λ same. both_ways _ is (subst (λ (s : Setting). bytes_eq (name_of s) (name_of setting) ≡ true) same (own_name setting)))
        (later others)

-- 1 to 20 decimal digits
number_parts : (digits : List ℕ) → is_number digits ≡ true
    → (1 ≤ length digits) × (length digits ≤ 20) × All (λ (octet : ℕ). is_ascii_digit octet ≡ true) digits
number_parts digits number =
    let first = and_parts (nat_le 1 (length digits)) _ number in
    let second = and_parts (nat_le (length digits) 20) _ first.1 in
    (leb-true 1 (length digits) first.0, leb-true (length digits) 20 second.0, AllPass-from_list_all is_ascii_digit digits second.1)

number_from : (pair : GivenOption) → HasNumber pair → is_number pair.digits ≡ true
number_from pair has =
    and_from (nat_le 1 (length pair.digits)) _ (le-leb 1 (length pair.digits) has.some)
    (and_from (nat_le (length pair.digits) 20) _ (le-leb (length pair.digits) 20 has.few) (list_all-from_AllPass is_ascii_digit pair.digits has.decimal))

-- the option that a word names
one_of : (options : List Setting) (word : List ℕ) → names_one options word ≡ true → (setting : Setting) × (word ≡ name_of setting) × Contains options setting
one_of options word one =
    let found = Any-from_list_any (λ (setting : Setting). bytes_eq word (name_of setting)) options one in
    (found.1, (bytes_eq-Decides word (name_of found.1)).0 found.4, (found.0, found.2, found.3))

names : (options : List Setting) (setting : Setting) → Contains options setting → names_one options (name_of setting) ≡ true
names options setting here =
    list_any_at (λ (s : Setting). bytes_eq (name_of setting) (name_of s)) options here.0 setting here.1
    (subst (λ (s : Setting). bytes_eq (name_of setting) (name_of s) ≡ true) (sym here.2) (own_name setting))

-- pairs whose numbers may be too large
record ArePlain (options : List Setting) (pairs : List GivenOption) : Type 0 where
  known : All (λ (pair : GivenOption). Contains options pair.setting) pairs
  numbers : All (λ (pair : GivenOption). is_number pair.digits ≡ true) pairs
  once : AllPairs Apart pairs

abbrev Spelled : List Setting → List (List ℕ) → Type 0
Spelled options words = (pairs : List GivenOption) × (words ≡ words_of pairs) × ArePlain options pairs

spelled_more : (options : List Setting) (word digits : List ℕ) (words : List (List ℕ))
    → (setting : Setting) × (word ≡ name_of setting) × Contains options setting → is_number digits ≡ true → is_some (given word words) ≡ false
    → Spelled options words → Spelled options (word ∷ digits ∷ words)
spelled_more options word digits words one number free rest =
    let pair : GivenOption = record { setting = one.0; digits = digits } in
    let none : is_some (given (name_of one.0) (words_of rest.0)) ≡ false =
    ap₂ (λ (w : List ℕ) (ws : List (List ℕ)). is_some (given w ws)) (sym one.1) (sym rest.1) ∙ free in (
      pair ∷ rest.0,
      ap₂ (λ (w : List ℕ) (ws : List (List ℕ)). w ∷ digits ∷ ws) one.1 rest.1,
      record {
        known = All-cons (λ (p : GivenOption). Contains options p.setting) pair rest.0 one.2 rest.2.known;
        numbers = All-cons (λ (p : GivenOption). is_number p.digits ≡ true) pair rest.0 number rest.2.numbers;
        once = AllPairs-cons Apart pair rest.0 (apart_from one.0 rest.0 none) rest.2.once;
      },
    )

spelled : (options : List Setting) (words : List (List ℕ)) → is_plain options words ≡ true → Spelled options words
spelled options [] plain = (
  [],
  refl,
  record {
    known = All-nil (λ (p : GivenOption). Contains options p.setting);
    numbers = All-nil (λ (p : GivenOption). is_number p.digits ≡ true);
    once = λ i j d before within. absurd (omega (arith, within));
  },
)
spelled options (word ∷ []) plain = absurd (true≢false (sym plain))
spelled options (word ∷ digits ∷ words) plain =
    let ends = and_parts (is_pair options word digits words) _ plain in
    let first = and_parts (names_one options word) _ ends.0 in
    let second = and_parts (is_number digits) _ first.1 in
    spelled_more options word digits words (one_of options word first.0) second.0 (not-true (is_some (given word words)) second.1)
    (spelled options words ends.1)

-- the words that are accepted are given by pairs
pub accepted_given : (options : List Setting) (words : List (List ℕ)) → are_accepted options words ≡ true → AreAccepted options words
accepted_given options words accepted = (way.0, way.1, record { known = way.2.known; numbers = numbers; once = way.2.once })
  where
    parts : (is_plain options words ≡ true) × (list_all (λ setting. admits setting (value_of words setting)) options ≡ true)
    parts = and_parts (is_plain options words) _ accepted

    way : Spelled options words
    way = spelled options words parts.0

    admitted : (pair : GivenOption) → Contains options pair.setting → Contains way.0 pair → admits pair.setting (digits_value 10 pair.digits) ≡ true
    admitted pair known here =
        let each = AllPass-from_list_all (λ setting. admits setting (value_of words setting)) options parts.1 in
        let own : admits pair.setting (value_of words pair.setting) ≡ true =
        subst (λ (s : Setting). admits s (value_of words s) ≡ true) known.2 (each known.0 pair.setting known.1) in
        let value : value_of words pair.setting ≡ digits_value 10 pair.digits =
        ap (λ (ws : List (List ℕ)). value_of ws pair.setting) way.1 ∙ value_given way.0 pair way.2.once here in
        subst (λ (n : ℕ). admits pair.setting n ≡ true) value own

    numbers : All HasNumber way.0
    numbers = λ k d within.
        let number = number_parts (get_or way.0 k d).digits (way.2.numbers k d within) in
        record {
          some = number.0;
          few = number.1;
          decimal = number.2;
          admitted = admitted (get_or way.0 k d) (way.2.known k d within) (All-contains_itself way.0 k d within);
        }

default_admitted : (setting : Setting) → admits setting (default_of setting) ≡ true
default_admitted Workers = refl
default_admitted Window = refl
default_admitted Seed = refl
default_admitted Noise = refl
default_admitted Frames = refl
default_admitted Mcs = refl
default_admitted Bandwidth = refl
default_admitted Length = refl

plain_given : (options : List Setting) (pairs : List GivenOption) → AreGiven options pairs → is_plain options (words_of pairs) ≡ true
plain_given options [] are = refl
plain_given options (pair ∷ pairs) are =
    let free = not_given pair.setting pairs (λ k d within same. apart_head pair pairs are.once k d within (sym same)) in
    let rest : AreGiven options pairs =
    record {
      known = All-tail (λ (p : GivenOption). Contains options p.setting) pair pairs are.known;
      numbers = All-tail HasNumber pair pairs are.numbers;
      once = apart_tail pair pairs are.once;
    } in
    and_from (is_pair options (name_of pair.setting) pair.digits (words_of pairs)) _
    (and_from (names_one options (name_of pair.setting)) _
    (names options pair.setting (All-head (λ (p : GivenOption). Contains options p.setting) pair pairs are.known))
    (and_from (is_number pair.digits) _ (number_from pair (All-head HasNumber pair pairs are.numbers))
    (not_from_false (is_some (given (name_of pair.setting) (words_of pairs))) (ap is_some free))))
    (plain_given options pairs rest)

admits_given : (options : List Setting) (pairs : List GivenOption) (setting : Setting) → AreGiven options pairs
    → admits setting (value_of (words_of pairs) setting) ≡ true
admits_given options pairs setting are = go (cases_Bool (list_any is_it pairs))
  where
    is_it : GivenOption → Bool
    is_it pair = bytes_eq (name_of pair.setting) (name_of setting)

    go : (list_any is_it pairs ≡ true) ⊎ (list_any is_it pairs ≡ false) → admits setting (value_of (words_of pairs) setting) ≡ true
    go (inl is) =
        let found = Any-from_list_any is_it pairs is in
        let has : HasNumber found.1 = subst HasNumber found.3 (are.numbers found.0 found.1 found.2) in
        let value = value_given pairs found.1 are.once (found.0, found.2, found.3) in
        let own : admits found.1.setting (value_of (words_of pairs) found.1.setting) ≡ true =
        ap (admits found.1.setting) value ∙ has.admitted in
        subst (λ (s : Setting). admits s (value_of (words_of pairs) s) ≡ true) (same_name found.1.setting setting found.4) own
    go (inr is) =
        let none : All (λ (pair : GivenOption). pair.setting ≢ setting) pairs =
        λ k d within same. both_ways (list_any is_it pairs) is
        (list_any_at is_it pairs k d within
        (subst (λ (s : Setting). bytes_eq (name_of (get_or pairs k d).setting) (name_of s) ≡ true) same (own_name (get_or pairs k d).setting))) in
        ap (admits setting) (value_left pairs setting none) ∙ default_admitted setting

-- the words that pairs give are accepted
pub given_accepted : (options : List Setting) (pairs : List GivenOption) → AreGiven options pairs → are_accepted options (words_of pairs) ≡ true
given_accepted options pairs are =
    and_from (is_plain options (words_of pairs)) _ (plain_given options pairs are)
    (list_all-from_AllPass (λ setting. admits setting (value_of (words_of pairs) setting)) options
    (λ k d within. admits_given options pairs (get_or options k d) are))
