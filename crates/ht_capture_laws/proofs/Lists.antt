-- Ranges, filters, maps and octets.
use Rattle.std.proofs.Common.{◌≡◌, ℕ, zero, suc, ◌+◌, ◌*◌, ◌<◌, List, [], ◌∷◌, ◌++◌, length, map, flat_map}
use Rattle.std.proofs.Common.{Bool, true, false, if◌then◌else◌, refl, ap, subst, ◌∙◌, length-append, arith}
use Rattle.std.specs.List.{filter, range_with_len, AllByRecursion}
use Rattle.std.proofs.Math.Seq.{drop-append_seam}
use Rattle.ht_fields.specs.Tests.{AreBytes}
use Rattle.ht_capture.proofs.Encoded.{bytes_drop}

pub range_append : (a n m : ℕ) → range_with_len a (n + m) ≡ range_with_len a n ++ range_with_len (a + n) m
range_append a zero m =
    let none : 0 + m ≡ m = omega arith in
    let place : a ≡ a + 0 = omega arith in
    ap (range_with_len a) none ∙ ap (λ k. range_with_len k m) place
range_append a (suc n) m =
    let next : suc n + m ≡ suc (n + m) = omega arith in
    let place : a + 1 + n ≡ a + suc n = omega arith in
    ap (range_with_len a) next
    ∙ (ap (λ (z : List ℕ). a ∷ z) (range_append (a + 1) n m) ∙ ap (λ k. a ∷ (range_with_len (a + 1) n ++ range_with_len k m)) place)

-- two tests that agree on a range keep the same numbers of it
pub filter_range : (p q : ℕ → Bool) (a n : ℕ) → ((i : ℕ) → i < a + n → p i ≡ q i) → filter p (range_with_len a n) ≡ filter q (range_with_len a n)
filter_range p q a zero same = refl
filter_range p q a (suc n) same =
    let rest = filter_range p q (a + 1) n (λ i lt. same i (omega (arith, lt))) in
    ap (λ (b : Bool). if b then a ∷ filter p (range_with_len (a + 1) n) else filter p (range_with_len (a + 1) n)) (same a (omega arith))
    ∙ ap (λ (z : List ℕ). if q a then a ∷ z else z) rest

pub all_range : (P : ℕ → Type 0) (a n : ℕ) → ((i : ℕ) → i < a + n → P i) → AllByRecursion P (range_with_len a n)
all_range P a zero holds = tt
all_range P a (suc n) holds = (holds a (omega arith), all_range P (a + 1) n (λ i lt. holds i (omega (arith, lt))))

pub all_append : {X : Type 0} (P : X → Type 0) (xs ys : List X) → AllByRecursion P xs → AllByRecursion P ys → AllByRecursion P (xs ++ ys)
all_append P [] ys a b = b
all_append P (x ∷ xs) ys a b = (a.0, all_append P xs ys a.1 b)

pub all_flat : {X Y : Type 0} (P : Y → Type 0) (f : X → List Y) (xs : List X)
    → AllByRecursion (λ x. AllByRecursion P (f x)) xs → AllByRecursion P (flat_map f xs)
all_flat P f [] a = tt
all_flat P f (x ∷ xs) a = all_append P (f x) (flat_map f xs) a.0 (all_flat P f xs a.1)

pub all_map : {X Y : Type 0} (P : Y → Type 0) (f : X → Y) (xs : List X) → AllByRecursion (λ x. P (f x)) xs → AllByRecursion P (map f xs)
all_map P f [] a = tt
all_map P f (x ∷ xs) a = (a.0, all_map P f xs a.1)

pub all_of_map : {X Y : Type 0} (P : Y → Type 0) (f : X → Y) (xs : List X) → AllByRecursion P (map f xs) → AllByRecursion (λ x. P (f x)) xs
all_of_map P f [] a = tt
all_of_map P f (x ∷ xs) a = (a.0, all_of_map P f xs a.1)

pub all_weaker : {X : Type 0} (P Q : X → Type 0) (xs : List X) → ((x : X) → P x → Q x) → AllByRecursion P xs → AllByRecursion Q xs
all_weaker P Q [] f a = tt
all_weaker P Q (x ∷ xs) f a = (f x a.0, all_weaker P Q xs f a.1)

kept_of : {X : Type 0} (P : X → Type 0) (p : X → Bool) (x : X) (b : Bool) (rest : List X) → p x ≡ b → P x → AllByRecursion (λ y. P y × (p y ≡ true)) rest
    → AllByRecursion (λ y. P y × (p y ≡ true)) (if b then x ∷ rest else rest)
kept_of P p x true rest e holds all = ((holds, e), all)
kept_of P p x false rest e holds all = all

-- what a filter keeps meets what all do, and its test
pub all_kept : {X : Type 0} (P : X → Type 0) (p : X → Bool) (xs : List X) → AllByRecursion P xs → AllByRecursion (λ x. P x × (p x ≡ true)) (filter p xs)
all_kept P p [] a = tt
all_kept P p (x ∷ xs) a = kept_of P p x (p x) (filter p xs) refl a.0 (all_kept P p xs a.1)

-- as many elements for each number of a range
pub length-flat : {X : Type 0} (f : ℕ → List X) (w a n : ℕ) → ((i : ℕ) → length (f i) ≡ w) → length (flat_map f (range_with_len a n)) ≡ n * w
length-flat f w a zero each = omega arith
length-flat f w a (suc n) each = omega (arith, length-append (f a) (flat_map f (range_with_len (a + 1) n)), each a, length-flat f w (a + 1) n each)

-- octets that are octets, in two parts
pub bytes_front : (xs ys : List ℕ) → AreBytes (xs ++ ys) → AreBytes xs
bytes_front [] ys bytes i = omega arith
bytes_front (x ∷ xs) ys bytes zero = bytes 0
bytes_front (x ∷ xs) ys bytes (suc i) = bytes_front xs ys (λ j. bytes (suc j)) i

pub bytes_behind : (xs ys : List ℕ) → AreBytes (xs ++ ys) → AreBytes ys
bytes_behind xs ys bytes = subst AreBytes (drop-append_seam xs ys) (bytes_drop (length xs) (xs ++ ys) bytes)
