-- What is at hand: octets up to the next stop, and the buffer of a reader of std.
use Rattle.std.proofs.Common.{◌≡◌, ◌+◌, ◌<◌, ◌≤◌, ◌⊎◌, ℕ, zero, suc, Bool, true, false, List, [], ◌∷◌, ◌++◌, length, take, drop, Contains, inl, inr, refl}
use Rattle.std.proofs.Common.{ap, ◌∙◌, sym, subst, arith, Option, Some, None, nat_eq, take-append-drop, append_assoc, drop-drop, length-drop}
use Rattle.std.specs.Prelude.{if◌then◌else◌}
use Rattle.std.specs.List.{list_any}
use Rattle.std.proofs.lemmas.Bool.Decides.{nat_tests}
use Rattle.std.proofs.lemmas.Cmp.{nat_eq_equiv}
use Rattle.std.proofs.lemmas.List.Elements.{All-append}
use Rattle.std.proofs.lemmas.List.Folds.{list_any_none}
use Rattle.std.proofs.lemmas.Map.Views.{list_any-from_Contains, Contains-from_any}
use Rattle.std.specs.Io.KnownBytes.{Consumes, prepend_known}
use Rattle.ht_io.specs.Reading.{PassesNone, IsFull, up_to_stop, ready_of}

-- the buffer's first octets were taken, and what is behind it stays
pub consumes-buffer : (held : List ℕ) (known : Option (List ℕ)) (count : ℕ)
    → Consumes (prepend_known held known) (prepend_known (drop count held) known) (take count held)
consumes-buffer held None count = tt
consumes-buffer held (Some behind) count =
    ap (λ (z : List ℕ). z ++ behind) (sym (take-append-drop count held)) ∙ append_assoc (take count held) (drop count held) behind

pub consumes-behind : (is_small : Bool) (held : List ℕ) (known : Option (List ℕ)) (count : ℕ)
    → Consumes (if is_small then None else prepend_known held known) (if is_small then None else prepend_known (drop count held) known) (take count held)
consumes-behind true held known count = tt
consumes-behind false held known count = consumes-buffer held known count

-- a stop that is there, and one that is not
at_stop : (stops : List ℕ) (at : ℕ) → Contains stops at → list_any (nat_eq at) stops ≡ true
at_stop stops at has = list_any-from_Contains nat_eq_equiv at stops has

no_stop_within : (stops : List ℕ) (at more : ℕ) → PassesNone stops at (suc (suc more)) → list_any (nat_eq (at + 1)) stops ≡ false
no_stop_within stops at more passes =
    list_any_none (nat_eq (at + 1)) stops (λ k d below. elim (passes k d below) [ inl p ↦ grind (arith, nat_tests) | inr p ↦ grind (arith, nat_tests) ])

passes_none-next : (stops : List ℕ) (at more : ℕ) → PassesNone stops at (suc (suc more)) → PassesNone stops (at + 1) (suc more)
passes_none-next stops at more passes =
    λ k d below. elim (passes k d below) [ inl p ↦ inl (omega arith) | inr p ↦ inr (omega arith) ]

-- one octet, and no more up to a stop or the end
one_octet : (stops : List ℕ) (at x : ℕ) (xs : List ℕ) → IsFull stops at (length (x ∷ xs)) 1 → x ∷ [] ≡ up_to_stop stops at (x ∷ xs)
one_octet stops at x xs (inr has) = rw (at_stop stops (at + 1) has) refl
one_octet stops at x [] (inl whole) =
    elim (list_any (nat_eq (at + 1)) stops) as (λ b. x ∷ [] ≡ x ∷ (if b then [] else [])) [ true ↦ refl | false ↦ refl ]
one_octet stops at x (y ∷ ys) (inl whole) = absurd (omega arith)

-- octets that end at a stop or at the end, and pass no stop
pub up_to_stop-is : (stops : List ℕ) (at count : ℕ) (octets : List ℕ) → 0 < count → count ≤ length octets → PassesNone stops at count
    → IsFull stops at (length octets) count → take count octets ≡ up_to_stop stops at octets
up_to_stop-is stops at zero octets some within passes full = absurd (omega arith)
up_to_stop-is stops at (suc more) [] some within passes full = absurd (omega arith)
up_to_stop-is stops at (suc zero) (x ∷ xs) some within passes full = one_octet stops at x xs full
up_to_stop-is stops at (suc (suc more)) (x ∷ xs) some within passes full =
    let ends : IsFull stops (at + 1) (length xs) (suc more) =
    elim full [ inl p ↦ inl (omega arith) | inr p ↦ inr (subst (λ (n : ℕ). Contains stops n) (omega arith) p) ] in
    rw (no_stop_within stops at more passes)
    (ap (λ (z : List ℕ). x ∷ z) (up_to_stop-is stops (at + 1) (suc more) xs (omega arith) (omega arith) (passes_none-next stops at more passes) ends))

-- where a read fails, none are ready
pub ready-fails : (cuts failing octets : List ℕ) (at : ℕ) → Contains failing at → take 0 octets ≡ ready_of cuts failing at octets
ready-fails cuts failing octets at has = rw (at_stop failing at has) refl

-- at the end, none are ready
pub ready-none : (cuts failing octets : List ℕ) (at : ℕ) → length octets ≡ 0 → take 0 octets ≡ ready_of cuts failing at octets
ready-none cuts failing [] at is =
    elim (list_any (nat_eq at) failing) as (λ b. ◌≡◌ {A = List ℕ} [] (if b then [] else [])) [ true ↦ refl | false ↦ refl ]
ready-none cuts failing (x ∷ xs) at is = absurd (omega arith)

-- else those up to the next cut or failing offset are
pub ready-is : (cuts failing octets : List ℕ) (at count : ℕ) → (Contains failing at → ⊥) → 0 < count → count ≤ length octets
    → PassesNone cuts at count → PassesNone failing at count → IsFull (cuts ++ failing) at (length octets) count
    → take count octets ≡ ready_of cuts failing at octets
ready-is cuts failing octets at count works some within cut failed full =
    let is : take count octets ≡ up_to_stop (cuts ++ failing) at octets =
    up_to_stop-is (cuts ++ failing) at count octets some within
    (All-append (λ stop. (stop ≤ at) ⊎ (at + count ≤ stop)) cuts failing cut failed) full in
    elim (list_any (nat_eq at) failing) as (λ b. (b ≡ true → Contains failing at)
    → take count octets ≡ (if b then [] else up_to_stop (cuts ++ failing) at octets)) [
      | true ↦ λ has. absurd (works (has refl))
      | false ↦ λ has. is
    ] (λ found. Contains-from_any exact at failing found)
  where
    exact : (x y : ℕ) → nat_eq x y ≡ true → x ≡ y
    exact x y same = grind (arith, nat_tests)

-- what is ready is a front of the octets
pub up_to_stop-short : (stops : List ℕ) (at : ℕ) (octets : List ℕ) → length (up_to_stop stops at octets) ≤ length octets
up_to_stop-short stops at [] = omega arith
up_to_stop-short stops at (x ∷ xs) =
    let later = up_to_stop-short stops (at + 1) xs in
    elim (list_any (nat_eq (at + 1)) stops) as (λ b. length (x ∷ (if b then [] else up_to_stop stops (at + 1) xs)) ≤ length (x ∷ xs)) [
      | true ↦ omega arith
      | false ↦ omega arith
    ]

take-none : (count : ℕ) (xs : List ℕ) → count ≤ 0 → take count xs ≡ take count []
take-none zero xs none = refl
take-none (suc count) xs none = absurd (omega arith)

pub up_to_stop-front : (stops : List ℕ) (at count : ℕ) (octets : List ℕ) → count ≤ length (up_to_stop stops at octets)
    → take count octets ≡ take count (up_to_stop stops at octets)
up_to_stop-front stops at count [] few = refl
up_to_stop-front stops at zero (x ∷ xs) few = refl
up_to_stop-front stops at (suc count) (x ∷ xs) few =
    elim (list_any (nat_eq (at + 1)) stops) as (λ b. suc count ≤ length (x ∷ (if b then [] else up_to_stop stops (at + 1) xs))
    → take (suc count) (x ∷ xs) ≡ take (suc count) (x ∷ (if b then [] else up_to_stop stops (at + 1) xs))) [
      | true ↦ λ some. ap (λ (z : List ℕ). x ∷ z) (take-none count xs (omega arith))
      | false ↦ λ some. ap (λ (z : List ℕ). x ∷ z) (up_to_stop-front stops (at + 1) count xs (omega arith))
    ] few

pub ready-short : (cuts failing : List ℕ) (at : ℕ) (octets : List ℕ) → length (ready_of cuts failing at octets) ≤ length octets
ready-short cuts failing at octets =
    elim (list_any (nat_eq at) failing) as (λ b. length (if b then [] else up_to_stop (cuts ++ failing) at octets) ≤ length octets) [
      | true ↦ omega arith
      | false ↦ up_to_stop-short (cuts ++ failing) at octets
    ]

pub ready-front : (cuts failing : List ℕ) (at count : ℕ) (octets : List ℕ) → count ≤ length (ready_of cuts failing at octets)
    → take count octets ≡ take count (ready_of cuts failing at octets)
ready-front cuts failing at count octets few =
    elim (list_any (nat_eq at) failing) as (λ b. count ≤ length (if b then [] else up_to_stop (cuts ++ failing) at octets)
    → take count octets ≡ take count (if b then [] else up_to_stop (cuts ++ failing) at octets)) [
      | true ↦ λ none. take-none count octets none
      | false ↦ λ some. up_to_stop-front (cuts ++ failing) at count octets some
    ] few

-- what is left of the bytes behind some of the octets that are ready
pub ready-taken : (cuts failing bytes : List ℕ) (at count : ℕ) → count ≤ length (ready_of cuts failing at (drop at bytes))
    → drop at bytes ≡ take count (ready_of cuts failing at (drop at bytes)) ++ drop (at + count) bytes
ready-taken cuts failing bytes at count few =
    rw (← ready-front cuts failing at count (drop at bytes) few, ← drop-drop count at bytes) (sym (take-append-drop count (drop at bytes)))

pub ready-within : (cuts failing bytes : List ℕ) (at count : ℕ) → at ≤ length bytes
    → count ≤ length (ready_of cuts failing at (drop at bytes)) → at + count ≤ length bytes
ready-within cuts failing bytes at count began few =
    omega (arith, ready-short cuts failing at (drop at bytes), length-drop at bytes)
