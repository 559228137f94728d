-- A fact of each element, as lists change.
use Rattle.std.proofs.Common.{◌≡◌, ◌↔◌, ℕ, zero, suc, ◌+◌, ◌<◌, ◌≤◌, List, [], ◌∷◌, ◌++◌, length, take}
use Rattle.std.proofs.Common.{get_or, Bool, true, false, cond, not, refl, sym, ap, ◌∙◌, subst, arith}
use Rattle.std.proofs.lemmas.Bool.{false≢true}
use Rattle.std.specs.Prelude.{slice_get, Option, Some, None, is_some, IfSome, IfNone}
use Rattle.std.specs.Option.{option_to_list}
use Rattle.std.specs.List.{All, position_or_len, remove}
use Rattle.std.proofs.lemmas.List.Folds.{find_at}
use Rattle.std.proofs.lemmas.List.Elements.{All-nil, All-cons, All-head, All-tail}
use Rattle.std.proofs.lemmas.Option.{none-some, same_Some, slice_get_past, slice_get-get_or, slice_get_within}
use Rattle.ht_metric.specs.Jobs.{JobView}
use Rattle.ht_metric.specs.declared.hit.Hit.{Hit}
use Rattle.ht_machine.specs.Machine.{has_number, hit_of, without}
use Rattle.ht_machine.specs.Facts.{jobs_of}

pub some_is : {X : Type 0} (o : Option X) → is_some o ≡ true → (x : X) × (o ≡ Some x)
some_is None e = absurd (false≢true e)
some_is (Some x) e = (x, refl)

module _ {X : Type 0} (P : X → Type 0) where
  -- an element, or what stands for one that is not there
  pub all_at : (xs : List X) (a : ℕ) (d : X) → All P xs → P d → P (get_or xs a d)
  all_at [] a d all is = is
  all_at (x ∷ xs) zero d all is = All-head P x xs all
  all_at (x ∷ xs) (suc a) d all is = all_at xs a d (All-tail P x xs all) is

  pub all_front : (xs : List X) → All P xs → IfSome (slice_get xs 0) P
  all_front [] all = tt
  all_front (x ∷ xs) all = All-head P x xs all

  pub all_option : (o : Option X) → IfSome o P → All P (option_to_list o)
  all_option None is = All-nil P
  all_option (Some x) is = All-cons P x [] is (All-nil P)

module _ {X : Type 0} (P Q : X → Type 0) (more : (x : X) → P x → Q x) where
  pub option_weaker : (o : Option X) → IfSome o P → IfSome o Q
  option_weaker None is = tt
  option_weaker (Some x) is = more x is

-- the hits without one, and that one
without_from : (b : Bool) (P : Hit → Type 0) (n : ℕ) (hit : Hit) (hits : List Hit)
    → All P (hit ∷ hits) → All P (without n hits) → All P (cond b hits (hit ∷ without n hits))
without_from true P n hit hits all rest = All-tail P hit hits all
without_from false P n hit hits all rest = All-cons P hit (without n hits) (All-head P hit hits all) rest

pub all_without : (P : Hit → Type 0) (n : ℕ) (hits : List Hit) → All P hits → All P (without n hits)
all_without P n [] all = all
all_without P n (hit ∷ hits) all = without_from (has_number n hit) P n hit hits all (all_without P n hits (All-tail P hit hits all))

hit_of_from : (b : Bool) (P : Hit → Type 0) (n : ℕ) (hit : Hit) (hits : List Hit)
    → All P (hit ∷ hits) → IfSome (hit_of n hits) P → IfSome (cond b (Some hit) (hit_of n hits)) P
hit_of_from true P n hit hits all rest = All-head P hit hits all
hit_of_from false P n hit hits all rest = rest

pub all_hit_of : (P : Hit → Type 0) (n : ℕ) (hits : List Hit) → All P hits → IfSome (hit_of n hits) P
all_hit_of P n [] all = tt
all_hit_of P n (hit ∷ hits) all = hit_of_from (has_number n hit) P n hit hits all (all_hit_of P n hits (All-tail P hit hits all))

-- an issued job stays issued
pub issued_more : (xs : List JobView) (new : JobView) (n : ℕ) (job : JobView) → slice_get xs n ≡ Some job → slice_get (xs ++ new ∷ []) n ≡ Some job
issued_more [] new n job e = absurd (none-some job e)
issued_more (x ∷ xs) new zero job e = e
issued_more (x ∷ xs) new (suc n) job e = issued_more xs new n job e

pub issued_last : (xs : List JobView) (new : JobView) (n : ℕ) → n ≡ length xs → slice_get (xs ++ new ∷ []) n ≡ Some new
issued_last [] new n e = rw e refl
issued_last (x ∷ xs) new zero e = absurd (omega (arith, e))
issued_last (x ∷ xs) new (suc n) e = issued_last xs new n (omega (arith, e))

-- the jobs of a list with one more: one of the list, or the new one at its end
pub get_more : (xs : List JobView) (new : JobView) (P : ℕ → JobView → Type 0) (k : ℕ) (job : JobView)
    → ((i : ℕ) (j : JobView) → slice_get xs i ≡ Some j → P i j) → P (length xs) new → slice_get (xs ++ new ∷ []) k ≡ Some job → P k job
get_more [] new P zero job all last e = subst (λ (j : JobView). P 0 j) (same_Some new job e) last
get_more [] new P (suc k) job all last e = absurd (none-some job e)
get_more (x ∷ xs) new P zero job all last e = all 0 job e
get_more (x ∷ xs) new P (suc k) job all last e = get_more xs new (λ i j. P (suc i) j) k job (λ i j p. all (suc i) j p) last e

-- one more of the first ones
pub take_next : (xs : List JobView) (n : ℕ) (job : JobView) → slice_get xs n ≡ Some job → take (suc n) xs ≡ take n xs ++ job ∷ []
take_next [] n job e = absurd (none-some job e)
take_next (x ∷ xs) zero job e = ap (λ (j : JobView). j ∷ []) (same_Some x job e)
take_next (x ∷ xs) (suc n) job e = ap (λ (js : List JobView). x ∷ js) (take_next xs n job e)

pub jobs_append : (xs ys : List Hit) → jobs_of (xs ++ ys) ≡ jobs_of xs ++ jobs_of ys
jobs_append [] ys = refl
jobs_append (x ∷ xs) ys = ap (λ (js : List JobView). x.job ∷ js) (jobs_append xs ys)

pub jobs_length : (xs : List Hit) → length (jobs_of xs) ≡ length xs
jobs_length [] = refl
jobs_length (x ∷ xs) = ap (λ (n : ℕ). suc n) (jobs_length xs)

-- the hit found has the number
found_from : (b : Bool) (n : ℕ) (x : Hit) (hits : List Hit) (hit : Hit) → has_number n x ≡ b → (hit_of n hits ≡ Some hit → hit.job.number ≡ n)
    → cond b (Some x) (hit_of n hits) ≡ Some hit → hit.job.number ≡ n
found_from true n x hits hit is rest e =
    let same : x.job.number ≡ n = grind (arith, is) in
    sym (ap (λ (y : Hit). y.job.number) (same_Some x hit e)) ∙ same
found_from false n x hits hit is rest e = rest e

pub found_number : (n : ℕ) (hits : List Hit) (hit : Hit) → hit_of n hits ≡ Some hit → hit.job.number ≡ n
found_number n [] hit e = absurd (none-some hit e)
found_number n (x ∷ hits) hit e = found_from (has_number n x) n x hits hit refl (found_number n hits hit) e

-- the hits without one, by its index
index_from : (b : Bool) (n : ℕ) (x : Hit) (hits : List Hit) → (p : ℕ) → (p < length hits → without n hits ≡ remove hits p)
    → cond (not b) (1 + p) 0 < length (x ∷ hits) → cond b hits (x ∷ without n hits) ≡ remove (x ∷ hits) (cond (not b) (1 + p) 0)
index_from true n x hits p rest lt = refl
index_from false n x hits p rest lt =
    let e : 1 + p ≡ suc p = omega arith in
    ap (λ (ys : List Hit). x ∷ ys) (rest (omega (arith, lt))) ∙ ap (λ (k : ℕ). remove (x ∷ hits) k) (sym e)

pub without_index : (n : ℕ) (hits : List Hit) → position_or_len (has_number n) hits < length hits
    → without n hits ≡ remove hits (position_or_len (has_number n) hits)
without_index n [] lt = absurd (omega (arith, lt))
without_index n (x ∷ hits) lt = index_from (has_number n x) n x hits (position_or_len (has_number n) hits) (without_index n hits) lt

past_from : (b : Bool) (n : ℕ) (x : Hit) (hits : List Hit) → (p : ℕ) → (length hits ≤ p → without n hits ≡ hits)
    → length (x ∷ hits) ≤ cond (not b) (1 + p) 0 → cond b hits (x ∷ without n hits) ≡ x ∷ hits
past_from true n x hits p rest ge = absurd (omega (arith, ge))
past_from false n x hits p rest ge = ap (λ (ys : List Hit). x ∷ ys) (rest (omega (arith, ge)))

pub without_past : (n : ℕ) (hits : List Hit) → length hits ≤ position_or_len (has_number n) hits → without n hits ≡ hits
without_past n [] ge = refl
without_past n (x ∷ hits) ge = past_from (has_number n x) n x hits (position_or_len (has_number n) hits) (without_past n hits) ge

pub hit_index : (n : ℕ) (hits : List Hit) (d : Hit) → position_or_len (has_number n) hits < length hits
    → hit_of n hits ≡ Some (get_or hits (position_or_len (has_number n) hits) d)
hit_index n hits d lt = find_at (has_number n) hits ∙ slice_get-get_or hits (position_or_len (has_number n) hits) d lt

pub hit_past : (n : ℕ) (hits : List Hit) → length hits ≤ position_or_len (has_number n) hits → hit_of n hits ≡ None
hit_past n hits ge = find_at (has_number n) hits ∙ slice_get_past hits (position_or_len (has_number n) hits) ge

any_of : (hits : List Hit) → {k : ℕ} → k < length hits → Hit
any_of [] {k} lt = absurd (omega (arith, lt))
any_of (x ∷ hits) {k} lt = x

is_hit_from : (n : ℕ) (hits : List Hit) (o : Option Hit) → hit_of n hits ≡ o → (position_or_len (has_number n) hits < length hits) ↔ (is_some o ≡ true)
is_hit_from n hits None e =
    let at : slice_get hits (position_or_len (has_number n) hits) ≡ None = sym (find_at (has_number n) hits) ∙ e in (
      λ lt. absurd (none-some (get_or hits (position_or_len (has_number n) hits) (any_of hits lt))
          (sym at ∙ slice_get-get_or hits (position_or_len (has_number n) hits) (any_of hits lt) lt)),
      λ t. absurd (false≢true t),
    )
is_hit_from n hits (Some hit) e =
    let at : slice_get hits (position_or_len (has_number n) hits) ≡ Some hit = sym (find_at (has_number n) hits) ∙ e in
    (λ lt. refl, λ t. slice_get_within hits (position_or_len (has_number n) hits) hit at)

pub is_hit : (n : ℕ) (hits : List Hit) → (position_or_len (has_number n) hits < length hits) ↔ (is_some (hit_of n hits) ≡ true)
is_hit n hits = is_hit_from n hits (hit_of n hits) refl

-- an index that was found tells whether a hit has the number
pub index_tells : (n : ℕ) (hits : List Hit) (found : Option ℕ)
    → IfSome found (λ at. (at < length hits) × (at ≡ position_or_len (has_number n) hits)) → IfNone found (length hits ≤ position_or_len (has_number n) hits)
    → (is_some found ≡ true) ↔ (is_some (hit_of n hits) ≡ true)
index_tells n hits None some none = (λ e. absurd (false≢true e), λ s. let lt = (is_hit n hits).1 s in absurd (omega (arith, lt, none)))
index_tells n hits (Some at) some none = (λ e. (is_hit n hits).0 (let lt = some.0 in let is = some.1 in omega (arith, lt, is)), λ s. refl)
