-- A job and its lane.
use Rattle.std.proofs.Common.{◌≡◌, ℕ, zero, suc, ◌+◌, ◌^◌, ◌<◌, [], ◌∷◌, length, take, replicate, set, slice_index, slice_index_or, arith, refl, ap}
use Rattle.std.proofs.Common.{subst, sym, inl, inr, ◌∙◌}
use Rattle.std.proofs.lemmas.List.{get_or-set_same, get_or-set_other, length-set}
use Rattle.std.proofs.lemmas.Bool.{cases_lt}
use Rattle.ht_metric.specs.declared.found.Found.{Found}
use Rattle.ht_pam.specs.declared.axes.Axes.{Axes}
use Rattle.ht_pam.specs.declared.point.Point.{Point}
use Rattle.ht_metric.specs.Distance.{IsInRange}
use Rattle.ht_metric.specs.Jobs.{JobView, IsJob, near}
use Rattle.std.specs.Prelude.{List}
use Rattle.std.proofs.lemmas.Simd.{length-replicate}
use Rattle.ht_rounding.specs.declared.levels.Levels.{Levels}
use Rattle.ht_rounding.specs.declared.streams.Channel.{Channel}
use Rattle.ht_rounding.specs.declared.streams.Four.{Four}
use Rattle.ht_rounding.specs.declared.streams.SampleLanes.{SampleLanes}
use Rattle.ht_rounding.specs.InLanes.{AreFew, Finds, IsInLane, axes_of, points_at}
use Rattle.ht_rounding.specs.Loading.{IsLoaded, IsPlain, no_found, no_job}

pub second-few : (n : ℕ) (a b c d : Point) → 1 < n → AreFew (take n (a ∷ b ∷ c ∷ d ∷ [])) → IsInRange b
second-few zero a b c d some few = absurd (omega (arith, some))
second-few (suc zero) a b c d some few = absurd (omega (arith, some))
second-few (suc (suc n)) a b c d some few = few.1.0

pub third-few : (n : ℕ) (a b c d : Point) → 2 < n → AreFew (take n (a ∷ b ∷ c ∷ d ∷ [])) → IsInRange c
third-few zero a b c d some few = absurd (omega (arith, some))
third-few (suc zero) a b c d some few = absurd (omega (arith, some))
third-few (suc (suc zero)) a b c d some few = absurd (omega (arith, some))
third-few (suc (suc (suc n))) a b c d some few = few.1.1.0

pub in-lane : (i q : Levels) (channel : Channel) (samples : SampleLanes) (k n : ℕ) (job : JobView) (grid : List Axes) → IsJob job → job.grid ≡ grid
    → grid ≡ replicate n (axes_of i q)
    → IsLoaded channel samples k job.system → IsInLane i q channel samples k n job
in-lane i q channel samples k n job grid valid same full rows =
    let few = valid.grid.few in
    record {
      valid = valid;
      streams = sym valid.streams ∙ ap length (same ∙ full) ∙ length-replicate {A = Axes} n (axes_of i q);
      grid = same ∙ full;
      rows = rows (omega (arith, few, valid.streams));
    }

-- an element is the same whatever stands where there is none
pub element : {A : Type 0} (xs : List A) (k : ℕ) (a b : A) → k < length xs → slice_index_or xs k a ≡ slice_index_or xs k b
element [] k a b lt = absurd (omega (arith, lt))
element (x ∷ xs) zero a b lt = refl
element (x ∷ xs) (suc k) a b lt = element xs k a b (omega (arith, lt))

-- one more answer
pub one-more : (jobs : List JobView) (founds : List Found) (k : ℕ) (job : JobView) (found : Found) → length jobs ≡ 8 → k < 8
    → (length founds ≡ 8) × ((j : ℕ) → j < k → slice_index_or founds j no_found ≡ near (slice_index_or jobs j no_job))
    → found ≡ near job → job ≡ slice_index_or jobs k no_job
    → (length (set founds k found) ≡ 8) × ((j : ℕ) → j < k + 1 → slice_index_or (set founds k found) j no_found ≡ near (slice_index_or jobs j no_job))
one-more jobs founds k job found eight lt before e is = (
  length-set founds k found ∙ before.0,
  λ j less. elim (cases_lt j k) [
    | inl earlier ↦ get_or-set_other founds k j found no_found (λ same. omega (arith, same, earlier)) ∙ before.1 j earlier
    | inr later ↦
        let same : j ≡ k = omega (arith, less, later) in
        ap (λ (m : ℕ). slice_index_or (set founds k found) m no_found) same ∙ get_or-set_same founds k found no_found (omega (arith, before.0, lt)) ∙ e
        ∙ ap near is
        ∙ ap (λ (m : ℕ). near (slice_index_or jobs m no_job)) (sym same)
  ],
)

-- a job that a lane can answer is in its lane
pub plain-in-lane : (i q : Levels) (channel : Channel) (samples : SampleLanes) (k n : ℕ) (job : JobView) → IsPlain i q n job
    → IsLoaded channel samples k job.system
    → IsInLane i q channel samples k n job
plain-in-lane i q channel samples k n job plain loaded = in-lane i q channel samples k n job _ plain.valid plain.grid refl loaded

-- what a lane has of the job with this number it has of the job
pub plain-job : (jobs : List JobView) (k : ℕ) (job : JobView) (i q : Levels) (n : ℕ) (found : Four) → job ≡ slice_index_or jobs k no_job
    → job.grid ≡ replicate n (axes_of i q)
    → IsJob job
    → (IsPlain i q n (slice_index_or jobs k no_job) → Finds (points_at n found k) (slice_index found.first.rho k) (slice_index_or jobs k no_job))
    → Finds (points_at n found k) (slice_index found.first.rho k) job
plain-job jobs k job i q n found is grid valid answers =
    let plain : IsPlain i q n job = record { valid = valid; grid = grid } in
    subst (λ (j : JobView). Finds (points_at n found k) (slice_index found.first.rho k) j) (sym is)
    (answers (subst (λ (j : JobView). IsPlain i q n j) is plain))

-- one more distance
pub one-below : (founds : List Found) (k : ℕ) (found : Found) → length founds ≡ 8 → k < 8
    → ((j : ℕ) → j < k → (slice_index_or founds j no_found).distance < 2 ^ 66) → found.distance < 2 ^ 66
    → (j : ℕ) → j < k + 1 → (slice_index_or (set founds k found) j no_found).distance < 2 ^ 66
one-below founds k found eight lt before below j less =
    let IsBelow : Found → Type 0 = λ f. f.distance < 2 ^ 66 in
    elim (cases_lt j k) [
      | inl earlier ↦ subst IsBelow (sym (get_or-set_other founds k j found no_found (λ same. omega (arith, same, earlier)))) (before j earlier)
      | inr later ↦
          let same : k ≡ j = omega (arith, less, later) in
          subst (λ (m : ℕ). IsBelow (slice_index_or (set founds k found) m no_found)) same
          (subst IsBelow (sym (get_or-set_same founds k found no_found (omega (arith, eight, lt)))) below)
    ]

-- one more lane of a job that it can answer
pub one-plain : (i q : Levels) (n : ℕ) (jobs : List JobView) (lanes : List ℕ) (k : ℕ) (job : JobView) (plain : ℕ) → k < 8
    → (length lanes ≡ 8) × ((j : ℕ) → j < k → 0 < slice_index lanes j → IsPlain i q n (slice_index_or jobs j no_job))
    → job ≡ slice_index_or jobs k no_job → (0 < plain → IsPlain i q n job)
    → (length (set lanes k plain) ≡ 8) × ((j : ℕ) → j < k + 1 → 0 < slice_index (set lanes k plain) j → IsPlain i q n (slice_index_or jobs j no_job))
one-plain i q n jobs lanes k job plain lt before is can = (
  length-set lanes k plain ∙ before.0,
  λ j less some. elim (cases_lt j k) [
    | inl earlier ↦ before.1 j earlier (subst (λ (m : ℕ). 0 < m) (get_or-set_other lanes k j plain 0 (λ same. omega (arith, same, earlier))) some)
    | inr later ↦
        let same : k ≡ j = omega (arith, less, later) in
        let here : 0 < slice_index (set lanes k plain) k = subst (λ (m : ℕ). 0 < slice_index (set lanes k plain) m) (sym same) some in
        let mine : 0 < plain = subst (λ (m : ℕ). 0 < m) (get_or-set_same lanes k plain 0 (omega (arith, before.0, lt))) here in
        subst (λ (m : ℕ). IsPlain i q n (slice_index_or jobs m no_job)) same (subst (λ (o : JobView). IsPlain i q n o) is (can mine))
  ],
)

-- a list whose elements are all the same
pub all_same : {A : Type 0} (xs : List A) (n : ℕ) (d x : A) → n ≡ length xs → ((k : ℕ) → k < n → slice_index_or xs k d ≡ x) → xs ≡ replicate n x
all_same [] zero d x e each = refl
all_same [] (suc n) d x e each = absurd (omega (arith, e))
all_same (y ∷ xs) zero d x e each = absurd (omega (arith, e))
all_same (y ∷ xs) (suc n) d x e each = ap (λ z. z ∷ xs) (each 0 (omega arith))
    ∙ ap (λ zs. x ∷ zs) (all_same xs n d x (omega (arith, e)) (λ k lt. each (suc k) (omega (arith, lt))))
