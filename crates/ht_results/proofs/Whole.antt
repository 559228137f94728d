-- The jobs of one frame of a capture: how many there are, where they stand, and what they come to.
use Rattle.std.proofs.Common.{◌≡◌, ℕ, zero, suc, ◌+◌, ◌*◌, ◌<◌, ◌≤◌, ◌==◌, List, [], ◌∷◌, length, map, take, not, Bool, true, false}
use Rattle.std.proofs.Common.{if◌then◌else◌, refl, sym, ap, subst, ◌∙◌, arith}
use Rattle.std.specs.List.{AllByRecursion, filter, range_with_len}
use Rattle.std.proofs.lemmas.Bool.{lt-ltb}
use Rattle.std.proofs.lemmas.Bool.Decides.{nat_tests}
use Rattle.std.proofs.lemmas.List.{length-map, length-take}
use Rattle.std.proofs.lemmas.List.Elements.{recursion_from_All}
use Rattle.std.proofs.Math.Nat.{le-max_right, max-eq_right, min-le_left, min-le_right, mul-le-mul, mul-le-mul_right}
use Rattle.ht_rate.specs.declared.kinds.Carrier.TheVariants.{Data}
use Rattle.ht_rate.specs.declared.rates.Rate.{Rate}
use Rattle.ht_rate.specs.Carriers.{IsAmong, carrier_of, index_of}
use Rattle.ht_rate.specs.Rates.{carriers_of, data_carriers_of}
use Rattle.ht_rate.proofs.CarrierFacts.{carrier_of-among, carrier_of-index_of, index_of-carrier_of}
use Rattle.ht_metric.specs.Jobs.{JobView}
use Rattle.ht_capture.specs.declared.items.FrameHead.{FrameHead}
use Rattle.ht_capture.specs.Files.{is_erased, present_among}
use Rattle.ht_capture_laws.specs.Items.{FrameJobs, HasSymbols, IsFrontOfFrame, IsHead, IsJobOf, IsPlaceIn, IsWholeFrame, carriers_in, place_in, symbol_places}
use Rattle.ht_capture_laws.specs.Items.{symbols_in}
use Rattle.ht_capture_laws.proofs.Lists.{all_of_map, all_weaker, length-flat}
use Rattle.ht_capture_laws.proofs.Parts.{places_good}
use Rattle.ht_feed.specs.Items.{headed_of}
use Rattle.ht_results.specs.Heads.{Headed}
use Rattle.ht_results.specs.Captured.{ComesTo, capture_plan, kind_of, with_job_by, with_octets}
use Rattle.ht_results.specs.Folding.{frame_begun, jobs_in_frame}
use Rattle.ht_results.specs.Plans.{Fold, Follows, HasIndices, IsPlaced, Plan, SoFar, begun_by, given_from, under_way, with_kind_by}
use Rattle.ht_results.proofs.Counted.{all_end, all_give, part_gives}
use Rattle.ht_results.proofs.Places.{Rising, places_rising}

-- the number of jobs
counted : (b : Bool) (carrier n : ℕ) (rest : List ℕ) → n ≡ length rest → (if b then n else 1 + n) ≡ length (if not b then carrier ∷ rest else rest)
counted true carrier n rest same = same
counted false carrier n rest same = omega (arith, same)

present_is : (n carrier erased : ℕ) → present_among n carrier erased ≡ length (filter (λ c. not (is_erased erased c)) (range_with_len carrier n))
present_is zero carrier erased = refl
present_is (suc n) carrier erased = counted (is_erased erased carrier) carrier (present_among n (carrier + 1) erased)
    (filter (λ c. not (is_erased erased c)) (range_with_len (carrier + 1) n)) (present_is n (carrier + 1) erased)

jobs_are : (head : FrameHead) → jobs_in_frame head ≡ symbols_in head * length (carriers_in head)
jobs_are head = ap (λ (n : ℕ). symbols_in head * n) (present_is (carriers_of head.rate) 0 head.erased)

job_count : (f : FrameJobs) (count : ℕ) → HasSymbols f count → length f.jobs ≡ count * length (carriers_in f.head)
job_count f count has =
    sym (length-map f.jobs (λ (j : JobView). j.place))
    ∙ (ap length has.places
    ∙ length-flat (symbol_places f.head) (length (carriers_in f.head)) 0 count (λ i. length-map (carriers_in f.head) (place_in f.head i)))

pub whole_count : (f : FrameJobs) → IsHead f.head → IsWholeFrame f → length f.jobs ≡ (frame_begun f.head).left
whole_count f head whole =
    let size = job_count f (symbols_in f.head) whole in
    let jobs = jobs_are f.head in
    let one = mul-le-mul head.symbols head.present in
    let some : 1 ≤ jobs_in_frame f.head = omega (arith, jobs, one) in
    size ∙ (sym jobs ∙ sym (max-eq_right some))

pub front_count : (f : FrameJobs) → IsHead f.head → IsFrontOfFrame f → length f.jobs < (frame_begun f.head).left
front_count f head front =
    let size = job_count f front.0 front.2 in
    let jobs = jobs_are f.head in
    let next : (front.0 + 1) * length (carriers_in f.head) ≤ symbols_in f.head * length (carriers_in f.head) =
    mul-le-mul_right (length (carriers_in f.head)) (let lt = front.1 in omega arith) in
    let split : (front.0 + 1) * length (carriers_in f.head) ≡ front.0 * length (carriers_in f.head) + length (carriers_in f.head) = omega arith in
    let some = head.present in
    let bound = le-max_right 1 (jobs_in_frame f.head) in
    omega (arith, size, jobs, next, split, some, bound)

-- the jobs of a whole frame stand on its places
pub both_of : {X : Type 0} (P Q : X → Type 0) (xs : List X) → AllByRecursion P xs → AllByRecursion Q xs → AllByRecursion (λ x. P x × Q x) xs
both_of P Q [] p q = tt
both_of P Q (x ∷ xs) p q = ((p.0, q.0), both_of P Q xs p.1 q.1)

pub in_frame : (f : FrameJobs) → IsWholeFrame f → AllByRecursion (λ (j : JobView). IsPlaceIn f.head j.place × IsJobOf f.head j) f.jobs
in_frame f whole =
    both_of (λ (j : JobView). IsPlaceIn f.head j.place) (IsJobOf f.head) f.jobs
    (all_of_map (IsPlaceIn f.head) (λ (j : JobView). j.place) f.jobs
    (subst (AllByRecursion (IsPlaceIn f.head)) (sym whole.places) (places_good f.head (symbols_in f.head) (omega arith))))
    (recursion_from_All (IsJobOf f.head) f.jobs whole.jobs)

rising : (f : FrameJobs) → IsWholeFrame f
    → Rising (carriers_of f.head.rate) 0 (symbols_in f.head * carriers_of f.head.rate) (map (λ (j : JobView). j.place) f.jobs)
rising f whole =
    subst (Rising (carriers_of f.head.rate) 0 (symbols_in f.head * carriers_of f.head.rate)) (sym whole.places) (places_rising f.head (symbols_in f.head))

-- a subcarrier of the rate is what it carries
pub kind_is : (r : Rate) (carrier : ℕ) → carrier < carriers_of r → kind_of r carrier ≡ carrier_of r carrier
kind_is r carrier lt = ap (λ (b : Bool). if b then carrier_of r carrier else Data carrier) (lt-ltb carrier (carriers_of r) lt)

data_number : (r : Rate) (carrier m : ℕ) → carrier < carriers_of r → carrier_of r carrier ≡ Data m → (m < data_carriers_of r) × (carrier ≡ index_of r (Data m))
data_number r carrier m lt is =
    (subst (IsAmong r) is (carrier_of-among r carrier lt), sym (index_of-carrier_of r carrier lt) ∙ ap (index_of r) is)

data_index : (r : Rate) (m : ℕ) → m < data_carriers_of r → kind_of r (index_of r (Data m)) ≡ Data m
data_index r m lt =
    let stands = carrier_of-index_of r (Data m) lt in
    kind_is r (index_of r (Data m)) stands.0 ∙ stands.1

-- a frame has an octet
same_head : (head : FrameHead) → 1 ≤ head.length → with_octets head ≡ head
same_head head some = ap (λ (n : ℕ). record head { length = n }) (max-eq_right some)

-- the jobs of a frame, each with its head
abbrev pub headed_jobs_of : FrameJobs → List Headed
headed_jobs_of f = map (headed_of f.head) f.jobs

pub part_of_whole : (f : FrameJobs) (n : ℕ) → IsHead f.head → IsWholeFrame f → n < length f.jobs → length (take n f.jobs) < (frame_begun f.head).left
part_of_whole f n head whole few =
    let count = whole_count f head whole in
    let size = length-take n f.jobs in
    let least = min-le_left n (length f.jobs) in
    omega (arith, count, few, size, least)

pub part_of_front : (f : FrameJobs) (n : ℕ) → IsHead f.head → IsFrontOfFrame f → length (take n f.jobs) < (frame_begun f.head).left
part_of_front f n head front =
    let count = front_count f head front in
    let size = length-take n f.jobs in
    let least = min-le_right n (length f.jobs) in
    omega (arith, count, size, least)

-- whatever is kept of a job
module _ {V : Type 0} (width : FrameHead → ℕ) (values : FrameHead → JobView → List V) (none : V) where
  abbrev plan : Plan FrameHead V
  plan = capture_plan width values none

  indices : (head : FrameHead) → HasIndices plan head
  indices head = record {
    number = λ carrier m lt is. data_number head.rate carrier m lt (sym (kind_is head.rate carrier lt) ∙ is);
    index = data_index head.rate;
  }

  first_job : (head : FrameHead) (job : JobView) (f : SoFar FrameHead V) → 1 ≤ head.length → f.left ≡ 0
      → with_job_by plan (headed_of head job) f ≡ with_kind_by plan job (begun_by plan head)
  unfolding with_job_by
  first_job head job f some none =
      let over : f.left == 0 ≡ true = grind (arith, nat_tests) in
      ap (λ (b : Bool). with_kind_by plan job (if b then begun_by plan (with_octets head) else f)) over
      ∙ ap (λ (h : FrameHead). with_kind_by plan job (begun_by plan h)) (same_head head some)

  -- while jobs are still to come the frame stays the same one, whatever head the next job has
  next_job : (head : FrameHead) (job : JobView) (f : SoFar FrameHead V) → 1 ≤ f.left → with_job_by plan (headed_of head job) f ≡ with_kind_by plan job f
  unfolding with_job_by
  next_job head job f some =
      let other : f.left == 0 ≡ false = grind (arith, nat_tests) in
      ap (λ (b : Bool). with_kind_by plan job (if b then begun_by plan (with_octets head) else f)) other

  module _ {R : Type 0} (fold : Fold Headed FrameHead V R) (result : FrameJobs → R) (comes : ComesTo width values none fold result) where
    follows : (head : FrameHead) → 1 ≤ head.length → Follows plan fold headed_of head
    follows head some = record {
      begins = λ job f over. comes.step (headed_of head job) f ∙ first_job head job f some over;
      goes_on = λ job f more. comes.step (headed_of head job) f ∙ next_job head job f more;
    }

    placed : (f : FrameJobs) → IsWholeFrame f → AllByRecursion (IsPlaced plan f.head) f.jobs
    placed f whole =
        all_weaker (λ (j : JobView). IsPlaceIn f.head j.place × IsJobOf f.head j) (IsPlaced plan f.head) f.jobs
        (λ j both. record {
          symbol = both.0.symbol;
          carrier = both.0.carrier;
          wide = λ m is. comes.wide f.head j m (sym (kind_is f.head.rate j.place.carrier both.0.carrier) ∙ is) both.1;
        })
        (in_frame f whole)

    pub whole_gives : (f : FrameJobs) (g : SoFar FrameHead V) → IsHead f.head → IsWholeFrame f → g.left ≡ 0
        → given_from fold g (headed_jobs_of f) ≡ result f ∷ []
    whole_gives f g head whole over =
        all_give fold plan headed_of f.head (follows f.head head.some) f.jobs 0 (symbols_in f.head * carriers_of f.head.rate) g
        (indices f.head) (whole_count f head whole) (placed f whole) (rising f whole) over
        ∙ ap (λ (z : R). z ∷ []) (comes.whole f head whole)

    pub whole_ends : (f : FrameJobs) (g : SoFar FrameHead V) → IsHead f.head → IsWholeFrame f → g.left ≡ 0 → (under_way fold g (headed_jobs_of f)).left ≡ 0
    whole_ends f g head whole over = all_end fold plan headed_of f.head (follows f.head head.some) f.jobs g over (whole_count f head whole)

    -- some of a frame's jobs
    pub some_give : (head : FrameHead) (jobs : List JobView) (g : SoFar FrameHead V) → 1 ≤ head.length → g.left ≡ 0 → length jobs < (frame_begun head).left
        → given_from fold g (map (headed_of head) jobs) ≡ []
    some_give head jobs g some over few = part_gives fold plan headed_of head (follows head some) jobs g over few

    pub front_gives : (f : FrameJobs) (g : SoFar FrameHead V) → IsHead f.head → IsFrontOfFrame f → g.left ≡ 0 → given_from fold g (headed_jobs_of f) ≡ []
    front_gives f g head front over = some_give f.head f.jobs g head.some over (front_count f head front)
