-- What is due of each lane is what that lane waits for.
use Rattle.std.proofs.Common.{◌≡◌, ◌≢◌, ℕ, zero, suc, ◌+◌, ◌<◌, ◌≤◌, List, [], ◌∷◌, ◌++◌, drop, length, get_or, slice_get, Option, Some, Bool, true, false}
use Rattle.std.proofs.Common.{nat_eq, if◌then◌else◌}
use Rattle.std.proofs.Common.{refl, ap, ◌∙◌, sym, subst, arith}
use Rattle.std.proofs.lemmas.Bool.{false≢true}
use Rattle.std.proofs.lemmas.Bool.Decides.{nat_tests}
use Rattle.std.proofs.lemmas.Option.{none-some, same_Some}
use Rattle.ht_metric.specs.Jobs.{JobView}
use Rattle.ht_feed.specs.Items.{Numbered}
use Rattle.ht_feed.specs.Dues.{count_in}
use Rattle.ht_feed.specs.Feeds.{GivesBlock}
use Rattle.ht_feed.specs.Others.{OthersStay}
use Rattle.ht_lanes.specs.Lanes.{AreBooked, AreFresh, DueOf, HaveNone, HaveFewDue, IsBooked, IsFeed, LaneJobs, OneMoreAt, SameBooks, Within, due_at, due_of}
use Rattle.ht_lanes.specs.Lanes.{lanes_view, most_jobs, whole_due, whole_jobs}
use Rattle.ht_feed.proofs.Numbering.{are_numbered, length_numbered}
use Rattle.ht_feed.proofs.Others.{each_of, other_number, same_number}
use Rattle.ht_lanes.proofs.Numbering.{same_jobs}

same_test : (k : ℕ) → nat_eq k k ≡ true
same_test k = grind (arith, nat_tests)

turned : (i k : ℕ) → nat_eq i k ≡ true → nat_eq k i ≡ true
turned i k e = grind (arith, nat_tests)

other_test : (i k : ℕ) → k ≢ i → nat_eq i k ≡ false
other_test i k far = grind (arith, nat_tests)

due_at-here : (k : ℕ) (d : DueOf) (ds : List DueOf) → nat_eq d.lane k ≡ true → due_at k (d ∷ ds) ≡ d.block.jobs ∷ due_at k ds
due_at-here k d ds e = ap (λ (b : Bool). if b then d.block.jobs ∷ due_at k ds else due_at k ds) e

due_at-other : (k : ℕ) (d : DueOf) (ds : List DueOf) → nat_eq d.lane k ≡ false → due_at k (d ∷ ds) ≡ due_at k ds
due_at-other k d ds e = ap (λ (b : Bool). if b then d.block.jobs ∷ due_at k ds else due_at k ds) e

if-behind : (b : Bool) (x : List JobView) (xs ys : List (List JobView)) → (if b then x ∷ (xs ++ ys) else (xs ++ ys)) ≡ (if b then x ∷ xs else xs) ++ ys
if-behind true x xs ys = refl
if-behind false x xs ys = refl

due_at-append : (k : ℕ) (xs ys : List DueOf) → due_at k (xs ++ ys) ≡ due_at k xs ++ due_at k ys
due_at-append k [] ys = refl
due_at-append k (x ∷ xs) ys =
    ap (λ (z : List (List JobView)). if nat_eq x.lane k then x.block.jobs ∷ z else z) (due_at-append k xs ys)
    ∙ if-behind (nat_eq x.lane k) x.block.jobs (due_at k xs) (due_at k ys)

append-none : {X : Type 0} (xs : List X) → xs ++ [] ≡ xs
append-none [] = refl
append-none {X = X} (x ∷ xs) = ap (λ (ys : List X). x ∷ ys) (append-none xs)

whole_due-append : (ring : List DueOf) (d : DueOf) → whole_due (ring ++ d ∷ []) ≡ whole_due ring ++ whole_jobs d.block ∷ []
whole_due-append [] d = refl
whole_due-append (x ∷ xs) d = ap (λ (bs : List (List JobView)). whole_jobs x.block ∷ bs) (whole_due-append xs d)

pub whole_due-more : (ring now : List DueOf) (d : DueOf) → now ≡ ring ++ d ∷ [] → whole_due now ≡ whole_due ring ++ whole_jobs d.block ∷ []
whole_due-more ring now d is = ap whole_due is ∙ whole_due-append ring d

whole_due-drop : (ring : List DueOf) → whole_due (drop 1 ring) ≡ drop 1 (whole_due ring)
whole_due-drop [] = refl
whole_due-drop (d ∷ ds) = refl

pub whole_due-less : (ring now : List DueOf) → now ≡ drop 1 ring → whole_due now ≡ drop 1 (whole_due ring)
whole_due-less ring now is = ap whole_due is ∙ whole_due-drop ring

within-append : (count : ℕ) (ring : List DueOf) (d : DueOf) → Within count ring → d.lane < count → 1 ≤ length d.block.jobs → Within count (ring ++ d ∷ [])
within-append count [] d w few some zero e is = subst (λ (x : DueOf). (x.lane < count) × (1 ≤ length x.block.jobs)) (same_Some d e is) (few, some)
within-append count [] d w few some (suc k) e is = absurd (none-some e is)
within-append count (x ∷ xs) d w few some zero e is = w 0 e is
within-append count (x ∷ xs) d w few some (suc k) e is = within-append count xs d (λ j f. w (suc j) f) few some k e is

within-drop : (count : ℕ) (ring : List DueOf) → Within count ring → Within count (drop 1 ring)
within-drop count [] w k d is = absurd (none-some d is)
within-drop count (x ∷ xs) w k d is = w (suc k) d is

pub within-first : (count : ℕ) (ring : List DueOf) (d : DueOf) → Within count ring → slice_get ring 0 ≡ Some d → d.lane < count
within-first count ring d w first = (w 0 d first).0

-- no more blocks than jobs
few_blocks : (count : ℕ) (ring : List DueOf) → Within count ring → length ring ≤ count_in (whole_due ring)
few_blocks count [] w = omega arith
few_blocks count (d ∷ ds) w =
    let e = few_blocks count ds (λ k f. w (suc k) f) in
    let f = (w 0 d refl).1 in
    omega (arith, e, f, length_numbered d.block.first d.block.jobs)

pub room_for : (count : ℕ) (ring : List DueOf) (most : ℕ) → Within count ring → 1 ≤ most → count_in (whole_due ring) + most ≤ 4096 → length ring < 4096
room_for count ring most w some few = let e = few_blocks count ring w in omega (arith, e, some, few)

-- no lane has more jobs due than all
few_at-as : (b : Bool) (k : ℕ) (d : DueOf) (ds : List DueOf) → nat_eq d.lane k ≡ b → count_in (due_at k ds) ≤ count_in (whole_due ds)
    → count_in (due_at k (d ∷ ds)) ≤ count_in (whole_due (d ∷ ds))
few_at-as true k d ds e few =
    let here = ap count_in (due_at-here k d ds e) in
    omega (arith, here, few, length_numbered d.block.first d.block.jobs)
few_at-as false k d ds e few =
    let here = ap count_in (due_at-other k d ds e) in
    omega (arith, here, few)

few_at : (k : ℕ) (ring : List DueOf) → count_in (due_at k ring) ≤ count_in (whole_due ring)
few_at k [] = omega arith
few_at k (d ∷ ds) = few_at-as (nat_eq d.lane k) k d ds refl (few_at k ds)

not_both : (a b : Bool) → a ≡ false → (b ≡ true → a ≡ true) → b ≡ false
not_both a false is so = refl
not_both a true is so = absurd (false≢true (sym is ∙ so refl))

module _ {L : Type 0} (due : L → List (List JobView)) (rests : L → Bool) where
  -- so each lane that takes answers has as few jobs due
  pub have_few_due : (over : L → Bool) (lanes : List L) (ring : List DueOf) (most : ℕ) → IsBooked due rests lanes ring
      → ((l : L) → rests l ≡ true → over l ≡ true) → count_in (whole_due ring) + most ≤ 4096 → HaveFewDue due over most lanes
  have_few_due over lanes ring most booked resting few l k within going =
      let x = get_or lanes k l in
      let takes = not_both (over x) (rests x) going (resting x) in
      let is = ap count_in (booked.booked l k within takes) in
      let e = few_at k ring in
      omega (arith, is, e, few)

  -- the lane of the first block due waits for the block that is like it
  first_waits-as : (lanes : List L) (d : DueOf) (ds : List DueOf) (block : LaneJobs) → AreBooked due rests lanes (d ∷ ds) → d.lane < length lanes
      → whole_jobs d.block ≡ whole_jobs block → d.block.own ≡ block.own → Numbered d.block.own d.block.jobs → Numbered block.own block.jobs
      → (l : L) → rests (get_or lanes d.lane l) ≡ false → slice_get (due (get_or lanes d.lane l)) 0 ≡ Some block.jobs
  first_waits-as lanes d ds block booked within same own are these l takes =
      let jobs : d.block.jobs ≡ block.jobs =
      same_jobs d.block.own d.block.first block.first d.block.jobs block.jobs are (subst (λ (n : ℕ). Numbered n block.jobs) (sym own) these) same in
      ap (λ (bs : List (List JobView)). slice_get bs 0) (sym (booked l d.lane within takes) ∙ due_at-here d.lane d ds (same_test d.lane))
      ∙ ap (λ (js : List JobView). Some js) jobs

  pub first_waits : (lanes : List L) (ring : List DueOf) (first : DueOf) (block : LaneJobs) → IsBooked due rests lanes ring → slice_get ring 0 ≡ Some first
      → slice_get (whole_due ring) 0 ≡ Some (whole_jobs block) → first.block.own ≡ block.own → Numbered first.block.own first.block.jobs
      → Numbered block.own block.jobs
      → (l : L) → rests (get_or lanes first.lane l) ≡ false → slice_get (due (get_or lanes first.lane l)) 0 ≡ Some block.jobs
  first_waits lanes [] first block booked is whole own are these l takes = absurd (none-some first is)
  first_waits lanes (d ∷ ds) first block booked is whole own are these l takes =
      let same = same_Some d first is in
      subst (λ (x : DueOf). rests (get_or lanes x.lane l) ≡ false → slice_get (due (get_or lanes x.lane l)) 0 ≡ Some block.jobs) same
      (first_waits-as lanes d ds block booked.booked (booked.within 0 d refl).0 (same_Some (whole_jobs d.block) (whole_jobs block) whole)
      (subst (λ (x : DueOf). x.block.own ≡ block.own) (sym same) own) (subst (λ (x : DueOf). Numbered x.block.own x.block.jobs) (sym same) are) these l)
      takes

  module _ (lanes now : List L) (ring : List DueOf) (booked : IsBooked due rests lanes ring) (as_many : length now ≡ length lanes) where
    within_now : (k : ℕ) → k < length now → k < length lanes
    within_now k few = subst (λ (n : ℕ). k < n) as_many few

    -- each lane waits for the same blocks
    pub booked_same : SameBooks due rests lanes now → IsBooked due rests now ring
    booked_same same = record {
      within = subst (λ (n : ℕ). Within n ring) (sym as_many) booked.within;
      booked = λ l k few takes.
          let low = within_now k few in
          let s = same l k low in
          booked.booked l k low (sym s.0 ∙ takes) ∙ sym s.1;
    }

    module _ (at : ℕ) (block : LaneJobs) (more : OneMoreAt due rests lanes now at block.jobs) (low : at < length lanes) where
      more_at : (b : Bool) (l : L) (k : ℕ) → nat_eq k at ≡ b → k < length lanes → rests (get_or now k l) ≡ false
          → due_at k (ring ++ due_of at block ∷ []) ≡ due (get_or now k l)
      more_at true l k e few takes =
          let is = same_number at k e in
          let h = more.here l in
          subst (λ (n : ℕ). rests (get_or now n l) ≡ false → due_at n (ring ++ due_of at block ∷ []) ≡ due (get_or now n l)) (sym is)
          (λ here. due_at-append at ring (due_of at block ∷ [])
          ∙ (ap (λ (bs : List (List JobView)). due_at at ring ++ bs) (due_at-here at (due_of at block) [] (same_test at))
          ∙ (ap (λ (bs : List (List JobView)). bs ++ block.jobs ∷ []) (booked.booked l at low (sym h.0 ∙ here)) ∙ sym h.1))) takes
      more_at false l k e few takes =
          let far = other_number at k e in
          let o = more.others l k far few in
          due_at-append k ring (due_of at block ∷ [])
          ∙ (ap (λ (bs : List (List JobView)). due_at k ring ++ bs) (due_at-other k (due_of at block) [] (other_test at k far))
          ∙ (append-none (due_at k ring) ∙ (booked.booked l k few (sym o.0 ∙ takes) ∙ sym o.1)))

      -- one lane waits for one block more
      pub booked_more : (after : List DueOf) → after ≡ ring ++ due_of at block ∷ [] → 1 ≤ length block.jobs → IsBooked due rests now after
      booked_more after is some =
          subst (λ (r : List DueOf). IsBooked due rests now r) (sym is) (record {
            within = subst (λ (n : ℕ). Within n (ring ++ due_of at block ∷ [])) (sym as_many)
                (within-append (length lanes) ring (due_of at block) booked.within low some);
            booked = λ l k few takes. more_at (nat_eq k at) l k refl (within_now k few) takes;
          })

    module _ (first : DueOf) (is : slice_get ring 0 ≡ Some first) (one : OthersStay lanes now first.lane) where
      -- its lane rests from now on
      pub booked_lacks : (after : List DueOf) → after ≡ ring → ((x : L) → rests (get_or now first.lane x) ≡ true) → IsBooked due rests now after
      booked_lacks after same rested = subst (λ (r : List DueOf). IsBooked due rests now r) (sym same) (record {
        within = subst (λ (n : ℕ). Within n ring) (sym as_many) booked.within;
        booked = λ l k few.
            each_of one (λ n x. n < length lanes → rests x ≡ false → due_at n ring ≡ due x) l (λ low takes. absurd (false≢true (sym takes ∙ rested l)))
            (λ n far. booked.booked l n) k (within_now k few);
      })

  module _ (lanes now : List L) (d : DueOf) (ds : List DueOf) (booked : AreBooked due rests lanes (d ∷ ds)) (low : d.lane < length lanes)
      (one : OthersStay lanes now d.lane)
      (gone : (l : L) → rests (get_or now d.lane l) ≡ false → due (get_or now d.lane l) ≡ drop 1 (due (get_or lanes d.lane l)))
      (took : (l : L) → rests (get_or now d.lane l) ≡ false → rests (get_or lanes d.lane l) ≡ false) where
    taken_at : (l : L) (k : ℕ) → k < length lanes → rests (get_or now k l) ≡ false → due_at k ds ≡ due (get_or now k l)
    taken_at l =
        each_of one (λ k x. k < length lanes → rests x ≡ false → due_at k ds ≡ due x) l
        (λ few takes.
        ap (λ (bs : List (List JobView)). drop 1 bs) (sym (due_at-here d.lane d ds (same_test d.lane)) ∙ booked l d.lane low (took l takes))
        ∙ sym (gone l takes))
        (λ k far few takes. sym (due_at-other k d ds (other_test d.lane k far)) ∙ booked l k few takes)

  -- the first block due is due no longer
  pub booked_taken : (lanes now : List L) (ring after : List DueOf) (first : DueOf) → IsBooked due rests lanes ring
      → slice_get ring 0 ≡ Some first → after ≡ drop 1 ring → OthersStay lanes now first.lane
      → ((l : L) → rests (get_or now first.lane l) ≡ false → due (get_or now first.lane l) ≡ drop 1 (due (get_or lanes first.lane l)))
      → ((l : L) → rests (get_or now first.lane l) ≡ false → rests (get_or lanes first.lane l) ≡ false)
      → IsBooked due rests now after
  booked_taken lanes now [] after first booked is left one gone took = absurd (none-some first is)
  booked_taken lanes now (d ∷ ds) after first booked is left one gone took =
      let same : first ≡ d = sym (same_Some d first is) in
      let taken : (l : L) (k : ℕ) → k < length lanes → rests (get_or now k l) ≡ false → due_at k ds ≡ due (get_or now k l) =
      taken_at lanes now d ds booked.booked (booked.within 0 d refl).0
      (subst (λ (x : DueOf). OthersStay lanes now x.lane) same one)
      (subst (λ (x : DueOf). (l : L) → rests (get_or now x.lane l) ≡ false → due (get_or now x.lane l) ≡ drop 1 (due (get_or lanes x.lane l))) same gone)
      (subst (λ (x : DueOf). (l : L) → rests (get_or now x.lane l) ≡ false → rests (get_or lanes x.lane l) ≡ false) same took) in
      subst (λ (r : List DueOf). IsBooked due rests now r) (sym left) (record {
        within = subst (λ (n : ℕ). Within n ds) (sym one.as_many) (within-drop (length lanes) (d ∷ ds) booked.within);
        booked = λ l k few takes. taken l k (subst (λ (n : ℕ). k < n) one.as_many few) takes;
      })

-- a block was given
pub gives_block : {F : Type 0} (most count size lane : ℕ) (ring after : List DueOf) (ended : Bool) (failed : Option F) (block : LaneJobs) → ended ≡ false
    → after ≡ ring ++ due_of lane block ∷ [] → block.first ≡ count → 1 ≤ length block.jobs → length block.jobs ≤ most → size ≡ length (whole_jobs block)
    → count + size ≤ most_jobs → GivesBlock most (lanes_view count ring ended failed) (lanes_view (count + size) after ended failed) (whole_jobs block)
gives_block most count size lane ring after ended failed block running is first some few sized total =
    let long = length_numbered block.first block.jobs in
    record {
      running = running;
      numbers = subst (λ (n : ℕ). Numbered n (whole_jobs block)) first (are_numbered block.first block.jobs);
      some = omega (arith, long, some);
      few = omega (arith, long, few);
      count = ap (λ (n : ℕ). count + n) sized;
      due = whole_due-more ring after (due_of lane block) is;
      left = tt;
      more = omega (arith, sized, total);
      failed = refl;
    }

-- no more jobs are given than may be
pub total_of : (most count size left : ℕ) (block : LaneJobs) → count ≤ left → left + most ≤ most_jobs → length block.jobs ≤ most
    → size ≡ length (whole_jobs block) → count + size ≤ most_jobs
total_of most count size left block few room less sized =
    let long = length_numbered block.first block.jobs in
    omega (arith, few, room, less, sized, long)

-- lanes of which no block is due
pub fresh_feed : {L : Type 0} (due : L → List (List JobView)) (rests over : L → Bool) (lanes : List L) (ring : List DueOf) (sources sinks : ℕ)
    → AreFresh due lanes → ring ≡ [] → sources ≡ length lanes → sinks ≡ length lanes → IsFeed due rests over lanes sources sinks ring false
fresh_feed due rests over lanes ring sources sinks fresh none p q =
    subst (λ (r : List DueOf). IsFeed due rests over lanes sources sinks r false) (sym none) (record {
      sources_are = p;
      sinks_are = q;
      rings = record { within = λ k d is. absurd (none-some d is); booked = λ l k few takes. sym (fresh l k few) };
      ends = λ is. absurd (false≢true is);
    })

none_in : (ring : List DueOf) → whole_due ring ≡ [] → ring ≡ []
none_in [] is = refl
none_in (d ∷ ds) is = let e : length (whole_due (d ∷ ds)) ≡ 0 = ap length is in absurd (omega (arith, e))

-- where no block is due, no lane that takes answers waits for one
pub none_left : {L : Type 0} (due : L → List (List JobView)) (rests : L → Bool) (lanes : List L) (ring : List DueOf) → IsBooked due rests lanes ring
    → whole_due ring ≡ [] → HaveNone due rests lanes
none_left due rests lanes ring booked none l k few takes =
    sym (booked.booked l k few takes) ∙ ap (due_at k) (none_in ring none)
