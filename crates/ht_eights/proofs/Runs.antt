-- Runs of jobs on data subcarriers that follow one another.
use Rattle.std.proofs.Common.{◌≡◌, ℕ, ◌+◌, ◌*◌, ◌^◌, ◌<◌, ◌≤◌, List, [], ◌∷◌, ◌++◌, Option, Some, IfSome, Bool, true, not, map}
use Rattle.std.proofs.Common.{if◌then◌else◌, drop, length, take, get_or, slice_get, slice_index, length-append, arith, ap, refl, subst, sym, ◌∙◌}
use Rattle.std.specs.List.{filter, flat_map, range_with_len}
use Rattle.std.proofs.Math.Seq.{take-add}
use Rattle.std.proofs.lemmas.Grind.{flat_map-append}
use Rattle.std.proofs.lemmas.List.{append-nil, get_or-drop, length-drop, length-map, take_more}
use Rattle.std.proofs.lemmas.List.Elements.{filter-append}
use Rattle.std.proofs.lemmas.List.Sums.{sum_by-append, sum_by-cons}
use Rattle.std.proofs.lemmas.Option.{slice_get-get_or}
use Rattle.ht_capture_laws.proofs.Lists.{range_append}
use Rattle.ht_frames.specs.Tallies.{IsTally, job_kept, job_places, kept_as, places_as}
use Rattle.ht_frames.proofs.Tallying.{long_tally}
use Rattle.ht_metric.specs.Jobs.{JobView, near}
use Rattle.ht_metric.specs.declared.place.Place.{Place}
use Rattle.ht_rate.specs.declared.kinds.Modulation.{Modulation}
use Rattle.ht_rate.specs.declared.kinds.Carrier.{Carrier}
use Rattle.ht_rate.specs.declared.kinds.Carrier.TheVariants.{Data}
use Rattle.ht_results.specs.Folding.{label_at}
use Rattle.ht_results.specs.Plans.{Plan, distances, is_data, on_data_by, place_by}
use Rattle.ht_rounding.specs.Labels.{IsLabelled, IsLabelledIn, labels_in}
use Rattle.ht_rounding.specs.Loading.{no_job}
use Rattle.ht_rounding.specs.declared.eight.Labelled.{Labelled}
use Rattle.ht_eights.specs.InLanes.{HasFirst, jobs_behind, lane_labels}
use Rattle.ht_eights.proofs.Eights.{as_many}

-- the labels of one more lane
pub labels_more : (lanes : Labelled) (first c k : ℕ) → k ≡ first + c → lane_labels lanes first (c + 1) ≡ lane_labels lanes first c ++ labels_in lanes k
labels_more lanes first c k is =
    ap (λ (l : List ℕ). flat_map (labels_in lanes) l) (range_append first c 1)
    ∙ (flat_map-append (labels_in lanes) (range_with_len first c) (range_with_len (first + c) 1)
    ∙ (ap (λ (l : List ℕ). lane_labels lanes first c ++ l) (append-nil (labels_in lanes (first + c)))
    ∙ ap (λ (j : ℕ). lane_labels lanes first c ++ labels_in lanes j) (sym is)))

module _ {H : Type 0} (plan : Plan H ℕ) (head : H) where
  sums_append : (p : JobView → Bool) (xs ys : List JobView) → distances (filter p (xs ++ ys)) ≡ distances (filter p xs) + distances (filter p ys)
  sums_append p xs ys =
      ap (λ (js : List JobView). distances js) (filter-append p xs ys) ∙ sum_by-append (λ j. (near j).distance) (filter p xs) (filter p ys)

  -- what jobs come to, and then others
  pub joined : (xs ys : List JobView) (n m k d e s p q r : ℕ) (ps rs ls ks : List ℕ) → k ≡ n + m → s ≡ d + e → r ≡ p + q
      → IsTally plan head xs n d p ps ls → IsTally plan head ys m e q rs ks → IsTally plan head (xs ++ ys) k s r (ps ++ rs) (ls ++ ks)
  joined xs ys n m k d e s p q r ps rs ls ks counts sums pilots is more =
      let longer = length-append xs ys in
      let data_sums = sums_append (on_data_by plan head) xs ys in
      let pilot_sums = sums_append (λ job. not (on_data_by plan head job)) xs ys in
      let first_count = is.count in
      let more_count = more.count in
      let first_data = is.of_data in
      let more_data = more.of_data in
      let first_pilots = is.of_pilots in
      let more_pilots = more.of_pilots in
      let first_few = is.bounded in
      let more_few = more.bounded in
      record {
        count = omega (arith, longer, first_count, more_count, counts);
        of_data = omega (arith, data_sums, first_data, more_data, sums);
        of_pilots = omega (arith, pilot_sums, first_pilots, more_pilots, pilots);
        places = ap (λ (l : List ℕ). l ++ rs) is.places
            ∙ (ap (λ (l : List ℕ). flat_map (job_places plan head) xs ++ l) more.places ∙ sym (flat_map-append (job_places plan head) xs ys));
        values = ap (λ (l : List ℕ). l ++ ks) is.values
            ∙ (ap (λ (l : List ℕ). flat_map (job_kept plan head) xs ++ l) more.values ∙ sym (flat_map-append (job_kept plan head) xs ys));
        bounded = omega (arith, first_few, more_few, counts, sums, pilots);
      }

  -- what one job on a data subcarrier comes to
  pub one_tally : (job : JobView) (m d : ℕ) → plan.kind head job.place.carrier ≡ Data m → d ≡ (near job).distance → d ≤ 2 ^ 66
      → IsTally plan head (job ∷ []) 1 d 0 (places_as plan head job (Data m)) (kept_as plan head job (Data m))
  one_tally job m d kind is few =
      let here : on_data_by plan head job ≡ true = ap (λ (c : Carrier). is_data c) kind in
      let cons = sum_by-cons (λ (j : JobView). (near j).distance) job [] in
      let none : distances [] ≡ 0 = refl in
      let single : d ≡ distances (job ∷ []) = omega (arith, is, cons, none) in
      record {
        count = refl;
        of_data = single ∙ sym (ap (λ (b : Bool). distances (if b then job ∷ [] else [])) here);
        of_pilots = sym (ap (λ (b : Bool). distances (if not b then job ∷ [] else [])) here);
        places = sym (ap (λ (c : Carrier). places_as plan head job c ++ []) kind ∙ append-nil (places_as plan head job (Data m)));
        values = sym (ap (λ (c : Carrier). kept_as plan head job c ++ []) kind ∙ append-nil (kept_as plan head job (Data m)));
        bounded = omega (arith, few);
      }

  -- no job
  pub run_none : (lanes : Labelled) (jobs : List JobView) (n first place streams j : ℕ) → j ≡ 0
      → IsTally plan head (jobs_behind jobs n j) j 0 0 (range_with_len place (j * streams)) (lane_labels lanes first j)
  run_none lanes jobs n first place streams j is =
      let nothing : 0 * streams ≡ 0 = omega arith in
      let none : IsTally plan head (jobs_behind jobs n 0) 0 0 0 (range_with_len place (0 * streams)) (lane_labels lanes first 0) = record {
        count = refl;
        of_data = refl;
        of_pilots = refl;
        places = ap (λ (w : ℕ). range_with_len place w) nothing;
        values = refl;
        bounded = omega arith;
      } in
      subst (λ (i : ℕ). IsTally plan head (jobs_behind jobs n i) i 0 0 (range_with_len place (i * streams)) (lane_labels lanes first i)) (sym is) none

  place_more : (symbol m c : ℕ) → place_by plan head symbol (m + c) ≡ place_by plan head symbol m + c * plan.width head
  place_more symbol m c =
      let w = plan.width head in
      let a = symbol * plan.data_carriers head in
      ap (λ (n : ℕ). n * w) (sum a m c) ∙ spread (a + m) c w
    where
      sum : (a b c : ℕ) → a + (b + c) ≡ (a + b) + c
      sum a b c = omega arith

      spread : (a b w : ℕ) → (a + b) * w ≡ a * w + b * w
      spread a b w = grind arith

  -- one more job of a run, as its lane has it
  pub run_more : (m_of : Modulation)
      → ((job : JobView) → length (near job).vector ≡ plan.width head → plan.values head job ≡ map (label_at m_of) (near job).vector)
      → (lanes : Labelled) (jobs : List JobView) (n first c k i symbol m d e : ℕ) (place : Place)
      → lanes.streams ≡ plan.width head → lanes.streams ≤ 4 → k ≡ first + c → i ≡ n + c → i < length jobs → e ≡ slice_index lanes.distance k → e ≤ 2 ^ 66
      → 0 < slice_index lanes.sure k → place.symbol ≡ symbol → plan.kind head place.carrier ≡ Data (m + c)
      → IfSome (slice_get jobs i) (λ job. job.place ≡ place)
      → IsLabelledIn (label_at (m_of)) lanes k (slice_get jobs i)
      → IsTally plan head (jobs_behind jobs n c) c d 0 (range_with_len (place_by plan head symbol m) (c * lanes.streams))
      (lane_labels lanes first c)
      → IsTally plan head (jobs_behind jobs n (c + 1)) (c + 1) (d + e) 0 (range_with_len (place_by plan head symbol m) ((c + 1) * lanes.streams))
      (lane_labels lanes first (c + 1))
  run_more m_of law lanes jobs n first c k i symbol m d e place streams few lane index lt has small sure on kind at says is =
      let s = lanes.streams in
      let p = place_by plan head symbol m in
      let job = get_or jobs i no_job in
      let got : slice_get jobs i ≡ Some job = slice_get-get_or jobs i no_job lt in
      let here : job.place ≡ place = subst (λ (o : Option JobView). IfSome o (λ j. j.place ≡ place)) got at in
      let hit : 0 < slice_index lanes.sure k → IsLabelled (label_at (m_of)) lanes k job =
      subst (λ (o : Option JobView). IfSome o (λ j. 0 < slice_index lanes.sure k → IsLabelled (label_at (m_of)) lanes k j)) got says in
      let found : IsLabelled (label_at (m_of)) lanes k job = hit sure in
      let carries : plan.kind head job.place.carrier ≡ Data (m + c) = ap (λ (q : Place). plan.kind head q.carrier) here ∙ kind in
      let long : length (near job).vector ≡ plan.width head =
      sym (length-map (near job).vector (label_at m_of)) ∙ (ap (λ (l : List ℕ). length l) found.labels ∙ (as_many lanes k s refl few ∙ streams)) in
      let labels : plan.values head job ≡ labels_in lanes k = law job long ∙ found.labels in
      let many : length (plan.values head job) ≡ s = ap (λ (l : List ℕ). length l) labels ∙ as_many lanes k s refl few in
      let stands : place_by plan head job.place.symbol (m + c) ≡ p + c * s =
      ap (λ (q : Place). place_by plan head q.symbol (m + c)) here
      ∙ (ap (λ (q : ℕ). place_by plan head q (m + c)) on
      ∙ (place_more symbol m c ∙ ap (λ (w : ℕ). p + c * w) (sym streams))) in
      let there : places_as plan head job (Data (m + c)) ≡ range_with_len (p + c * s) s =
      ap (λ (q : ℕ). range_with_len q (length (plan.values head job))) stands ∙ ap (λ (w : ℕ). range_with_len (p + c * s) w) many in
      let one = one_tally job (m + c) e carries (has ∙ found.distance) small in
      let both = joined (jobs_behind jobs n c) (job ∷ []) c 1 (c + 1) d e (d + e) 0 0 0 (range_with_len p (c * s))
      (places_as plan head job (Data (m + c))) (lane_labels lanes first c) (plan.values head job) refl refl refl is one in
      let more_jobs : jobs_behind jobs n (c + 1) ≡ jobs_behind jobs n c ++ job ∷ [] = behind_more jobs n c i index lt in
      let more_places : range_with_len p ((c + 1) * s) ≡ range_with_len p (c * s) ++ places_as plan head job (Data (m + c)) =
      ap (λ (w : ℕ). range_with_len p w) (next c s) ∙ (range_append p (c * s) s ∙ ap (λ (l : List ℕ). range_with_len p (c * s) ++ l) (sym there)) in
      let more_labels : lane_labels lanes first (c + 1) ≡ lane_labels lanes first c ++ plan.values head job =
      labels_more lanes first c k lane ∙ ap (λ (l : List ℕ). lane_labels lanes first c ++ l) (sym labels) in
      record {
        count = both.count ∙ ap (λ (l : List JobView). length l) (sym more_jobs);
        of_data = both.of_data ∙ ap (λ (l : List JobView). distances (filter (on_data_by plan head) l)) (sym more_jobs);
        of_pilots = both.of_pilots ∙ ap (λ (l : List JobView). distances (filter (λ j. not (on_data_by plan head j)) l)) (sym more_jobs);
        places = more_places ∙ (both.places ∙ ap (λ (l : List JobView). flat_map (job_places plan head) l) (sym more_jobs));
        values = more_labels ∙ (both.values ∙ ap (λ (l : List JobView). flat_map (job_kept plan head) l) (sym more_jobs));
        bounded = both.bounded;
      }
    where
      next : (c s : ℕ) → (c + 1) * s ≡ c * s + s
      next c s = grind arith

      behind_more : (jobs : List JobView) (n c i : ℕ) → i ≡ n + c → i < length jobs
          → jobs_behind jobs n (c + 1) ≡ jobs_behind jobs n c ++ get_or jobs i no_job ∷ []
      behind_more jobs n c i is lt =
          let left = length-drop n jobs in
          let inside : c < length (drop n jobs) = omega (arith, lt, is, left) in
          take_more (drop n jobs) c no_job inside
          ∙ (ap (λ (j : JobView). take c (drop n jobs) ++ j ∷ []) (get_or-drop n jobs c no_job)
          ∙ ap (λ (q : ℕ). take c (drop n jobs) ++ get_or jobs q no_job ∷ []) (sym is))

-- a run of jobs behind the first ones of a block
pub run_added : {H : Type 0} (plan : Plan H ℕ) (jobs : List JobView) (n r : ℕ) (head own : H) (c d e p c' d' : ℕ) (ps ps' rs ls ls' ks : List ℕ)
    → c' ≡ c + r → d' ≡ d + e
    → ps' ≡ ps ++ rs → ls' ≡ ls ++ ks → HasFirst plan jobs n head own c d p ps ls → IsTally plan own (jobs_behind jobs n r) r e 0 rs ks
    → HasFirst plan jobs (n + r) head own c' d' p ps' ls'
run_added {H} plan jobs n r head own c d e p c' d' ps ps' rs ls ls' ks counts sums places labels has run =
    let more : IsTally plan head (jobs_behind jobs n r) r e 0 rs ks = subst (λ (h : H). IsTally plan h (jobs_behind jobs n r) r e 0 rs ks)
    has.same run in
    let both : IsTally plan head (take n jobs ++ jobs_behind jobs n r) c' d' p (ps ++ rs) (ls ++ ks) =
    joined plan head (take n jobs) (jobs_behind jobs n r) c r c' d e d' p 0 p ps rs ls ks counts sums (omega arith) has.is more in
    let whole : IsTally plan head (take (n + r) jobs) c' d' p (ps ++ rs) (ls ++ ks) =
    subst (λ (js : List JobView). IsTally plan head js c' d' p (ps ++ rs) (ls ++ ks)) (sym (take-add n r jobs)) both in
    let placed : IsTally plan head (take (n + r) jobs) c' d' p ps' (ls ++ ks) =
    subst (λ (l : List ℕ). IsTally plan head (take (n + r) jobs) c' d' p l (ls ++ ks)) (sym places) whole in
    let is : IsTally plan head (take (n + r) jobs) c' d' p ps' ls' =
    subst (λ (l : List ℕ). IsTally plan head (take (n + r) jobs) c' d' p ps' l) (sym labels) placed in
    let counted = has.counted in
    record {
      counted = omega (arith, counts, counted);
      same = has.same;
      long = long_tally plan is;
      is = is;
    }
