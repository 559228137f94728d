-- What the jobs of all frames of a capture give, one after another.
use Rattle.std.proofs.Common.{◌≡◌, ℕ, zero, suc, ◌+◌, ◌-◌, ◌<◌, ◌≤◌, List, [], ◌∷◌, ◌++◌, length, map, take, not, Bool, true, if◌then◌else◌}
use Rattle.std.proofs.Common.{inl, inr, refl, sym, ap, ◌∙◌, arith}
use Rattle.std.specs.List.{AllByRecursion, filter}
use Rattle.std.proofs.lemmas.Bool.Decides.{leb_tells}
use Rattle.std.proofs.lemmas.List.{append-nil, length-map, map-append, take-append-le, take-map}
use Rattle.std.proofs.lemmas.Grind.{flat_map-append}
use Rattle.std.proofs.Math.Seq.{take-append-add}
use Rattle.ht_metric.specs.Jobs.{JobView}
use Rattle.ht_capture.specs.declared.items.FrameHead.{FrameHead}
use Rattle.ht_capture.specs.declared.items.Item.{Item}
use Rattle.ht_capture.specs.declared.items.Item.TheVariants.{Job}
use Rattle.ht_capture.specs.Captures.{capture_of}
use Rattle.ht_capture_laws.specs.Items.{FrameJobs, IsFrontOfFrame, IsHead, IsWholeFrame, cut_frames, frames_in, has_all_jobs, items_in, whole_frames}
use Rattle.ht_capture_laws.proofs.Lists.{all_kept, all_weaker}
use Rattle.ht_capture_laws.proofs.More.{frames_more}
use Rattle.ht_capture_laws.proofs.Parts.{frames_of, heads_good, parted_of}
use Rattle.ht_results.specs.declared.frame_result.FrameResult.{FrameResult}
use Rattle.ht_feed.specs.Items.{headed_of}
use Rattle.ht_results.specs.Heads.{Headed, headed, headed_in, headed_jobs}
use Rattle.ht_results.specs.Captured.{ComesTo}
use Rattle.ht_results.specs.Distances.{distance_fold, distances_of, frame_distances, job_distance, one_value}
use Rattle.ht_results.specs.Folding.{FrameSoFar, frame_after, frames_within, job_labels, label_fold, results_from, streams_in}
use Rattle.ht_results.specs.Plans.{Fold, SoFar, given_from, under_way}
use Rattle.ht_results.specs.Results.{frame_result, results_of}
use Rattle.ht_results.specs.Texts.{frame_lines_of, result_line, result_lines}
use Rattle.ht_results.proofs.Counted.{given_from-append}
use Rattle.ht_results.proofs.Instances.{distances_come, labels_come}
use Rattle.ht_results.proofs.Whole.{both_of, front_gives, headed_jobs_of, part_of_front, part_of_whole, some_give, whole_ends, whole_gives}

-- the jobs of items with their heads are those of the frames that stand among the items
headed-jobs : (head : FrameHead) (jobs : List JobView) (items : List Item)
    → headed head (map Job jobs ++ items) ≡ map (headed_of head) jobs ++ headed head items
headed-jobs head [] items = refl
headed-jobs head (job ∷ jobs) items = ap (λ (xs : List Headed). headed_of head job ∷ xs) (headed-jobs head jobs items)

headed-frames : (head : FrameHead) (frames : List FrameJobs) → headed head (items_in frames) ≡ headed_in frames
headed-frames head [] = refl
headed-frames head (f ∷ fs) =
    headed-jobs f.head f.jobs (items_in fs) ∙ ap (λ (xs : List Headed). map (headed_of f.head) f.jobs ++ xs) (headed-frames f.head fs)

pub headed_is : (octets : List ℕ) (head : FrameHead) → headed head (capture_of octets).items ≡ headed_jobs octets
headed_is octets head = ap (headed head) (frames_of octets).all ∙ headed-frames head (frames_in (capture_of octets).items)

-- a whole frame, and one that is cut off
abbrev pub IsGood : FrameJobs → Type 0
IsGood f = IsHead f.head × IsWholeFrame f

abbrev pub IsCutOff : FrameJobs → Type 0
IsCutOff f = IsHead f.head × IsFrontOfFrame f

none_taken : (n : ℕ) → take {A = Headed} n [] ≡ []
none_taken zero = refl
none_taken (suc n) = refl

-- a whole frame is there, or only some of its jobs
taken_past : (f : FrameJobs) (rest : List Headed) (n : ℕ) → length f.jobs ≤ n
    → take n (headed_jobs_of f ++ rest) ≡ headed_jobs_of f ++ take (n - length f.jobs) rest
taken_past f rest n le =
    let size = length-map f.jobs (headed_of f.head) in
    let whole : n ≡ length (headed_jobs_of f) + (n - length f.jobs) = omega (arith, size, le) in
    ap (λ (k : ℕ). take k (headed_jobs_of f ++ rest)) whole ∙ take-append-add (headed_jobs_of f) rest (n - length f.jobs)

-- the frames of octets are such frames
heads_kept : (octets : List ℕ) (p : FrameJobs → Bool) → AllByRecursion (λ (f : FrameJobs). IsHead f.head) (filter p (frames_in (capture_of octets).items))
heads_kept octets p =
    let fs : List FrameJobs = frames_in (capture_of octets).items in
    all_weaker (λ (f : FrameJobs). IsHead f.head × (p f ≡ true)) (λ (f : FrameJobs). IsHead f.head) (filter p fs) (λ f both. both.0)
    (all_kept (λ (f : FrameJobs). IsHead f.head) p fs (heads_good (frames_of octets).last 0 0 fs (frames_of octets).are))

pub whole_good : (octets : List ℕ) → AllByRecursion IsGood (whole_frames (capture_of octets).items)
whole_good octets =
    both_of (λ (f : FrameJobs). IsHead f.head) IsWholeFrame (whole_frames (capture_of octets).items) (heads_kept octets has_all_jobs) (parted_of octets).whole

pub cut_good : (octets : List ℕ) → AllByRecursion IsCutOff (cut_frames (capture_of octets).items)
cut_good octets =
    both_of (λ (f : FrameJobs). IsHead f.head) IsFrontOfFrame (cut_frames (capture_of octets).items)
    (heads_kept octets (λ f. not (has_all_jobs f))) (parted_of octets).cut

-- whatever is kept of a job
module _ {V R : Type 0} (width : FrameHead → ℕ) (values : FrameHead → JobView → List V) (none : V) (fold : Fold Headed FrameHead V R)
    (result : FrameJobs → R) (comes : ComesTo width values none fold result) where
  -- at most one frame that is cut off gives nothing, and no more do some of its jobs
  cut_gives : (cut : List FrameJobs) (g : SoFar FrameHead V) (n : ℕ) → AllByRecursion IsCutOff cut → length cut ≤ 1 → g.left ≡ 0
      → given_from fold g (take n (headed_in cut)) ≡ []
  cut_gives [] g n are one over = ap (given_from fold g) (none_taken n)
  cut_gives (f ∷ []) g n are one over =
      ap (λ (hs : List Headed). given_from fold g (take n hs)) (append-nil (headed_jobs_of f))
      ∙ (ap (given_from fold g) (take-map (headed_of f.head) n f.jobs)
      ∙ some_give width values none fold result comes f.head (take n f.jobs) g are.0.0.some over (part_of_front f n are.0.0 are.0.1))
  cut_gives (f ∷ next ∷ cut) g n are one over = absurd (omega (arith, one))

  first_there : (f : FrameJobs) (rest : List Headed) (g : SoFar FrameHead V) (n : ℕ) → IsGood f → g.left ≡ 0 → length f.jobs ≤ n
      → given_from fold g (take n (headed_jobs_of f ++ rest)) ≡ result f ∷ given_from fold (under_way fold g (headed_jobs_of f)) (take (n - length f.jobs) rest)
  first_there f rest g n good over le =
      ap (given_from fold g) (taken_past f rest n le)
      ∙ (given_from-append fold g (headed_jobs_of f) (take (n - length f.jobs) rest)
      ∙ ap (λ (z : List R). z ++ given_from fold (under_way fold g (headed_jobs_of f)) (take (n - length f.jobs) rest))
      (whole_gives width values none fold result comes f g good.0 good.1 over))

  first_cut : (f : FrameJobs) (rest : List Headed) (g : SoFar FrameHead V) (n : ℕ) → IsGood f → g.left ≡ 0 → n < length f.jobs
      → given_from fold g (take n (headed_jobs_of f ++ rest)) ≡ []
  first_cut f rest g n good over few =
      let size = length-map f.jobs (headed_of f.head) in
      ap (given_from fold g) (take-append-le n (headed_jobs_of f) rest (omega (arith, size, few)) ∙ take-map (headed_of f.head) n f.jobs)
      ∙ some_give width values none fold result comes f.head (take n f.jobs) g good.0.some over (part_of_whole f n good.0 good.1 few)

  -- the frames whose jobs are all among the first ones
  abbrev Picked : FrameJobs → List FrameJobs → ℕ → Bool → List R
  Picked f fs n b = map result (if b then f ∷ frames_within (n - length f.jobs) fs else [])

  within_gives : (whole cut : List FrameJobs) (g : SoFar FrameHead V) (n : ℕ) → AllByRecursion IsGood whole → AllByRecursion IsCutOff cut → length cut ≤ 1
      → g.left ≡ 0 → given_from fold g (take n (headed_in (whole ++ cut))) ≡ map result (frames_within n whole)
  within_gives [] cut g n good are one over = cut_gives cut g n are one over
  within_gives (f ∷ fs) cut g n good are one over =
      elim (leb_tells (length f.jobs) n) [
        | inl there ↦
            first_there f (headed_in (fs ++ cut)) g n good.0 over there.1
            ∙ (ap (λ (z : List R). result f ∷ z)
            (within_gives fs cut (under_way fold g (headed_jobs_of f)) (n - length f.jobs) good.1 are one
            (whole_ends width values none fold result comes f g good.0.0 good.0.1 over))
            ∙ sym (ap (Picked f fs n) there.0))
        | inr missing ↦
            first_cut f (headed_in (fs ++ cut)) g n good.0 over missing.1 ∙ sym (ap (Picked f fs n) missing.0)
      ]

  -- all of them
  all_frames : (whole cut : List FrameJobs) (g : SoFar FrameHead V) → AllByRecursion IsGood whole → AllByRecursion IsCutOff cut → length cut ≤ 1 → g.left ≡ 0
      → given_from fold g (headed_in (whole ++ cut)) ≡ map result whole
  all_frames [] [] g good are one over = refl
  all_frames [] (f ∷ []) g good are one over =
      ap (given_from fold g) (append-nil (headed_jobs_of f)) ∙ front_gives width values none fold result comes f g are.0.0 are.0.1 over
  all_frames [] (f ∷ next ∷ cut) g good are one over = absurd (omega (arith, one))
  all_frames (f ∷ fs) cut g good are one over =
      given_from-append fold g (headed_jobs_of f) (headed_in (fs ++ cut))
      ∙ (ap (λ (z : List R). z ++ given_from fold (under_way fold g (headed_jobs_of f)) (headed_in (fs ++ cut)))
      (whole_gives width values none fold result comes f g good.0.0 good.0.1 over)
      ∙ ap (λ (z : List R). result f ∷ z)
      (all_frames fs cut (under_way fold g (headed_jobs_of f)) good.1 are one (whole_ends width values none fold result comes f g good.0.0 good.0.1 over)))

  pub all_fold : (octets : List ℕ) (g : SoFar FrameHead V) → g.left ≡ 0
      → given_from fold g (headed_jobs octets) ≡ map result (whole_frames (capture_of octets).items)
  all_fold octets g over =
      let items : List Item = (capture_of octets).items in
      ap (λ (fs : List FrameJobs). given_from fold g (headed_in fs)) (parted_of octets).order
      ∙ all_frames (whole_frames items) (cut_frames items) g (whole_good octets) (cut_good octets) (parted_of octets).one over

  pub fronts_fold : (octets : List ℕ) (g : SoFar FrameHead V) (n : ℕ) → g.left ≡ 0
      → given_from fold g (take n (headed_jobs octets)) ≡ map result (frames_within n (whole_frames (capture_of octets).items))
  fronts_fold octets g n over =
      let items : List Item = (capture_of octets).items in
      ap (λ (fs : List FrameJobs). given_from fold g (take n (headed_in fs))) (parted_of octets).order
      ∙ within_gives (whole_frames items) (cut_frames items) g n (whole_good octets) (cut_good octets) (parted_of octets).one over

-- the labels
pub folds : (octets : List ℕ) (g : FrameSoFar) → g.left ≡ 0 → results_from g (headed_jobs octets) ≡ results_of octets
unfolding results_of
folds = all_fold streams_in job_labels 0 label_fold frame_result labels_come

pub front_folds : (octets : List ℕ) (g : FrameSoFar) (n : ℕ) → g.left ≡ 0
    → results_from g (take n (headed_jobs octets)) ≡ map frame_result (frames_within n (whole_frames (capture_of octets).items))
front_folds = fronts_fold streams_in job_labels 0 label_fold frame_result labels_come

pub rest_gives : (octets : List ℕ) (g : FrameSoFar) (taken rest : List Headed) → g.left ≡ 0 → headed_jobs octets ≡ taken ++ rest
    → results_of octets ≡ results_from g taken ++ results_from (frame_after g taken) rest
rest_gives octets g taken rest none is = sym (folds octets g none) ∙ (ap (results_from g) is ∙ given_from-append label_fold g taken rest)

-- the distances
pub distances_fold : (octets : List ℕ) (g : SoFar FrameHead ℕ) → g.left ≡ 0 → given_from distance_fold g (headed_jobs octets) ≡ distances_of octets
distances_fold = all_fold one_value job_distance 0 distance_fold frame_distances distances_come

-- more octets
pub more_results : (octets more : List ℕ) → (later : List FrameResult) × (results_of (octets ++ more) ≡ results_of octets ++ later)
unfolding results_of
more_results octets more =
    let frames = frames_more octets more in (
      map frame_result frames.0,
      ap (map frame_result) frames.1 ∙ map-append frame_result (whole_frames (capture_of octets).items) frames.0,
    )

pub more_lines : (octets more : List ℕ) → (later : List ℕ) × (frame_lines_of (octets ++ more) ≡ frame_lines_of octets ++ later)
unfolding frame_lines_of
more_lines octets more =
    let results = more_results octets more in
    (result_lines results.0, ap result_lines results.1 ∙ flat_map-append result_line (results_of octets) results.0)
