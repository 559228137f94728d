-- The lines of a block are put.
use Rattle.std.proofs.Common.{◌≡◌, ℕ, ◌+◌, List, [], ◌∷◌, ◌++◌, drop, slice_get, Some, Result, MatchResult}
use Rattle.std.proofs.Common.{refl, sym, ap, ◌∙◌, subst, append_assoc}
use Rattle.std.proofs.Math.Path.{fun_ext}
use Rattle.std.proofs.lemmas.List.{drop_more}
use Rattle.std.proofs.lemmas.Option.{get_or_from_slice_get, slice_get_within}
use Rattle.ht_io.specs.Devices.{Device, Grows, GrowsByPart}
use Rattle.ht_io.proofs.Calls.{grows_by_part-front}
use Rattle.ht_metric.specs.declared.found.Found.{Found}
use Rattle.ht_metric.specs.declared.place.Place.{Place}
use Rattle.ht_metric.specs.Jobs.{JobView, near}
use Rattle.ht_capture.specs.declared.items.FrameHead.{FrameHead}
use Rattle.ht_runs.specs.declared.faults.RunFault.{RunFault}
use Rattle.ht_feed.specs.declared.ended.Ended.{Ended}
use Rattle.ht_feed.specs.Consumers.{PutsBlock, PutsPartOf, Telling}
use Rattle.ht_feed.specs.Dues.{due_of, headed_due}
use Rattle.ht_feed.specs.Items.{Item}
use Rattle.ht_feed.specs.Inputs.{TellsInput}
use Rattle.ht_fields.specs.Meanings.{Meaning}
use Rattle.ht_capture.specs.Captures.{capture_of}
use Rattle.ht_capture_blocks.specs.Captures.{mapped}
use Rattle.ht_results.specs.Heads.{Headed}
use Rattle.ht_rx.specs.Heads.{jobs_alone, pieces_of_octets}
use Rattle.ht_rx.specs.Outcomes.{StopsBy, TellsTo}
use Rattle.ht_rx.specs.Telling.{TellsCapture}
use Rattle.ht_results.specs.JobTexts.{job_line_of, job_lines, line_at, lines_of}
use Rattle.ht_rx.proofs.Blocks.{comes_to}
use Rattle.ht_rx.proofs.Heading.{jobs_of_octets}

job_lines-append : (xs ys : List JobView) → job_lines (xs ++ ys) ≡ job_lines xs ++ job_lines ys
job_lines-append [] ys = refl
job_lines-append (x ∷ xs) ys =
    ap (λ (lines : List ℕ). job_line_of x ++ lines) (job_lines-append xs ys) ∙ sym (append_assoc (job_line_of x) (job_lines xs) (job_lines ys))

-- what is said of a job's place and of what was found for it is its line
line_is : (job : JobView) (place : Place) (found : Found) → place ≡ job.place → found ≡ near job → line_at place found ≡ job_line_of job
unfolding job_line_of
line_is job place found here is = ap (λ (p : Place). line_at p found) here ∙ ap (λ (f : Found). line_at job.place f) is

-- the line of a job in front of those behind it
lines_before : (jobs : List JobView) (at : ℕ) (job : JobView) (text : List ℕ) → slice_get jobs at ≡ Some job → text ≡ job_lines (drop (at + 1) jobs)
    → job_line_of job ++ text ≡ job_lines (drop at jobs)
lines_before jobs at job text is so =
    ap (λ (xs : List ℕ). job_line_of job ++ xs) so
    ∙ sym (ap job_lines (drop_more jobs at job (slice_get_within jobs at job is)
    ∙ ap (λ (j : JobView). j ∷ drop (at + 1) jobs) (get_or_from_slice_get jobs at job job is)))

-- the line of the job before those whose lines are there
pub line_put : (jobs : List JobView) (at left : ℕ) (job : JobView) (place : Place) (found : Found) (new behind : List ℕ) → at + 1 ≡ left → place ≡ job.place
    → found ≡ near job
    → Some job ≡ slice_get jobs at → behind ≡ job_lines (drop left jobs) → new ≡ line_at place found ++ behind → new ≡ job_lines (drop at jobs)
line_put jobs at left job place found new behind next here near-is job-is so is =
    is
    ∙ (ap (λ (xs : List ℕ). xs ++ behind) (line_is job place found here near-is)
    ∙ lines_before jobs at job behind (sym job-is) (so ∙ ap (λ (n : ℕ). job_lines (drop n jobs)) (sym next)))

module _ (head : FrameHead) where
  alone : (jobs : List JobView) (more : List Headed) → jobs_alone (headed_due (due_of head jobs) ++ more) ≡ jobs ++ jobs_alone more
  alone [] more = refl
  alone (job ∷ jobs) more = ap (λ (js : List JobView). job ∷ js) (alone jobs more)

  -- the text is that of these jobs
  module _ (jobs : List JobView) (text : List ℕ) (is : text ≡ job_lines jobs) (a b : Device ℕ) where
    whole : (more : List Headed) → job_lines (jobs_alone (headed_due (due_of head jobs) ++ more)) ≡ text ++ job_lines (jobs_alone more)
    whole more =
        ap job_lines (alone jobs more)
        ∙ (job_lines-append jobs (jobs_alone more) ∙ ap (λ (xs : List ℕ). xs ++ job_lines (jobs_alone more)) (sym is))

    pub puts : Grows a b text → PutsBlock a b (λ js. job_lines (jobs_alone js)) (λ js. job_lines (jobs_alone js)) (headed_due (due_of head jobs))
    puts grows = (text, grows, whole)

    pub part : GrowsByPart a b text → PutsPartOf a b (λ js. job_lines (jobs_alone js)) (headed_due (due_of head jobs))
    part grows = λ more. subst (λ (xs : List ℕ). GrowsByPart a b xs) (sym (whole more)) (grows_by_part-front a b text (job_lines (jobs_alone more)) grows)

lines_are : (octets : List ℕ) → pieces_of_octets (λ js. job_lines (jobs_alone js)) octets ≡ lines_of octets
unfolding lines_of
lines_are octets = ap job_lines (jobs_of_octets octets)

-- a consumer that puts the lines of the jobs that still come
abbrev pub lists : Device ℕ → Telling FrameHead ℕ
lists sink = record { device = sink; pieces = λ jobs. job_lines (jobs_alone jobs); Waits = λ due. Unit {0} }

-- the lines of all jobs are the lines of the octets
pub listed : {R : Type 0} {means : R → List ℕ → Meaning (Item FrameHead)} {at : R → ℕ} {reader : R} {head : FrameHead}
    {source source' sink start sink' : Device ℕ} {lent lent' : List ℕ} {result : Result Ended RunFault}
    → TellsInput means at reader head source source' (lists start) (lists sink') lent lent' result → start ≡ sink
    → ((octets : List ℕ) → means reader octets ≡ mapped (capture_of octets)) → at reader ≡ 0
    → TellsCapture lines_of source source' sink sink' result
listed {means = means} {at = at} {reader = reader} {head = head} {source = source} {source' = source'} {start = start} {sink' = sink'} {result = result}
    told from same zero =
    subst (λ (d : Device ℕ). TellsCapture lines_of source source' d sink' result) from (record {
      tells = subst (λ (f : List ℕ → List ℕ). MatchResult result (TellsTo f source source' start sink') (StopsBy f source source' start sink'))
          (fun_ext lines_are) (comes_to means at reader head source source' (lists start) (lists sink') result same zero told.tells);
      writes = told.writes;
      reads_later = told.reads_later;
      puts_later = told.puts_later;
    })
