-- The weights of the jobs of a frame, put on their places one after another, are those of its places.
use Rattle.std.proofs.Common.{◌≡◌, ℕ, zero, suc, ◌+◌, ◌*◌, ℤ, pos, List, ◌∷◌, ◌++◌, length, map, replicate, Option, None, Some}
use Rattle.std.proofs.Common.{refl, sym, ap, ◌∙◌, arith}
use Rattle.std.specs.List.{flat_map, range_with_len}
use Rattle.std.proofs.lemmas.List.{length-map, replicate-append-replicate}
use Rattle.std.proofs.lemmas.List.FromFn.{length-range_with_len}
use Rattle.ht_rate.specs.declared.kinds.Modulation.{Modulation}
use Rattle.ht_rate.specs.Rates.{data_carriers_of, label_bits_of, modulation_of, streams_of}
use Rattle.ht_metric.specs.Jobs.{JobView}
use Rattle.ht_capture.specs.declared.items.FrameHead.{FrameHead}
use Rattle.ht_capture_laws.specs.Items.{FrameJobs, symbols_in}
use Rattle.ht_results.specs.Captured.{ComesTo}
use Rattle.ht_results.specs.Heads.{headed_jobs}
use Rattle.ht_results.specs.Labels.{data_job_at}
use Rattle.ht_results.specs.Plans.{SoFar, given_from, kept_at, kept_by_place, kept_of}
use Rattle.ht_results.proofs.Folded.{all_fold}
use Rattle.ht_results.proofs.Putting.{long_blocks, table_same}
use Rattle.ht_soft_rx.specs.Jobs.{weight_fold, weight_plan}
use Rattle.ht_soft_rx.specs.Results.{result_of, soft_result, soft_results_of}
use Rattle.ht_soft_rx.specs.Weights.{carrier_weights, frame_weights, job_weights, weight_in, weights_in, weights_of_job}

-- a job has the number of weights that the plan says
pub job_long : (head : FrameHead) (job : Option JobView) → length (weights_in head job) ≡ weights_of_job head
job_long head job =
    let bits = label_bits_of head.rate in
    long_blocks (λ stream. map (weight_in (modulation_of head.rate) job stream) (range_with_len 0 bits)) bits 1 (streams_of head.rate)
    (λ stream low high. length-map (range_with_len 0 bits) (weight_in (modulation_of head.rate) job stream) ∙ length-range_with_len 0 bits)

-- where there is no job they are all 0
zero_bits : (a n : ℕ) (m : Modulation) (stream : ℕ) → map (weight_in m None stream) (range_with_len a n) ≡ replicate n (pos 0)
zero_bits a zero m stream = refl
zero_bits a (suc n) m stream = ap (λ (ws : List ℤ). pos 0 ∷ ws) (zero_bits (a + 1) n m stream)

zero_streams : (a n bits : ℕ) (m : Modulation)
    → flat_map (λ stream. map (weight_in m None stream) (range_with_len 0 bits)) (range_with_len a n) ≡ replicate (n * bits) (pos 0)
zero_streams a zero bits m =
    let none : 0 ≡ 0 * bits = omega arith in
    ap (λ (n : ℕ). replicate n (pos 0)) none
zero_streams a (suc n) bits m =
    let more : bits + n * bits ≡ suc n * bits = omega arith in
    let rest : List ℤ = flat_map (λ stream. map (weight_in m None stream) (range_with_len 0 bits)) (range_with_len (a + 1) n) in
    ap (λ (ws : List ℤ). ws ++ rest) (zero_bits 0 bits m a)
    ∙ (ap (λ (ws : List ℤ). replicate bits (pos 0) ++ ws) (zero_streams (a + 1) n bits m)
    ∙ (replicate-append-replicate bits (n * bits) (pos 0) ∙ ap (λ (n : ℕ). replicate n (pos 0)) more))

kept : (head : FrameHead) (job : Option JobView) → kept_of weight_plan head job ≡ weights_in head job
kept head None = sym (zero_streams 1 (streams_of head.rate) (label_bits_of head.rate) (modulation_of head.rate))
kept head (Some job) = refl

weights_kept : (f : FrameJobs) → kept_by_place weight_plan f.head f.jobs ≡ frame_weights f
unfolding kept_by_place frame_weights carrier_weights
weights_kept f =
    table_same (kept_at weight_plan f.head f.jobs) (carrier_weights f) (symbols_in f.head) (data_carriers_of f.head.rate)
    (λ symbol m low few. kept f.head (data_job_at f symbol m))

pub weights_come : ComesTo weights_of_job job_weights (pos 0) weight_fold soft_result
weights_come = record {
  step = λ h f. refl;
  wide = λ head job m is of. job_long head (Some job);
  whole = λ f head whole. ap (result_of f.head) (weights_kept f);
}

pub jobs_fold : (octets : List ℕ) (g : SoFar FrameHead ℤ) → g.left ≡ 0 → given_from weight_fold g (headed_jobs octets) ≡ soft_results_of octets
unfolding soft_results_of
jobs_fold = all_fold weights_of_job job_weights (pos 0) weight_fold soft_result weights_come
