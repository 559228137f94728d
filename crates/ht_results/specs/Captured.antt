-- The frames of captures, of which anything may be kept of a job.
use Rattle.std.specs.Prelude.{◌≡◌, ℕ, ◌==◌, nat_lt, max, List, length, if◌then◌else◌}
use Rattle.ht_rate.specs.declared.kinds.Carrier.{Carrier}
use Rattle.ht_rate.specs.declared.kinds.Carrier.TheVariants.{Data}
use Rattle.ht_rate.specs.declared.rates.Rate.{Rate}
use Rattle.ht_rate.specs.Carriers.{carrier_of, index_of}
use Rattle.ht_rate.specs.Rates.{carriers_of, data_carriers_of}
use Rattle.ht_metric.specs.Jobs.{JobView}
use Rattle.ht_capture.specs.declared.items.FrameHead.{FrameHead}
use Rattle.ht_capture_laws.specs.Items.{FrameJobs, IsHead, IsJobOf, IsWholeFrame, symbols_in}
use Rattle.ht_results.specs.Heads.{Headed}
use Rattle.ht_results.specs.Plans.{Fold, Plan, SoFar, begun_by, whole_by, with_kind_by}

-- what a subcarrier carries; there are no others than those of the rate
abbrev pub kind_of : Rate → ℕ → Carrier
kind_of r carrier = if nat_lt carrier (carriers_of r) then carrier_of r carrier else Data carrier

-- of each job on a data subcarrier this number of values is kept, these
abbrev pub capture_plan : {V : Type 0} → (FrameHead → ℕ) → (FrameHead → JobView → List V) → V → Plan FrameHead V
capture_plan width values none = record {
  symbols = symbols_in;
  subcarriers = λ head. carriers_of head.rate;
  data_carriers = λ head. data_carriers_of head.rate;
  kind = λ head carrier. kind_of head.rate carrier;
  index = λ head m. index_of head.rate (Data m);
  erased = λ head. head.erased;
  width = width;
  values = values;
  none = none;
}

-- a frame has an octet at least
abbrev pub with_octets : FrameHead → FrameHead
with_octets head = record head { length = max 1 head.length }

-- where no frame is under way, the next job begins one
abbrev pub frame_by : {V : Type 0} → Plan FrameHead V → FrameHead → SoFar FrameHead V → SoFar FrameHead V
frame_by plan head f = if f.left == 0 then begun_by plan (with_octets head) else f

-- the frame with one more job, which may begin it
unfoldable pub with_job_by : {V : Type 0} → Plan FrameHead V → Headed → SoFar FrameHead V → SoFar FrameHead V
with_job_by plan h f = with_kind_by plan h.job (frame_by plan h.head f)

-- The fold takes jobs by the plan of these values, and comes to `result` of a whole frame, by its places.
pub record ComesTo {V R : Type 0} (width : FrameHead → ℕ) (values : FrameHead → JobView → List V) (none : V)
    (fold : Fold Headed FrameHead V R) (result : FrameJobs → R) : Type 0 where
  pub step : (h : Headed) (f : SoFar FrameHead V) → fold.step h f ≡ with_job_by (capture_plan width values none) h f
  pub wide : (head : FrameHead) (job : JobView) (m : ℕ) → carrier_of head.rate job.place.carrier ≡ Data m → IsJobOf head job
      → length (values head job) ≡ width head
  pub whole : (f : FrameJobs) → IsHead f.head → IsWholeFrame f
      → fold.result (whole_by (capture_plan width values none) f.head f.jobs) ≡ result f
