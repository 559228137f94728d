-- The jobs of items without their heads.
use Rattle.std.proofs.Common.{◌≡◌, ℕ, List, [], ◌∷◌, refl, sym, ap, ◌∙◌}
use Rattle.ht_rate.specs.Rates.{rate_at}
use Rattle.ht_metric.specs.Jobs.{JobView}
use Rattle.ht_capture.specs.declared.items.FrameHead.{FrameHead}
use Rattle.ht_capture.specs.declared.items.Item.{Item}
use Rattle.ht_capture.specs.declared.items.Item.TheVariants.{Job}
use Rattle.ht_capture.specs.Captures.{capture_of}
use Rattle.ht_results.specs.Heads.{headed, headed_jobs}
use Rattle.ht_results.proofs.Folded.{headed_is as headed_octets}
use Rattle.ht_rx.specs.Heads.{jobs_alone}
use Rattle.ht_results.specs.JobTexts.{jobs_of}
use Rattle.ht_capture.specs.declared.items.Item.TheVariants.{Frame, Done}

pub headed_is : (head : FrameHead) (octets : List ℕ) (items : List Item) → (capture_of octets).items ≡ items → headed head items ≡ headed_jobs octets
headed_is head octets items is = ap (headed head) (sym is) ∙ headed_octets octets head

-- whatever their heads are, the jobs are those of the items
pub jobs_alone-headed : (head : FrameHead) (items : List Item) → jobs_alone (headed head items) ≡ jobs_of items
jobs_alone-headed head [] = refl
jobs_alone-headed head (Frame next ∷ items) = jobs_alone-headed next items
jobs_alone-headed head (Job job ∷ items) = ap (λ (xs : List JobView). job ∷ xs) (jobs_alone-headed head items)
jobs_alone-headed head (Done ∷ items) = jobs_alone-headed head items

-- some head
pub any_head : FrameHead
any_head = record { frame = 0; rate = rate_at 0 0; length = 1; erased = 0 }

pub jobs_of_octets : (octets : List ℕ) → jobs_alone (headed_jobs octets) ≡ jobs_of (capture_of octets).items
jobs_of_octets octets =
    ap jobs_alone (sym (headed_octets octets any_head)) ∙ jobs_alone-headed any_head (capture_of octets).items
