-- Eight samples that are found together.
use Rattle.std.proofs.Common.{◌≡◌, ℕ, zero, suc, ◌+◌, ◌<◌, List, [], ◌∷◌, slice_index_or, ap, ◌∙◌, arith}
use Rattle.ht_metric.specs.Jobs.{JobView}
use Rattle.ht_rounding.specs.Loading.{no_job}

place : (job_for : ℕ → JobView) (at k n : ℕ) (job : JobView) → n ≡ at + k → job ≡ job_for n → job ≡ job_for (at + k)
place job_for at k n job there is = is ∙ ap job_for there

-- the jobs of eight numbers from one on
pub eight_there : (job_for : ℕ → JobView) (at : ℕ) (a b c d e f g h : JobView)
    → a ≡ job_for at → b ≡ job_for (at + 1) → c ≡ job_for (at + 2) → d ≡ job_for (at + 3)
    → e ≡ job_for (at + 4) → f ≡ job_for (at + 5) → g ≡ job_for (at + 6) → h ≡ job_for (at + 7)
    → (k : ℕ) → k < 8 → slice_index_or (a ∷ b ∷ c ∷ d ∷ e ∷ f ∷ g ∷ h ∷ []) k no_job ≡ job_for (at + k)
eight_there j at a b c d e f g h pa pb pc pd pe pf pg ph zero lt = place j at 0 at a (omega arith) pa
eight_there j at a b c d e f g h pa pb pc pd pe pf pg ph (suc zero) lt = place j at 1 (at + 1) b (omega arith) pb
eight_there j at a b c d e f g h pa pb pc pd pe pf pg ph (suc (suc zero)) lt = place j at 2 (at + 2) c (omega arith) pc
eight_there j at a b c d e f g h pa pb pc pd pe pf pg ph (suc (suc (suc zero))) lt = place j at 3 (at + 3) d (omega arith) pd
eight_there j at a b c d e f g h pa pb pc pd pe pf pg ph (suc (suc (suc (suc zero)))) lt = place j at 4 (at + 4) e (omega arith) pe
eight_there j at a b c d e f g h pa pb pc pd pe pf pg ph (suc (suc (suc (suc (suc zero))))) lt = place j at 5 (at + 5) f (omega arith) pf
eight_there j at a b c d e f g h pa pb pc pd pe pf pg ph (suc (suc (suc (suc (suc (suc zero)))))) lt = place j at 6 (at + 6) g (omega arith) pg
eight_there j at a b c d e f g h pa pb pc pd pe pf pg ph (suc (suc (suc (suc (suc (suc (suc zero))))))) lt = place j at 7 (at + 7) h (omega arith) ph
eight_there j at a b c d e f g h pa pb pc pd pe pf pg ph (suc (suc (suc (suc (suc (suc (suc (suc k)))))))) lt = absurd (omega (arith, lt))
