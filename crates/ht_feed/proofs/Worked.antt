-- The definitions on small values.
use Rattle.std.proofs.Common.{◌≡◌, ℕ, List, [], ◌∷◌, refl}
use Rattle.ht_metric.specs.Jobs.{JobView}
use Rattle.ht_feed.specs.Items.{Item, Begins, One, Numbered, frames_of, headed, headed_of, jobs_of, last_head}
use Rattle.ht_feed.specs.Dues.{all_due, count_in, due_of}

abbrev job : ℕ → JobView
job n = record { number = n; place = record { frame = 0; symbol = 0; carrier = n }; grid = []; system = [] }

-- two frames, of two jobs and of one
abbrev items : List (Item ℕ)
items = Begins 7 ∷ One (job 0) ∷ One (job 1) ∷ Begins 8 ∷ One (job 2) ∷ []

heads_and_jobs : headed 0 items ≡ headed_of 7 (job 0) ∷ headed_of 7 (job 1) ∷ headed_of 8 (job 2) ∷ []
heads_and_jobs = refl

last : last_head 0 items ≡ 8
last = refl

frames : frames_of items ≡ 2
frames = refl

numbers : Numbered 0 (jobs_of items)
numbers = (refl, (refl, (refl, tt)))

-- in two blocks the same jobs are due, and they count as three
blocks : all_due (due_of 7 (job 0 ∷ job 1 ∷ []) ∷ due_of 8 (job 2 ∷ []) ∷ []) ≡ headed 0 items
blocks = refl

count : count_in ((job 0 ∷ job 1 ∷ []) ∷ (job 2 ∷ []) ∷ []) ≡ 3
count = refl
