-- What is seen of a feed that goes over the same jobs again and again.
use Rattle.std.specs.Prelude.{◌≡◌, ℕ, zero, suc, ◌+◌, ◌-◌, ◌%◌, ◌^◌, ◌<◌, ◌≤◌, List, [], ◌∷◌, length, get_or, None, Bool, false}
use Rattle.ht_metric.specs.Jobs.{JobView}
use Rattle.ht_crew.specs.Feeds.{FeedView}

-- the jobs of a round, how many were given over all rounds, how many of their hits were taken, how many jobs there are in all,
-- and whether it has ended
pub record RoundsView : Type 0 where
  pub jobs : List JobView
  pub given : ℕ
  pub taken : ℕ
  pub all : ℕ
  pub ended : Bool

abbrev pub rounds : List JobView → ℕ → ℕ → ℕ → Bool → RoundsView
rounds jobs given taken all ended = record { jobs = jobs; given = given; taken = taken; all = all; ended = ended }

-- a feed of this number of jobs in all that has given none
abbrev pub fresh : List JobView → ℕ → RoundsView
fresh jobs all = rounds jobs 0 0 all false

-- there are 256 jobs in a round
pub record IsRounds (feed : RoundsView) : Type 0 where
  pub round : length feed.jobs ≡ 256
  pub taken : feed.taken ≤ feed.given
  pub given : feed.given ≤ feed.all
  pub all : feed.all < 2 ^ 64 - 1

abbrev pub no_job : JobView
no_job = record { number = 0; place = record { frame = 0; symbol = 0; carrier = 0 }; grid = []; system = [] }

-- the job of this number
abbrev pub job_at : List JobView → ℕ → JobView
job_at jobs number = record (get_or jobs (number % 256) no_job) { number = number }

-- a number of jobs, numbered from this number on
abbrev pub jobs_from : List JobView → ℕ → ℕ → List JobView
jobs_from jobs number zero = []
jobs_from jobs number (suc count) = job_at jobs number ∷ jobs_from jobs (number + 1) count

abbrev pub shown : {Fault : Type 0} → RoundsView → FeedView Fault
shown feed = record {
  count = feed.given;
  due = jobs_from feed.jobs feed.taken (feed.given - feed.taken);
  left = None;
  more = feed.all - feed.given;
  ended = feed.ended;
  faults = 0;
  failed = None;
}
