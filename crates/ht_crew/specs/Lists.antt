-- What is seen of a feed over a list of jobs.
use Rattle.std.specs.Prelude.{◌≡◌, ℕ, ◌+◌, ◌-◌, ◌≤◌, List, [], ◌∷◌, ◌++◌, length, map, take}
use Rattle.std.specs.Prelude.{◌↔◌, drop, slice_get, Option, Some, None, Bool, true, false, Contains, IfErr, IsErr, OnErr, Result}
use Rattle.ht_io.specs.Causes.{one_more}
use Rattle.ht_metric.specs.Jobs.{JobView, near}
use Rattle.ht_metric.specs.Hits.{found_of}
use Rattle.ht_metric.specs.declared.found.Found.{Found}
use Rattle.ht_metric.specs.declared.hit.Hit.{Hit}
use Rattle.ht_crew.specs.Feeds.{FeedView}
use Rattle.ht_crew.specs.declared.list_fault.ListFault.{ListFault}

-- a job and what was found for it
pub record JobAnswer : Type 0 where
  pub job : JobView
  pub found : Found

-- what a hit says
abbrev pub answer_of : Hit → JobAnswer
answer_of hit = record { job = hit.job; found = found_of hit }

-- a job and its first nearest vector
abbrev pub nearest_answer : JobView → JobAnswer
nearest_answer job = record { job = job; found = near job }

-- job k has number k
abbrev pub AreNumbered : List JobView → Type 0
AreNumbered jobs = (k : ℕ) (job : JobView) → slice_get jobs k ≡ Some job → job.number ≡ k

-- the jobs, how many of them were given, the hits taken, the numbers of the calls that are to fail, how many calls came,
-- whether it has ended, how many calls failed, and what the last of them answered
pub record Listed : Type 0 where
  pub jobs : List JobView
  pub given : ℕ
  pub hits : List Hit
  pub failing : List ℕ
  pub calls : ℕ
  pub ended : Bool
  pub faults : ℕ
  pub failed : Option ListFault

abbrev pub listed : List JobView → ℕ → List Hit → List ℕ → ℕ → Bool → ℕ → Option ListFault → Listed
listed jobs given hits failing calls ended faults failed = record {
  jobs = jobs;
  given = given;
  hits = hits;
  failing = failing;
  calls = calls;
  ended = ended;
  faults = faults;
  failed = failed;
}

-- a feed that no call has reached
abbrev pub fresh : List JobView → List ℕ → Listed
fresh jobs failing = listed jobs 0 [] failing 0 false 0 None

-- the feed after one more call that was not refused
abbrev pub called : Listed → Listed
called feed = record feed { calls = one_more feed.calls }

-- the feed after one more call that was refused
abbrev pub refused : Listed → Listed
refused feed = record feed { calls = one_more feed.calls; faults = one_more feed.faults; failed = Some (record { call = feed.calls }) }

-- exactly a call whose number is to fail is refused, with that number, and it changes neither list
pub record FailsAsNamed {A : Type 0} (result : Result A ListFault) (old new : Listed) : Type 0 where
  pub exact : IsErr result ↔ Contains old.failing old.calls
  pub number : IfErr result (λ fault. fault.call ≡ old.calls)
  pub unchanged : OnErr result (new ≡ refused old)

-- no more jobs were given than there are, and no more hits taken than jobs given
pub record IsListed (feed : Listed) : Type 0 where
  pub numbered : AreNumbered feed.jobs
  pub given : feed.given ≤ length feed.jobs
  pub hits : length feed.hits ≤ feed.given

abbrev pub shown : Listed → FeedView ListFault
shown feed = record {
  count = feed.given;
  due = drop (length feed.hits) (take feed.given feed.jobs);
  left = Some (drop feed.given feed.jobs);
  more = length feed.jobs - feed.given;
  ended = feed.ended;
  faults = feed.faults;
  failed = feed.failed;
}

-- the jobs are the same, and the hits taken grew by the first nearest vectors of the jobs next in turn
pub record TakesInTurn (old new : Listed) : Type 0 where
  pub jobs : new.jobs ≡ old.jobs
  pub hits : map answer_of new.hits ≡ map answer_of old.hits ++ map nearest_answer (drop (length old.hits) (take (length new.hits) old.jobs))

-- the feed after a call that gave a job
abbrev pub gave : Listed → Listed
gave feed = record feed { calls = one_more feed.calls; given = feed.given + 1 }

-- the feed after a call that found no job left
abbrev pub ended : Listed → Listed
ended feed = record feed { calls = one_more feed.calls; ended = true }

-- the feed after a call that took a hit
abbrev pub took : Listed → Hit → Listed
took feed hit = record feed { calls = one_more feed.calls; hits = feed.hits ++ hit ∷ [] }
