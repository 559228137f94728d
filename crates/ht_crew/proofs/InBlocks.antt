-- What is due in blocks of one job.
use Rattle.std.proofs.Common.{◌≡◌, ℕ, ◌+◌, ◌-◌, ◌<◌, ◌≤◌, List, [], ◌∷◌, Option, Some, IsSome, Bool, true, false, length, map, take, drop, slice_get, refl}
use Rattle.std.proofs.Common.{ap, sym, subst, ◌∙◌, arith}
use Rattle.std.proofs.lemmas.List.{nil_from_length, length-map}
use Rattle.std.proofs.lemmas.Option.{same_Some, slice_get_within}
use Rattle.std.proofs.lemmas.Bool.{false≢true}
use Rattle.ht_metric.specs.Jobs.{JobView}
use Rattle.ht_crew.specs.Feeds.{FeedView, IsInTurn}
use Rattle.ht_feed.specs.Dues.{all_in, count_in}
use Rattle.ht_feed.specs.Feeds.{IsInTurn as AreInTurn}
use Rattle.ht_feed.specs.Items.{Numbered}
use Rattle.ht_feed.specs.Drives.{LeavesInTurn as BlocksLeave, IsThrough as BlocksThrough}
use Rattle.ht_crew.specs.Drives.{LeavesInTurn, IsThrough}
use Rattle.ht_crew.specs.Singles.{LeadsOn, Notes, block_of, block_view, in_blocks}
use Rattle.ht_crew.specs.declared.singles.Singles.{Singles}

all_in_blocks : (jobs : List JobView) → all_in (map block_of jobs) ≡ jobs
all_in_blocks [] = refl
all_in_blocks (job ∷ jobs) = ap (λ (js : List JobView). job ∷ js) (all_in_blocks jobs)

count_blocks : (jobs : List JobView) → count_in (map block_of jobs) ≡ length jobs
count_blocks [] = refl
count_blocks (job ∷ jobs) = let e = count_blocks jobs in omega (arith, e)

-- as few jobs are due as blocks have
pub few_jobs : (jobs : List JobView) (most room : ℕ) → count_in (map block_of jobs) + most ≤ room → 1 ≤ most → length jobs < room
few_jobs jobs most room few some = let e = count_blocks jobs in omega (arith, e, few, some)

pub few_due : (jobs : List JobView) (room : ℕ) → count_in (map block_of jobs) ≤ room → length jobs ≤ room
few_due jobs room few = let e = count_blocks jobs in omega (arith, e, few)

-- the job of the first block is the first one
pub first_job : (jobs : List JobView) (job : JobView) → slice_get (map block_of jobs) 0 ≡ Some (block_of job) → slice_get jobs 0 ≡ Some job
first_job [] job first = absurd (omega (arith, slice_get_within {A = List JobView} [] 0 (block_of job) first))
first_job (other ∷ jobs) job first = ap (λ (block : List JobView). slice_get block 0) (same_Some (block_of other) (block_of job) first)

pub none_due : (jobs : List JobView) → map block_of jobs ≡ [] → jobs ≡ []
none_due jobs none = nil_from_length jobs (sym (length-map jobs block_of) ∙ ap length none)

module _ {Fault : Type 0} where
  -- jobs are in turn whose blocks are
  pub in_turn : (known : Option (List JobView)) (noted : Bool) (feed : FeedView Fault) → AreInTurn known (block_view noted feed) → IsInTurn known feed
  in_turn known noted feed are =
      let all_is = all_in_blocks feed.due in
      let count_is = count_blocks feed.due in
      let from : feed.count - count_in (map block_of feed.due) ≡ feed.count - length feed.due = ap (λ (n : ℕ). feed.count - n) count_is in
      let w = are.within in
      record {
        within = omega (arith, w, count_is);
        numbers = subst (λ (n : ℕ). Numbered n feed.due) from
            (subst (λ (jobs : List JobView). Numbered (feed.count - count_in (map block_of feed.due)) jobs) all_is are.numbers);
        jobs = λ all is. sym all_is ∙ (are.jobs all is ∙ ap (λ (n : ℕ). drop n (take feed.count all)) from);
      }

-- a feed is left in turn whose blocks are
pub leaves : {F Fault : Type 0} (shown : F → FeedView Fault) (leads : F → F → Type 0) (window : ℕ) (a b : Singles F)
    → BlocksLeave (in_blocks shown) (LeadsOn leads shown) window a b → LeavesInTurn shown leads window a.feed.now b.feed.now
leaves shown leads window a b left = record {
  leads = left.leads.on;
  due = few_due (shown b.feed.now).due window left.due;
  in_turn = in_turn (shown a.feed.now).left b.failed.now (shown b.feed.now) left.in_turn;
  later = left.leads.later;
}

module _ {Fault : Type 0} where
  through : (noted : Bool) (old new : FeedView Fault) → Notes false noted old new → BlocksThrough (block_view noted new) → IsThrough old new
  through false old new same is = record { ended = is.ended; none_due = none_due new.due is.none_due; left = is.left; unfailed = same }
  through true old new risen is = absurd (false≢true (subst (λ (failed : Option Fault). IsSome failed) is.well risen.1))

-- a drive has gone through a feed whose blocks it has gone through
pub went_through : {F Fault : Type 0} (shown : F → FeedView Fault) (leads : F → F → Type 0) (window : ℕ) (a b : Singles F) (feed : F)
    → a.feed.now ≡ feed → a.failed.now ≡ false → BlocksLeave (in_blocks shown) (LeadsOn leads shown) window a b → BlocksThrough (in_blocks shown b)
    → IsThrough (shown feed) (shown b.feed.now)
went_through {F} shown leads window a b feed same unfailed left is =
    let noted : Notes false b.failed.now (shown a.feed.now) (shown b.feed.now) =
    subst (λ (n : Bool). Notes n b.failed.now (shown a.feed.now) (shown b.feed.now)) unfailed left.leads.notes in
    let from : Notes false b.failed.now (shown feed) (shown b.feed.now) = subst (λ (f : F). Notes false b.failed.now (shown f) (shown b.feed.now)) same noted in
    through b.failed.now (shown feed) (shown b.feed.now) from is
