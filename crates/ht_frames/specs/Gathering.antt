-- Whole frames whose results are still to be booked, and what is booked of them and of the frames that are whole later.
use Rattle.std.specs.Prelude.{◌≡◌, ℕ, Result, OnErr, OnOk, List, [], ◌∷◌, ◌++◌, map, slice_get}
use Rattle.std.specs.List.{flat_map}
use Rattle.std.proofs.Common.{ap, refl, sym, ◌∙◌}
use Rattle.std.proofs.lemmas.Option.{none-some}
use Rattle.ht_io.specs.Devices.{Device, Grows, GrowsByPart}
use Rattle.ht_feed.specs.declared.book_fault.BookFault.{BookFault}
use Rattle.ht_feed.specs.Consumers.{BooksJobs, CountsFaults}
use Rattle.ht_feed.specs.Items.{Headed}
pub use Rattle.ht_results.specs.Plans.{finished}

-- What calls that book these pieces put, by their answer.
pub record BooksPieces {A P : Type 0} (result : Result A BookFault) (before after : Device P) (pieces : List P) (lent lent' : List ℕ) : Type 0 where
  pub put : OnOk result (Grows before after pieces)
  pub part : OnErr result (GrowsByPart before after pieces)
  pub faults : CountsFaults result before after lent lent'

-- the results of jobs that still come, behind that of a frame whose last job came
abbrev pub behind_one : {H T : Type 0} → T → (List (Headed H) → List T) → List (Headed H) → List T
behind_one result results jobs = result ∷ results jobs

-- what is booked in all of jobs that still come, where they come to these results
abbrev pub booked_in : {H T P : Type 0} → (T → List P) → (List (Headed H) → List T) → List (Headed H) → List P
booked_in booked results jobs = flat_map booked (results jobs)

-- where no results come, nothing is booked
pub none_booked : {H T P : Type 0} (booked : T → List P) (results : List (Headed H) → List T) → results [] ≡ [] → booked_in booked results [] ≡ []
none_booked booked results none = ap (flat_map booked) none

-- where no job is due, the result of no whole frame is still to be booked
abbrev pub WaitForJobs : {W X : Type 0} → List W → List X → Type 0
WaitForJobs whole due = due ≡ [] → whole ≡ []

-- a whole frame W comes to a result T, of which pieces P are booked
module _ {W T P : Type 0} (result : W → T) (booked : T → List P) where
  -- what is booked of the results of whole frames
  abbrev pub booked_whole : List W → List P
  booked_whole whole = flat_map booked (map result whole)

  -- the results of the first frames were booked, and these are left
  abbrev pub BooksFirst : Device P → Device P → List W → List W → Type 0
  BooksFirst before after old new = (done : List W) × (old ≡ done ++ new) × Grows before after (booked_whole done)

  -- what is booked in all, where these frames are whole and the jobs that still come give results of their own
  abbrev pub booked_behind : {H : Type 0} → List W → (List (Headed H) → List T) → List (Headed H) → List P
  booked_behind whole results jobs = flat_map booked (map result whole ++ results jobs)

  -- BooksJobs in a book of K, which shows this device and to which these borrows lead, where results of whole frames are still to be
  -- booked: the book, these frames, and the results of the jobs that still come, before and after.
  module _ {K : Type 0} (shown : K → Device P) (lent : K → List ℕ) where
    abbrev pub GathersJobs : {A H : Type 0} → Result A BookFault → K → K → List W → List W → (List (Headed H) → List T) → (List (Headed H) → List T)
        → List (Headed H) → Type 0
    GathersJobs answer book book' whole whole' old new jobs =
        BooksJobs answer (shown book) (shown book') (booked_behind whole old) (booked_behind whole' new) jobs (lent book) (lent book')

-- where a job is due, some are
pub some_due : {X : Type 0} (x : X) (xs : List X) → x ∷ xs ≡ [] → ⊥
some_due {X = X} x xs is = none-some x (sym (ap (λ (ys : List X). slice_get ys 0) is))

some_behind : {X : Type 0} (due : List X) (h : X) → due ++ h ∷ [] ≡ [] → ⊥
some_behind [] h is = some_due h [] is
some_behind (x ∷ xs) h is = some_due x (xs ++ h ∷ []) is

-- results may be still to come while more jobs are due
pub wait_on : {W X : Type 0} (whole : List W) (due : List X) (h : X) → WaitForJobs whole due → WaitForJobs whole (due ++ h ∷ [])
wait_on whole due h w = λ is. absurd (some_behind due h is)

-- where no job is due and none comes, nothing is still to be booked
pub none_behind : {H W T P X : Type 0} (result : W → T) (booked : T → List P) (whole : List W) (results : List (Headed H) → List T)
    → results [] ≡ [] → WaitForJobs {X = X} whole [] → booked_behind result booked whole results [] ≡ []
none_behind {W = W} {T = T} result booked whole results none w =
    ap (λ (fs : List W). booked_behind result booked fs results []) (w refl) ∙ ap (flat_map booked) none
