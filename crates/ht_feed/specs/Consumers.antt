-- What a consumer of hits puts.
use Rattle.std.specs.Prelude.{◌≡◌, ℕ, List, ◌++◌, Result, IfErr, OnErr, OnOk}
use Rattle.ht_io.specs.Devices.{Device, Grows, GrowsByPart, IsLater, Rose}
use Rattle.ht_feed.specs.declared.book_fault.BookFault.{BookFault}
use Rattle.ht_feed.specs.declared.book_fault.BookFault.TheVariants.{Failed, NoMemory}
use Rattle.ht_feed.specs.Items.{Headed}

-- What calls that put pieces and gave this answer did to their device, apart from the pieces. `lent`: which borrows lead to it.
pub record CountsFaults {A P : Type 0} (result : Result A BookFault) (before after : Device P) (lent lent' : List ℕ) : Type 0 where
  -- it has counted a fault exactly where the answer is Failed
  pub steady : OnOk result (after.faults ≡ before.faults)
  pub cause : IfErr result (λ fault. fault ≡ Failed → Rose before after)
  pub unfailed : IfErr result (λ fault. fault ≡ NoMemory → after.faults ≡ before.faults)
  -- it is the same device, and the same borrows lead to it
  pub later : IsLater before after
  pub same : lent' ≡ lent

-- a consumer of jobs with heads of H, which puts pieces of P
module _ {H P : Type 0} where
  -- the hits of these jobs were taken and these pieces put: whatever comes behind them, they are the first of all
  -- pieces
  abbrev pub PutsFirst : (List (Headed H) → List P) → (List (Headed H) → List P) → List (Headed H) → List P → Type 0
  PutsFirst old new taken put = (more : List (Headed H)) → old (taken ++ more) ≡ put ++ new more

  -- a part was put of the pieces of these jobs, whatever comes behind them
  abbrev pub PutsPartOf : Device P → Device P → (List (Headed H) → List P) → List (Headed H) → Type 0
  PutsPartOf before after old taken = (more : List (Headed H)) → GrowsByPart before after (old (taken ++ more))

  -- the hits of the jobs of a block were taken, and the first pieces were put
  abbrev pub PutsBlock : Device P → Device P → (List (Headed H) → List P) → (List (Headed H) → List P) → List (Headed H) → Type 0
  PutsBlock before after old new jobs = (put : List P) × Grows before after put × PutsFirst old new jobs put

-- What calls put that took the hits of these jobs, or of none, by their answer. `old` and `new` say what is put in all of hits
-- that still come, before and after.
pub record BooksJobs {A H P : Type 0} (result : Result A BookFault) (before after : Device P) (old new : List (Headed H) → List P) (jobs : List (Headed H))
    (lent lent' : List ℕ) : Type 0 where
  -- what was put, and what is left to put
  pub put : OnOk result (PutsBlock before after old new jobs)
  pub part : OnErr result (PutsPartOf before after old jobs)
  pub faults : CountsFaults result before after lent lent'

-- a consumer in a state: its device, what it puts in all if these hits still come, and which jobs may be due
pub record Telling (H P : Type 0) : Type 1 where
  pub device : Device P
  pub pieces : List (Headed H) → List P
  pub Waits : List (Headed H) → Type 0

abbrev pub telling_of : {A H P : Type 0} → (A → Device P) → (A → List (Headed H) → List P) → (A → List (Headed H) → Type 0) → A → Telling H P
telling_of shown pieces waits consumer = record { device = shown consumer; pieces = pieces consumer; Waits = waits consumer }
