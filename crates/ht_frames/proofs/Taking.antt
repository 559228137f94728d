-- What was found for the jobs of a block is taken, one job after another.
use Rattle.std.proofs.Common.{◌≡◌, ℕ, zero, suc, ◌+◌, List, [], ◌∷◌, ◌++◌, map, take, drop, slice_get, Some, Result, Ok, Err, OnErr}
use Rattle.std.proofs.Common.{refl, sym, ap, ◌∙◌, subst, append_assoc, arith, ◌<◌, ◌≤◌, length, IfSome}
use Rattle.std.proofs.lemmas.List.{map-append, take-append-drop, take_all, take_more}
use Rattle.std.proofs.lemmas.Option.{get_or_from_slice_get, none-some, same_Some, slice_get_within}
use Rattle.ht_io.specs.Devices.{Device, GrowsByPart}
use Rattle.ht_io.proofs.Calls.{failed-later, grows-append, grows-none, later-later, later-refl}
use Rattle.ht_metric.specs.declared.found.Found.{Found}
use Rattle.ht_metric.specs.declared.place.Place.{Place}
use Rattle.ht_metric.specs.Jobs.{JobView, near}
use Rattle.ht_feed.specs.declared.book_fault.BookFault.{BookFault}
use Rattle.ht_feed.specs.Consumers.{BooksJobs, PutsBlock, PutsPartOf}
use Rattle.ht_feed.specs.Dues.{IsPlaceAt}
use Rattle.ht_feed.specs.Items.{Headed, headed_of}
use Rattle.ht_feed.specs.Leading.{part-on, puts-on}

pub err_so : {A E : Type 0} (result : Result A E) (X : Type 0) → X → OnErr result X
err_so (Ok x) X holds = tt
err_so (Err e) X holds = holds

-- the job that stands there, its place, and what was found for it
pub job_there : (jobs : List JobView) (at : ℕ) (place : Place) (found : Found) → IsPlaceAt place jobs at → slice_get (map near jobs) at ≡ Some found
    → (job : JobView) × (slice_get jobs at ≡ Some job) × (job.place ≡ place) × (found ≡ near job)
job_there [] at place found here is = absurd (none-some found is)
job_there (job ∷ jobs) zero place found here is = (job, refl, here, sym (same_Some (near job) found is))
job_there (job ∷ jobs) (suc at) place found here is = job_there jobs at place found here is

-- the job that has this many others before it, its place, and what was found for it
pub job_within : (jobs : List JobView) (at : ℕ) (place : Place) (found : Found) → at < length jobs → IsPlaceAt place jobs at
    → IfSome (slice_get jobs at) (λ job. found ≡ near job)
    → (job : JobView) × (slice_get jobs at ≡ Some job) × (job.place ≡ place) × (found ≡ near job)
job_within [] at place found within here is = absurd (omega (arith, within))
job_within (job ∷ jobs) zero place found within here is = (job, refl, here, is)
job_within (job ∷ jobs) (suc at) place found within here is = job_within jobs at place found (omega (arith, within)) here is

-- what stands there among the hits was found for the job there
pub found_there : (jobs : List JobView) (at : ℕ) (found : Found) → slice_get (map near jobs) at ≡ Some found
    → IfSome (slice_get jobs at) (λ job. found ≡ near job)
found_there [] at found is = tt
found_there (job ∷ jobs) zero found is = sym (same_Some (near job) found is)
found_there (job ∷ jobs) (suc at) found is = found_there jobs at found is

module _ {H : Type 0} (head : H) where
  abbrev pub heads : List JobView → List (Headed H)
  heads jobs = map (headed_of head) jobs

  heads-more : (jobs : List JobView) (at : ℕ) (job : JobView) → slice_get jobs at ≡ Some job
      → heads (take at jobs) ++ headed_of head job ∷ [] ≡ heads (take (at + 1) jobs)
  heads-more jobs at job is =
      sym (map-append (headed_of head) (take at jobs) (job ∷ []))
      ∙ ap (map (headed_of head)) (ap (λ (j : JobView). take at jobs ++ j ∷ []) (sym (get_or_from_slice_get jobs at job job is))
      ∙ sym (take_more jobs at job (slice_get_within jobs at job is)))

  module _ {P : Type 0} (a b c : Device P) (start before : List (Headed H) → List P) (jobs : List JobView) (at : ℕ) (job : JobView)
      (there : slice_get jobs at ≡ Some job) (puts : PutsBlock a b start before (heads (take at jobs))) where
    -- what was found for one job more was taken
    one_more : (after : List (Headed H) → List P) → PutsBlock b c before after (headed_of head job ∷ [])
        → PutsBlock a c start after (heads (take (at + 1) jobs))
    one_more after next =
        subst (λ (hs : List (Headed H)). PutsBlock a c start after hs) (heads-more jobs at job there) (
          puts.0 ++ next.0,
          grows-append a b c puts.0 next.0 puts.1 next.1,
          puts-on start before after (heads (take at jobs)) (headed_of head job ∷ []) puts.0 next.0 puts.2 next.2,
        )

    -- it wasn't, and of all that the block gives a part was put
    one_part : PutsPartOf b c before (headed_of head job ∷ []) → PutsPartOf a c start (heads jobs)
    one_part part = λ more.
        let rest = heads (drop (at + 1) jobs) ++ more in
        let all : (heads (take at jobs) ++ headed_of head job ∷ []) ++ rest ≡ heads jobs ++ more =
        ap (λ (hs : List (Headed H)). hs ++ rest) (heads-more jobs at job there)
        ∙ (sym (append_assoc (heads (take (at + 1) jobs)) (heads (drop (at + 1) jobs)) more)
        ∙ ap (λ (hs : List (Headed H)). hs ++ more) (sym (map-append (headed_of head) (take (at + 1) jobs) (drop (at + 1) jobs))
        ∙ ap (map (headed_of head)) (take-append-drop (at + 1) jobs))) in
        subst (λ (hs : List (Headed H)). GrowsByPart a c (start hs)) all
        (part-on a b c start before (heads (take at jobs)) (headed_of head job ∷ []) puts.0 puts.1 puts.2 part rest)

module _ {H P : Type 0} where
  -- nothing was taken yet
  pub books_none : (a : Device P) (start : List (Headed H) → List P) (lent : List ℕ) → BooksJobs {A = Unit {0}} (Ok tt) a a start start [] lent lent
  books_none a start lent = record {
    put = ([], grows-none a, λ more. refl);
    part = tt;
    faults = record { steady = refl; cause = tt; unfailed = tt; later = later-refl a; same = refl };
  }

  -- all jobs of a block were taken
  pub books_all : (head : H) (jobs : List JobView) (at : ℕ) {a b : Device P} {start now : List (Headed H) → List P} {lent lent' : List ℕ} → length jobs ≤ at
      → BooksJobs {A = Unit {0}} (Ok tt) a b start now (heads head (take at jobs)) lent lent'
      → BooksJobs {A = Unit {0}} (Ok tt) a b start now (heads head jobs) lent lent'
  books_all head jobs at {a} {b} {start} {now} {lent} {lent'} all books =
      subst (λ (js : List JobView). BooksJobs {A = Unit {0}} (Ok tt) a b start now (heads head js) lent lent') (take_all at jobs all) books

-- the first jobs of a block were taken, and then the next one
module _ {H P : Type 0} (head : H) (jobs : List JobView) (at : ℕ) (job : JobView) (there : slice_get jobs at ≡ Some job) {a b c : Device P}
    {start before after : List (Headed H) → List P} {lent lent' lent'' : List ℕ}
    (books : BooksJobs {A = Unit {0}} (Ok tt) a b start before (heads head (take at jobs)) lent lent') where
  pub books_more : BooksJobs {A = Unit {0}} (Ok tt) b c before after (headed_of head job ∷ []) lent' lent''
      → BooksJobs {A = Unit {0}} (Ok tt) a c start after (heads head (take (at + 1) jobs)) lent lent''
  books_more next = record {
    put = one_more head a b c start before jobs at job there books.put after next.put;
    part = tt;
    faults = record {
      steady = next.faults.steady ∙ books.faults.steady;
      cause = tt;
      unfailed = tt;
      later = later-later a b c books.faults.later next.faults.later;
      same = next.faults.same ∙ books.faults.same;
    };
  }

  -- it wasn't
  pub books_part : {given fault : BookFault} {result : Result (Unit {0}) BookFault} {end : List (Headed H) → List P} → result ≡ Err given → given ≡ fault
      → BooksJobs {A = Unit {0}} (Err fault) b c before after (headed_of head job ∷ []) lent' lent''
      → BooksJobs result a c start end (heads head jobs) lent lent''
  books_part {given} {fault} {result} {end} is same next =
      let All : Result (Unit {0}) BookFault → Type 0 = λ answer. BooksJobs answer a c start end (heads head jobs) lent lent'' in
      subst All (sym is) (subst (λ (f : BookFault). All (Err f)) (sym same) (record {
        put = tt;
        part = one_part head a b c start before jobs at job there books.put next.part;
        faults = record {
          steady = tt;
          cause = λ failed. failed-later a b c books.faults.later (next.faults.cause failed);
          unfailed = λ lack. next.faults.unfailed lack ∙ books.faults.steady;
          later = later-later a b c books.faults.later next.faults.later;
          same = next.faults.same ∙ books.faults.same;
        };
      }))
