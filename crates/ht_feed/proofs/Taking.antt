-- The first block due is taken.
use Rattle.std.proofs.Common.{◌≡◌, ℕ, List, [], ◌∷◌, drop, take, slice_get, None, Some, Result, ap, ◌∙◌, sym, subst, append-nil}
use Rattle.std.proofs.lemmas.Option.{none-some, same_Some}
use Rattle.ht_io.specs.Devices.{Device}
use Rattle.ht_metric.specs.Jobs.{JobView}
use Rattle.ht_feed.specs.declared.book_fault.BookFault.{BookFault}
use Rattle.ht_feed.specs.Items.{Headed}
use Rattle.ht_feed.specs.Consumers.{BooksJobs}
use Rattle.ht_feed.specs.InFlights.{InFlightView}
use Rattle.ht_feed.specs.Dues.{Due, all_due, due_of, headed_due, jobs_in}

module _ {H : Type 0} where
  pub none_due : (due : List (Due H)) (jobs : List JobView) → slice_get due 0 ≡ None → slice_get (jobs_in due) 0 ≡ Some jobs → ⊥
  none_due [] jobs none some = none-some jobs some
  none_due (d ∷ ds) jobs none some = none-some d (sym none)

  -- the first of the blocks is due with this head and these jobs
  pub first_due : (due : List (Due H)) (d : Due H) (head : H) (jobs : List JobView) → slice_get due 0 ≡ Some d → head ≡ d.head
      → slice_get (jobs_in due) 0 ≡ Some jobs → due ≡ due_of head jobs ∷ drop 1 due
  first_due [] d head jobs first is asked = absurd (none-some d first)
  first_due (b ∷ bs) d head jobs first is asked =
      let heads : b.head ≡ head = ap (λ (y : Due H). y.head) (same_Some b d first) ∙ sym is in
      let same : b.jobs ≡ jobs = same_Some b.jobs jobs asked in
      ap (λ (h : H). due_of h b.jobs ∷ bs) heads ∙ ap (λ (js : List JobView). due_of head js ∷ bs) same

  -- so it is in an in-flight reader that is seen so
  pub first_of : {R : Type 0} (inside seen : InFlightView R H) (d : Due H) (head : H) (jobs : List JobView) → inside ≡ seen → Some d ≡ slice_get inside.due 0
      → head ≡ d.head → slice_get (jobs_in seen.due) 0 ≡ Some jobs → seen.due ≡ due_of head jobs ∷ drop 1 seen.due
  first_of {R} inside seen d head jobs same first is asked =
      first_due seen.due d head jobs (ap (λ (in_flight : InFlightView R H). slice_get in_flight.due 0) (sym same) ∙ sym first) is asked

  pub first_get : (due : List (Due H)) (d : Due H) → due ≡ d ∷ drop 1 due → slice_get due 0 ≡ Some d
  first_get due d is = ap (λ (bs : List (Due H)). slice_get bs 0) is

  first_all : (due : List (Due H)) (d : Due H) → due ≡ d ∷ drop 1 due → all_due (take 1 due) ≡ headed_due d
  first_all due d is = ap (λ (bs : List (Due H)). all_due (take 1 bs)) is ∙ append-nil (headed_due d)

  -- the hits of a block were taken, which is the first one due
  module _ {A P : Type 0} {result : Result A BookFault} {a b : Device P} {old new : List (Headed H) → List P} {lent lent' : List ℕ} where
    pub books_of : (due : List (Due H)) (d : Due H) → due ≡ d ∷ drop 1 due → BooksJobs result a b old new (headed_due d) lent lent'
        → BooksJobs result a b old new (all_due (take 1 due)) lent lent'
    books_of due d is books = subst (λ (hs : List (Headed H)). BooksJobs result a b old new hs lent lent') (sym (first_all due d is)) books
