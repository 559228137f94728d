-- What the calls of an in-flight reader between a source and a consumer lead to.
use Rattle.std.proofs.Common.{◌≡◌, ℕ, ◌+◌, List, [], ◌∷◌, ◌++◌, drop, take, length, Option, None, Some, Ok, Err, refl, ap, ◌∙◌, sym, subst, arith}
use Rattle.std.proofs.Common.{append-nil, append_assoc}
use Rattle.ht_io.specs.Devices.{Device}
use Rattle.ht_io.proofs.Calls.{grows-none, grows_by_part-none, later-refl}
use Rattle.ht_fields.specs.Meanings.{Meaning}
use Rattle.ht_feed.specs.declared.book_fault.BookFault.{BookFault}
use Rattle.ht_feed.specs.declared.book_fault.BookFault.TheVariants.{NoMemory}
use Rattle.ht_feed.specs.Items.{Item, Begins, One, Headed, headed, jobs_of}
use Rattle.ht_feed.specs.Dues.{Due, all_due, headed_due}
use Rattle.ht_feed.specs.Consumers.{BooksJobs, Telling}
use Rattle.ht_feed.specs.InFlights.{InFlightView, ReadsMore, standing}
use Rattle.ht_feed.specs.Leading.{reads_none}
use Rattle.ht_feed.specs.Telling.{Seen, Tells, TellsBy, TellsPart, seen_by}

length-headed : {H : Type 0} (head : H) (items : List (Item H)) → length (headed head items) ≡ length (jobs_of items)
length-headed head [] = refl
length-headed head (Begins next ∷ items) = length-headed next items
length-headed head (One job ∷ items) = let e = length-headed head items in omega (arith, e)

-- what is kept back may wait while more jobs are due
waits_all : {H : Type 0} (Waits : List (Headed H) → Type 0) → ((due : List (Headed H)) (h : Headed H) → Waits due → Waits (due ++ h ∷ []))
    → (due came : List (Headed H)) → Waits due → Waits (due ++ came)
waits_all Waits one due [] w = subst Waits (sym (append-nil due)) w
waits_all Waits one due (h ∷ hs) w = subst Waits (append_assoc due (h ∷ []) hs) (waits_all Waits one (due ++ h ∷ []) hs (one due h w))

all_due-first : {H : Type 0} (blocks : List (Due H)) → all_due blocks ++ [] ≡ all_due (take 1 blocks) ++ all_due (drop 1 blocks)
all_due-first [] = refl
all_due-first {H = H} (b ∷ bs) =
    append-nil (all_due (b ∷ bs)) ∙ ap (λ (hs : List (Headed H)). hs ++ all_due bs) (sym (append-nil (headed_due b)))

-- readers of R mean this and are here
module _ {R H P : Type 0} (means : R → List ℕ → Meaning (Item H)) (at : R → ℕ) where
  -- the in-flight reader read on
  pub tells_given : (old new : InFlightView R H) (source after : Device ℕ) (consumer : Telling H P)
      → ((due : List (Headed H)) (h : Headed H) → consumer.Waits due → consumer.Waits (due ++ h ∷ []))
      → ReadsMore means at old new source after → Tells (seen_by means at old source consumer) (seen_by means at new after consumer)
  tells_given old new source after consumer more r =
      let f = r.finds in
      record {
        items = f.items;
        answered = [];
        put = [];
        reads = f.reads;
        head = f.head;
        jobs = ap (λ (xs : List (Headed H)). all_due old.due ++ xs) f.jobs ∙ sym r.due;
        first = λ ys. refl;
        grows = grows-none consumer.device;
        waits = λ w. subst consumer.Waits (sym r.due) (waits_all consumer.Waits more (all_due old.due) r.came w);
        steady = refl;
        frames = f.frames;
        count = r.count ∙ ap (λ (n : ℕ). old.count + n) (ap (λ (xs : List (Headed H)). length xs) (sym f.jobs) ∙ length-headed old.head f.items);
        reads_later = f.later;
        puts_later = later-refl consumer.device;
      }

  -- nothing was read, and a part was put of the pieces of the first jobs that are due
  pub tells_part : {A : Type 0} {lent lent' : List ℕ} (in_flight : InFlightView R H) (source : Device ℕ) (a b : Telling H P) (fault : BookFault)
      (taken rest : List (Headed H)) → all_due in_flight.due ++ [] ≡ taken ++ rest
      → BooksJobs {A = A} (Err fault) a.device b.device a.pieces b.pieces taken lent lent'
      → TellsPart (seen_by means at in_flight source a) (seen_by means at in_flight source b) fault
  tells_part in_flight source a b fault taken rest all books =
      record {
        items = [];
        answered = taken;
        rest = rest;
        reads = reads_none (standing means at in_flight.reader in_flight.stop source);
        jobs = all;
        part = books.part;
        reads_later = later-refl source;
        puts_later = books.faults.later;
        cause = books.faults.cause;
        steady = books.faults.unfailed;
      }

  -- nothing was read, and the pieces of the first jobs that were due were put; these are due still
  pub tells_put : {A : Type 0} {x : A} {lent lent' : List ℕ} (in_flight : InFlightView R H) (left : List (Due H)) (source : Device ℕ) (a b : Telling H P)
      (taken : List (Headed H)) → all_due in_flight.due ++ [] ≡ taken ++ all_due left
      → BooksJobs (Ok x) a.device b.device a.pieces b.pieces taken lent lent' → (a.Waits (all_due in_flight.due) → b.Waits (all_due left))
      → Tells (seen_by means at in_flight source a) (seen_by means at (record in_flight { due = left }) source b)
  tells_put in_flight left source a b taken all books waits =
      record {
        items = [];
        answered = taken;
        put = books.put.0;
        reads = reads_none (standing means at in_flight.reader in_flight.stop source);
        head = refl;
        jobs = all;
        first = books.put.2;
        grows = books.put.1;
        waits = waits;
        steady = books.faults.steady;
        frames = omega arith;
        count = omega arith;
        reads_later = later-refl source;
        puts_later = books.faults.later;
      }

  -- memory lacked before anything was read
  pub tells_lacking : (old new : InFlightView R H) (source after : Device ℕ) (consumer : Telling H P) → new ≡ old → after ≡ source
      → TellsPart (seen_by means at old source consumer) (seen_by means at new after consumer) NoMemory
  tells_lacking old new source after consumer is same =
      let here = seen_by means at old source consumer in
      let none : BooksJobs {A = Unit {0}} (Err NoMemory) consumer.device consumer.device consumer.pieces consumer.pieces [] [] [] =
      record {
        put = tt;
        part = λ more. grows_by_part-none consumer.device (consumer.pieces more);
        faults = record { steady = tt; cause = λ failed. cc; unfailed = λ lack. refl; later = later-refl consumer.device; same = refl };
      } in
      let part : TellsPart here here NoMemory =
      tells_part old source consumer consumer NoMemory [] (all_due old.due) (append-nil (all_due old.due)) none in
      subst (λ (d : InFlightView R H). TellsPart here (seen_by means at d after consumer) NoMemory) (sym is)
      (subst (λ (s : Device ℕ). TellsPart here (seen_by means at old s consumer) NoMemory) (sym same) part)

  -- the answer to the first block was taken, and pieces were put
  pub tells_taken : {A : Type 0} {x : A} {lent lent' : List ℕ} (old new : InFlightView R H) (source : Device ℕ) (a b : Telling H P)
      → new ≡ record old { due = drop 1 old.due } → BooksJobs (Ok x) a.device b.device a.pieces b.pieces (all_due (take 1 old.due)) lent lent'
      → (a.Waits (all_due old.due) → b.Waits (all_due (drop 1 old.due))) → Tells (seen_by means at old source a) (seen_by means at new source b)
  tells_taken old new source a b is books waits =
      subst (λ (d : InFlightView R H). Tells (seen_by means at old source a) (seen_by means at d source b)) (sym is)
      (tells_put old (drop 1 old.due) source a b (all_due (take 1 old.due)) (all_due-first old.due) books waits)

  -- the pieces of the first block could not be put, or not made
  pub tells_refused : {A : Type 0} {lent lent' : List ℕ} (old new : InFlightView R H) (source : Device ℕ) (a b : Telling H P) (fault : BookFault) → new ≡ old
      → BooksJobs {A = A} (Err fault) a.device b.device a.pieces b.pieces (all_due (take 1 old.due)) lent lent'
      → TellsPart (seen_by means at old source a) (seen_by means at new source b) fault
  tells_refused old new source a b fault is books =
      subst (λ (d : InFlightView R H). TellsPart (seen_by means at old source a) (seen_by means at d source b) fault) (sym is)
      (tells_part old source a b fault (all_due (take 1 old.due)) (all_due (drop 1 old.due)) (all_due-first old.due) books)

-- none failed before
pub well : {H P : Type 0} (x y : Option BookFault) (old new : Seen H P) → x ≡ None → y ≡ x → Tells old new → TellsBy x y old new
well x y old new none same told =
    subst (λ (f : Option BookFault). TellsBy f y old new) (sym none) (subst (λ (f : Option BookFault). TellsBy None f old new) (sym (same ∙ none)) told)

pub ill : {H P : Type 0} (x : Option BookFault) (old new : Seen H P) (fault : BookFault) → x ≡ None → TellsPart old new fault → TellsBy x (Some fault) old new
ill x old new fault none told = subst (λ (f : Option BookFault). TellsBy f (Some fault) old new) (sym none) told
