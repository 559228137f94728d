-- What a receiver of frames books.
use Rattle.std.specs.Prelude.{ℕ, List, Result}
use Rattle.ht_io.specs.Devices.{Device}
use Rattle.ht_fields.specs.Meanings.{Meaning}
use Rattle.ht_runs.specs.declared.faults.RunFault.{RunFault}
use Rattle.ht_feed.specs.declared.ended.Ended.{Ended}
use Rattle.ht_feed.specs.Consumers.{Telling}
use Rattle.ht_feed.specs.Inputs.{TellsInput}
use Rattle.ht_feed.specs.Items.{Headed, Item}
use Rattle.ht_frames.specs.Gathering.{booked_in}

-- a consumer that books this of a result, where the jobs that still come give these results; it keeps nothing back
abbrev pub books : {H T P : Type 0} → (T → List P) → (List (Headed H) → List T) → Device P → Telling H P
books booked results device = record { device = device; pieces = booked_in booked results; Waits = λ due. Unit {0} }

-- a whole input is told to a book: what is booked of a result, the results that the jobs give, and the book and its borrows,
-- before and after
abbrev pub BooksInput : {R H T P : Type 0} → (R → List ℕ → Meaning (Item H)) → (R → ℕ) → R → H → Device ℕ → Device ℕ
    → (T → List P) → (List (Headed H) → List T) → Device P → Device P → List ℕ → List ℕ → Result Ended RunFault → Type 0
BooksInput means at reader head source source' booked results book book' lent lent' result =
    TellsInput means at reader head source source' (books booked results book) (books booked results book') lent lent' result
