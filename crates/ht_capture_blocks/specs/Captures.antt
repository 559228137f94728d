-- Captures as heads and jobs.
use Rattle.std.specs.Prelude.{ℕ, List, [], ◌∷◌, not, is_some}
use Rattle.ht_fields.specs.Meanings.{Meaning}
use Rattle.ht_capture.specs.declared.items.FrameHead.{FrameHead}
use Rattle.ht_capture.specs.declared.items.Item.{Item as CaptureItem}
use Rattle.ht_capture.specs.declared.items.Item.TheVariants.{Frame, Job, Done}
use Rattle.ht_capture.specs.Readers.{Progress, counts, finished, more, stage_means}
use Rattle.ht_feed.specs.Items.{Item, Begins, One}
use Rattle.ht_feed.specs.Reading.{Counts}

-- the items of a capture; its end is none of them
abbrev pub items_of : List CaptureItem → List (Item FrameHead)
items_of [] = []
items_of (Frame head ∷ items) = Begins head ∷ items_of items
items_of (Job job ∷ items) = One job ∷ items_of items
items_of (Done ∷ items) = items_of items

abbrev pub mapped : Meaning CaptureItem → Meaning (Item FrameHead)
mapped m = record { items = items_of m.items; fault = m.fault }

-- what a reader of captures means, in its place
abbrev pub capture_means : Progress → List ℕ → Meaning (Item FrameHead)
capture_means reader octets = mapped (stage_means reader.stage reader.at reader.present reader.samples octets)

abbrev pub capture_at : Progress → ℕ
capture_at reader = reader.at

abbrev pub capture_counts : Progress → Counts
capture_counts reader = record { given = (counts reader).jobs; more = more reader; going = not (is_some (finished reader)) }
