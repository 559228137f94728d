-- Which octets are a capture.
use Rattle.std.specs.Prelude.{ℕ, List}
use Rattle.ht_fields.specs.Meanings.{Meaning, meaning}
use Rattle.ht_capture.specs.declared.items.Item.{Item}
use Rattle.ht_capture.specs.Fields.{captures}

-- the items of a list of octets, and its first fault
abbrev pub capture_of : List ℕ → Meaning Item
capture_of octets = meaning captures captures.start 0 octets
