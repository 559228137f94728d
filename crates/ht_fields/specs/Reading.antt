-- What reading a field does to a source.
use Rattle.std.specs.Prelude.{ℕ, ◌<◌, List, length, take}
use Rattle.ht_io.specs.Devices.{Device, Takes, TakesAll}
use Rattle.ht_fields.specs.declared.read.Field.{Field}
use Rattle.ht_fields.specs.declared.read.Field.TheVariants.{Whole, Ended, Broken}

-- The field was taken whole, or its first octets were all that was left, or its first octets were taken before
-- the source failed. In the last two cases they are fewer than it has.
abbrev pub ReadsField : Device ℕ → Device ℕ → Field → List ℕ → Type 0
ReadsField before after Whole into = Takes before after into
ReadsField before after (Ended count) into = (count < length into) × TakesAll before after (take count into)
ReadsField before after Broken into = (count : ℕ) × (count < length into) × Takes before after (take count into)
