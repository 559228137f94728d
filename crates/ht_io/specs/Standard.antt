-- What is seen of a source over a reader of std and of a sink over a writer.
use Rattle.std.specs.Prelude.{ℕ, ◌≤◌, List, Option, length, take}
use Rattle.std.specs.declared.io.Error.{Error}
use Rattle.std.specs.Io.KnownBytes.{Appends}
use Rattle.ht_io.specs.declared.std_device.StdDevice.{StdDevice}

-- the reader below a source with its buffer, or the writer below a sink, and how often the device has failed
abbrev pub inner_of : {D : Type 0} → StdDevice D → D
inner_of device = device.inner

abbrev pub faults_of : {D : Type 0} → StdDevice D → ℕ
faults_of device = device.faults

-- the error of the system at the last failure
abbrev pub error_of : {D : Type 0} → StdDevice D → Option Error
error_of device = device.last

-- known octets of a writer grow by a part of the piece from its front, which may be none or all of it
abbrev pub AppendsPart : Option (List ℕ) → Option (List ℕ) → List ℕ → Type 0
AppendsPart before after piece =
    (count : ℕ) × (count ≤ length piece) × Appends before after (take count piece)
