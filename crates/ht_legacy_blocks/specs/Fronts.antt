-- What stands in front of a frame's symbols, as it is read.
use Rattle.std.specs.Prelude.{ℕ, ◌+◌, ◌<◌, [], ◌∷◌, Result}
use Rattle.ht_io.specs.Devices.{Device}
use Rattle.ht_io.specs.declared.faults.InFault.{InFault}
use Rattle.ht_fields.specs.Readers.{reader_in}
use Rattle.ht_fields.specs.WholeFiles.{ReadsTo}
use Rattle.ht_clause18.specs.Rates.{symbols_of}
use Rattle.ht_legacy_files.specs.CaptureFormats.{captures, captures_due, symbols_due}
use Rattle.ht_legacy_files.specs.CaptureItems.{LegacyHead, Begins}
use Rattle.ht_legacy_blocks.specs.declared.fields.Front.{Front}
use Rattle.ht_legacy_blocks.specs.Jobs.{diagonals_of}

-- the head that begins the frame
abbrev pub head_in : Front → LegacyHead
head_in f = record { rate = f.rate; length = f.length; diagonals = diagonals_of f.diagonals }

-- What a call answers that reads the front of the next frame, at this offset, where at least one frame is due, however many.
-- With a front, the front was read whole, 107 octets; it gives one item, its head, and the symbols of a frame of its rate and
-- length are due behind it. With a fault, the reading stopped in the front, before the head.
abbrev pub TellsFront : ℕ → Device ℕ → Device ℕ → Result Front InFault → Type 0
TellsFront at source after result = (left : ℕ) → 0 < left → ReadsTo result (reader_in captures (captures_due left) at source)
    (λ f. reader_in captures (symbols_due left (symbols_of f.rate f.length)) (at + 107) after) (λ f. Begins (head_in f) ∷ []) after
