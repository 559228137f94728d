use Rattle.std.proofs.Common.{ℕ, None, ap}
use Rattle.ht_io.specs.Devices.{Device}
use Rattle.ht_fields.specs.Readers.{ReaderView}
use Rattle.ht_capture.specs.declared.items.Item.{Item}
use Rattle.ht_capture_blocks.specs.Captures.{mapped}
use Rattle.ht_capture_blocks.proofs.reader.CaptureReader.new.Goals as goal

-- any source
abbrev unknown : Device ℕ
unknown = record { known = None; faults = 0; borrow = 0 }

pub returns-clause-means : goal.returns-clause-means
returns-clause-means c = λ octets. ap (λ (v : ReaderView Item). mapped (v.means octets)) (c.in_ok-new.ensures.first unknown)

pub returns-clause-at : goal.returns-clause-at
returns-clause-at c = ap (λ (v : ReaderView Item). v.at) (c.in_ok-new.ensures.first unknown)
