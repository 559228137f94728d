-- Why a reader of captures stops, and what a whole field gives.
use Rattle.std.proofs.Common.{◌≡◌, ℕ, ◌+◌, List, length, inl}
use Rattle.ht_io.specs.Devices.{Device, Takes}
use Rattle.ht_io.specs.declared.faults.Kind.{Kind}
use Rattle.ht_io.specs.declared.faults.InFault.{InFault}
use Rattle.ht_io.specs.declared.faults.InFault.TheVariants.{Format}
use Rattle.ht_fields.specs.Grammar.{Due, End, Wants, Verdict, Good, Bad}
use Rattle.ht_fields.specs.Cases.{IsField}
use Rattle.ht_fields.specs.Readers.{Gives}
use Rattle.ht_fields.specs.WholeFiles.{StopsWithCause}
use Rattle.ht_fields.proofs.Halting.{halts_as}
use Rattle.ht_fields.proofs.Readers.{HasWidth, IsNamed, field_gives, field_refuses}
use Rattle.ht_capture.specs.declared.items.Item.{Item}
use Rattle.ht_capture.specs.Fields.{CaptureState, captures, capture_due}
use Rattle.ht_capture.specs.Reading.{here}

-- the field is bad
pub bad_halts : (s : CaptureState) (at : ℕ) (kind : Kind) (source after : Device ℕ) (x : List ℕ) (fault : InFault)
    → IsField (capture_due s) x (Bad kind) → IsNamed kind → Takes source after x
    → fault ≡ Format (record { kind = kind; offset = at }) → StopsWithCause (here s at source) after fault
bad_halts s at kind source after x fault bad named taken is =
    halts_as (here s at source) after _ fault is (inl (field_refuses captures s at kind source after x taken bad named), tt)

-- the field is good
pub good_gives : (s t : CaptureState) (at behind : ℕ) (items : List Item) (source after : Device ℕ) (x : List ℕ)
    → IsField (capture_due s) x (Good t items) → Takes source after x → behind ≡ at + length x
    → Gives (here s at source) (here t behind after) items
good_gives s t at behind items source after x good taken is =
    field_gives captures s t at behind items source after x taken good is

-- a field that is due has the width of its octets
pub field_width : (d : Due CaptureState Item) (x : List ℕ) (v : Verdict CaptureState Item) → IsField d x v → HasWidth d (length x)
field_width End x v p = p
field_width (Wants beyond judge) x v p = p.0
