-- How the octets of a capture lead to its first frame, to the next head and to the next symbol, and why they don't.
use Rattle.std.proofs.Common.{◌≡◌, ℕ, ◌+◌, ◌-◌, ◌*◌, ◌<◌, ◌≤◌, List, [], ◌∷◌, ◌++◌, length, refl, sym, subst, arith}
use Rattle.byteorder.specs.Endian.{big_bytes}
use Rattle.ht_io.specs.Devices.{Device, Takes, IsLater}
use Rattle.ht_io.specs.declared.faults.InFault.{InFault}
use Rattle.ht_io.proofs.Calls.{later-later, takes-append}
use Rattle.ht_fields.specs.Lacking.{LacksField}
use Rattle.ht_fields.specs.Readers.{Gives, reader_in}
use Rattle.ht_fields.specs.WholeFiles.{StopsWithCause}
use Rattle.ht_fields.proofs.Halting.{gives_halts, lacks_halts}
use Rattle.ht_fields.proofs.Readers.{field_is, width_is}
use Rattle.ht_fields.proofs.Routes.{Route, route_field, route_from, route_gives, route_then}
use Rattle.ht_clause18.specs.declared.rates.LegacyRate.{LegacyRate}
use Rattle.ht_clause18.specs.Carriers.{carriers}
use Rattle.ht_clause18.specs.Rates.{index_of, symbols_of}
use Rattle.ht_heads.specs.Starts.{StartedFails, started_octets}
use Rattle.ht_heads.proofs.Started.{started_halts}
use Rattle.ht_counted.specs.Counted.{counted_format, frame_limits}
use Rattle.ht_counted.proofs.Counting.{route_start}
use Rattle.ht_legacy_files.specs.HeadedFormats.{behind_head, headed}
use Rattle.ht_legacy_files.proofs.HeadRoutes.{route_head}
use Rattle.ht_legacy_files.specs.CaptureFormats.{Diagonals, Samples, captured, captures, captures_due, captures_magic, symbols_due}
use Rattle.ht_legacy_files.specs.CaptureFormats.{good_diagonals, good_samples}
use Rattle.ht_legacy_files.specs.CaptureItems.{LegacyHead, Begins, Symbol}
use Rattle.ht_legacy_blocks.specs.Jobs.{diagonals_of, samples_of}
use Rattle.ht_legacy_files.proofs.CaptureRoutes.{State, symbol_is}

-- what stands in front of the frames
length_start : (count : ℕ) → 7 ≡ 0 + length (started_octets captures_magic 2 count)
unfolding started_octets
length_start count = refl

pub start_gives : (count : ℕ) (source after : Device ℕ) → count ≤ 65535 → Takes source after (started_octets captures_magic 2 count)
    → Gives (reader_in captures captures.start 0 source) (reader_in captures (captures_due count) 7 after) []
start_gives count source after few taken =
    route_gives captures captures.start (captures_due count) (started_octets captures_magic 2 count) [] 0 7 source after
    (route_start (headed captured) count (record { some = omega arith; small = omega (arith, few); least = omega arith; most = few }))
    (length_start count) taken

pub start_halts : (source after : Device ℕ) (fault : InFault) → StartedFails captures_magic frame_limits source after fault
    → StopsWithCause (reader_in captures captures.start 0 source) after fault
start_halts source after fault fails = started_halts (counted_format (headed captured)) source after fault (omega arith) (λ e. cc, λ e. cc) fails

-- what stands in front of the symbols of a frame
abbrev pub front_octets : LegacyRate → ℕ → List ℕ → List ℕ
front_octets r len octets = (index_of r ∷ big_bytes 2 len) ++ octets

abbrev pub head_read : LegacyRate → ℕ → List ℕ → LegacyHead
head_read r len octets = record { rate = r; length = len; diagonals = diagonals_of octets }

route_front : (left : ℕ) (r : LegacyRate) (len : ℕ) (octets : List ℕ) → 0 < left → 1 ≤ len → len ≤ 4095 → length octets ≡ 104
    → Route captures (captures_due left) (symbols_due left (symbols_of r len)) (front_octets r len octets) (Begins (head_read r len octets) ∷ [])
unfolding good_diagonals diagonals_of
route_front left r len octets left_some some few wide =
    let s : State = behind_head (Diagonals left r len) in
    let t : State = symbols_due left (symbols_of r len) in
    route_then captures (captures_due left) s t (index_of r ∷ big_bytes 2 len) octets [] (Begins (head_read r len octets) ∷ [])
    (route_head captured left r len left_some some few)
    (route_field captures s t octets (Begins (head_read r len octets) ∷ [])
    (field_is (carriers * 2) (good_diagonals left r len) octets _ (omega arith) wide refl))

route_samples : (left n : ℕ) (octets : List ℕ) → 0 < n → length octets ≡ 416
    → Route captures (symbols_due left n) (symbols_due left (n - 1)) octets (Symbol (samples_of octets) ∷ [])
unfolding good_samples samples_of
route_samples left n octets some wide =
    route_from captures (symbols_due left n) (behind_head (Samples left n)) (symbols_due left (n - 1)) octets (Symbol (samples_of octets) ∷ [])
    (symbol_is left n some)
    (route_field captures (behind_head (Samples left n)) (symbols_due left (n - 1)) octets (Symbol (samples_of octets) ∷ [])
    (field_is (carriers * 8) (good_samples left n) octets _ (omega arith) wide refl))

-- the diagonals did not come whole behind rate and length
pub diagonals_halts : (left at : ℕ) (source first between after : Device ℕ) (fault : InFault) (r : LegacyRate) (len width : ℕ) → 0 < left → 1 ≤ len
    → len ≤ 4095 → width ≡ 104 → Takes source first (index_of r ∷ []) → Takes first between (big_bytes 2 len) → IsLater source first
    → IsLater first between → LacksField width (at + 3) between after fault → StopsWithCause (reader_in captures (captures_due left) at source) after fault
diagonals_halts left at source first between after fault r len width some least most wide rate size later still lacks =
    let s : State = behind_head (Diagonals left r len) in
    let place : at + 3 ≡ at + length (index_of r ∷ big_bytes 2 len) = refl in
    gives_halts (reader_in captures (captures_due left) at source) (reader_in captures s (at + 3) between) after fault
    (route_gives captures (captures_due left) s (index_of r ∷ big_bytes 2 len) [] at (at + 3) source between
    (route_head captured left r len some least most) place (takes-append source first between (index_of r ∷ []) (big_bytes 2 len) rate size))
    (later-later source first between later still)
    (lacks_halts captures s (at + 3) 104 between after fault (width_is 104 (good_diagonals left r len) (omega arith))
    (subst (λ n. LacksField n (at + 3) between after fault) wide lacks))

pub front_gives : (left at : ℕ) (source first between after : Device ℕ) (r : LegacyRate) (len : ℕ) (octets : List ℕ) → 0 < left → 1 ≤ len → len ≤ 4095
    → length octets ≡ 104 → Takes source first (index_of r ∷ []) → Takes first between (big_bytes 2 len) → Takes between after octets
    → Gives (reader_in captures (captures_due left) at source) (reader_in captures (symbols_due left (symbols_of r len)) (at + 107) after)
    (Begins (head_read r len octets) ∷ [])
front_gives left at source first between after r len octets some least most wide rate size taken =
    let place : at + 107 ≡ at + length (front_octets r len octets) = omega (arith, wide) in
    route_gives captures (captures_due left) (symbols_due left (symbols_of r len)) (front_octets r len octets) (Begins (head_read r len octets) ∷ [])
    at (at + 107) source after (route_front left r len octets some least most wide) place
    (takes-append source between after (index_of r ∷ big_bytes 2 len) octets
    (takes-append source first between (index_of r ∷ []) (big_bytes 2 len) rate size) taken)

pub samples_gives : (left n at : ℕ) (source after : Device ℕ) (octets : List ℕ) → 0 < n → length octets ≡ 416 → Takes source after octets
    → Gives (reader_in captures (symbols_due left n) at source) (reader_in captures (symbols_due left (n - 1)) (at + 416) after)
    (Symbol (samples_of octets) ∷ [])
samples_gives left n at source after octets some wide taken =
    let place : at + 416 ≡ at + length octets = omega (arith, wide) in
    route_gives captures (symbols_due left n) (symbols_due left (n - 1)) octets (Symbol (samples_of octets) ∷ [])
    at (at + 416) source after (route_samples left n octets some wide) place taken

-- the samples of a symbol did not come whole
pub samples_halts : (left n at width : ℕ) (source after : Device ℕ) (fault : InFault) → 0 < n → width ≡ 416 → LacksField width at source after fault
    → StopsWithCause (reader_in captures (symbols_due left n) at source) after fault
samples_halts left n at width source after fault some wide lacks =
    subst (λ (s : State). StopsWithCause (reader_in captures s at source) after fault) (sym (symbol_is left n some))
    (lacks_halts captures (behind_head (Samples left n)) at 416 source after fault (width_is 416 (good_samples left n) (omega arith))
    (subst (λ k. LacksField k at source after fault) wide lacks))
