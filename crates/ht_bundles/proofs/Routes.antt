-- How the octets of captures lead through the fields of a bundle, and why they don't.
use Rattle.std.proofs.Common.{◌≡◌, ◌⊎◌, inl, inr, ℕ, ◌+◌, ◌-◌, ◌^◌, ◌<◌, List, [], ◌∷◌, ◌++◌, length}
use Rattle.std.proofs.Common.{nat_eq, false, refl, sym, ap, subst, ◌∙◌, length-append, arith}
use Rattle.std.proofs.lemmas.Bool.Decides.{nat_tests}
use Rattle.std.proofs.lemmas.List.{append-nil}
use Rattle.byteorder.specs.Endian.{big_bytes, big_number}
use Rattle.byteorder.specs.Numbers.{big_number-reads_back, length-bytes_high_first}
use Rattle.ht_io.specs.Devices.{Device, Takes, IsLater}
use Rattle.ht_io.specs.declared.faults.InFault.{InFault}
use Rattle.ht_io.specs.declared.faults.InFault.TheVariants.{Format, Read, NoMemory}
use Rattle.ht_io.proofs.Calls.{takes-append}
use Rattle.ht_fields.specs.FormatLaws.{AreFiles, WritesFiles}
use Rattle.ht_fields.specs.Grammar.{Verdict, Good}
use Rattle.ht_fields.specs.Lacking.{LacksField}
use Rattle.ht_fields.specs.Readers.{reader_in}
use Rattle.ht_fields.specs.WholeFiles.{EndsEarly}
use Rattle.ht_fields.proofs.Choices.{when_false}
use Rattle.ht_fields.proofs.Endings.{halts_ends, memory_ends, route_ends}
use Rattle.ht_fields.proofs.Halting.{lacks_halts}
use Rattle.ht_fields.proofs.Putting.{takes_as}
use Rattle.ht_fields.proofs.Readers.{field_is, width_is}
use Rattle.ht_fields.proofs.Routes.{Route, route_field, route_from, route_then, route_to}
use Rattle.ht_heads.specs.Starts.{StartState, Body}
use Rattle.ht_counted.specs.Counted.{IsCount, IsCounted}
use Rattle.ht_counted.proofs.Counting.{are_files, entry_is, leads_by}
use Rattle.ht_bundles.specs.Formats.{CaptureState, Size, Octets, bundled, bundles, captures_due, capture_limits, octets_due, size_given}
use Rattle.ht_bundles.specs.Formats.{good_octets, good_size}
use Rattle.ht_bundles.specs.Files.{AreCaptures, IsSized, bundle_of, sized_octets}

abbrev State : Type 0
State = StartState CaptureState

-- the number of captures
pub is_count : IsCount capture_limits
is_count = record { some = omega arith; few = omega arith; range = omega arith; small = omega arith; named = (λ e. cc, λ e. cc) }

pub octets_are : (left size : ℕ) → 0 < size → octets_due left size ≡ Body (Octets left size)
unfolding octets_due
octets_are left size some = let t : nat_eq size 0 ≡ false = grind (arith, nat_tests) in when_false _ _ _ t

none_given : (size : ℕ) → 0 < size → size_given size ≡ []
unfolding size_given
none_given size some = let t : nat_eq size 0 ≡ false = grind (arith, nat_tests) in when_false _ _ _ t

-- the size of a capture
size_is : (left : ℕ) (octets : List ℕ) (size : ℕ) → big_number 4 octets ≡ size → good_size left octets ≡ Good (octets_due left size) (size_given size)
unfolding good_size
size_is left octets size is =
    ap (λ (n : ℕ). let v : Verdict State (List ℕ) = Good (octets_due left n) (size_given n) in v) is

pub route_size : (left size : ℕ) → 0 < left → size < 2 ^ 32 → Route bundles (captures_due left) (octets_due left size) (big_bytes 4 size) (size_given size)
route_size left size some few =
    let octets = big_bytes 4 size in
    let small : size < 256 ^ 4 = omega (arith, few) in
    let back : big_number 4 octets ≡ size = ap (big_number 4) (sym (append-nil octets)) ∙ big_number-reads_back 4 size [] small in
    route_from bundles (captures_due left) (Body (Size left)) (octets_due left size) octets (size_given size) (entry_is Size left some)
    (route_field bundles (Body (Size left)) (octets_due left size) octets (size_given size)
    (length-bytes_high_first 4 size, size_is left octets size back))

-- the size of a capture that has octets
pub route_some : (left size : ℕ) → 0 < left → 0 < size → size < 2 ^ 32
    → Route bundles (captures_due left) (Body (Octets left size)) (big_bytes 4 size) []
route_some left size left_some some few =
    subst (λ (items : List (List ℕ)). Route bundles (captures_due left) (Body (Octets left size)) (big_bytes 4 size) items) (none_given size some)
    (route_to bundles _ _ _ _ _ (octets_are left size some) (route_size left size left_some few))

-- a capture
pub route_capture : (left : ℕ) (c : List ℕ) → 0 < left → IsSized c → Route bundles (captures_due left) (captures_due (left - 1)) (sized_octets c) (c ∷ [])
unfolding sized_octets good_octets octets_due size_given
route_capture left [] some is =
    subst (λ (z : List ℕ). Route bundles (captures_due left) (captures_due (left - 1)) z ([] ∷ [])) (sym (append-nil (big_bytes 4 0)))
    (route_size left 0 some (omega arith))
route_capture left (x ∷ xs) some is =
    let size = length (x ∷ xs) in
    let s : State = Body (Octets left size) in
    route_then bundles (captures_due left) s (captures_due (left - 1)) (big_bytes 4 size) (x ∷ xs) [] ((x ∷ xs) ∷ [])
    (route_some left size some (omega arith) is)
    (route_field bundles s (captures_due (left - 1)) (x ∷ xs) ((x ∷ xs) ∷ [])
    (field_is size (good_octets left) (x ∷ xs) _ (omega arith) refl refl))

pub length_capture : (c : List ℕ) (n : ℕ) → n ≡ length c → 4 + n ≡ length (sized_octets c)
unfolding sized_octets
length_capture c n is = omega (arith, is, length-append (big_bytes 4 (length c)) c, length-bytes_high_first 4 (length c))

-- what the format owes to the reading of bundles
pub are_counted : IsCounted bundled sized_octets IsSized 4294967300
are_counted = record {
  count = is_count;
  leads = λ left c some is. leads_by bundles (captures_due left) (captures_due (left - 1)) (sized_octets c) (c ∷ []) (route_capture left c some is);
  short = λ c is. omega (arith, length_capture c (length c) refl, is);
  bound = omega arith;
}

-- what holds of bundles
pub bundle_files : AreFiles bundles AreCaptures bundle_of
unfolding bundle_of
bundle_files = are_files bundled sized_octets IsSized 4294967300 are_counted

pub bundle_written : WritesFiles bundles AreCaptures bundle_of
bundle_written = bundle_files.written

-- a capture, as it was read
pub takes_capture : (c octets : List ℕ) (size : ℕ) (a b d : Device ℕ) → c ≡ octets → length octets ≡ size
    → Takes a b (big_bytes 4 size) → Takes b d octets → Takes a d (sized_octets c)
unfolding sized_octets
takes_capture c octets size a b d is len x y =
    let whole : big_bytes 4 size ++ octets ≡ big_bytes 4 (length c) ++ c =
    ap (λ n. big_bytes 4 n ++ octets) (sym len) ∙ ap (λ (o : List ℕ). big_bytes 4 (length o) ++ o) (sym is) in
    takes_as a d _ _ whole (takes-append a b d (big_bytes 4 size) octets x y)

-- the size of a capture was not read, or its octets
pub size_ends : (left at : ℕ) (source after : Device ℕ) (fault : InFault) → 0 < left → LacksField 4 at source after fault
    → EndsEarly (reader_in bundles (captures_due left) at source) after fault
size_ends left at source after fault some lacks =
    subst (λ (s : State). EndsEarly (reader_in bundles s at source) after fault) (sym (entry_is Size left some))
    (halts_ends (reader_in bundles (Body (Size left)) at source) after fault
    (lacks_halts bundles (Body (Size left)) at 4 source after fault (width_is 4 (good_size left) (omega arith)) lacks))

-- a field that did not come whole has octets
lacks_some : (width at : ℕ) (before after : Device ℕ) (fault : InFault) → LacksField width at before after fault → 0 < width
lacks_some width at before after (Format fault) (into, count, len, reads, is) = omega (arith, len, reads.0)
lacks_some width at before after Read ((into, len, reads), rose) = omega (arith, len, reads.1)
lacks_some width at before after NoMemory l = absurd l

pub octets_end : (left size at : ℕ) (a b z : Device ℕ) (fault : InFault) → 0 < left → size < 2 ^ 32
    → Takes a b (big_bytes 4 size) → IsLater a b → (fault ≡ NoMemory) ⊎ LacksField size (at + 4) b z fault
    → EndsEarly (reader_in bundles (captures_due left) at a) z fault
octets_end left size at a b z fault left_some few taken later (inl none) = memory_ends (reader_in bundles (captures_due left) at a) z fault none
octets_end left size at a b z fault left_some few taken later (inr lacks) =
    let some : 0 < size = lacks_some size (at + 4) b z fault lacks in
    let s : State = Body (Octets left size) in
    let place : at + 4 ≡ at + length (big_bytes 4 size) = ap (λ n. at + n) (sym (length-bytes_high_first 4 size)) in
    route_ends bundles (captures_due left) s (big_bytes 4 size) [] at (at + 4) a b z fault (route_some left size left_some some few) place taken later
    (halts_ends (reader_in bundles s (at + 4) b) z fault
    (lacks_halts bundles s (at + 4) size b z fault (width_is size (good_octets left) some) lacks))
