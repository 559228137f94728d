-- How the octets in front of what is counted lead through the fields of a file, in any format that begins so.
use Rattle.std.proofs.Common.{◌≡◌, ◌⊎◌, inl, inr, ℕ, ◌+◌, ◌^◌, ◌<◌, ◌≤◌, List, [], ◌∷◌, ◌++◌, length, take, drop}
use Rattle.std.proofs.Common.{nat_lt, ◌||◌, false, refl, sym, ap, ◌∙◌, append_assoc, arith}
use Rattle.std.proofs.lemmas.Bool.Decides.{nat_tests}
use Rattle.std.proofs.lemmas.List.{append-nil, drop_all, take_all}
use Rattle.byteorder.specs.Endian.{big_bytes, big_number}
use Rattle.byteorder.specs.Numbers.{big_number-reads_back, length-bytes_high_first}
use Rattle.ht_io.specs.Devices.{Device}
use Rattle.ht_io.specs.declared.faults.InFault.{InFault}
use Rattle.ht_io.specs.declared.faults.Kind.TheVariants.{BadMagic, BadVersion}
use Rattle.ht_fields.specs.Grammar.{Verdict, Good}
use Rattle.ht_fields.specs.Readers.{reader_in}
use Rattle.ht_fields.specs.Tests.{checked, differs}
use Rattle.ht_fields.specs.WholeFiles.{StopsWithCause}
use Rattle.ht_fields.proofs.Choices.{checked_good}
use Rattle.ht_fields.proofs.Halting.{behind_halts, judges_checked}
use Rattle.ht_fields.proofs.Readers.{IsNamed, field_is}
use Rattle.ht_fields.proofs.Routes.{Route, route_as, route_field, route_then, route_to}
use Rattle.ht_heads.specs.declared.starting.Limits.{Limits}
use Rattle.ht_heads.specs.Starts.{StartState, Magic, Version, Count, StartedFormat, StartedFails, good_count, good_magic, good_version}
use Rattle.ht_heads.specs.Starts.{is_outside, magic_due, started, started_octets}
use Rattle.ht_heads.proofs.Leading.{HasMagic, magic_halts, route_magic, same_octet}

-- a magic is due
has_magic : {B I : Type 0} (h : StartedFormat B I) → HasMagic (started h) (magic_due {B = B})
unfolding good_magic
has_magic h = record {
  octet = λ x more. route_field (started h) (Magic x more) (magic_due more) (x ∷ []) []
      (refl, checked_good BadMagic (differs x) (good_magic more) (x ∷ []) _ (same_octet x x refl) refl);
  judges = λ x more. judges_checked (started h) (Magic x more) 1 BadMagic (differs x) (good_magic more) refl (omega arith) (λ e. cc, λ e. cc);
}

-- the whole magic
route_all_magic : {B I : Type 0} (h : StartedFormat B I) → Route (started h) (magic_due h.magic) Version h.magic []
route_all_magic {B = B} h =
    let f = started h in
    let all : length h.magic ≤ length h.magic = omega arith in
    route_to f (magic_due h.magic) (magic_due (drop (length h.magic) h.magic)) Version h.magic []
    (ap (magic_due {B = B}) (drop_all (length h.magic) h.magic all))
    (route_as f (magic_due h.magic) (magic_due (drop (length h.magic) h.magic)) (take (length h.magic) h.magic) h.magic []
    (take_all (length h.magic) h.magic all) (route_magic f (magic_due {B = B}) h.magic (length h.magic) (has_magic h) all))

-- the magic, and then the version
route_version : {B I : Type 0} (h : StartedFormat B I) → Route (started h) (magic_due h.magic) Count (h.magic ++ (1 ∷ [])) []
unfolding good_version
route_version h =
    route_then (started h) (magic_due h.magic) Version Count h.magic (1 ∷ []) [] [] (route_all_magic h)
    (route_field (started h) Version Count (1 ∷ []) [] (refl, checked_good BadVersion (differs 1) good_version (1 ∷ []) _ refl refl))

-- a count between the limits passes
pub inside : (limits : Limits) (octets : List ℕ) (count : ℕ) → big_number limits.width octets ≡ count
    → limits.least ≤ count → count ≤ limits.most → is_outside limits octets ≡ false
unfolding is_outside
inside limits octets count is least most =
    let low : nat_lt count limits.least ≡ false = grind (arith, nat_tests) in
    let high : nat_lt limits.most count ≡ false = grind (arith, nat_tests) in
    ap (λ n. nat_lt n limits.least || nat_lt limits.most n) is ∙ (ap (λ b. b || nat_lt limits.most count) low ∙ high)

count_is : {B I : Type 0} (h : StartedFormat B I) (octets : List ℕ) (count : ℕ) → big_number h.limits.width octets ≡ count
    → good_count h octets ≡ Good (h.first count) []
unfolding good_count
count_is {B = B} {I = I} h octets count is = ap (λ (n : ℕ). let v : Verdict (StartState B) I = Good (h.first n) [] in v) is

-- the octets in front of what is counted
pub route_started : {B I : Type 0} (h : StartedFormat B I) (count : ℕ) → 0 < h.limits.width → count < 256 ^ h.limits.width
    → h.limits.least ≤ count → count ≤ h.limits.most
    → Route (started h) (magic_due h.magic) (h.first count) (started_octets h.magic h.limits.width count) []
unfolding started_octets
route_started h count some small least most =
    let f = started h in
    let width = h.limits.width in
    let octets = big_bytes width count in
    let back : big_number width octets ≡ count =
    ap (big_number width) (sym (append-nil octets)) ∙ big_number-reads_back width count [] small in
    route_as f (magic_due h.magic) (h.first count) _ _ [] (append_assoc h.magic (1 ∷ []) octets)
    (route_then f (magic_due h.magic) Count (h.first count) (h.magic ++ (1 ∷ [])) octets [] [] (route_version h)
    (route_field f Count (h.first count) octets []
    (field_is width (checked h.limits.kind (is_outside h.limits) (good_count h)) octets (Good (h.first count) []) some (length-bytes_high_first width count)
    (checked_good h.limits.kind (is_outside h.limits) (good_count h) octets _ (inside h.limits octets count back least most) (count_is h octets count back)))))

-- these octets were not read
pub started_halts : {B I : Type 0} (h : StartedFormat B I) (source after : Device ℕ) (fault : InFault) → 0 < h.limits.width → IsNamed h.limits.kind
    → StartedFails h.magic h.limits source after fault → StopsWithCause (reader_in (started h) (magic_due h.magic) 0 source) after fault
started_halts {B = B} h source after fault some named (inl fails) =
    magic_halts (started h) (magic_due {B = B}) h.magic 0 source after fault (has_magic h) fails
started_halts h source after fault some named (inr (inl fails)) =
    behind_halts (started h) (magic_due h.magic) Version h.magic 0 1 BadVersion (differs 1) source after fault (route_all_magic h)
    (judges_checked (started h) Version 1 BadVersion (differs 1) good_version refl (omega arith) (λ e. cc, λ e. cc)) fails
started_halts h source after fault some named (inr (inr fails)) =
    behind_halts (started h) (magic_due h.magic) Count (h.magic ++ (1 ∷ [])) 0 h.limits.width h.limits.kind (is_outside h.limits)
    source after fault (route_version h)
    (judges_checked (started h) Count h.limits.width h.limits.kind (is_outside h.limits) (good_count h) refl some named) fails
