-- How the octets of counted entries lead through the fields of a file, in any such format, and why they don't.
use Rattle.std.proofs.Common.{◌≡◌, ℕ, ◌+◌, ◌-◌, ◌^◌, ◌<◌, ◌≤◌, List, [], ◌∷◌, ◌++◌, length, flat_map, All}
use Rattle.std.proofs.Common.{nat_eq, true, false, refl, sym, ap, subst, ◌∙◌, length-append, arith}
use Rattle.std.proofs.lemmas.Bool.Decides.{nat_tests}
use Rattle.std.proofs.lemmas.List.{append-nil}
use Rattle.std.proofs.lemmas.List.Elements.{All-head, All-tail}
use Rattle.byteorder.specs.Endian.{big_bytes}
use Rattle.byteorder.specs.Numbers.{length-bytes_high_first}
use Rattle.ht_io.specs.Devices.{Device, IsLater, Takes, TakesAll}
use Rattle.ht_io.specs.declared.faults.InFault.{InFault}
use Rattle.ht_io.proofs.Calls.{takes-all}
use Rattle.ht_fields.specs.Cases.{IsFile}
use Rattle.ht_fields.specs.FormatLaws.{AreFiles}
use Rattle.ht_fields.specs.Grammar.{Grammar}
use Rattle.ht_fields.specs.Readers.{reader_in}
use Rattle.ht_fields.specs.WholeFiles.{EndsEarly}
use Rattle.ht_fields.proofs.Answered.{file_items}
use Rattle.ht_fields.proofs.Choices.{when_true, when_false}
use Rattle.ht_fields.proofs.Endings.{halts_ends, route_ends}
use Rattle.ht_fields.proofs.FormatLaws.{prefix_free}
use Rattle.ht_fields.proofs.Routes.{Route, route_file, route_none, route_then, route_to}
use Rattle.ht_heads.specs.declared.starting.Limits.{Limits}
use Rattle.ht_heads.specs.Starts.{StartState, StartedFails, Body, Over, magic_due, started_octets}
use Rattle.ht_heads.proofs.Started.{route_started, started_halts}
use Rattle.ht_counted.specs.Counted.{AreCounted, CountedFormat, IsCount, IsCounted, LeadsBy, counted, counted_format, counted_octets, entries_due, frame_limits}
use Rattle.ht_counted.proofs.Lists.{place_behind}

pub entry_is : {B : Type 0} (first : ℕ → B) (left : ℕ) → 0 < left → entries_due first left ≡ Body (first left)
unfolding entries_due
entry_is first left some = let t : nat_eq left 0 ≡ false = grind (arith, nat_tests) in when_false _ _ _ t

pub over_is : {B : Type 0} (first : ℕ → B) (left : ℕ) → left ≡ 0 → entries_due first left ≡ Over
unfolding entries_due
over_is first left none = let t : nat_eq left 0 ≡ true = grind (arith, nat_tests) in when_true _ _ _ t

-- the number of frames
pub is_count : IsCount frame_limits
is_count = record { some = omega arith; few = omega arith; range = omega arith; small = omega arith; named = (λ e. cc, λ e. cc) }

-- a route by the name that specs have for it, and back
pub route_of : {S I : Type 0} (f : Grammar S I) (s t : S) (octets : List ℕ) (items : List I) → LeadsBy f s t octets items → Route f s t octets items
route_of f s t octets items (fields, good, split) = record { fields = fields; good = good; split = split }

pub leads_by : {S I : Type 0} (f : Grammar S I) (s t : S) (octets : List ℕ) (items : List I) → Route f s t octets items → LeadsBy f s t octets items
leads_by f s t octets items r = (r.fields, r.good, r.split)

-- each fit entry leads to the next one, and gives its items
abbrev pub LeadsOn : {B I V : Type 0} → CountedFormat B I → (V → List ℕ) → (V → List I) → (V → Type 0) → Type 0
LeadsOn h octets items Fits =
    (left : ℕ) (v : _) → 0 < left → Fits v → Route (counted h) (entries_due h.first left) (entries_due h.first (left - 1)) (octets v) (items v)

-- a count that the format may have
pub record IsGoodCount (limits : Limits) (count : ℕ) : Type 0 where
  pub some : 0 < limits.width
  pub small : count < 256 ^ limits.width
  pub least : limits.least ≤ count
  pub most : count ≤ limits.most

-- what stands in front of the entries
pub route_start : {B I : Type 0} (h : CountedFormat B I) (count : ℕ) → IsGoodCount h.limits count
    → Route (counted h) (magic_due h.magic) (entries_due h.first count) (started_octets h.magic h.limits.width count) []
route_start h count good = route_started (counted_format h) count good.some good.small good.least good.most

-- a number of entries
pub route_entries : {B I V : Type 0} (h : CountedFormat B I) (octets : V → List ℕ) (items : V → List I) (Fits : V → Type 0) → LeadsOn h octets items Fits
    → (vs : List V) (left : ℕ) → length vs ≤ left → All Fits vs
    → Route (counted h) (entries_due h.first left) (entries_due h.first (left - length vs)) (flat_map octets vs) (flat_map items vs)
route_entries h octets items Fits one [] left few fit =
    route_none (counted h) _ _ (ap (entries_due h.first) (let e : left ≡ left - 0 = omega arith in e))
route_entries h octets items Fits one (v ∷ vs) left few fit =
    let front = one left v (omega (arith, few)) (All-head Fits v vs fit) in
    let rest = route_entries h octets items Fits one vs (left - 1) (omega (arith, few)) (All-tail Fits v vs fit) in
    let end : left - 1 - length vs ≡ left - length (v ∷ vs) = omega arith in
    route_to (counted h) (entries_due h.first left) _ _ _ _ (ap (entries_due h.first) end)
    (route_then (counted h) (entries_due h.first left) (entries_due h.first (left - 1)) (entries_due h.first (left - 1 - length vs))
    (octets v) (flat_map octets vs) (items v) (flat_map items vs) front rest)

-- the beginning of a file, and a number of its entries
pub route_so_far : {B I V : Type 0} (h : CountedFormat B I) (octets : V → List ℕ) (items : V → List I) (Fits : V → Type 0) → LeadsOn h octets items Fits
    → (count : ℕ) (vs : List V) → IsGoodCount h.limits count → length vs ≤ count → All Fits vs
    → Route (counted h) (magic_due h.magic) (entries_due h.first (count - length vs))
    (started_octets h.magic h.limits.width count ++ flat_map octets vs) (flat_map items vs)
route_so_far h octets items Fits one count vs good few fit =
    route_then (counted h) (magic_due h.magic) (entries_due h.first count) (entries_due h.first (count - length vs))
    (started_octets h.magic h.limits.width count) (flat_map octets vs) [] (flat_map items vs) (route_start h count good)
    (route_entries h octets items Fits one vs count few fit)

-- the whole file, and then its end
pub route_over : {B I V : Type 0} (h : CountedFormat B I) (octets : V → List ℕ) (items : V → List I) (Fits : V → Type 0) → LeadsOn h octets items Fits
    → (count : ℕ) (vs : List V) → IsGoodCount h.limits count → length vs ≡ count → All Fits vs
    → Route (counted h) (magic_due h.magic) Over (started_octets h.magic h.limits.width count ++ flat_map octets vs) (flat_map items vs)
route_over h octets items Fits one count vs good size fit =
    let none : count - length vs ≡ 0 = omega (arith, size) in
    route_to (counted h) (magic_due h.magic) _ Over _ (flat_map items vs) (over_is h.first (count - length vs) none)
    (route_so_far h octets items Fits one count vs good (omega (arith, size)) fit)

good_count_of : {V : Type 0} (limits : Limits) (Fits : V → Type 0) (vs : List V) → IsCount limits → AreCounted limits Fits vs → IsGoodCount limits (length vs)
good_count_of limits Fits vs is are =
    record { some = omega (arith, is.some); small = omega (arith, is.small, are.few); least = are.some; most = are.few }

-- the file written of entries
pub file_written : {B I V : Type 0} (h : CountedFormat B I) (octets : V → List ℕ) (items : V → List I) (Fits : V → Type 0) → IsCount h.limits
    → LeadsOn h octets items Fits → (vs : List V) → AreCounted h.limits Fits vs
    → IsFile (counted h) (counted_octets h.magic h.limits.width octets vs) (flat_map items vs)
file_written h octets items Fits is one vs are =
    route_file (counted h) Over _ _ (route_over h octets items Fits one (length vs) vs (good_count_of h.limits Fits vs is are) refl are.fit) tt

-- entries that are items
pub each_itself : {V : Type 0} (vs : List V) → flat_map (λ v. v ∷ []) vs ≡ vs
each_itself [] = refl
each_itself (v ∷ vs) = ap (λ z. v ∷ z) (each_itself vs)

abbrev pub itself : {V : Type 0} → V → List V
itself v = v ∷ []

pub leads_on : {B V : Type 0} (h : CountedFormat B V) (octets : V → List ℕ) (Fits : V → Type 0) (most : ℕ) → IsCounted h octets Fits most
    → LeadsOn h octets itself Fits
leads_on h octets Fits most is left v some fits = route_of (counted h) _ _ _ _ (is.leads left v some fits)

pub written : {B V : Type 0} (h : CountedFormat B V) (octets : V → List ℕ) (Fits : V → Type 0) (most : ℕ) → IsCounted h octets Fits most
    → (vs : List V) → AreCounted h.limits Fits vs → IsFile (counted h) (counted_octets h.magic h.limits.width octets vs) vs
written {V = V} h octets Fits most is vs are =
    subst (λ (z : List V). IsFile (counted h) (counted_octets h.magic h.limits.width octets vs) z) (each_itself vs)
    (file_written h octets itself Fits is.count (leads_on h octets Fits most is) vs are)

-- entries of one file
pub same : {B V : Type 0} (h : CountedFormat B V) (octets : V → List ℕ) (Fits : V → Type 0) (most : ℕ) → IsCounted h octets Fits most
    → (vs ws : List V) → AreCounted h.limits Fits vs → AreCounted h.limits Fits ws
    → counted_octets h.magic h.limits.width octets vs ≡ counted_octets h.magic h.limits.width octets ws → vs ≡ ws
same h octets Fits most is vs ws are also e =
    file_items (counted h) (counted_octets h.magic h.limits.width octets ws) vs ws
    (subst (λ (z : List ℕ). IsFile (counted h) z vs) e (written h octets Fits most is vs are)) (written h octets Fits most is ws also)

-- what holds of the files of such a format
pub are_files : {B V : Type 0} (h : CountedFormat B V) (octets : V → List ℕ) (Fits : V → Type 0) (most : ℕ) → IsCounted h octets Fits most
    → AreFiles (counted h) (AreCounted h.limits Fits) (counted_octets h.magic h.limits.width octets)
are_files h octets Fits most is = record {
  no_prefix = prefix_free (counted h);
  written = written h octets Fits most is;
  read_back = same h octets Fits most is;
}

-- what stands in front of the entries was not read
pub start_ends : {B I : Type 0} (h : CountedFormat B I) (magic : List ℕ) (limits : Limits) (source after : Device ℕ) (fault : InFault)
    → IsCount h.limits → h.magic ≡ magic → h.limits ≡ limits → StartedFails magic limits source after fault
    → EndsEarly (reader_in (counted h) (magic_due h.magic) 0 source) after fault
start_ends h magic limits source after fault is named alike fails =
    halts_ends (reader_in (counted h) (magic_due h.magic) 0 source) after fault
    (started_halts (counted_format h) source after fault (omega (arith, is.some)) is.named
    (subst (λ (m : List ℕ). StartedFails m h.limits source after fault) (sym named)
    (subst (λ (l : Limits). StartedFails magic l source after fault) (sym alike) fails)))

pub takes_start : (held magic : List ℕ) (counts limits : Limits) (count : ℕ) (source after : Device ℕ) → held ≡ magic → counts ≡ limits
    → Takes source after (started_octets magic limits.width count) → Takes source after (started_octets held counts.width count)
takes_start held magic counts limits count source after named alike taken =
    subst (λ (m : List ℕ). Takes source after (started_octets m counts.width count)) (sym named)
    (subst (λ (l : Limits). Takes source after (started_octets magic l.width count)) (sym alike) taken)

pub length_start : (held magic : List ℕ) (counts limits : Limits) (count : ℕ) → held ≡ magic → counts ≡ limits → length magic ≡ 4
    → 5 + limits.width ≡ length (started_octets held counts.width count)
unfolding started_octets
length_start held magic counts limits count named alike four =
    let size : length held ≡ 4 = ap length named ∙ four in
    let width : counts.width ≡ limits.width = ap (λ (l : Limits). l.width) alike in
    omega (arith, size, width, length-append held (1 ∷ big_bytes counts.width count), length-bytes_high_first counts.width count)

pub good_count_as : (counts limits : Limits) (count : ℕ) → IsCount counts → counts ≡ limits → limits.least ≤ count → count ≤ limits.most
    → IsGoodCount counts count
good_count_as counts limits count is alike some few =
    let least : counts.least ≡ limits.least = ap (λ (l : Limits). l.least) alike in
    let most : counts.most ≡ limits.most = ap (λ (l : Limits). l.most) alike in
    record {
      some = omega (arith, is.some);
      small = omega (arith, is.small, most, few);
      least = omega (arith, least, some);
      most = omega (arith, most, few);
    }

-- behind the beginning of a file and a number of its entries a reading ended
pub entries_end : {B V : Type 0} (h : CountedFormat B V) (octets : V → List ℕ) (Fits : V → Type 0) (most : ℕ) (limits : Limits) (count : ℕ) (vs : List V)
    (t : StartState B) (at : ℕ) (before mid after : Device ℕ) (fault : InFault) → IsCounted h octets Fits most → h.limits ≡ limits → limits.least ≤ count
    → count ≤ limits.most → length vs ≤ count → All Fits vs → at ≡ length (started_octets h.magic h.limits.width count ++ flat_map octets vs)
    → Takes before mid (started_octets h.magic h.limits.width count ++ flat_map octets vs) → IsLater before mid
    → entries_due h.first (count - length vs) ≡ t → EndsEarly (reader_in (counted h) t at mid) after fault
    → EndsEarly (reader_in (counted h) (magic_due h.magic) 0 before) after fault
entries_end h octets Fits most limits count vs t at before mid after fault is alike some few here fit place taken later state ends =
    let front = started_octets h.magic h.limits.width count ++ flat_map octets vs in
    route_ends (counted h) (magic_due h.magic) t front (flat_map itself vs) 0 at before mid after fault
    (route_to (counted h) (magic_due h.magic) _ t front (flat_map itself vs) state
    (route_so_far h octets itself Fits (leads_on h octets Fits most is) count vs (good_count_as h.limits limits count is.count alike some few) here fit))
    (place_behind at front place) taken later ends

-- the file that was read
pub takes_file : {V : Type 0} (octets : V → List ℕ) (magic : List ℕ) (width : ℕ) (vs : List V) (count : ℕ) (before mid after : Device ℕ)
    → length vs ≡ count → Takes before mid (started_octets magic width count ++ flat_map octets vs) → TakesAll mid after []
    → TakesAll before after (counted_octets magic width octets vs)
takes_file octets magic width vs count before mid after size taken end =
    let whole : (started_octets magic width count ++ flat_map octets vs) ++ [] ≡ started_octets magic width (length vs) ++ flat_map octets vs =
    append-nil _ ∙ ap (λ (n : ℕ). started_octets magic width n ++ flat_map octets vs) (sym size) in
    subst (λ (z : List ℕ). TakesAll before after z) whole (takes-all before mid after _ [] taken end)
