-- Room for the lines of the frames of a clause 18 capture: what frames take there, and in a text.
use Rattle.std.proofs.Common.{◌≡◌, inl, inr, ℕ, zero, suc, ◌+◌, ◌-◌, ◌*◌, ◌^◌, ◌<◌, ◌≤◌, List, [], ◌∷◌, ◌++◌, length, drop, get_or, nat_eq}
use Rattle.std.proofs.Common.{refl, sym, ap, subst, ◌∙◌, arith, length-append}
use Rattle.std.specs.List.{AllByRecursion}
use Rattle.std.proofs.Math.Nat.{mul-le-mul}
use Rattle.std.proofs.lemmas.Bool.{cases_Bool}
use Rattle.std.proofs.lemmas.Bool.Decides.{nat_tests}
use Rattle.std.proofs.lemmas.List.{append-nil, get_or-drop, length-drop}
use Rattle.byteorder.specs.Endian.{big_number}
use Rattle.ht_io.specs.declared.faults.Kind.TheVariants.{BadLength, BadMagic, BadMcs, BadVersion}
use Rattle.ht_fields.specs.Cases.{IsEnd, IsField, IsFile, Leads, octets_of_fields}
use Rattle.ht_fields.specs.Grammar.{Good}
use Rattle.ht_fields.specs.Tests.{AreBytes, differs, is_above, octet_of}
use Rattle.ht_heads.specs.Starts.{Body, Count, Magic, Over, Version, good_count, good_magic, good_version, is_outside, magic_due}
use Rattle.ht_metric.specs.declared.sample.Sample.{Sample}
use Rattle.ht_capture.specs.Contents.{AreSamples}
use Rattle.ht_capture.specs.Numbers.{sample_at}
use Rattle.ht_capture.proofs.Encoded.{sample_back}
use Rattle.ht_clause18.specs.declared.rates.LegacyRate.{LegacyRate}
use Rattle.ht_clause18.specs.Rates.{data_bits_of, needed_bits, symbols_of}
use Rattle.ht_clause18.proofs.RateFacts.{data_bits_of-range, pads_of-fills}
use Rattle.ht_counted.specs.Counted.{counted_format, entries_due, frame_limits}
use Rattle.ht_counted.proofs.Counting.{entry_is, over_is}
use Rattle.ht_counted.proofs.Passing.{bytes_behind, bytes_front, passed, same_good, within}
use Rattle.ht_legacy_files.specs.HeadedFormats.{Behind, HeadState, Index, Length, behind_head, good_index, good_length, headed, length_limits, rate_at}
use Rattle.ht_legacy_files.specs.CaptureFormats.{CaptureBody, Diagonals, Samples, captured, captures, captures_due}
use Rattle.ht_legacy_files.specs.CaptureFormats.{good_diagonals, good_samples, numbers_from, samples_from, symbols_due}
use Rattle.ht_legacy_files.specs.CaptureItems.{Begins, LegacyHead, LegacyItem, Symbol}
use Rattle.ht_legacy_files.proofs.CaptureRoutes.{behind_is, symbol_is}

abbrev State : Type 0
State = HeadState CaptureBody

-- the room of the frames among items, and how many frames begin
abbrev pub room_in : List LegacyItem → ℕ
room_in [] = 0
room_in (Begins h ∷ items) = (107 + 2 * h.length) + room_in items
room_in (Symbol samples ∷ items) = room_in items

abbrev pub begun : List LegacyItem → ℕ
begun [] = 0
begun (Begins h ∷ items) = 1 + begun items
begun (Symbol samples ∷ items) = begun items

-- a diagonal of 16 bits
abbrev pub IsDiagonal : ℕ → Type 0
IsDiagonal d = d < 2 ^ 16

-- the numbers of heads and symbols are those of their types
abbrev pub AreGood : List LegacyItem → Type 0
AreGood [] = Unit {0}
AreGood (Begins h ∷ items) = (h.length ≤ 4095) × AllByRecursion IsDiagonal h.diagonals × AreGood items
AreGood (Symbol samples ∷ items) = AreSamples samples × AreGood items

-- so many octets hold these items, of at most so many frames
pub record AreHeld (most octets : ℕ) (items : List LegacyItem) : Type 0 where
  pub few : begun items ≤ most
  pub room : 2 * room_in items ≤ octets
  pub good : AreGood items

-- first the samples of so many symbols, and then the other frames
record ReadsOn (left n octets : ℕ) (items : List LegacyItem) : Type 0 where
  rest : ℕ
  split : octets ≡ 416 * n + rest
  held : AreHeld (left - 1) rest items

-- what so many octets hold, from a state of a capture to its end
abbrev HoldsBody : CaptureBody → ℕ → List LegacyItem → Type 0
HoldsBody (Diagonals left r len) octets items = 1 ≤ left → len ≤ 4095 → AreHeld left octets items
HoldsBody (Samples left n) octets items = ReadsOn left n octets items

abbrev Holds : State → ℕ → List LegacyItem → Type 0
Holds (Magic x xs) octets items = AreHeld 65535 octets items
Holds Version octets items = AreHeld 65535 octets items
Holds Count octets items = AreHeld 65535 octets items
Holds (Body (Index left)) octets items = 1 ≤ left → AreHeld left octets items
Holds (Body (Length left r)) octets items = 1 ≤ left → AreHeld left octets items
Holds (Body (Behind body)) octets items = HoldsBody body octets items
Holds Over octets items = items ≡ []

wider : (a b m n : ℕ) (items : List LegacyItem) → a ≤ b → m ≤ n → AreHeld a m items → AreHeld b n items
wider a b m n items le more held = record {
  few = let few = held.few in omega (arith, few, le);
  room = let room = held.room in omega (arith, room, more);
  good = held.good;
}

none_held : (most octets : ℕ) (items : List LegacyItem) → items ≡ [] → AreHeld most octets items
none_held most octets items is = subst (AreHeld most octets) (sym is) (record { few = omega arith; room = omega arith; good = tt })

-- the frames that are due
frames_hold : (left octets : ℕ) (items : List LegacyItem) → Holds (captures_due left) octets items → AreHeld left octets items
frames_hold left octets items h =
    elim (cases_Bool (nat_eq left 0)) [
      | inl e ↦
          let none : left ≡ 0 = grind (arith, nat_tests) in
          none_held left octets items (subst (λ (s : State). Holds s octets items) (over_is Index left none) h)
      | inr e ↦
          let some : 0 < left = grind (arith, nat_tests) in
          let due : Holds (Body (Index left)) octets items = subst (λ (s : State). Holds s octets items) (entry_is Index left some) h in
          due (omega (arith, some))
    ]

-- the symbols that are due
symbols_hold : (left n octets : ℕ) (items : List LegacyItem) → Holds (symbols_due left n) octets items → ReadsOn left n octets items
symbols_hold left n octets items h =
    elim (cases_Bool (nat_eq n 0)) [
      | inl e ↦
          let none : n ≡ 0 = grind (arith, nat_tests) in record {
            rest = octets;
            split = omega (arith, none);
            held = frames_hold (left - 1) octets items (subst (λ (s : State). Holds s octets items) (behind_is left n none) h);
          }
      | inr e ↦
          let some : 0 < n = grind (arith, nat_tests) in subst (λ (s : State). Holds s octets items) (symbol_is left n some) h
    ]

-- the numbers of octets
bytes_from : (n : ℕ) (x : List ℕ) → AreBytes x → AreBytes (drop n x)
bytes_from n x bytes i = subst (λ (k : ℕ). k < 256) (sym (get_or-drop n x i 0)) (bytes (n + i))

pair_low : (x : List ℕ) → AreBytes x → big_number 2 x < 2 ^ 16
pair_low x bytes = let a = bytes 0 in let b = bytes 1 in omega (arith, a, b)

numbers_small : (n : ℕ) (x : List ℕ) → AreBytes x → AllByRecursion IsDiagonal (numbers_from n x)
numbers_small zero x bytes = tt
numbers_small (suc n) x bytes = (pair_low x bytes, numbers_small n (drop 2 x) (bytes_from 2 x bytes))

samples_typed : (n : ℕ) (x : List ℕ) → 8 * n ≤ length x → AreBytes x → AreSamples (samples_from n x)
samples_typed zero x long bytes = tt
samples_typed (suc n) x long bytes =
    let s = sample_back x 0 (omega (arith, long)) bytes in
    (s.0, s.1, samples_typed n (drop 8 x) (omega (arith, long, length-drop 8 x)) (bytes_from 8 x bytes))

-- a frame's octets are twice its room at least
frame_room : (r : LegacyRate) (len : ℕ) → 110 + 4 * len ≤ 416 * symbols_of r len
frame_room r len =
    let n : ℕ = symbols_of r len in
    let same : n ≤ n = omega arith in
    let bits : n * data_bits_of r ≤ n * 216 = mul-le-mul same (data_bits_of-range r).1 in
    omega (arith, pads_of-fills r len, bits)

magic_holds : (xs : List ℕ) (octets : ℕ) (items : List LegacyItem) → Holds (magic_due xs) octets items → AreHeld 65535 octets items
magic_holds [] octets items h = h
magic_holds (x ∷ xs) octets items h = h

same_holds : (s next : State) (octets : ℕ) (items : List LegacyItem) → s ≡ next → Holds next octets items → Holds s octets items
same_holds s next octets items is h = subst (λ (z : State). Holds z octets items) (sym is) h

-- the fields within a frame that give items
diagonals_hold : (left : ℕ) (r : LegacyRate) (len : ℕ) (x : List ℕ) (next : State) (here later : List LegacyItem) (rest : ℕ) → AreBytes x
    → length x ≡ 104 → good_diagonals left r len x ≡ Good next here → Holds next rest later
    → HoldsBody (Diagonals left r len) (length x + rest) (here ++ later)
unfolding good_diagonals
diagonals_hold left r len x next here later rest bytes long good h some few =
    let n : ℕ = symbols_of r len in
    let head : LegacyHead = record { rate = r; length = len; diagonals = numbers_from 52 x } in
    let same = same_good (symbols_due left n) next (Begins head ∷ []) here good in
    let on = symbols_hold left n rest later (same_holds (symbols_due left n) next rest later same.0 h) in
    let split = on.split in
    let room = on.held.room in
    let frames = on.held.few in
    subst (λ (items : List LegacyItem). AreHeld left (length x + rest) (items ++ later)) same.1
    (record {
      few = omega (arith, frames, some);
      room = omega (arith, room, split, long, frame_room r len);
      good = (few, numbers_small 52 x bytes, on.held.good);
    })

samples_hold : (left n : ℕ) (x : List ℕ) (next : State) (here later : List LegacyItem) (rest : ℕ) → AreBytes x → length x ≡ 416
    → good_samples left n x ≡ Good next here → Holds next rest later → HoldsBody (Samples left n) (length x + rest) (here ++ later)
unfolding good_samples
samples_hold left n x next here later rest bytes long good h =
    let same = same_good (symbols_due left (n - 1)) next (Symbol (samples_from 52 x) ∷ []) here good in
    let on = symbols_hold left (n - 1) rest later (same_holds (symbols_due left (n - 1)) next rest later same.0 h) in
    let split = on.split in
    let held = on.held in
    let over : ℕ = 416 + 416 * (n - 1) + on.rest - 416 * n in
    let more = wider (left - 1) (left - 1) on.rest over later (omega arith) (omega arith) held in
    subst (λ (items : List LegacyItem). ReadsOn left n (length x + rest) (items ++ later)) same.1
    (record {
      rest = over;
      split = omega (arith, split, long);
      held = record { few = more.few; room = more.room; good = (samples_typed 52 x (omega (arith, long)) bytes, more.good) };
    })

-- each good field
field_holds : (s next : State) (x : List ℕ) (here later : List LegacyItem) (rest : ℕ) → AreBytes x → IsField (captures.due s) x (Good next here)
    → Holds next rest later → Holds s (length x + rest) (here ++ later)
unfolding good_magic good_version good_count good_index good_length
field_holds (Magic y ys) next x here later rest bytes good h =
    let p = passed BadMagic (differs y) (good_magic ys) x next here good.1 in
    let same = same_good (magic_due ys) next [] here p.1 in
    subst (λ (items : List LegacyItem). AreHeld 65535 (length x + rest) (items ++ later)) same.1
    (wider 65535 65535 rest (length x + rest) later (omega arith) (omega arith)
    (magic_holds ys rest later (same_holds (magic_due ys) next rest later same.0 h)))
field_holds Version next x here later rest bytes good h =
    let p = passed BadVersion (differs 1) good_version x next here good.1 in
    let same = same_good Count next [] here p.1 in
    subst (λ (items : List LegacyItem). AreHeld 65535 (length x + rest) (items ++ later)) same.1
    (wider 65535 65535 rest (length x + rest) later (omega arith) (omega arith) (same_holds Count next rest later same.0 h))
field_holds Count next x here later rest bytes good h =
    let count : ℕ = big_number 2 x in
    let p = passed BadLength (is_outside frame_limits) (good_count (counted_format (headed captured))) x next here good.1 in
    let same = same_good (captures_due count) next [] here p.1 in
    let few = (within frame_limits x p.0).1 in
    subst (λ (items : List LegacyItem). AreHeld 65535 (length x + rest) (items ++ later)) same.1
    (wider count 65535 rest (length x + rest) later few (omega arith)
    (frames_hold count rest later (same_holds (captures_due count) next rest later same.0 h)))
field_holds (Body (Index left)) next x here later rest bytes good h =
    let p = passed BadMcs (is_above 7) (good_index left) x next here good.1 in
    let due : State = Body (Length left (rate_at (octet_of x))) in
    let same = same_good due next [] here p.1 in
    subst (λ (items : List LegacyItem). Holds (Body (Index left)) (length x + rest) (items ++ later)) same.1
    (λ some. wider left left rest (length x + rest) later (omega arith) (omega arith) (same_holds due next rest later same.0 h some))
field_holds (Body (Length left r)) next x here later rest bytes good h =
    let p = passed BadLength (is_outside length_limits) (good_length captured left r) x next here good.1 in
    let due : State = behind_head (Diagonals left r (big_number 2 x)) in
    let same = same_good due next [] here p.1 in
    let few = (within length_limits x p.0).1 in
    subst (λ (items : List LegacyItem). Holds (Body (Length left r)) (length x + rest) (items ++ later)) same.1
    (λ some. wider left left rest (length x + rest) later (omega arith) (omega arith) (same_holds due next rest later same.0 h some few))
field_holds (Body (Behind (Diagonals left r len))) next x here later rest bytes good h =
    diagonals_hold left r len x next here later rest bytes good.0 good.1 h
field_holds (Body (Behind (Samples left n))) next x here later rest bytes good h = samples_hold left n x next here later rest bytes good.0 good.1 h
field_holds Over next x here later rest bytes good h = absurd good

end_holds : (s : State) → IsEnd (captures.due s) → Holds s 0 []
end_holds (Magic y ys) e = absurd e
end_holds Version e = absurd e
end_holds Count e = absurd e
end_holds (Body (Index left)) e = absurd e
end_holds (Body (Length left r)) e = absurd e
end_holds (Body (Behind (Diagonals left r len))) e = absurd e
end_holds (Body (Behind (Samples left n))) e = absurd e
end_holds Over e = refl

-- all good fields up to the end
all_hold : (fields : List (List ℕ)) (s t : State) (items : List LegacyItem) → AreBytes (octets_of_fields fields)
    → Leads captures s fields items t → IsEnd (captures.due t) → Holds s (length (octets_of_fields fields)) items
all_hold [] s t items bytes leads end =
    subst (λ (z : List LegacyItem). Holds s 0 z) (sym leads.0) (end_holds s (subst (λ (z : State). IsEnd (captures.due z)) (sym leads.1) end))
all_hold (x ∷ xs) s t items bytes leads end =
    let rest = all_hold xs leads.0 t leads.2 (bytes_behind x (octets_of_fields xs) bytes) leads.4 end in
    let here = field_holds s leads.0 x leads.1 leads.2 (length (octets_of_fields xs)) (bytes_front x (octets_of_fields xs) bytes) leads.3 rest in
    subst (λ (z : List LegacyItem). Holds s (length (x ++ octets_of_fields xs)) z) (sym leads.5)
    (subst (λ (n : ℕ). Holds s n (leads.1 ++ leads.2)) (sym (length-append x (octets_of_fields xs))) here)

-- the items of a capture
pub file_holds : (octets : List ℕ) (items : List LegacyItem) → AreBytes octets → IsFile captures octets items → AreHeld 65535 (length octets) items
file_holds octets items bytes file =
    let reaches = file.2 in
    let all : octets ≡ octets_of_fields reaches.fields = reaches.split ∙ append-nil (octets_of_fields reaches.fields) in
    subst (λ (o : List ℕ). AreHeld 65535 (length o) items) (sym all)
    (all_hold reaches.fields captures.start file.1 items (subst AreBytes all bytes) reaches.good file.3)
