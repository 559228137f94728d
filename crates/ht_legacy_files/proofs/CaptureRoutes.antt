-- How the octets of a capture lead through the fields of its format.
use Rattle.std.proofs.Common.{◌≡◌, ℕ, zero, suc, ◌-◌, ◌*◌, ◌^◌, ◌<◌, ◌≤◌, List, [], ◌∷◌, ◌++◌, length, take, drop, flat_map, All}
use Rattle.std.proofs.Common.{nat_eq, true, false, refl, sym, ap, ◌∙◌, arith}
use Rattle.std.proofs.lemmas.Bool.Decides.{nat_tests}
use Rattle.std.proofs.lemmas.List.{length-drop, length-take-le}
use Rattle.std.proofs.lemmas.List.Elements.{All-head, All-tail}
use Rattle.byteorder.specs.Endian.{big_bytes}
use Rattle.byteorder.specs.Numbers.{big_number-reads_back}
use Rattle.ht_fields.specs.Cases.{IsFile}
use Rattle.ht_fields.specs.Grammar.{Verdict, Good}
use Rattle.ht_fields.proofs.Choices.{when_true, when_false}
use Rattle.ht_fields.proofs.Putting.{map_split}
use Rattle.ht_fields.proofs.Readers.{field_is}
use Rattle.ht_fields.proofs.Routes.{Route, route_as, route_field, route_from, route_none, route_then, route_to}
use Rattle.ht_metric.specs.declared.sample.Sample.{Sample}
use Rattle.ht_capture.specs.Contents.{AreSamples}
use Rattle.ht_capture.specs.Files.{sample_octets}
use Rattle.ht_capture.proofs.Decoded.{length-samples, sample_read}
use Rattle.ht_capture.proofs.Filed.{samples_before, samples_behind}
use Rattle.ht_clause18.specs.Carriers.{carriers}
use Rattle.ht_clause18.specs.Rates.{index_of, symbols_of}
use Rattle.ht_counted.proofs.Counting.{file_written, is_count}
use Rattle.ht_legacy_files.specs.HeadedFormats.{HeadState, behind_head, headed}
use Rattle.ht_legacy_files.proofs.HeadRoutes.{route_head as route_front}
use Rattle.ht_legacy_files.specs.CaptureFormats.{CaptureBody, Diagonals, Samples, captured, captures, captures_due}
use Rattle.ht_legacy_files.specs.CaptureFormats.{good_diagonals, good_samples, numbers_from, samples_from, symbols_due}
use Rattle.ht_legacy_files.specs.CaptureFiles.{AreCaptures, IsCapture, LegacyCapture, capture_items, capture_octets, captures_file_of, head_octets, items_of}
use Rattle.ht_legacy_files.specs.CaptureFiles.{symbols_from}
use Rattle.ht_legacy_files.specs.CaptureItems.{LegacyHead, LegacyItem, Begins, Symbol}

abbrev pub State : Type 0
State = HeadState CaptureBody

pub symbol_is : (left n : ℕ) → 0 < n → symbols_due left n ≡ behind_head (Samples left n)
unfolding symbols_due
symbol_is left n some = let t : nat_eq n 0 ≡ false = grind (arith, nat_tests) in when_false _ _ _ t

pub behind_is : (left n : ℕ) → n ≡ 0 → symbols_due left n ≡ captures_due (left - 1)
unfolding symbols_due
behind_is left n none = let t : nat_eq n 0 ≡ true = grind (arith, nat_tests) in when_true _ _ _ t

-- numbers of two octets that were written
length-numbers : (ds : List ℕ) → length (flat_map (big_bytes 2) ds) ≡ length ds * 2
length-numbers [] = refl
length-numbers (d ∷ ds) = omega (arith, length-numbers ds)

numbers_read : (ds : List ℕ) → All (λ d. d < 2 ^ 16) ds → numbers_from (length ds) (flat_map (big_bytes 2) ds) ≡ ds
numbers_read [] small = refl
numbers_read (d ∷ ds) small =
    let more : List ℕ = flat_map (big_bytes 2) ds in
    let head : d < 2 ^ 16 = All-head (λ n. n < 2 ^ 16) d ds small in
    let fits : d < 256 ^ 2 = omega (arith, head) in
    ap (λ n. n ∷ numbers_from (length ds) more) (big_number-reads_back 2 d more fits)
    ∙ ap (λ (ns : List ℕ). d ∷ ns) (numbers_read ds (All-tail (λ n. n < 2 ^ 16) d ds small))

-- and samples
samples_read : (ss : List Sample) → AreSamples ss → samples_from (length ss) (flat_map sample_octets ss) ≡ ss
samples_read [] typed = refl
samples_read (s ∷ ss) typed =
    let more : List ℕ = flat_map sample_octets ss in
    ap (λ (x : Sample). x ∷ samples_from (length ss) more) (sample_read (sample_octets s ++ more) more 0 s refl typed.0 typed.1)
    ∙ ap (λ (xs : List Sample). s ∷ xs) (samples_read ss typed.2)

-- the diagonals, and what they complete
head_is : (left : ℕ) (h : LegacyHead) → length h.diagonals ≡ carriers → All (λ d. d < 2 ^ 16) h.diagonals
    → good_diagonals left h.rate h.length (flat_map (big_bytes 2) h.diagonals) ≡ Good (symbols_due left (symbols_of h.rate h.length)) (Begins h ∷ [])
unfolding good_diagonals
head_is left h count small =
    let octets : List ℕ = flat_map (big_bytes 2) h.diagonals in
    let back : numbers_from carriers octets ≡ h.diagonals = ap (λ n. numbers_from n octets) (sym count) ∙ numbers_read h.diagonals small in
    ap (λ (ds : List ℕ).
    let begun : LegacyItem = Begins (record { rate = h.rate; length = h.length; diagonals = ds }) in
    let v : Verdict State LegacyItem = Good (symbols_due left (symbols_of h.rate h.length)) (begun ∷ []) in
    v) back

route_head : (left : ℕ) (h : LegacyHead) → 0 < left → 1 ≤ h.length → h.length ≤ 4095 → length h.diagonals ≡ carriers → All (λ d. d < 2 ^ 16) h.diagonals
    → Route captures (captures_due left) (symbols_due left (symbols_of h.rate h.length)) (head_octets h) (Begins h ∷ [])
unfolding head_octets
route_head left h left_some some few count small =
    let s : State = behind_head (Diagonals left h.rate h.length) in
    let t : State = symbols_due left (symbols_of h.rate h.length) in
    let octets : List ℕ = flat_map (big_bytes 2) h.diagonals in
    let wide : length octets ≡ carriers * 2 = length-numbers h.diagonals ∙ ap (λ n. n * 2) count in
    route_then captures (captures_due left) s t (index_of h.rate ∷ big_bytes 2 h.length) octets [] (Begins h ∷ [])
    (route_front captured left h.rate h.length left_some some few)
    (route_field captures s t octets (Begins h ∷ [])
    (field_is (carriers * 2) (good_diagonals left h.rate h.length) octets _ (omega arith) wide (head_is left h count small)))

-- a symbol
symbol_read : (left n : ℕ) (ss : List Sample) → length ss ≡ carriers → AreSamples ss
    → good_samples left n (flat_map sample_octets ss) ≡ Good (symbols_due left (n - 1)) (Symbol ss ∷ [])
unfolding good_samples
symbol_read left n ss count typed =
    let octets : List ℕ = flat_map sample_octets ss in
    let back : samples_from carriers octets ≡ ss = ap (λ k. samples_from k octets) (sym count) ∙ samples_read ss typed in
    ap (λ (xs : List Sample). let v : Verdict State LegacyItem = Good (symbols_due left (n - 1)) (Symbol xs ∷ []) in v) back

route_symbol : (left n : ℕ) (ss : List Sample) → 0 < n → length ss ≡ carriers → AreSamples ss
    → Route captures (symbols_due left n) (symbols_due left (n - 1)) (flat_map sample_octets ss) (Symbol ss ∷ [])
route_symbol left n ss some count typed =
    let octets : List ℕ = flat_map sample_octets ss in
    let wide : length octets ≡ carriers * 8 = omega (arith, length-samples ss, count) in
    route_from captures (symbols_due left n) (behind_head (Samples left n)) (symbols_due left (n - 1)) octets (Symbol ss ∷ []) (symbol_is left n some)
    (route_field captures (behind_head (Samples left n)) (symbols_due left (n - 1)) octets (Symbol ss ∷ [])
    (field_is (carriers * 8) (good_samples left n) octets _ (omega arith) wide (symbol_read left n ss count typed)))

no_samples : (ss : List Sample) → length ss ≡ 0 → ss ≡ []
no_samples [] none = refl
no_samples (s ∷ ss) none = absurd (omega (arith, none))

-- a number of symbols
route_symbols : (n left : ℕ) (ss : List Sample) → length ss ≡ n * carriers → AreSamples ss
    → Route captures (symbols_due left n) (captures_due (left - 1)) (flat_map sample_octets ss) (symbols_from n ss)
route_symbols zero left ss count typed =
    let none : ss ≡ [] = no_samples ss (omega (arith, count)) in
    route_as captures _ _ _ _ [] (ap (λ (xs : List Sample). flat_map sample_octets xs) (sym none))
    (route_none captures _ _ (behind_is left 0 refl))
route_symbols (suc n) left ss count typed =
    let enough : carriers ≤ length ss = omega (arith, count) in
    let first : length (take carriers ss) ≡ carriers = length-take-le carriers ss enough in
    let rest : length (drop carriers ss) ≡ n * carriers = omega (arith, length-drop carriers ss, count) in
    let less : suc n - 1 ≡ n = omega arith in
    route_as captures _ _ _ _ _ (map_split sample_octets ss carriers)
    (route_then captures (symbols_due left (suc n)) (symbols_due left n) (captures_due (left - 1)) (flat_map sample_octets (take carriers ss))
    (flat_map sample_octets (drop carriers ss)) (Symbol (take carriers ss) ∷ []) (symbols_from n (drop carriers ss))
    (route_to captures _ _ _ _ _ (ap (symbols_due left) less)
    (route_symbol left (suc n) (take carriers ss) (omega arith) first (samples_before carriers ss typed)))
    (route_symbols n left (drop carriers ss) rest (samples_behind carriers ss typed)))

-- a frame
route_capture : (left : ℕ) (c : LegacyCapture) → 0 < left → IsCapture c
    → Route captures (captures_due left) (captures_due (left - 1)) (capture_octets c) (capture_items c)
unfolding capture_octets
route_capture left c some is =
    let n = symbols_of c.head.rate c.head.length in
    route_then captures (captures_due left) (symbols_due left n) (captures_due (left - 1)) (head_octets c.head) (flat_map sample_octets c.samples)
    (Begins c.head ∷ []) (symbols_from n c.samples)
    (route_head left c.head some is.some is.few is.diagonals is.small) (route_symbols n left c.samples is.samples is.typed)

pub captures_written : (cs : List LegacyCapture) → AreCaptures cs → IsFile captures (captures_file_of cs) (items_of cs)
unfolding captures_file_of
captures_written = file_written (headed captured) capture_octets capture_items IsCapture is_count route_capture
