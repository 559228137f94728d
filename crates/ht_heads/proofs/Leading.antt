-- How the octets in front of frames lead through the fields of a file, in any format.
use Rattle.std.proofs.Common.{◌≡◌, inl, inr, ℕ, zero, suc, ◌+◌, ◌^◌, ◌<◌, ◌≤◌, List, [], ◌∷◌, ◌++◌, length, take, drop, slice_index}
use Rattle.std.proofs.Common.{nat_eq, true, false, refl, sym, ap, subst, ◌∙◌, arith}
use Rattle.std.proofs.lemmas.Bool.Decides.{nat_tests}
use Rattle.std.proofs.lemmas.List.{drop_more, take_more}
use Rattle.byteorder.specs.Endian.{big_bytes, big_number}
use Rattle.byteorder.specs.Numbers.{big_number-reads_back}
use Rattle.ht_io.specs.Devices.{Device}
use Rattle.ht_io.specs.declared.faults.InFault.{InFault}
use Rattle.ht_io.specs.declared.faults.Kind.TheVariants.{BadMagic, BadBandwidth, BadMcs, BadLength}
use Rattle.ht_fields.specs.Grammar.{Grammar}
use Rattle.ht_fields.specs.Readers.{reader_in}
use Rattle.ht_fields.specs.Tests.{differs, is_above, is_zero}
use Rattle.ht_fields.specs.WholeFiles.{StopsWithCause}
use Rattle.ht_fields.proofs.Choices.{when_true, when_false}
use Rattle.ht_fields.proofs.Halting.{Judges, behind_halts, fails_halts}
use Rattle.ht_fields.proofs.Routes.{Route, route_as, route_from, route_none, route_then}
use Rattle.ht_rate.specs.declared.rates.Rate.{Rate}
use Rattle.ht_heads.specs.Heads.{HeadFails, MagicFails, rate_octets}

pub same_octet : (x wanted : ℕ) → x ≡ wanted → differs wanted (x ∷ []) ≡ false
same_octet x wanted e = let t : nat_eq x wanted ≡ true = grind (arith, nat_tests) in when_true _ _ _ t

pub other_octet : (x wanted : ℕ) → (x ≡ wanted → ⊥) → differs wanted (x ∷ []) ≡ true
other_octet x wanted e = let t : nat_eq x wanted ≡ false = grind (arith, nat_tests) in when_false _ _ _ t

pub not_above : (x last : ℕ) → x ≤ last → is_above last (x ∷ []) ≡ false
not_above x last le = grind (arith, nat_tests)

pub some_length : (len : ℕ) → len < 2 ^ 16 → 1 ≤ len → is_zero (big_bytes 2 len) ≡ false
some_length len small some =
    let back : big_number 2 (big_bytes 2 len) ≡ len = big_number-reads_back 2 len [] small in
    let t : nat_eq len 0 ≡ false = grind (arith, nat_tests) in
    ap (λ (n : ℕ). nat_eq n 0) back ∙ t

-- a magic is due, octet by octet
pub record HasMagic {S I : Type 0} (f : Grammar S I) (due : List ℕ → S) : Type 0 where
  pub octet : (x : ℕ) (more : List ℕ) → Route f (due (x ∷ more)) (due more) (x ∷ []) []
  pub judges : (x : ℕ) (more : List ℕ) → Judges f (due (x ∷ more)) 1 BadMagic (differs x)

next_magic : {S : Type 0} (due : List ℕ → S) (magic : List ℕ) (k : ℕ) → k < length magic
    → due (drop k magic) ≡ due (slice_index magic k ∷ drop (k + 1) magic)
next_magic due magic k few = ap due (drop_more magic k 0 few)

-- the first octets of the magic
pub route_magic : {S I : Type 0} (f : Grammar S I) (due : List ℕ → S) (magic : List ℕ) (k : ℕ) → HasMagic f due → k ≤ length magic
    → Route f (due magic) (due (drop k magic)) (take k magic) []
route_magic f due magic zero m le = route_none f (due magic) (due (drop 0 magic)) refl
route_magic f due magic (suc k) m le =
    let few : k < length magic = omega arith in
    let one : k + 1 ≡ suc k = omega arith in
    let step : Route f (due (drop k magic)) (due (drop (k + 1) magic)) (slice_index magic k ∷ []) [] =
    route_from f (due (drop k magic)) (due (slice_index magic k ∷ drop (k + 1) magic)) (due (drop (k + 1) magic)) (slice_index magic k ∷ []) []
    (next_magic due magic k few) (m.octet (slice_index magic k) (drop (k + 1) magic)) in
    let both : Route f (due magic) (due (drop (k + 1) magic)) (take (k + 1) magic) [] =
    route_as f (due magic) (due (drop (k + 1) magic)) (take k magic ++ (slice_index magic k ∷ [])) (take (k + 1) magic) [] (sym (take_more magic k 0 few))
    (route_then f (due magic) (due (drop k magic)) (due (drop (k + 1) magic)) (take k magic) (slice_index magic k ∷ []) [] []
    (route_magic f due magic k m (omega (arith, few))) step) in
    subst (λ (n : ℕ). Route f (due magic) (due (drop n magic)) (take n magic) []) one both

-- the magic was not read
pub magic_halts : {S I : Type 0} (f : Grammar S I) (due : List ℕ → S) (magic : List ℕ) (at : ℕ) (source after : Device ℕ) (fault : InFault)
    → HasMagic f due → MagicFails magic at source after fault → StopsWithCause (reader_in f (due magic) at source) after fault
magic_halts {S = S} f due magic at source after fault m (k, few, fails) =
    let x = slice_index magic k in
    let judges : Judges f (due (drop k magic)) 1 BadMagic (differs x) =
    subst (λ (s : S). Judges f s 1 BadMagic (differs x)) (sym (next_magic due magic k few)) (m.judges x (drop (k + 1) magic)) in
    behind_halts f (due magic) (due (drop k magic)) (take k magic) at 1 BadMagic (differs x) source after fault
    (route_magic f due magic k m (omega (arith, few))) judges fails

-- the head of a frame is due: in a state, behind the code of the bandwidth, and behind the MCS
pub record HasHead {S I : Type 0} (f : Grammar S I) (s : S) (mcs : ℕ → S) (len : Rate → S) : Type 0 where
  pub bandwidth : Judges f s 1 BadBandwidth (is_above 1)
  pub code : (code : ℕ) → code ≤ 1 → Route f s (mcs code) (code ∷ []) []
  pub mcs_due : (code : ℕ) → Judges f (mcs code) 1 BadMcs (is_above 31)
  pub rate : (rate : Rate) → Route f s (len rate) (rate_octets rate) []
  pub len_due : (rate : Rate) → Judges f (len rate) 2 BadLength is_zero

-- the head of a frame was not read
pub head_halts : {S I : Type 0} (f : Grammar S I) (s : S) (mcs : ℕ → S) (len : Rate → S) (at : ℕ) (source after : Device ℕ) (fault : InFault)
    → HasHead f s mcs len → HeadFails at source after fault → StopsWithCause (reader_in f s at source) after fault
head_halts f s mcs len at source after fault h (inl fails) =
    fails_halts f s at 1 BadBandwidth (is_above 1) source after fault h.bandwidth fails
head_halts f s mcs len at source after fault h (inr (inl (code, low, fails))) =
    behind_halts f s (mcs code) (code ∷ []) at 1 BadMcs (is_above 31) source after fault (h.code code low) (h.mcs_due code) fails
head_halts f s mcs len at source after fault h (inr (inr (rate, fails))) =
    behind_halts f s (len rate) (rate_octets rate) at 2 BadLength is_zero source after fault (h.rate rate) (h.len_due rate) fails
