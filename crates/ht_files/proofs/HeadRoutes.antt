-- How the octets of a head lead through the fields of a file, in any format with heads.
use Rattle.std.proofs.Common.{◌≡◌, ℕ, ◌+◌, ◌^◌, ◌<◌, ◌≤◌, [], ◌∷◌, length, Result, Ok, Err, IfErr, refl, sym, ap, subst, arith}
use Rattle.byteorder.specs.Endian.{big_bytes}
use Rattle.byteorder.specs.Numbers.{big_number-reads_back}
use Rattle.ht_io.specs.Devices.{Device}
use Rattle.ht_io.specs.declared.faults.InFault.{InFault}
use Rattle.ht_io.specs.declared.faults.Kind.TheVariants.{BadBandwidth, BadMcs, BadLength}
use Rattle.ht_fields.specs.Grammar.{Verdict, Good}
use Rattle.ht_fields.specs.Readers.{reader_in}
use Rattle.ht_fields.specs.Tests.{is_above, is_zero}
use Rattle.ht_fields.specs.WholeFiles.{EndsEarly}
use Rattle.ht_fields.proofs.Choices.{checked_good}
use Rattle.ht_fields.proofs.Endings.{halts_ends}
use Rattle.ht_fields.proofs.Halting.{Judges, judges_checked}
use Rattle.ht_fields.proofs.Routes.{Route, route_field, route_from, route_then}
use Rattle.ht_rate.specs.declared.rates.Rate.{Rate}
use Rattle.ht_rate.specs.Schemes.{bandwidth_code}
use Rattle.ht_rate.specs.Rates.{bandwidth_of, mcs_of}
use Rattle.ht_rate.proofs.Numbers.{rate_at-named, bandwidth_code-bound}
use Rattle.ht_rate.proofs.RateFacts.{mcs_of-range}
use Rattle.ht_heads.specs.Heads.{HeadFails, head_octets, rate_octets}
use Rattle.ht_heads.specs.Starts.{Body}
use Rattle.ht_heads.proofs.Leading.{HasHead, head_halts, not_above, some_length}
use Rattle.ht_counted.proofs.Counting.{entry_is}
use Rattle.ht_files.specs.HeadedFormats.{HeadState, Bandwidth, Mcs, Length, HeadedFormat, behind_head, frame_due}
use Rattle.ht_files.specs.HeadedFormats.{good_bandwidth, good_length, good_mcs, grammar_of}

-- the bandwidth of a frame
route_bandwidth : {B I : Type 0} (h : HeadedFormat B I) (left code : ℕ) → 0 < left → code ≤ 1
    → Route (grammar_of h) (frame_due left) (Body (Mcs left code)) (code ∷ []) []
unfolding good_bandwidth
route_bandwidth h left code some low = route_from (grammar_of h) (frame_due left) (Body (Bandwidth left)) (Body (Mcs left code)) (code ∷ []) []
    (entry_is Bandwidth left some)
    (route_field (grammar_of h) (Body (Bandwidth left)) (Body (Mcs left code)) (code ∷ []) []
    (refl, checked_good BadBandwidth (is_above 1) (good_bandwidth left) (code ∷ []) _ (not_above code 1 low) refl))

mcs_is : {B I : Type 0} (h : HeadedFormat B I) (left : ℕ) (rate : Rate)
    → (let v : Verdict (HeadState B) I = good_mcs left (bandwidth_code (bandwidth_of rate)) (mcs_of rate ∷ []) in v) ≡ Good (Body (Length left rate)) []
unfolding good_mcs bandwidth_of
mcs_is {B = B} {I = I} h left rate = ap (λ (r : Rate). let v : Verdict (HeadState B) I = Good (Body (Length left r)) [] in v) (rate_at-named rate)

-- bandwidth and MCS
route_rate : {B I : Type 0} (h : HeadedFormat B I) (left : ℕ) (rate : Rate) → 0 < left
    → Route (grammar_of h) (frame_due left) (Body (Length left rate)) (rate_octets rate) []
route_rate h left rate some =
    let f = grammar_of h in
    let code = bandwidth_code (bandwidth_of rate) in
    route_then f (frame_due left) (Body (Mcs left code)) (Body (Length left rate)) (code ∷ []) (mcs_of rate ∷ []) [] []
    (route_bandwidth h left code some (bandwidth_code-bound (bandwidth_of rate)))
    (route_field f (Body (Mcs left code)) (Body (Length left rate)) (mcs_of rate ∷ []) []
    (refl, checked_good BadMcs (is_above 31) (good_mcs left code) (mcs_of rate ∷ []) _ (not_above (mcs_of rate) 31 (mcs_of-range rate)) (mcs_is h left rate)))

length_is : {B I : Type 0} (h : HeadedFormat B I) (left : ℕ) (rate : Rate) (len : ℕ) → len < 2 ^ 16
    → good_length h left rate (big_bytes 2 len) ≡ Good (behind_head (h.first left rate len)) []
unfolding good_length
length_is {B = B} {I = I} h left rate len small =
    ap (λ (n : ℕ). let v : Verdict (HeadState B) I = Good (behind_head (h.first left rate n)) [] in v) (big_number-reads_back 2 len [] small)

-- bandwidth, MCS and length
pub route_head : {B I : Type 0} (h : HeadedFormat B I) (left : ℕ) (rate : Rate) (len : ℕ) → 0 < left → 1 ≤ len → len < 2 ^ 16
    → Route (grammar_of h) (frame_due left) (behind_head (h.first left rate len)) (head_octets rate len) []
route_head h left rate len left_some some small =
    let f = grammar_of h in
    route_then f (frame_due left) (Body (Length left rate)) (behind_head (h.first left rate len)) (rate_octets rate) (big_bytes 2 len) [] []
    (route_rate h left rate left_some)
    (route_field f (Body (Length left rate)) (behind_head (h.first left rate len)) (big_bytes 2 len) []
    (refl, checked_good BadLength is_zero (good_length h left rate) (big_bytes 2 len) _ (some_length len small some) (length_is h left rate len small)))

-- the head of a frame is due
has_head : {B I : Type 0} (h : HeadedFormat B I) (left : ℕ) → 0 < left
    → HasHead (grammar_of h) (frame_due left) (λ code. Body (Mcs left code)) (λ rate. Body (Length left rate))
has_head {B = B} h left some = record {
  bandwidth = subst (λ (s : HeadState B). Judges (grammar_of h) s 1 BadBandwidth (is_above 1)) (sym (entry_is Bandwidth left some))
      (judges_checked (grammar_of h) (Body (Bandwidth left)) 1 BadBandwidth (is_above 1) (good_bandwidth left) refl (omega arith) (λ e. cc, λ e. cc));
  code = λ code low. route_bandwidth h left code some low;
  mcs_due = λ code. judges_checked (grammar_of h) (Body (Mcs left code)) 1 BadMcs (is_above 31) (good_mcs left code) refl (omega arith) (λ e. cc, λ e. cc);
  rate = λ rate. route_rate h left rate some;
  len_due = λ rate. judges_checked (grammar_of h) (Body (Length left rate)) 2 BadLength is_zero (good_length h left rate) refl (omega arith) (λ e. cc, λ e. cc);
}

-- the head of a frame was not read
pub head_ends : {B I : Type 0} (h : HeadedFormat B I) (left at : ℕ) (source after : Device ℕ) (fault : InFault)
    → 0 < left → HeadFails at source after fault → EndsEarly (reader_in (grammar_of h) (frame_due left) at source) after fault
head_ends h left at source after fault some fails =
    halts_ends (reader_in (grammar_of h) (frame_due left) at source) after fault
    (head_halts (grammar_of h) (frame_due left) (λ code. Body (Mcs left code)) (λ rate. Body (Length left rate)) at source after fault
    (has_head h left some) fails)

pub heads_end : {B I A : Type 0} (h : HeadedFormat B I) (left at : ℕ) (source after : Device ℕ) (result : Result A InFault) → 0 < left
    → IfErr result (HeadFails at source after) → IfErr result (EndsEarly (reader_in (grammar_of h) (frame_due left) at source) after)
heads_end h left at source after (Ok head) some fails = tt
heads_end h left at source after (Err fault) some fails = head_ends h left at source after fault some fails

pub head_size : (rate : Rate) (len at : ℕ) → at + 4 ≡ at + length (head_octets rate len)
head_size rate len at = refl
