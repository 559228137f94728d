-- The magic of a capture and the head of its frames, as fields of a capture.
use Rattle.std.proofs.Common.{◌≡◌, ℕ, ◌<◌, ◌≤◌, List, [], ◌∷◌, nat_eq, Bool, true, false, if◌then◌else◌, refl, sym, subst}
use Rattle.ht_io.specs.declared.faults.Kind.TheVariants.{BadMagic, BadBandwidth, BadMcs, BadLength}
use Rattle.ht_fields.specs.Grammar.{Bad}
use Rattle.ht_fields.specs.Tests.{differs, is_above, is_zero, octet_of}
use Rattle.ht_fields.proofs.Choices.{when_true, when_false}
use Rattle.ht_fields.proofs.Halting.{Judges}
use Rattle.ht_rate.specs.declared.rates.Rate.{Rate}
use Rattle.ht_rate.specs.Schemes.{bandwidth_code}
use Rattle.ht_rate.specs.Rates.{bandwidth_of, mcs_of}
use Rattle.ht_rate.proofs.Numbers.{rate_of-named, bandwidth_code-bound}
use Rattle.ht_heads.specs.Heads.{rate_octets}
use Rattle.ht_heads.proofs.Leading.{HasHead, HasMagic}
use Rattle.ht_capture.specs.declared.places.Turn.{Turn}
use Rattle.ht_capture.specs.Fields.{CaptureState, Magic, Bandwidth, Mcs, Length, captures, capture_magic_due, turn_due}
use Rattle.ht_capture.specs.Fields.{judge_bandwidth, judge_length, judge_magic, judge_mcs}
use Rattle.ht_capture.proofs.Judges.{good_bandwidth, good_magic, good_mcs}
use Rattle.ht_capture.proofs.Routes.{Route, route_field, route_from, route_then}
use Rattle.ht_capture.proofs.Turns.{frame_is}

other : (b : Bool) → (if b then false else true) ≡ true → b ≡ false
other true e = cc
other false e = refl

bad_octet : (x : ℕ) (more octets : List ℕ) → differs x octets ≡ true → judge_magic x more octets ≡ Bad BadMagic
unfolding judge_magic
bad_octet x more octets is = let t : nat_eq (octet_of octets) x ≡ false = other (nat_eq (octet_of octets) x) is in when_false _ _ _ t

-- an octet of the magic is due
pub has_magic : HasMagic captures capture_magic_due
has_magic = record {
  octet = λ x more. route_field (Magic x more) (capture_magic_due more) (x ∷ []) [] (refl, good_magic x more x refl);
  judges = λ x more. record { wide = refl; bad = λ octets len is. (len, bad_octet x more octets is); named = (λ e. cc, λ e. cc) };
}

bad_code : (turn : Turn) (octets : List ℕ) → is_above 1 octets ≡ true → judge_bandwidth turn octets ≡ Bad BadBandwidth
unfolding judge_bandwidth
bad_code turn octets is = when_true _ _ _ is

bad_index : (turn : Turn) (code : ℕ) (octets : List ℕ) → is_above 31 octets ≡ true → judge_mcs turn code octets ≡ Bad BadMcs
unfolding judge_mcs
bad_index turn code octets is = when_true _ _ _ is

bad_size : (turn : Turn) (rate : Rate) (octets : List ℕ) → is_zero octets ≡ true → judge_length turn rate octets ≡ Bad BadLength
unfolding judge_length
bad_size turn rate octets is = when_true _ _ _ is

-- the code of the bandwidth
route_code : (turn : Turn) → 0 < turn.left → (code : ℕ) → code ≤ 1 → Route (turn_due turn) (Mcs turn code) (code ∷ []) []
route_code turn left code low =
    route_from (turn_due turn) (Bandwidth turn) (Mcs turn code) (code ∷ []) [] (frame_is turn left)
    (route_field (Bandwidth turn) (Mcs turn code) (code ∷ []) [] (refl, good_bandwidth turn code low))

-- bandwidth and MCS
route_rate : (turn : Turn) → 0 < turn.left → (rate : Rate) → Route (turn_due turn) (Length turn rate) (rate_octets rate) []
route_rate turn left rate =
    let code = bandwidth_code (bandwidth_of rate) in
    route_then (turn_due turn) (Mcs turn code) (Length turn rate) (code ∷ []) (mcs_of rate ∷ []) [] []
    (route_code turn left code (bandwidth_code-bound (bandwidth_of rate)))
    (route_field (Mcs turn code) (Length turn rate) (mcs_of rate ∷ []) []
    (refl, good_mcs turn code (mcs_of rate) rate (bandwidth_code-bound (bandwidth_of rate)) (rate_of-named rate)))

-- the head of a frame is due
pub has_head : (turn : Turn) → 0 < turn.left → HasHead captures (turn_due turn) (Mcs turn) (Length turn)
has_head turn left = record {
  bandwidth = subst (λ (s : CaptureState). Judges captures s 1 BadBandwidth (is_above 1)) (sym (frame_is turn left))
      (record { wide = refl; bad = λ octets len is. (len, bad_code turn octets is); named = (λ e. cc, λ e. cc) });
  code = λ code low. route_code turn left code low;
  mcs_due = λ code. record { wide = refl; bad = λ octets len is. (len, bad_index turn code octets is); named = (λ e. cc, λ e. cc) };
  rate = λ rate. route_rate turn left rate;
  len_due = λ rate. record { wide = refl; bad = λ octets len is. (len, bad_size turn rate octets is); named = (λ e. cc, λ e. cc) };
}
