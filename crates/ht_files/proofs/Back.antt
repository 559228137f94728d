-- Field by field back through the head of a frame: its octets are those that are written of a frame.
use Rattle.std.proofs.Common.{◌≡◌, ℕ, ◌-◌, ◌^◌, ◌<◌, ◌≤◌, List, [], ◌∷◌, ◌++◌, length, flat_map, sym, ap, ◌∙◌, append_assoc, arith}
use Rattle.std.specs.List.{AllByRecursion}
use Rattle.byteorder.specs.Endian.{big_bytes, big_number}
use Rattle.ht_io.specs.declared.faults.Kind.TheVariants.{BadBandwidth, BadMcs, BadLength}
use Rattle.ht_fields.specs.Grammar.{Good}
use Rattle.ht_fields.specs.Cases.{IsEnd, IsField, IsFile}
use Rattle.ht_fields.specs.Tests.{AreBytes, is_above, is_zero, octet_of}
use Rattle.ht_rate.specs.declared.rates.Rate.{Rate}
use Rattle.ht_rate.specs.Schemes.{bandwidth_code}
use Rattle.ht_rate.specs.Rates.{bandwidth_of, mcs_of, rate_at}
use Rattle.ht_rate.proofs.Numbers.{rate_at-bandwidth, rate_at-mcs}
use Rattle.ht_heads.specs.Heads.{head_octets}
use Rattle.ht_heads.specs.Starts.{Body}
use Rattle.ht_counted.specs.Counted.{AreCounted, IsCounted, counted_octets, frame_limits}
use Rattle.ht_counted.proofs.Back.{EntriesTail, Wrote, entries_back, of_file, wrote_as}
use Rattle.ht_counted.proofs.Passing.{at_most, not_none, passed, same_good, single}
use Rattle.ht_files.specs.HeadedFormats.{HeadBody, HeadState, Bandwidth, Mcs, Length, Behind, HeadedFormat, behind_head, frame_due}
use Rattle.ht_files.specs.HeadedFormats.{good_bandwidth, good_length, good_mcs, grammar_of, head_due, headed}
use Rattle.ht_files.proofs.Passing.{pair}

-- A format with heads, with the rate and the length of what its frames show, the octets behind a head, which frames can be
-- written, and what is written from a state behind a head on.
module _ {B V : Type 0} (h : HeadedFormat B V) (rate : V → Rate) (size : V → ℕ) (body : V → List ℕ) (Fit : V → Type 0) (Wrote_body : B → List ℕ → Type 0) where
  -- a frame
  abbrev pub whole : V → List ℕ
  whole v = head_octets (rate v) (size v) ++ body v

  -- the last octets of a frame, and then those of the frames behind it
  abbrev pub FrameTail : ℕ → (V → List ℕ) → (V → Type 0) → List ℕ → Type 0
  FrameTail left front Has octets =
      (v : V) × (frames : List V) × Has v × (octets ≡ (front v ++ body v) ++ flat_map whole frames) × (length frames ≡ left - 1)
      × Fit v × AllByRecursion Fit frames

  abbrev pub BodyTail : ℕ → Rate → ℕ → List ℕ → Type 0
  BodyTail left r len octets = FrameTail left (λ v. []) (λ v. (rate v ≡ r) × (size v ≡ len)) octets

  -- what is written from a state of a frame on
  abbrev pub Wrote_head : HeadBody B → List ℕ → Type 0
  Wrote_head (Bandwidth left) octets = FrameTail left (λ v. head_octets (rate v) (size v)) (λ v. Unit {0}) octets
  Wrote_head (Mcs left code) octets =
      FrameTail left (λ v. mcs_of (rate v) ∷ big_bytes 2 (size v)) (λ v. code ≤ 1 → bandwidth_code (bandwidth_of (rate v)) ≡ code) octets
  Wrote_head (Length left r) octets = FrameTail left (λ v. big_bytes 2 (size v)) (λ v. rate v ≡ r) octets
  Wrote_head (Behind b) octets = Wrote_body b octets

  -- and from any state
  abbrev pub Wrote_file : HeadState B → List ℕ → Type 0
  Wrote_file = Wrote (headed h) whole Fit Wrote_head

  pub same_state : (s t : HeadState B) (rest : List ℕ) → s ≡ t → Wrote_file t rest → Wrote_file s rest
  same_state = wrote_as (headed h) whole Fit Wrote_head

  pub whole_frame : (left : ℕ) (octets : List ℕ) → Wrote_head (Bandwidth left) octets
      → FrameTail left (λ v. head_octets (rate v) (size v)) (λ v. Unit {0}) octets
  whole_frame left octets t = t

  pub frames_back : (left : ℕ) (octets : List ℕ) → Wrote_file (frame_due left) octets → EntriesTail (headed h) whole Fit Wrote_head left octets
  frames_back = entries_back (headed h) whole Fit Wrote_head whole_frame

  bandwidth_back : (left code : ℕ) (x rest : List ℕ) → x ≡ code ∷ [] → code ≤ 1 → Wrote_head (Mcs left code) rest → Wrote_head (Bandwidth left) (x ++ rest)
  bandwidth_back left code x rest is low t = (
    t.0,
    t.1,
    tt,
    ap (λ (z : List ℕ). z ++ rest) is
        ∙ (ap (λ (k : ℕ). k ∷ rest) (sym (t.2 low)) ∙ ap (λ (z : List ℕ). bandwidth_code (bandwidth_of (rate t.0)) ∷ z) t.3),
    t.4,
    t.5,
    t.6,
  )

  mcs_back : (left code mcs : ℕ) (x rest : List ℕ) → x ≡ mcs ∷ [] → mcs ≤ 31 → Wrote_head (Length left (rate_at code mcs)) rest
      → Wrote_head (Mcs left code) (x ++ rest)
  mcs_back left code mcs x rest is few t =
      let index : mcs_of (rate t.0) ≡ mcs = ap mcs_of t.2 ∙ rate_at-mcs code mcs (omega (arith, few)) in (
        t.0,
        t.1,
        λ low. ap (λ (r : Rate). bandwidth_code (bandwidth_of r)) t.2 ∙ rate_at-bandwidth code mcs (omega (arith, low)),
        ap (λ (z : List ℕ). z ++ rest) is ∙ (ap (λ (k : ℕ). k ∷ rest) (sym index) ∙ ap (λ (z : List ℕ). mcs_of (rate t.0) ∷ z) t.3),
        t.4,
        t.5,
        t.6,
      )

  length_back : (left len : ℕ) (r : Rate) (x rest : List ℕ) → big_bytes 2 len ≡ x → BodyTail left r len rest → Wrote_head (Length left r) (x ++ rest)
  length_back left len r x rest is t = (
    t.0,
    t.1,
    t.2.0,
    ap (λ (z : List ℕ). z ++ rest) (sym (ap (big_bytes 2) t.2.1 ∙ is))
        ∙ (ap (λ (z : List ℕ). big_bytes 2 (size t.0) ++ z) t.3 ∙ sym (append_assoc (big_bytes 2 (size t.0)) (body t.0) (flat_map whole t.1))),
    t.4,
    t.5,
    t.6,
  )

  module _ (first_back : (left : ℕ) (r : Rate) (len : ℕ) (octets : List ℕ) → 1 ≤ len → len < 2 ^ 16
      → Wrote_body (h.first left r len) octets → BodyTail left r len octets)
      (body_back : (b : B) (next : HeadState B) (x : List ℕ) (here : List V) (rest : List ℕ) → AreBytes x
      → IsField (h.due b) x (Good next here) → Wrote_file next rest → Wrote_body b (x ++ rest))
      (no_end : (b : B) → IsEnd (h.due b) → ⊥) where
    no_head_end : (b : HeadBody B) → IsEnd (head_due h b) → ⊥
    no_head_end (Bandwidth left) e = e
    no_head_end (Mcs left code) e = e
    no_head_end (Length left r) e = e
    no_head_end (Behind b) e = no_end b e

    -- each good field
    back : (b : HeadBody B) (next : HeadState B) (x : List ℕ) (here : List V) (rest : List ℕ) → AreBytes x
        → IsField (head_due h b) x (Good next here) → Wrote_file next rest → Wrote_head b (x ++ rest)
    unfolding good_bandwidth good_mcs good_length
    back (Bandwidth left) next x here rest bytes good w =
        let p = passed BadBandwidth (is_above 1) (good_bandwidth left) x next here good.1 in
        let state : HeadState B = Body (Mcs left (octet_of x)) in
        bandwidth_back left (octet_of x) x rest (single x good.0) (at_most 1 (octet_of x) p.0)
        (same_state state next rest (same_good state next [] here p.1).0 w)
    back (Mcs left code) next x here rest bytes good w =
        let p = passed BadMcs (is_above 31) (good_mcs left code) x next here good.1 in
        let state : HeadState B = Body (Length left (rate_at code (octet_of x))) in
        mcs_back left code (octet_of x) x rest (single x good.0) (at_most 31 (octet_of x) p.0)
        (same_state state next rest (same_good state next [] here p.1).0 w)
    back (Length left r) next x here rest bytes good w =
        let p = passed BadLength is_zero (good_length h left r) x next here good.1 in
        let state : HeadState B = behind_head (h.first left r (big_number 2 x)) in
        let both = pair x good.0 bytes in
        length_back left (big_number 2 x) r x rest both.1
        (first_back left r (big_number 2 x) rest (not_none (big_number 2 x) p.0) both.0 (same_state state next rest (same_good state next [] here p.1).0 w))
    back (Behind b) next x here rest bytes good w = body_back b next x here rest bytes good w

    -- each file is the one that is written of its frames, and they can be written
    pub of_frames_of : (most : ℕ) → IsCounted (headed h) whole Fit most → (octets : List ℕ) (items : List V) → AreBytes octets
        → IsFile (grammar_of h) octets items → AreCounted frame_limits Fit items × (octets ≡ counted_octets h.magic 2 whole items)
    of_frames_of most is = of_file (headed h) whole Fit Wrote_head most is whole_frame back no_head_end
