-- Field by field back from the end of a file: its octets are those that are written of its frames.
use Rattle.std.proofs.Common.{◌≡◌, ℕ, zero, suc, ◌+◌, ◌-◌, ◌≤◌, List, [], ◌∷◌, ◌++◌, length, flat_map}
use Rattle.std.proofs.Common.{refl, sym, ap, ◌∙◌, append_assoc, arith}
use Rattle.std.specs.List.{AllByRecursion}
use Rattle.byteorder.specs.Endian.{big_bytes, big_number}
use Rattle.ht_io.specs.declared.faults.Kind.TheVariants.{BadLength, BadMcs}
use Rattle.ht_fields.specs.Grammar.{Good}
use Rattle.ht_fields.specs.Cases.{IsEnd, IsField, IsFile}
use Rattle.ht_fields.specs.Tests.{AreBytes, is_above, octet_of}
use Rattle.ht_clause18.specs.declared.rates.LegacyRate.{LegacyRate}
use Rattle.ht_clause18.specs.Frames.{LegacyFrameView}
use Rattle.ht_clause18.specs.Rates.{index_of}
use Rattle.ht_heads.specs.Starts.{Body, is_outside}
use Rattle.ht_heads.proofs.Counts.{bytes_back_as}
use Rattle.ht_counted.specs.Framed.{FrameState, Seed, framed_octets}
use Rattle.ht_counted.proofs.Back.{Wrote, of_file, wrote_as}
use Rattle.ht_counted.proofs.FrameBack.{FrameTail, WroteBehind, behind_back, frame_back, no_end as no_end_behind}
use Rattle.ht_counted.proofs.FrameRoutes.{is_counted}
use Rattle.ht_counted.proofs.Passing.{at_most, passed, same_good, single, within}
use Rattle.ht_legacy_files.specs.HeadedFormats.{HeadState, Index, Length, Behind, behind_head, good_index, good_length, headed, length_limits, rate_at}
use Rattle.ht_legacy_files.specs.Formats.{FrameBody, framed, frames, framing}
use Rattle.ht_legacy_files.specs.Files.{AreFrames, IsFrame, frames_file_of}
use Rattle.ht_legacy_files.proofs.Routes.{frames_framed}

abbrev State : Type 0
State = HeadState (FrameState LegacyRate)

index_back : (n : ℕ) → n ≤ 7 → index_of (rate_at n) ≡ n
index_back zero le = refl
index_back (suc zero) le = refl
index_back (suc (suc zero)) le = refl
index_back (suc (suc (suc zero))) le = refl
index_back (suc (suc (suc (suc zero)))) le = refl
index_back (suc (suc (suc (suc (suc zero))))) le = refl
index_back (suc (suc (suc (suc (suc (suc zero)))))) le = refl
index_back (suc (suc (suc (suc (suc (suc (suc zero))))))) le = refl
index_back (suc (suc (suc (suc (suc (suc (suc (suc n)))))))) le = absurd (omega (arith, le))

-- a frame, and those behind it
abbrev whole : LegacyFrameView → List ℕ
whole = framed_octets framing

-- the octets from a state of a frame on
abbrev HasTail : ℕ → (LegacyFrameView → List ℕ) → (LegacyFrameView → Type 0) → List ℕ → Type 0
HasTail left last Has octets =
    (f : LegacyFrameView) × (fs : List LegacyFrameView) × Has f × (octets ≡ last f ++ flat_map whole fs) × (length fs ≡ left - 1)
    × IsFrame f × AllByRecursion IsFrame fs

-- what is written from a state within a frame on
abbrev FromBody : FrameBody → List ℕ → Type 0
FromBody (Index left) octets = HasTail left whole (λ f. Unit {0}) octets
FromBody (Length left r) octets = HasTail left (λ f. big_bytes 2 (length f.octets) ++ (f.seed ∷ f.octets)) (λ f. f.rate ≡ r) octets
FromBody (Behind s) octets = WroteBehind (headed framed) framing frames_framed s octets

-- and from any state
abbrev From : State → List ℕ → Type 0
From = Wrote (headed framed) whole IsFrame FromBody

first_back : (left : ℕ) (octets : List ℕ) → FromBody (Index left) octets → HasTail left whole (λ f. Unit {0}) octets
first_back left octets t = t

as_state : (s t : State) (rest : List ℕ) → s ≡ t → From t rest → From s rest
as_state = wrote_as (headed framed) whole IsFrame FromBody

index_written : (left index : ℕ) (x rest : List ℕ) → x ≡ index ∷ [] → index ≤ 7 → FromBody (Length left (rate_at index)) rest
    → FromBody (Index left) (x ++ rest)
index_written left index x rest is few t =
    let named : index_of t.0.rate ≡ index = ap index_of t.2 ∙ index_back index few in (
      t.0,
      t.1,
      tt,
      ap (λ (z : List ℕ). z ++ rest) is ∙ (ap (λ (k : ℕ). k ∷ rest) (sym named) ∙ ap (λ (z : List ℕ). index_of t.0.rate ∷ z) t.3),
      t.4,
      t.5,
      t.6,
    )

length_written : (left len : ℕ) (r : LegacyRate) (x rest : List ℕ) → length x ≡ 2 → AreBytes x → len ≡ big_number 2 x
    → FrameTail (headed framed) framing frames_framed left r len rest → FromBody (Length left r) (x ++ rest)
length_written left len r x rest wide bytes is (f, fs, (named, long), split, count, good, fit) = (
  f,
  fs,
  named,
  ap (λ (z : List ℕ). z ++ rest) (sym (bytes_back_as x 2 (length f.octets) wide (long ∙ is) bytes))
      ∙ (ap (λ (z : List ℕ). big_bytes 2 (length f.octets) ++ z) split
      ∙ sym (append_assoc (big_bytes 2 (length f.octets)) (f.seed ∷ f.octets) (flat_map whole fs))),
  count,
  good,
  fit,
)

-- each good field within a frame
body_back : (b : FrameBody) (next : State) (x : List ℕ) (here : List LegacyFrameView) (rest : List ℕ) → AreBytes x
    → IsField ((headed framed).due b) x (Good next here) → From next rest → FromBody b (x ++ rest)
unfolding good_index good_length
body_back (Index left) next x here rest bytes good w =
    let p = passed BadMcs (is_above 7) (good_index left) x next here good.1 in
    let state : State = Body (Length left (rate_at (octet_of x))) in
    index_written left (octet_of x) x rest (single x good.0) (at_most 7 (octet_of x) p.0) (as_state state next rest (same_good state next [] here p.1).0 w)
body_back (Length left r) next x here rest bytes good w =
    let p = passed BadLength (is_outside length_limits) (good_length framed left r) x next here good.1 in
    let state : State = behind_head (Seed left r (big_number 2 x)) in
    let range = within length_limits x p.0 in
    length_written left (big_number 2 x) r x rest good.0 bytes refl
    (frame_back (headed framed) framing frames_framed left r (big_number 2 x) rest range.0 range.1
    (as_state state next rest (same_good state next [] here p.1).0 w))
body_back (Behind s) next x here rest bytes good w =
    behind_back (headed framed) framing frames_framed FromBody first_back (λ s x w. w) s next x here rest good w

no_end : (b : FrameBody) → IsEnd ((headed framed).due b) → ⊥
no_end (Index left) e = e
no_end (Length left r) e = e
no_end (Behind s) e = no_end_behind (headed framed) framing frames_framed s e

-- each file is the one that is written of its frames, and they can be written
pub of_frames : (octets : List ℕ) (fs : List LegacyFrameView) → AreBytes octets → IsFile frames octets fs → AreFrames fs × (octets ≡ frames_file_of fs)
unfolding frames_file_of
of_frames = of_file (headed framed) whole IsFrame FromBody 4099 (is_counted (headed framed) framing frames_framed) first_back body_back no_end
