-- Files of frames: each is what is written of its frames, and each clean beginning can end.
use Rattle.std.proofs.Common.{◌≡◌, ℕ, ◌-◌, ◌^◌, ◌<◌, ◌≤◌, List, ◌∷◌, ◌++◌, length, arith}
use Rattle.ht_fields.specs.Grammar.{Good}
use Rattle.ht_fields.specs.Cases.{CanEnd, IsField, IsFile}
use Rattle.ht_fields.specs.Tests.{AreBytes}
use Rattle.ht_rate.specs.declared.rates.Rate.{Rate}
use Rattle.ht_tx.specs.Frames.{FrameView}
use Rattle.ht_counted.specs.Counted.{counted_format}
use Rattle.ht_counted.specs.Framed.{FrameState, Seed}
use Rattle.ht_counted.proofs.Counting.{is_count}
use Rattle.ht_counted.proofs.Ends.{can_end}
use Rattle.ht_counted.proofs.FrameBack.{WroteBehind, behind_back, frame_back, no_end}
use Rattle.ht_counted.proofs.FrameEnds.{behind_ends, seed_end}
use Rattle.ht_counted.proofs.FrameRoutes.{is_counted}
use Rattle.ht_files.specs.HeadedFormats.{HeadState, behind_head, frame_due, headed}
use Rattle.ht_files.specs.Frames.{framed, frames, framing}
use Rattle.ht_files.specs.Files.{AreFrames, IsFrame, frame_octets, frames_file_of}
use Rattle.ht_files.proofs.FrameRoutes.{frames_framed}
use Rattle.ht_files.proofs.Back.{BodyTail, Wrote_file, Wrote_head, of_frames_of, whole_frame}
use Rattle.ht_files.proofs.Ends.{HasEnd, each_head_ends, frames_end}

abbrev rate : FrameView → Rate
rate f = f.rate

abbrev size : FrameView → ℕ
size f = length f.octets

abbrev body : FrameView → List ℕ
body f = f.seed ∷ f.octets

-- what is written behind a head
abbrev wrote_body : FrameState Rate → List ℕ → Type 0
wrote_body = WroteBehind (headed framed) framing frames_framed

first_back : (left : ℕ) (r : Rate) (len : ℕ) (octets : List ℕ) → 1 ≤ len → len < 2 ^ 16
    → wrote_body (Seed left r len) octets → BodyTail framed rate size body IsFrame wrote_body left r len octets
first_back left r len octets some small w =
    frame_back (headed framed) framing frames_framed left r len octets some (omega (arith, small)) w

body_back : (s : FrameState Rate) (next : HeadState (FrameState Rate)) (x : List ℕ) (here : List FrameView) (rest : List ℕ) → AreBytes x
    → IsField (framed.due s) x (Good next here) → Wrote_file framed rate size body IsFrame wrote_body next rest → wrote_body s (x ++ rest)
body_back s next x here rest bytes good w =
    behind_back (headed framed) framing frames_framed (Wrote_head framed rate size body IsFrame wrote_body)
    (whole_frame framed rate size body IsFrame wrote_body) (λ s x w. w) s next x here rest good w

-- The frames of a file can be written, and it is the file of them.
pub of_frames : (octets : List ℕ) (fs : List FrameView) → AreBytes octets → IsFile frames octets fs → AreFrames fs × (octets ≡ frames_file_of fs)
unfolding frames_file_of frame_octets
of_frames =
    of_frames_of framed rate size body IsFrame wrote_body first_back body_back (no_end (headed framed) framing frames_framed) 65540
    (is_counted (headed framed) framing frames_framed)

first_ends : (left : ℕ) (r : Rate) (len : ℕ) → 1 ≤ len → HasEnd framed (frame_due (left - 1)) → HasEnd framed (behind_head (Seed left r len))
first_ends left r len some rest = seed_end (headed framed) framing frames_framed left r len rest

pub frames_can_end : CanEnd frames
frames_can_end =
    can_end (counted_format (headed framed)) is_count (frames_end framed first_ends 0)
    (each_head_ends framed first_ends (behind_ends (headed framed) framing frames_framed (frames_end framed first_ends)))
