-- What upgrading a capture comes to.
use Rattle.std.specs.Prelude.{◌≡◌, ℕ, List, ◌++◌, map}
use Rattle.std.proofs.Common.{refl, ap, ◌∙◌, sym, inr}
use Rattle.ht_io.specs.Devices.{Device}
use Rattle.ht_fields.specs.Cases.{File}
use Rattle.ht_fields.specs.Meanings.{Meaning}
use Rattle.ht_fields.proofs.Answered.{met}
use Rattle.ht_capture.specs.declared.frames.CaptureFrame.{CaptureFrame}
use Rattle.ht_capture.specs.declared.items.Item.{Item}
use Rattle.ht_capture.specs.Captures.{capture_of}
use Rattle.ht_capture.specs.Contents.{AreTyped, items_of}
use Rattle.ht_capture.specs.Fields.{captures}
use Rattle.ht_capture.specs.Files.{AreCaptureFrames, capture_file_of}
use Rattle.ht_capture.proofs.Filed.{file_written}
use Rattle.ht_capture.proofs.Equal.{file_same}
use Rattle.ht_results.specs.Results.{frame_result, results_of}
use Rattle.ht_results.specs.Texts.{frame_lines_of, frames_of, last_line, last_of, result_lines, rx_text}
use Rattle.ht_capture_laws.specs.Items.{whole_frames}
use Rattle.ht_results.specs.JobTexts.{detect_text, job_lines, jobs_of, lines_of}
use Rattle.ht_sim.specs.Converting.{UpgradesTo}

-- an upgraded capture has the same frames
pub one_upgrade : (octets a b : List ℕ) → UpgradesTo octets a → UpgradesTo octets b → a ≡ b
one_upgrade octets a b (v, fs, iv, ff, tf, o, e) (w, gs, iw, fg, tg, q, h) =
    let same = file_same v w fs gs ff tf iv fg tg iw (sym o ∙ q) in
    e ∙ (ap (λ (frames : List CaptureFrame). capture_file_of 2 frames) same.1 ∙ sym h)

pub stays_upgraded : (frames : List CaptureFrame) (output : List ℕ) → AreCaptureFrames frames → AreTyped frames
    → UpgradesTo (capture_file_of 2 frames) output → output ≡ capture_file_of 2 frames
stays_upgraded frames output fits typed up = one_upgrade (capture_file_of 2 frames) output (capture_file_of 2 frames) up
    (2, frames, inr refl, fits, typed, refl, refl)

pub same_items : (octets output : List ℕ) → UpgradesTo octets output → capture_of output ≡ capture_of octets
same_items octets output (v, fs, iv, ff, tf, o, e) =
    ap capture_of e ∙ met captures (capture_file_of 2 fs) (items_of fs) File (file_written 2 fs ff tf (inr refl))
    ∙ sym (ap capture_of o ∙ met captures (capture_file_of v fs) (items_of fs) File (file_written v fs ff tf iv))

pub same_detection : (octets output : List ℕ) → UpgradesTo octets output → detect_text output ≡ detect_text octets
unfolding detect_text last_line lines_of
same_detection octets output up =
    ap (λ (m : Meaning Item). job_lines (jobs_of m.items) ++ last_of m.fault (frames_of m.items)) (same_items octets output up)

pub same_reception : (octets output : List ℕ) → UpgradesTo octets output → rx_text output ≡ rx_text octets
unfolding rx_text last_line frame_lines_of results_of
same_reception octets output up =
    ap (λ (m : Meaning Item). result_lines (map frame_result (whole_frames m.items)) ++ last_of m.fault (frames_of m.items)) (same_items octets output up)
