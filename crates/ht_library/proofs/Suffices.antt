-- The texts of a capture have the room that its octets say.
use Rattle.std.proofs.Common.{◌≡◌, ◌⊎◌, inl, inr, ℕ, ◌+◌, ◌*◌, ◌/◌, ◌<◌, ◌≤◌, List, [], ◌∷◌, ◌++◌, length, map, flat_map, min}
use Rattle.std.proofs.Common.{Bool, true, false, ◌==◌, if◌then◌else◌, Option, None, Some, refl, sym, ap, subst, ◌∙◌, arith, length-append}
use Rattle.std.specs.List.{AllByRecursion}
use Rattle.std.specs.Prelude.{slice_index}
use Rattle.std.proofs.lemmas.List.Elements.{recursion_from_All}
use Rattle.ht_io.specs.declared.faults.FormatFault.{FormatFault}
use Rattle.ht_fields.specs.Cases.{File}
use Rattle.ht_fields.specs.Meanings.{Meaning}
use Rattle.ht_fields.specs.Tests.{AreBytes}
use Rattle.ht_fields.proofs.Answered.{met}
use Rattle.ht_heads.specs.Heads.{start_octets}
use Rattle.ht_capture.specs.declared.frames.CaptureFrame.{CaptureFrame}
use Rattle.ht_capture.specs.declared.items.Item.{Item}
use Rattle.ht_capture.specs.Captures.{capture_of}
use Rattle.ht_capture.specs.Contents.{AreTyped, items_of}
use Rattle.ht_capture.specs.Fields.{captures}
use Rattle.ht_capture.specs.Files.{AreCaptureFrames, FitsFrame, capture_file_of, capture_frame_octets}
use Rattle.ht_capture_laws.specs.Items.{whole_frames}
use Rattle.ht_capture_laws.specs.Written.{IsFileOf}
use Rattle.ht_capture_laws.proofs.Back.{file_back}
use Rattle.ht_results.specs.JobTexts.{detect_text, job_lines, jobs_of, lines_of}
use Rattle.ht_results.specs.Results.{frame_result, results_of}
use Rattle.ht_results.specs.Texts.{frame_lines_of, frames_of, last_line, last_of, result_line, rx_text}
use Rattle.ht_runs.specs.Formats.{IsWhole}
use Rattle.ht_soft_rx.specs.Results.{soft_result, soft_results_of}
use Rattle.ht_soft_rx.specs.Texts.{soft_line, soft_lines_of, soft_rx_text}
use Rattle.ht_library.specs.Sizes.{frames_room, jobs_room, room_said}
use Rattle.ht_library.proofs.FrameLines.{frames-counted, rx-lines, soft-lines}
use Rattle.ht_library.proofs.LineLengths.{end-long}
use Rattle.ht_library.proofs.Rooms.{rooms, rooms-counted, rooms-flagged, rooms-whole, samples-held}
use Rattle.ht_library.proofs.SmallJobs.{lines-long, samples_in}

-- a capture as the frames that it was written of
record Held (octets : List ℕ) : Type 0 where
  version : ℕ
  frames : List CaptureFrame
  is : IsFileOf version frames octets (capture_of octets).items
  fits : AllByRecursion FitsFrame frames

held : (octets : List ℕ) → AreBytes octets → IsWhole captures octets → Held octets
held octets bytes whole =
    let back = file_back octets (capture_of octets).items bytes whole in
    record { version = back.0; frames = back.1; is = back.2; fits = recursion_from_All FitsFrame back.1 back.2.fit.fit }

-- its length
file-long : (version : ℕ) (frames : List CaptureFrame)
    → length (capture_file_of version frames) ≡ 7 + length (flat_map (capture_frame_octets version) frames)
unfolding capture_file_of start_octets
file-long version frames = omega arith

-- its last line
last-long : (octets : List ℕ) (h : Held octets) → IsWhole captures octets → length (last_line octets) ≤ 17
unfolding last_line
last-long octets h whole =
    let none : (capture_of octets).fault ≡ None =
    ap (λ (m : Meaning Item). m.fault) (met captures octets (capture_of octets).items File whole) in
    let count : frames_of (capture_of octets).items ≡ length h.frames = ap frames_of h.is.shown ∙ frames-counted 0 0 h.frames in
    let few = h.is.fit.few in
    subst (λ (fault : Option FormatFault). length (last_of fault (frames_of (capture_of octets).items)) ≤ 17) (sym none)
    (end-long (frames_of (capture_of octets).items) (omega (arith, count, few)))

pub detect-room : (octets : List ℕ) → AreBytes octets → IsWhole captures octets → length (detect_text octets) ≤ 6 * length octets
unfolding detect_text lines_of
detect-room octets bytes whole =
    let h = held octets bytes whole in
    let few = h.is.fit.few in
    let lines : length (job_lines (jobs_of (capture_of octets).items)) ≤ 48 * samples_in h.frames =
    subst (λ (items : List Item). length (job_lines (jobs_of items)) ≤ 48 * samples_in h.frames) (sym h.is.shown)
    (lines-long 0 0 h.frames (omega (arith, few)) h.is.typed h.fits) in
    let size : length octets ≡ 7 + length (flat_map (capture_frame_octets h.version) h.frames) = ap length h.is.file ∙ file-long h.version h.frames in
    omega (
      arith,
      length-append (job_lines (jobs_of (capture_of octets).items)) (last_line octets),
      lines,
      size,
      last-long octets h whole,
      samples-held h.version h.frames,
    )

-- the version and the number of frames, as the octets have them
version-at : (version : ℕ) (frames : List CaptureFrame) → slice_index (capture_file_of version frames) 4 ≡ version
unfolding capture_file_of start_octets
version-at version frames = refl

count-at : (version : ℕ) (frames : List CaptureFrame) → length frames ≤ 65535
    → 256 * slice_index (capture_file_of version frames) 5 + slice_index (capture_file_of version frames) 6 ≡ length frames
unfolding capture_file_of start_octets
count-at version frames few = omega arith

-- the room of the frames
room-of-frames : (octets : List ℕ) (h : Held octets) → (size : ℕ) → size ≤ rooms h.frames + 17
    → size ≤ frames_room (slice_index octets 4) (256 * slice_index octets 5 + slice_index octets 6) (length octets)
room-of-frames octets h size most =
    let long : length octets ≡ 7 + length (flat_map (capture_frame_octets h.version) h.frames) = ap length h.is.file ∙ file-long h.version h.frames in
    let version : slice_index octets 4 ≡ h.version = ap (λ (o : List ℕ). slice_index o 4) h.is.file ∙ version-at h.version h.frames in
    let count : 256 * slice_index octets 5 + slice_index octets 6 ≡ length h.frames =
    ap (λ (o : List ℕ). 256 * slice_index o 5 + slice_index o 6) h.is.file ∙ count-at h.version h.frames h.is.fit.few in
    subst (λ (v : ℕ). size ≤ frames_room v (256 * slice_index octets 5 + slice_index octets 6) (length octets)) (sym version)
    (subst (λ (n : ℕ). size ≤ frames_room h.version n (length octets)) (sym count)
    (elim h.is.allowed [
      | inl one ↦
          let half = rooms-whole h.version h.frames h.fits one.1 in
          subst (λ (v : ℕ). size ≤ frames_room v (length h.frames) (length octets)) (sym one.0) (omega (arith, half, long, most))
      | inr two ↦
          let by_octets = rooms-flagged h.version h.frames two h.fits in
          let by_count = rooms-counted h.frames h.is.typed in
          subst (λ (v : ℕ). size ≤ frames_room v (length h.frames) (length octets)) (sym two) (omega (arith, by_octets, by_count, long, most))
    ]))

pub rx-room : (octets : List ℕ) → AreBytes octets → IsWhole captures octets
    → length (rx_text octets) ≤ frames_room (slice_index octets 4) (256 * slice_index octets 5 + slice_index octets 6) (length octets)
unfolding rx_text frame_lines_of results_of
rx-room octets bytes whole =
    let h = held octets bytes whole in
    let lines : length (flat_map result_line (map frame_result (whole_frames (capture_of octets).items))) ≤ rooms h.frames =
    subst (λ (items : List Item). length (flat_map result_line (map frame_result (whole_frames items))) ≤ rooms h.frames) (sym h.is.shown)
    (rx-lines h.frames h.is.fit.few h.is.typed) in
    room-of-frames octets h (length (rx_text octets))
    (omega (
      arith,
      length-append (flat_map result_line (map frame_result (whole_frames (capture_of octets).items))) (last_line octets),
      lines,
      last-long octets h whole,
    ))

pub soft-room : (octets : List ℕ) → AreBytes octets → IsWhole captures octets
    → length (soft_rx_text octets) ≤ frames_room (slice_index octets 4) (256 * slice_index octets 5 + slice_index octets 6) (length octets)
unfolding soft_rx_text soft_lines_of soft_results_of
soft-room octets bytes whole =
    let h = held octets bytes whole in
    let lines : length (flat_map soft_line (map soft_result (whole_frames (capture_of octets).items))) ≤ rooms h.frames =
    subst (λ (items : List Item). length (flat_map soft_line (map soft_result (whole_frames items))) ≤ rooms h.frames) (sym h.is.shown)
    (soft-lines h.frames h.is.fit.few h.is.typed) in
    room-of-frames octets h (length (soft_rx_text octets))
    (omega (
      arith,
      length-append (flat_map soft_line (map soft_result (whole_frames (capture_of octets).items))) (last_line octets),
      lines,
      last-long octets h whole,
    ))
