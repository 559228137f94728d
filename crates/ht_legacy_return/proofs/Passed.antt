-- What passes the simulated channel with noise 0 is received exactly, and so it comes back.
use Rattle.std.proofs.Common.{◌≡◌, ℕ, suc, ◌<◌, ◌^◌, List, [], ◌∷◌, length, flat_map, All}
use Rattle.std.proofs.Common.{refl, ap, subst, ◌∙◌, arith}
use Rattle.std.proofs.lemmas.List.Elements.{All-cons, All-from_get_or, All-nil}
use Rattle.byteorder.specs.Endian.{big_bytes}
use Rattle.ht_fields.specs.Cases.{IsFile}
use Rattle.ht_fields.specs.Tests.{AreBytes}
use Rattle.ht_heads.specs.Starts.{started_octets}
use Rattle.ht_capture_laws.proofs.Lists.{bytes_behind, bytes_front}
use Rattle.ht_clause18.specs.Carriers.{carriers}
use Rattle.ht_clause18.specs.Frames.{LegacyFrameView}
use Rattle.ht_clause18.specs.Points.{sent_points}
use Rattle.ht_clause18.specs.Rates.{index_of}
use Rattle.ht_counted.specs.Framed.{framed_octets}
use Rattle.ht_legacy_files.specs.Files.{AreFrames, frames_file_of}
use Rattle.ht_legacy_files.specs.Formats.{frames as frames_format, frames_magic, framing}
use Rattle.ht_legacy_files.proofs.Back.{of_frames}
use Rattle.ht_legacy_files.specs.CaptureFiles.{captures_file_of}
use Rattle.ht_sim.specs.Draws.{several}
use Rattle.ht_sim.specs.Words.{first}
use Rattle.ht_sim.proofs.Drawing.{All-several, length-several}
use Rattle.ht_legacy_sim.specs.Drawing.{capture_drawn, captures_of, diagonal_drawn, exact_from}
use Rattle.ht_legacy_sim.specs.Passing.{PassesTo}
use Rattle.ht_legacy_rx.specs.Texts.{legacy_results_of, legacy_text}
use Rattle.ht_round.proofs.Simulated.{all_drawn, samples_are}
use Rattle.ht_legacy_return.specs.Exact.{AreExact, HoldOctets, IsExact}
use Rattle.ht_legacy_return.specs.Returned.{returned_results, returned_text}
use Rattle.ht_legacy_return.proofs.Captured.{diagonals_small, passed_is}
use Rattle.ht_legacy_return.proofs.Round.{results_back, text_back}

frame_exact : (f : LegacyFrameView) (z : ℕ) → IsExact f (capture_drawn 0 f z).value
unfolding capture_drawn
frame_exact f z =
    let ds = several diagonal_drawn carriers z in
    record {
      rate = refl;
      octets = refl;
      count = length-several diagonal_drawn carriers z;
      some = All-several (λ d. 0 < d) diagonal_drawn carriers z (λ s. omega arith);
      small = diagonals_small z;
      samples = samples_are (exact_from ds.value 0 (sent_points f)) ds.state;
    }

pub simulated_exact : (seed : ℕ) (frames : List LegacyFrameView) → AreExact frames (captures_of seed 0 frames)
unfolding captures_of
simulated_exact seed frames = all_drawn IsExact (capture_drawn 0) frame_exact frames (first seed)

-- frames whose file is a list of octets have octets
frame_bytes : (f : LegacyFrameView) → AreBytes (framed_octets framing f) → All (λ octet. octet < 2 ^ 8) f.octets
frame_bytes f bytes =
    let behind : AreBytes (f.seed ∷ f.octets) = bytes_behind (index_of f.rate ∷ big_bytes 2 (length f.octets)) (f.seed ∷ f.octets) bytes in
    All-from_get_or (λ octet. octet < 2 ^ 8) f.octets 0 (λ i lt. behind (suc i))

frames_bytes : (frames : List LegacyFrameView) → AreBytes (flat_map (framed_octets framing) frames) → HoldOctets frames
frames_bytes [] bytes = All-nil (λ (f : LegacyFrameView). All (λ octet. octet < 2 ^ 8) f.octets)
frames_bytes (f ∷ frames) bytes =
    All-cons (λ (g : LegacyFrameView). All (λ octet. octet < 2 ^ 8) g.octets) f frames
    (frame_bytes f (bytes_front (framed_octets framing f) (flat_map (framed_octets framing) frames) bytes))
    (frames_bytes frames (bytes_behind (framed_octets framing f) (flat_map (framed_octets framing) frames) bytes))

file_bytes : (frames : List LegacyFrameView) → AreBytes (frames_file_of frames) → HoldOctets frames
unfolding frames_file_of
file_bytes frames bytes = frames_bytes frames (bytes_behind (started_octets frames_magic 2 (length frames)) (flat_map (framed_octets framing) frames) bytes)

-- a file holds frames that can be written, and octets
pub file_holds : (octets : List ℕ) (frames : List LegacyFrameView) → AreBytes octets → IsFile frames_format octets frames → AreFrames frames × HoldOctets frames
file_holds octets frames bytes file =
    let is = of_frames octets frames bytes file in
    (is.0, file_bytes frames (subst AreBytes is.1 bytes))

-- what the file passes to
passed_from : (seed : ℕ) (octets : List ℕ) (frames : List LegacyFrameView) (output : List ℕ) → AreBytes octets → IsFile frames_format octets frames
    → PassesTo seed 0 octets output → output ≡ captures_file_of (captures_of seed 0 frames)
passed_from seed octets frames output bytes file passes =
    let is = of_frames octets frames bytes file in
    passed_is seed 0 frames output is.0 (subst (λ (os : List ℕ). PassesTo seed 0 os output) is.1 passes)

module _ (seed : ℕ) (octets : List ℕ) (frames : List LegacyFrameView) (output : List ℕ) (bytes : AreBytes octets)
    (file : IsFile frames_format octets frames) (passes : PassesTo seed 0 octets output) where
  -- what is made of the output is what is made of the capture that the frames' points pass to exactly
  passed : {T : Type 0} (made : List ℕ → T) (returned : T)
      → (AreFrames frames → HoldOctets frames → AreExact frames (captures_of seed 0 frames) → made (captures_file_of (captures_of seed 0 frames)) ≡ returned)
      → made output ≡ returned
  passed made returned back =
      let holds = file_holds octets frames bytes file in
      ap made (passed_from seed octets frames output bytes file passes) ∙ back holds.0 holds.1 (simulated_exact seed frames)

  pub passed_results : legacy_results_of output ≡ returned_results frames
  passed_results = passed legacy_results_of (returned_results frames) (results_back frames (captures_of seed 0 frames))

  pub passed_text : legacy_text output ≡ returned_text frames
  passed_text = passed legacy_text (returned_text frames) (text_back frames (captures_of seed 0 frames))
