-- What the channel makes of frames can be written as a capture.
use Rattle.std.proofs.Common.{◌≡◌, ℕ, suc, ◌+◌, ◌<◌, ◌^◌, List, [], ◌∷◌, length, All, refl, sym, ap, subst, ◌∙◌, arith}
use Rattle.std.proofs.lemmas.List.Elements.{All-cons, All-head, All-nil, All-tail}
use Rattle.ht_fields.specs.Cases.{IsFile}
use Rattle.ht_pam.specs.declared.point.Point.{Point}
use Rattle.ht_clause18.specs.Carriers.{carriers}
use Rattle.ht_clause18.specs.Frames.{LegacyFrameView}
use Rattle.ht_clause18.specs.Points.{points_of, sent_points}
use Rattle.ht_clause18.proofs.Sent.{length-sent_points}
use Rattle.ht_legacy_files.specs.Files.{AreFrames, IsFrame, frames_file_of}
use Rattle.ht_legacy_files.proofs.Routes.{frames_same}
use Rattle.ht_legacy_files.specs.CaptureFiles.{AreCaptures, IsCapture, captures_file_of, items_of}
use Rattle.ht_legacy_files.specs.CaptureFormats.{captures}
use Rattle.ht_legacy_files.proofs.CaptureRoutes.{captures_written}
use Rattle.ht_sim.specs.Channel.{sample_drawn}
use Rattle.ht_sim.specs.Draws.{each, several}
use Rattle.ht_sim.specs.Words.{first, word}
use Rattle.ht_sim.proofs.Drawing.{All-several, length-each, length-several}
use Rattle.ht_sim.proofs.Typed.{diagonal_fits}
use Rattle.ht_legacy_sim.specs.Drawing.{capture_drawn, captures_of, diagonal_drawn, exact_from}
use Rattle.ht_legacy_sim.specs.Passing.{PassesTo}
use Rattle.ht_legacy_return.proofs.Small.{exact_small, samples_fit, sent_small}

pub length-exact : (ds : List ℕ) (place : ℕ) (points : List Point) → length (exact_from ds place points) ≡ length points
length-exact ds place [] = refl
length-exact ds place (x ∷ xs) = ap suc (length-exact ds (place + 1) xs)

pub diagonals_small : (z : ℕ) → All (λ d. d < 2 ^ 16) (several diagonal_drawn carriers z).value
diagonals_small z = All-several (λ d. d < 2 ^ 16) diagonal_drawn carriers z (λ s. diagonal_fits (word s))

frame_fits : (noise : ℕ) (f : LegacyFrameView) (z : ℕ) → noise < 2 ^ 16 → IsFrame f → IsCapture (capture_drawn noise f z).value
unfolding capture_drawn points_of
frame_fits noise f z few is =
    let ds = several diagonal_drawn carriers z in
    let cs = exact_from ds.value 0 (sent_points f) in
    record {
      some = is.octets.0;
      few = is.octets.1;
      diagonals = length-several diagonal_drawn carriers z;
      small = diagonals_small z;
      samples = length-each (sample_drawn noise) cs ds.state ∙ (length-exact ds.value 0 (sent_points f) ∙ length-sent_points f);
      typed = samples_fit noise cs ds.state few (exact_small ds.value 0 (sent_points f) (diagonals_small z) (sent_small f));
    }

all_fit : (noise : ℕ) (frames : List LegacyFrameView) (z : ℕ) → noise < 2 ^ 16 → All IsFrame frames
    → All IsCapture (each (capture_drawn noise) frames z).value
all_fit noise [] z few are = All-nil IsCapture
all_fit noise (f ∷ frames) z few are =
    All-cons IsCapture (capture_drawn noise f z).value (each (capture_drawn noise) frames (capture_drawn noise f z).state).value
    (frame_fits noise f z few (All-head IsFrame f frames are))
    (all_fit noise frames (capture_drawn noise f z).state few (All-tail IsFrame f frames are))

pub captured_fit : (seed noise : ℕ) (frames : List LegacyFrameView) → noise < 2 ^ 16 → AreFrames frames → AreCaptures (captures_of seed noise frames)
unfolding captures_of
captured_fit seed noise frames few are =
    let size = length-each (capture_drawn noise) frames (first seed) in
    let most = are.few in
    record { some = omega arith; few = omega (arith, size, most); fit = all_fit noise frames (first seed) few are.fit }

-- the file has no other frames than these
pub passed_is : (seed noise : ℕ) (frames : List LegacyFrameView) (output : List ℕ) → AreFrames frames → PassesTo seed noise (frames_file_of frames) output
    → output ≡ captures_file_of (captures_of seed noise frames)
passed_is seed noise frames output are passes =
    passes.3
    ∙ ap (λ (those : List LegacyFrameView). captures_file_of (captures_of seed noise those)) (sym (frames_same frames passes.0 are passes.1 passes.2))

pub captured_file : (seed noise : ℕ) (frames : List LegacyFrameView) (output : List ℕ) → noise < 2 ^ 16 → AreFrames frames
    → PassesTo seed noise (frames_file_of frames) output → IsFile captures output (items_of (captures_of seed noise frames))
captured_file seed noise frames output few are passes =
    subst (λ (octets : List ℕ). IsFile captures octets (items_of (captures_of seed noise frames))) (sym (passed_is seed noise frames output are passes))
    (captures_written (captures_of seed noise frames) (captured_fit seed noise frames few are))
