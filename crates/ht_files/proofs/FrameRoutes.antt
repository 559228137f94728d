-- How the octets of frames lead through the fields of a file.
use Rattle.std.proofs.Common.{◌≡◌, List, [], refl, ap, subst, arith}
use Rattle.ht_fields.specs.FormatLaws.{AreFiles, ReadsBack, WritesFiles}
use Rattle.ht_tx.specs.Frames.{FrameView}
use Rattle.ht_tx.specs.Symbols.{SymbolsView}
use Rattle.ht_tx.specs.Transmitted.{AreTransmitted}
use Rattle.ht_tx.proofs.Single.{all_transmitted}
use Rattle.ht_heads.specs.Heads.{head_octets}
use Rattle.ht_counted.specs.Framed.{Seed, IsFraming}
use Rattle.ht_counted.proofs.Counting.{leads_by}
use Rattle.ht_counted.proofs.FrameRoutes.{framed_files}
use Rattle.ht_files.specs.HeadedFormats.{behind_head, frame_due, headed}
use Rattle.ht_files.specs.Frames.{framed, frames, framing}
use Rattle.ht_files.specs.Files.{AreFrames, frames_file_of, frame_octets}
use Rattle.ht_files.specs.SymbolFiles.{symbols_file_of}
use Rattle.ht_files.proofs.HeadRoutes.{route_head}

-- the frames of the format
pub frames_framed : IsFraming (headed framed) framing
frames_framed = record {
  limits = refl;
  due = λ s. refl;
  head = λ left rate len left_some some few. leads_by frames (frame_due left) (behind_head (Seed left rate len)) (head_octets rate len) []
      (route_head framed left rate len left_some some (omega (arith, few)));
  width = λ rate len. refl;
  bound = omega arith;
  parts = λ p. refl;
  whole = λ f. refl;
}

-- what holds of files of frames
pub frames_files : AreFiles frames AreFrames frames_file_of
unfolding frames_file_of frame_octets
frames_files = framed_files (headed framed) framing frames_framed

pub frames_written : WritesFiles frames AreFrames frames_file_of
frames_written = frames_files.written

pub frames_same : ReadsBack AreFrames frames_file_of
frames_same = frames_files.read_back

-- the symbols that are sent for the frames of one file
pub one_sent : (fs gs : List FrameView) (ss ts : List SymbolsView) → AreFrames fs → AreFrames gs → frames_file_of fs ≡ frames_file_of gs
    → AreTransmitted fs ss → AreTransmitted gs ts → symbols_file_of ss ≡ symbols_file_of ts
one_sent fs gs ss ts are also same x y =
    let frames : fs ≡ gs = frames_same fs gs are also same in
    ap symbols_file_of (all_transmitted gs ss ts (subst (λ (z : List FrameView). AreTransmitted z ss) frames x) y)
