-- How the octets of frames lead through the fields of a file.
use Rattle.std.proofs.Common.{[], refl, arith}
use Rattle.ht_fields.specs.FormatLaws.{AreFiles, ReadsBack, WritesFiles}
use Rattle.ht_counted.specs.Framed.{Seed, IsFraming}
use Rattle.ht_counted.proofs.Counting.{leads_by}
use Rattle.ht_counted.proofs.FrameRoutes.{framed_files}
use Rattle.ht_legacy_files.specs.HeadedFormats.{behind_head, frames_due, headed}
use Rattle.ht_legacy_files.specs.Formats.{framed, frames, framing, head_octets}
use Rattle.ht_legacy_files.specs.Files.{AreFrames, frames_file_of}
use Rattle.ht_legacy_files.proofs.HeadRoutes.{route_head}

-- the frames of the format
pub frames_framed : IsFraming (headed framed) framing
frames_framed = record {
  limits = refl;
  due = λ s. refl;
  head = λ left rate len left_some some few. leads_by frames (frames_due left) (behind_head (Seed left rate len)) (head_octets rate len) []
      (route_head framed left rate len left_some some few);
  width = λ rate len. refl;
  bound = omega arith;
  parts = λ p. refl;
  whole = λ f. refl;
}

-- what holds of files of frames
pub frames_files : AreFiles frames AreFrames frames_file_of
unfolding frames_file_of
frames_files = framed_files (headed framed) framing frames_framed

pub frames_written : WritesFiles frames AreFrames frames_file_of
frames_written = frames_files.written

pub frames_same : ReadsBack AreFrames frames_file_of
frames_same = frames_files.read_back
