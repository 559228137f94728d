use Rattle.ht_fields.proofs.FormatLaws.{clean_ends, each_written}
use Rattle.ht_legacy_files.specs.Formats.{frames}
use Rattle.ht_legacy_files.specs.Files.{AreFrames, frames_file_of}
use Rattle.ht_legacy_files.proofs.Back.{of_frames}
use Rattle.ht_legacy_files.proofs.Ends.{frames_can_end}
use Rattle.ht_legacy_files.proofs.Routes.{frames_files}
use Rattle.ht_legacy_files.proofs.laws.frame_files.Goals as goal

pub returns : goal.returns
returns c = record {
  files = frames_files;
  clean_can_end = clean_ends frames frames_can_end;
  each_of_frames = each_written frames AreFrames frames_file_of of_frames;
}
