use Rattle.ht_fields.proofs.FormatLaws.{each_written}
use Rattle.ht_files.specs.Frames.{frames}
use Rattle.ht_files.specs.Files.{AreFrames, frames_file_of}
use Rattle.ht_files.proofs.FrameFiles.{of_frames}
use Rattle.ht_files.proofs.files.each_of_frames.Goals as goal

pub returns : goal.returns
returns c = each_written frames AreFrames frames_file_of of_frames
