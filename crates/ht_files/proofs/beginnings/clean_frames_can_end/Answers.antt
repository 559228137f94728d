use Rattle.ht_fields.proofs.FormatLaws.{clean_ends}
use Rattle.ht_files.specs.Frames.{frames}
use Rattle.ht_files.proofs.FrameFiles.{frames_can_end}
use Rattle.ht_files.proofs.beginnings.clean_frames_can_end.Goals as goal

pub returns : goal.returns
returns c = clean_ends frames frames_can_end
