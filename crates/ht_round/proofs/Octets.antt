-- Frames whose file is a list of octets have octets.
use Rattle.std.proofs.Common.{suc, ◌<◌, ◌^◌, List, [], ◌∷◌, length, flat_map}
use Rattle.std.proofs.lemmas.List.Elements.{All-cons, All-from_get_or, All-nil}
use Rattle.ht_fields.specs.Tests.{AreBytes}
use Rattle.ht_heads.specs.Heads.{head_octets}
use Rattle.ht_heads.specs.Starts.{started_octets}
use Rattle.ht_capture_laws.proofs.Lists.{bytes_behind, bytes_front}
use Rattle.ht_tx.specs.Frames.{FrameView}
use Rattle.ht_files.specs.Files.{frame_octets, frames_file_of}
use Rattle.ht_files.specs.Frames.{frames_magic}
use Rattle.ht_round.specs.Returns.{AreOctets}
use Rattle.ht_round.specs.Exact.{HoldOctets}

frame_bytes : (f : FrameView) → AreBytes (frame_octets f) → AreOctets f.octets
unfolding frame_octets
frame_bytes f bytes =
    let behind : AreBytes (f.seed ∷ f.octets) = bytes_behind (head_octets f.rate (length f.octets)) (f.seed ∷ f.octets) bytes in
    All-from_get_or (λ octet. octet < 2 ^ 8) f.octets 0 (λ i lt. behind (suc i))

frames_bytes : (frames : List FrameView) → AreBytes (flat_map frame_octets frames) → HoldOctets frames
frames_bytes [] bytes = All-nil (λ (f : FrameView). AreOctets f.octets)
frames_bytes (f ∷ frames) bytes =
    All-cons (λ (g : FrameView). AreOctets g.octets) f frames (frame_bytes f (bytes_front (frame_octets f) (flat_map frame_octets frames) bytes))
    (frames_bytes frames (bytes_behind (frame_octets f) (flat_map frame_octets frames) bytes))

pub file_octets : (frames : List FrameView) → AreBytes (frames_file_of frames) → HoldOctets frames
unfolding frames_file_of
file_octets frames bytes = frames_bytes frames (bytes_behind (started_octets frames_magic 2 (length frames)) (flat_map frame_octets frames) bytes)
