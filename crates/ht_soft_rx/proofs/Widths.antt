-- How many weights a frame has.
use Rattle.std.proofs.Common.{◌≡◌, ℕ, ◌*◌, sym, ap, ◌∙◌}
use Rattle.std.proofs.Math.Nat.{mul_assoc}
use Rattle.ht_rate.specs.Rates.{data_carriers_of, label_bits_of, streams_of}
use Rattle.ht_capture.specs.declared.items.FrameHead.{FrameHead}
use Rattle.ht_capture_laws.specs.Items.{symbols_in}
use Rattle.ht_frames.specs.Frames.{values_in}
use Rattle.ht_inverse.specs.Received.{labels_in_frame}
use Rattle.ht_soft_rx.specs.Jobs.{weight_plan}

-- a weight for each bit of each label
pub weights_count : (head : FrameHead) → values_in weight_plan head ≡ labels_in_frame head.rate head.length * label_bits_of head.rate
weights_count head =
    let carriers : ℕ = data_carriers_of head.rate in
    let streams : ℕ = streams_of head.rate in
    let bits : ℕ = label_bits_of head.rate in
    ap (λ (n : ℕ). symbols_in head * n) (sym (mul_assoc carriers streams bits)) ∙ sym (mul_assoc (symbols_in head) (carriers * streams) bits)
