use Rattle.std.proofs.Common.{◌∙◌, ap, ◌+◌, vec_len}
use Rattle.ht_data.proofs.Scrambled.{data-built}
use Rattle.ht_data.proofs.data.data_bits.Goals as goal

pub returns : goal.returns
returns c =
    data-built c.args.octets.now c.in_ok-bits.bits.items c.extend_from_slice.new.self.items c.extend_from_slice-2.new.self.items c.as_slice.result.now
    c.resize.new.self.items (c.len-2.result + c.args.zeros) (vec_len c.extend_from_slice-2.new.self) c.args.zeros
    c.in_ok-bits.ensures.items c.in_ok-extend_from_slice.ensures.items c.in_ok-extend_from_slice-2.ensures.items
    (c.as_slice.ensures.value ∙ c.in_ok-psdu.ensures.bits)
    c.extend_from_slice-2.new.self.ok.0 (ap (λ x. x + c.args.zeros) c.len-2.ensures) c.in_ok-resize.ensures.items
