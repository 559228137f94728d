use Rattle.std.proofs.Common.{◌∙◌, ◌+◌, ◌*◌, List, Bool, ap, arith, length}
use Rattle.ht_scramble.specs.Sequence.{scrambled}
use Rattle.ht_data.specs.Data.{zeroed}
use Rattle.ht_data.proofs.Scrambled.{length-data_of, rewritten}
use Rattle.ht_data.proofs.data.scrambled_data.Goals as goal

pub scramble_data-requires : goal.scramble_data-requires
scramble_data-requires c =
    omega (
      arith,
      ap length c.in_ok-bits.ensures,
      length-data_of c.args.octets.now (c.args.tail + c.args.pads),
      ap length c.as_mut_slice.ensures.value,
    )

pub returns : goal.returns
returns c =
    rewritten c.scramble_data.new.bits c.in_ok-bits.bits.items c.in_ok-bits.bits.len (c.scramble_data.auto.bits ∙ c.as_mut_slice.ensures.len)
    ∙ c.scramble_data.ensures
    ∙ ap (λ (l : List Bool). zeroed (16 + 8 * length c.args.octets.now) c.args.tail (scrambled c.args.seed l))
    (c.as_mut_slice.ensures.value ∙ c.in_ok-bits.ensures)
