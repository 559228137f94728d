use Rattle.ht_data.proofs.Scrambled.{within-scrambled}
use Rattle.ht_data.proofs.data.scramble_data.Goals as goal

pub slice_bounds-fill-end : goal.slice_bounds-fill-end
slice_bounds-fill-end c =
    within-scrambled c.args.bits.now c.scramble.new.bits c.args.seed _ c.requires c.scramble.ensures
