use Rattle.std.proofs.lemmas.Nat.{one_shl}
use Rattle.ht_inverse.proofs.share.mask_of.Goals as goal

pub returns : goal.returns
returns c = one_shl c.args.shift 8 c.requires
