use Rattle.std.proofs.Common.{w8}
use Rattle.ht_viterbi.proofs.LaneFacts.{mask-bits}
use Rattle.ht_inverse.proofs.words.flags.Goals as goal

pub returns : goal.returns
returns c = mask-bits w8 1 c.args.octets c.fits-octets.0
