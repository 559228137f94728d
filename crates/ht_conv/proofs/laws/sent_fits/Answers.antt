use Rattle.ht_conv.proofs.Fitting.{sent_fits}
use Rattle.ht_conv.proofs.laws.sent_fits.Goals as goal

pub returns : goal.returns
returns c = sent_fits
