use Rattle.ht_rate.specs.declared.kinds.Modulation.TheVariants.{Bpsk, Qpsk, Qam16, Qam64}
use Rattle.ht_rounding.proofs.Labelling.{for_modulation}
use Rattle.ht_rounding.proofs.eight.label_lanes.Goals as goal

pub returns-in-Bpsk-clause-labels : goal.returns-in-Bpsk-clause-labels
returns-in-Bpsk-clause-labels c k job lt some =
    for_modulation c.args.modulation Bpsk c.args.eight.now c.args.streams _ k job c.in-Bpsk.is (c.label_by_levels.ensures.labels k job lt some)

pub returns-in-Qpsk-clause-labels : goal.returns-in-Qpsk-clause-labels
returns-in-Qpsk-clause-labels c k job lt some =
    for_modulation c.args.modulation Qpsk c.args.eight.now c.args.streams _ k job c.in-Qpsk.is (c.label_by_levels-in-Qpsk.ensures.labels k job lt some)

pub returns-in-Qam16-clause-labels : goal.returns-in-Qam16-clause-labels
returns-in-Qam16-clause-labels c k job lt some =
    for_modulation c.args.modulation Qam16 c.args.eight.now c.args.streams _ k job c.in-Qam16.is (c.label_by_levels-in-Qam16.ensures.labels k job lt some)

pub returns-in-Qam64-clause-labels : goal.returns-in-Qam64-clause-labels
returns-in-Qam64-clause-labels c k job lt some =
    for_modulation c.args.modulation Qam64 c.args.eight.now c.args.streams _ k job c.in-Qam64.is (c.label_by_levels-in-Qam64.ensures.labels k job lt some)
