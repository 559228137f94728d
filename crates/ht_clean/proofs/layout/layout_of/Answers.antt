use Rattle.ht_rate.specs.declared.kinds.Pattern.TheVariants.{Half, TwoThirds, ThreeQuarters, FiveSixths}
use Rattle.ht_clean.proofs.Gathering.{from-pattern}
use Rattle.ht_clean.proofs.Layouts.{five-sixths, half, three-quarters, two-thirds}
use Rattle.ht_clean.proofs.layout.layout_of.Goals as goal

pub returns-in-Half : goal.returns-in-Half
returns-in-Half c = from-pattern c.args.pattern Half _ c.in-Half.is half

pub returns-in-TwoThirds : goal.returns-in-TwoThirds
returns-in-TwoThirds c = from-pattern c.args.pattern TwoThirds _ c.in-TwoThirds.is two-thirds

pub returns-in-ThreeQuarters : goal.returns-in-ThreeQuarters
returns-in-ThreeQuarters c = from-pattern c.args.pattern ThreeQuarters _ c.in-ThreeQuarters.is three-quarters

pub returns-in-FiveSixths : goal.returns-in-FiveSixths
returns-in-FiveSixths c = from-pattern c.args.pattern FiveSixths _ c.in-FiveSixths.is five-sixths
