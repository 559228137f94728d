use Rattle.std.proofs.Common.{◌*◌, arith}
use Rattle.ht_capture.proofs.InLanes.{none-heard, row-heard}
use Rattle.ht_capture.proofs.lanes.row.Goals as goal

pub returns-then-streams-row : goal.returns-then-streams-row
returns-then-streams-row c k legs lt size = none-heard _ _ k c.args.row c.args.streams legs _ c.if-streams-row.true size

pub returns : goal.returns
returns c k legs lt size =
    row-heard c.words.result c.words-2.result k c.args.row c.args.streams c.args.at (k * (8 * c.args.streams)) c.args.octets.now legs
    c.requires.first (omega (arith, c.if-streams-row.false)) size (c.words.ensures k lt) (c.words-2.ensures k lt)
