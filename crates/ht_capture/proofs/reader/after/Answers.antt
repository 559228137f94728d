use Rattle.std.proofs.Common.{arith}
use Rattle.ht_capture.proofs.reader.after.Goals as goal

pub overflow_add-turn : goal.overflow_add-turn
overflow_add-turn c =
    let f = c.requires.fits in omega (arith, f.number, f.frame.frames, f.symbol, f.frame.symbols, f.frame.places)

pub returns-then-due-clause-fits : goal.returns-then-due-clause-fits
returns-then-due-clause-fits c =
    let f = c.requires.fits in
    record {
      frame = f.frame;
      symbol = omega (arith, c.if-due.true);
      place = omega (arith, f.place);
      number = omega (arith, f.number, f.frame.places);
    }

pub returns-else-due-clause-fits : goal.returns-else-due-clause-fits
returns-else-due-clause-fits c =
    let f = c.requires.fits in
    record {
      frames = omega (arith, f.frame.frames, f.frame.left);
      place = omega (arith, f.place, f.symbol, f.frame.symbols);
      number = omega (arith, f.number, f.frame.places, f.symbol, f.frame.symbols);
    }
