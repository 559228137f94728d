use Rattle.std.proofs.Common.{◌≡◌, ◌≤◌, ◌+◌, length, ap, arith, rules}
use Rattle.std.specs.Arc.{arc_value}
use Rattle.ht_capture.specs.declared.stage.Stage.{Stage}
use Rattle.ht_capture.specs.declared.stage.Stage.TheVariants.{Giving}
use Rattle.ht_capture.specs.Readers.{more, more_at, symbol_at}
use Rattle.ht_capture.proofs.Lending.{counted_part, gives_given, part_size, placed_part}
use Rattle.ht_capture.proofs.reader.Reader.give_block.Goals as goal

pub returns-clause-given : goal.returns-clause-given
returns-clause-given c =
    let e = c.in_ok-symbol.ensures in
    let count = c.min-count.result in
    let inside : c.args.k + count ≤ c.args.due.now.count = omega (arith, c.min-count.ensures, e.inside) in
    let within : c.args.due.now.count ≤ length c.args.self.now.present = omega (arith, e.space, e.fits.frame.places) in
    let size = part_size c.args.due.now c.args.k count c.args.self.now (arc_value c.in_ok-symbol.symbol) c.of.result inside within e.symbol c.of.ensures in
    let more_was : more c.args.self.now ≡ more_at (Giving c.args.due.now c.args.k) = ap (λ (s : Stage). more_at s) c.requires.stage in
    record {
      told = λ source.
          gives_given c.args.due.now c.args.k count c.args.self.now c.lend.new.self _ source (arc_value c.in_ok-symbol.symbol) c.of.result
          c.requires.stage e.same inside within e.symbol c.of.ensures (c.move_past.ensures.told source);
      counted = counted_part c.args.due.now c.args.k count c.args.most c.args.self.now c.move_past.new.self (arc_value c.in_ok-symbol.symbol) c.of.result
          c.requires.stage (omega (arith, c.min-count.ensures, c.requires.some, e.inside)) (omega (arith, c.min-count.ensures)) e.symbol c.of.ensures size
          c.move_past.ensures.counts;
      placed = (
        c.args.due.now,
        ap (λ (s : Stage). symbol_at s) c.requires.stage,
        placed_part c.args.due.now c.args.k count c.args.self.now.at c.args.self.now (arc_value c.in_ok-symbol.symbol) c.of.result
            e.fits inside within e.symbol c.of.ensures,
        c.move_past.ensures.follows,
      );
      going = search rules;
      fewer = omega (arith, size, more_was, c.move_past.ensures.fewer);
    }
