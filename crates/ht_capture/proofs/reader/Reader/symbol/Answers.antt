use Rattle.std.proofs.Common.{◌≡◌, ℕ, List, length, take, sym, ap, subst, ◌∙◌, arith, rules}
use Rattle.ht_capture.specs.declared.lent.Lent.{Lent}
use Rattle.ht_capture.specs.declared.stage.Stage.{Stage}
use Rattle.ht_capture.specs.declared.stage.Stage.TheVariants.{NextSymbol}
use Rattle.ht_capture.specs.Blocks.{KeepsLent, LendsFrame}
use Rattle.ht_capture.specs.Readers.{SymbolFits, symbol_octets}
use Rattle.ht_capture.proofs.Grids.{written-all}
use Rattle.ht_capture.proofs.Symbols.{gives_read}
use Rattle.ht_capture.proofs.Turns.{halts_real}
use Rattle.ht_fields.proofs.Halting.{halts_as}
use Rattle.ht_capture.proofs.reader.Reader.symbol.Goals as goal

pub invariant_of-self : goal.invariant_of-self
invariant_of-self g c =
    let old = c.self.inside in
    let due = c.args.due in
    let is : old.stage ≡ NextSymbol due = rw (← c.self.view_is) at c.requires.stage in
    let lent : LendsFrame due.head (take due.count old.present.items) c.replace.result =
    subst (λ (l : Lent). LendsFrame due.head (take due.count old.present.items) l) (sym c.replace.ensures.value)
    (subst (λ (s : Stage). KeepsLent s old.present.items old.samples.items old.lent) is c.self.invariant.2) in
    let size : length c.symbol.new.samples ≡ old.samples.len = omega arith in
    let len : length c.symbol.new.samples ≡ 3648 = omega arith in
    let f : SymbolFits due 0 old.at old.present.items = rw (← c.self.view_is) at c.requires.fits in (
      record {
        present = search rules;
        samples = ap (λ (o : List ℕ). length o) (written-all c.symbol.new.samples _ _ size) ∙ len;
        stage = (
          omega (arith, f.frame.count),
          record { frame = f.frame; symbol = f.symbol; place = omega (arith, f.place, c.in-Ok.ensures.place); number = f.number },
        );
      },
      search rules,
      c.passed.ensures due.head (take due.count old.present.items) lent due.symbol due.turn.number _,
    )

pub stop-requires : goal.stop-requires
stop-requires g c = record { real = halts_real _ _ c.in-Err.fault (c.in-Err.ensures.told (take c.args.due.count c.self.inside.present.items)) }

pub returns-in-Ok-clause-told : goal.returns-in-Ok-clause-told
returns-in-Ok-clause-told g c =
    let due = c.args.due in
    let size : length c.symbol.new.samples ≡ c.self.inside.samples.len = omega arith in
    rw (← c.self.view_is)
    (gives_read _ due c.in-Ok.behind c.self.inside.present.items _ _ _ (ap (take (symbol_octets due)) (sym (written-all c.symbol.new.samples _ _ size)))
    (c.in-Ok.ensures.told (take due.count c.self.inside.present.items)))

pub returns-in-Err-clause-told : goal.returns-in-Err-clause-told
returns-in-Err-clause-told g c =
    rw (← c.self.view_is) (halts_as _ _ c.in-Err.fault c.stop.result c.stop.ensures.same
    (c.in-Err.ensures.told (take c.args.due.count c.self.inside.present.items)))

pub returns-in-Err-clause-memory : goal.returns-in-Err-clause-memory
returns-in-Err-clause-memory g c = λ e.
    halts_real _ _ c.in-Err.fault (c.in-Err.ensures.told (take c.args.due.count c.self.inside.present.items)) (sym c.stop.ensures.same ∙ e)
