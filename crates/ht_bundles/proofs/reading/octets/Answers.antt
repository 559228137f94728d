use Rattle.std.proofs.Common.{◌≡◌, ◌⊎◌, ◌+◌, ◌∙◌, length, sym, ap, subst, length-append, arith, rules}
use Rattle.ht_io.specs.declared.faults.InFault.TheVariants.{NoMemory}
use Rattle.ht_io.proofs.Calls.{later-later, later-refl, takes-append, takes-none}
use Rattle.ht_fields.specs.Lacking.{LacksField}
use Rattle.ht_fields.proofs.Putting.{takes_as}
use Rattle.ht_bundles.proofs.Pieces.{piece_lacks}
use Rattle.ht_bundles.proofs.reading.octets.Goals as goal

pub loop-read-init : goal.loop-read-init
loop-read-init g c =
    let a = g.S.Source.shown c.args.source.now in
    let none = c.new-octets.ensures.items in
    record {
      within = omega arith;
      came = ap length none;
      taken = takes_as a a _ _ (sym none) (takes-none a);
      later = later-refl a;
      buffer = search rules;
    }

pub loop-read-preserved : goal.loop-read-preserved
loop-read-preserved g c =
    let a = g.S.Source.shown c.args.source.now in
    let b = g.S.Source.shown c.loop-read.source in
    let z = g.S.Source.shown c.piece.new.source in
    let was = c.loop-read.invariant in
    let (p, size, items, taken) = c.in-Ok.ensures.read in
    record {
      within = search rules;
      came = ap length items ∙ (length-append c.loop-read.octets.items p ∙ (ap (λ n. n + length p) was.came ∙ ap (λ n. c.loop-read.read + n) size));
      taken = takes_as a z _ _ (sym items) (takes-append a b z c.loop-read.octets.items p was.taken taken);
      later = later-later a b z was.later c.in-Ok.ensures.later;
      buffer = search rules;
    }

pub returns-in-Err-clause-failed : goal.returns-in-Err-clause-failed
returns-in-Err-clause-failed g c =
    let a = g.S.Source.shown c.args.source.now in
    let b = g.S.Source.shown c.loop-read.source in
    let z = g.S.Source.shown c.piece.new.source in
    let was = c.loop-read.invariant in
    piece_lacks c.args.size c.args.at c.min-more.result c.loop-read.octets.items a b z c.in-Err.fault (search rules) was.taken was.later
    (subst (λ n. (c.in-Err.fault ≡ NoMemory) ⊎ LacksField c.min-more.result (c.args.at + n) b z c.in-Err.fault) (sym was.came) c.in-Err.ensures.failed)
