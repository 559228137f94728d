use Rattle.std.proofs.Common.{◌≡◌, ℕ, w8, arith, sym, refl}
use Rattle.std.proofs.lemmas.Int.{to_z-of_z}
use Rattle.ht_pam.specs.Ladders.{Rungs}
use Rattle.ht_pam.proofs.LadderLemmas.{has_at, none_more, has_none}
use Rattle.ht_pam.proofs.ladder.Ladder.has.Goals as goal

-- the parts of a ladder are what it shows
shown : (size mask : ℕ) (now : Rungs) → size ≡ now.size → mask ≡ now.mask → record { size = size; mask = mask } ≡ now
shown size mask now p q = rw (p, q) refl

pub returns-then-is_at-clause-has : goal.returns-then-is_at-clause-has
returns-then-is_at-clause-has c =
    let l = c.parts-size in
    sym (has_at l.result.0 l.result.1 c.args.self.now c.args.level _ c.loop-j.j c.is_at.result
    (shown l.result.0 l.result.1 c.args.self.now l.ensures.size l.ensures.mask)
    (to_z-of_z w8 c.args.level c.ranges.level) (omega arith) c.is_at.ensures c.if-is_at.true)

pub loop-j-preserved : goal.loop-j-preserved
loop-j-preserved c =
    let l = c.parts-size in
    none_more l.result.0 l.result.1 c.args.self.now _ c.loop-j.j c.is_at.result
    (shown l.result.0 l.result.1 c.args.self.now l.ensures.size l.ensures.mask)
    c.is_at.ensures c.if-is_at.false c.loop-j.invariant

pub returns-clause-has : goal.returns-clause-has
returns-clause-has c =
    let l = c.parts-size in
    sym (has_none l.result.0 l.result.1 c.args.self.now c.args.level _ c.loop-j.j
    (shown l.result.0 l.result.1 c.args.self.now l.ensures.size l.ensures.mask)
    (to_z-of_z w8 c.args.level c.ranges.level) (omega arith) c.loop-j.invariant)
