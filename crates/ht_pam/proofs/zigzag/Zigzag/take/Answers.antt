use Rattle.std.proofs.Common.{rules, ◌∙◌, w8, w64, SFits, to_z-of_z}
use Rattle.ht_pam.proofs.EndLemmas.{takes_lower, takes_higher}
use Rattle.ht_pam.proofs.zigzag.Zigzag.take.Goals as goal

pub invariant_of-self : goal.invariant_of-self
invariant_of-self c =
    let wide : SFits w64 c.self.inside.target = search rules in
    let taken = takes_lower c.self.inside (to_z-of_z wide) c.self.view_is c.self.invariant.0 (c.is_lower.ensures.lower c.if-is_lower.true)
    (c.is_lower.ensures.near c.if-is_lower.true) c.without-self-inside.ensures c.highest-at.ensures.place in
    (taken.0, c.self.invariant.1, c.self.invariant.2)

pub invariant_of-self-else-is_lower : goal.invariant_of-self-else-is_lower
invariant_of-self-else-is_lower c =
    let wide : SFits w64 c.self.inside.target = search rules in
    let taken = takes_higher c.self.inside (to_z-of_z wide) c.self.view_is c.self.invariant.0 (c.is_lower.ensures.higher c.if-is_lower.false)
    (c.is_lower.ensures.far c.if-is_lower.false) c.without-self-inside-else-is_lower.ensures c.lowest-at.ensures.place in
    (taken.0, c.self.invariant.1, c.self.invariant.2)

pub returns-then-is_lower-clause-next : goal.returns-then-is_lower-clause-next
returns-then-is_lower-clause-next c =
    let wide : SFits w64 c.self.inside.target = search rules in
    let small : SFits w8 c.level_at.result = search rules in
    (takes_lower c.self.inside (to_z-of_z wide) c.self.view_is c.self.invariant.0 (c.is_lower.ensures.lower c.if-is_lower.true)
    (c.is_lower.ensures.near c.if-is_lower.true) c.without-self-inside.ensures c.highest-at.ensures.place).1
    _ (to_z-of_z small ∙ c.level_at.ensures.value)

pub returns-else-is_lower-clause-next : goal.returns-else-is_lower-clause-next
returns-else-is_lower-clause-next c =
    let wide : SFits w64 c.self.inside.target = search rules in
    let small : SFits w8 c.level_at-else-is_lower.result = search rules in
    (takes_higher c.self.inside (to_z-of_z wide) c.self.view_is c.self.invariant.0 (c.is_lower.ensures.higher c.if-is_lower.false)
    (c.is_lower.ensures.far c.if-is_lower.false) c.without-self-inside-else-is_lower.ensures c.lowest-at.ensures.place).1
    _ (to_z-of_z small ∙ c.level_at-else-is_lower.ensures.value)
