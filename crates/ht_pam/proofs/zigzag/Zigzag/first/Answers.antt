use Rattle.std.proofs.Common.{rules, ◌≡◌, ◌∙◌, ap, w8, w64, SFits, to_z, of_z, to_z-of_z}
use Rattle.ht_pam.specs.Ladders.{level}
use Rattle.ht_pam.proofs.EndLemmas.{passed_lower, passed_higher, shown_first}
use Rattle.ht_pam.proofs.zigzag.Zigzag.first.Goals as goal

pub returns-then-is_lower-clause-value : goal.returns-then-is_lower-clause-value
returns-then-is_lower-clause-value c =
    let z = c.self.inside in
    let wide : SFits w64 z.target = search rules in
    let shows : to_z w64 (of_z w64 z.target) ≡ z.target = to_z-of_z wide in
    let small : SFits w8 c.level_at.result = search rules in
    to_z-of_z small ∙ c.level_at.ensures.value ∙ ap (level z.size) c.highest.ensures.place
    ∙ shown_first c.self.view_is (passed_lower z.target (to_z w64 (of_z w64 z.target)) z.d z.size z.below z.above shows c.self.invariant.0
    (c.is_lower.ensures.lower c.if-is_lower.true) (c.is_lower.ensures.near c.if-is_lower.true)).1

pub returns-else-is_lower-clause-value : goal.returns-else-is_lower-clause-value
returns-else-is_lower-clause-value c =
    let z = c.self.inside in
    let wide : SFits w64 z.target = search rules in
    let shows : to_z w64 (of_z w64 z.target) ≡ z.target = to_z-of_z wide in
    let small : SFits w8 c.level_at-else-is_lower.result = search rules in
    to_z-of_z small ∙ c.level_at-else-is_lower.ensures.value ∙ ap (level z.size) c.lowest.ensures.place
    ∙ shown_first c.self.view_is (passed_higher z.target (to_z w64 (of_z w64 z.target)) z.d z.size z.below z.above shows c.self.invariant.0
    (c.is_lower.ensures.higher c.if-is_lower.false) (c.is_lower.ensures.far c.if-is_lower.false)).1
