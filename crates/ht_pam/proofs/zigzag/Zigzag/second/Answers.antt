use Rattle.std.proofs.Common.{rules, ◌≡◌, ◌∙◌, ap, w64, SFits, ℤ, to_z, of_z, to_z-of_z}
use Rattle.ht_pam.specs.Ends.{both}
use Rattle.ht_pam.specs.Zigzags.{gap, nearest_first}
use Rattle.ht_pam.proofs.EndLemmas.{second_of}
use Rattle.ht_pam.proofs.zigzag.Zigzag.second.Goals as goal

pub returns-clause-value : goal.returns-clause-value
returns-clause-value c =
    let z = c.self.inside in
    let wide : SFits w64 z.target = search rules in
    let shows : to_z w64 (of_z w64 z.target) ≡ z.target = to_z-of_z wide in
    second_of c.take.result c.take-2.result c.args.self.now _ c.take.new.self c.take-2.new.self
    (ap (λ (t : ℤ). nearest_first (gap t z.d) (both z.size z.below z.above)) shows ∙ c.self.view_is) c.requires c.take.ensures.next c.take-2.ensures.next
