use Rattle.std.proofs.Common.{◌≡◌, ◌∙◌, ◌+◌, ◌*◌, List, [], ◌∷◌, ◌++◌, Bool, false, ap, refl, arith, rules, length, get_or}
use Rattle.ht_parse.proofs.Alternating.{firsts_more, seconds_more}
use Rattle.ht_parse.proofs.encoders.alternated.Goals as goal

pub loop-i-preserved : goal.loop-i-preserved
loop-i-preserved c =
    let xs = c.loop-i.bits.items in
    let i = c.loop-i.i in
    let a = get_or c.args.first.now i false in
    let b = get_or c.args.second.now i false in
    let was = c.loop-i.invariant in
    let one = c.push_reserved.ensures in
    let two = c.push_reserved-in-loop-i.ensures in
    let longer : c.push_reserved-in-loop-i.new.self.items ≡ (xs ++ a ∷ []) ++ b ∷ [] =
    two.items ∙ ap (λ (l : List Bool). l ++ b ∷ []) one.items in
    let count : length xs ≡ 2 * i = omega (arith, was.count, c.loop-i.bits.ok.0) in
    record {
      count = omega (arith, was.count, one.len, two.len);
      capacity = search rules;
      firsts = λ k below. ap (λ (l : List Bool). get_or l (2 * k) false) longer ∙ firsts_more xs c.args.first.now a b i count refl was.firsts k below;
      seconds = λ k below.
          ap (λ (l : List Bool). get_or l (2 * k + 1) false) longer ∙ seconds_more xs c.args.second.now a b i count refl was.seconds k below;
    }
