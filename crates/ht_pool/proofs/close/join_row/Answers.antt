use Rattle.std.proofs.Common.{◌≡◌, ◌∙◌, [], List, length, ap, sym, rules}
use Rattle.ht_pool.specs.Takers.{TakerView}
use Rattle.ht_pool.specs.Gathering.{joined_row}
use Rattle.ht_pool.proofs.Joining.{at_place, row-step, joined_row-none}
use Rattle.ht_pool.proofs.close.join_row.Goals as goal

pub absorb-requires : goal.absorb-requires
absorb-requires g c =
    let was = c.loop-taker.invariant in
    let place : c.len.result ≡ length c.pop.new.self.items = search rules in
    record {
      at = at_place c.loop-taker.owners c.args.owners.now c.loop-taker.takers.items c.pop.new.self.items c.args.takers.items c.in-Some.taker c.len.result
          c.in-Some.ensures.items place was.same was.at c.index-owners-len.result;
    }

pub loop-taker-preserved : goal.loop-taker-preserved
loop-taker-preserved g c =
    let was = c.loop-taker.invariant in
    let place : c.len.result ≡ length c.pop.new.self.items = search rules in
    let step = row-step c.loop-taker.owners c.args.owners.now c.loop-taker.takers.items c.pop.new.self.items c.args.takers.items c.in-Some.taker c.len.result
    c.in-Some.ensures.items place was.same was.at c.index-owners-len.result c.absorb.new.self c.absorb.ensures was.joined in
    record { same = step.0; at = step.1; joined = step.2 }

pub returns : goal.returns
returns g c =
    let none : c.loop-taker.takers.items ≡ [] = search rules in
    sym (joined_row-none c.loop-taker.owners) ∙ (ap (λ (ss : List (TakerView g.row.T.Denot)). joined_row c.loop-taker.owners ss) (sym none)
    ∙ c.loop-taker.invariant.joined)
