use Rattle.std.proofs.Common.{◌≡◌, ◌∙◌, ◌*◌, ◌≤◌, ℕ, ℤ, pos, List, [], length, take, replicate, unsigned_abs, arith, sym, ap, subst}
use Rattle.std.proofs.lemmas.List.{length-take, length-replicate}
use Rattle.std.proofs.lemmas.List.Elements.{All-take, All-replicate}
use Rattle.ht_metric.specs.Rows.{Row}
use Rattle.ht_sphere.specs.Coordinates.{Real, down}
use Rattle.ht_sphere.specs.Searching.{leaves}
use Rattle.ht_sphere.proofs.Down.{down_system, none_left}
use Rattle.ht_weigh.specs.Leasts.{IsLowered, AreWithin}
use Rattle.ht_weigh.specs.Walks.{Tells}
use Rattle.ht_weigh.proofs.Lowered.{all-within}
use Rattle.ht_weigh.proofs.weighing.lower_all.Goals as goal

abbrev zeros : List ℤ
zeros = replicate 8 (pos 0)

pub walk-requires-clause-ready : goal.walk-requires-clause-ready
walk-requires-clause-ready g c =
    let rows : length c.system.result.now ≡ length c.args.job.now.system = ap (λ (l : List Row). length l) c.system.ensures.system in
    let long = length-take (2 * c.from.result) zeros in
    record {
      full = c.requires.full;
      size = omega (arith, long, rows, c.from.ensures, c.streams-streams.ensures.number, c.streams-streams.ensures.few);
      levels = All-take (λ x. unsigned_abs x ≤ 7) (2 * c.from.result) zeros (All-replicate (λ x. unsigned_abs x ≤ 7) 8 (pos 0) (omega arith));
      places = ap (λ (l : List ℕ). length l) c.requires.leasts ∙ length-replicate 48 c.args.clip;
      within = subst (AreWithin c.args.clip) (sym c.requires.leasts) (all-within c.args.clip 48);
    }

pub returns-clause-lowered : goal.returns-clause-lowered
returns-clause-lowered g c =
    let k = c.streams-streams.result in
    let all = down_system c.args.job.now c.system.result.now k c.system.ensures.job c.system.ensures.system c.streams-streams.ensures.number in
    let long = length-take (2 * c.from.result) zeros in
    let none = none_left (take (2 * c.from.result) zeros) k (omega (arith, long, c.from.ensures)) in
    subst (λ (cs : List Real). IsLowered (Tells c.args.modulation (leaves cs [] 0)) c.args.leasts.now c.walk.new.leasts) all
    (subst (λ (s : List ℤ). IsLowered (Tells c.args.modulation (leaves (down c.args.job.now.system c.args.job.now.grid k) s 0)) c.args.leasts.now
    c.walk.new.leasts) none c.walk.ensures.lowered)
