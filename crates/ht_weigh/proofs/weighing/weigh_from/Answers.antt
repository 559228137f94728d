use Rattle.std.proofs.Common.{◌≡◌, ◌∙◌, ◌+◌, ◌-◌, ◌*◌, ◌≤◌, ℕ, List, [], length, replicate, arith, ap, subst}
use Rattle.std.proofs.lemmas.List.{length-replicate}
use Rattle.ht_rate.specs.Schemes.{bits_of}
use Rattle.ht_metric.specs.Jobs.{near}
use Rattle.ht_sphere.specs.Coordinates.{from_last}
use Rattle.ht_sphere.specs.Searching.{leaves}
use Rattle.ht_weigh.specs.Leasts.{IsLowered}
use Rattle.ht_weigh.specs.Walks.{Tells}
use Rattle.ht_weigh.proofs.Whole.{bit_within, bits_within, weight_is}
use Rattle.ht_weigh.proofs.weighing.weigh_from.Goals as goal

pub write-requires : goal.write-requires
write-requires g c =
    let job = c.lower_all.ensures.job in
    let few = bits_within c.args.modulation (length c.args.job.now.system) (omega (arith, job.streams, job.grid.few)) in
    let start : length c.all_at-leasts.result ≡ 48 =
    ap (λ (l : List ℕ). length l) c.all_at-leasts.ensures ∙ length-replicate 48 (c.args.least + 65535) in
    omega (arith, few, c.requires.size, c.lower_all.ensures.lowered.size, start)

pub returns : goal.returns
returns g c =
    let m = c.args.modulation in
    let job = c.args.job.now in
    let is = c.lower_all.ensures.job in
    let clip = c.args.least + 65535 in
    let enough : (near job).distance + 65535 ≤ clip = omega (arith, c.requires.least) in
    let walked : IsLowered (Tells m (leaves (from_last job.system job.grid) [] 0)) (replicate 48 clip) c.lower_all.new.leasts =
    subst (λ (l : List ℕ). IsLowered (Tells m (leaves (from_last job.system job.grid) [] 0)) l c.lower_all.new.leasts) c.all_at-leasts.ensures
    c.lower_all.ensures.lowered in
    record {
      size = c.write.ensures.size ∙ c.requires.size;
      each = λ stream e first last within.
          let j = (stream - 1) * bits_of m + e in
          let there = bit_within m (stream - 1) e (length job.system) within (omega (arith, first, last)) in
          c.write.ensures.weights j (omega (arith, there, c.requires.size))
          ∙ weight_is m job is c.requires.full stream e first (omega (arith, last, is.streams)) within clip c.lower_all.new.leasts walked enough
          (2 * j) (2 * j + 1) (omega arith) (omega arith);
    }
