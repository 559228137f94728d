use Rattle.std.proofs.Common.{◌≡◌, ◌∙◌, ◌+◌, ◌-◌, ◌*◌, ◌<◌, ℕ, length, ap, refl, arith, subst, sym}
use Rattle.std.specs.List.{range_with_len}
use Rattle.ht_frames.specs.Tallies.{IsTally}
use Rattle.ht_rate.specs.declared.kinds.Carrier.TheVariants.{Data}
use Rattle.ht_results.specs.Plans.{place_by}
use Rattle.ht_eights.specs.InLanes.{jobs_behind, lane_labels}
use Rattle.ht_eights.proofs.Runs.{run_more, run_none}
use Rattle.ht_eights.proofs.in_lanes.run_from.Goals as goal

pub loop-k-init : goal.loop-k-init
loop-k-init g c =
    let first = c.args.first in
    let none : first - first ≡ 0 = omega arith in
    record {
      few = omega arith;
      is = run_none g.K.Kind.plan c.args.head.now c.args.lanes.now (g.B.Jobs.jobs c.args.block.now) (c.args.at + first) first
          (place_by g.K.Kind.plan c.args.head.now c.place_at-start.result.symbol c.in-Data.m) c.args.lanes.now.streams (first - first) none;
    }

pub loop-k-preserved : goal.loop-k-preserved
loop-k-preserved g c =
    let l = c.loop-k in
    let jobs = g.B.Jobs.jobs c.args.block.now in
    let head = c.args.head.now in
    let lanes = c.args.lanes.now in
    let first = c.args.first in
    let so_far = l.k - first in
    let symbol = c.place_at-start.result.symbol in
    let m = c.in-Data.m in
    let e = c.distance_in-distance.result in
    let low = l.auto.k in
    let under = c.loop-k-test.true in
    let within = c.requires.within in
    let next : (l.k + 1) - first ≡ so_far + 1 = omega (arith, low) in
    let lane : l.k ≡ first + so_far = omega (arith, low) in
    let index : c.args.at + l.k ≡ (c.args.at + first) + so_far = omega (arith, low) in
    let inside : c.args.at + l.k < length jobs = omega (arith, under, within) in
    let few = c.distance_in-distance.ensures.few in
    let bounded = l.invariant.few in
    let kind : g.K.Kind.plan.kind head c.place_at-start.result.carrier ≡ Data m = sym c.carries.ensures ∙ c.in-Data.is in
    let more = c.if-jobs-most.false in
    let most = c.from-most.ensures in
    let inside_run : so_far < c.data_run.result = omega (arith, more, most) in
    let carries : g.K.Kind.plan.kind head c.place_at.result.carrier ≡ Data (m + so_far) = ap (λ (n : ℕ). g.K.Kind.plan.kind head n)
    (c.if-not-is_behind.ensures.carrier refl) ∙ c.data_run.ensures m so_far kind inside_run in
    let run = run_more g.K.Kind.plan head (g.K.LabelKind.modulation_in head) (g.met.K.LabelKind.labels head) lanes jobs
    (c.args.at + first) first so_far l.k (c.args.at + l.k) symbol m l.distance e c.place_at.result
    c.requires.streams c.requires.most lane index inside c.distance_in-distance.ensures.value (omega (arith, few)) (c.if-not-is_sure.ensures refl)
    (c.if-not-is_behind.ensures.symbol refl) carries c.place_at.ensures
    (c.requires.labels l.k under) l.invariant.is in
    record {
      few = omega (arith, few, bounded, next);
      is = subst (λ (n : ℕ). IsTally g.K.Kind.plan head (jobs_behind jobs (c.args.at + first) n) n (l.distance + e) 0
          (range_with_len (place_by g.K.Kind.plan head symbol m) (n * lanes.streams)) (lane_labels lanes first n)) (sym next) run;
    }

pub returns-clause-is : goal.returns-clause-is
returns-clause-is g c =
    let all = c.loop-k-test.false in
    let most = c.loop-k.auto.k-end (omega (arith, c.requires.first)) in
    let last : c.loop-k.k ≡ 8 = omega (arith, all, most) in
    let place = c.place-place.ensures.value in
    let run = c.loop-k.invariant.is in
    let jobs = g.B.Jobs.jobs c.args.block.now in
    let lanes = c.args.lanes.now in
    let first = c.args.first in
    subst (λ (p : ℕ). IsTally g.K.Kind.plan c.args.head.now (jobs_behind jobs (c.args.at + first) (8 - first)) (8 - first) c.loop-k.distance 0
    (range_with_len p ((8 - first) * lanes.streams)) (lane_labels lanes first (8 - first))) (sym place)
    (subst (λ (k : ℕ). IsTally g.K.Kind.plan c.args.head.now (jobs_behind jobs (c.args.at + first) (k - first)) (k - first) c.loop-k.distance 0
    (range_with_len (place_by g.K.Kind.plan c.args.head.now c.place_at-start.result.symbol c.in-Data.m) ((k - first) * lanes.streams))
    (lane_labels lanes first (k - first))) last run)

pub overflow_add-distance : goal.overflow_add-distance
overflow_add-distance g c =
    let few = c.loop-k.invariant.few in
    let here = c.distance_in-distance.ensures.few in
    let within = c.loop-k-test.true in
    omega (arith, few, here, within)
