use Rattle.std.proofs.Common.{◌∙◌, subst, arith}
use Rattle.ht_sim.specs.Channel.{triangle_drawn}
use Rattle.ht_sim.proofs.Drawing.{several-step}
use Rattle.ht_sim.proofs.DrawnTriangles.{all_drawn}
use Rattle.ht_capture.specs.Contents.{AreTriangles}
use Rattle.ht_sim.proofs.triangles.triangles.Goals as goal

pub loop-carrier-preserved : goal.loop-carrier-preserved
loop-carrier-preserved c =
    several-step (triangle_drawn c.streams-streams.result) c.loop-carrier.triangles.items c.push.new.self.items c.triangle.result _ _
    c.loop-carrier.words c.triangle.new.words _
    (omega arith) c.loop-carrier.invariant c.in_ok-push.ensures.items c.triangle.ensures.value c.triangle.ensures.behind

pub returns-clause-count : goal.returns-clause-count
returns-clause-count c =
    (all_drawn c.streams-streams.result c.carriers-carriers.result _ c.loop-carrier.triangles.items c.args.words.now c.loop-carrier.words (omega arith)
    c.loop-carrier.invariant).count
    ∙ c.carriers-carriers.ensures.value

pub returns-clause-streams : goal.returns-clause-streams
returns-clause-streams c =
    let drawn = all_drawn c.streams-streams.result c.carriers-carriers.result _ c.loop-carrier.triangles.items c.args.words.now c.loop-carrier.words
    (omega arith) c.loop-carrier.invariant in
    λ k d below. drawn.sized k d below ∙ c.streams-streams.ensures.value

pub returns-clause-typed : goal.returns-clause-typed
returns-clause-typed c =
    subst (λ m. AreTriangles m c.loop-carrier.triangles.items) c.streams-streams.ensures.value
    (all_drawn c.streams-streams.result c.carriers-carriers.result _ c.loop-carrier.triangles.items c.args.words.now c.loop-carrier.words (omega arith)
    c.loop-carrier.invariant).typed
