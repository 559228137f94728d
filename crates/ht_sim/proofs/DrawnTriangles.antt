-- Triangles that are drawn one after another.
use Rattle.std.proofs.Common.{◌≡◌, ℕ, List, length, All, sym, ap, subst}
use Rattle.ht_metric.specs.Rows.{Leg}
use Rattle.ht_capture.specs.Contents.{AreTriangles}
use Rattle.ht_sim.specs.Channel.{triangle_drawn}
use Rattle.ht_sim.specs.Draws.{Drawn, joined, several}
use Rattle.ht_sim.proofs.Drawing.{All-several, length-several, several-end}
use Rattle.ht_sim.proofs.Shapes.{length-triangle_drawn}
use Rattle.ht_sim.proofs.Typed.{triangles_typed}

-- as many as were asked for, and each of the streams that were asked for
pub record AreDrawn (streams number : ℕ) (ts : List (List Leg)) : Type 0 where
  pub count : length ts ≡ number
  pub sized : All (λ t. length t ≡ streams) ts
  pub typed : AreTriangles streams ts

-- so they are once none is left
pub all_drawn : (streams number left : ℕ) (ts : List (List Leg)) (z w : ℕ) → left ≡ 0
    → joined ts (several (triangle_drawn streams) left w) ≡ several (triangle_drawn streams) number z → AreDrawn streams number ts
all_drawn streams number left ts z w none is =
    let draw = triangle_drawn streams in
    let end = several-end draw ts left w (several draw number z) none is in
    subst (λ (us : List (List Leg)). AreDrawn streams number us) (sym (ap (λ (d : Drawn (List (List Leg))). d.value) end))
    (record {
      count = length-several draw number z;
      sized = All-several (λ (t : List Leg). length t ≡ streams) draw number z (λ s. length-triangle_drawn streams s);
      typed = triangles_typed streams number z;
    })
