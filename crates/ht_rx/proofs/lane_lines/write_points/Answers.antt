use Rattle.std.proofs.Common.{◌%◌, ◌∙◌, ◌∷◌, ◌++◌, [], ℕ, List, ap, arith, drop, map, nat_lt, slice_index, take, true}
use Rattle.ht_map.specs.Gray.{point_of}
use Rattle.ht_results.specs.JobTexts.{levels_of}
use Rattle.ht_text.specs.Lines.{spaced}
use Rattle.ht_rx.proofs.LaneLines.{if_there, points_put}
use Rattle.ht_rx.proofs.lane_lines.write_points.Goals as goal

pub returns-clause-written : goal.returns-clause-written
returns-clause-written c =
    let lanes = c.args.lanes.now in
    let k = c.args.k in
    let s = c.args.streams in
    let name = point_of c.args.texts.now.modulation in
    let a = slice_index lanes.first k % 256 in
    let b = slice_index lanes.second k % 256 in
    let d = slice_index lanes.third k % 256 in
    let e = slice_index lanes.fourth k % 256 in
    let rest = drop c.args.end c.args.into.now in
    c.write_point.ensures.written
    ∙ (ap (λ (l : List ℕ). if_there name a b d e rest true a l) (c.write_point-at-3.ensures.written
    ∙ ap (λ (l : List ℕ). if_there name a b d e rest (nat_lt 1 s) b l) (c.write_point-at-2.ensures.written
    ∙ ap (λ (l : List ℕ). if_there name a b d e rest (nat_lt 2 s) d l) c.write_point-at.ensures.written))
    ∙ (points_put name a b d e rest s (omega (arith, c.requires.some, c.requires.streams)) (omega (arith, c.requires.most, c.requires.streams))
    ∙ ap (λ (n : ℕ). spaced (levels_of (map name (take n (a ∷ b ∷ d ∷ e ∷ [])))) ++ rest) c.requires.streams))
