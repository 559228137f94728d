use Rattle.std.proofs.Common.{◌∙◌, ◌+◌, ◌%◌, ◌≤◌, ◌++◌, ◌∷◌, [], ℕ, length, take, slice_index, arith, ap}
use Rattle.ht_eights.proofs.Octets.{put_four}
use Rattle.ht_eights.proofs.in_lanes.put_lane.Goals as goal

pub returns : goal.returns
returns c =
    let lanes = c.args.lanes.now in
    let k = c.args.k in
    let at = c.args.at in
    let s = lanes.streams in
    let old = c.args.octets.now in
    let long = c.told-octets in
    let room = c.requires.room in
    let inside : at + 4 ≤ length old = omega (arith, long, room) in
    put_four old at s c.octet.result c.octet-2.result c.octet-3.result c.octet-4.result inside c.requires.most
    ∙ (ap (λ (n : ℕ). take at old ++ take s (n ∷ c.octet-2.result ∷ c.octet-3.result ∷ c.octet-4.result ∷ [])) c.octet.ensures
    ∙ (ap (λ (n : ℕ). take at old ++ take s (slice_index lanes.first k % 256 ∷ n ∷ c.octet-3.result ∷ c.octet-4.result ∷ [])) c.octet-2.ensures
    ∙ (ap (λ (n : ℕ). take at old ++ take s (slice_index lanes.first k % 256 ∷ slice_index lanes.second k % 256 ∷ n ∷ c.octet-4.result ∷ [])) c.octet-3.ensures
    ∙ ap (λ (n : ℕ). take at old
    ++ take s (slice_index lanes.first k % 256 ∷ slice_index lanes.second k % 256 ∷ slice_index lanes.third k % 256 ∷ n ∷ [])) c.octet-4.ensures)))
