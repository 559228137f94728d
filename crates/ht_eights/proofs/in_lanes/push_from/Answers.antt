use Rattle.std.proofs.Common.{◌≡◌, ◌∙◌, ◌*◌, ℕ, ap}
use Rattle.ht_eights.proofs.Octets.{lanes_behind}
use Rattle.ht_eights.proofs.in_lanes.push_from.Goals as goal

pub returns : goal.returns
returns c =
    let s = c.args.streams in
    let start : c.from.result * c.from-2.result ≡ c.args.first * s =
    ap (λ (n : ℕ). n * c.from-2.result) c.from.ensures ∙ ap (λ (n : ℕ). c.args.first * n) c.from-2.ensures in
    let count : c.from-3.result * c.from-4.result ≡ c.args.jobs * s =
    ap (λ (n : ℕ). n * c.from-4.result) c.from-3.ensures ∙ ap (λ (n : ℕ). c.args.jobs * n) c.from-4.ensures in
    lanes_behind c.extend_from_slice.result c.args.lanes.now c.octets_of-octets.result c.args.labels.now.items c.extend_from_slice.new.self.items
    c.args.first c.args.jobs s (c.from.result * c.from-2.result) (c.from-3.result * c.from-4.result) c.requires.streams c.requires.most c.requires.within
    c.octets_of-octets.ensures start count c.extend_from_slice.ensures.items
