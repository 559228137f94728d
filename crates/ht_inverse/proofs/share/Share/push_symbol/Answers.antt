use Rattle.std.proofs.Common.{◌≡◌, ◌∙◌, ℕ, ◌*◌, ◌+◌, ◌/◌, ◌%◌, map, ap, refl, arith}
use Rattle.std.specs.List.{range_with_len}
use Rattle.ht_parse.specs.Streams.{share_of}
use Rattle.ht_inverse.specs.Shares.{known_at}
use Rattle.ht_inverse.proofs.share.Share.push_symbol.Goals as goal

pub loop-turn-init : goal.loop-turn-init
loop-turn-init g c =
    let s = c.args.self.now in
    let f = known_at (g.L.LabelValues.known c.args.labels.now) s.rate s.erased s.encoder in
    let none : c.args.symbol * share_of s.rate ≡ c.args.symbol * share_of s.rate + 8 * 0 = omega arith in
    record {
      items = c.requires.so_far ∙ ap (λ (n : ℕ). map f (range_with_len 0 n)) none;
      capacity = refl;
    }

pub loop-turn-preserved : goal.loop-turn-preserved
loop-turn-preserved g c =
    let s = c.args.self.now in
    let f = known_at (g.L.LabelValues.known c.args.labels.now) s.rate s.erased s.encoder in
    let at = c.args.symbol * share_of s.rate in
    let turn = c.loop-turn.turn in
    let next : at + (8 * turn + 8) ≡ at + 8 * (turn + 1) = omega arith in
    record {
      items = c.push_some.ensures.items ∙ ap (λ (n : ℕ). map f (range_with_len 0 n)) next;
      capacity = c.push_some.ensures.capacity ∙ c.loop-turn.invariant.capacity;
    }

pub returns-clause-items : goal.returns-clause-items
returns-clause-items g c =
    let s = c.args.self.now in
    let f = known_at (g.L.LabelValues.known c.args.labels.now) s.rate s.erased s.encoder in
    let at = c.args.symbol * share_of s.rate in
    let all : at + (8 * (c.args.count / 8) + c.args.count % 8) ≡ at + c.args.count = omega arith in
    c.push_some-2.ensures.items ∙ ap (λ (n : ℕ). map f (range_with_len 0 n)) all
