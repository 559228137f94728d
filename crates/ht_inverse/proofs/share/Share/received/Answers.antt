use Rattle.std.proofs.Common.{◌≡◌, ◌∙◌, ◌*◌, ◌+◌, ℕ, arith, ap, map, vec_len}
use Rattle.std.specs.List.{range_with_len}
use Rattle.std.proofs.Math.Nat.{add-mul}
use Rattle.ht_parse.specs.Streams.{share_of}
use Rattle.ht_landing.proofs.Landed.{share-some}
use Rattle.ht_inverse.specs.declared.share.Share.{Share}
use Rattle.ht_inverse.specs.Shares.{known_at}
use Rattle.ht_inverse.proofs.Gathered.{places-length, whole-within, parted}
use Rattle.ht_inverse.proofs.share.Share.received.Goals as goal

-- the number of places is that of a symbol's share
width-of : (s : Share) (len : ℕ) → len ≡ vec_len s.places → len ≡ share_of s.rate
width-of s len is = is ∙ s.places.ok.0 ∙ places-length s.rate s.erased s.encoder s.places.items s.places_are

pub nonzero_div-symbol-end : goal.nonzero_div-symbol-end
nonzero_div-symbol-end g c =
    omega (arith, width-of c.args.self.now c.len-share.result c.len-share.ensures, share-some c.args.self.now.rate)

pub nonzero_div-count : goal.nonzero_div-count
nonzero_div-count g c =
    omega (arith, width-of c.args.self.now c.len-share.result c.len-share.ensures, share-some c.args.self.now.rate)

pub nonzero_rem-count : goal.nonzero_rem-count
nonzero_rem-count g c =
    omega (arith, width-of c.args.self.now c.len-share.result c.len-share.ensures, share-some c.args.self.now.rate)

pub push_symbol-requires-clause-share : goal.push_symbol-requires-clause-share
push_symbol-requires-clause-share g c =
    let s = c.args.self.now in
    let wide = width-of s c.len-share.result c.len-share.ensures in
    omega (arith, wide)

pub push_symbol-requires-clause-within : goal.push_symbol-requires-clause-within
push_symbol-requires-clause-within g c =
    let s = c.args.self.now in
    let wide = width-of s c.len-share.result c.len-share.ensures in
    let inside = whole-within c.loop-symbol.symbol c.args.count c.len-share.result (share_of s.rate) wide c.loop-symbol-test.true in
    omega (arith, inside, c.requires.count)

pub push_symbol-requires-clause-room : goal.push_symbol-requires-clause-room
push_symbol-requires-clause-room g c =
    let s = c.args.self.now in
    let wide = width-of s c.len-share.result c.len-share.ensures in
    let inside = whole-within c.loop-symbol.symbol c.args.count c.len-share.result (share_of s.rate) wide c.loop-symbol-test.true in
    omega (arith, inside, c.loop-symbol.invariant.capacity)

pub loop-symbol-preserved : goal.loop-symbol-preserved
loop-symbol-preserved g c =
    let s = c.args.self.now in
    let wide = width-of s c.len-share.result c.len-share.ensures in
    let next : c.loop-symbol.symbol * share_of s.rate + c.len-share.result ≡ (c.loop-symbol.symbol + 1) * share_of s.rate =
    omega (arith, wide, add-mul c.loop-symbol.symbol 1 (share_of s.rate)) in
    record {
      items = c.push_symbol.ensures.items
          ∙ ap (λ (n : ℕ). map (known_at (g.L.LabelValues.known c.args.labels.now) s.rate s.erased s.encoder) (range_with_len 0 n)) next;
      capacity = c.push_symbol.ensures.capacity ∙ c.loop-symbol.invariant.capacity;
    }

pub push_symbol-requires-2-clause-share : goal.push_symbol-requires-2-clause-share
push_symbol-requires-2-clause-share g c =
    let s = c.args.self.now in
    let wide = width-of s c.len-share.result c.len-share.ensures in
    (parted c.args.count c.len-share.result (share_of s.rate) wide (share-some s.rate)).1

pub push_symbol-requires-2-clause-within : goal.push_symbol-requires-2-clause-within
push_symbol-requires-2-clause-within g c =
    let s = c.args.self.now in
    let wide = width-of s c.len-share.result c.len-share.ensures in
    let all = (parted c.args.count c.len-share.result (share_of s.rate) wide (share-some s.rate)).0 in
    omega (arith, all, c.requires.count)

pub push_symbol-requires-2-clause-room : goal.push_symbol-requires-2-clause-room
push_symbol-requires-2-clause-room g c =
    let s = c.args.self.now in
    let wide = width-of s c.len-share.result c.len-share.ensures in
    let all = (parted c.args.count c.len-share.result (share_of s.rate) wide (share-some s.rate)).0 in
    omega (arith, all, c.loop-symbol.invariant.capacity)

pub returns : goal.returns
returns g c =
    let s = c.args.self.now in
    let wide = width-of s c.len-share.result c.len-share.ensures in
    let all = (parted c.args.count c.len-share.result (share_of s.rate) wide (share-some s.rate)).0 in
    c.push_symbol-2.ensures.items ∙ ap (λ (n : ℕ). map (known_at (g.L.LabelValues.known c.args.labels.now) s.rate s.erased s.encoder) (range_with_len 0 n)) all
