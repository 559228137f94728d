use Rattle.std.proofs.Common.{◌≡◌, ◌∙◌, ◌*◌, ℕ, ap, sym, map}
use Rattle.std.specs.List.{range_with_len}
use Rattle.std.proofs.lemmas.Result.{IfOk-weaker}
use Rattle.ht_rate.specs.Rates.{label_bits_of}
use Rattle.ht_inverse.specs.Received.{labels_per_symbol, values_of}
use Rattle.ht_inverse.specs.Shares.{known_at, value_in}
use Rattle.ht_inverse.proofs.Gathered.{has-values, values-are}
use Rattle.ht_inverse.proofs.share.Share.values.Goals as goal

pub received-requires-clause-labels : goal.received-requires-clause-labels
received-requires-clause-labels g c =
    let s = c.args.self.now in
    has-values s.rate s.erased s.encoder c.symbols-symbols.result c.label_bits.result c.args.values.now s.there c.label_bits.ensures.value
    (c.requires.values ∙ ap (λ (n : ℕ). n * labels_per_symbol s.rate * label_bits_of s.rate) (sym c.symbols-symbols.ensures.value))

pub returns : goal.returns
returns g c =
    let s = c.args.self.now in
    IfOk-weaker c.received.result
    (λ found. found.items ≡ map (known_at (value_in c.args.lost c.label_bits.result c.args.values.now) s.rate s.erased s.encoder)
    (range_with_len 0 c.coded_bits.result))
    (λ found. found.items ≡ values_of c.args.lost s.rate c.args.octets s.erased c.args.values.now s.encoder)
    (λ found are. values-are c.args.lost s.rate c.args.octets s.erased s.encoder c.coded_bits.result c.label_bits.result c.args.values.now found.items
    s.there c.label_bits.ensures.value c.coded_bits.ensures.value are)
    c.received.ensures
