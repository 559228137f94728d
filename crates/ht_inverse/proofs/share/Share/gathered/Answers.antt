use Rattle.std.proofs.Common.{◌≡◌, ◌∙◌, ◌*◌, ℕ, ap, sym, map, slice_index_or}
use Rattle.std.specs.List.{range_with_len}
use Rattle.std.proofs.lemmas.Result.{IfOk-weaker}
use Rattle.ht_viterbi.specs.Received.{known_of}
use Rattle.ht_inverse.specs.Received.{labels_per_symbol, received_of}
use Rattle.ht_inverse.specs.Shares.{decision_in, known_at}
use Rattle.ht_inverse.proofs.Gathered.{decisions-are, has-decisions}
use Rattle.ht_inverse.proofs.share.Share.gathered.Goals as goal

pub received-requires-clause-labels : goal.received-requires-clause-labels
received-requires-clause-labels c =
    let s = c.args.self.now in
    has-decisions s.rate s.erased s.encoder c.symbols-symbols.result c.args.frame.now.labels.now s.there
    (c.requires ∙ ap (λ (n : ℕ). n * labels_per_symbol s.rate) (sym c.symbols-symbols.ensures.value))

pub returns : goal.returns
returns c =
    let s = c.args.self.now in
    let labels = c.args.frame.now.labels.now in
    IfOk-weaker c.received.result
    (λ bits. bits.items ≡ map (known_at (λ label place. decision_in place (slice_index_or labels label 0)) s.rate s.erased s.encoder)
    (range_with_len 0 c.coded_bits-count.result))
    (λ bits. map known_of bits.items ≡ received_of s.rate c.args.frame.now.octets s.erased labels s.encoder)
    (λ bits are. decisions-are s.rate c.args.frame.now.octets s.erased s.encoder c.coded_bits-count.result labels bits.items
    c.coded_bits-count.ensures.value are)
    c.received.ensures
