use Rattle.std.proofs.Common.{◌≡◌, ◌∙◌, ◌*◌, ◌≤◌, ℕ, ap, sym, subst, length, slice_index_or}
use Rattle.std.proofs.lemmas.Result.{IfOk-weaker}
use Rattle.ht_rate.specs.Rates.{pattern_of, steps_of}
use Rattle.ht_conv.specs.Puncturing.{sent_count}
use Rattle.ht_viterbi.specs.Packed.{packed}
use Rattle.ht_inverse.specs.Received.{labels_per_symbol, received_of}
use Rattle.ht_inverse.specs.Shares.{HasMarks, known_at, mark_in}
use Rattle.ht_inverse.proofs.Gathered.{has-decisions}
use Rattle.ht_inverse.proofs.Marked.{marks-are, marks-places}
use Rattle.ht_inverse.proofs.share.Share.packed.Goals as goal

pub received-requires-clause-labels : goal.received-requires-clause-labels
received-requires-clause-labels c =
    let s = c.args.self.now in
    has-decisions s.rate s.erased s.encoder c.symbols-symbols.result c.args.frame.now.labels.now s.there
    (c.requires.labels ∙ ap (λ (n : ℕ). n * labels_per_symbol s.rate) (sym c.symbols-symbols.ensures.value))

pub returns-clause-places : goal.returns-clause-places
returns-clause-places c =
    let s = c.args.self.now in
    let marks = c.deref.result.now in
    IfOk-weaker c.packed_words.result (λ words. length marks ≤ 60 * length words.items)
    (λ words. sent_count (pattern_of s.rate) (steps_of s.rate c.args.frame.now.octets) ≤ 60 * length words.items)
    (λ words enough. subst (λ (n : ℕ). n ≤ 60 * length words.items) c.coded_bits-count.ensures.value
    (marks-places (known_at (λ label place. mark_in place (slice_index_or c.args.frame.now.labels.now label 0)) s.rate s.erased s.encoder)
    c.coded_bits-count.result (60 * length words.items) marks c.in_ok-marks.marks.items c.deref.ensures.value c.in_ok-marks.ensures enough))
    c.packed_words.ensures.places

pub returns-clause-list : goal.returns-clause-list
returns-clause-list c =
    let s = c.args.self.now in
    let marks = c.deref.result.now in
    IfOk-weaker c.packed_words.result (λ words. HasMarks words.items marks (length marks))
    (λ words. packed words.items (sent_count (pattern_of s.rate) (steps_of s.rate c.args.frame.now.octets))
    ≡ received_of s.rate c.args.frame.now.octets s.erased c.args.frame.now.labels.now s.encoder)
    (λ words has. marks-are s.rate c.args.frame.now.octets s.erased s.encoder c.coded_bits-count.result c.args.frame.now.labels.now marks
    c.in_ok-marks.marks.items words.items c.requires.whole c.coded_bits-count.ensures.value c.deref.ensures.value c.in_ok-marks.ensures has)
    c.packed_words.ensures.marks
