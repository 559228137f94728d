use Rattle.std.proofs.Common.{◌≡◌, ◌∙◌, ◌*◌, ◌≤◌, ℕ, List, ap, arith, length, map}
use Rattle.std.proofs.lemmas.Result.{IfOk-weaker}
use Rattle.ht_clause18.specs.Rates.{needed_bits, pattern_of}
use Rattle.ht_conv.specs.Puncturing.{sent_count}
use Rattle.ht_viterbi.specs.Packed.{packed}
use Rattle.ht_inverse.specs.Shares.{HasMarks}
use Rattle.ht_legacy_inverse.specs.Received.{received_of, told_by}
use Rattle.ht_legacy_inverse.proofs.Gathered.{bits-length, words-hold}
use Rattle.ht_legacy_inverse.proofs.gather.received_words.Goals as goal

pub returns-clause-places : goal.returns-clause-places
returns-clause-places c =
    let marks = c.as_slice.result.now in
    let are = ap (λ (xs : List ℕ). map told_by xs) c.as_slice.ensures.value ∙ c.in_ok-marks.ensures in
    let long = bits-length c.args.rate c.args.octets c.args.labels.now marks are in
    IfOk-weaker c.packed_words.result (λ words. length marks ≤ 60 * length words.items)
    (λ words. sent_count (pattern_of c.args.rate) (needed_bits c.args.octets) ≤ 60 * length words.items)
    (λ words enough. omega (arith, enough, long))
    c.packed_words.ensures.places

pub returns-clause-list : goal.returns-clause-list
returns-clause-list c =
    let marks = c.as_slice.result.now in
    let are = ap (λ (xs : List ℕ). map told_by xs) c.as_slice.ensures.value ∙ c.in_ok-marks.ensures in
    IfOk-weaker c.packed_words.result (λ words. HasMarks words.items marks (length marks))
    (λ words. packed words.items (sent_count (pattern_of c.args.rate) (needed_bits c.args.octets)) ≡ received_of c.args.rate c.args.octets c.args.labels.now)
    (λ words has. words-hold c.args.rate c.args.octets c.args.labels.now marks words.items are has)
    c.packed_words.ensures.marks
