use Rattle.std.proofs.Common.{◌≡◌, ◌*◌, ◌+◌, ◌-◌, ◌^◌, ℕ, Bool, false, slice_index_or, arith, ap, ◌∙◌}
use Rattle.ht_rate.proofs.RateFacts.{data_carriers_of-range}
use Rattle.ht_rate.specs.Rates.{streams_of, label_bits_of}
use Rattle.ht_landing.specs.declared.landings.Landing.{Landing}
use Rattle.ht_inverse.specs.declared.label_bit.LabelBit.{LabelBit}
use Rattle.ht_inverse.specs.Received.{is_lost}
use Rattle.ht_inverse.specs.Shares.{label_bit_of}
use Rattle.ht_inverse.proofs.share.place_of_bit.Goals as goal

pub bounds-lost-from : goal.bounds-lost-from
bounds-lost-from c =
    let l = c.of-landing.ensures.label in
    let a = l.carrier in
    let b = (data_carriers_of-range c.args.rate.now).1 in
    omega (arith, a, b, c.from-4.ensures)

pub returns : goal.returns
unfolding label_bit_of
returns c = λ erased lost.
    let r = c.args.rate.now in
    let found = c.of-landing.result in
    let made : ℕ → ℕ → ℕ → Bool → LabelBit = λ label shift mask lost. record { label = label; shift = shift; mask = mask; lost = lost } in
    let label_of : Landing → ℕ = λ l. l.carrier * streams_of r + (l.stream - 1) in
    let gone_at = slice_index_or c.args.lost.now c.from-4.result false in
    let label : c.from.result * c.from-2.result + c.from-3.result ≡ label_of found =
    ap (λ n. n * c.from-2.result + c.from-3.result) c.from.ensures
    ∙ (ap (λ n. found.carrier * n + c.from-3.result) (c.from-2.ensures ∙ c.streams.ensures.value)
    ∙ ap (λ n. found.carrier * streams_of r + n) c.from-3.ensures) in
    let shift : c.label_bits.result - 1 - found.bit ≡ label_bits_of r - 1 - found.bit = ap (λ n. n - 1 - found.bit) c.label_bits.ensures.value in
    let gone : gone_at ≡ is_lost r erased found.carrier =
    ap (λ n. slice_index_or c.args.lost.now n false) c.from-4.ensures ∙ lost found.carrier c.of-landing.ensures.label.carrier in
    let mask : c.mask_of.result ≡ 2 ^ (label_bits_of r - 1 - found.bit) = c.mask_of.ensures ∙ ap (λ n. 2 ^ n) shift in
    ap (λ n. made n (c.label_bits.result - 1 - found.bit) c.mask_of.result gone_at) label
    ∙ (ap (λ n. made (label_of found) n c.mask_of.result gone_at) shift
    ∙ (ap (λ n. made (label_of found) (label_bits_of r - 1 - found.bit) n gone_at) mask
    ∙ (ap (λ b. made (label_of found) (label_bits_of r - 1 - found.bit) (2 ^ (label_bits_of r - 1 - found.bit)) b) gone
    ∙ ap (λ (l : Landing). made (label_of l) (label_bits_of r - 1 - l.bit) (2 ^ (label_bits_of r - 1 - l.bit)) (is_lost r erased l.carrier))
    c.of-landing.ensures.value)))
