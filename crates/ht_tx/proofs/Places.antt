-- Places of label bits and of points, and their parts.
use Rattle.std.proofs.Common.{◌≡◌, ℕ, ◌+◌, ◌*◌, ◌/◌, ◌%◌, ◌<◌, ap, sym, ◌∙◌, arith}
use Rattle.std.proofs.Math.Nat.{mul_comm, mul_assoc}
use Rattle.std.proofs.lemmas.Nat.{div-add-mod', div-mul-add, mod-mul-add, mul-add-lt, mod_below, div_below}
use Rattle.ht_rate.specs.declared.rates.Rate.{Rate}
use Rattle.ht_rate.specs.Rates.{streams_of, stream_bits_of, coded_bits_of, data_carriers_of, label_bits_of}
use Rattle.ht_rate.proofs.RateFacts.{stream_bits_of-is, coded_bits_of-is}

-- three digits, of which the lower two have a range, and back
pub digits : (a b c n w : ℕ) → b < n → c < w
    → (((a * n + b) * w + c) / w / n ≡ a) × (((a * n + b) * w + c) / w % n ≡ b) × (((a * n + b) * w + c) % w ≡ c)
digits a b c n w lb lc =
    let high : ((a * n + b) * w + c) / w ≡ a * n + b = div-mul-add (a * n + b) w c lc in (
      ap (λ (x : ℕ). x / n) high ∙ div-mul-add a n b lb,
      ap (λ (x : ℕ). x % n) high ∙ mod-mul-add a n b lb,
      mod-mul-add (a * n + b) w c lc,
    )

-- the number of two digits is below that of all
pub pair-below : (a b h n : ℕ) → a < h → b < n → a * n + b < h * n
pair-below a b h n la lb = omega (arith, mul-add-lt a n b h la lb, mul_comm n h)

-- and so is that of three
pub digits-below : (a b c h n w : ℕ) → a < h → b < n → c < w → (a * n + b) * w + c < h * n * w
digits-below a b c h n w la lb lc = pair-below (a * n + b) c (h * n) w (pair-below a b h n la lb) lc

-- the coded bits of a symbol: a label for each data subcarrier and stream
pub coded_bits_of-labels : (r : Rate) → coded_bits_of r ≡ data_carriers_of r * streams_of r * label_bits_of r
coded_bits_of-labels r =
    coded_bits_of-is r
    ∙ (ap (λ (x : ℕ). streams_of r * x) (stream_bits_of-is r)
    ∙ (sym (mul_assoc (streams_of r) (data_carriers_of r) (label_bits_of r))
    ∙ ap (λ (x : ℕ). x * label_bits_of r) (mul_comm (streams_of r) (data_carriers_of r))))

-- the parts of a place are in their ranges
pub parts-below : (p h n w : ℕ) → 0 < n → 0 < w → p < h * n * w → (p / w / n < h) × (p / w % n < n) × (p % w < w)
parts-below p h n w some_n some_w lt =
    let high : p / w < h * n = div_below p w (h * n) some_w lt in (
      div_below (p / w) n h some_n high,
      mod_below (p / w) n some_n,
      mod_below p w some_w,
    )

-- and give it again
pub parts-again : (p n w : ℕ) → (p / w / n * n + p / w % n) * w + p % w ≡ p
parts-again p n w = ap (λ (x : ℕ). x * w + p % w) (div-add-mod' (p / w) n) ∙ div-add-mod' p w

-- the place of a label bit in its stream
pub place-below : (r : Rate) (carrier bit : ℕ) → carrier < data_carriers_of r → bit < label_bits_of r → carrier * label_bits_of r + bit < stream_bits_of r
place-below r carrier bit lc lb = omega (arith, stream_bits_of-is r, pair-below carrier bit (data_carriers_of r) (label_bits_of r) lc lb)
