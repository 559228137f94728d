-- From the bits of a symbol to its points, and from symbols to a frame.
use Rattle.std.proofs.Common.{◌≡◌, ℕ, ◌+◌, ◌-◌, ◌*◌, ◌<◌, ◌≤◌, ◌==◌, List, slice_range}
use Rattle.std.proofs.Common.{length, Bool, false, get_or, ap, sym, ◌∙◌, arith, w8, to_z, of_z}
use Rattle.std.specs.Prelude.{ℤ, pos, unsigned_abs}
use Rattle.std.specs.Int.{bit_at}
use Rattle.ht_rate.specs.declared.kinds.Carrier.{Carrier}
use Rattle.ht_rate.specs.declared.kinds.Carrier.TheVariants.{Pilot}
use Rattle.ht_map.specs.Gray.{label_bit}
use Rattle.ht_pam.specs.declared.point.Point.{Point}
use Rattle.ht_clause18.specs.declared.rates.LegacyRate.{LegacyRate}
use Rattle.ht_clause18.specs.Interleaver.{interleaved, origin_of}
use Rattle.ht_clause18.specs.Points.{label_at, carried}
use Rattle.ht_clause18.specs.Pilots.{pilot_of}
use Rattle.ht_clause18.specs.Rates.{coded_bits_of, label_bits_of, modulation_of}
use Rattle.ht_clause18.specs.Sources.{AreSources}
use Rattle.ht_data.specs.Labels.{written}
use Rattle.ht_data.proofs.Written.{part-get, part-length, unit-fits, written-bit, written-same}
use Rattle.ht_clause18.proofs.Coding.{symbol-within}
use Rattle.ht_clause18.proofs.Interleaving.{interleaved-at, origin_of-bound}
use Rattle.ht_clause18.proofs.RateFacts.{coded_bits_of-is, coded_bits_of-range, label_bits_of-is, label_bits_of-range}

-- the bits of a data subcarrier's label
module _ (r : LegacyRate) (sources part : List ℕ) (bits : List Bool) (m b place : ℕ)
    (h : AreSources r sources) (len : length bits ≡ coded_bits_of r) (lm : m < 48) (db : b ≡ label_bits_of r) (dp : place ≡ m * b)
    (is_part : part ≡ slice_range sources place (place + b)) where
  pub label-within : place + b ≤ coded_bits_of r
  label-within = omega (arith, symbol-within 48 b m lm, coded_bits_of-is r)

  pub label-inside : place + b ≤ length sources
  label-inside = omega (arith, label-within, h.whole, coded_bits_of-range r)

  pub label-length : length part ≡ b
  label-length = ap length is_part ∙ part-length sources place b label-inside

  label-source : (e : ℕ) → e < b → get_or part e 0 ≡ origin_of r (place + e)
  label-source e lt =
      ap (λ (l : List ℕ). get_or l e 0) is_part ∙ part-get sources place b e lt ∙ h.places (place + e) (omega (arith, label-within))

  pub label-few : length part ≤ 6
  label-few = omega (arith, label-length, label_bits_of-range r)

  pub label-found : (e : ℕ) → e < length part → get_or part e 0 < length bits
  label-found e lt =
      let below : e < b = omega (arith, label-length) in
      omega (arith, label-source e below, origin_of-bound r (place + e) (omega (arith, label-within)))

  pub label-is : written (λ e. get_or bits (get_or part e 0) false) (length part) ≡ label_at r (interleaved r bits) m
  unfolding label_at
  label-is =
      let count : length part ≡ label_bits_of r = label-length ∙ db in
      ap (written (λ e. get_or bits (get_or part e 0) false)) count
      ∙ written-same (λ e. get_or bits (get_or part e 0) false) (λ e. get_or (interleaved r bits) (m * label_bits_of r + e) false) (label_bits_of r) (λ e lt.
      let below : e < b = omega arith in
      let at : place + e ≡ m * label_bits_of r + e = ap (λ (x : ℕ). x + e) (dp ∙ ap (λ (x : ℕ). m * x) db) in
      ap (λ (x : ℕ). get_or bits x false) (label-source e below)
      ∙ sym (interleaved-at r bits (place + e) (omega (arith, label-within)))
      ∙ ap (λ (x : ℕ). get_or (interleaved r bits) x false) at)

-- the bits of a label
pub label_at-bit : (r : LegacyRate) (places : List Bool) (m e : ℕ) → e < label_bits_of r
    → label_bit (modulation_of r) (label_at r places m) e ≡ get_or places (m * label_bits_of r + e) false
unfolding label_bit label_at
label_at-bit r places m e lt =
    ap (λ (b : ℕ). bit_at (label_at r places m) (b - 1 - e) == 1) (sym (label_bits_of-is r))
    ∙ written-bit (λ e. get_or places (m * label_bits_of r + e) false) (label_bits_of r) e lt

-- a pilot's point
pub pilot-carried : (r : LegacyRate) (places : List Bool) (symbol : ℕ) (carrier : Carrier) (k : ℕ) (v : ℤ) → carrier ≡ Pilot k → v ≡ pilot_of symbol k
    → unsigned_abs v ≡ 1 → (let p : Point = record { i = to_z w8 (of_z w8 v); q = pos 0 } in p) ≡ carried r places symbol carrier
pilot-carried r places symbol carrier k v is_pilot is_v unit =
    ap (λ (x : ℤ). let p : Point = record { i = x; q = pos 0 } in p) (unit-fits v unit ∙ is_v) ∙ ap (carried r places symbol) (sym is_pilot)
