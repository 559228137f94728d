-- The coded bits of a frame, and those of its symbols.
use Rattle.std.proofs.Common.{◌≡◌, ℕ, ◌+◌, ◌*◌, ◌<◌, ◌≤◌, List, take, drop}
use Rattle.std.proofs.Common.{length, Bool, false, get_or, ap, sym, ◌∙◌, arith}
use Rattle.std.proofs.Math.Nat.{mul-le-mul_right}
use Rattle.std.proofs.lemmas.List.{length-take, length-drop, get_or-take, get_or-drop}
use Rattle.ht_scramble.specs.Sequence.{scrambled}
use Rattle.ht_scramble.proofs.Lists.{length-scrambled_from}
use Rattle.ht_conv.specs.Puncturing.{sent_count}
use Rattle.ht_conv.proofs.MidStream.{length-sent_bits}
use Rattle.ht_data.proofs.Periods.{sent_symbols}
use Rattle.ht_data.proofs.Scrambled.{length-data_of as length-data_bits, length-scrambled_data_of}
use Rattle.ht_clause18.specs.declared.rates.LegacyRate.{LegacyRate}
use Rattle.ht_clause18.specs.Coded.{data_of, coder_input, coded_of, symbol_bits}
use Rattle.ht_clause18.specs.Frames.{LegacyFrameView}
use Rattle.ht_clause18.specs.Rates.{coded_bits_of, data_bits_of, pattern_of, symbols_of, pads_of}
use Rattle.ht_clause18.proofs.RateFacts.{data_bits_of-coded, data_bits_of-periods, pads_of-fills}

-- the bits of a frame fill its symbols
pub length-data_of : (f : LegacyFrameView) → length (data_of f) ≡ symbols_of f.rate (length f.octets) * data_bits_of f.rate
unfolding data_of
length-data_of f =
    omega (arith, length-data_bits f.octets (6 + pads_of f.rate (length f.octets)), pads_of-fills f.rate (length f.octets))

pub length-coder_input : (f : LegacyFrameView) → length (coder_input f) ≡ symbols_of f.rate (length f.octets) * data_bits_of f.rate
unfolding coder_input data_of
length-coder_input f =
    let pads = pads_of f.rate (length f.octets) in
    omega (arith, length-scrambled_data_of f.seed f.octets 6 pads, pads_of-fills f.rate (length f.octets))

pub length-coded_of : (f : LegacyFrameView) → length (coded_of f) ≡ symbols_of f.rate (length f.octets) * coded_bits_of f.rate
unfolding coded_of
length-coded_of f =
    length-sent_bits (pattern_of f.rate) (coder_input f)
    ∙ ap (sent_count (pattern_of f.rate)) (length-coder_input f)
    ∙ sent_symbols (pattern_of f.rate) (symbols_of f.rate (length f.octets)) (data_bits_of f.rate) (coded_bits_of f.rate)
    (data_bits_of-periods f.rate) (data_bits_of-coded f.rate)

-- the bits of a symbol are among them
pub symbol-within : (symbols size n : ℕ) → n < symbols → n * size + size ≤ symbols * size
symbol-within symbols size n lt =
    let next : (n + 1) * size ≡ n * size + size = grind arith in
    let le : (n + 1) * size ≤ symbols * size = mul-le-mul_right size (omega arith) in
    omega arith

pub length-symbol_bits : (f : LegacyFrameView) (n : ℕ) → n < symbols_of f.rate (length f.octets) → length (symbol_bits f n) ≡ coded_bits_of f.rate
unfolding symbol_bits
length-symbol_bits f n lt =
    omega (
      arith,
      length-take (coded_bits_of f.rate) (drop (n * coded_bits_of f.rate) (coded_of f)),
      length-drop (n * coded_bits_of f.rate) (coded_of f),
      length-coded_of f,
      symbol-within (symbols_of f.rate (length f.octets)) (coded_bits_of f.rate) n lt,
    )

pub symbol_bits-at : (f : LegacyFrameView) (n k : ℕ) → k < coded_bits_of f.rate
    → get_or (symbol_bits f n) k false ≡ get_or (coded_of f) (n * coded_bits_of f.rate + k) false
unfolding symbol_bits
symbol_bits-at f n k lt =
    get_or-take (coded_bits_of f.rate) (drop (n * coded_bits_of f.rate) (coded_of f)) k false lt
    ∙ get_or-drop (n * coded_bits_of f.rate) (coded_of f) k false

-- the tail is among the scrambled bits
pub tail-fits : (f : LegacyFrameView) (bits new : List Bool) (octets : List ℕ) (seed : ℕ) → bits ≡ data_of f → new ≡ scrambled seed bits → octets ≡ f.octets
    → 16 + 8 * length octets + 6 ≤ length new
tail-fits f bits new octets seed db dn d_o =
    let len : length new ≡ symbols_of f.rate (length f.octets) * data_bits_of f.rate =
    ap length dn ∙ length-scrambled_from seed 0 bits ∙ ap length db ∙ length-data_of f in
    let same : length octets ≡ length f.octets = ap length d_o in
    omega (arith, pads_of-fills f.rate (length f.octets))

-- what the transmitter takes for a symbol
module _ (f : LegacyFrameView) (r : LegacyRate) (octets : List ℕ) (symbols size n : ℕ) (coded bits : List Bool) (dr : r ≡ f.rate) (d_o : octets ≡ f.octets)
    (ds : size ≡ coded_bits_of r) (dn : symbols ≡ symbols_of r (length octets)) (lt : n < symbols) (dc : coded ≡ coded_of f) (db : bits ≡ coded) where
  size-is : size ≡ coded_bits_of f.rate
  size-is = ds ∙ ap coded_bits_of dr

  pub symbols-are : symbols ≡ symbols_of f.rate (length f.octets)
  symbols-are = dn ∙ ap (λ (x : LegacyRate). symbols_of x (length octets)) dr ∙ ap (λ (l : List ℕ). symbols_of f.rate (length l)) d_o

  pub part-within : n * size + size ≤ length bits
  part-within =
      let whole : length bits ≡ symbols * size =
      ap length (db ∙ dc) ∙ length-coded_of f ∙ ap (λ (x : ℕ). x * coded_bits_of f.rate) (sym symbols-are) ∙ ap (λ (x : ℕ). symbols * x) (sym size-is) in
      omega (arith, symbol-within symbols size n lt)

  pub part-is : (part : List Bool) → part ≡ take size (drop (n * size) bits) → part ≡ symbol_bits f n
  unfolding symbol_bits
  part-is part is =
      is ∙ ap (λ (x : ℕ). take x (drop (n * x) bits)) size-is
      ∙ ap (λ (l : List Bool). take (coded_bits_of f.rate) (drop (n * coded_bits_of f.rate) l)) (db ∙ dc)

  pub part-length : (part : List Bool) → part ≡ take size (drop (n * size) bits) → length part ≡ coded_bits_of r
  part-length part is =
      let below : n < symbols_of f.rate (length f.octets) = omega (arith, symbols-are) in
      ap length (part-is part is) ∙ length-symbol_bits f n below ∙ sym (ap coded_bits_of dr)
