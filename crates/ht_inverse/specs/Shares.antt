-- Where a symbol's labels have the coded bits of each encoder, and what the parts of the decoder hand on.
use Rattle.std.specs.Prelude.{◌≡◌, ℕ, ◌+◌, ◌-◌, ◌*◌, ◌/◌, ◌%◌, ◌^◌, ◌<◌, ◌==◌, nat_le, List, [], length, map, take, slice_index_or}
use Rattle.std.specs.Prelude.{Bool, false, Option, None, Some, if◌then◌else◌}
use Rattle.std.specs.List.{range_with_len}
use Rattle.std.specs.Int.{bit_at}
use Rattle.std.specs.Int.RustNames.{bit_and}
use Rattle.ht_rate.specs.declared.rates.Rate.{Rate}
use Rattle.ht_rate.specs.declared.kinds.Carrier.TheVariants.{Data}
use Rattle.ht_rate.specs.Carriers.{index_of}
use Rattle.ht_rate.specs.Rates.{data_carriers_of, encoders_of, label_bits_of, pattern_of, streams_of}
use Rattle.ht_landing.specs.Landings.{landing_of}
use Rattle.ht_parse.specs.Streams.{share_of}
use Rattle.ht_viterbi.specs.declared.codeword.Codeword.{Codeword}
use Rattle.ht_viterbi.specs.declared.received_bit.ReceivedBit.{ReceivedBit}
use Rattle.ht_viterbi.specs.declared.received_bit.ReceivedBit.TheVariants.{Erased, Zero, One}
use Rattle.ht_viterbi.specs.Inputs.{IsFound, place_cost}
use Rattle.ht_viterbi.specs.Packed.{packed_bit}
use Rattle.ht_inverse.specs.declared.label_bit.LabelBit.{LabelBit}
use Rattle.ht_inverse.specs.Received.{is_lost, labels_per_symbol, received_of}
use Rattle.ht_inverse.specs.Decoding.{distance_at, input_of}

-- where the labels of a symbol have coded bit i of encoder j's share
unfoldable pub label_bit_of : Rate → ℕ → ℕ → ℕ → LabelBit
label_bit_of r erased j i =
    let l = landing_of r j i in
    record {
      label = l.carrier * streams_of r + (l.stream - 1);
      shift = label_bits_of r - 1 - l.bit;
      mask = 2 ^ (label_bits_of r - 1 - l.bit);
      lost = is_lost r erased l.carrier;
    }

-- the first of them
abbrev pub label_bits_to : Rate → ℕ → ℕ → ℕ → List LabelBit
label_bits_to r erased j count = map (label_bit_of r erased j) (range_with_len 0 count)

-- what a label says of the bit that stands there
abbrev pub bit_in : LabelBit → ℕ → Option Bool
bit_in place label = if place.lost then None else Some (bit_at label place.shift == 1)

-- the same as the decoder takes it
abbrev pub decision_in : LabelBit → ℕ → ReceivedBit
decision_in place label = if place.lost then Erased else (if bit_at label place.shift == 1 then One else Zero)

-- the same as an octet: 0 where the bit is 0
abbrev pub mark_in : LabelBit → ℕ → ℕ
mark_in place label = bit_and label place.mask

-- an octet that marks a 1
abbrev pub is_one : ℕ → Bool
is_one octet = nat_le 1 octet

-- words have these octets, as bits, 60 to a word
abbrev pub HasMarks : List ℕ → List ℕ → ℕ → Type 0
HasMarks words octets count = (q : ℕ) → q < count → packed_bit words q ≡ is_one (slice_index_or octets q 0)

-- what is known of the bit by values, of which each label has `bits`, the first bit first
abbrev pub value_in : {V : Type 0} → V → ℕ → List V → ℕ → LabelBit → V
value_in lost bits values label place = if place.lost then lost else slice_index_or values (label * bits + (bits - 1 - place.shift)) lost

-- labels have this bit
pub record HasDecision (labels : List ℕ) (label : ℕ) (place : LabelBit) : Type 0 where
  pub there : label < length labels
  pub bit : place.shift < 8

-- values have one of this bit
pub record HasValue {V : Type 0} (values : List V) (bits label : ℕ) (place : LabelBit) : Type 0 where
  pub bit : place.shift < bits
  pub there : label * bits + (bits - 1 - place.shift) < length values

-- what is known of coded bit q of encoder j: of the place where the labels of its symbol have it
abbrev pub known_at : {V : Type 0} → (ℕ → LabelBit → V) → Rate → ℕ → ℕ → ℕ → V
known_at known r erased j q =
    let place = label_bit_of r erased j (q % share_of r) in
    known (q / share_of r * labels_per_symbol r + place.label) place

-- something is known of each coded bit of some symbols
abbrev pub HasSymbols : (ℕ → LabelBit → Type 0) → Rate → ℕ → ℕ → ℕ → Type 0
HasSymbols has r erased j symbols =
    (n i : ℕ) → n < symbols → i < share_of r
    → has (n * labels_per_symbol r + (label_bit_of r erased j i).label) (label_bit_of r erased j i)

-- an array has of each data subcarrier whether it is erased
abbrev pub AreLost : Rate → ℕ → List Bool → Type 0
AreLost r erased lost = (m : ℕ) → m < data_carriers_of r → slice_index_or lost m false ≡ is_lost r erased m

-- the same of those whose subcarriers lie below an index
abbrev pub AreLostBelow : Rate → ℕ → List Bool → ℕ → Type 0
AreLostBelow r erased lost index =
    (m : ℕ) → m < data_carriers_of r → index_of r (Data m) < index → slice_index_or lost m false ≡ is_lost r erased m

-- a loop has the first places of a share
pub record ListsPlaces (r : Rate) (erased j i count : ℕ) (places : List LabelBit) (len space : ℕ) : Type 0 where
  pub items : places ≡ label_bits_to r erased j i
  pub len_is : len ≡ i
  pub capacity : space ≡ count

-- an input without its tail of six bits
abbrev pub untailed : List Bool → List Bool
untailed input = take (length input - 6) input

-- the first codeword of this number of steps that is nearest to what encoder j's received list has
abbrev pub IsNearest : Rate → ℕ → ℕ → List ℕ → ℕ → ℕ → Codeword → Type 0
IsNearest r octets erased labels j steps c = IsFound place_cost steps (pattern_of r) (received_of r octets erased labels j) c.input c.distance

-- the codeword of encoder j
unfoldable pub codeword_of : Rate → ℕ → ℕ → List ℕ → ℕ → Codeword
codeword_of r octets erased labels j = record { input = input_of r octets erased labels j; distance = distance_at r octets erased labels j }

-- in place of the second codeword where there is none
abbrev pub no_codeword : Codeword
no_codeword = record { input = []; distance = 0 }

-- what the encoders of a rate have: the second one has something only where there are two
pub record AreOfEncoders {X : Type 0} (r : Rate) (each : ℕ → X) (none first second : X) : Type 0 where
  pub first_is : first ≡ each 0
  pub second_is : second ≡ (if encoders_of r == 2 then each 1 else none)

-- the codewords of a frame
abbrev pub AreCodewords : Rate → ℕ → ℕ → List ℕ → Codeword → Codeword → Type 0
AreCodewords r octets erased labels = AreOfEncoders r (codeword_of r octets erased labels) no_codeword
