-- Where coded bits land (IEEE Std 802.11-2012, clauses 20.3.11.8.2, 20.3.11.8.3 and 20.3.11.9).
use Rattle.std.specs.Prelude.{◌≡◌, ℕ, ◌+◌, ◌*◌, ◌/◌, ◌%◌, ◌<◌, ◌≤◌}
use Rattle.ht_rate.specs.declared.rates.Rate.{Rate}
use Rattle.ht_rate.specs.Rates.{streams_of, stream_bits_of, data_carriers_of, label_bits_of}
use Rattle.ht_parse.specs.Streams.{share_of, source_of, stream_place_of}
use Rattle.ht_interleave.specs.Interleaver.{place_of, origin_of}
use Rattle.ht_landing.specs.declared.landings.Landing.{Landing}

-- the stream, the data subcarrier and the label bit are ones that the rate has
pub record IsLabelBit (r : Rate) (l : Landing) : Type 0 where
  pub stream_low : 1 ≤ l.stream
  pub stream_high : l.stream ≤ streams_of r
  pub carrier : l.carrier < data_carriers_of r
  pub bit : l.bit < label_bits_of r

-- coded bit q of encoder j lands at a label bit l: it is bit i of the symbol's share, the stream parser sends it to
-- bit k of the stream, and the interleaver moves that to the place of the label bit
pub record Lands (r : Rate) (j q : ℕ) (l : Landing) : Type 0 where
  pub label : IsLabelBit r l
  pub i : ℕ
  pub share : i < share_of r
  pub counted : q ≡ l.symbol * share_of r + i
  pub k : ℕ
  pub stream : k < stream_bits_of r
  pub parsed : source_of r l.stream k ≡ (j, i)
  pub interleaved : place_of r l.stream k ≡ l.carrier * label_bits_of r + l.bit

-- the label bit where coded bit q of encoder j lands
unfoldable pub landing_of : Rate → ℕ → ℕ → Landing
landing_of r j q =
    let at = stream_place_of r j (q % share_of r) in
    let place = place_of r at.0 at.1 in
    record {
      symbol = q / share_of r;
      stream = at.0;
      carrier = place / label_bits_of r;
      bit = place % label_bits_of r;
    }

-- the coded bit that lands at a label bit: its encoder and its number there
unfoldable pub coded_bit_of : Rate → Landing → ℕ × ℕ
coded_bit_of r l =
    let from = source_of r l.stream (origin_of r l.stream (l.carrier * label_bits_of r + l.bit)) in
    (from.0, l.symbol * share_of r + from.1)
