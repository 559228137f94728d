-- What the detector is asked by C, and what it answers.
use Rattle.std.specs.Prelude.{◌≡◌, ℕ, ◌+◌, ◌*◌, ◌%◌, ◌^◌, ◌<◌, ◌≤◌, List, [], length, slice_index_or}
use Rattle.ht_rate.specs.declared.rates.Rate.{Rate}
use Rattle.ht_rate.specs.Rates.{streams_of}
use Rattle.ht_map.specs.Constellation.{grid_of}
use Rattle.ht_metric.specs.declared.found.Found.{Found}
use Rattle.ht_metric.specs.Rows.{Row, rows_of, legs_of}
use Rattle.ht_metric.specs.Vectors.{no_point}
use Rattle.ht_metric.specs.Jobs.{JobView, near}
use Rattle.ht_library.specs.declared.crossing.MizgaureChannel.{MizgaureChannel}
use Rattle.ht_library.specs.declared.crossing.MizgaureReceived.{MizgaureReceived}
use Rattle.ht_library.specs.declared.crossing.MizgaureHit.{MizgaureHit}

-- the rows of the first streams of a channel, with what was received on them
abbrev pub system_of : ℕ → MizgaureChannel → MizgaureReceived → List Row
system_of streams channel received = rows_of (legs_of streams channel.diagonal channel.above) received.samples

-- the job of a data subcarrier at a rate
abbrev pub job_of : Rate → MizgaureChannel → MizgaureReceived → JobView
job_of rate channel received = record {
  number = 0;
  place = record { frame = 0; symbol = 0; carrier = 0 };
  grid = grid_of rate;
  system = system_of (streams_of rate) channel received;
}

-- the vector and the distance that were found, as C has them: behind the streams' points there are zeros
pub record HasFound (found : Found) (hit : MizgaureHit) : Type 0 where
  pub points : (k : ℕ) → k < length found.vector → slice_index_or hit.points k no_point ≡ slice_index_or found.vector k no_point
  pub unused : (k : ℕ) → length found.vector ≤ k → slice_index_or hit.points k no_point ≡ no_point
  pub distance : hit.low + 2 ^ 64 * hit.high ≡ found.distance

-- this is what was found
unfoldable pub IsHit : Found → MizgaureHit → Type 0
IsHit found hit = HasFound found hit

-- what stands where there is none
abbrev pub no_channel : MizgaureChannel
no_channel = record { diagonal = []; above = [] }

abbrev pub no_received : MizgaureReceived
no_received = record { samples = [] }

abbrev pub no_hit : MizgaureHit
no_hit = record { points = []; low = 0; high = 0 }

-- The job of the sample of this number. The samples stand symbol by symbol, and each symbol has the same channels.
abbrev pub job_at : Rate → List MizgaureChannel → List MizgaureReceived → ℕ → JobView
job_at rate channels received k =
    job_of rate (slice_index_or channels (k % length channels) no_channel) (slice_index_or received k no_received)
