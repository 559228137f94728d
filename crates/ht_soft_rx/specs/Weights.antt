-- The weights of a frame, by their places (IEEE Std 802.11-2012, clause 20.3.11.9 backwards).
use Rattle.std.specs.Prelude.{ℕ, ◌*◌, ℤ, pos, List, map, Option, None, Some}
use Rattle.std.specs.List.{flat_map, range_with_len}
use Rattle.ht_rate.specs.declared.kinds.Modulation.{Modulation}
use Rattle.ht_rate.specs.Rates.{data_carriers_of, label_bits_of, modulation_of, streams_of}
use Rattle.ht_metric.specs.Jobs.{JobView}
use Rattle.ht_capture.specs.declared.items.FrameHead.{FrameHead}
use Rattle.ht_capture_laws.specs.Items.{FrameJobs, symbols_in}
use Rattle.ht_results.specs.Labels.{data_job_at}
use Rattle.ht_soft.specs.Weights.{weight_at}

-- the weight of bit e of the label on a stream of a job, and 0 where there is no job; streams count from 1
abbrev pub weight_in : Modulation → Option JobView → ℕ → ℕ → ℤ
weight_in m None stream e = pos 0
weight_in m (Some job) stream e = weight_at m job stream e

-- the weights of a job, stream by stream and bit by bit
abbrev pub weights_in : FrameHead → Option JobView → List ℤ
weights_in head job =
    flat_map (λ stream. map (weight_in (modulation_of head.rate) job stream) (range_with_len 0 (label_bits_of head.rate)))
    (range_with_len 1 (streams_of head.rate))

-- how many they are
abbrev pub weights_of_job : FrameHead → ℕ
weights_of_job head = streams_of head.rate * label_bits_of head.rate

-- the weights at a symbol and a data subcarrier, all 0 where that is erased
unfoldable pub carrier_weights : FrameJobs → ℕ → ℕ → List ℤ
carrier_weights f symbol carrier = weights_in f.head (data_job_at f symbol carrier)

abbrev pub symbol_weights : FrameJobs → ℕ → List ℤ
symbol_weights f symbol = flat_map (carrier_weights f symbol) (range_with_len 0 (data_carriers_of f.head.rate))

-- the weights of a frame in the order symbol, data subcarrier, stream, bit
unfoldable pub frame_weights : FrameJobs → List ℤ
frame_weights f = flat_map (symbol_weights f) (range_with_len 0 (symbols_in f.head))

-- the same job by job
abbrev pub job_weights : FrameHead → JobView → List ℤ
job_weights head job = weights_in head (Some job)
