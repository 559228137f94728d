-- The labels that were detected in a frame, by their places (IEEE Std 802.11-2012, clause 20.3.11.9 backwards).
use Rattle.std.specs.Prelude.{ℕ, ◌-◌, List, map, Option, None, Some, unwrap_or, slice_index_or}
use Rattle.std.specs.List.{find, flat_map, range_with_len}
use Rattle.ht_rate.specs.declared.kinds.Carrier.TheVariants.{Data}
use Rattle.ht_rate.specs.declared.kinds.Modulation.{Modulation}
use Rattle.ht_rate.specs.Carriers.{index_of}
use Rattle.ht_rate.specs.Rates.{data_carriers_of, modulation_of, streams_of}
use Rattle.ht_map.specs.Gray.{label_of}
use Rattle.ht_metric.specs.Jobs.{JobView, near}
use Rattle.ht_metric.specs.Vectors.{no_point}
use Rattle.ht_capture_laws.specs.Items.{FrameJobs, symbols_in}
pub use Rattle.ht_results.specs.Plans.{stands_at}

-- the job of a frame at a symbol and a data subcarrier, which an erased one doesn't have
abbrev pub data_job_at : FrameJobs → ℕ → ℕ → Option JobView
data_job_at f symbol carrier = find (stands_at symbol (index_of f.head.rate (Data carrier))) f.jobs

-- the label of a stream in a job: that of its point in the first nearest vector; streams count from 1
abbrev pub stream_label : Modulation → JobView → ℕ → ℕ
stream_label modulation job stream = unwrap_or (label_of modulation (slice_index_or (near job).vector (stream - 1) no_point)) 0

-- and 0 where there is no job
abbrev pub label_in : Modulation → Option JobView → ℕ → ℕ
label_in modulation None stream = 0
label_in modulation (Some job) stream = stream_label modulation job stream

-- the label at a symbol, a data subcarrier and a stream
unfoldable pub frame_label : FrameJobs → ℕ → ℕ → ℕ → ℕ
frame_label f symbol carrier stream = label_in (modulation_of f.head.rate) (data_job_at f symbol carrier) stream

-- the labels of a data subcarrier in a symbol, one for each stream
abbrev pub carrier_labels : FrameJobs → ℕ → ℕ → List ℕ
carrier_labels f symbol carrier = map (frame_label f symbol carrier) (range_with_len 1 (streams_of f.head.rate))

abbrev pub symbol_labels : FrameJobs → ℕ → List ℕ
symbol_labels f symbol = flat_map (carrier_labels f symbol) (range_with_len 0 (data_carriers_of f.head.rate))

-- the labels of a frame in the order symbol, data subcarrier, stream
unfoldable pub frame_labels : FrameJobs → List ℕ
frame_labels f = flat_map (symbol_labels f) (range_with_len 0 (symbols_in f.head))
