-- Lines of jobs that are found in lanes.
use Rattle.std.specs.Prelude.{◌≡◌, ℕ, ◌^◌, ◌%◌, ◌<◌, List, drop, map, slice_index}
use Rattle.ht_capture.specs.Parts.{SymbolPart, jobs_of}
use Rattle.ht_map.specs.Gray.{point_of}
use Rattle.ht_metric.specs.declared.found.Found.{Found}
use Rattle.ht_rate.specs.Schemes.{bits_of}
use Rattle.ht_rate.specs.declared.kinds.Modulation.{Modulation}
use Rattle.ht_results.specs.JobTexts.{job_lines}
use Rattle.ht_rounding.specs.Labels.{labels_in}
use Rattle.ht_rounding.specs.declared.eight.Labelled.{Labelled}

-- what lane k says of its job
abbrev pub found_in : Modulation → Labelled → ℕ → Found
found_in m lanes k = record { vector = map (point_of m) (labels_in lanes k); distance = slice_index lanes.distance k }

-- the labels of lane k have as many bits as those of the modulation
pub record HasLabels (m : Modulation) (lanes : Labelled) (k : ℕ) : Type 0 where
  pub first : slice_index lanes.first k % 256 < 2 ^ bits_of m
  pub second : 1 < lanes.streams → slice_index lanes.second k % 256 < 2 ^ bits_of m
  pub third : 2 < lanes.streams → slice_index lanes.third k % 256 < 2 ^ bits_of m
  pub fourth : 3 < lanes.streams → slice_index lanes.fourth k % 256 < 2 ^ bits_of m

-- from a place on stand the lines of the jobs of a block behind the first ones
abbrev pub AreLines : SymbolPart → ℕ → ℕ → List ℕ → Type 0
AreLines part at start octets = drop start octets ≡ job_lines (drop at (jobs_of part))
