use Rattle.std.proofs.Common.{◌≡◌, ◌<◌, ◌+◌, ◌*◌, ◌/◌, ℕ, length, get_or}
use Rattle.ht_rate.specs.declared.kinds.Carrier.TheVariants.{Data}
use Rattle.ht_rate.specs.Carriers.{carrier_of}
use Rattle.ht_rate.specs.Rates.{streams_of}
use Rattle.ht_files.proofs.points.carriers.Given as goal

-- the points of the first subcarriers are there
abbrev pub invariant-loop-index : goal.invariant-loop-index
invariant-loop-index l = record {
  size : length l.carriers ≡ 456;
  made : (place : ℕ) → place < l.index * streams_of l.rate → get_or l.carriers place (Data 0) ≡ carrier_of l.rate (place / streams_of l.rate);
}

-- and this many of the next one
abbrev pub invariant-loop-stream : goal.invariant-loop-stream
invariant-loop-stream l = record {
  size : length l.carriers ≡ 456;
  made : (place : ℕ) → place < l.index * streams_of l.rate + l.stream → get_or l.carriers place (Data 0) ≡ carrier_of l.rate (place / streams_of l.rate);
}
