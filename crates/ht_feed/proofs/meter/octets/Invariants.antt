use Rattle.std.proofs.Common.{◌≡◌, map, take}
use Rattle.ht_feed.specs.Meters.{octet_of}
use Rattle.ht_feed.proofs.meter.octets.Given as goal

-- the octets of this many hits are there
abbrev pub invariant-loop-hit : goal.invariant-loop-hit
invariant-loop-hit l = l.octets.items ≡ map octet_of (take l.hit-index l.found)
