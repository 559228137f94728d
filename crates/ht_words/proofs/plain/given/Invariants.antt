use Rattle.std.proofs.Common.{◌≡◌, map, string_bytes, length}
use Rattle.ht_words.specs.Words.{given}
use Rattle.ht_words.proofs.plain.given.Given as goal

abbrev pub invariant-loop-rest : goal.invariant-loop-rest
invariant-loop-rest l = given l.name (map string_bytes l.rest) ≡ given l.fn.name (map string_bytes l.fn.words)

abbrev pub decreases-loop-rest : goal.decreases-loop-rest
decreases-loop-rest l = length l.rest
