use Rattle.std.proofs.Common.{◌≡◌, map, string_bytes, length}
use Rattle.ht_words.specs.Words.{is_plain}
use Rattle.ht_words.proofs.plain.is_plain.Given as goal

abbrev pub invariant-loop-rest : goal.invariant-loop-rest
invariant-loop-rest l = is_plain l.settings (map string_bytes l.rest) ≡ is_plain l.fn.settings (map string_bytes l.fn.words)

abbrev pub decreases-loop-rest : goal.decreases-loop-rest
decreases-loop-rest l = length l.rest
