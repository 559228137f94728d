use Rattle.std.proofs.Common.{map, string_bytes}
use Rattle.ht_words.proofs.Acceptance.{asks_row}
use Rattle.ht_words.proofs.laws.commanded.Goals as goal

pub returns : goal.returns
returns c = λ words. asks_row (map string_bytes words)
