use Rattle.std.proofs.Common.{map, string_bytes}
use Rattle.ht_words.proofs.Acceptance.{accepted_asks, asks_accepted}
use Rattle.ht_words.proofs.laws.accepted.Goals as goal

pub returns-clause-asks : goal.returns-clause-asks
returns-clause-asks c = λ words. accepted_asks (map string_bytes words)

pub returns-clause-only : goal.returns-clause-only
returns-clause-only c = λ words. asks_accepted (map string_bytes words)
