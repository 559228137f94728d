use Rattle.std.proofs.Common.{subst, map, string_bytes, IfSome, Option}
use Rattle.ht_words.specs.declared.asked.Asked.{Asked}
use Rattle.ht_words.specs.Words.{IsWithinRanges}
use Rattle.ht_words.proofs.Ranges.{asked-in_range}
use Rattle.ht_words.proofs.asked.Asked.of.Goals as goal

pub returns-in-Ok-clause-ranges : goal.returns-in-Ok-clause-ranges
returns-in-Ok-clause-ranges c =
    subst (λ (answer : Option Asked). IfSome answer IsWithinRanges) c.in-Ok.ensures.asked (asked-in_range (map string_bytes c.args.words.now))
