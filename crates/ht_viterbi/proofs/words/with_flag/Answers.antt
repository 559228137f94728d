use Rattle.std.specs.Int.{w64}
use Rattle.std.proofs.lemmas.Nat.Bits.{bit_at_set_same, bit_at_set_other}
use Rattle.ht_viterbi.proofs.words.with_flag.Goals as goal

pub returns-then-flag-clause-here : goal.returns-then-flag-clause-here
returns-then-flag-clause-here c = ((λ _. c.if-flag.true), λ _. bit_at_set_same w64 c.args.word c.args.place c.requires.place)

pub returns-then-flag-clause-others : goal.returns-then-flag-clause-others
returns-then-flag-clause-others c = λ k other. bit_at_set_other w64 c.args.word c.args.place c.requires.place k other
