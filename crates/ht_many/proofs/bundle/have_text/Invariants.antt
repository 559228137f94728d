use Rattle.std.proofs.Common.{◌<◌, ℕ, get_or}
use Rattle.ht_many.specs.declared.many_end.ManyEnd.TheVariants.{Read}
use Rattle.ht_many.specs.Alone.{HasText}
use Rattle.ht_many.proofs.bundle.have_text.Given as goal

-- the first ends have their texts
abbrev pub invariant-loop-at : goal.invariant-loop-at
invariant-loop-at l = (k : ℕ) → k < l.at → HasText (get_or l.ends k Read)
