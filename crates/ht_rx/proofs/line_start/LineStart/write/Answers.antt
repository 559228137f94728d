use Rattle.std.proofs.Common.{◌∙◌, ap, ℕ, List, drop, rules}
use Rattle.ht_rx.proofs.Writing.{part_put}
use Rattle.ht_rx.proofs.line_start.LineStart.write.Goals as goal

pub returns-clause-written : goal.returns-clause-written
returns-clause-written c =
    part_put 21 c.args.end c.args.self.now.start c.args.into.now c.copy_from_slice.new.self _ c.requires.room c.requires.within
    (search rules) c.args.self.now.within
    (ap (λ (l : List ℕ). drop c.args.self.now.start l) c.copy_from_slice.ensures.after ∙ c.args.self.now.is)
