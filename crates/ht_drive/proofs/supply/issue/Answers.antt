use Rattle.std.proofs.Common.{◌≡◌, ◌+◌, length, sym, subst, refl, rules}
use Rattle.ht_feed.specs.OwnNumbers.{AreByNumber}
use Rattle.ht_feed.specs.Dues.{all_in}
use Rattle.ht_drive.specs.Blocks.{gave}
use Rattle.ht_drive.specs.Blocks.{BlockCaller}
use Rattle.ht_drive.specs.Driving.{AreCountsOf}
use Rattle.ht_drive.specs.declared.counts.CallerCounts.{CallerCounts}
use Rattle.ht_drive.proofs.Giving.{issues_given, told_given}
use Rattle.ht_drive.proofs.supply.issue.Goals as goal

pub returns-else-not-give-clause-counted : goal.returns-else-not-give-clause-counted
returns-else-not-give-clause-counted g c =
    let jobs = g.B.Jobs.jobs c.args.block in
    let t = c.args.counts.now in
    let t' : CallerCounts = record { issued = t.issued + c.from-size.result; own = t.own } in
    let is : c.give.new.self ≡ gave c.args.caller.now jobs = search rules in
    let issued : t'.issued ≡ t.issued + length jobs = search rules in
    subst (λ (caller : BlockCaller). AreCountsOf t' caller) (sym is)
    (issues_given t c.args.caller.now jobs c.requires.counted c.requires.numbers c.requires.block t' issued refl)

pub returns-else-not-give-clause-by_number : goal.returns-else-not-give-clause-by_number
returns-else-not-give-clause-by_number g c =
    let jobs = g.B.Jobs.jobs c.args.block in
    let is : c.give.new.self ≡ gave c.args.caller.now jobs = search rules in
    λ all by_number more. subst (λ (caller : BlockCaller). AreByNumber all (all_in caller.given)) (sym is)
    (told_given all c.args.caller.now jobs by_number more)
