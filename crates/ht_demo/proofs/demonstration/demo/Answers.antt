use Rattle.ht_demo.proofs.Demonstrating.{are_received}
use Rattle.ht_demo.proofs.demonstration.demo.Goals as goal

pub demo_line_of-requires-clause-received : goal.demo_line_of-requires-clause-received
demo_line_of-requires-clause-received g c =
    are_received c.args.plan.now c.deref.result.now _ _ c.receive.new.source c.new-book.result.results.items c.receive.new.book.results.items
    c.results.result.now c.in-Ok.field-0 c.deref.ensures.value c.in_ok-frames.ensures.sent c.new-book.ensures c.in-Ok.ensures.receives.tells
    c.results.ensures
