use Rattle.std.proofs.Common.{◌≡◌, length, rules}
use Rattle.ht_many.proofs.Texts.{all_put}
use Rattle.ht_many.proofs.alone.AloneReceiver.texts.Goals as goal

pub returns-then-have_text : goal.returns-then-have_text
returns-then-have_text g c =
    let count : c.len-count.result ≡ length c.args.captures.items = search rules in
    let size : c.in_ok-sinks.sinks.len ≡ length c.in_ok-sinks.sinks.items = search rules in
    all_put c.args.captures.items c.in_ok-sources.sources.items c.deref_mut.result.now c.receive.new.sources c.in_ok-sinks.sinks.items
    c.deref_mut-2.result.now c.receive.new.sinks c.in_ok-ends.ends.items c.deref.result.now c.len-count.result c.in_ok-sinks.sinks.len
    c.in_ok-sources.ensures c.deref_mut.ensures.value count c.in_ok-sinks.ensures c.deref_mut-2.ensures.value c.deref.ensures.value
    c.in_ok-ends.ensures.ends c.receive.ensures.later c.if-have_text.ensures size
