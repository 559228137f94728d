use Rattle.std.proofs.Common.{◌≡◌, ◌++◌, length, map, take, drop, rules}
use Rattle.ht_results.specs.Texts.{rx_text}
use Rattle.ht_many.proofs.Texts.{held_by}
use Rattle.ht_many.specs.Apart.{held_all, texts_in}
use Rattle.ht_many.proofs.CaptureEnds.{then_ok}
use Rattle.ht_many.proofs.TextsApart.{all_texts}
use Rattle.ht_many.proofs.apart.texts_apart.Goals as goal

pub returns : goal.returns
returns g c =
    let first = c.in-Ok.all.items in
    let lent = c.deref_mut.result.now in
    let after = c.receive_each.new.all in
    let as_many : length c.receive_each.new.all ≡ length c.deref_mut.result.now = search rules in
    let size : c.in-Ok.all.len ≡ length c.in-Ok.all.items = search rules in
    then_ok
    (λ s. texts_in (take c.in-Ok.all.len (after ++ drop (length after) first)) ≡ held_all s.items)
    (λ s. map held_by s.items ≡ map rx_text c.args.captures.items)
    c.texts_of.result
    (λ s held. all_texts c.args.captures.items first lent after c.in-Ok.all.len c.in-Ok.ensures c.deref_mut.ensures.value as_many size
    c.receive_each.ensures s.items held)
    c.texts_of.ensures
