use Rattle.std.proofs.Common.{◌≡◌, ◌++◌, ◌∙◌, ℕ, List, [], length, flat_map, refl, sym, subst}
use Rattle.std.proofs.lemmas.List.{append-nil}
use Rattle.ht_io.specs.Devices.{Grows}
use Rattle.ht_fields.proofs.Putting.{on_err, part_at, part_first}
use Rattle.ht_heads.specs.Heads.{start_octets}
use Rattle.ht_heads.specs.Starts.{started_octets}
use Rattle.ht_counted.proofs.writing.write_whole.Goals as goal

pub returns-in_err-put-clause-part : goal.returns-in_err-put-clause-part
unfolding start_octets started_octets
returns-in_err-put-clause-part g c =
    let entries = c.args.entries.now in
    on_err _ _ (part_first _ _ c.start_of-start.result (start_octets c.args.magic.now 1 (length entries)) (flat_map g.P.Putter.octets entries) _
    c.start_of-start.ensures refl c.in_err-put.ensures.part)

pub loop-entry-init : goal.loop-entry-init
unfolding start_octets started_octets
loop-entry-init g c =
    let start = started_octets c.args.magic.now 2 (length c.args.entries.now) in
    let is : c.start_of-start.result ≡ start ++ [] = c.start_of-start.ensures ∙ sym (append-nil start) in
    record {
      put = subst (λ (z : List ℕ). Grows (g.K.Sink.shown c.args.sink.now) (g.K.Sink.shown c.put.new.self) z) is c.in_ok-put.ensures.grown;
      later = c.in_ok-put.ensures.later;
      steady = c.in_ok-put.ensures.steady;
    }

pub returns-in_err-put-2-clause-part : goal.returns-in_err-put-2-clause-part
returns-in_err-put-2-clause-part g c =
    on_err _ _ (part_at g.P.Putter.octets c.args.entries.now c.loop-entry.entry-index c.entry-item.result _ _ _
    _ c.loop-entry-test.true c.entry-item.is c.loop-entry.invariant.put c.in_err-put-2.ensures.part)
