use Rattle.std.proofs.Common.{◌≡◌, refl, ◌<◌, ◌+◌, ◌-◌, ◌++◌, ◌∷◌, [], ◌∙◌, ℕ, List, length, sym, ap, arith}
use Rattle.std.proofs.lemmas.List.{length_push}
use Rattle.std.proofs.lemmas.List.Elements.{All-nil, All-push}
use Rattle.std.proofs.Math.Nat.{add-mul}
use Rattle.ht_io.proofs.Calls.{later-later}
use Rattle.ht_fields.specs.Readers.{reader_in}
use Rattle.ht_fields.proofs.Endings.{halts_ends}
use Rattle.ht_fields.proofs.Halting.{further_halts}
use Rattle.ht_fields.proofs.Putting.{takes_as}
use Rattle.ht_heads.specs.Starts.{Over, started_octets}
use Rattle.ht_counted.specs.Counted.{counted, entries_due}
use Rattle.ht_counted.proofs.Counting.{entries_end, length_start, over_is, start_ends, takes_start}
use Rattle.ht_counted.proofs.Lists.{none_yet, place_more, so_far_fit, takes_more}
use Rattle.ht_counted.proofs.reading.read_whole.Goals as goal

pub returns-in-Err-clause-refused : goal.returns-in-Err-clause-refused
returns-in-Err-clause-refused g c =
    start_ends g.E.Entries.format c.args.magic.now c.args.limits.now (g.S.Source.shown c.args.source.now) (g.S.Source.shown c.start.new.source)
    c.in-Err.fault c.requires.counted.count c.requires.magic c.requires.limits c.in-Err.ensures.failed

pub loop-index-init : goal.loop-index-init
loop-index-init g c =
    let h = g.E.Entries.format in
    let items = c.new-held.ensures.items in
    let count = c.in-Ok.count in
    let start = started_octets h.magic h.limits.width count in
    let four : length c.args.magic.now ≡ 4 = omega arith in
    record {
      octets = takes_as (g.S.Source.shown c.args.source.now) (g.S.Source.shown c.start.new.source) _ _
          (none_yet g.E.Entries.octets start c.new-held.result.items items)
          (takes_start h.magic c.args.magic.now h.limits c.args.limits.now count (g.S.Source.shown c.args.source.now) (g.S.Source.shown c.start.new.source)
          c.requires.magic c.requires.limits c.in-Ok.ensures.whole);
      fit = so_far_fit g.E.Entries.fits [] c.new-held.result.items (sym items) (All-nil g.E.Entries.fits);
      size = ap length items;
      place = length_start h.magic c.args.magic.now h.limits c.args.limits.now count c.requires.magic c.requires.limits four
          ∙ ap (λ (z : List ℕ). length z) (none_yet g.E.Entries.octets start c.new-held.result.items items);
      bound = omega (arith, c.requires.counted.count.few, ap (λ l. l.width) c.requires.limits);
      later = c.in-Ok.ensures.later;
      ready = c.requires.ready;
    }

pub loop-index-preserved : goal.loop-index-preserved
loop-index-preserved g c =
    let h = g.E.Entries.format in
    let was = c.loop-index.invariant in
    let start = started_octets h.magic h.limits.width c.in-Ok.count in
    let xs = c.loop-index.held.items in
    let ys = c.push.new.self.items in
    let v = c.in-Ok-read.entry in
    let items : ys ≡ xs ++ v ∷ [] = c.in-Ok-push.ensures.items in
    let before = g.S.Source.shown c.args.source.now in
    let mid = g.S.Source.shown c.loop-index.source in
    let after = g.S.Source.shown c.read.new.source in
    record {
      octets = takes_more g.E.Entries.octets start xs ys v before mid after items was.octets c.in-Ok-read.ensures.whole;
      fit = so_far_fit g.E.Entries.fits (xs ++ v ∷ []) ys (sym items) (All-push g.E.Entries.fits xs v was.fit c.in-Ok-read.ensures.fits);
      size = ap length items ∙ (length_push xs v ∙ ap (λ n. n + 1) was.size);
      place = place_more g.E.Entries.octets start xs ys v c.loop-index.at c.size-at.result items was.place c.size-at.ensures;
      bound = omega (arith, was.bound, c.requires.counted.short v c.in-Ok-read.ensures.fits, c.size-at.ensures, add-mul c.loop-index._index 1 g.E.Entries.most);
      later = later-later before mid after was.later c.in-Ok-read.ensures.later;
      ready = c.read.ensures.ready;
    }

pub returns-in-Err-read-clause-refused : goal.returns-in-Err-read-clause-refused
returns-in-Err-read-clause-refused g c =
    let was = c.loop-index.invariant in
    let left = c.in-Ok.count - length c.loop-index.held.items in
    let some : 0 < left = omega (arith, was.size, c.loop-index-test.true) in
    entries_end g.E.Entries.format g.E.Entries.octets g.E.Entries.fits g.E.Entries.most c.args.limits.now c.in-Ok.count c.loop-index.held.items
    (entries_due g.E.Entries.format.first left) c.loop-index.at (g.S.Source.shown c.args.source.now) (g.S.Source.shown c.loop-index.source)
    (g.S.Source.shown c.read.new.source) c.in-Err-read.fault c.requires.counted c.requires.limits c.in-Ok.ensures.least c.in-Ok.ensures.most
    (omega (arith, some)) was.fit was.place was.octets was.later refl (c.in-Err-read.ensures.failed left some)

pub returns-in-Err-end-clause-refused : goal.returns-in-Err-end-clause-refused
returns-in-Err-end-clause-refused g c =
    let h = g.E.Entries.format in
    let was = c.loop-index.invariant in
    let vs = c.loop-index.held.items in
    let mid = g.S.Source.shown c.loop-index.source in
    let after = g.S.Source.shown c.end.new.source in
    let size : length vs ≡ c.in-Ok.count = omega (arith, was.size, c.loop-index-test.false, c.loop-index.auto._index-end) in
    entries_end h g.E.Entries.octets g.E.Entries.fits g.E.Entries.most c.args.limits.now c.in-Ok.count vs Over c.loop-index.at
    (g.S.Source.shown c.args.source.now) mid after c.in-Err-end.fault c.requires.counted c.requires.limits c.in-Ok.ensures.least c.in-Ok.ensures.most
    (omega (arith, size)) was.fit was.place was.octets was.later (over_is h.first (c.in-Ok.count - length vs) (omega (arith, size)))
    (halts_ends (reader_in (counted h) Over c.loop-index.at mid) after c.in-Err-end.fault
    (further_halts (counted h) Over c.loop-index.at mid after c.in-Err-end.fault tt c.in-Err-end.ensures.further))
