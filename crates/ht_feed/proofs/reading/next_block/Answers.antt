use Rattle.std.proofs.Common.{◌≡◌, ◌+◌, [], None, refl, ap, subst, sym, ◌∙◌, arith}
use Rattle.ht_io.proofs.Calls.{later-refl}
use Rattle.ht_feed.specs.declared.came.Came.{Came}
use Rattle.ht_feed.specs.InFlights.{standing}
use Rattle.ht_feed.specs.Reading.{CountsCame, CountsHead, Finds, GivesCame, begun, view}
use Rattle.ht_feed.proofs.Finding.{finds_block, finds_head, finds_none}
use Rattle.ht_feed.proofs.reading.next_block.Goals as goal

pub loop-next-init : goal.loop-next-init
loop-next-init g c =
    let r = g.R.BlockReader in
    let source = g.S.Source.shown c.args.source.now in
    let now = begun c.args.head.now c.args.frames.now in
    let same : c.ready.new.self ≡ c.args.reader.now = c.in_default.ensures.none in
    let more : (r.counts c.ready.new.self).more ≡ (r.counts c.args.reader.now).more = ap (λ (rd : g.row.R.Denot). (r.counts rd).more) same in
    record {
      going = ap (λ (rd : g.row.R.Denot). (r.counts rd).going) same ∙ c.requires.going;
      given = ap (λ (rd : g.row.R.Denot). (r.counts rd).given) same;
      never_more = omega (arith, more);
      fewer = omega (arith, more);
      finds = subst (λ (rd : g.row.R.Denot). Finds (standing r.means r.at c.args.reader.now None source) (standing r.means r.at rd None source) now now [])
          (sym same) (finds_none (standing r.means r.at c.args.reader.now None source) now);
    }

pub loop-next-preserved : goal.loop-next-preserved
loop-next-preserved g c =
    let r = g.R.BlockReader in
    let jobs = g.R.Block.Jobs.jobs in
    let s = g.S.Source.shown in
    let i = c.loop-next.invariant in
    let e = c.in-Ok-Head.ensures in
    let old = view r.means r.at c.loop-next.reader (s c.loop-next.source) in
    let new = view r.means r.at c.next.new.self (s c.next.new.source) in
    let gives = subst (λ (came : Came g.row.R-Head.Denot g.row.R-Block.Denot). GivesCame jobs old new came) c.in-Ok-Head.field-0-is e.told in
    let counts : CountsHead (r.counts c.loop-next.reader) (r.counts c.next.new.self) =
    subst (λ (came : Came g.row.R-Head.Denot g.row.R-Block.Denot). CountsCame jobs c.args.most (r.counts c.loop-next.reader) (r.counts c.next.new.self) came)
    c.in-Ok-Head.field-0-is e.counted in
    let fewer = counts.fewer in
    record {
      going = counts.going;
      given = counts.given ∙ i.given;
      never_more = omega (arith, i.never_more, fewer);
      fewer = omega (arith, i.fewer, fewer);
      finds = finds_head (view r.means r.at c.args.reader.now (s c.args.source.now)) old new (begun c.args.head.now c.args.frames.now)
          (begun c.loop-next.head c.loop-next.frames) (begun c.in-Ok-Head.next (c.loop-next.frames + 1)) i.finds gives refl e.later;
    }

pub returns-in-Some-clause-block : goal.returns-in-Some-clause-block
returns-in-Some-clause-block g c =
    let r = g.R.BlockReader in
    let source = g.S.Source.shown c.args.source.now in
    let now = begun c.args.head.now c.args.frames.now in
    let old = view r.means r.at c.args.reader.now source in
    finds_block old old (view r.means r.at c.ready.new.self source) now now (g.R.Block.Jobs.jobs c.in-Some.block)
    (finds_none (standing r.means r.at c.args.reader.now None source) now) (c.in-Some.ensures.told source) (later-refl source)

pub returns-in-Ok-Block-clause-block : goal.returns-in-Ok-Block-clause-block
returns-in-Ok-Block-clause-block g c =
    let r = g.R.BlockReader in
    let jobs = g.R.Block.Jobs.jobs in
    let s = g.S.Source.shown in
    let e = c.in-Ok-Block.ensures in
    let old = view r.means r.at c.loop-next.reader (s c.loop-next.source) in
    let new = view r.means r.at c.next.new.self (s c.next.new.source) in
    let gives = subst (λ (came : Came g.row.R-Head.Denot g.row.R-Block.Denot). GivesCame jobs old new came) c.in-Ok-Block.field-0-is e.told in
    finds_block (view r.means r.at c.args.reader.now (s c.args.source.now)) old new (begun c.args.head.now c.args.frames.now)
    (begun c.loop-next.head c.loop-next.frames) (jobs c.in-Ok-Block.block) c.loop-next.invariant.finds gives e.later
