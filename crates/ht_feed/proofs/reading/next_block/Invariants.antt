use Rattle.std.proofs.Common.{◌≡◌, ◌≤◌, ◌+◌, [], None, true}
use Rattle.ht_feed.specs.InFlights.{standing}
use Rattle.ht_feed.specs.Reading.{Finds, begun}
use Rattle.ht_feed.proofs.reading.next_block.Given as goal

-- only heads came so far
abbrev pub invariant-loop-next : goal.invariant-loop-next
invariant-loop-next g l =
    let r = g.R.BlockReader in
    record {
      going : (r.counts l.reader).going ≡ true;
      given : (r.counts l.reader).given ≡ (r.counts l.fn.reader).given;
      never_more : (r.counts l.reader).more ≤ (r.counts l.fn.reader).more;
      fewer : l.frames + (r.counts l.reader).more ≤ l.fn.frames + (r.counts l.fn.reader).more;
      finds : Finds (standing r.means r.at l.fn.reader None (g.S.Source.shown l.fn.source)) (standing r.means r.at l.reader None (g.S.Source.shown l.source))
          (begun l.fn.head l.fn.frames) (begun l.head l.frames) [];
    }

abbrev pub decreases-loop-next : goal.decreases-loop-next
decreases-loop-next g l = (g.R.BlockReader.counts l.reader).more
