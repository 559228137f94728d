use Rattle.std.proofs.Common.{◌≡◌, [], ap, sym}
use Rattle.ht_io.proofs.Calls.{grows-none}
use Rattle.ht_frames.specs.Frames.{results_by}
use Rattle.ht_frames.specs.Gathering.{booked_behind}
use Rattle.ht_frames.proofs.Gathered.{all_part, all_put}
use Rattle.ht_results.specs.Folding.{label_plan, result_of, with_octets}
use Rattle.ht_many.specs.KeptFrames.{KeptFrames, booked_left}
use Rattle.ht_many.proofs.Parts.{here}
use Rattle.ht_many.proofs.gathered_lines.GatheredLines.finish_into.Goals as goal

pub returns-clause-books : goal.returns-clause-books
returns-clause-books g c =
    let b = g.B.Book in
    let before = b.shown c.args.book.now in
    let after = b.shown c.book_frames.new.book in
    let whole = c.self.inside.queue.items in
    let left = c.book_frames.new.queue.items in
    let results = results_by label_plan with_octets result_of c.self.inside.under_way in
    let start = booked_left b.booked c.args.self.now in
    let e = c.book_frames.ensures in
    let same : start ≡ booked_behind result_of b.booked whole results = sym (ap (λ (k : KeptFrames). booked_left b.booked k) c.self.view_is) in
    record {
      put = all_put result_of b.booked before before after start whole left results [] ([], grows-none before, λ more. ap (λ f. f more) same)
          c.book_frames.result e.put;
      part = all_part result_of b.booked before before after start whole left results [] ([], grows-none before, λ more. ap (λ f. f more) same)
          c.book_frames.result e.part;
      faults = here e.faults;
    }
