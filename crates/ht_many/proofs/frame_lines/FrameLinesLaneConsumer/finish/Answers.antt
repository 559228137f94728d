use Rattle.std.proofs.Common.{[], List, ap, refl}
use Rattle.ht_io.proofs.Calls.{grows-none, later-refl}
use Rattle.ht_frames.specs.Frames.{results_by}
use Rattle.ht_frames.specs.Gathering.{booked_behind}
use Rattle.ht_results.specs.Folding.{FrameSoFar, label_plan, result_of, with_octets}
use Rattle.ht_results.specs.Texts.{result_line}
use Rattle.ht_many.proofs.frame_lines.FrameLinesLaneConsumer.finish.Goals as goal

pub returns-clause-books : goal.returns-clause-books
returns-clause-books g c =
    let sink = g.K.Sink.shown c.args._sink.now in
    record {
      put = ([], grows-none sink, λ more. refl);
      part = tt;
      faults = record { steady = refl; cause = tt; unfailed = tt; later = later-refl sink; same = refl };
    }

pub returns-clause-none : goal.returns-clause-none
returns-clause-none g c =
    ap (λ (fs : List FrameSoFar). booked_behind result_of result_line fs (results_by label_plan with_octets result_of c.args.self.now.under_way) [])
    c.none_waits.ensures
