use Rattle.std.proofs.Common.{◌≡◌, ◌+◌, ◌++◌, ◌∷◌, [], length, Ok, refl, arith}
use Rattle.ht_many.proofs.LastLines.{all_finish, answered_so, keep_on, lacks_after, lacks_within, none_yet, one_more}
use Rattle.ht_many.proofs.finishing.finish.Goals as goal

pub loop-at-init : goal.loop-at-init
loop-at-init g c = none_yet g.K.Sink.shown c.args.answers.now c.args.sinks.now c.new-ends.result.items c.new-ends.ensures.items

pub returns-in-Err : goal.returns-in-Err
returns-in-Err g c =
    let e = c.finish_at.ensures in
    record {
      finishes = tt;
      memory = lacks_within g.K.Sink.shown c.args.answers.now c.args.sinks.now c.loop-at.sinks c.finish_at.new.sinks c.loop-at.at c.loop-at.ends.items
          c.loop-at.invariant e.others (λ t. (e.ends t).later) (λ t. (c.in-Err.ensures.ends t).memory);
      later = keep_on g.K.Sink.shown c.args.answers.now c.args.sinks.now c.loop-at.sinks c.finish_at.new.sinks c.loop-at.at c.loop-at.ends.items
          c.loop-at.invariant e.others (λ t. (e.ends t).later);
    }

pub returns-in-Err-push : goal.returns-in-Err-push
returns-in-Err-push g c =
    let e = c.in-Ok.ensures in
    let ended = answered_so g.K.Sink.shown c.args.answers.now c.loop-at.sinks c.finish_at.new.sinks c.loop-at.at
    (Ok (record { frames = 0; jobs = 0 })) c.in-Ok.end c.loop-at-test.true (λ t. (e.ends t).ends) in
    let more = c.loop-at.ends.items ++ c.in-Ok.end ∷ [] in
    let so_far = one_more g.K.Sink.shown c.args.answers.now c.args.sinks.now c.loop-at.sinks c.finish_at.new.sinks c.loop-at.at c.loop-at.ends.items
    c.loop-at.invariant e.others (λ t. (e.ends t).later) c.in-Ok.end more refl ended (λ t. (e.ends t).writes) in
    record {
      finishes = tt;
      memory = lacks_after g.K.Sink.shown c.args.answers.now c.args.sinks.now c.finish_at.new.sinks (c.loop-at.at + 1) more so_far;
      later = so_far.later;
    }

pub loop-at-preserved : goal.loop-at-preserved
loop-at-preserved g c =
    let e = c.in-Ok.ensures in
    let ended = answered_so g.K.Sink.shown c.args.answers.now c.loop-at.sinks c.finish_at.new.sinks c.loop-at.at
    (Ok (record { frames = 0; jobs = 0 })) c.in-Ok.end c.loop-at-test.true (λ t. (e.ends t).ends) in
    one_more g.K.Sink.shown c.args.answers.now c.args.sinks.now c.loop-at.sinks c.finish_at.new.sinks c.loop-at.at c.loop-at.ends.items
    c.loop-at.invariant e.others (λ t. (e.ends t).later) c.in-Ok.end c.push.new.self.items c.in-Ok-push.ensures.items ended (λ t. (e.ends t).writes)

pub returns : goal.returns
returns g c =
    let all : c.loop-at.at ≡ length c.args.answers.now = omega (arith, c.loop-at-test.false, c.loop-at.auto.at-end) in
    record {
      finishes = all_finish g.K.Sink.shown c.args.answers.now c.args.sinks.now c.loop-at.sinks c.loop-at.at c.loop-at.ends.items c.loop-at.invariant all;
      memory = tt;
      later = c.loop-at.invariant.later;
    }
