use Rattle.std.proofs.Common.{◌≡◌, ◌∙◌, ◌+◌, ◌++◌, ◌∷◌, [], List, length, map, ap, arith}
use Rattle.std.proofs.lemmas.List.{append-nil, map-append, length-append}
use Rattle.std.specs.Global.{Vec}
use Rattle.crossbeam_queue.specs.Passes.{view}
use Rattle.ht_pool.specs.Takers.{TakerView}
use Rattle.ht_pool.specs.Members.{HasServed, answers_of}
use Rattle.ht_pool.specs.Gathering.{rows_of, answered_by}
use Rattle.ht_pool.specs.declared.pass_log.PassLog.{PassLog}
use Rattle.ht_pool.specs.declared.member.Member.{Member}
use Rattle.ht_pool.proofs.Lists.{one_done, some_done, all_first}
use Rattle.ht_pool.proofs.close.take_apart.Goals as goal

pub loop-member-preserved : goal.loop-member-preserved
loop-member-preserved g c =
    let was = c.loop-member.invariant in
    let m = c.in-Some.member in
    let left : List (Member g.row.W-Task.Denot g.row.W-Answer.Denot) = c.loop-member.members.items in
    let rest : List (Member g.row.W-Task.Denot g.row.W-Answer.Denot) = c.take_first.new.all.items in
    let first : left ≡ m ∷ rest = c.in-Some.ensures.items in
    let long : length left ≡ length rest + 1 = ap length first ∙ omega arith in
    let served = all_first (HasServed g.W.PoolWork.asked g.W.PoolWork.weight c.args.shared.now) left rest m first was.served in
    let joined = c.absorb.ensures.joined in
    let pushed : (view c.absorb.new.pass).pushed ≡ (view c.loop-member.pass).pushed ++ (answers_of m).pushed =
    ap (λ (v : PassLog g.row.W-Answer.Denot). v.pushed) joined in
    let parts : (view c.absorb.new.pass).parts ≡ (view c.loop-member.pass).parts + (answers_of m).parts =
    ap (λ (v : PassLog g.row.W-Answer.Denot). v.parts) joined in
    let rows : rows_of c.push_reserved-in-Some-2.new.self.items ≡ rows_of c.loop-member.rows.items ++ m.takers.items ∷ [] =
    ap (λ (rs : List (Vec (TakerView g.row.W-Task.Denot))). rows_of rs) c.push_reserved-in-Some-2.ensures.items
    ∙ map-append (λ (r : Vec (TakerView g.row.W-Task.Denot)). r.items) c.loop-member.rows.items (m.takers ∷ []) in
    record {
      served = served.1;
      queue = c.absorb.ensures.queue;
      some = omega (arith, parts, was.some);
      numbers = omega (
        arith,
        was.numbers,
        long,
        ap length c.push_reserved.ensures.items,
        length-append c.loop-member.ran.items (m.ran ∷ []),
        c.push_reserved.ensures.capacity,
      );
      places = omega (
        arith,
        was.places,
        long,
        ap length c.push_reserved-in-Some.ensures.items,
        length-append c.loop-member.owners.items (m.own ∷ []),
        c.push_reserved-in-Some.ensures.capacity,
      );
      room = omega (
        arith,
        was.room,
        long,
        ap length c.push_reserved-in-Some-2.ensures.items,
        length-append c.loop-member.rows.items (m.takers ∷ []),
        c.push_reserved-in-Some-2.ensures.capacity,
      );
      ran = one_done (λ (x : Member g.row.W-Task.Denot g.row.W-Answer.Denot). x.ran) c.loop-member.ran.items c.push_reserved.new.self.items
          (c.args.ran.now.items ++ map (λ (x : Member g.row.W-Task.Denot g.row.W-Answer.Denot). x.ran) c.args.members.items) left rest m first
          c.push_reserved.ensures.items was.ran;
      owners = one_done (λ (x : Member g.row.W-Task.Denot g.row.W-Answer.Denot). x.own) c.loop-member.owners.items
          c.push_reserved-in-Some.new.self.items
          (c.args.owners.now.items ++ map (λ (x : Member g.row.W-Task.Denot g.row.W-Answer.Denot). x.own) c.args.members.items) left rest m first
          c.push_reserved-in-Some.ensures.items was.owners;
      rows = one_done (λ (x : Member g.row.W-Task.Denot g.row.W-Answer.Denot). x.takers.items) (rows_of c.loop-member.rows.items)
          (rows_of c.push_reserved-in-Some-2.new.self.items)
          (rows_of c.args.rows.now.items ++ map (λ (x : Member g.row.W-Task.Denot g.row.W-Answer.Denot). x.takers.items) c.args.members.items) left rest m
          first rows was.rows;
      parts = omega (arith, was.parts, long, parts, served.0.answers.part);
      pushed = some_done (λ (x : Member g.row.W-Task.Denot g.row.W-Answer.Denot). (answers_of x).pushed) (view c.loop-member.pass).pushed
          (view c.absorb.new.pass).pushed ((view c.args.pass.now).pushed ++ answered_by c.args.members.items) left rest m first pushed was.pushed;
      taken = ap (λ (v : PassLog g.row.W-Answer.Denot). v.taken) joined
          ∙ (ap (λ (xs : List g.row.W-Answer.Denot). (view c.loop-member.pass).taken ++ xs) served.0.answers.none_received
          ∙ (append-nil (view c.loop-member.pass).taken ∙ was.taken));
    }
