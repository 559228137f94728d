-- What is known once all that the workers did is joined.
use Rattle.std.proofs.Common.{◌≡◌, ℕ, ◌+◌, ◌-◌, ◌≤◌, List, [], ◌∷◌, ◌++◌, length, map, drop, get_or, sum, ap, ◌∙◌, sym, refl, subst, arith}
use Rattle.std.specs.List.{All, AllByRecursion, flat_map, sum_by}
use Rattle.std.proofs.lemmas.List.{map-append, length-map}
use Rattle.std.proofs.lemmas.List.Sums.{sum_by-append, sum_by-cons}
use Rattle.std.proofs.lemmas.List.Elements.{All-from_recursion, recursion_from_All}
use Rattle.ht_list.specs.Counts.{SameCounts}
use Rattle.atomic_table.specs.Seated.{TableId}
use Rattle.ht_pool.specs.PassLogs.{AddsUp}
use Rattle.ht_pool.specs.Takers.{DequeId, TakerView, OwnView, deques_at, taken_at}
use Rattle.ht_pool.specs.Through.{through, first_of}
use Rattle.ht_pool.specs.Members.{Workplace, workplace, workplaces, workplace_of, answers_of, answered_weight, HasServed}
use Rattle.ht_pool.specs.Callers.{CallerView, IsSettled, caller_view}
use Rattle.ht_pool.specs.Gathering.{Collects, IsAccounted, answered_by, ended, joined_row, joined_rows}
use Rattle.ht_pool.specs.Pools.{HasRun, IsEmptied, taken_on, moved_on, through_deques, through_queue}
use Rattle.ht_pool.specs.declared.ends.Ends.{Ends}
use Rattle.ht_pool.specs.declared.pass_log.PassLog.{PassLog}
use Rattle.ht_pool.specs.declared.member.Member.{Member}
use Rattle.ht_pool.specs.declared.closed.Closed.{Closed}
use Rattle.ht_pool.proofs.Backs.{ones}
use Rattle.ht_pool.specs.Opening.{own_deques}
use Rattle.ht_pool.proofs.Joining.{taken_by, pushed_by, AreWhole, rows-pushed, rows-taken, rows-parts, same_parts, length_rows}

sum_by-none : {X : Type 0} (h : X → ℕ) (xs : List X) → length xs ≡ 0 → sum_by h xs ≡ 0
sum_by-none h [] e = refl
sum_by-none h (x ∷ xs) e = absurd (omega (arith, e))

-- what holds of each value of g holds of each value of f, where these are the same
pub each : {X Y Z : Type 0} (f : X → Z) (g : Y → Z) (P : Z → Type 0) → ((y : Y) → P (g y)) → (xs : List X) (ys : List Y) → map f xs ≡ map g ys
    → AllByRecursion (λ x. P (f x)) xs
each f g P always [] ys e = tt
each f g P always (x ∷ xs) [] e = absurd (omega (arith, ap length e))
each f g P always (x ∷ xs) (y ∷ ys) e = (
  subst P (sym (ap (λ zs. get_or zs 0 (f x)) e)) (always y),
  each f g P always xs ys (ap (drop 1) e),
)

module _ {T : Type 0} where
  -- all that was pushed
  abbrev pushed_on_all : List (PassLog T) → List T
  pushed_on_all logs = flat_map (λ (v : PassLog T). v.pushed) logs

  taken_ended : (owners : List (OwnView T)) → taken_on (map ended owners) ≡ taken_by owners
  taken_ended [] = refl
  taken_ended (own ∷ owners) = ap (λ xs. own.taken ++ xs) (taken_ended owners)

  pushed_ended : (owners : List (OwnView T)) → pushed_on_all (map ended owners) ≡ pushed_by owners
  pushed_ended [] = refl
  pushed_ended (own ∷ owners) = ap (λ xs. own.pushed ++ xs) (pushed_ended owners)

  -- what was taken and pushed on one deque more
  on_more : (h : T → ℕ) (v : PassLog T) (logs : List (PassLog T)) → (sum_by h (taken_on (v ∷ logs)) ≡ sum_by h v.taken + sum_by h (taken_on logs))
      × (sum_by h (pushed_on_all (v ∷ logs)) ≡ sum_by h v.pushed + sum_by h (pushed_on_all logs))
  on_more h v logs = (sum_by-append h v.taken (taken_on logs), sum_by-append h v.pushed (pushed_on_all logs))

  -- no more was taken than pushed
  accounted-most : (h : T → ℕ) (logs : List (PassLog T)) → AllByRecursion IsAccounted logs → sum_by h (taken_on logs) ≤ sum_by h (pushed_on_all logs)
  accounted-most h [] all = omega arith
  accounted-most h (v ∷ logs) all = let more = on_more h v logs in omega (arith, all.0.1 h, accounted-most h logs all.1, more.0, more.1)

  -- where as much was taken as pushed, nothing is left on any deque
  all_emptied : (logs : List (PassLog T)) → AllByRecursion IsAccounted logs
      → sum_by (λ _. 1) (pushed_on_all logs) ≤ sum_by (λ _. 1) (taken_on logs) → AllByRecursion IsEmptied logs
  all_emptied [] all enough = tt
  all_emptied (v ∷ logs) all enough =
      let one : T → ℕ = λ _. 1 in
      let held : List T = all.0.0 in
      let more = on_more one v logs in
      let rest = accounted-most one logs all.1 in
      let here : sum_by one v.pushed ≡ sum_by one v.taken + sum_by one held = all.0.1 one in
      let none : length held ≡ 0 = omega (arith, more.0, more.1, rest, here, enough, ones held) in
      ((λ h. omega (arith, all.0.1 h, sum_by-none h held none)), all_emptied logs all.1 (omega (arith, more.0, more.1, here, enough)))

  emptied-same : (h : T → ℕ) (logs : List (PassLog T)) → AllByRecursion IsEmptied logs → sum_by h (taken_on logs) ≡ sum_by h (pushed_on_all logs)
  emptied-same h [] all = refl
  emptied-same h (v ∷ logs) all = let more = on_more h v logs in omega (arith, all.0 h, emptied-same h logs all.1, more.0, more.1)

  first-row : (owners : List (OwnView T)) (takers : List (TakerView T))
      → (first_of (map ended (joined_row owners takers))).pushed ≡ (first_of (map ended owners)).pushed
  first-row [] takers = refl
  first-row (own ∷ owners) [] = refl
  first-row (own ∷ owners) (taker ∷ takers) = refl

  -- the first owner has pushed the same still
  first-kept : (own : OwnView T) (owners : List (OwnView T)) (rows : List (List (TakerView T)))
      → (first_of (map ended (joined_rows (own ∷ owners) rows))).pushed ≡ own.pushed
  first-kept own owners [] = refl
  first-kept own owners (takers ∷ rows) = first-row (joined_rows (own ∷ owners) rows) takers ∙ first-kept own owners rows

  first-apart : (h : T → ℕ) (logs : List (PassLog T)) → sum_by h (pushed_on_all logs) ≡ sum_by h (first_of logs).pushed + sum_by h (moved_on logs)
  first-apart h [] = omega arith
  first-apart h (v ∷ logs) = sum_by-append h v.pushed (pushed_on_all logs)

  pub logs-whole : (ends : List (Ends T)) → AllByRecursion (λ (e : Ends T). IsAccounted (through e)) ends → AllByRecursion IsAccounted (map through ends)
  logs-whole [] all = tt
  logs-whole (e ∷ ends) all = (all.0, logs-whole ends all.1)

-- what the caller and its helpers have once all threads have ended
pub record HaveEnded (T A : Type 0) (asked : A → T) (weight : T → ℕ) (queue : TableId) (caller : CallerView T A) (own : OwnView T) (takers : List (TakerView T))
    (before : PassLog A) (members : List (Member T A)) : Type 0 where
  pub seen : caller_view own takers queue before.taken ≡ caller
  pub few : length takers ≤ 64
  pub first : deques_at takers ≡ own.deque ∷ drop 1 (deques_at takers)
  pub own_parts : own.parts + length takers ≡ 1024
  pub answer_parts : before.parts + length takers ≡ 1025
  pub none_pushed : before.pushed ≡ []
  pub served : All (HasServed asked weight queue) members
  pub workplaces_are : map workplace_of members ≡ workplaces caller.deques

module _ {T A : Type 0} (asked : A → T) (weight : T → ℕ) (queue : TableId) where
  abbrev owns : List (Member T A) → List (OwnView T)
  owns members = map (λ (m : Member T A). m.own) members

  abbrev takers_of : List (Member T A) → List (List (TakerView T))
  takers_of members = map (λ (m : Member T A). m.takers.items) members

  abbrev taken_at_all : List (List (TakerView T)) → List T
  taken_at_all rows = flat_map (λ (takers : List (TakerView T)). taken_at takers) rows

  -- the shares of all workers together balance
  shares : (h : T → ℕ) (members : List (Member T A)) → AllByRecursion (HasServed asked weight queue) members
      → sum_by h (taken_by (owns members)) + sum_by h (taken_at_all (takers_of members))
      ≡ sum_by h (pushed_by (owns members)) + sum_by h (map asked (answered_by members))
  shares h [] all = omega arith
  shares h (m ∷ members) all =
      let asks : map asked (answered_by (m ∷ members)) ≡ map asked (answers_of m).pushed ++ map asked (answered_by members) =
      map-append asked (answers_of m).pushed (answered_by members) in
      omega (
        arith,
        all.0.balanced h,
        shares h members all.1,
        ap (sum_by h) asks,
        sum_by-append h (map asked (answers_of m).pushed) (map asked (answered_by members)),
        sum_by-append h m.own.taken (taken_at m.takers.items),
        sum_by-append h m.own.pushed (map asked (answers_of m).pushed),
        sum_by-append h m.own.taken (taken_by (owns members)),
        sum_by-append h m.own.pushed (pushed_by (owns members)),
        sum_by-append h (taken_at m.takers.items) (taken_at_all (takers_of members)),
      )

  -- their numbers are of what they answered
  counted : (members : List (Member T A)) → AllByRecursion (HasServed asked weight queue) members
      → map (λ (m : Member T A). m.ran) members ≡ map (answered_weight asked weight) members
  counted [] all = refl
  counted (m ∷ members) all =
      ap (λ (n : ℕ). n ∷ map (λ (x : Member T A). x.ran) members) all.0.ran
      ∙ ap (λ (ns : List ℕ). answered_weight asked weight m ∷ ns) (counted members all.1)

  -- so do their numbers add up
  numbers : (members : List (Member T A)) → sum (map (answered_weight asked weight) members) ≡ sum_by weight (map asked (answered_by members))
  numbers [] = refl
  numbers (m ∷ members) =
      let asks : map asked (answered_by (m ∷ members)) ≡ map asked (answers_of m).pushed ++ map asked (answered_by members) =
      map-append asked (answers_of m).pushed (answered_by members) in
      omega (
        arith,
        numbers members,
        sum_by-cons (λ (n : ℕ). n) (answered_weight asked weight m) (map (answered_weight asked weight) members),
        ap (sum_by weight) asks,
        sum_by-append weight (map asked (answers_of m).pushed) (map asked (answered_by members)),
      )

  own-ids : (ids xs : List DequeId) (members : List (Member T A)) → map workplace_of members ≡ map (workplace ids) xs → own_deques (owns members) ≡ xs
  own-ids ids [] [] e = refl
  own-ids ids [] (m ∷ members) e = absurd (omega (arith, ap length e))
  own-ids ids (x ∷ xs) [] e = absurd (omega (arith, ap length e))
  own-ids ids (x ∷ xs) (m ∷ members) e =
      ap (λ (id : DequeId). id ∷ own_deques (owns members)) (ap (λ (bs : List Workplace). (get_or bs 0 (workplace_of m)).deque) e)
      ∙ ap (λ (ids' : List DequeId). x ∷ ids') (own-ids ids xs members (ap (drop 1) e))

  rows-at : (ids : List DequeId) (members : List (Member T A)) → AllByRecursion (λ (m : Member T A). deques_at m.takers.items ≡ ids) members
      → AllByRecursion (λ (takers : List (TakerView T)). deques_at takers ≡ ids) (takers_of members)
  rows-at ids [] all = tt
  rows-at ids (m ∷ members) all = (all.0, rows-at ids members all.1)

  owns-parts : (parts : ℕ) (members : List (Member T A)) → AllByRecursion (λ (m : Member T A). m.own.parts ≡ parts) members
      → AllByRecursion (λ (o : OwnView T). o.parts ≡ parts) (owns members)
  owns-parts parts [] all = tt
  owns-parts parts (m ∷ members) all = (all.0, owns-parts parts members all.1)

  rows-whole : (owners : List (OwnView T)) (rows : List (List (TakerView T)))
      → AllByRecursion (λ (takers : List (TakerView T)). deques_at takers ≡ own_deques owners) rows → AreWhole (length owners) rows
  rows-whole owners [] all = tt
  rows-whole owners (takers ∷ rows) all = (
    omega (
      arith,
      ap length all.0,
      length-map takers (λ (s : TakerView T). s.at),
      length-map owners (λ (o : OwnView T). o.deque),
    ),
    rows-whole owners rows all.1,
  )

  module _ (caller : CallerView T A) (own : OwnView T) (takers : List (TakerView T)) (before : PassLog A) (members : List (Member T A))
      (end : HaveEnded T A asked weight queue caller own takers before members) where
    abbrev ids : List DequeId
    ids = deques_at takers

    abbrev pub owners : List (OwnView T)
    owners = own ∷ owns members

    abbrev pub rows : List (List (TakerView T))
    rows = takers ∷ takers_of members

    abbrev pub joined : List (OwnView T)
    joined = joined_rows owners rows

    by_recursion : AllByRecursion (HasServed asked weight queue) members
    by_recursion = recursion_from_All (HasServed asked weight queue) members end.served

    ids_are : ids ≡ caller.deques
    ids_are = ap (λ (v : CallerView T A). v.deques) end.seen

    at_workplaces : map workplace_of members ≡ map (workplace ids) (drop 1 ids)
    at_workplaces = end.workplaces_are ∙ ap (λ (xs : List DequeId). workplaces xs) (sym ids_are)

    owned : own_deques owners ≡ ids
    owned = ap (λ (xs : List DequeId). own.deque ∷ xs) (own-ids ids (drop 1 ids) members at_workplaces) ∙ sym end.first

    at_each : AllByRecursion (λ (ss : List (TakerView T)). deques_at ss ≡ own_deques owners) rows
    at_each = subst (λ (xs : List DequeId). AllByRecursion (λ (ss : List (TakerView T)). deques_at ss ≡ xs) rows) (sym owned)
        (refl, rows-at ids members (each workplace_of (workplace ids) (λ (b : Workplace). b.at ≡ ids) (λ x. refl) members (drop 1 ids) at_workplaces))

    pub at_all : All (λ (ss : List (TakerView T)). deques_at ss ≡ own_deques owners) rows
    at_all = All-from_recursion (λ (ss : List (TakerView T)). deques_at ss ≡ own_deques owners) rows at_each

    whole_rows : AreWhole (length owners) rows
    whole_rows = rows-whole owners rows at_each

    ids_long : length ids ≡ length takers
    ids_long = length-map takers (λ (s : TakerView T). s.at)

    long : length owners ≡ length takers
    long = omega (arith, ap length owned, ids_long, length-map owners (λ (o : OwnView T). o.deque))

    members_long : length (owns members) ≡ length members
    members_long = length-map members (λ (m : Member T A). m.own)

    parts_each : AllByRecursion (λ (o : OwnView T). o.parts ≡ 1024 - length ids) owners
    parts_each = (
      omega (arith, end.own_parts, end.few, ids_long),
      owns-parts (1024 - length ids) members
          (each workplace_of (workplace ids) (λ (b : Workplace). b.parts ≡ 1024 - length ids) (λ x. refl) members (drop 1 ids) at_workplaces),
    )

    pub all_parts : All (λ (o : OwnView T). o.parts ≡ 1024) joined
    all_parts =
        let n : length rows ≡ length owners = omega (arith, length-map members (λ (m : Member T A). m.takers.items), members_long) in
        All-from_recursion (λ (o : OwnView T). o.parts ≡ 1024) joined
        (same_parts (1024 - length ids + length rows) 1024 joined (omega (arith, n, long, end.few, ids_long))
        (rows-parts (1024 - length ids) owners rows whole_rows parts_each))

    pub joined_long : length joined ≡ length caller.deques
    joined_long = length_rows owners rows ∙ (long ∙ (sym ids_long ∙ ap length ids_are))

    module _ (after : PassLog A) (collected : Collects before after members) where
      pub all_answers : after.parts ≡ 1024
      all_answers = omega (arith, collected.parts, end.answer_parts, long, members_long)

      module _ (waiting : List A) (accounted : AddsUp after waiting) (settled : IsSettled caller) (logs : List (PassLog T))
          (logs_are : logs ≡ map ended joined) (whole : AllByRecursion IsAccounted logs) where
        given : own.pushed ≡ caller.given
        given = ap (λ (v : CallerView T A). v.given) end.seen

        taken : own.taken ++ taken_at takers ≡ caller.taken
        taken = ap (λ (v : CallerView T A). v.taken) end.seen

        answers : after.taken ≡ caller.answers
        answers = collected.taken ∙ ap (λ (v : CallerView T A). v.answers) end.seen

        answered : after.pushed ≡ answered_by members
        answered = collected.pushed ∙ ap (λ xs. xs ++ answered_by members) end.none_pushed

        all_taken : (h : T → ℕ) → sum_by h (taken_on logs)
            ≡ sum_by h caller.taken + sum_by h (pushed_by (owns members)) + sum_by h (map asked after.pushed)
        all_taken h = omega (
          arith,
          ap (λ vs. sum_by h (taken_on vs)) logs_are,
          ap (sum_by h) (taken_ended joined),
          rows-taken h owners rows whole_rows,
          sum_by-append h own.taken (taken_by (owns members)),
          sum_by-append h (taken_at takers) (taken_at_all (takers_of members)),
          sum_by-append h own.taken (taken_at takers),
          ap (sum_by h) taken,
          shares h members by_recursion,
          ap (λ xs. sum_by h (map asked xs)) answered,
        )

        all_pushed : (h : T → ℕ) → sum_by h (pushed_on_all logs) ≡ sum_by h caller.given + sum_by h (pushed_by (owns members))
        all_pushed h = omega (
          arith,
          ap (λ vs. sum_by h (pushed_on_all vs)) logs_are,
          ap (sum_by h) (pushed_ended joined),
          ap (sum_by h) (rows-pushed owners rows),
          sum_by-append h own.pushed (pushed_by (owns members)),
          ap (sum_by h) given,
        )

        asks : sum_by (λ (x : T). 1) (map asked after.pushed) ≡ length after.taken + length waiting
        asks = omega (
          arith,
          ones (map asked after.pushed),
          length-map after.pushed asked,
          accounted (λ (x : A). 1),
          ones after.pushed,
          ones after.taken,
          ones waiting,
        )

        enough : sum_by (λ (x : T). 1) (pushed_on_all logs) ≤ sum_by (λ (x : T). 1) (taken_on logs)
        enough = omega (
          arith,
          all_taken (λ (x : T). 1),
          all_pushed (λ (x : T). 1),
          asks,
          ones caller.given,
          ones caller.taken,
          ap length answers,
          settled,
        )

        emptied : AllByRecursion IsEmptied logs
        emptied = all_emptied logs whole enough

        each_once : SameCounts (caller.taken ++ map asked after.pushed) caller.given
        each_once h = omega (
          arith,
          all_taken h,
          all_pushed h,
          emptied-same h logs emptied,
          sum_by-append h caller.taken (map asked after.pushed),
        )

        none_waits : length waiting ≡ 0
        none_waits = omega (
          arith,
          each_once (λ (x : T). 1),
          sum_by-append (λ (x : T). 1) caller.taken (map asked after.pushed),
          asks,
          ones caller.given,
          ones caller.taken,
          ap length answers,
          settled,
        )

        first_pushed : (first_of logs).pushed ≡ caller.given
        first_pushed = ap (λ vs. (first_of vs).pushed) logs_are ∙ (first-kept own (owns members) rows ∙ given)

        pub has_run : (closed : Closed T A) → through_deques closed ≡ logs → through_queue closed ≡ after
            → closed.ran.items ≡ sum_by weight caller.taken ∷ map (λ (m : Member T A). m.ran) members → HasRun asked weight caller members closed
        has_run closed of of' numbers_are =
            let answered_are : closed.ran.items ≡ sum_by weight caller.taken ∷ map (answered_weight asked weight) members =
            numbers_are ∙ ap (λ (ns : List ℕ). sum_by weight caller.taken ∷ ns) (counted members by_recursion) in
            record {
              deques = omega (
                arith,
                length-map closed.deques.items through,
                ap length of,
                ap length logs_are,
                length-map joined ended,
                joined_long,
              );
              pushed = ap (λ vs. (first_of vs).pushed) of ∙ first_pushed;
              emptied = All-from_recursion IsEmptied (through_deques closed)
                  (subst (λ (vs : List (PassLog T)). AllByRecursion IsEmptied vs) (sym of) emptied);
              taken = subst (λ (vs : List (PassLog T)). SameCounts (taken_on vs) (caller.given ++ moved_on vs)) (sym of) (λ h. omega (
                arith,
                emptied-same h logs emptied,
                first-apart h logs,
                ap (sum_by h) first_pushed,
                sum_by-append h caller.given (moved_on logs),
              ));
              each_once = subst (λ (v : PassLog A). SameCounts (caller.taken ++ map asked v.pushed) caller.given) (sym of') each_once;
              delivered = ap (λ (v : PassLog A). v.pushed) of' ∙ answered;
              received = ap (λ (v : PassLog A). v.taken) of' ∙ answers;
              answers = subst (λ (v : PassLog A). SameCounts v.taken v.pushed) (sym of') (λ h. omega (
                arith,
                accounted h,
                sum_by-none h waiting none_waits,
              ));
              each = omega (
                arith,
                ap length numbers_are,
                length-map members (λ (m : Member T A). m.ran),
                members_long,
                long,
                ids_long,
                ap length ids_are,
              );
              numbers = answered_are;
              ran = omega (
                arith,
                ap sum answered_are,
                sum_by-cons (λ (n : ℕ). n) (sum_by weight caller.taken) (map (answered_weight asked weight) members),
                numbers members,
                ap (λ xs. sum_by weight (map asked xs)) answered,
                each_once weight,
                sum_by-append weight caller.taken (map asked after.pushed),
              );
            }
