-- A feed that gives its jobs in turn.
use Rattle.std.proofs.Common.{◌≡◌, ℕ, ◌+◌, ◌-◌, List, [], ◌∷◌, ◌++◌, length, take, drop, false}
use Rattle.std.proofs.Common.{Option, Some, None, ap, ◌∙◌, sym, subst, refl, arith}
use Rattle.std.proofs.lemmas.List.{append-nil, length-append, length-drop, length-take-le, drop-drop, drop-append-le}
use Rattle.std.proofs.lemmas.List.Concat.{flat_map-append}
use Rattle.std.proofs.Math.Seq.{take-add}
use Rattle.ht_metric.specs.Jobs.{JobView}
use Rattle.ht_feed.specs.Dues.{all_in, count_in}
use Rattle.ht_feed.specs.Feeds.{ComeFirst, EndsBlocks, Fails, FeedView, GivesBlock, IsAlong, IsFreshFeed, IsInTurn, TakesBlock}
use Rattle.ht_feed.specs.Items.{Numbered}

-- one block more
pub count_in-more : (blocks : List (List JobView)) (jobs : List JobView) → count_in (blocks ++ jobs ∷ []) ≡ count_in blocks + length jobs
count_in-more [] jobs = omega arith
count_in-more (b ∷ bs) jobs = let e = count_in-more bs jobs in omega (arith, e)

pub all_in-more : (blocks : List (List JobView)) (jobs : List JobView) → all_in (blocks ++ jobs ∷ []) ≡ all_in blocks ++ jobs
all_in-more blocks jobs =
    flat_map-append (λ (b : List JobView). b) blocks (jobs ∷ []) ∙ ap (λ (rest : List JobView). all_in blocks ++ rest) (append-nil jobs)

-- as many jobs as are in all
pub length-all_in : (blocks : List (List JobView)) → length (all_in blocks) ≡ count_in blocks
length-all_in [] = refl
length-all_in (b ∷ bs) = let e = length-all_in bs in omega (arith, e, length-append b (all_in bs))

-- numbers that go on
pub numbered-append : (n : ℕ) (xs ys : List JobView) → Numbered n xs → Numbered (n + length xs) ys → Numbered n (xs ++ ys)
numbered-append n [] ys first later = let at : n + 0 ≡ n = omega arith in subst (λ (m : ℕ). Numbered m ys) at later
numbered-append n (x ∷ xs) ys first later =
    let at : n + length (x ∷ xs) ≡ n + 1 + length xs = omega arith in
    (first.0, numbered-append (n + 1) xs ys first.1 (subst (λ (m : ℕ). Numbered m ys) at later))

pub numbered-behind : (n : ℕ) (xs ys : List JobView) → Numbered n (xs ++ ys) → Numbered (n + length xs) ys
numbered-behind n [] ys all = let at : n ≡ n + 0 = omega arith in subst (λ (m : ℕ). Numbered m ys) at all
numbered-behind n (x ∷ xs) ys all =
    let at : n + 1 + length xs ≡ n + length (x ∷ xs) = omega arith in
    subst (λ (m : ℕ). Numbered m ys) at (numbered-behind (n + 1) xs ys all.1)

-- what is left behind the first
drop_front : {A : Type 0} (xs ys : List A) → drop (length xs) (xs ++ ys) ≡ ys
drop_front [] ys = refl
drop_front (x ∷ xs) ys = drop_front xs ys

take_front : {A : Type 0} (xs ys : List A) → take (length xs) (xs ++ ys) ≡ xs
take_front [] ys = refl
take_front {A} (x ∷ xs) ys = ap (λ (zs : List A). x ∷ zs) (take_front xs ys)

module _ {Fault : Type 0} where
  -- where as many were given and the same are due
  pub in_turn_still : (known : Option (List JobView)) (f f' : FeedView Fault) → IsInTurn known f → f'.count ≡ f.count → f'.due ≡ f.due → IsInTurn known f'
  in_turn_still known f f' was count due =
      let few : count_in f'.due ≡ count_in f.due = ap count_in due in
      let from : f'.count - count_in f'.due ≡ f.count - count_in f.due = omega (arith, few, count) in
      record {
        within = let w = was.within in omega (arith, w, few, count);
        numbers = subst (λ (n : ℕ). Numbered n (all_in f'.due)) (sym from)
            (subst (λ (blocks : List (List JobView)). Numbered (f.count - count_in f.due) (all_in blocks)) (sym due) was.numbers);
        jobs = λ all is. ap all_in due ∙ (was.jobs all is
            ∙ (ap (λ (n : ℕ). drop n (take f.count all)) (sym from) ∙ ap (λ (n : ℕ). drop (f'.count - count_in f'.due) (take n all)) (sym count)));
      }

  pub in_turn_failed : (known : Option (List JobView)) (f f' : FeedView Fault) (fault : Fault) → IsAlong known f → Fails f f' fault → IsInTurn known f'
  in_turn_failed known f f' fault along fails = in_turn_still known f f' along.in_turn fails.count fails.due

  -- a feed that has given nothing yet
  pub along_fresh : (f : FeedView Fault) → IsFreshFeed f → IsAlong f.left f
  along_fresh f fresh =
      let none : count_in f.due ≡ 0 = ap count_in fresh.none_due in
      let given : f.count ≡ 0 = fresh.none_given in
      record {
        in_turn = record {
          within = omega (arith, none);
          numbers = subst (λ (blocks : List (List JobView)). Numbered (f.count - count_in f.due) (all_in blocks)) (sym fresh.none_due) tt;
          jobs = λ all is. ap all_in fresh.none_due
              ∙ (ap (λ (n : ℕ). drop n (take 0 all)) (sym (let z : f.count - count_in f.due ≡ 0 = omega (arith, given) in z))
              ∙ ap (λ (n : ℕ). drop (f.count - count_in f.due) (take n all)) (sym given));
        };
        given = λ all is. omega (arith, given);
        left = λ all is on. is ∙ ap (λ (n : ℕ). Some (drop n all)) (sym given);
      }

  -- a block more was given
  module _ (most : ℕ) (known : Option (List JobView)) (f f' : FeedView Fault) (jobs : List JobView)
      (along : IsAlong known f) (running : f.ended ≡ false) (gives : GivesBlock most f f' jobs) where
    -- what came first of what was left
    pub record CameOf (all : List JobView) : Type 0 where
      pub after : List JobView
      pub is : drop f.count all ≡ jobs ++ after
      pub left : f'.left ≡ Some after

    pub came_of : (all : List JobView) → known ≡ Some all → CameOf all
    came_of all told =
        rest f'.left refl (subst (λ (left : Option (List JobView)). ComeFirst left f'.left jobs) (along.left all told running) gives.left)
      where
        rest : (left : Option (List JobView)) → f'.left ≡ left → ComeFirst (Some (drop f.count all)) left jobs → CameOf all
        rest None is e = absurd e
        rest (Some after) is e = record { after = after; is = e; left = is }

    few : count_in f'.due ≡ count_in f.due + length jobs
    few = ap count_in gives.due ∙ count_in-more f.due jobs

    from : f'.count - count_in f'.due ≡ f.count - count_in f.due
    from = let e = few in let c = gives.count in omega (arith, e, c)

    dues : all_in f'.due ≡ all_in f.due ++ jobs
    dues = ap all_in gives.due ∙ all_in-more f.due jobs

    numbers : Numbered (f'.count - count_in f'.due) (all_in f'.due)
    numbers =
        let w = along.in_turn.within in
        let l = length-all_in f.due in
        let behind : f.count - count_in f.due + length (all_in f.due) ≡ f.count = omega (arith, w, l) in
        subst (λ (xs : List JobView). Numbered (f'.count - count_in f'.due) xs) (sym dues)
        (subst (λ (n : ℕ). Numbered n (all_in f.due ++ jobs)) (sym from)
        (numbered-append (f.count - count_in f.due) (all_in f.due) jobs along.in_turn.numbers
        (subst (λ (n : ℕ). Numbered n jobs) (sym behind) gives.numbers)))

    taken : (all : List JobView) → CameOf all → take f'.count all ≡ take f.count all ++ jobs
    taken all came =
        ap (λ (k : ℕ). take k all) gives.count ∙ (take-add f.count (length jobs) all
        ∙ ap (λ (xs : List JobView). take f.count all ++ xs) (ap (λ (xs : List JobView). take (length jobs) xs) came.is ∙ take_front jobs came.after))

    pub along_more : IsAlong known f'
    along_more = record {
      in_turn = record {
        within = let w = along.in_turn.within in let e = few in let c = gives.count in omega (arith, w, e, c);
        numbers = numbers;
        jobs = λ all is.
            let front : length (take f.count all) ≡ f.count = length-take-le f.count all (along.given all is) in
            dues ∙ (ap (λ (xs : List JobView). xs ++ jobs) (along.in_turn.jobs all is)
            ∙ (sym (drop-append-le (f.count - count_in f.due) (take f.count all) jobs (omega (arith, front)))
            ∙ (ap (λ (xs : List JobView). drop (f.count - count_in f.due) xs) (sym (taken all (came_of all is)))
            ∙ ap (λ (k : ℕ). drop k (take f'.count all)) (sym from))));
      };
      given = λ all is.
          let came = came_of all is in
          let g = along.given all is in
          let some : length (drop f.count all) ≡ length jobs + length came.after =
          ap (λ (xs : List JobView). length xs) came.is ∙ length-append jobs came.after in
          let c = gives.count in
          omega (arith, length-drop f.count all, some, c, g);
      left = λ all is on.
          let came = came_of all is in
          let later : came.after ≡ drop f'.count all =
          sym (drop_front jobs came.after) ∙ (ap (λ (xs : List JobView). drop (length jobs) xs) (sym came.is)
          ∙ (drop-drop (length jobs) f.count all ∙ ap (λ (k : ℕ). drop k all) (sym gives.count))) in
          came.left ∙ ap Some later;
    }

  -- the feed said that no block comes any more
  pub along_end : (known : Option (List JobView)) (f f' : FeedView Fault) → IsAlong known f → EndsBlocks f f' → IsAlong known f'
  along_end known f f' along ends = record {
    in_turn = in_turn_still known f f' along.in_turn ends.count ends.due;
    given = λ all is. let g = along.given all is in let c = ends.count in omega (arith, g, c);
    left = λ all is on. search (ends.ended, on);
  }

  -- the first block is due no more
  in_turn_less : (known : Option (List JobView)) (f f' : FeedView Fault) (due : List (List JobView)) → f.due ≡ due → IsAlong known f
      → f'.due ≡ drop 1 due → f'.count ≡ f.count → IsInTurn known f'
  in_turn_less known f f' [] was along due count = in_turn_still known f f' along.in_turn count (due ∙ sym was)
  in_turn_less known f f' (b ∷ bs) was along due count =
      let w = along.in_turn.within in
      let some : count_in f.due ≡ length b + count_in bs = ap count_in was in
      let less : count_in f'.due ≡ count_in bs = ap count_in due in
      let from : f.count - count_in f.due + length b ≡ f'.count - count_in f'.due = omega (arith, some, less, w, count) in
      let before : all_in f.due ≡ b ++ all_in bs = ap all_in was in
      let behind : drop (length b) (all_in f.due) ≡ all_in bs = ap (λ (xs : List JobView). drop (length b) xs) before ∙ drop_front b (all_in bs) in
      record {
        within = omega (arith, w, some, less, count);
        numbers = subst (λ (blocks : List (List JobView)). Numbered (f'.count - count_in f'.due) (all_in blocks)) (sym due)
            (subst (λ (n : ℕ). Numbered n (all_in bs)) from
            (numbered-behind (f.count - count_in f.due) b (all_in bs)
            (subst (λ (xs : List JobView). Numbered (f.count - count_in f.due) xs) before along.in_turn.numbers)));
        jobs = λ all is. ap all_in due ∙ (sym behind ∙ (ap (λ (xs : List JobView). drop (length b) xs) (along.in_turn.jobs all is)
            ∙ (drop-drop (length b) (f.count - count_in f.due) (take f.count all)
            ∙ (ap (λ (k : ℕ). drop k (take f.count all)) from ∙ ap (λ (k : ℕ). drop (f'.count - count_in f'.due) (take k all)) (sym count)))));
      }

  pub along_less : (known : Option (List JobView)) (f f' : FeedView Fault) → IsAlong known f → TakesBlock f f' → IsAlong known f'
  along_less known f f' along takes = record {
    in_turn = in_turn_less known f f' f.due refl along takes.due takes.count;
    given = λ all is. let g = along.given all is in let c = takes.count in omega (arith, g, c);
    left = λ all is on. takes.left ∙ (along.left all is (sym takes.ended ∙ on) ∙ ap (λ (k : ℕ). Some (drop k all)) (sym takes.count));
  }
