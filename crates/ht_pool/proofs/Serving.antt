-- One more task of a worker is run.
use Rattle.std.proofs.Common.{◌≡◌, List, [], ◌∷◌, ◌++◌, map, Some, None, ap, ◌∙◌, arith}
use Rattle.std.specs.List.{sum_by}
use Rattle.std.proofs.lemmas.List.{map-append}
use Rattle.std.proofs.lemmas.List.Sums.{sum_by-append}
use Rattle.ht_pool.specs.Members.{Balances}
use Rattle.ht_pool.specs.Takers.{TakerView, OwnView, taken_at, Gets}

module _ {T A : Type 0} (asked : A → T) where
  -- a task was taken and run
  pub balances-ran : (ss ss' : List (TakerView T)) (o o' : OwnView T) (some more : List A) (task : T) (answer : A) → Gets ss o ss' o' (Some task)
      → asked answer ≡ task → more ≡ some ++ answer ∷ [] → Balances asked ss o some → Balances asked ss' o' more
  balances-ran ss ss' o o' some more task answer gets of pushed was h =
      let asks : map asked more ≡ map asked some ++ asked answer ∷ [] = ap (map asked) pushed ∙ map-append asked some (answer ∷ []) in
      omega (
        arith,
        gets.got h,
        was h,
        ap (sum_by h) asks,
        ap (λ x. sum_by h (x ∷ [])) of,
        sum_by-append h (map asked some) (asked answer ∷ []),
        sum_by-append h o.taken (taken_at ss),
        sum_by-append h o'.taken (taken_at ss'),
        sum_by-append h o.pushed (map asked some),
        sum_by-append h o'.pushed (map asked more),
      )

  -- no task was found
  pub balances-still : (ss ss' : List (TakerView T)) (o o' : OwnView T) (some : List A) → Gets ss o ss' o' None → Balances asked ss o some
      → Balances asked ss' o' some
  balances-still ss ss' o o' some gets was h = omega (
    arith,
    gets.got h,
    was h,
    sum_by-append h o.taken (taken_at ss),
    sum_by-append h o'.taken (taken_at ss'),
    sum_by-append h o.pushed (map asked some),
    sum_by-append h o'.pushed (map asked some),
  )
