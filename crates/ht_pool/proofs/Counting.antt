-- What keeps the rule of a deque and of a queue.
use Rattle.std.proofs.Common.{◌≡◌, ◌≢◌, ℕ, ◌+◌, ◌<◌, List, [], ◌∷◌, ◌++◌, set, sym, ap, ◌∙◌, refl, ⊎_elim, arith}
use Rattle.std.specs.List.{sum_by}
use Rattle.std.proofs.lemmas.List.Sums.{sum_by-append, sum_by_push}
use mathlib.Core.Option.{some}
use lib.ListN.{get_elem?}
use Rattle.crossbeam_deque.proofs.Lists.{at_set, at_snoc}
use Rattle.ht_pool.specs.PassLogs.{pass_log, joined, IdleIsEmpty, IsCounted, AddsUp}
use Rattle.ht_pool.specs.declared.pass_log.PassLog.{PassLog}
use Rattle.ht_pool.proofs.Sums.{sum_by-set_at, sum_by-whole}

module _ {T : Type 0} where
  abbrev parts : PassLog T → ℕ
  parts v = v.parts

  abbrev pushed : (T → ℕ) → PassLog T → ℕ
  pushed h v = sum_by h v.pushed

  abbrev taken : (T → ℕ) → PassLog T → ℕ
  taken h v = sum_by h v.taken

  abbrev IsIdle : PassLog T → Type 0
  IsIdle w = w.parts ≡ 0 → (w.pushed ≡ []) × (w.taken ≡ [])

  moved : (v w : PassLog T) → v ≡ w → IsIdle v → IsIdle w
  moved v w same mine none = let m = mine (ap parts same ∙ none) in (
    ap (λ (x : PassLog T). x.pushed) (sym same) ∙ m.0,
    ap (λ (x : PassLog T). x.taken) (sym same) ∙ m.1,
  )

  idle-set : (logs : List (PassLog T)) (port : ℕ) (w : PassLog T) → IsIdle w → IdleIsEmpty logs → IdleIsEmpty (set logs port w)
  idle-set logs port w mine others j u e none = ⊎_elim
      (λ (x : (j ≡ port) × (w ≡ u)). moved w u x.1 mine none)
      (λ (x : (j ≢ port) × (get_elem? logs j ≡ some u)). others j u x.1 none)
      (at_set logs port j w u e)

  idle-snoc : (logs : List (PassLog T)) (w : PassLog T) → IsIdle w → IdleIsEmpty logs → IdleIsEmpty (logs ++ w ∷ [])
  idle-snoc logs w mine others j u e none = ⊎_elim
      (λ (x : get_elem? logs j ≡ some u). others j u x none)
      (λ (is : w ≡ u). moved w u is mine none)
      (at_snoc logs w u j e)

  module _ (logs : List (PassLog T)) (port : ℕ) (v : PassLog T) (at : get_elem? logs port ≡ some v) where
    -- a pass that has a part has pushed or taken other items
    counted-other : (items after : List T) (w : PassLog T) → IsCounted items logs → 0 < v.parts → w.parts ≡ v.parts
        → ((h : T → ℕ) → sum_by h w.pushed + sum_by h v.taken + sum_by h items ≡ sum_by h v.pushed + sum_by h w.taken + sum_by h after)
        → IsCounted after (set logs port w)
    counted-other items after w b some_part same both = record {
      parts = omega (arith, sum_by-set_at parts logs port v w at, b.parts);
      counts = λ h. omega (arith, sum_by-set_at (pushed h) logs port v w at, sum_by-set_at (taken h) logs port v w at, b.counts h, both h);
      idle = idle-set logs port w (λ none. absurd (omega arith)) b.idle;
    }

    pub counted-push : (items xs : List T) → IsCounted items logs → 0 < v.parts → IsCounted (items ++ xs) (set logs port (pass_log v.parts
        (v.pushed ++ xs) v.taken))
    counted-push items xs b some_part =
        counted-other items (items ++ xs) (pass_log v.parts (v.pushed ++ xs) v.taken) b some_part refl
        (λ h. omega (arith, sum_by-append h v.pushed xs, sum_by-append h items xs))

    pub counted-take : (items xs : List T) → IsCounted (xs ++ items) logs → 0 < v.parts → IsCounted items (set logs port (pass_log v.parts v.pushed
        (v.taken ++ xs)))
    counted-take items xs b some_part =
        counted-other (xs ++ items) items (pass_log v.parts v.pushed (v.taken ++ xs)) b some_part refl
        (λ h. omega (arith, sum_by-append h v.taken xs, sum_by-append h xs items))

    -- a new pass takes a part, and has pushed and taken nothing
    pub counted-fork : (items : List T) (left right : PassLog T) → IsCounted items logs → 0 < left.parts → 0 < right.parts → left.parts + right.parts ≡ v.parts
        → left.pushed ≡ v.pushed → left.taken ≡ v.taken → right.pushed ≡ [] → right.taken ≡ [] → IsCounted items (set logs port left ++ right ∷ [])
    counted-fork items left right b some_left some_right sum pl tl pr tr = let after = set logs port left in record {
      parts = omega (arith, sum_by-set_at parts logs port v left at, sum_by_push parts after right, b.parts);
      counts = λ h. omega (
        arith,
        sum_by-set_at (pushed h) logs port v left at,
        sum_by-set_at (taken h) logs port v left at,
        b.counts h,
        sum_by_push (pushed h) after right,
        sum_by_push (taken h) after right,
        ap (sum_by h) pl,
        ap (sum_by h) tl,
        ap (sum_by h) pr,
        ap (sum_by h) tr,
      );
      idle = idle-snoc after right (λ none. absurd (omega arith)) (idle-set logs port left (λ none. absurd (omega arith)) b.idle);
    }

    -- a pass takes in another, which then has no part
    pub counted-merge : (items : List T) (other : ℕ) (u : PassLog T) → IsCounted items logs → get_elem? (set logs port (joined v u)) other ≡ some u
        → 0 < v.parts
        → IsCounted items (set (set logs port (joined v u)) other (pass_log 0 [] []))
    counted-merge items other u b at' some_part = let w = joined v u in let after = set logs port w in let spent : PassLog T = pass_log 0 [] [] in record {
      parts = omega (arith, sum_by-set_at parts logs port v w at, sum_by-set_at parts after other u spent at', b.parts);
      counts = λ h. omega (
        arith,
        sum_by-set_at (pushed h) logs port v w at,
        sum_by-set_at (taken h) logs port v w at,
        sum_by-set_at (pushed h) after other u spent at',
        sum_by-set_at (taken h) after other u spent at',
        b.counts h,
        sum_by-append h v.pushed u.pushed,
        sum_by-append h v.taken u.taken,
      );
      idle = idle-set after other spent (λ _. (refl, refl)) (idle-set logs port w (λ none. absurd (omega arith)) b.idle);
    }

    -- who has every part knows the whole
    pub counted-whole : (items : List T) → IsCounted items logs → v.parts ≡ 1024 → AddsUp v items
    counted-whole items b all h =
        let whole : sum_by parts logs ≡ parts v = b.parts ∙ sym all in
        let p = sum_by-whole parts (pushed h) logs port v at whole (λ j u e none. ap (sum_by h) (b.idle j u e none).0) in
        let t = sum_by-whole parts (taken h) logs port v at whole (λ j u e none. ap (sum_by h) (b.idle j u e none).1) in
        sym p ∙ b.counts h ∙ ap (λ n. n + sum_by h items) t
