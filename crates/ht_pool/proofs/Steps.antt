-- Each step of a pass keeps the rule.
use Rattle.std.proofs.Common.{◌≡◌, ℕ, ◌-◌, ◌<◌, List, [], ◌∷◌, ◌++◌, refl, arith}
use Rattle.crossbeam_deque.specs.Tasks.{Pushes, Takes, Forks, Merges, Learns}
use Rattle.crossbeam_queue.specs.Fifo as fifo
use Rattle.ht_pool.specs.PassLogs.{pass_log, joined, IsCounted, AddsUp}
use Rattle.ht_pool.specs.declared.pass_log.PassLog.{PassLog}
use Rattle.ht_pool.proofs.Counting.{counted-push, counted-take, counted-fork, counted-merge, counted-whole}

module _ {T : Type 0} where
  pub pushes : (port : ℕ) (v : PassLog T) (xs : List T) → 0 < v.parts → Pushes IsCounted port v xs (λ w. w ≡ pass_log v.parts (v.pushed ++ xs) v.taken)
  pushes port v xs part items logs b at = (pass_log v.parts (v.pushed ++ xs) v.taken, counted-push logs port v at items xs b part, refl)

  pub takes : (port : ℕ) (v : PassLog T) → 0 < v.parts → Takes IsCounted port v 1 (λ xs w. w ≡ pass_log v.parts v.pushed (v.taken ++ xs))
  takes port v part xs items logs _ _ b at = (pass_log v.parts v.pushed (v.taken ++ xs), counted-take logs port v at items xs b part, refl)

  pub forks : (port : ℕ) (v : PassLog T) → 1 < v.parts → Forks IsCounted port v (pass_log (v.parts - 1) v.pushed v.taken) (pass_log 1 [] [])
  forks port v part items logs b at = counted-fork logs port v at items (pass_log (v.parts - 1) v.pushed v.taken) (pass_log 1 [] []) b (omega arith)
      (omega arith) (omega arith) refl refl refl refl

  pub merges : (port : ℕ) (v : PassLog T) (other : ℕ) (u : PassLog T) → 0 < v.parts → Merges IsCounted port v other u (joined v u) (pass_log 0 [] [])
  merges port v other u part items logs b at two at' = counted-merge logs port v at items other u b at' part

  pub learns : (port : ℕ) (v : PassLog T) → v.parts ≡ 1024 → Learns IsCounted port v (AddsUp v)
  learns port v all items logs b at = counted-whole logs port v at items b all

  pub queue_pushes : (n port : ℕ) (v : PassLog T) (x : T) → 0 < v.parts → fifo.Pushes IsCounted n port v x
      (λ w. w ≡ pass_log v.parts (v.pushed ++ x ∷ []) v.taken)
  queue_pushes n port v x part items logs _ b at = (pass_log v.parts (v.pushed ++ x ∷ []) v.taken, counted-push logs port v at items (x ∷ []) b part, refl)

  pub queue_takes : (port : ℕ) (v : PassLog T) → 0 < v.parts → fifo.Pops IsCounted port v (λ x w. w ≡ pass_log v.parts v.pushed (v.taken ++ x ∷ []))
  queue_takes port v part x items logs b at = (pass_log v.parts v.pushed (v.taken ++ x ∷ []), counted-take logs port v at items (x ∷ []) b part, refl)

  pub queue_forks : (port : ℕ) (v : PassLog T) → 1 < v.parts → fifo.Forks IsCounted port v (pass_log (v.parts - 1) v.pushed v.taken) (pass_log 1 [] [])
  queue_forks port v part items logs b at = forks port v part items logs b at

  pub queue_merges : (port : ℕ) (v : PassLog T) (other : ℕ) (u : PassLog T) → 0 < v.parts → fifo.Merges IsCounted port v other u (joined v u) (pass_log 0 [] [])
  queue_merges port v other u part items logs b at two at' = merges port v other u part items logs b at two at'

  pub queue_learns : (port : ℕ) (v : PassLog T) → v.parts ≡ 1024 → fifo.Learns IsCounted port v (AddsUp v)
  queue_learns port v all items logs b at = counted-whole logs port v at items b all
