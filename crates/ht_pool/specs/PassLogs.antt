-- Tasks and answers counted with repeats, and the rule by which a deque or a queue keeps count.
use Rattle.std.specs.Prelude.{◌≡◌, ◌+◌, ◌++◌, ℕ, List, []}
use Rattle.std.specs.List.{sum_by}
use mathlib.Core.Option.{some}
use lib.ListN.{get_elem?}
use Rattle.ht_pool.specs.declared.pass_log.PassLog.{PassLog}

module _ {T : Type 0} where
  abbrev pub pass_log : ℕ → List T → List T → PassLog T
  pass_log parts pushed taken = record { parts = parts; pushed = pushed; taken = taken }

  -- two passes that became one
  abbrev pub joined : PassLog T → PassLog T → PassLog T
  joined v w = pass_log (v.parts + w.parts) (v.pushed ++ w.pushed) (v.taken ++ w.taken)

  -- what was pushed is what was taken and what is held
  abbrev pub AddsUp : PassLog T → List T → Type 0
  AddsUp v held = (h : T → ℕ) → sum_by h v.pushed ≡ sum_by h v.taken + sum_by h held

  -- a pass without a part has pushed and taken nothing
  abbrev pub IdleIsEmpty : List (PassLog T) → Type 0
  IdleIsEmpty logs = (port : ℕ) (v : PassLog T) → get_elem? logs port ≡ some v → v.parts ≡ 0 → (v.pushed ≡ []) × (v.taken ≡ [])

  -- the rule, for what is held and for all passes
  pub record IsCounted (held : List T) (logs : List (PassLog T)) : Type 0 where
    -- the passes share the 1024 parts
    pub parts : sum_by (λ (v : PassLog T). v.parts) logs ≡ 1024
    -- what was pushed is what was taken and what is held
    pub counts : (h : T → ℕ) → sum_by (λ (v : PassLog T). sum_by h v.pushed) logs ≡ sum_by (λ (v : PassLog T). sum_by h v.taken) logs + sum_by h held
    pub idle : IdleIsEmpty logs
