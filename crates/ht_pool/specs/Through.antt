-- What went through a deque whose threads have ended.
use Rattle.std.specs.Prelude.{List, [], ◌∷◌}
use Rattle.crossbeam_deque.specs.Handles.{worker_view}
use Rattle.ht_pool.specs.PassLogs.{pass_log}
use Rattle.ht_pool.specs.declared.pass_log.PassLog.{PassLog}
use Rattle.ht_pool.specs.declared.ends.Ends.{Ends}

-- what went through a deque that is done with
abbrev pub through : {T : Type 0} → Ends T → PassLog T
through e = worker_view e.owner

-- the first of these hands
abbrev pub first_of : {T : Type 0} → List (PassLog T) → PassLog T
first_of [] = pass_log 0 [] []
first_of (v ∷ vs) = v
