use Rattle.std.proofs.Common.{◌≡◌, ◌≤◌, length, take, vec_len, vec_capacity}
use Rattle.std.specs.List.{All}
use Rattle.ht_capture.specs.Parts.{IsTemplate, presents_of}
use Rattle.ht_capture.proofs.shape.templates.Given as goal

-- the first subcarriers have their templates
abbrev pub invariant-loop-at : goal.invariant-loop-at
invariant-loop-at l = record {
  count : vec_len l.templates ≡ l.at;
  room : length l.present ≤ vec_capacity l.templates;
  present : presents_of l.templates.items ≡ take l.at l.present;
  each : All (IsTemplate l.head) l.templates.items;
}
