use Rattle.std.proofs.Common.{◌≡◌, ◌+◌, ◌*◌, ◌≤◌, ◌++◌, drop, string_bytes, string_len, string_capacity}
use Rattle.ht_text.specs.Lines.{hex}
use Rattle.ht_text.proofs.frame.push_hex.Given as goal

-- the text, and the octets that are left, for which there is room
abbrev pub invariant-loop-octet : goal.invariant-loop-octet
invariant-loop-octet l = record {
  text : string_bytes l.text ++ hex (drop l.octet-index l.octets) ≡ string_bytes l.fn.text ++ hex l.octets;
  room : string_len l.text + string_capacity l.fn.text ≤ string_len l.fn.text + 2 * l.octet-index + string_capacity l.text;
}
