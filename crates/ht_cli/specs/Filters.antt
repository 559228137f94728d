-- Commands that read a format: those that write while they read, and those that write once they have read.
use Rattle.std.specs.Prelude.{List, ℕ}
use Rattle.ht_fields.specs.Grammar.{Grammar}
use Rattle.ht_runs.specs.Filters.{BeforeOutput}
use Rattle.ht_runs.specs.Formats.{conversion, filter}
use Rattle.ht_cli.specs.Commands.{Command, Converts, Reads}

-- It reads a file of the format and writes lines while it reads: of octets whose end isn't known these lines, which are
-- a front of their text.
abbrev pub streaming : {S I : Type 0} → Grammar S I → (List ℕ → List ℕ) → (List ℕ → List ℕ) → Command
streaming f text lines = Reads (filter f text lines)

-- it reads a file of the format to its end or its first fault, and only then writes, for which it takes no more memory
abbrev pub whole : {S I : Type 0} → Grammar S I → (List ℕ → List ℕ → Type 0) → Command
whole f comes_to = Converts (conversion f BeforeOutput comes_to)
