-- A format of files: fields one after another, where the next field depends on the fields before it.
use Rattle.std.specs.Prelude.{ℕ, ◌-◌, List}
use Rattle.ht_io.specs.declared.faults.Kind.{Kind}

-- what is said of a field once it is whole: the state behind it and the items that it completes, or what is wrong with it
pub data Verdict (S I : Type 0) : Type 0 where
  Good : S → List I → Verdict S I
  Bad : Kind → Verdict S I

-- what is due in a state: the end of the file, or a field, by the number of its octets beyond the first and the judge of its octets
pub data Due (S I : Type 0) : Type 0 where
  End : Due S I
  Wants : ℕ → (List ℕ → Verdict S I) → Due S I

-- a field of this number of octets, which is at least one
abbrev pub field : {S I : Type 0} → ℕ → (List ℕ → Verdict S I) → Due S I
field width judge = Wants (width - 1) judge

-- a format: the state before the first octet, and what is due in each state
pub record Grammar (S I : Type 0) : Type 0 where
  pub start : S
  pub due : S → Due S I
