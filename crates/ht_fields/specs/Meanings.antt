-- What octets mean in a format: the items that they give, and the first fault, if there is one.
use Rattle.std.specs.Prelude.{ℕ, zero, suc, ◌+◌, List, [], ◌∷◌, ◌++◌, Option, Some, None}
use Rattle.ht_io.specs.declared.faults.Kind.{Kind}
use Rattle.ht_io.specs.declared.faults.Kind.TheVariants.{Truncated, Trailing}
use Rattle.ht_io.specs.declared.faults.FormatFault.{FormatFault}
use Rattle.ht_fields.specs.Grammar.{Grammar, Due, End, Wants, Verdict, Good, Bad}
use Rattle.ht_fields.specs.Cases.{Case, File, Clean, Longer, Faulty}

pub record Meaning (I : Type 0) : Type 0 where
  pub items : List I
  pub fault : Option FormatFault

-- these items, and then what the rest means
abbrev pub before : {I : Type 0} → List I → Meaning I → Meaning I
before items rest = record { items = items ++ rest.items; fault = rest.fault }

-- nothing more, and no fault
abbrev pub ended : {I : Type 0} → Meaning I
ended = record { items = []; fault = None }

-- nothing more, and this fault
abbrev pub refused : {I : Type 0} → Kind → ℕ → Meaning I
refused kind offset = record { items = []; fault = Some (record { kind = kind; offset = offset }) }

-- these items, and then the octets end within a field, at this offset
abbrev pub cut_off : {I : Type 0} → List I → ℕ → Meaning I
cut_off items offset = record { items = items; fault = Some (record { kind = Truncated; offset = offset }) }

-- what a verdict means: the items, and then what the rest means in the next state, or a fault at the field's first octet
abbrev pub judged : {S I : Type 0} → Verdict S I → ℕ → (S → Meaning I) → Meaning I
judged (Good next items) began rest = before items (rest next)
judged (Bad kind) began rest = refused kind began

-- What the octets mean where this is due. The field that is due began at one offset, and the octets begin at the
-- other: behind its first octet a field is one octet narrower, and is judged with that octet in front.
unfoldable pub meaning_of : {S I : Type 0} → Grammar S I → Due S I → ℕ → ℕ → List ℕ → Meaning I
meaning_of f End began at [] = ended
meaning_of f End began at (x ∷ xs) = refused Trailing at
meaning_of f (Wants beyond judge) began at [] = refused Truncated at
meaning_of f (Wants (suc beyond) judge) began at (x ∷ xs) = meaning_of f (Wants beyond (λ rest. judge (x ∷ rest))) began (at + 1) xs
meaning_of f (Wants zero judge) began at (x ∷ xs) = judged (judge (x ∷ [])) began (λ next. meaning_of f (f.due next) (at + 1) (at + 1) xs)

-- what the octets mean that are left in a state, at an offset in their text
unfoldable pub meaning : {S I : Type 0} → Grammar S I → S → ℕ → List ℕ → Meaning I
meaning f state at octets = meaning_of f (f.due state) at at octets

-- the fault of a case, in a text of this length
abbrev pub fault_of : ℕ → Case → Option FormatFault
fault_of total File = None
fault_of total Clean = Some (record { kind = Truncated; offset = total })
fault_of total (Longer offset) = Some (record { kind = Trailing; offset = offset })
fault_of total (Faulty kind offset) = Some (record { kind = kind; offset = offset })
