-- What holds of the files of a format, and of the files that are written of values.
use Rattle.std.specs.Prelude.{◌≡◌, ℕ, List, [], ◌++◌}
use Rattle.ht_fields.specs.Grammar.{Grammar}
use Rattle.ht_fields.specs.Cases.{CanEnd, IsClean, IsCut, IsFile}
use Rattle.ht_fields.specs.Tests.{AreBytes}

-- no file is a prefix of another, and equal files have equal items
pub record IsPrefixFree {S I : Type 0} (f : Grammar S I) : Type 0 where
  pub prefix : (octets more : List ℕ) (items others : List I) → IsFile f octets items → IsFile f (octets ++ more) others → more ≡ []
  pub equal : (octets : List ℕ) (items others : List I) → IsFile f octets items → IsFile f octets others → items ≡ others

-- good fields, wherever they lead, are followed by more good fields up to the end of some file, and octets are clean exactly
-- where they are the first whole fields of some file, and then fewer octets than its next field has
pub record CleanCanEnd {S I : Type 0} (f : Grammar S I) : Type 0 where
  pub ends : CanEnd f
  pub clean : (octets : List ℕ) (items : List I) → IsClean f octets items → IsCut f octets
  pub cut : (octets : List ℕ) → IsCut f octets → (items : List I) × IsClean f octets items

-- what is written of values is a file, and has these items
abbrev pub WritesFiles : {S I : Type 0} → Grammar S I → (List I → Type 0) → (List I → List ℕ) → Type 0
WritesFiles f are file = (values : List _) → are values → IsFile f (file values) values

-- values of which the same file is written are the same
abbrev pub ReadsBack : {V : Type 0} → (List V → Type 0) → (List V → List ℕ) → Type 0
ReadsBack are file = (values others : List _) → are values → are others → file values ≡ file others → values ≡ others

-- Files give back what was written: no file is a prefix of another, and equal files have equal items; the file written of
-- values is a file with these items; and values of which the same file is written are the same.
pub record AreFiles {S I : Type 0} (f : Grammar S I) (are : List I → Type 0) (file : List I → List ℕ) : Type 0 where
  pub no_prefix : IsPrefixFree f
  pub written : WritesFiles f are file
  pub read_back : ReadsBack are file

-- each file, a list of octets, is the one that is written of its items, and these are such that it can be written of them
pub record WritesEach {S I : Type 0} (f : Grammar S I) (are : List I → Type 0) (file : List I → List ℕ) : Type 0 where
  pub fit : (octets : List ℕ) (items : List I) → AreBytes octets → IsFile f octets items → are items
  pub written : (octets : List ℕ) (items : List I) → AreBytes octets → IsFile f octets items → octets ≡ file items
