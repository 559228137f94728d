-- The four cases of a text: a file; whole good fields and then fewer octets than the next one has; a file and more; or good
-- fields and then a bad one.
use Rattle.std.specs.Prelude.{◌≡◌, ℕ, ◌+◌, ◌<◌, List, [], ◌∷◌, ◌++◌, length}
use Rattle.ht_io.specs.declared.faults.Kind.{Kind}
use Rattle.ht_fields.specs.Grammar.{Grammar, Due, End, Wants, Verdict, Good, Bad}

-- the end of the file is due
abbrev pub IsEnd : {S I : Type 0} → Due S I → Type 0
IsEnd End = Unit {0}
IsEnd (Wants beyond judge) = ⊥

-- the octets are the field that is due, whole, and this is said of it
abbrev pub IsField : {S I : Type 0} → Due S I → List ℕ → Verdict S I → Type 0
IsField End octets verdict = ⊥
IsField (Wants beyond judge) octets verdict = (length octets ≡ beyond + 1) × (judge octets ≡ verdict)

-- a field is due, and the octets are fewer than it has
abbrev pub IsShort : {S I : Type 0} → Due S I → List ℕ → Type 0
IsShort End octets = ⊥
IsShort (Wants beyond judge) octets = length octets < beyond + 1

-- the octets of fields, one after another
abbrev pub octets_of_fields : List (List ℕ) → List ℕ
octets_of_fields [] = []
octets_of_fields (x ∷ xs) = x ++ octets_of_fields xs

-- good fields lead from one state to another, and give these items
abbrev pub Leads : {S I : Type 0} → Grammar S I → S → List (List ℕ) → List I → S → Type 0
Leads f s [] items t = (items ≡ []) × (s ≡ t)
Leads f s (x ∷ xs) items t =
    (next : _) × (here : List _) × (later : List _)
    × IsField (f.due s) x (Good next here) × Leads f next xs later t × (items ≡ here ++ later)

-- the octets up to the offset are good fields that give these items, and then this state and the rest of the octets are left
pub record Reaches {S I : Type 0} (f : Grammar S I) (octets : List ℕ) (items : List I) (offset : ℕ) (state : S) (rest : List ℕ) : Type 0 where
  pub fields : List (List ℕ)
  pub good : Leads f f.start fields items state
  pub split : octets ≡ octets_of_fields fields ++ rest
  pub length_is : offset ≡ length (octets_of_fields fields)

-- the octets are a file with these items
abbrev pub IsFile : {S I : Type 0} → Grammar S I → List ℕ → List I → Type 0
IsFile f octets items = (offset : ℕ) × (state : _) × Reaches f octets items offset state [] × IsEnd (f.due state)

-- the octets are good fields with these items, and then fewer octets than the next field has
abbrev pub IsClean : {S I : Type 0} → Grammar S I → List ℕ → List I → Type 0
IsClean f octets items =
    (offset : ℕ) × (state : _) × (rest : List ℕ) × Reaches f octets items offset state rest × IsShort (f.due state) rest

-- the octets up to the offset are a file with these items, and at least one octet follows
abbrev pub HasTrailing : {S I : Type 0} → Grammar S I → List ℕ → List I → ℕ → Type 0
HasTrailing f octets items offset =
    (state : _) × (first : ℕ) × (rest : List ℕ) × Reaches f octets items offset state (first ∷ rest) × IsEnd (f.due state)

-- the octets up to the offset are good fields with these items, and the field that follows is whole and bad
abbrev pub HasFault : {S I : Type 0} → Grammar S I → List ℕ → List I → Kind → ℕ → Type 0
HasFault f octets items kind offset =
    (state : _) × (bad : List ℕ) × (rest : List ℕ)
    × Reaches f octets items offset state (bad ++ rest) × IsField (f.due state) bad (Bad kind)

-- the cases by name
pub data Case : Type 0 where
  File : Case
  Clean : Case
  Longer : ℕ → Case
  Faulty : Kind → ℕ → Case

-- the octets meet the case, with these items before its end or its fault
abbrev pub Meets : {S I : Type 0} → Grammar S I → List ℕ → List I → Case → Type 0
Meets f octets items File = IsFile f octets items
Meets f octets items Clean = IsClean f octets items
Meets f octets items (Longer offset) = HasTrailing f octets items offset
Meets f octets items (Faulty kind offset) = HasFault f octets items kind offset

-- for some file and some field of it, the octets are the fields before that one and then fewer octets than it has
abbrev pub IsCut : {S I : Type 0} → Grammar S I → List ℕ → Type 0
IsCut f octets =
    (fields : List (List ℕ)) × (cut : List ℕ) × (behind : List (List ℕ)) × (items : List _) × (state : _) × (rest : List ℕ)
    × Leads f f.start (fields ++ cut ∷ behind) items state × IsEnd (f.due state)
    × (octets ≡ octets_of_fields fields ++ rest) × (length rest < length cut)

-- wherever good fields lead, more good fields lead to the end of a file
abbrev pub CanEnd : {S I : Type 0} → Grammar S I → Type 0
CanEnd f =
    (fields : List (List ℕ)) (items : List _) (state : _) → Leads f f.start fields items state
    → (more : List (List ℕ)) × (later : List _) × (last : _) × Leads f state more later last × IsEnd (f.due last)
