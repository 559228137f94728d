-- Files that count their entries: a magic, the version 1, the count, the entries one after another, and nothing more.
use Rattle.std.specs.Prelude.{◌≡◌, ℕ, ◌+◌, ◌-◌, ◌*◌, ◌^◌, ◌<◌, ◌≤◌, List, [], ◌∷◌, ◌++◌, length, flat_map, All, nat_eq, if◌then◌else◌}
use Rattle.ht_io.specs.declared.faults.Kind.TheVariants.{BadLength, Truncated, Trailing}
use Rattle.ht_fields.specs.Cases.{Leads, octets_of_fields}
use Rattle.ht_fields.specs.Grammar.{Grammar, Due}
use Rattle.ht_heads.specs.declared.starting.Limits.{Limits}
use Rattle.ht_heads.specs.Starts.{StartState, StartedFormat, Body, Over, started, started_octets}

-- any number of two octets of frames
abbrev pub frame_limits : Limits
frame_limits = record { width = 2; least = 0; most = 65535; kind = BadLength }

-- a format: its magic, how it counts its entries, the first field of an entry by the number of entries that are left, this
-- one among them, and what is due in each state within an entry
pub record CountedFormat (B I : Type 0) : Type 0 where
  pub magic : List ℕ
  pub limits : Limits
  pub first : ℕ → B
  pub due : B → Due (StartState B) I

-- where entries are left, the next one begins; else the file ends
unfoldable pub entries_due : {B : Type 0} → (ℕ → B) → ℕ → StartState B
entries_due first left = if nat_eq left 0 then Over else Body (first left)

-- the format as one that begins with a magic, the version and a count
abbrev pub counted_format : {B I : Type 0} → CountedFormat B I → StartedFormat B I
counted_format h = record { magic = h.magic; limits = h.limits; first = entries_due h.first; due = h.due }

-- the format as a grammar
abbrev pub counted : {B I : Type 0} → CountedFormat B I → Grammar (StartState B) I
counted h = started (counted_format h)

-- the file of entries
abbrev pub counted_octets : {V : Type 0} → List ℕ → ℕ → (V → List ℕ) → List V → List ℕ
counted_octets magic width octets entries = started_octets magic width (length entries) ++ flat_map octets entries

-- entries of which a file can be written: as many as it may count, each of them fit
pub record AreCounted {V : Type 0} (limits : Limits) (Fits : V → Type 0) (entries : List V) : Type 0 where
  pub some : limits.least ≤ length entries
  pub few : length entries ≤ limits.most
  pub fit : All Fits entries

-- a count of one to eight octets, each of whose values up to the greatest can be written, and whose fault is one of its own
pub record IsCount (limits : Limits) : Type 0 where
  pub some : 1 ≤ limits.width
  pub few : limits.width ≤ 8
  pub range : limits.least ≤ limits.most
  pub small : limits.most < 256 ^ limits.width
  pub named : (limits.kind ≡ Truncated → ⊥) × (limits.kind ≡ Trailing → ⊥)

-- the octets are good fields that lead from one state to another, and give these items
abbrev pub LeadsBy : {S I : Type 0} → Grammar S I → S → S → List ℕ → List I → Type 0
LeadsBy f s t octets items = (fields : List (List ℕ)) × Leads f s fields items t × (octets ≡ octets_of_fields fields)

-- the octets of each fit entry lead to the next one and give it, and no file is too long for offsets of 64 bits
pub record IsCounted {B V : Type 0} (h : CountedFormat B V) (octets : V → List ℕ) (Fits : V → Type 0) (most : ℕ) : Type 0 where
  pub count : IsCount h.limits
  pub leads : (left : ℕ) (v : V) → 0 < left → Fits v
      → LeadsBy (counted h) (entries_due h.first left) (entries_due h.first (left - 1)) (octets v) (v ∷ [])
  pub short : (v : V) → Fits v → length (octets v) ≤ most
  pub bound : 13 + h.limits.most * most < 2 ^ 64
