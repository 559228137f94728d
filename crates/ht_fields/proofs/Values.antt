-- A small format, by computation: the octet 77, a count of at most 3, and this many records of two octets, the first below 4.
use Rattle.std.specs.Prelude.{◌≡◌, ℕ, zero, suc, List, [], ◌∷◌, Some, None, if◌then◌else◌, nat_eq, nat_lt, slice_index, refl}
use Rattle.ht_io.specs.declared.faults.Kind.TheVariants.{BadMagic, BadCount, BadMark, Truncated, Trailing}
use Rattle.ht_fields.specs.Grammar.{Grammar, Due, End, Good, Bad, field}
use Rattle.ht_fields.specs.Meanings.{Meaning, meaning, meaning_of}

data State : Type 0 where
  Magic : State
  Count : State
  Records : ℕ → State

-- an item is the octets of a record
due : State → Due State (List ℕ)
due Magic = field 1 (λ x. if nat_eq (slice_index x 0) 77 then Good Count [] else Bad BadMagic)
due Count = field 1 (λ x. if nat_lt (slice_index x 0) 4 then Good (Records (slice_index x 0)) [] else Bad BadCount)
due (Records zero) = End
due (Records (suc n)) = field 2 (λ x. if nat_lt (slice_index x 0) 4 then Good (Records n) (x ∷ []) else Bad BadMark)

toy : Grammar State (List ℕ)
toy = record { start = Magic; due = due }

means : List ℕ → Meaning (List ℕ)
unfolding toy
means octets = meaning toy Magic 0 octets

a_file : means (77 ∷ 2 ∷ 1 ∷ 9 ∷ 3 ∷ 8 ∷ []) ≡ record { items = (1 ∷ 9 ∷ []) ∷ (3 ∷ 8 ∷ []) ∷ []; fault = None }
unfolding due toy means meaning meaning_of
a_file = refl

no_record : means (77 ∷ 0 ∷ []) ≡ record { items = []; fault = None }
unfolding due toy means meaning meaning_of
no_record = refl

no_octet : means [] ≡ record { items = []; fault = Some (record { kind = Truncated; offset = 0 }) }
unfolding due toy means meaning meaning_of
no_octet = refl

-- the second record lacks its second octet
cut_short : means (77 ∷ 2 ∷ 1 ∷ 9 ∷ 3 ∷ []) ≡ record { items = (1 ∷ 9 ∷ []) ∷ []; fault = Some (record { kind = Truncated; offset = 5 }) }
unfolding due toy means meaning meaning_of
cut_short = refl

one_more : means (77 ∷ 1 ∷ 1 ∷ 9 ∷ 5 ∷ 6 ∷ []) ≡ record { items = (1 ∷ 9 ∷ []) ∷ []; fault = Some (record { kind = Trailing; offset = 4 }) }
unfolding due toy means meaning meaning_of
one_more = refl

wrong_magic : means (76 ∷ 2 ∷ []) ≡ record { items = []; fault = Some (record { kind = BadMagic; offset = 0 }) }
unfolding due toy means meaning meaning_of
wrong_magic = refl

-- the second record is bad, at its first octet, and what follows it is not looked at
bad_record : means (77 ∷ 3 ∷ 1 ∷ 9 ∷ 4 ∷ 8 ∷ 0 ∷ []) ≡ record { items = (1 ∷ 9 ∷ []) ∷ []; fault = Some (record { kind = BadMark; offset = 4 }) }
unfolding due toy means meaning meaning_of
bad_record = refl

-- the same from the second state on, behind one octet
later_on : meaning toy Count 1 (4 ∷ []) ≡ record { items = []; fault = Some (record { kind = BadCount; offset = 1 }) }
unfolding due toy meaning meaning_of
later_on = refl
