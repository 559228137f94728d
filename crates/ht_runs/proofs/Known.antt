-- What is said of octets that are known, and of a part of a text.
use Rattle.std.specs.Prelude.{◌≡◌, ℕ, List, [], ◌++◌, Option, Some, None, IfSome}
use Rattle.std.proofs.Common.{ap, ◌∙◌, sym, subst, append-nil}
use Rattle.ht_io.specs.Devices.{Device, Takes, TakesAll, Grows, GrowsByPart}
use Rattle.ht_io.specs.Pieces.{KnownTaken, KnownAllTaken}
use Rattle.ht_io.proofs.Calls.{grows_by_part-append, grows_by_part-none}

-- where what is left is known, the whole of it is said of
pub known : (left after : Option (List ℕ)) (taken : List ℕ) (P : List ℕ → Type 0)
    → KnownTaken left after taken → ((rest : List ℕ) → P (taken ++ rest)) → IfSome left P
known None after taken P takes all = tt
known (Some octets) None taken P takes all = absurd takes
known (Some octets) (Some rest) taken P takes all = subst P (sym takes) (all rest)

pub known_all : (left after : Option (List ℕ)) (taken : List ℕ) (P : List ℕ → Type 0) → KnownAllTaken left after taken → P taken → IfSome left P
known_all None after taken P takes is = tt
known_all (Some octets) None taken P takes is = absurd takes
known_all (Some octets) (Some rest) taken P takes is = subst P (sym takes.0) is

-- what holds of known octets
pub known_has : (all : List ℕ) (left : Option (List ℕ)) (P : List ℕ → Type 0) → left ≡ Some all → IfSome left P → P all
known_has all left P is holds = subst (λ (o : Option (List ℕ)). IfSome o P) is holds

-- all that was left was taken from its front
known_taken : (left after : Option (List ℕ)) (taken : List ℕ) → KnownAllTaken left after taken → KnownTaken left after taken
known_taken None None taken takes = tt
known_taken None (Some after) taken takes = absurd takes
known_taken (Some octets) None taken takes = absurd takes
known_taken (Some octets) (Some rest) taken takes = takes.0 ∙ (sym (append-nil taken) ∙ ap (λ xs. taken ++ xs) (sym takes.1))

pub takes_of : (source source' : Device ℕ) (taken : List ℕ) → TakesAll source source' taken → Takes source source' taken
takes_of source source' taken takes = known_taken source.known source'.known taken takes

-- all of a piece is a part of it
pub by_part : {P : Type 0} (device device' : Device P) (piece : List P) → Grows device device' piece → GrowsByPart device device' piece
by_part device device' piece grows =
    subst (GrowsByPart device device') (append-nil piece)
    (grows_by_part-append device device' device' piece [] grows (grows_by_part-none device' []))
