-- Octets of which none is above a last value.
use Rattle.std.proofs.Common.{◌≡◌, ◌+◌, ◌<◌, ◌≤◌, ℕ, zero, suc, List, [], ◌∷◌, length, take, get_or, set, refl, sym, subst, arith}
use Rattle.std.proofs.lemmas.List.{length-take-le}
use Rattle.std.proofs.lemmas.List.Elements.{All-append, All-more, All-weaker}
use borrow.Rule.Slice.PartMut.{put_mid}
use Rattle.ht_io.specs.Devices.{Device, Takes, IsLater}
use Rattle.ht_io.specs.declared.faults.InFault.{InFault}
use Rattle.ht_io.specs.declared.faults.Kind.{Kind}
use Rattle.ht_fields.specs.Lacking.{FailsAmong, FailsField}
use Rattle.ht_fields.specs.Tests.{AreLow, is_above}
use Rattle.ht_fields.proofs.Pieces.{front-put}

pub low-higher : (octets : List ℕ) (last higher : ℕ) → last ≤ higher → AreLow last octets → AreLow higher octets
low-higher octets last higher more low = All-weaker (λ x. x ≤ last) (λ x. x ≤ higher) (λ x small. omega arith) octets low

-- one more octet that isn't above
pub low-more : (octets : List ℕ) (last i : ℕ) → i < length octets → AreLow last (take i octets) → get_or octets i 0 ≤ last → AreLow last (take (i + 1) octets)
low-more octets last i within low here = All-more (λ x. x ≤ last) octets i 0 within low here

-- one octet at the front
pub first-set : (octets : List ℕ) (x : ℕ) → 0 < length octets → take 1 (set octets 0 x) ≡ x ∷ []
first-set [] x some = absurd (omega arith)
first-set (y ∷ ys) x some = refl

pub one-low : (last x : ℕ) → x ≤ last → AreLow last (x ∷ [])
one-low last x small zero d below = small
one-low last x small (suc k) d below = absurd (omega arith)

-- the octets of a further piece
pub low-piece : (last count more k : ℕ) (into piece : List ℕ) → count ≤ length into → more ≤ length piece
    → AreLow last (take count into) → AreLow last (take more piece) → AreLow last (take (count + more) (put_mid count k into piece))
low-piece last count more k into piece p q a b =
    subst (AreLow last) (sym (front-put count k more into piece p q)) (All-append (λ x. x ≤ last) (take count into) (take more piece) a b)

-- the octets so far were taken, and the next one was not read or is above
pub fails-among : (count total last at : ℕ) (kind : Kind) (into : List ℕ) (before between after : Device ℕ) (fault : InFault)
    → count < total → count ≤ length into → AreLow last (take count into) → Takes before between (take count into) → IsLater before between
    → FailsField 1 kind (is_above last) (at + count) between after fault → FailsAmong total last kind at before after fault
fails-among count total last at kind into before between after fault few within low taken later fails =
    let len : length (take count into) ≡ count = length-take-le count into within in (
      take count into,
      omega (arith, len),
      low,
      (between, taken, later, subst (λ (n : ℕ). FailsField 1 kind (is_above last) (at + n) between after fault) (sym len) fails),
    )
