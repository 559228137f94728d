-- Numbers of two's complement that pass through the words of the machine.
use Rattle.std.proofs.Common.{◌≡◌, ℕ, ℤ, ◌+◌, ◌-◌, List, length, take, drop, ap, ◌∙◌, w32, to_z, of_z, FitsSigned}
use Rattle.std.proofs.lemmas.Int.{to_z-of_z}
use Rattle.std.proofs.lemmas.List.{take_rest}
use Rattle.std.specs.Int.{cast_signed}
use Rattle.byteorder.specs.Endian.{big_number}
use Rattle.ht_metric.specs.declared.sample.Sample.{Sample}
use Rattle.ht_capture.specs.Numbers.{sample_at}

-- a slice up to the end is what is left
pub to_the_end : {X : Type 0} (f : List ℕ → X) (octets : List ℕ) (at n : ℕ) → n ≡ length octets - at → f (take n (drop at octets)) ≡ f (drop at octets)
to_the_end f octets at n e = ap f (ap (λ m. take m (drop at octets)) e ∙ take_rest octets at)

-- both parts of a sample, read from where they stand to the end
pub sample_made : (octets : List ℕ) (at n m : ℕ) (re im : ℤ) → FitsSigned w32 re → FitsSigned w32 im → n ≡ length octets - at → m ≡ length octets - (at + 4)
    → re ≡ cast_signed w32 (big_number 4 (take n (drop at octets))) → im ≡ cast_signed w32 (big_number 4 (take m (drop (at + 4) octets)))
    → (let made : Sample = record { re = to_z w32 (of_z w32 re); im = to_z w32 (of_z w32 im) } in made) ≡ sample_at octets at
unfolding sample_at
sample_made octets at n m re im f g e h p q =
    let made : ℤ → ℤ → Sample = λ a b. record { re = a; im = b } in
    let re_is : to_z w32 (of_z w32 re) ≡ cast_signed w32 (big_number 4 (drop at octets)) =
    to_z-of_z w32 re f ∙ (p ∙ to_the_end (λ z. cast_signed w32 (big_number 4 z)) octets at n e) in
    let im_is : to_z w32 (of_z w32 im) ≡ cast_signed w32 (big_number 4 (drop (at + 4) octets)) =
    to_z-of_z w32 im g ∙ (q ∙ to_the_end (λ z. cast_signed w32 (big_number 4 z)) octets (at + 4) m h) in
    ap (λ a. made a (to_z w32 (of_z w32 im))) re_is ∙ ap (λ b. made (cast_signed w32 (big_number 4 (drop at octets))) b) im_is
