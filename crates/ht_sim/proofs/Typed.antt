-- The numbers that are drawn fit the fields of a capture, and a frame has as many as it asks for.
use Rattle.std.proofs.Common.{◌≡◌, ℕ, zero, suc, ◌*◌, ◌<◌, ◌≤◌, ◌^◌, List, [], ◌∷◌, ◌++◌, length, All}
use Rattle.std.proofs.Common.{w16, w32, FitsSigned, sym, ap, ◌∙◌, subst, arith}
use Rattle.std.proofs.lemmas.Int.{ints, fits_signed_from_abs}
use Rattle.std.proofs.lemmas.Nat.{mod_below}
use Rattle.ht_metric.specs.declared.sample.Sample.{Sample}
use Rattle.ht_metric.specs.Rows.{Leg}
use Rattle.ht_rate.specs.declared.rates.Rate.{Rate}
use Rattle.ht_rate.specs.Rates.{carriers_of, streams_of, symbols_of}
use Rattle.ht_rate.proofs.RateFacts.{carriers_of-range}
use Rattle.ht_capture.specs.declared.frames.CaptureFrame.{CaptureFrame}
use Rattle.ht_capture.specs.Contents.{AreLegs, AreSamples, AreTaps, AreTriangles, AreTyped, IsTyped}
use Rattle.ht_capture.specs.Files.{FitsFrame, present_among}
use Rattle.ht_capture.proofs.Encoded.{samples_more}
use Rattle.ht_capture.proofs.Filed.{all_present}
use Rattle.ht_capture.proofs.Framed.{typed_more}
use Rattle.ht_sim.specs.Channel.{diagonal_of, entry_part_of, legs_drawn, tap_drawn, triangle_drawn}
use Rattle.ht_sim.specs.Draws.{several}
use Rattle.ht_sim.specs.Words.{next, word}
use Rattle.ht_sim.proofs.Drawing.{length-several}
use Rattle.ht_sim.proofs.Shapes.{length-legs_drawn, length-triangle_drawn}

part_fits : (w : ℕ) → FitsSigned w16 (entry_part_of w)
part_fits w = fits_signed_from_abs w16 (entry_part_of w) (omega (arith, ints, mod_below w 129 (omega arith)))

pub diagonal_fits : (w : ℕ) → diagonal_of w < 2 ^ 16
diagonal_fits w = omega (arith, mod_below w 192 (omega arith))

taps_typed : (n z : ℕ) → AreTaps (several tap_drawn n z).value
unfolding tap_drawn
taps_typed zero z = tt
taps_typed (suc n) z = (part_fits (word z), part_fits (word (next z)), taps_typed n (next (next z)))

legs_typed : (n z : ℕ) → AreLegs (legs_drawn n z).value
legs_typed zero z = tt
legs_typed (suc n) z =
    let right = several tap_drawn n (next z) in (
      diagonal_fits (word z),
      length-several tap_drawn n (next z) ∙ sym (length-legs_drawn n right.state),
      taps_typed n (next z),
      legs_typed n right.state,
    )

triangle_typed : (n z : ℕ) → AreLegs (triangle_drawn n z).value
unfolding triangle_drawn
triangle_typed n z = legs_typed n z

pub triangles_typed : (streams n z : ℕ) → AreTriangles streams (several (triangle_drawn streams) n z).value
triangles_typed streams zero z = tt
triangles_typed streams (suc n) z =
    (length-triangle_drawn streams z, triangle_typed streams z, triangles_typed streams n (triangle_drawn streams z).state)

-- one more sample
pub one_more_sample : (xs ys : List Sample) (s : Sample) → ys ≡ xs ++ s ∷ [] → AreSamples xs
    → FitsSigned w32 s.re → FitsSigned w32 s.im → AreSamples ys
one_more_sample xs ys s is typed f g = subst AreSamples (sym is) (samples_more xs s typed f g)

-- no samples
pub no_samples : (xs : List Sample) → xs ≡ [] → AreSamples xs
no_samples xs is = subst AreSamples (sym is) tt

-- one more frame
pub one_more_typed : (xs ys : List CaptureFrame) (f : CaptureFrame) → ys ≡ xs ++ f ∷ [] → AreTyped xs → IsTyped f → AreTyped ys
one_more_typed xs ys f is typed fits = subst AreTyped (sym is) (typed_more xs f typed fits)

pub no_typed : (xs : List CaptureFrame) → xs ≡ [] → AreTyped xs
no_typed xs is = subst AreTyped (sym is) tt

two_to : (n : ℕ) → 0 < 2 ^ n
two_to zero = omega arith
two_to (suc n) = omega (arith, two_to n)

-- a frame with all of its subcarriers has what it asks for
pub frame_fits : (rate : Rate) (octets : ℕ) (ts : List (List Leg)) (ss : List Sample) → 1 ≤ octets → length ts ≡ carriers_of rate
    → All (λ t. length t ≡ streams_of rate) ts → length ss ≡ symbols_of rate octets * (carriers_of rate * streams_of rate)
    → FitsFrame (record { rate = rate; length = octets; erased = 0; triangles = ts; samples = ss })
frame_fits rate octets ts ss some count streams samples =
    let c = carriers_of rate in
    let all : present_among c 0 0 ≡ c = all_present c 0 in
    record {
      some = some;
      marks = two_to c;
      present = omega (arith, all, (carriers_of-range rate).0);
      triangles = count ∙ sym all;
      streams = streams;
      samples = samples ∙ ap (λ n. symbols_of rate octets * (n * streams_of rate)) (sym all);
    }
