-- What passes the simulated channel with noise 0 is received exactly.
use Rattle.std.proofs.Common.{◌≡◌, ◌⊎◌, ℕ, zero, suc, ◌%◌, ◌<◌, ℤ, pos, ◌+ℤ◌, ◌-ℤ◌, List, [], ◌∷◌, map, All}
use Rattle.std.proofs.Common.{refl, ap, ◌∙◌, arith}
use Rattle.std.proofs.lemmas.Int.{ints}
use Rattle.std.proofs.lemmas.List.Elements.{All-cons, All-nil}
use Rattle.ht_rate.specs.Rates.{carriers_of, streams_of, symbols_of}
use Rattle.ht_metric.specs.declared.complex.Complex.{Complex}
use Rattle.ht_metric.specs.Distance.{received}
use Rattle.ht_metric.specs.Rows.{Leg}
use Rattle.ht_capture.specs.Files.{capture_file_of}
use Rattle.ht_tx.specs.Frames.{FrameView}
use Rattle.ht_tx.specs.Symbols.{SymbolsView}
use Rattle.ht_tx.specs.Transmitted.{AreTransmitted}
use Rattle.ht_files.specs.Files.{AreFrames}
use Rattle.ht_sim.specs.Channel.{captures_of, diagonal_of, frame_drawn, legs_drawn}
use Rattle.ht_sim.specs.Channel.{noise_of, sample_drawn, symbols_mixed, tap_drawn, triangle_drawn}
use Rattle.ht_sim.specs.Draws.{Drawn, each, several}
use Rattle.ht_sim.specs.Words.{first, next, word}
use Rattle.ht_sim.proofs.Drawing.{length-several}
use Rattle.ht_sim.proofs.Typed.{triangles_typed}
use Rattle.ht_results.specs.Results.{results_of}
use Rattle.ht_results.specs.Texts.{rx_text}
use Rattle.ht_round.specs.Exact.{AreExact, HasFullDiagonal, HoldOctets, IsExact, PairByPair}
use Rattle.ht_round.specs.Returned.{returned_results, returned_text}
use Rattle.ht_round.proofs.Round.{results_back, text_back}

-- triangles
legs_full : (n z : ℕ) → HasFullDiagonal (legs_drawn n z).value
legs_full zero z = All-nil (λ (leg : Leg). 0 < leg.diagonal)
legs_full (suc n) z =
    let right = several tap_drawn n (next z) in
    All-cons (λ (leg : Leg). 0 < leg.diagonal) (record { diagonal = diagonal_of (word z); right = right.value }) (legs_drawn n right.state).value
    (omega arith) (legs_full n right.state)

triangles_full : (streams n z : ℕ) → All HasFullDiagonal (several (triangle_drawn streams) n z).value
unfolding triangle_drawn
triangles_full streams zero z = All-nil HasFullDiagonal
triangles_full streams (suc n) z =
    All-cons HasFullDiagonal (legs_drawn streams z).value (several (triangle_drawn streams) n (legs_drawn streams z).state).value
    (legs_full streams z) (triangles_full streams n (legs_drawn streams z).state)

-- samples without noise
no_noise : (w : ℕ) → noise_of 0 w ≡ pos 0
no_noise w =
    let none : w % 1 ≡ 0 = omega arith in
    ap (λ (k : ℕ). pos k -ℤ pos 0) none

nothing_added : (a b : ℤ) → b ≡ pos 0 → a +ℤ b ≡ a
nothing_added a b none = omega (arith, ints)

pub samples_are : (cs : List Complex) (z : ℕ) → map received (each (sample_drawn 0) cs z).value ≡ cs
unfolding sample_drawn
samples_are [] z = refl
samples_are (c ∷ cs) z =
    let made : ℤ → ℤ → Complex = λ re im. record { re = re; im = im } in
    let rest : List Complex = map received (each (sample_drawn 0) cs (next (next z))).value in
    ap (λ (v : ℤ). made v (c.im +ℤ noise_of 0 (word (next z))) ∷ rest) (nothing_added c.re (noise_of 0 (word z)) (no_noise (word z)))
    ∙ (ap (λ (v : ℤ). made c.re v ∷ rest) (nothing_added c.im (noise_of 0 (word (next z))) (no_noise (word (next z))))
    ∙ ap (λ (z : List Complex). c ∷ z) (samples_are cs (next (next z))))

frame_exact : (s : SymbolsView) (z : ℕ) → IsExact s (frame_drawn 0 s z).value
unfolding frame_drawn
frame_exact s z =
    let ts = several (triangle_drawn (streams_of s.rate)) (carriers_of s.rate) z in
    record {
      rate = refl;
      length_is = refl;
      whole = refl;
      count = length-several (triangle_drawn (streams_of s.rate)) (carriers_of s.rate) z;
      triangles = triangles_typed (streams_of s.rate) (carriers_of s.rate) z;
      diagonals = triangles_full (streams_of s.rate) (carriers_of s.rate) z;
      samples = samples_are (symbols_mixed (symbols_of s.rate s.length) (streams_of s.rate) ts.value s.points) ts.state;
    }

-- what is drawn of each member belongs to it
pub all_drawn : {A B : Type 0} (Belong : A → B → Type 0) (draw : A → ℕ → Drawn B) → ((a : A) (z : ℕ) → Belong a (draw a z).value)
    → (all : List A) (z : ℕ) → PairByPair Belong all (each draw all z).value
all_drawn Belong draw one [] z = tt
all_drawn Belong draw one (a ∷ all) z = (one a z, all_drawn Belong draw one all (draw a z).state)

pub simulated_exact : (seed : ℕ) (sent : List SymbolsView) → AreExact sent (captures_of seed 0 sent)
unfolding captures_of
simulated_exact seed sent = all_drawn IsExact (frame_drawn 0) frame_exact sent (first seed)

pub simulated_results : (version seed : ℕ) (frames : List FrameView) (sent : List SymbolsView)
    → (version ≡ 1) ⊎ (version ≡ 2) → AreFrames frames → HoldOctets frames → AreTransmitted frames sent
    → results_of (capture_file_of version (captures_of seed 0 sent)) ≡ returned_results frames
simulated_results version seed frames sent either good octets out =
    results_back version frames sent (captures_of seed 0 sent) either good octets out (simulated_exact seed sent)

pub simulated_text : (version seed : ℕ) (frames : List FrameView) (sent : List SymbolsView)
    → (version ≡ 1) ⊎ (version ≡ 2) → AreFrames frames → HoldOctets frames → AreTransmitted frames sent
    → rx_text (capture_file_of version (captures_of seed 0 sent)) ≡ returned_text frames
simulated_text version seed frames sent either good octets out =
    text_back version frames sent (captures_of seed 0 sent) either good octets out (simulated_exact seed sent)
