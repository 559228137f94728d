-- What a detour has gained on the bucket, by the state of the difference of two inputs: a table that pays for each step.
-- The table is a witness: what counts is that it passes the test of each state, bit and step of a period.
use Rattle.std.proofs.Common.{◌≡◌, ◌∙◌, ℕ, zero, suc, ◌+◌, ◌*◌, ◌/◌, ◌%◌, ◌<◌, ◌≤◌, List, [], ◌∷◌, length, get_or}
use Rattle.std.proofs.Common.{Bool, true, false, ◌&&◌, ◌||◌, ◌==◌, nat_le, if◌then◌else◌, refl, ap, sym, arith}
use mathlib.Core.Bool.{xor}
use Rattle.std.specs.Int.{from_bool}
use Rattle.std.proofs.lemmas.Bool.{agree_below_at, and_parts, cond-true, cond-false, eq-eqb, eqb-true, leb-true}
use Rattle.std.proofs.Math.Dec.{eqb-suc-zero}
use Rattle.ht_rate.specs.declared.kinds.Pattern.{Pattern}
use Rattle.ht_rate.specs.declared.kinds.Pattern.TheVariants.{Half, TwoThirds, ThreeQuarters, FiveSixths}
use Rattle.ht_conv.specs.declared.puncture.Kept.{Kept}
use Rattle.ht_conv.specs.declared.puncture.Kept.TheVariants.{Both, A, B}
use Rattle.ht_conv.specs.Puncturing.{kept_of, period_of}
use Rattle.ht_viterbi.specs.Trellis.{moved, output_a, output_b}
use Rattle.ht_clean.specs.Sparse.{brim, leak}

-- the gains before a step, for each step of a period and each state
unfoldable pub gains : Pattern → List (List ℕ)
gains Half =
    (0 ∷ 721 ∷ 554 ∷ 773 ∷ 627 ∷ 616 ∷ 690 ∷ 606 ∷ 627 ∷ 700 ∷ 449 ∷ 502 ∷ 564 ∷ 763 ∷ 439 ∷ 700 ∷
    574 ∷ 700 ∷ 721 ∷ 533 ∷ 668 ∷ 522 ∷ 742 ∷ 335 ∷ 637 ∷ 648 ∷ 596 ∷ 669 ∷ 512 ∷ 481 ∷ 679 ∷ 533 ∷
    407 ∷ 721 ∷ 543 ∷ 773 ∷ 554 ∷ 616 ∷ 491 ∷ 606 ∷ 501 ∷ 700 ∷ 595 ∷ 502 ∷ 575 ∷ 763 ∷ 408 ∷ 700 ∷
    574 ∷ 470 ∷ 721 ∷ 418 ∷ 668 ∷ 429 ∷ 742 ∷ 627 ∷ 637 ∷ 345 ∷ 596 ∷ 554 ∷ 512 ∷ 523 ∷ 679 ∷ 606 ∷ []) ∷ []
gains TwoThirds =
    (0 ∷ 672 ∷ 672 ∷ 720 ∷ 576 ∷ 448 ∷ 528 ∷ 496 ∷ 464 ∷ 736 ∷ 496 ∷ 656 ∷ 560 ∷ 592 ∷ 560 ∷ 544 ∷
    416 ∷ 624 ∷ 400 ∷ 720 ∷ 576 ∷ 512 ∷ 528 ∷ 480 ∷ 608 ∷ 720 ∷ 352 ∷ 704 ∷ 560 ∷ 544 ∷ 560 ∷ 432 ∷
    208 ∷ 512 ∷ 672 ∷ 528 ∷ 560 ∷ 656 ∷ 544 ∷ 608 ∷ 384 ∷ 544 ∷ 560 ∷ 416 ∷ 576 ∷ 528 ∷ 480 ∷ 608 ∷
    656 ∷ 384 ∷ 640 ∷ 496 ∷ 352 ∷ 656 ∷ 656 ∷ 608 ∷ 384 ∷ 480 ∷ 560 ∷ 544 ∷ 432 ∷ 528 ∷ 496 ∷ 608 ∷ []) ∷
    (0 ∷ 880 ∷ 544 ∷ 704 ∷ 704 ∷ 704 ∷ 560 ∷ 752 ∷ 592 ∷ 608 ∷ 480 ∷ 688 ∷ 576 ∷ 560 ∷ 528 ∷ 640 ∷
    416 ∷ 496 ∷ 768 ∷ 576 ∷ 592 ∷ 528 ∷ 736 ∷ 448 ∷ 592 ∷ 608 ∷ 560 ∷ 624 ∷ 592 ∷ 512 ∷ 640 ∷ 576 ∷
    448 ∷ 880 ∷ 416 ∷ 704 ∷ 432 ∷ 704 ∷ 528 ∷ 752 ∷ 384 ∷ 608 ∷ 544 ∷ 688 ∷ 688 ∷ 560 ∷ 512 ∷ 640 ∷
    416 ∷ 640 ∷ 768 ∷ 512 ∷ 592 ∷ 384 ∷ 736 ∷ 576 ∷ 592 ∷ 464 ∷ 560 ∷ 576 ∷ 592 ∷ 528 ∷ 640 ∷ 464 ∷ []) ∷ []
gains ThreeQuarters =
    (0 ∷ 489 ∷ 465 ∷ 414 ∷ 363 ∷ 540 ∷ 339 ∷ 213 ∷ 390 ∷ 552 ∷ 333 ∷ 276 ∷ 378 ∷ 351 ∷ 375 ∷ 492 ∷
    300 ∷ 288 ∷ 339 ∷ 489 ∷ 396 ∷ 504 ∷ 162 ∷ 453 ∷ 591 ∷ 453 ∷ 237 ∷ 390 ∷ 312 ∷ 339 ∷ 504 ∷ 516 ∷
    219 ∷ 528 ∷ 441 ∷ 249 ∷ 186 ∷ 414 ∷ 375 ∷ 453 ∷ 417 ∷ 327 ∷ 477 ∷ 414 ∷ 363 ∷ 540 ∷ 390 ∷ 402 ∷
    198 ∷ 453 ∷ 225 ∷ 528 ∷ 390 ∷ 327 ∷ 402 ∷ 453 ∷ 477 ∷ 315 ∷ 339 ∷ 516 ∷ 396 ∷ 504 ∷ 465 ∷ 276 ∷ []) ∷
    (0 ∷ 633 ∷ 342 ∷ 432 ∷ 531 ∷ 495 ∷ 330 ∷ 594 ∷ 267 ∷ 558 ∷ 483 ∷ 381 ∷ 570 ∷ 456 ∷ 291 ∷ 723 ∷
    438 ∷ 228 ∷ 405 ∷ 432 ∷ 546 ∷ 456 ∷ 582 ∷ 369 ∷ 417 ∷ 204 ∷ 546 ∷ 381 ∷ 534 ∷ 495 ∷ 615 ∷ 255 ∷
    459 ∷ 633 ∷ 519 ∷ 432 ∷ 369 ∷ 495 ∷ 357 ∷ 594 ∷ 279 ∷ 558 ∷ 375 ∷ 381 ∷ 432 ∷ 456 ∷ 318 ∷ 723 ∷
    438 ∷ 420 ∷ 405 ∷ 354 ∷ 546 ∷ 393 ∷ 582 ∷ 381 ∷ 417 ∷ 507 ∷ 546 ∷ 432 ∷ 534 ∷ 318 ∷ 615 ∷ 444 ∷ []) ∷
    (0 ∷ 411 ∷ 510 ∷ 549 ∷ 486 ∷ 462 ∷ 435 ∷ 270 ∷ 207 ∷ 384 ∷ 435 ∷ 561 ∷ 396 ∷ 360 ∷ 513 ∷ 234 ∷
    438 ∷ 411 ∷ 348 ∷ 573 ∷ 498 ∷ 354 ∷ 435 ∷ 297 ∷ 399 ∷ 384 ∷ 372 ∷ 561 ∷ 396 ∷ 411 ∷ 513 ∷ 423 ∷
    219 ∷ 321 ∷ 474 ∷ 309 ∷ 246 ∷ 360 ∷ 549 ∷ 510 ∷ 417 ∷ 411 ∷ 525 ∷ 348 ∷ 183 ∷ 525 ∷ 474 ∷ 474 ∷
    612 ∷ 498 ∷ 474 ∷ 336 ∷ 258 ∷ 360 ∷ 411 ∷ 537 ∷ 417 ∷ 333 ∷ 525 ∷ 360 ∷ 486 ∷ 525 ∷ 297 ∷ 594 ∷ []) ∷ []
gains FiveSixths =
    (0 ∷ 530 ∷ 480 ∷ 450 ∷ 530 ∷ 340 ∷ 200 ∷ 390 ∷ 350 ∷ 530 ∷ 530 ∷ 430 ∷ 440 ∷ 390 ∷ 290 ∷ 420 ∷
    460 ∷ 360 ∷ 340 ∷ 560 ∷ 440 ∷ 420 ∷ 540 ∷ 340 ∷ 450 ∷ 250 ∷ 430 ∷ 530 ∷ 400 ∷ 390 ∷ 530 ∷ 290 ∷
    230 ∷ 350 ∷ 390 ∷ 410 ∷ 340 ∷ 400 ∷ 440 ∷ 390 ∷ 210 ∷ 360 ∷ 300 ∷ 500 ∷ 310 ∷ 480 ∷ 440 ∷ 390 ∷
    220 ∷ 490 ∷ 390 ∷ 340 ∷ 480 ∷ 290 ∷ 410 ∷ 480 ∷ 370 ∷ 410 ∷ 440 ∷ 340 ∷ 200 ∷ 340 ∷ 390 ∷ 400 ∷ []) ∷
    (0 ∷ 680 ∷ 520 ∷ 430 ∷ 520 ∷ 660 ∷ 380 ∷ 520 ∷ 350 ∷ 570 ∷ 410 ∷ 570 ∷ 440 ∷ 660 ∷ 390 ∷ 520 ∷
    460 ∷ 400 ∷ 570 ∷ 380 ∷ 440 ∷ 290 ∷ 540 ∷ 430 ∷ 450 ∷ 380 ∷ 520 ∷ 400 ∷ 600 ∷ 330 ∷ 430 ∷ 390 ∷
    470 ∷ 680 ∷ 330 ∷ 430 ∷ 340 ∷ 660 ∷ 430 ∷ 520 ∷ 450 ∷ 570 ∷ 430 ∷ 570 ∷ 240 ∷ 660 ∷ 380 ∷ 520 ∷
    460 ∷ 380 ∷ 570 ∷ 430 ∷ 440 ∷ 490 ∷ 540 ∷ 380 ∷ 450 ∷ 330 ∷ 520 ∷ 470 ∷ 600 ∷ 430 ∷ 430 ∷ 380 ∷ []) ∷
    (0 ∷ 420 ∷ 510 ∷ 510 ∷ 560 ∷ 400 ∷ 650 ∷ 380 ∷ 390 ∷ 560 ∷ 280 ∷ 530 ∷ 440 ∷ 390 ∷ 560 ∷ 380 ∷
    460 ∷ 420 ∷ 330 ∷ 510 ∷ 560 ∷ 420 ∷ 470 ∷ 370 ∷ 370 ∷ 560 ∷ 480 ∷ 530 ∷ 440 ∷ 460 ∷ 590 ∷ 370 ∷
    230 ∷ 510 ∷ 650 ∷ 370 ∷ 340 ∷ 560 ∷ 430 ∷ 510 ∷ 450 ∷ 370 ∷ 430 ∷ 420 ∷ 370 ∷ 510 ∷ 320 ∷ 420 ∷
    670 ∷ 320 ∷ 570 ∷ 420 ∷ 440 ∷ 560 ∷ 230 ∷ 510 ∷ 450 ∷ 420 ∷ 430 ∷ 370 ∷ 320 ∷ 510 ∷ 420 ∷ 420 ∷ []) ∷
    (0 ∷ 500 ∷ 550 ∷ 610 ∷ 550 ∷ 510 ∷ 380 ∷ 370 ∷ 410 ∷ 500 ∷ 410 ∷ 360 ∷ 360 ∷ 470 ∷ 430 ∷ 580 ∷
    460 ∷ 360 ∷ 550 ∷ 500 ∷ 440 ∷ 420 ∷ 360 ∷ 310 ∷ 550 ∷ 560 ∷ 430 ∷ 220 ∷ 410 ∷ 360 ∷ 500 ∷ 410 ∷
    230 ∷ 500 ∷ 390 ∷ 370 ∷ 380 ∷ 270 ∷ 430 ∷ 550 ∷ 450 ∷ 320 ∷ 550 ∷ 460 ∷ 550 ∷ 520 ∷ 450 ∷ 360 ∷
    220 ∷ 600 ∷ 330 ∷ 420 ∷ 360 ∷ 410 ∷ 500 ∷ 410 ∷ 310 ∷ 410 ∷ 550 ∷ 460 ∷ 440 ∷ 420 ∷ 310 ∷ 410 ∷ []) ∷
    (0 ∷ 600 ∷ 540 ∷ 360 ∷ 490 ∷ 400 ∷ 460 ∷ 420 ∷ 350 ∷ 540 ∷ 410 ∷ 350 ∷ 540 ∷ 210 ∷ 400 ∷ 400 ∷
    220 ∷ 360 ∷ 370 ∷ 540 ∷ 310 ∷ 540 ∷ 510 ∷ 440 ∷ 450 ∷ 320 ∷ 400 ∷ 490 ∷ 300 ∷ 450 ∷ 430 ∷ 400 ∷
    230 ∷ 540 ∷ 500 ∷ 370 ∷ 400 ∷ 350 ∷ 350 ∷ 570 ∷ 450 ∷ 490 ∷ 430 ∷ 300 ∷ 550 ∷ 420 ∷ 350 ∷ 490 ∷
    460 ∷ 380 ∷ 260 ∷ 420 ∷ 440 ∷ 450 ∷ 540 ∷ 350 ∷ 210 ∷ 410 ∷ 350 ∷ 400 ∷ 400 ∷ 540 ∷ 410 ∷ 300 ∷ []) ∷ []

pub gain : Pattern → ℕ → ℕ → ℕ
gain pattern step state = get_or (get_or (gains pattern) (step % length (period_of pattern)) []) state 0

-- how many of a step's coded bits are kept and 1
abbrev pub ones_of : Kept → Bool → Bool → ℕ
ones_of Both a b = from_bool a + from_bool b
ones_of A a b = from_bool a
ones_of B a b = from_bool b

-- what a step of a detour weighs
abbrev pub weighs : Pattern → ℕ → ℕ → Bool → ℕ
weighs pattern step state bit = ones_of (kept_of pattern step) (output_a state bit) (output_b state bit)

-- a step that goes on pays its leak, and one that returns comes to the brim
pays : Pattern → ℕ → ℕ → Bool → Bool
pays pattern step state bit =
    if moved state bit == 0
    then (state == 0 || nat_le (brim pattern) (gain pattern step state + 240 * weighs pattern step state bit))
    else nat_le (gain pattern (suc step) (moved state bit) + leak pattern) (gain pattern step state + 240 * weighs pattern step state bit)

or-second : (p q : Bool) → p ≡ false → p || q ≡ true → q ≡ true
or-second p q none e = sym (ap (λ (b : Bool). b || q) none) ∙ e

some-not : (n : ℕ) → 0 < n → (n == 0) ≡ false
some-not zero lt = absurd (omega arith)
some-not (suc n) lt = eqb-suc-zero n

-- both bits, and the states of all steps of a period in a row
pays_both : Pattern → ℕ → Bool
pays_both pattern place = pays pattern (place / 64) (place % 64) false && pays pattern (place / 64) (place % 64) true

test : (pattern : Pattern) (place : ℕ) → place < 64 * length (period_of pattern) → pays_both pattern place ≡ true
unfolding xor output_a output_b gains gain pays pays_both
test Half place lt = agree_below_at (pays_both Half) (λ _. true) 64 place refl lt
test TwoThirds place lt = agree_below_at (pays_both TwoThirds) (λ _. true) 128 place refl lt
test ThreeQuarters place lt = agree_below_at (pays_both ThreeQuarters) (λ _. true) 192 place refl lt
test FiveSixths place lt = agree_below_at (pays_both FiveSixths) (λ _. true) 320 place refl lt

-- the test of a step is that of the same step of the first period
phase-lt : (pattern : Pattern) (step : ℕ) → step % length (period_of pattern) < length (period_of pattern)
phase-lt Half step = omega arith
phase-lt TwoThirds step = omega arith
phase-lt ThreeQuarters step = omega arith
phase-lt FiveSixths step = omega arith

phase-same : (pattern : Pattern) (step : ℕ) → step % length (period_of pattern) % length (period_of pattern) ≡ step % length (period_of pattern)
phase-same Half step = omega arith
phase-same TwoThirds step = omega arith
phase-same ThreeQuarters step = omega arith
phase-same FiveSixths step = omega arith

phase-next : (pattern : Pattern) (step : ℕ) → suc (step % length (period_of pattern)) % length (period_of pattern) ≡ suc step % length (period_of pattern)
phase-next Half step = omega arith
phase-next TwoThirds step = omega arith
phase-next ThreeQuarters step = omega arith
phase-next FiveSixths step = omega arith

-- `pays` by the two phases
pays_at : Pattern → ℕ → ℕ → ℕ → Bool → Bool
pays_at pattern now next state bit =
    if moved state bit == 0
    then (state == 0 || nat_le (brim pattern) (get_or (get_or (gains pattern) now []) state 0
    + 240 * ones_of (get_or (period_of pattern) now Both) (output_a state bit) (output_b state bit)))
    else nat_le (get_or (get_or (gains pattern) next []) (moved state bit) 0 + leak pattern)
    (get_or (get_or (gains pattern) now []) state 0 + 240 * ones_of (get_or (period_of pattern) now Both) (output_a state bit) (output_b state bit))

first-period : (pattern : Pattern) (step state : ℕ) (bit : Bool)
    → pays pattern (step % length (period_of pattern)) state bit ≡ pays pattern step state bit
unfolding gain pays pays_at
first-period pattern step state bit =
    ap (λ (n : ℕ). pays_at pattern n (suc (step % length (period_of pattern)) % length (period_of pattern)) state bit) (phase-same pattern step)
    ∙ ap (λ (n : ℕ). pays_at pattern (step % length (period_of pattern)) n state bit) (phase-next pattern step)

either-bit : (p q : Bool) (bit : Bool) (f : Bool → Bool) → f false ≡ p → f true ≡ q → p && q ≡ true → f bit ≡ true
either-bit p q false f is other both = is ∙ (and_parts p q both).0
either-bit p q true f other is both = is ∙ (and_parts p q both).1

pays-always : (pattern : Pattern) (step state : ℕ) (bit : Bool) → state < 64 → pays pattern step state bit ≡ true
unfolding pays_both
pays-always pattern step state bit low =
    let phase : ℕ = step % length (period_of pattern) in
    let lt : phase < length (period_of pattern) = phase-lt pattern step in
    let place : ℕ = 64 * phase + state in
    let within : place < 64 * length (period_of pattern) = omega (arith, lt, low) in
    let div : place / 64 ≡ phase = omega (arith, low) in
    let rest : place % 64 ≡ state = omega (arith, low) in
    let tested = either-bit _ _ bit (λ (b : Bool). pays pattern (place / 64) (place % 64) b) refl refl (test pattern place within) in
    sym (first-period pattern step state bit)
    ∙ (sym (ap (λ (n : ℕ). pays pattern n state bit) div) ∙ (sym (ap (λ (n : ℕ). pays pattern (place / 64) n bit) rest) ∙ tested))

-- a step of a detour that goes on pays its leak
pub goes-on : (pattern : Pattern) (step state : ℕ) (bit : Bool) → state < 64 → 0 < moved state bit
    → gain pattern (suc step) (moved state bit) + leak pattern ≤ gain pattern step state + 240 * weighs pattern step state bit
unfolding pays
goes-on pattern step state bit low on =
    leb-true _ _ (sym (cond-false (moved state bit == 0) _ _ (some-not _ on)) ∙ pays-always pattern step state bit low)

-- and one that returns has come to the brim
pub returns-paid : (pattern : Pattern) (step state : ℕ) (bit : Bool) → state < 64 → 0 < state → moved state bit ≡ 0
    → brim pattern ≤ gain pattern step state + 240 * weighs pattern step state bit
unfolding pays
returns-paid pattern step state bit low away back =
    leb-true _ _ (or-second _ _ (some-not _ away) (sym (cond-true (moved state bit == 0) _ _ (eq-eqb _ _ back)) ∙ pays-always pattern step state bit low))

-- no detour has gained anything before it begins
empty : (pattern : Pattern) (phase : ℕ) → phase < 5 → (get_or (get_or (gains pattern) phase []) 0 0 == 0) ≡ true
unfolding gains
empty Half phase lt = agree_below_at (λ n. get_or (get_or (gains Half) n []) 0 0 == 0) (λ _. true) 5 phase refl lt
empty TwoThirds phase lt = agree_below_at (λ n. get_or (get_or (gains TwoThirds) n []) 0 0 == 0) (λ _. true) 5 phase refl lt
empty ThreeQuarters phase lt = agree_below_at (λ n. get_or (get_or (gains ThreeQuarters) n []) 0 0 == 0) (λ _. true) 5 phase refl lt
empty FiveSixths phase lt = agree_below_at (λ n. get_or (get_or (gains FiveSixths) n []) 0 0 == 0) (λ _. true) 5 phase refl lt

phase-few : (pattern : Pattern) (step : ℕ) → step % length (period_of pattern) < 5
phase-few Half step = omega arith
phase-few TwoThirds step = omega arith
phase-few ThreeQuarters step = omega arith
phase-few FiveSixths step = omega arith

pub none-gained : (pattern : Pattern) (step : ℕ) → gain pattern step 0 ≡ 0
unfolding gain
none-gained pattern step = eqb-true _ _ (empty pattern (step % length (period_of pattern)) (phase-few pattern step))
