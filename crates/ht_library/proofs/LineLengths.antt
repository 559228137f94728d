-- How long the lines are at most that are written for a capture.
use Rattle.std.proofs.Common.{◌≡◌, ℕ, suc, ◌+◌, ◌*◌, ◌^◌, ◌<◌, ◌≤◌, ℤ, pos, negsuc, unsigned_abs, List, [], ◌∷◌, ◌++◌, length, Option, None, Some}
use Rattle.std.proofs.Common.{refl, arith, length-append, codes}
use Rattle.std.specs.Fmt.{decimal, signed_decimal}
use Rattle.std.specs.List.{AllByRecursion}
use Rattle.std.proofs.lemmas.Fmt.{length-decimal-le_wide}
use Rattle.ht_text.specs.Lines.{capture_text, checked_text, end_text, frame_text, hex, job_text, line_feed, no_text, outcome_text}
use Rattle.ht_text.specs.Lines.{refused_text, soft_text, spaced, sums_text, yes_text}

-- a text of at most this many octets
record Short (most : ℕ) (text : List ℕ) : Type 0 where
  short : length text ≤ most

short_text : (most : ℕ) (text : List ℕ) → length text ≤ most → Short most text
short_text most text few = record { short = few }

-- a text with one more piece behind it
more : {m n : ℕ} {a b : List ℕ} → Short m a → Short n b → Short (m + n) (a ++ b)
more {m} {n} {a} {b} first second = record { short = omega (arith, length-append a b, first.short, second.short) }

-- a number of up to 5, 3, 8, 10, 12, 20 and 29 digits
digits_5 : (n : ℕ) → n < 100000 → Short 5 (decimal n)
digits_5 n small = short_text 5 (decimal n) (length-decimal-le_wide 5 n (omega arith) (omega (arith, small)) (omega (arith, small)))

digits_3 : (n : ℕ) → n < 1000 → Short 3 (decimal n)
digits_3 n small = short_text 3 (decimal n) (length-decimal-le_wide 3 n (omega arith) (omega (arith, small)) (omega (arith, small)))

digits_8 : (n : ℕ) → n < 100000000 → Short 8 (decimal n)
digits_8 n small = short_text 8 (decimal n) (length-decimal-le_wide 8 n (omega arith) (omega (arith, small)) (omega (arith, small)))

digits_10 : (n : ℕ) → n < 10000000000 → Short 10 (decimal n)
digits_10 n small = short_text 10 (decimal n) (length-decimal-le_wide 10 n (omega arith) (omega (arith, small)) (omega (arith, small)))

digits_12 : (n : ℕ) → n < 1000000000000 → Short 12 (decimal n)
digits_12 n small = short_text 12 (decimal n) (length-decimal-le_wide 12 n (omega arith) (omega (arith, small)) (omega (arith, small)))

digits_20 : (n : ℕ) → n ≤ 2 ^ 66 → Short 20 (decimal n)
digits_20 n small = short_text 20 (decimal n) (length-decimal-le_wide 20 n (omega arith) (omega (arith, small)) (omega (arith, small)))

digits_29 : (n : ℕ) → n ≤ 2 ^ 96 → Short 29 (decimal n)
digits_29 n small = short_text 29 (decimal n) (length-decimal-le_wide 29 n (omega arith) (omega (arith, small)) (omega (arith, small)))

-- two digits for each octet
length-hex : (octets : List ℕ) → length (hex octets) ≡ 2 * length octets
length-hex [] = refl
length-hex (octet ∷ octets) = omega (arith, length-hex octets)

-- any octets of what a frame came to are as many as this
abbrev pub HasOctets : Option (List ℕ) → ℕ → Type 0
HasOctets outcome count = (octets : List ℕ) → outcome ≡ Some octets → length octets ≡ count

outcome-long : (outcome : Option (List ℕ)) (count : ℕ) → HasOctets outcome count → Short (10 + 2 * count) (outcome_text outcome)
unfolding outcome_text
outcome-long None count has = short_text (10 + 2 * count) (codes " seed zero") (omega arith)
outcome-long (Some octets) count has = short_text (10 + 2 * count) (codes " octets " ++ hex octets)
    (omega (arith, length-append (codes " octets ") (hex octets), length-hex octets, has octets refl))

feed : Short 1 line_feed
feed = short_text 1 line_feed (omega arith)

-- the line of a frame in `rx`
pub frame-long : (frame data_sum pilot_sum code count : ℕ) (outcome : Option (List ℕ)) → frame ≤ 65535 → data_sum ≤ 2 ^ 96 → pilot_sum ≤ 2 ^ 96
    → code < 100000000 → HasOctets outcome count → length (frame_text frame data_sum pilot_sum code outcome) ≤ 107 + 2 * count
unfolding frame_text sums_text
frame-long frame data_sum pilot_sum code count outcome few near far low has =
    let first : Short 11 (codes "frame " ++ decimal frame) = more (short_text 6 (codes "frame ") (omega arith)) (digits_5 frame (omega (arith, few))) in
    let sums : Short 85 (sums_text data_sum pilot_sum code) =
    more (more (more (more (more (short_text 6 (codes " data ") (omega arith)) (digits_29 data_sum near))
    (short_text 7 (codes " pilot ") (omega arith))) (digits_29 pilot_sum far))
    (short_text 6 (codes " code ") (omega arith))) (digits_8 code low) in
    let all : Short (96 + (10 + 2 * count) + 1) (frame_text frame data_sum pilot_sum code outcome) =
    more (more (more first sums) (outcome-long outcome count has)) feed in
    omega (arith, all.short)

-- and in `soft`
pub soft-long : (frame cost count : ℕ) (outcome : Option (List ℕ)) → frame ≤ 65535 → cost ≤ 2 ^ 66 → HasOctets outcome count
    → length (soft_text frame cost outcome) ≤ 107 + 2 * count
unfolding soft_text
soft-long frame cost count outcome few low has =
    let all : Short (36 + (10 + 2 * count) + 1) (soft_text frame cost outcome) =
    more (more (more (more (more (short_text 5 (codes "soft ") (omega arith)) (digits_5 frame (omega (arith, few))))
    (short_text 6 (codes " cost ") (omega arith))) (digits_20 cost low)) (outcome-long outcome count has)) feed in
    omega (arith, all.short)

-- a level is one digit, with a minus before it or none
abbrev pub IsLevel : ℤ → Type 0
IsLevel level = unsigned_abs level ≤ 7

level-long : (level : ℤ) → IsLevel level → length (signed_decimal level) ≤ 2
level-long (pos n) small = let one = length-decimal-le_wide 1 n (omega arith) (omega (arith, small)) (omega (arith, small)) in omega (arith, one)
level-long (negsuc n) small = let one = length-decimal-le_wide 1 (suc n) (omega arith) (omega (arith, small)) (omega (arith, small)) in omega (arith, one)

levels-long : (levels : List ℤ) → AllByRecursion IsLevel levels → length (spaced levels) ≤ 3 * length levels
levels-long [] small = omega arith
levels-long (level ∷ levels) small =
    omega (arith, length-append (signed_decimal level) (spaced levels), level-long level small.0, levels-long levels small.1)

-- the line of a job
pub job-long : (frame symbol carrier distance : ℕ) (levels : List ℤ) → frame ≤ 65535 → symbol < 100000 → carrier < 1000 → distance ≤ 2 ^ 66
    → AllByRecursion IsLevel levels → length (job_text frame symbol carrier distance levels) ≤ 41 + 3 * length levels
unfolding job_text
job-long frame symbol carrier distance levels few early low near small =
    let space : Short 1 (codes " ") = short_text 1 (codes " ") (omega arith) in
    let place : Short 19 (codes "job " ++ decimal frame ++ codes " " ++ decimal symbol ++ codes " " ++ decimal carrier) =
    more (more (more (more (more (short_text 4 (codes "job ") (omega arith)) (digits_5 frame (omega (arith, few)))) space) (digits_5 symbol early)) space)
    (digits_3 carrier low) in
    let all : Short (40 + 3 * length levels + 1) (job_text frame symbol carrier distance levels) =
    more (more (more (more place space) (digits_20 distance near)) (short_text (3 * length levels) (spaced levels) (levels-long levels small))) feed in
    omega (arith, all.short)

-- the last line
pub end-long : (frames : ℕ) → frames ≤ 65535 → length (end_text frames) ≤ 17
unfolding end_text
end-long frames few =
    let all : Short 17 (end_text frames) =
    more (more (more (short_text 4 (codes "end ") (omega arith)) (digits_5 frames (omega (arith, few)))) (short_text 7 (codes " frames") (omega arith))) feed in
    all.short

-- the line of a certificate that holds, and of one that doesn't
pub yes-long : (number : ℕ) → number < 1000000000000 → length (yes_text number) ≤ 21
unfolding yes_text
yes-long number few =
    let all : Short 21 (yes_text number) =
    more (more (more (short_text 4 (codes "job ") (omega arith)) (digits_12 number few)) (short_text 4 (codes " yes") (omega arith))) feed in
    all.short

pub no-long : (number at : ℕ) (name : List ℕ) → number < 1000000000000 → length name ≤ 13 → at ≤ 2 ^ 66 → length (no_text number name at) ≤ 58
unfolding no_text
no-long number at name few wide low =
    let first : Short 20 (codes "job " ++ decimal number ++ codes " no ") =
    more (more (short_text 4 (codes "job ") (omega arith)) (digits_12 number few)) (short_text 4 (codes " no ") (omega arith)) in
    let all : Short 58 (no_text number name at) =
    more (more (more (more first (short_text 13 name wide)) (short_text 4 (codes " at ") (omega arith))) (digits_20 at low)) feed in
    all.short

-- the last line of a check
pub checked-long : (jobs right : ℕ) → jobs < 1000000000000 → right < 1000000000000 → length (checked_text jobs right) ≤ 39
unfolding checked_text
checked-long jobs right few less =
    let all : Short 39 (checked_text jobs right) =
    more (more (more (more (short_text 4 (codes "end ") (omega arith)) (digits_12 jobs few)) (short_text 10 (codes " jobs yes ") (omega arith)))
    (digits_12 right less)) feed in
    all.short

-- the line in front of the text of a capture among several
pub capture-long : (number : ℕ) → number < 1000 → length (capture_text number) ≤ 12
unfolding capture_text
capture-long number few =
    let all : Short 12 (capture_text number) = more (more (short_text 8 (codes "capture ") (omega arith)) (digits_3 number few)) feed in
    all.short

-- the line of a fault
pub refused-long : (name : List ℕ) (offset : ℕ) → length name ≤ 13 → offset < 10000000000 → length (refused_text name offset) ≤ 36
unfolding refused_text
refused-long name offset wide low =
    let all : Short 36 (refused_text name offset) =
    more (more (more (more (short_text 8 (codes "refused ") (omega arith)) (short_text 13 name wide)) (short_text 4 (codes " at ") (omega arith)))
    (digits_10 offset low)) feed in
    all.short
