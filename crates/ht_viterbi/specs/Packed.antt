-- Received places packed into words, and the turns of a pattern, whose input is looked up at once.
use Rattle.std.specs.Prelude.{◌≡◌, ℕ, ◌+◌, ◌*◌, ◌/◌, ◌%◌, List, [], ◌∷◌, length, map, slice_index_or, Bool, ◌==◌, Option, Some}
use Rattle.std.specs.Int.{bit_at}
use Rattle.std.specs.List.{range_with_len}
use Rattle.ht_rate.specs.declared.kinds.Pattern.{Pattern}
use Rattle.ht_rate.specs.declared.kinds.Pattern.TheVariants.{Half, TwoThirds, ThreeQuarters, FiveSixths}
use Rattle.ht_conv.specs.declared.puncture.Kept.{Kept}
use Rattle.ht_conv.specs.declared.puncture.Kept.TheVariants.{Both, A, B}
use Rattle.ht_viterbi.specs.Trellis.{moved, output_a, output_b}

-- a bit of a number
abbrev pub flag : ℕ → ℕ → Bool
flag word place = bit_at word place == 1

-- a place of those that words hold, 60 each, the first one lowest
abbrev pub packed_bit : List ℕ → ℕ → Bool
packed_bit words place = flag (slice_index_or words (place / 60) 0) (place % 60)

-- the first of them
unfoldable pub packed : List ℕ → ℕ → List (Option Bool)
packed words count = map (λ place. Some (packed_bit words place)) (range_with_len 0 count)

-- the first bits of a number from one on, as a list
abbrev pub flags_of : ℕ → ℕ → ℕ → List Bool
flags_of word from count = map (flag word) (range_with_len from count)

-- the steps of a turn: whole periods of the pattern
abbrev pub turn_of : Pattern → List Kept
turn_of Half = Both ∷ Both ∷ Both ∷ []
turn_of TwoThirds = Both ∷ A ∷ Both ∷ A ∷ []
turn_of ThreeQuarters = Both ∷ A ∷ B ∷ []
turn_of FiveSixths = Both ∷ A ∷ B ∷ A ∷ B ∷ []

-- the number of its places, of which a word has whole turns
abbrev pub turn_places : Pattern → ℕ
turn_places Half = 6
turn_places TwoThirds = 6
turn_places ThreeQuarters = 4
turn_places FiveSixths = 6

-- the turns of a word
abbrev pub word_turns : Pattern → ℕ
word_turns Half = 10
word_turns TwoThirds = 10
word_turns ThreeQuarters = 15
word_turns FiveSixths = 10

-- the steps of a word
abbrev pub word_steps : Pattern → ℕ
word_steps Half = 30
word_steps TwoThirds = 40
word_steps ThreeQuarters = 45
word_steps FiveSixths = 50

-- the bits of `code` from i on are the coded bits of steps from a state, whose input is the bits of `input` from j on, and
-- which lead to the state `end`
abbrev pub TurnExplains : List Kept → ℕ → ℕ → ℕ → ℕ → ℕ → ℕ → Type 0
TurnExplains [] code i state input j end = state ≡ end
TurnExplains (Both ∷ kepts) code i state input j end =
    (flag code i ≡ output_a state (flag input j)) × (flag code (i + 1) ≡ output_b state (flag input j))
    × TurnExplains kepts code (i + 2) (moved state (flag input j)) input (j + 1) end
TurnExplains (A ∷ kepts) code i state input j end =
    (flag code i ≡ output_a state (flag input j)) × TurnExplains kepts code (i + 1) (moved state (flag input j)) input (j + 1) end
TurnExplains (B ∷ kepts) code i state input j end =
    (flag code i ≡ output_b state (flag input j)) × TurnExplains kepts code (i + 1) (moved state (flag input j)) input (j + 1) end

-- What a turn's places give is linear: the sum of what the state gives and of what the places give. The lowest bits are
-- the input, a bit for each step, and those above are 0 where it explains all places.
unfoldable pub state_sums : Pattern → List ℕ
state_sums Half =
    0 ∷ 21 ∷ 63 ∷ 42 ∷ 54 ∷ 35 ∷ 9 ∷ 28 ∷ 49 ∷ 36 ∷ 14 ∷ 27 ∷ 7 ∷ 18 ∷ 56 ∷ 45 ∷
    55 ∷ 34 ∷ 8 ∷ 29 ∷ 1 ∷ 20 ∷ 62 ∷ 43 ∷ 6 ∷ 19 ∷ 57 ∷ 44 ∷ 48 ∷ 37 ∷ 15 ∷ 26 ∷
    46 ∷ 59 ∷ 17 ∷ 4 ∷ 24 ∷ 13 ∷ 39 ∷ 50 ∷ 31 ∷ 10 ∷ 32 ∷ 53 ∷ 41 ∷ 60 ∷ 22 ∷ 3 ∷
    25 ∷ 12 ∷ 38 ∷ 51 ∷ 47 ∷ 58 ∷ 16 ∷ 5 ∷ 40 ∷ 61 ∷ 23 ∷ 2 ∷ 30 ∷ 11 ∷ 33 ∷ 52 ∷ []
state_sums TwoThirds =
    0 ∷ 13 ∷ 55 ∷ 58 ∷ 46 ∷ 35 ∷ 25 ∷ 20 ∷ 33 ∷ 44 ∷ 22 ∷ 27 ∷ 15 ∷ 2 ∷ 56 ∷ 53 ∷
    47 ∷ 34 ∷ 24 ∷ 21 ∷ 1 ∷ 12 ∷ 54 ∷ 59 ∷ 14 ∷ 3 ∷ 57 ∷ 52 ∷ 32 ∷ 45 ∷ 23 ∷ 26 ∷
    62 ∷ 51 ∷ 9 ∷ 4 ∷ 16 ∷ 29 ∷ 39 ∷ 42 ∷ 31 ∷ 18 ∷ 40 ∷ 37 ∷ 49 ∷ 60 ∷ 6 ∷ 11 ∷
    17 ∷ 28 ∷ 38 ∷ 43 ∷ 63 ∷ 50 ∷ 8 ∷ 5 ∷ 48 ∷ 61 ∷ 7 ∷ 10 ∷ 30 ∷ 19 ∷ 41 ∷ 36 ∷ []
state_sums ThreeQuarters =
    0 ∷ 5 ∷ 11 ∷ 14 ∷ 2 ∷ 7 ∷ 9 ∷ 12 ∷ 5 ∷ 0 ∷ 14 ∷ 11 ∷ 7 ∷ 2 ∷ 12 ∷ 9 ∷
    3 ∷ 6 ∷ 8 ∷ 13 ∷ 1 ∷ 4 ∷ 10 ∷ 15 ∷ 6 ∷ 3 ∷ 13 ∷ 8 ∷ 4 ∷ 1 ∷ 15 ∷ 10 ∷
    10 ∷ 15 ∷ 1 ∷ 4 ∷ 8 ∷ 13 ∷ 3 ∷ 6 ∷ 15 ∷ 10 ∷ 4 ∷ 1 ∷ 13 ∷ 8 ∷ 6 ∷ 3 ∷
    9 ∷ 12 ∷ 2 ∷ 7 ∷ 11 ∷ 14 ∷ 0 ∷ 5 ∷ 12 ∷ 9 ∷ 7 ∷ 2 ∷ 14 ∷ 11 ∷ 5 ∷ 0 ∷ []
state_sums FiveSixths =
    0 ∷ 13 ∷ 51 ∷ 62 ∷ 10 ∷ 7 ∷ 57 ∷ 52 ∷ 21 ∷ 24 ∷ 38 ∷ 43 ∷ 31 ∷ 18 ∷ 44 ∷ 33 ∷
    27 ∷ 22 ∷ 40 ∷ 37 ∷ 17 ∷ 28 ∷ 34 ∷ 47 ∷ 14 ∷ 3 ∷ 61 ∷ 48 ∷ 4 ∷ 9 ∷ 55 ∷ 58 ∷
    42 ∷ 39 ∷ 25 ∷ 20 ∷ 32 ∷ 45 ∷ 19 ∷ 30 ∷ 63 ∷ 50 ∷ 12 ∷ 1 ∷ 53 ∷ 56 ∷ 6 ∷ 11 ∷
    49 ∷ 60 ∷ 2 ∷ 15 ∷ 59 ∷ 54 ∷ 8 ∷ 5 ∷ 36 ∷ 41 ∷ 23 ∷ 26 ∷ 46 ∷ 35 ∷ 29 ∷ 16 ∷ []

-- of at most six places; what is above those of the turn, which no code of it reaches, explains nothing
unfoldable pub code_sums : Pattern → List ℕ
code_sums Half =
    0 ∷ 29 ∷ 8 ∷ 21 ∷ 50 ∷ 47 ∷ 58 ∷ 39 ∷ 16 ∷ 13 ∷ 24 ∷ 5 ∷ 34 ∷ 63 ∷ 42 ∷ 55 ∷
    36 ∷ 57 ∷ 44 ∷ 49 ∷ 22 ∷ 11 ∷ 30 ∷ 3 ∷ 52 ∷ 41 ∷ 60 ∷ 33 ∷ 6 ∷ 27 ∷ 14 ∷ 19 ∷
    32 ∷ 61 ∷ 40 ∷ 53 ∷ 18 ∷ 15 ∷ 26 ∷ 7 ∷ 48 ∷ 45 ∷ 56 ∷ 37 ∷ 2 ∷ 31 ∷ 10 ∷ 23 ∷
    4 ∷ 25 ∷ 12 ∷ 17 ∷ 54 ∷ 43 ∷ 62 ∷ 35 ∷ 20 ∷ 9 ∷ 28 ∷ 1 ∷ 38 ∷ 59 ∷ 46 ∷ 51 ∷ []
code_sums TwoThirds =
    0 ∷ 29 ∷ 16 ∷ 13 ∷ 42 ∷ 55 ∷ 58 ∷ 39 ∷ 36 ∷ 57 ∷ 52 ∷ 41 ∷ 14 ∷ 19 ∷ 30 ∷ 3 ∷
    32 ∷ 61 ∷ 48 ∷ 45 ∷ 10 ∷ 23 ∷ 26 ∷ 7 ∷ 4 ∷ 25 ∷ 20 ∷ 9 ∷ 46 ∷ 51 ∷ 62 ∷ 35 ∷
    8 ∷ 21 ∷ 24 ∷ 5 ∷ 34 ∷ 63 ∷ 50 ∷ 47 ∷ 44 ∷ 49 ∷ 60 ∷ 33 ∷ 6 ∷ 27 ∷ 22 ∷ 11 ∷
    40 ∷ 53 ∷ 56 ∷ 37 ∷ 2 ∷ 31 ∷ 18 ∷ 15 ∷ 12 ∷ 17 ∷ 28 ∷ 1 ∷ 38 ∷ 59 ∷ 54 ∷ 43 ∷ []
code_sums ThreeQuarters =
    0 ∷ 13 ∷ 8 ∷ 5 ∷ 6 ∷ 11 ∷ 14 ∷ 3 ∷ 4 ∷ 9 ∷ 12 ∷ 1 ∷ 2 ∷ 15 ∷ 10 ∷ 7 ∷
    128 ∷ 128 ∷ 128 ∷ 128 ∷ 128 ∷ 128 ∷ 128 ∷ 128 ∷ 128 ∷ 128 ∷ 128 ∷ 128 ∷ 128 ∷ 128 ∷ 128 ∷ 128 ∷
    128 ∷ 128 ∷ 128 ∷ 128 ∷ 128 ∷ 128 ∷ 128 ∷ 128 ∷ 128 ∷ 128 ∷ 128 ∷ 128 ∷ 128 ∷ 128 ∷ 128 ∷ 128 ∷
    128 ∷ 128 ∷ 128 ∷ 128 ∷ 128 ∷ 128 ∷ 128 ∷ 128 ∷ 128 ∷ 128 ∷ 128 ∷ 128 ∷ 128 ∷ 128 ∷ 128 ∷ 128 ∷ []
code_sums FiveSixths =
    0 ∷ 45 ∷ 32 ∷ 13 ∷ 30 ∷ 51 ∷ 62 ∷ 19 ∷ 20 ∷ 57 ∷ 52 ∷ 25 ∷ 10 ∷ 39 ∷ 42 ∷ 7 ∷
    24 ∷ 53 ∷ 56 ∷ 21 ∷ 6 ∷ 43 ∷ 38 ∷ 11 ∷ 12 ∷ 33 ∷ 44 ∷ 1 ∷ 18 ∷ 63 ∷ 50 ∷ 31 ∷
    16 ∷ 61 ∷ 48 ∷ 29 ∷ 14 ∷ 35 ∷ 46 ∷ 3 ∷ 4 ∷ 41 ∷ 36 ∷ 9 ∷ 26 ∷ 55 ∷ 58 ∷ 23 ∷
    8 ∷ 37 ∷ 40 ∷ 5 ∷ 22 ∷ 59 ∷ 54 ∷ 27 ∷ 28 ∷ 49 ∷ 60 ∷ 17 ∷ 2 ∷ 47 ∷ 34 ∷ 15 ∷ []
