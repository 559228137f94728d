-- Captures and their faults, by computation.
use Rattle.std.specs.Prelude.{◌≡◌, ℕ, zero, suc, List, [], ◌∷◌, ◌++◌, Some, None, length, replicate, refl}
use Rattle.ht_io.specs.declared.faults.Kind.TheVariants.{BadMagic, BadVersion, BadErased, BadBandwidth, BadMcs, BadLength, Truncated, Trailing}
use Rattle.ht_fields.specs.Meanings.{meaning, meaning_of, refused}
use Rattle.ht_capture.specs.Captures.{capture_of}
use Rattle.ht_capture.specs.Frames.{jobs_at, erase}
use Rattle.ht_capture.specs.Fields.{judge_magic, judge_version, judge_count, turn_due, judge_bandwidth, judge_mcs, judge_length, carriers_due}
use Rattle.ht_capture.specs.Fields.{bad_flag, judge_flag, judge_triangle, head_given, symbol_due, judge_symbol, next_symbol, next_turn}
use Rattle.ht_rate.specs.Rates.{rate_at, carriers_of, data_carriers_of, pilots_of, streams_of, symbols_of, needed_bits_of, data_bits_of}
use Rattle.ht_rate.specs.Rates.{encoders_of, mcs_of, bandwidth_of, coded_bits_of, stream_bits_of, label_bits_of, modulation_of, pattern_of}

-- the magic stops at its first wrong octet
wrong_magic : capture_of (72 ∷ 88 ∷ []) ≡ refused BadMagic 1
unfolding meaning meaning_of judge_magic
wrong_magic = refl

no_octet : capture_of [] ≡ refused Truncated 0
unfolding meaning meaning_of
no_octet = refl

-- version 3
wrong_version : capture_of (72 ∷ 84 ∷ 67 ∷ 80 ∷ 3 ∷ 0 ∷ []) ≡ refused BadVersion 4
unfolding meaning meaning_of judge_magic judge_version
wrong_version = refl

-- no frame, and one octet more
one_more : capture_of (72 ∷ 84 ∷ 67 ∷ 80 ∷ 2 ∷ 0 ∷ 0 ∷ 9 ∷ []) ≡ refused Trailing 7
unfolding meaning meaning_of judge_magic judge_version judge_count turn_due
one_more = refl

-- octet 7 is 2
wrong_bandwidth : capture_of (72 ∷ 84 ∷ 67 ∷ 80 ∷ 1 ∷ 0 ∷ 1 ∷ 2 ∷ []) ≡ refused BadBandwidth 7
unfolding meaning meaning_of judge_magic judge_version judge_count turn_due judge_bandwidth
wrong_bandwidth = refl

wrong_mcs : capture_of (72 ∷ 84 ∷ 67 ∷ 80 ∷ 1 ∷ 0 ∷ 1 ∷ 1 ∷ 32 ∷ []) ≡ refused BadMcs 8
unfolding meaning meaning_of judge_magic judge_version judge_count turn_due judge_bandwidth judge_mcs
wrong_mcs = refl

no_length : capture_of (72 ∷ 84 ∷ 67 ∷ 80 ∷ 1 ∷ 0 ∷ 1 ∷ 0 ∷ 0 ∷ 0 ∷ 0 ∷ []) ≡ refused BadLength 9
unfolding meaning meaning_of judge_magic judge_version judge_count turn_due judge_bandwidth judge_mcs judge_length
no_length = refl

-- two octets each for 56 subcarriers of one stream
diagonals : ℕ → List ℕ
diagonals zero = []
diagonals (suc n) = 0 ∷ 10 ∷ diagonals n

-- 1,019 octets: 20 MHz, MCS 0, length 1, so two symbols
z : List ℕ
z = 72 ∷ 84 ∷ 67 ∷ 80 ∷ 1 ∷ 0 ∷ 1 ∷ 0 ∷ 0 ∷ 0 ∷ 1 ∷ (diagonals 56 ++ replicate 896 0)

z_length : length z ≡ 1019
unfolding z diagonals
z_length = refl

-- its fault, how many items it has, and where the jobs stand
faultless : (capture_of z).fault ≡ None
unfolding z diagonals meaning meaning_of judge_magic judge_version judge_count turn_due judge_bandwidth judge_mcs judge_length carriers_due
    judge_triangle head_given symbol_due judge_symbol next_symbol next_turn jobs_at rate_at carriers_of data_carriers_of pilots_of streams_of
    symbols_of needed_bits_of data_bits_of encoders_of mcs_of bandwidth_of coded_bits_of stream_bits_of label_bits_of modulation_of pattern_of
faultless = refl

counted : length (capture_of z).items ≡ 113
unfolding z diagonals meaning meaning_of judge_magic judge_version judge_count turn_due judge_bandwidth judge_mcs judge_length carriers_due
    judge_triangle head_given symbol_due judge_symbol next_symbol next_turn jobs_at rate_at carriers_of data_carriers_of pilots_of streams_of
    symbols_of needed_bits_of data_bits_of encoders_of mcs_of bandwidth_of coded_bits_of stream_bits_of label_bits_of modulation_of pattern_of
counted = refl

-- one octet more
longer : (capture_of (z ++ 0 ∷ [])).fault ≡ Some (record { kind = Trailing; offset = 1019 })
unfolding z diagonals meaning meaning_of judge_magic judge_version judge_count turn_due judge_bandwidth judge_mcs judge_length carriers_due
    judge_triangle head_given symbol_due judge_symbol next_symbol next_turn jobs_at rate_at carriers_of data_carriers_of pilots_of streams_of
    symbols_of needed_bits_of data_bits_of encoders_of mcs_of bandwidth_of coded_bits_of stream_bits_of label_bits_of modulation_of pattern_of
longer = refl

-- version 2: a first flag that is none, and 56 flags that leave no subcarrier
wrong_flag : capture_of (72 ∷ 84 ∷ 67 ∷ 80 ∷ 2 ∷ 0 ∷ 1 ∷ 0 ∷ 0 ∷ 0 ∷ 1 ∷ 0 ∷ 0 ∷ 10 ∷ 10 ∷ []) ≡ refused BadErased 14
unfolding meaning meaning_of judge_magic judge_version judge_count turn_due judge_bandwidth judge_mcs judge_length carriers_due judge_flag bad_flag
    judge_triangle head_given rate_at carriers_of data_carriers_of pilots_of streams_of
wrong_flag = refl

all_erased : capture_of (72 ∷ 84 ∷ 67 ∷ 80 ∷ 2 ∷ 0 ∷ 1 ∷ 0 ∷ 0 ∷ 0 ∷ 1 ∷ replicate 56 1) ≡ refused BadErased 66
unfolding meaning meaning_of judge_magic judge_version judge_count turn_due judge_bandwidth judge_mcs judge_length carriers_due judge_flag bad_flag
    head_given erase rate_at carriers_of data_carriers_of pilots_of
all_erased = refl
