-- The texts of small files of certificates, by computation. Each has one stream of BPSK, the diagonal 10 and the sample 3 - 4j.
use Rattle.std.specs.Prelude.{◌≡◌, ℕ, List, [], ◌∷◌, ◌++◌, codes, length, map, refl, replicate}
use Rattle.std.specs.Fmt.{digits}
use Rattle.ht_capture.specs.Numbers.{sample_at, tap_at}
use Rattle.ht_capture.specs.Systems.{triangle_of}
use Rattle.ht_cert.specs.Formats.{good_claim, good_mark, good_marks, good_modulation, good_streams, marks_due, marks_given, next_turn, records_due}
use Rattle.ht_cert.specs.Records.{claimed, point_at, with_marks}
use Rattle.ht_fields.specs.Meanings.{meaning, meaning_of}
use Rattle.ht_fields.specs.Tests.{checked}
use Rattle.ht_heads.specs.Starts.{good_count, good_magic, good_version, is_outside}
use Rattle.ht_map.specs.Constellation.{axes_of}
use Rattle.ht_text.specs.Lines.{checked_text, line_feed, no_text, refused_text, yes_text}
use Rattle.ht_certify.specs.Checks.{check_line, check_text, yes_count}

-- a record: the octet of the point's I, the distance and the marks
record_with : ℕ → ℕ → List ℕ → List ℕ
record_with i distance marks =
    0 ∷ 1 ∷ 0 ∷ 10 ∷ 0 ∷ 0 ∷ 0 ∷ 3 ∷ 255 ∷ 255 ∷ 255 ∷ 252 ∷ i ∷ 0 ∷ (replicate 15 0 ++ distance ∷ 0 ∷ 0 ∷ 0 ∷ length marks ∷ marks)

file_with : ℕ → List ℕ → List ℕ
file_with count records = 72 ∷ 84 ∷ 67 ∷ 84 ∷ 1 ∷ (replicate 7 0 ++ count ∷ records)

-- the point (1, 0) at 65, with these marks
right : List ℕ → List ℕ
right marks = record_with 1 65 marks

lines : List (List ℕ) → List ℕ
lines [] = []
lines (text ∷ texts) = (text ++ line_feed) ++ lines texts

-- what is right, and each thing that can be wrong
judged : check_text (file_with 8 (right (1 ∷ 0 ∷ 1 ∷ []) ++ right (1 ∷ 1 ∷ 1 ∷ []) ++ record_with 255 185 (1 ∷ 1 ∷ 1 ∷ []) ++ record_with 1 64 (1 ∷ 1 ∷ 1 ∷ [])
    ++ right (0 ∷ []) ++ right (1 ∷ 0 ∷ []) ++ right (1 ∷ 0 ∷ 1 ∷ 1 ∷ []) ++ record_with 0 65 []))
    ≡ lines (codes "job 0 yes" ∷ codes "job 1 yes" ∷ codes "job 2 no Better at 2" ∷ codes "job 3 no WrongDistance at 65" ∷ codes "job 4 no Early at 0"
    ∷ codes "job 5 no Short at 2" ∷ codes "job 6 no Long at 3" ∷ codes "job 7 no OffGrid at 1" ∷ codes "end 8 jobs yes 2" ∷ [])
unfolding record_with file_with right lines check_line yes_count meaning meaning_of checked good_magic good_version good_count is_outside records_due
    next_turn marks_due marks_given good_modulation good_streams good_claim good_marks good_mark claimed with_marks point_at sample_at tap_at triangle_of
    axes_of yes_text no_text checked_text refused_text digits
judged = refl

-- no records, an octet behind the file, one too few, and octets that can't be right
ends : map check_text (file_with 0 [] ∷ (file_with 1 (right (1 ∷ 0 ∷ 1 ∷ [])) ++ 0 ∷ []) ∷ file_with 1 (record_with 1 65 (1 ∷ 0 ∷ 2 ∷ []))
    ∷ file_with 2 (right (1 ∷ 0 ∷ []) ++ 4 ∷ []) ∷ file_with 1 (0 ∷ 5 ∷ []) ∷ file_with 1 [] ∷ (72 ∷ 84 ∷ 67 ∷ 80 ∷ []) ∷ [] ∷ [])
    ≡ lines (codes "end 0 jobs yes 0" ∷ []) ∷ lines (codes "job 0 yes" ∷ codes "refused Trailing at 50" ∷ []) ∷ lines (codes "refused BadMark at 49" ∷ [])
    ∷ lines (codes "job 0 no Short at 2" ∷ codes "refused BadModulation at 49" ∷ []) ∷ lines (codes "refused BadStreams at 14" ∷ [])
    ∷ lines (codes "refused Truncated at 13" ∷ []) ∷ lines (codes "refused BadMagic at 3" ∷ []) ∷ lines (codes "refused Truncated at 0" ∷ []) ∷ []
unfolding record_with file_with right lines check_line yes_count meaning meaning_of checked good_magic good_version good_count is_outside records_due
    next_turn marks_due marks_given good_modulation good_streams good_claim good_marks good_mark claimed with_marks point_at sample_at tap_at triangle_of
    axes_of yes_text no_text checked_text refused_text digits
ends = refl
