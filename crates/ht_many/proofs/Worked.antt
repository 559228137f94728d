-- Worked values: texts numbered from 9 on, and the text of a bundle of `HX` and of no octets.
use Rattle.std.specs.Prelude.{◌≡◌, [], ◌∷◌, ◌++◌, codes, refl}
use Rattle.std.specs.Fmt.{digits}
use Rattle.ht_fields.specs.Meanings.{meaning, meaning_of}
use Rattle.ht_capture.specs.Fields.{judge_magic}
use Rattle.ht_results.specs.Results.{results_of}
use Rattle.ht_results.specs.Texts.{frame_lines_of, last_line, rx_text}
use Rattle.ht_text.specs.Lines.{capture_text, refused_text}
use Rattle.ht_many.specs.Bundles.{many_text, texts_from}

numbered : texts_from 9 ((0x61 ∷ 10 ∷ []) ∷ [] ∷ []) ≡ codes "capture 9" ++ 10 ∷ 0x61 ∷ 10 ∷ (codes "capture 10" ++ 10 ∷ [])
unfolding capture_text digits
numbered = refl

no_bundle : many_text [] ≡ []
unfolding many_text
no_bundle = refl

two : many_text ((0x48 ∷ 0x58 ∷ []) ∷ [] ∷ [])
    ≡ codes "capture 0" ++ 10 ∷ (codes "refused BadMagic at 1" ++ 10 ∷ (codes "capture 1" ++ 10 ∷ (codes "refused Truncated at 0" ++ 10 ∷ [])))
unfolding many_text rx_text frame_lines_of results_of last_line capture_text refused_text digits meaning meaning_of judge_magic
two = refl
