-- Captures that are received apart, and their texts.
use Rattle.std.specs.Prelude.{◌≡◌, ℕ, ◌<◌, List, length, map, slice_index_or, Option, Some, IfSome}
use Rattle.ht_io.specs.Writing.{Growing}
use Rattle.ht_results.specs.Texts.{rx_text}
use Rattle.ht_many.specs.declared.apart.Apart.{Apart}

-- what is held is the text of the capture, where anything is
abbrev pub HoldsText : List ℕ → Option Growing → Type 0
HoldsText capture text = IfSome text (λ (s : Growing). s.held ≡ rx_text capture)

abbrev pub captures_in : List Apart → List (List ℕ)
captures_in all = map (λ (a : Apart). a.capture) all

abbrev pub texts_in : List Apart → List (Option Growing)
texts_in all = map (λ (a : Apart). a.text) all

-- these texts, and none is lacking
abbrev pub held_all : List Growing → List (Option Growing)
held_all sinks = map (λ (s : Growing). let some : Option Growing = Some s in some) sinks

-- each capture was received: its text is held, or none for lack of memory
abbrev pub AreReceived : List Apart → List Apart → Type 0
AreReceived before after = (k : ℕ) (d : Apart) → k < length before
    → HoldsText (slice_index_or before k d).capture (slice_index_or after k d).text
