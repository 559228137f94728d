-- Accepted words give each option a value in its range.
use Rattle.std.proofs.Common.{◌≡◌, ◌≤◌, ℕ, Bool, true, false, List, [], ◌∷◌, drop, Option, IfSome, refl}
use Rattle.std.proofs.lemmas.Bool.{and_parts, leb-true}
use Rattle.std.specs.Prelude.{bytes_eq, nat_le, if◌then◌else◌}
use Rattle.ht_words.specs.declared.asked.Asked.{Asked}
use Rattle.ht_words.specs.declared.setting.Setting.TheVariants.{Workers, Window, Seed, Noise, Frames, Mcs, Bandwidth, Length}
use Rattle.ht_words.specs.Settings.{admits, is_within}
use Rattle.ht_words.specs.Words.{IsForWorkers, IsWithinRanges, Row, are_accepted, asked_by, asked_of, commands, demo_in, for_demo, for_workers, is_plain}
use Rattle.ht_words.specs.Words.{only_if, value_of}

within : (least most value : ℕ) → is_within least most value ≡ true → (least ≤ value) × (value ≤ most)
within least most value inside =
    let parts = and_parts (nat_le least value) _ inside in
    (leb-true least value parts.0, leb-true value most parts.1)

for_workers_within : (words : List (List ℕ)) → are_accepted for_workers words ≡ true → IsForWorkers (value_of words Workers) (value_of words Window)
for_workers_within words accepted =
    let values = and_parts (is_plain for_workers words) _ accepted in
    let workers = and_parts (admits Workers (value_of words Workers)) _ values.1 in
    let window = and_parts (admits Window (value_of words Window)) _ workers.1 in
    let first = within 1 64 (value_of words Workers) workers.0 in
    let second = within 1 4096 (value_of words Window) window.0 in
    (first.0, first.1, second.0, second.1)

demo_within : (words : List (List ℕ)) → are_accepted for_demo words ≡ true → IsWithinRanges (demo_in words)
demo_within words accepted =
    let values = and_parts (is_plain for_demo words) _ accepted in
    let seed = and_parts (admits Seed (value_of words Seed)) _ values.1 in
    let noise = and_parts (admits Noise (value_of words Noise)) _ seed.1 in
    let frames = and_parts (admits Frames (value_of words Frames)) _ noise.1 in
    let mcs = and_parts (admits Mcs (value_of words Mcs)) _ frames.1 in
    let bandwidth = and_parts (admits Bandwidth (value_of words Bandwidth)) _ mcs.1 in
    let length = and_parts (admits Length (value_of words Length)) _ bandwidth.1 in
    let workers = and_parts (admits Workers (value_of words Workers)) _ length.1 in
    let window = and_parts (admits Window (value_of words Window)) _ workers.1 in
    let frames_in = within 1 64 (value_of words Frames) frames.0 in
    let length_in = within 1 65535 (value_of words Length) length.0 in
    let first = within 1 64 (value_of words Workers) workers.0 in
    let second = within 1 4096 (value_of words Window) window.0 in
    (frames_in.0, frames_in.1, length_in.0, length_in.1, (first.0, first.1, second.0, second.1))

only : (accepted : Bool) (asked : Asked) → (accepted ≡ true → IsWithinRanges asked) → IfSome (only_if accepted asked) IsWithinRanges
only true asked holds = holds refl
only false asked holds = tt

-- what the command asks for is in range, whatever accepted words give its options
abbrev AsksInRange : Row → Type 0
AsksInRange row = (words : List (List ℕ)) → are_accepted row.options words ≡ true → IsWithinRanges (row.asks words)

either : (test : Bool) (this that : Option Asked) → IfSome this IsWithinRanges → IfSome that IsWithinRanges
    → IfSome (if test then this else that) IsWithinRanges
either true this that first second = first
either false this that first second = second

abbrev AreInRange : List Row → Type 0
AreInRange [] = Unit {0}
AreInRange (row ∷ rows) = AsksInRange row × AreInRange rows

rows_in_range : (rows : List Row) (command : List ℕ) (words : List (List ℕ)) → AreInRange rows → IfSome (asked_of rows command words) IsWithinRanges
rows_in_range [] command words are = tt
rows_in_range (row ∷ rows) command words are =
    let this : Option Asked = only_if (are_accepted row.options words) (row.asks words) in
    either (bytes_eq command row.name) this (asked_of rows command words)
    (only (are_accepted row.options words) (row.asks words) (are.0 words)) (rows_in_range rows command words are.1)

-- what accepted words ask for is in range
pub asked-in_range : (words : List (List ℕ)) → IfSome (asked_by words) IsWithinRanges
asked-in_range [] = tt
asked-in_range (command ∷ words) =
    let behind : AreInRange (drop 4 commands) =
    ((λ _ _. tt), ((λ _ _. tt), ((λ _ _. tt), ((λ _ _. tt), ((λ _ _. tt), ((λ _ _. tt), (for_workers_within, (demo_within, tt)))))))) in
    let all : AreInRange commands = (for_workers_within, (for_workers_within, (for_workers_within, (for_workers_within, behind)))) in
    rows_in_range commands command words all
