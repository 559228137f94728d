-- The texts of the captures of a bundle.
use Rattle.std.specs.Prelude.{◌≡◌, ℕ, ◌+◌, ◌<◌, ◌≤◌, List, [], ◌∷◌, ◌++◌, length, map, drop, take, get_or, replicate, Some}
use Rattle.std.proofs.Common.{refl, ap, ◌∙◌, sym, subst, append_assoc, append-nil, add-one, arith}
use Rattle.std.proofs.Math.Seq.{drop-cons}
use Rattle.std.proofs.lemmas.List.{drop_all, ext_get_or, get_or-map, get_or-replicate, length-map, length-replicate, replicate-append-replicate, take_all}
use Rattle.ht_io.specs.Devices.{Device}
use Rattle.ht_io.specs.Writing.{Growing, device_of_growing}
use Rattle.ht_results.specs.Texts.{rx_text}
use Rattle.ht_text.specs.Lines.{capture_text}
use Rattle.ht_many.specs.declared.many_end.ManyEnd.{ManyEnd}
use Rattle.ht_many.specs.declared.many_end.ManyEnd.TheVariants.{Read}
use Rattle.ht_many.specs.Alone.{Alone, HasText}
use Rattle.ht_many.specs.Several.{AreLater, EachEnds, devices}
use Rattle.ht_many.specs.Bundles.{texts_from}
use Rattle.ht_many.proofs.Ended.{ended_text}

-- a source of these octets that never fails
abbrev pub sure : List ℕ → Device ℕ
sure octets = record { known = Some octets; faults = 0; borrow = 0 }

-- a sink that holds nothing
abbrev pub nothing_held : Growing
nothing_held = record { held = []; faults = 0 }

abbrev pub held_by : Growing → List ℕ
held_by s = s.held

-- one more sink that holds nothing
pub one_more_sink : (count : ℕ) (sinks more : List Growing) (s : Growing) → s ≡ nothing_held → sinks ≡ replicate count nothing_held
    → more ≡ sinks ++ s ∷ [] → more ≡ replicate (count + 1) nothing_held
one_more_sink count sinks more s none are is =
    is ∙ (ap (λ (z : List Growing). z ++ s ∷ []) are
    ∙ (ap (λ (x : Growing). replicate count nothing_held ++ x ∷ []) none ∙ replicate-append-replicate count 1 nothing_held))

-- where the whole text of each capture was put, these texts are held
pub texts_are : (captures after : List (List ℕ)) (fresh sinks : List Growing) (ends : List ManyEnd) → fresh ≡ replicate (length captures) nothing_held
    → length sinks ≡ length captures → EachEnds sure device_of_growing (devices captures fresh) (devices after sinks) ends
    → ((k : ℕ) → k < length ends → HasText (get_or ends k Read)) → map held_by sinks ≡ map rx_text captures
texts_are captures after fresh sinks ends none as_many each text =
    let lengths : length (map held_by sinks) ≡ length (map rx_text captures) = length-map sinks held_by ∙ (as_many ∙ sym (length-map captures rx_text)) in
    ext_get_or [] (map held_by sinks) (map rx_text captures) lengths same
  where
    same : (k : ℕ) → k < length (map held_by sinks) → get_or (map held_by sinks) k [] ≡ get_or (map rx_text captures) k []
    same k low =
        let below : k < length sinks = omega (arith, low, length-map sinks held_by) in
        let within : k < length captures = omega (arith, below, as_many) in
        let ended : k < length ends = omega (arith, within, each.as_many) in
        let s = get_or captures k [] in
        let t : Growing = get_or sinks k nothing_held in
        let empty : get_or fresh k nothing_held ≡ nothing_held =
        ap (λ (z : List Growing). get_or z k nothing_held) none ∙ get_or-replicate (length captures) k nothing_held nothing_held within in
        let own : Alone (sure s) (sure (get_or after k [])) (device_of_growing nothing_held) (device_of_growing t) (get_or ends k Read) =
        subst (λ (z : Growing). Alone (sure s) (sure (get_or after k [])) (device_of_growing z) (device_of_growing t) (get_or ends k Read)) empty
        (each.each k within [] nothing_held) in
        let here : t.held ≡ rx_text s =
        ended_text (get_or ends k Read) s (sure s) (sure (get_or after k [])) (device_of_growing nothing_held) (device_of_growing t) refl own (text k ended) in
        get_or-map held_by sinks k nothing_held [] below ∙ (here ∙ sym (get_or-map rx_text captures k [] [] within))

-- the texts from a number on, and those behind the first of them
pub texts_step : (texts : List (List ℕ)) (k : ℕ) (text : List ℕ) → k < length texts → text ≡ get_or texts k []
    → (capture_text k ++ text) ++ texts_from (k + 1) (drop (k + 1) texts) ≡ texts_from k (drop k texts)
texts_step texts k text low is =
    let here : drop k texts ≡ text ∷ drop (k + 1) texts =
    rw add-one (drop-cons texts k [] low) ∙ ap (λ (s : List ℕ). s ∷ drop (k + 1) texts) (sym is) in
    ap (λ (z : List (List ℕ)). texts_from k z) (sym here)

-- the front, and the texts that are left, are all
pub texts_more : (texts : List (List ℕ)) (k : ℕ) (text front whole : List ℕ) → k < length texts → text ≡ get_or texts k []
    → front ++ texts_from k (drop k texts) ≡ whole → (front ++ (capture_text k ++ text)) ++ texts_from (k + 1) (drop (k + 1) texts) ≡ whole
texts_more texts k text front whole low is all =
    append_assoc front (capture_text k ++ text) (texts_from (k + 1) (drop (k + 1) texts))
    ∙ (ap (λ (z : List ℕ). front ++ z) (texts_step texts k text low is) ∙ all)

pub texts_end : (texts : List (List ℕ)) (k : ℕ) (front whole : List ℕ) → length texts ≤ k
    → front ++ texts_from k (drop k texts) ≡ whole → front ≡ whole
texts_end texts k front whole over all =
    sym (append-nil front) ∙ (ap (λ (z : List (List ℕ)). front ++ texts_from k z) (sym (drop_all k texts over)) ∙ all)

-- the text of a sink among them
pub held_at : (sinks : List Growing) (k : ℕ) (s none : Growing) (text : List ℕ) → k < length sinks → s ≡ get_or sinks k none → text ≡ s.held
    → text ≡ get_or (map held_by sinks) k []
held_at sinks k s none text low is held = held ∙ (ap held_by is ∙ sym (get_or-map held_by sinks k none [] low))

-- what a slice of the whole list leaves there
pub written_back : {X : Type 0} (xs was : List X) (size : ℕ) → size ≡ length was → length xs ≡ length was → take size (xs ++ drop (length xs) was) ≡ xs
written_back {X = X} xs was size is same =
    let none : drop (length xs) was ≡ [] = drop_all (length xs) was (omega (arith, same)) in
    let all : size ≡ length xs = is ∙ sym same in
    ap (λ (z : List X). take size (xs ++ z)) none
    ∙ (ap (λ (z : List X). take size z) (append-nil xs)
    ∙ (ap (λ (n : ℕ). take n xs) all ∙ take_all (length xs) xs (omega arith)))

-- the same, where the captures, the sinks and the ends go by several names
pub all_put : (captures sources lent after : List (List ℕ)) (fresh lent_sinks sinks : List Growing) (ends seen : List ManyEnd) (count size : ℕ)
    → sources ≡ captures → lent ≡ sources → count ≡ length captures → fresh ≡ replicate count nothing_held → lent_sinks ≡ fresh → seen ≡ ends
    → EachEnds sure device_of_growing (devices lent lent_sinks) (devices after sinks) ends
    → AreLater sure device_of_growing (devices lent lent_sinks) (devices after sinks)
    → ((k : ℕ) → k < length seen → HasText (get_or seen k Read)) → size ≡ length fresh
    → map held_by (take size (sinks ++ drop (length sinks) fresh)) ≡ map rx_text captures
all_put captures sources lent after fresh lent_sinks sinks ends seen count size a b n c d e each later text wide =
    let same : lent ≡ captures = b ∙ a in
    let none : lent_sinks ≡ replicate (length captures) nothing_held = d ∙ (c ∙ ap (λ (m : ℕ). replicate m nothing_held) n) in
    let as_many : length sinks ≡ length captures =
    later.sinks ∙ (ap (λ (z : List Growing). length z) none ∙ length-replicate (length captures) nothing_held) in
    let own : EachEnds sure device_of_growing (devices captures lent_sinks) (devices after sinks) ends =
    subst (λ (z : List (List ℕ)). EachEnds sure device_of_growing (devices z lent_sinks) (devices after sinks) ends) same each in
    let texts : (k : ℕ) → k < length ends → HasText (get_or ends k Read) =
    subst (λ (z : List ManyEnd). (k : ℕ) → k < length z → HasText (get_or z k Read)) e text in
    let back : take size (sinks ++ drop (length sinks) fresh) ≡ sinks =
    written_back sinks fresh size wide (later.sinks ∙ ap (λ (z : List Growing). length z) d) in
    ap (λ (z : List Growing). map held_by z) back ∙ texts_are captures after lent_sinks sinks ends none as_many own texts
