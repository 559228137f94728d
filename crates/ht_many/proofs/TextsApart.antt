-- The texts of captures that are received apart.
use Rattle.std.proofs.Common.{◌≡◌, ◌∙◌, ℕ, ◌<◌, ◌++◌, List, [], Option, Some, None, length, map, take, drop, get_or, ap, subst, sym, arith}
use Rattle.std.proofs.lemmas.List.{ext_get_or, get_or-map, length-map}
use Rattle.ht_io.specs.Writing.{Growing}
use Rattle.ht_results.specs.Texts.{rx_text}
use Rattle.ht_many.proofs.Texts.{held_by, nothing_held, written_back}
use Rattle.ht_many.specs.declared.apart.Apart.{Apart}
use Rattle.ht_many.specs.Apart.{AreReceived, HoldsText, captures_in, held_all, texts_in}

abbrev in_some : Growing → Option Growing
in_some s = Some s

-- where no text is lacking, these are the texts of the captures
pub texts_apart_are : (captures : List (List ℕ)) (before after : List Apart) (sinks : List Growing) (none : Apart) → captures_in before ≡ captures
    → length after ≡ length before → AreReceived before after → texts_in after ≡ held_all sinks → map held_by sinks ≡ map rx_text captures
texts_apart_are captures before after sinks none are as_many received held =
    ext_get_or [] (map held_by sinks) (map rx_text captures) lengths same
  where
    as_held : length sinks ≡ length after
    as_held = sym (length-map sinks in_some) ∙ (ap (λ (z : List (Option Growing)). length z) (sym held) ∙ length-map after (λ (a : Apart). a.text))

    as_given : length captures ≡ length before
    as_given = ap (λ (z : List (List ℕ)). length z) (sym are) ∙ length-map before (λ (a : Apart). a.capture)

    lengths : length (map held_by sinks) ≡ length (map rx_text captures)
    lengths = length-map sinks held_by ∙ (as_held ∙ (as_many ∙ (sym as_given ∙ sym (length-map captures rx_text))))

    same : (k : ℕ) → k < length (map held_by sinks) → get_or (map held_by sinks) k [] ≡ get_or (map rx_text captures) k []
    same k low =
        let below : k < length sinks = omega (arith, low, length-map sinks held_by) in
        let held_there : k < length after = omega (arith, below, as_held) in
        let within : k < length before = omega (arith, held_there, as_many) in
        let given : k < length captures = omega (arith, within, as_given) in
        let s : Growing = get_or sinks k nothing_held in
        let text : (get_or after k none).text ≡ in_some s =
        sym (get_or-map (λ (a : Apart). a.text) after k none (in_some nothing_held) held_there)
        ∙ (ap (λ (z : List (Option Growing)). get_or z k (in_some nothing_held)) held
        ∙ get_or-map in_some sinks k nothing_held (in_some nothing_held) below) in
        let capture : (get_or before k none).capture ≡ get_or captures k [] =
        sym (get_or-map (λ (a : Apart). a.capture) before k none [] within) ∙ ap (λ (z : List (List ℕ)). get_or z k []) are in
        let here : s.held ≡ rx_text (get_or before k none).capture =
        subst (λ (t : Option Growing). HoldsText (get_or before k none).capture t) text (received k none within) in
        get_or-map held_by sinks k nothing_held [] below
        ∙ (here ∙ (ap rx_text capture ∙ sym (get_or-map rx_text captures k [] [] given)))

-- the same, where the captures go by several names
pub all_texts : (captures : List (List ℕ)) (first lent after : List Apart) (size : ℕ) → captures_in first ≡ captures → lent ≡ first
    → length after ≡ length lent → size ≡ length first → AreReceived lent after → (sinks : List Growing)
    → texts_in (take size (after ++ drop (length after) first)) ≡ held_all sinks → map held_by sinks ≡ map rx_text captures
all_texts captures first lent after size are is as_many wide received sinks held =
    let back : take size (after ++ drop (length after) first) ≡ after =
    written_back after first size wide (as_many ∙ ap (λ (z : List Apart). length z) is) in
    texts_apart_are captures lent after sinks (record { capture = []; text = None }) (ap (λ (z : List Apart). captures_in z) is ∙ are) as_many received
    (ap (λ (z : List Apart). texts_in z) (sym back) ∙ held)
