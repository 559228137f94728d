-- Octets of values that are drawn one after another, behind octets that are there.
use Rattle.std.proofs.Common.{◌≡◌, ℕ, suc, ◌+◌, ◌%◌, List, [], ◌∷◌, ◌++◌, length, take, drop, flat_map, slice_index_or, sym, ap, ◌∙◌, append_assoc, arith}
use Rattle.std.proofs.lemmas.List.{append-nil, length-append, take-append-drop}
use Rattle.std.proofs.lemmas.Grind.{flat_map-append}
use Rattle.ht_pam.specs.declared.point.Point.{Point}
use Rattle.ht_metric.specs.declared.complex.Complex.{Complex}
use Rattle.ht_metric.specs.declared.sample.Sample.{Sample}
use Rattle.ht_metric.specs.Distance.{scaled}
use Rattle.ht_capture.specs.Files.{sample_octets}
use Rattle.ht_clause18.specs.Carriers.{carriers}
use Rattle.ht_sim.specs.Channel.{sample_drawn}
use Rattle.ht_sim.specs.Draws.{Drawn, drawn, each}
use Rattle.ht_sim.proofs.Drawing.{each-append}
use Rattle.ht_legacy_sim.specs.Drawing.{exact_from}

-- the octets of drawn values behind others
abbrev pub behind : {A : Type 0} → (A → List ℕ) → List ℕ → Drawn (List A) → Drawn (List ℕ)
behind octets front d = drawn (front ++ flat_map octets d.value) d.state

-- a value was drawn for the first member that was left, and its octets are there
pub behind-step : {A B : Type 0} (octets : B → List ℕ) (draw : A → ℕ → Drawn B) (x : A) (xs left : List A) (front next piece : List ℕ) (z w : ℕ)
    (whole : Drawn (List ℕ)) → left ≡ x ∷ xs → next ≡ front ++ piece → piece ≡ octets (draw x z).value → w ≡ (draw x z).state
    → behind octets front (each draw left z) ≡ whole → behind octets next (each draw xs w) ≡ whole
behind-step {A} {B} octets draw x xs left front next piece z w whole is more p q h =
    let one : List ℕ = octets (draw x z).value in
    ap (λ (n : List ℕ). behind octets n (each draw xs w)) (more ∙ ap (λ (o : List ℕ). front ++ o) p)
    ∙ ap (λ s. behind octets (front ++ one) (each draw xs s)) q
    ∙ ap (λ (o : List ℕ). drawn o (each draw xs (draw x z).state).state)
    (append_assoc front one (flat_map octets (each draw xs (draw x z).state).value))
    ∙ ap (λ (ts : List A). behind octets front (each draw ts z)) (sym is)
    ∙ h

-- none is left
pub behind-end : {A B : Type 0} (octets : B → List ℕ) (draw : A → ℕ → Drawn B) (left : List A) (front : List ℕ) (z : ℕ) (whole : Drawn (List ℕ))
    → left ≡ [] → behind octets front (each draw left z) ≡ whole → drawn front z ≡ whole
behind-end {A} {B} octets draw left front z whole is h =
    ap (λ (o : List ℕ). drawn o z) (sym (append-nil front)) ∙ ap (λ (ts : List A). behind octets front (each draw ts z)) (sym is) ∙ h

-- the values of the first part of what was left were drawn
pub behind-part : {A B : Type 0} (octets : B → List ℕ) (draw : A → ℕ → Drawn B) (xs ys left : List A) (front piece : List ℕ) (z w : ℕ)
    (whole : Drawn (List ℕ)) → left ≡ xs ++ ys → piece ≡ flat_map octets (each draw xs z).value → w ≡ (each draw xs z).state
    → behind octets front (each draw left z) ≡ whole → behind octets (front ++ piece) (each draw ys w) ≡ whole
behind-part {A} {B} octets draw xs ys left front piece z w whole is p q h =
    let a : Drawn (List B) = each draw xs z in
    let b : Drawn (List B) = each draw ys a.state in
    ap (λ (o : List ℕ). behind octets (front ++ o) (each draw ys w)) p
    ∙ ap (λ s. behind octets (front ++ flat_map octets a.value) (each draw ys s)) q
    ∙ ap (λ (o : List ℕ). drawn o b.state) (append_assoc front (flat_map octets a.value) (flat_map octets b.value))
    ∙ ap (λ (o : List ℕ). drawn (front ++ o) b.state) (sym (flat_map-append octets a.value b.value))
    ∙ ap (λ (d : Drawn (List B)). behind octets front d) (sym (each-append draw xs ys z))
    ∙ ap (λ (ts : List A). behind octets front (each draw ts z)) (sym is)
    ∙ h

-- the octets of the first part, and those of the rest
pub part-octets : {A B : Type 0} (octets : B → List ℕ) (draw : A → ℕ → Drawn B) (xs ys left : List A) (z : ℕ) → left ≡ xs ++ ys
    → flat_map octets (each draw xs z).value ++ flat_map octets (each draw ys (each draw xs z).state).value ≡ flat_map octets (each draw left z).value
part-octets {A} {B} octets draw xs ys left z is =
    let a : Drawn (List B) = each draw xs z in
    sym (flat_map-append octets a.value (each draw ys a.state).value)
    ∙ ap (λ (d : Drawn (List B)). flat_map octets d.value) (sym (each-append draw xs ys z))
    ∙ ap (λ (ts : List A). flat_map octets (each draw ts z).value) (sym is)

-- what is received of points in two parts
pub exact-append : (ds : List ℕ) (place : ℕ) (xs ys : List Point)
    → exact_from ds place (xs ++ ys) ≡ exact_from ds place xs ++ exact_from ds (place + length xs) ys
exact-append ds place [] ys = let e : place ≡ place + 0 = omega arith in ap (λ n. exact_from ds n ys) e
exact-append ds place (x ∷ xs) ys =
    let e : place + 1 + length xs ≡ place + suc (length xs) = omega arith in
    let one : Complex = scaled (slice_index_or ds (place % carriers) 0) x in
    ap (λ (cs : List Complex). one ∷ cs)
    (exact-append ds (place + 1) xs ys ∙ ap (λ n. exact_from ds (place + 1) xs ++ exact_from ds n ys) e)

-- one more sample
pub sample-step : (noise : ℕ) (ds : List ℕ) (place : ℕ) (x : Point) (xs left : List Point) (front next : List ℕ) (s : Sample) (e : Complex) (z w : ℕ)
    (whole : Drawn (List ℕ)) → left ≡ x ∷ xs → e ≡ scaled (slice_index_or ds (place % carriers) 0) x → next ≡ front ++ sample_octets s
    → s ≡ (sample_drawn noise e z).value → w ≡ (sample_drawn noise e z).state
    → behind sample_octets front (each (sample_drawn noise) (exact_from ds place left) z) ≡ whole
    → behind sample_octets next (each (sample_drawn noise) (exact_from ds (place + 1) xs) w) ≡ whole
sample-step noise ds place x xs left front next s e z w whole is exact more p q h =
    let one : Complex = scaled (slice_index_or ds (place % carriers) 0) x in
    behind-step sample_octets (sample_drawn noise) one (exact_from ds (place + 1) xs) (exact_from ds place left) front next (sample_octets s) z w whole
    (ap (λ (ps : List Point). exact_from ds place ps) is) more
    (ap (λ (t : Sample). sample_octets t) (p ∙ ap (λ (c : Complex). (sample_drawn noise c z).value) exact))
    (q ∙ ap (λ (c : Complex). (sample_drawn noise c z).state) exact) h

-- points in two parts
pub exact-split : (ds : List ℕ) (place n : ℕ) (rest now later : List Point) → now ≡ take n rest → later ≡ drop n rest
    → exact_from ds place rest ≡ exact_from ds place now ++ exact_from ds (place + length now) later
exact-split ds place n rest now later p q =
    let all : rest ≡ now ++ later =
    sym (take-append-drop n rest) ∙ (ap (λ (ps : List Point). ps ++ drop n rest) (sym p) ∙ ap (λ (ps : List Point). now ++ ps) (sym q)) in
    ap (λ (ps : List Point). exact_from ds place ps) all ∙ exact-append ds place now later

pub parts_of : (n : ℕ) (rest now later : List Point) → now ≡ take n rest → later ≡ drop n rest → length now + length later ≡ length rest
parts_of n rest now later p q =
    sym (length-append now later)
    ∙ ap (λ (ps : List Point). length (ps ++ later)) p
    ∙ ap (λ (ps : List Point). length (take n rest ++ ps)) q
    ∙ ap (λ (ps : List Point). length ps) (take-append-drop n rest)
