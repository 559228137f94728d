-- Values that are drawn one after another.
use Rattle.std.proofs.Common.{◌≡◌, ℕ, zero, suc, List, [], ◌∷◌, ◌++◌, length, All, refl, sym, ap, ◌∙◌}
use Rattle.std.proofs.lemmas.List.{append_assoc, append-nil}
use Rattle.std.proofs.lemmas.List.Elements.{All-nil, All-cons}
use Rattle.ht_sim.specs.Draws.{Drawn, drawn, several, each, joined}

-- a value was drawn, and one less is left
pub several-step : {A : Type 0} (draw : ℕ → Drawn A) (xs ys : List A) (x : A) (n m z w : ℕ) (whole : Drawn (List A)) → n ≡ suc m
    → joined xs (several draw n z) ≡ whole → ys ≡ xs ++ x ∷ [] → x ≡ (draw z).value → w ≡ (draw z).state → joined ys (several draw m w) ≡ whole
several-step draw xs ys x n m z w whole e h p q r =
    ap (λ us. joined us (several draw m w)) (p ∙ ap (λ v. xs ++ v ∷ []) q)
    ∙ ap (λ s. joined (xs ++ (draw z).value ∷ []) (several draw m s)) r
    ∙ ap (λ us. drawn us (several draw m (draw z).state).state) (append_assoc xs ((draw z).value ∷ []) (several draw m (draw z).state).value)
    ∙ ap (λ k. joined xs (several draw k z)) (sym e)
    ∙ h

-- none is left
pub several-end : {A : Type 0} (draw : ℕ → Drawn A) (xs : List A) (n z : ℕ) (whole : Drawn (List A)) → n ≡ 0
    → joined xs (several draw n z) ≡ whole → drawn xs z ≡ whole
several-end draw xs n z whole e h =
    ap (λ us. drawn us z) (sym (append-nil xs)) ∙ ap (λ k. joined xs (several draw k z)) (sym e) ∙ h

pub length-several : {A : Type 0} (draw : ℕ → Drawn A) (n z : ℕ) → length (several draw n z).value ≡ n
length-several draw zero z = refl
length-several draw (suc n) z = ap suc (length-several draw n (draw z).state)

pub All-several : {A : Type 0} (P : A → Type 0) (draw : ℕ → Drawn A) (n z : ℕ) → ((s : ℕ) → P (draw s).value) → All P (several draw n z).value
All-several P draw zero z h = All-nil P
All-several P draw (suc n) z h = All-cons P (draw z).value (several draw n (draw z).state).value (h z) (All-several P draw n (draw z).state h)

-- a value was drawn for the first member that was left
pub each-step : {A B : Type 0} (draw : A → ℕ → Drawn B) (x : A) (xs : List A) (left : List A) (us vs : List B) (v : B) (z w : ℕ)
    (whole : Drawn (List B)) → left ≡ x ∷ xs
    → joined us (each draw left z) ≡ whole → vs ≡ us ++ v ∷ [] → v ≡ (draw x z).value → w ≡ (draw x z).state → joined vs (each draw xs w) ≡ whole
each-step draw x xs left us vs v z w whole e h p q r =
    ap (λ ts. joined ts (each draw xs w)) (p ∙ ap (λ t. us ++ t ∷ []) q)
    ∙ ap (λ s. joined (us ++ (draw x z).value ∷ []) (each draw xs s)) r
    ∙ ap (λ ts. drawn ts (each draw xs (draw x z).state).state) (append_assoc us ((draw x z).value ∷ []) (each draw xs (draw x z).state).value)
    ∙ ap (λ ts. joined us (each draw ts z)) (sym e)
    ∙ h

-- none is left
pub each-end : {A B : Type 0} (draw : A → ℕ → Drawn B) (left : List A) (us : List B) (z : ℕ) (whole : Drawn (List B)) → left ≡ []
    → joined us (each draw left z) ≡ whole → drawn us z ≡ whole
each-end draw left us z whole e h =
    ap (λ ts. drawn ts z) (sym (append-nil us)) ∙ ap (λ ts. joined us (each draw ts z)) (sym e) ∙ h

pub each-append : {A B : Type 0} (draw : A → ℕ → Drawn B) (xs ys : List A) (z : ℕ)
    → each draw (xs ++ ys) z ≡ joined (each draw xs z).value (each draw ys (each draw xs z).state)
each-append draw [] ys z = refl
each-append {A} {B} draw (x ∷ xs) ys z =
    ap (λ (more : Drawn (List B)). drawn ((draw x z).value ∷ more.value) more.state) (each-append draw xs ys (draw x z).state)

-- the values of the first part of what was left were drawn
pub each-part : {A B : Type 0} (draw : A → ℕ → Drawn B) (xs ys left : List A) (us vs : List B) (z w : ℕ) (whole : Drawn (List B)) → left ≡ xs ++ ys
    → joined us (each draw left z) ≡ whole → drawn vs w ≡ joined us (each draw xs z) → joined vs (each draw ys w) ≡ whole
each-part {A} {B} draw xs ys left us vs z w whole e h p =
    ap (λ (d : Drawn (List B)). joined d.value (each draw ys d.state)) p
    ∙ ap (λ ts. drawn ts (each draw ys (each draw xs z).state).state) (append_assoc us (each draw xs z).value (each draw ys (each draw xs z).state).value)
    ∙ ap (λ (d : Drawn (List B)). joined us d) (sym (each-append draw xs ys z))
    ∙ ap (λ ts. joined us (each draw ts z)) (sym e)
    ∙ h

pub length-each : {A B : Type 0} (draw : A → ℕ → Drawn B) (xs : List A) (z : ℕ) → length (each draw xs z).value ≡ length xs
length-each draw [] z = refl
length-each draw (x ∷ xs) z = ap suc (length-each draw xs (draw x z).state)

-- as many values as there are members, once none is left
pub counted : {A B : Type 0} (draw : A → ℕ → Drawn B) (us : List B) (left all : List A) (z w : ℕ) → left ≡ []
    → joined us (each draw left z) ≡ each draw all w → length us ≡ length all
counted {A} {B} draw us left all z w none h =
    ap (λ (d : Drawn (List B)). length d.value) (each-end draw left us z (each draw all w) none h) ∙ length-each draw all w
