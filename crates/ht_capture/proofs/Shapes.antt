-- Lists of subcarriers, one after another.
use Rattle.std.proofs.Common.{◌≡◌, ℕ, ◌+◌, ◌<◌, ◌≤◌, Bool, ◌&&◌, List, [], ◌∷◌, ◌++◌, length, take, drop, get_or, sym, ap, subst, ◌∙◌, arith}
use Rattle.std.specs.Bool.{Decides}
use Rattle.std.specs.List.{All}
use Rattle.std.proofs.lemmas.Bool.Decides.{Decides-and, Decides-like}
use Rattle.std.proofs.lemmas.List.{get_or-drop, get_or-map, get_or-take, length-drop, length-map, map-append, take-take, take_more, take_more_same}
use Rattle.ht_metric.specs.Rows.{Leg}
use Rattle.ht_capture.specs.declared.places.Present.{Present}
use Rattle.ht_capture.specs.declared.template.Template.{Template}
use Rattle.ht_capture.specs.Parts.{presents_of}
use Rattle.ht_capture.specs.Presents.{present_of}
use Rattle.ht_capture.specs.Taking.{triangles_of}

-- one subcarrier more is the same
pub same_more : (xs ys : List Present) (at : ℕ) (d : Present) (same one : Bool) → at < length xs → at < length ys
    → Decides same (take at xs ≡ take at ys) → Decides one (get_or xs at d ≡ get_or ys at d)
    → Decides (same && one) (take (at + 1) xs ≡ take (at + 1) ys)
same_more xs ys at d same one lt below so_far next =
    let less : at ≤ at + 1 = omega arith in
    let within : at < at + 1 = omega arith in
    Decides-like (same && one)
    (λ both. take_more_same xs ys at d lt below both.0 both.1)
    (λ all. (
      sym (take-take at (at + 1) xs less) ∙ (ap (λ (zs : List Present). take at zs) all ∙ take-take at (at + 1) ys less),
      sym (get_or-take (at + 1) xs at d within) ∙ (ap (λ (zs : List Present). get_or zs at d) all ∙ get_or-take (at + 1) ys at d within),
    ))
    (Decides-and same one so_far next)

-- the subcarrier of a template
pub present_at : (templates : List Template) (from at : ℕ) (one : Template) (d : Present) → from + at < length templates
    → get_or templates (from + at) one ≡ one → get_or (drop from (presents_of templates)) at d ≡ present_of one.job
present_at templates from at one d lt is =
    get_or-drop from (presents_of templates) at d
    ∙ (get_or-map (λ (t : Template). present_of t.job) templates (from + at) one d lt ∙ ap (λ (t : Template). present_of t.job) is)

pub same_step : (ts us : List Template) (from other at count : ℕ) (one two : Template) (same like : Bool) → at < count
    → from + count ≤ length (presents_of ts) → other + count ≤ length (presents_of us)
    → one ≡ get_or ts (from + at) one → two ≡ get_or us (other + at) two
    → Decides same (take at (drop from (presents_of ts)) ≡ take at (drop other (presents_of us)))
    → Decides like (present_of one.job ≡ present_of two.job)
    → Decides (same && like) (take (at + 1) (drop from (presents_of ts)) ≡ take (at + 1) (drop other (presents_of us)))
same_step ts us from other at count one two same like lt within other_within is other_is so_far next =
    let size = length-map ts (λ (t : Template). present_of t.job) in
    let other_size = length-map us (λ (t : Template). present_of t.job) in
    let d = present_of one.job in
    let front : get_or (drop from (presents_of ts)) at d ≡ d = present_at ts from at one d (omega (arith, lt, within, size)) (sym is) in
    let back : get_or (drop other (presents_of us)) at d ≡ present_of two.job =
    present_at us other at two d (omega (arith, lt, other_within, other_size)) (sym other_is) in
    same_more (drop from (presents_of ts)) (drop other (presents_of us)) at d same like
    (omega (arith, lt, within, length-drop from (presents_of ts))) (omega (arith, lt, other_within, length-drop other (presents_of us)))
    so_far (Decides-like like (λ e. front ∙ (e ∙ sym back)) (λ e. sym front ∙ (e ∙ back)) next)

-- one template more
pub presents_more : (templates : List Template) (t : Template) (present : List Present) (at : ℕ) (d : Present) → at < length present
    → presents_of templates ≡ take at present → present_of t.job ≡ get_or present at d
    → presents_of (templates ++ t ∷ []) ≡ take (at + 1) present
presents_more templates t present at d lt so_far is =
    map-append (λ (x : Template). present_of x.job) templates (t ∷ [])
    ∙ (ap (λ (ps : List Present). ps ++ present_of t.job ∷ []) so_far
    ∙ (ap (λ (p : Present). take at present ++ p ∷ []) is ∙ sym (take_more present at d lt)))

pub all_one : (P : Template → Type 0) (t : Template) → P t → All P (t ∷ [])
all_one P t p = λ k d lt. let first : 0 ≡ k = omega (arith, lt) in subst (λ (i : ℕ). P (get_or (t ∷ []) i d)) first p

-- one triangle more
pub triangles_more : (present : List Present) (k : ℕ) (one : Present) (was now : List (List Leg)) → k < length present → one ≡ get_or present k one
    → was ≡ triangles_of (take k present) → now ≡ was ++ one.triangle ∷ [] → now ≡ triangles_of (take (k + 1) present)
triangles_more present k one was now lt at so_far is =
    is
    ∙ (ap (λ (ts : List (List Leg)). ts ++ one.triangle ∷ []) so_far
    ∙ (sym (map-append (λ (p : Present). p.triangle) (take k present) (one ∷ []))
    ∙ ap (λ (ps : List Present). triangles_of ps) (ap (λ (p : Present). take k present ++ p ∷ []) at ∙ sym (take_more present k one lt))))
