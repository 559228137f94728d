-- One more stream.
use Rattle.std.proofs.Common.{◌≡◌, ℕ, ◌+◌, ◌-◌, ◌<◌, List, [], ◌∷◌, ◌++◌, length, take, drop, set, replicate, arith, ap, ◌∙◌, length-append}
use Rattle.std.proofs.lemmas.List.{length-take, drop-drop, drop-replicate, drop-set-lt, take_more_set}
use Rattle.std.proofs.lemmas.List.Elements.{All-push}
use Rattle.std.proofs.Math.ListN.{length-set}
use Rattle.ht_pam.specs.Grids.{AreLadders, IsGrid, IsPaddedGrid, no_axes}
use Rattle.ht_pam.specs.declared.axes.Axes.{Axes}

-- one place fewer is unused
pub unused_less : {A : Type 0} (width n : ℕ) (xs : List A) (x : A) → drop n xs ≡ replicate (width - n) x → drop (n + 1) xs ≡ replicate (width - (n + 1)) x
unused_less width n xs x e =
    let less : width - n - 1 ≡ width - (n + 1) = omega arith in
    let later : drop (n + 1) xs ≡ drop 1 (drop n xs) = simp drop-drop (ap (λ (m : ℕ). drop m xs) (omega arith)) in
    later ∙ ap (λ ys. drop 1 ys) e ∙ drop-replicate 1 (width - n) x ∙ ap (λ (m : ℕ). replicate m x) less

-- the streams with one more
pub grown : (n : ℕ) (axes : List Axes) (a : Axes) → n < 4 → IsPaddedGrid n axes → IsGrid (take n axes) → AreLadders a
    → IsPaddedGrid (n + 1) (set axes n a) × IsGrid (take (n + 1) (set axes n a))
grown n axes a below padded grid good =
    let four : length axes ≡ 4 = padded.places in
    let count : length (take n axes) ≡ n = omega (arith, length-take n axes) in
    let more : length (take n axes ++ a ∷ []) ≡ n + 1 = length-append (take n axes) (a ∷ []) ∙ ap (λ (m : ℕ). m + 1) count in (
      record {
        within = omega arith;
        places = length-set axes n a ∙ four;
        unused =
            drop-set-lt (n + 1) axes n a (omega arith) ∙ unused_less 4 n axes no_axes padded.unused;
      },
      rw (take_more_set axes n a (omega arith))
          (record { some = omega (arith, more); few = omega (arith, more); ladders = All-push AreLadders (take n axes) a grid.ladders good }),
    )
