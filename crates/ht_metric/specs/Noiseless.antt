-- What is received of a vector where there is no noise.
use Rattle.std.specs.Prelude.{◌≡◌, ◌<◌, List, [], ◌∷◌}
use Rattle.std.specs.List.{All}
use Rattle.ht_pam.specs.declared.point.Point.{Point}
use Rattle.ht_metric.specs.Rows.{Row}
use Rattle.ht_metric.specs.Distance.{combined, plus, received, scaled}

-- each row's sample is its diagonal times its own point and the entries to the right of it times the points behind
abbrev pub IsNoiseless : List Row → List Point → Type 0
IsNoiseless [] [] = Unit {0}
IsNoiseless [] (x ∷ xs) = ⊥
IsNoiseless (row ∷ rows) [] = ⊥
IsNoiseless (row ∷ rows) (x ∷ xs) = (received row.sample ≡ plus (scaled row.diagonal x) (combined row.right xs)) × IsNoiseless rows xs

-- no diagonal is 0
abbrev pub IsRegular : List Row → Type 0
IsRegular rows = All (λ row. 0 < row.diagonal) rows
