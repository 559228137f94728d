-- Worked values.
use Rattle.std.proofs.Common.{◌≡◌, pos, negsuc, [], ◌∷◌, List, refl}
use Rattle.ht_pam.specs.Ladders.{Rungs}
use Rattle.ht_pam.specs.declared.axes.Axes.{Axes}
use Rattle.ht_pam.specs.declared.point.Point.{Point}
use Rattle.ht_metric.specs.declared.place.Place.{Place}
use Rattle.ht_metric.specs.Rows.{Row}
use Rattle.ht_metric.specs.Jobs.{JobView, near}
use Rattle.ht_sphere.specs.Coordinates.{from_last}
use Rattle.ht_sphere.specs.Tree.{Reached, rounding, inside_of}

abbrev pub two : Rungs
two = record { size = 2; mask = 3 }

abbrev pub nil : Rungs
nil = record { size = 1; mask = 1 }

abbrev here : Place
here = record { frame = 0; symbol = 0; carrier = 0 }

abbrev pub job : List Axes → List Row → JobView
job grid system = record { number = 0; place = here; grid = grid; system = system }

-- QPSK on two streams: d = 0 and 0, r_12 = (10, 0), y_1 = (10, -10), y_2 = (0, 0)
abbrev qpsk : Axes
qpsk = record { i = two; q = two }

abbrev flat : List Row
flat = record { diagonal = 0; right = record { re = pos 10; im = pos 0 } ∷ []; sample = record { re = pos 10; im = negsuc 9 } }
    ∷ record { diagonal = 0; right = []; sample = record { re = pos 0; im = pos 0 } } ∷ []

rounded : rounding (from_last flat (qpsk ∷ qpsk ∷ [])) [] 0 ≡ (let f : Reached = (negsuc 0 ∷ negsuc 0 ∷ negsuc 0 ∷ negsuc 0 ∷ [], 400) in f)
rounded = refl

inside_flat : inside_of (job (qpsk ∷ qpsk ∷ []) flat) ≡ 27
inside_flat = refl

-- QPSK on two streams: d = 10 and 1, r_12 = (10, 0), y_1 = (-20, 0), y_2 = (1, 0). Rounding ends at 401, and the first
-- nearest vector, (-1, -1), (-1, 1), is at 5
abbrev slanted : List Row
slanted = record { diagonal = 10; right = record { re = pos 10; im = pos 0 } ∷ []; sample = record { re = negsuc 19; im = pos 0 } }
    ∷ record { diagonal = 1; right = []; sample = record { re = pos 1; im = pos 0 } } ∷ []

rounded_too_far : rounding (from_last slanted (qpsk ∷ qpsk ∷ [])) [] 0 ≡ (let f : Reached = (negsuc 0 ∷ pos 1 ∷ pos 1 ∷ negsuc 0 ∷ [], 401) in f)
rounded_too_far = refl

nearest_of_all : let low : Point = record { i = negsuc 0; q = negsuc 0 } in let high : Point = record { i = negsuc 0; q = pos 1 } in
    near (job (qpsk ∷ qpsk ∷ []) slanted) ≡ record { vector = low ∷ high ∷ []; distance = 5 }
nearest_of_all = refl

-- BPSK on four streams, with a triangle of zeros
abbrev bpsk : Axes
bpsk = record { i = two; q = nil }

abbrev far : Row
far = record { diagonal = 0; right = []; sample = record { re = negsuc 2147483647; im = pos 2147483647 } }

inside_zeros : inside_of (job (bpsk ∷ bpsk ∷ bpsk ∷ bpsk ∷ []) (far ∷ far ∷ far ∷ far ∷ [])) ≡ 46
inside_zeros = refl
