-- Worked values.
use Rattle.std.proofs.Common.{◌≡◌, ℤ, pos, negsuc, List, [], ◌∷◌, true, false, refl}
use Rattle.ht_pam.specs.declared.axes.Axes.{Axes}
use Rattle.ht_pam.specs.declared.point.Point.{Point}
use Rattle.ht_metric.specs.Rows.{Row, rows_of, legs_of, no_tap}
use Rattle.ht_metric.specs.declared.sample.Sample.{Sample}
use Rattle.ht_metric.specs.Distance.{distance_of}
use Rattle.ht_metric.specs.Vectors.{before, is_in, vectors}
use Rattle.ht_metric.specs.Jobs.{JobView, near}

abbrev at : ℤ → ℤ → Point
at i q = record { i = i; q = q }

-- the constellations of a stream
abbrev bpsk : Axes
bpsk = record { i = record { size = 2; mask = 3 }; q = record { size = 1; mask = 1 } }

abbrev qpsk : Axes
qpsk = record { i = record { size = 2; mask = 3 }; q = record { size = 2; mask = 3 } }

abbrev qam64 : Axes
qam64 = record { i = record { size = 8; mask = 255 }; q = record { size = 8; mask = 255 } }

abbrev job : List Axes → List Row → JobView
job grid system = record { number = 0; place = record { frame = 0; symbol = 0; carrier = 0 }; grid = grid; system = system }

-- BPSK on one stream: d = 10 and y = (3, -4), then y = (0, 0), where both are as near
one : near (job (bpsk ∷ []) (record { diagonal = 10; right = []; sample = record { re = pos 3; im = negsuc 3 } } ∷ []))
    ≡ record { vector = at (pos 1) (pos 0) ∷ []; distance = 65 }
one = refl

tie : near (job (bpsk ∷ []) (record { diagonal = 10; right = []; sample = record { re = pos 0; im = pos 0 } } ∷ []))
    ≡ record { vector = at (negsuc 0) (pos 0) ∷ []; distance = 100 }
tie = refl

-- d = 0 and y = (3, -4): the row counts although its point doesn't
still : near (job (bpsk ∷ []) (record { diagonal = 0; right = []; sample = record { re = pos 3; im = negsuc 3 } } ∷ []))
    ≡ record { vector = at (negsuc 0) (pos 0) ∷ []; distance = 25 }
still = refl

-- QPSK on two streams: d = 10 and 1, r_12 = (10, 0), y_1 = (-20, 0), y_2 = (1, 0)
abbrev two : List Row
two = record { diagonal = 10; right = record { re = pos 10; im = pos 0 } ∷ []; sample = record { re = negsuc 19; im = pos 0 } }
    ∷ record { diagonal = 1; right = []; sample = record { re = pos 1; im = pos 0 } } ∷ []

first_of_two : near (job (qpsk ∷ qpsk ∷ []) two) ≡ record { vector = at (negsuc 0) (negsuc 0) ∷ at (negsuc 0) (pos 1) ∷ []; distance = 5 }
first_of_two = refl

-- the other vector at 5 comes later
later : distance_of two (at (negsuc 0) (pos 1) ∷ at (negsuc 0) (negsuc 0) ∷ []) ≡ 5
later = refl

-- 64-QAM on four streams: diagonals 65535, nothing above them, each y = (-2147483648, 2147483647)
abbrev far : Sample
far = record { re = negsuc 2147483647; im = pos 2147483647 }

abbrev four : List Row
four = rows_of (legs_of 4 (65535 ∷ 65535 ∷ 65535 ∷ 65535 ∷ []) (no_tap ∷ no_tap ∷ no_tap ∷ no_tap ∷ no_tap ∷ no_tap ∷ [])) (far ∷ far ∷ far ∷ far ∷ [])

farthest : let p = at (negsuc 6) (pos 7) in distance_of four (p ∷ p ∷ p ∷ p ∷ []) ≡ 36877727455641076052
farthest = refl

-- the order goes by the lowest stream first, and there by I first
by_stream : before (at (negsuc 0) (pos 1) ∷ at (pos 1) (pos 1) ∷ []) (at (pos 1) (negsuc 0) ∷ at (negsuc 0) (negsuc 0) ∷ []) ≡ true
by_stream = refl

by_q : before (at (pos 1) (negsuc 0) ∷ at (pos 1) (pos 1) ∷ []) (at (pos 1) (pos 1) ∷ at (negsuc 0) (negsuc 0) ∷ []) ≡ true
by_q = refl

not_itself : before (at (pos 1) (pos 1) ∷ []) (at (pos 1) (pos 1) ∷ []) ≡ false
not_itself = refl

-- the vectors of two BPSK streams, in order
in_order : vectors (bpsk ∷ bpsk ∷ [])
    ≡ (at (negsuc 0) (pos 0) ∷ at (negsuc 0) (pos 0) ∷ []) ∷ (at (negsuc 0) (pos 0) ∷ at (pos 1) (pos 0) ∷ [])
    ∷ (at (pos 1) (pos 0) ∷ at (negsuc 0) (pos 0) ∷ []) ∷ (at (pos 1) (pos 0) ∷ at (pos 1) (pos 0) ∷ []) ∷ []
in_order = refl

-- an even level is in no constellation but as the only one
off : is_in (qam64 ∷ []) (at (pos 3) (pos 0) ∷ []) ≡ false
off = refl
