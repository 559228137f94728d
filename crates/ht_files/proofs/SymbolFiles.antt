-- Files of symbols: each is what is written of its symbols, and each clean beginning can end.
use Rattle.std.proofs.Common.{◌≡◌, inl, inr, ℕ, zero, suc, ◌+◌, ◌-◌, ◌^◌, ◌<◌, ◌≤◌, List, [], ◌∷◌, ◌++◌, length, flat_map, get_or, nat_eq}
use Rattle.std.proofs.Common.{is_some, true, false, refl, sym, ap, subst, ◌∙◌, length-append, arith}
use Rattle.std.proofs.lemmas.Bool.{cases_Bool}
use Rattle.std.specs.List.{AllByRecursion}
use Rattle.ht_fields.specs.Grammar.{Good}
use Rattle.ht_fields.specs.Cases.{CanEnd, IsEnd, IsField, IsFile}
use Rattle.ht_fields.specs.Tests.{AreBytes}
use Rattle.ht_fields.proofs.Choices.{checked_good, when_false, when_true}
use Rattle.ht_rate.specs.declared.kinds.Carrier.{Carrier}
use Rattle.ht_rate.specs.declared.kinds.Carrier.TheVariants.{Data, Pilot}
use Rattle.ht_rate.specs.declared.kinds.Modulation.{Modulation}
use Rattle.ht_rate.specs.declared.kinds.Modulation.TheVariants.{Bpsk, Qpsk, Qam16, Qam64}
use Rattle.ht_rate.specs.declared.rates.Rate.{Rate}
use Rattle.ht_rate.specs.Rates.{modulation_of}
use Rattle.ht_rate.specs.Schemes.{bits_of}
use Rattle.ht_map.specs.Gray.{point_of}
use Rattle.ht_map.proofs.LabelFacts.{label_of-point_of}
use Rattle.ht_pam.specs.declared.point.Point.{Point}
use Rattle.ht_tx.specs.Symbols.{Fits, SymbolsView, origin, pilot_point, points_of}
use Rattle.ht_counted.proofs.Ends.{field_first}
use Rattle.ht_counted.proofs.Passing.{other_way, passed, same_good, same_number}
use Rattle.ht_files.specs.HeadedFormats.{HeadState, behind_head, frame_due}
use Rattle.ht_files.specs.Places.{FitsPlace, carrier_at_place, stream_at_place, symbol_at_place}
use Rattle.ht_files.specs.Points.{PointDue, first_point, fits_carrier, good_point, kind_on, misfits, misfits_place, point_in, point_octets, pointed, symbols}
use Rattle.ht_files.specs.SymbolFiles.{AreSymbolFrames, IsSymbolFrame, symbols_file_of, symbols_octets}
use Rattle.ht_files.proofs.Levels.{fits_true, octets_back, point_back}
use Rattle.ht_files.proofs.PointRoutes.{fits_test, points_of-some, symbols_all, symbols_counted}
use Rattle.ht_files.proofs.Back.{BodyTail, Wrote_file, frames_back, of_frames_of, same_state}
use Rattle.ht_files.proofs.Ends.{HasEnd, IsSound, frames_end, frames_sound, heads_can_end}
use Rattle.ht_files.proofs.Passing.{other_number, still_less}

abbrev rate : SymbolsView → Rate
rate f = f.rate

abbrev size : SymbolsView → ℕ
size f = f.length

abbrev body : SymbolsView → List ℕ
body f = flat_map point_octets f.points

-- what is written from a point on: it and those behind it, each fitting its place, and then the frames behind
abbrev wrote_body : PointDue → List ℕ → Type 0
wrote_body due octets =
    (added : List Point) × (fs : List SymbolsView) × (octets ≡ flat_map point_octets added ++ flat_map symbols_octets fs)
    × (length due.points + length added ≡ points_of due.rate due.length)
    × ((i : ℕ) → i < length added → FitsPlace due.rate (length due.points + i) (get_or added i origin))
    × (length fs ≡ due.left - 1) × AllByRecursion IsSymbolFrame fs

abbrev Written : HeadState PointDue → List ℕ → Type 0
Written s octets = Wrote_file pointed rate size body IsSymbolFrame wrote_body s octets

as_state : (s t : HeadState PointDue) (rest : List ℕ) → s ≡ t → Written t rest → Written s rest
as_state = same_state pointed rate size body IsSymbolFrame wrote_body

first_back : (left : ℕ) (r : Rate) (len : ℕ) (octets : List ℕ) → 1 ≤ len → len < 2 ^ 16
    → wrote_body (first_point left r len) octets → BodyTail pointed rate size body IsSymbolFrame wrote_body left r len octets
unfolding symbols_octets
first_back left r len octets some small w =
    let f : SymbolsView = record { rate = r; length = len; points = w.0 } in
    let fit : IsSymbolFrame f =
    symbols_all r len w.0 some (omega (arith, small)) (omega (arith, w.3))
    (λ place lt. let same : 0 + place ≡ place = omega arith in subst (λ (k : ℕ). FitsPlace r k (get_or w.0 place origin)) same (w.4 place lt)) in
    (f, w.1, (refl, refl), w.2, w.5, fit, w.6)

-- a point that fits in front of others
fits_first : (r : Rate) (n : ℕ) (p : Point) (ps : List Point) → FitsPlace r n p
    → ((i : ℕ) → i < length ps → FitsPlace r (n + 1 + i) (get_or ps i origin))
    → (i : ℕ) → i < length (p ∷ ps) → FitsPlace r (n + i) (get_or (p ∷ ps) i origin)
fits_first r n p ps here later zero lt = let same : n ≡ n + 0 = omega arith in subst (λ (k : ℕ). FitsPlace r k p) same here
fits_first r n p ps here later (suc i) lt =
    let same : n + 1 + i ≡ n + suc i = omega arith in
    subst (λ (k : ℕ). FitsPlace r k (get_or ps i origin)) same (later i (omega (arith, lt)))

-- what is no misfit fits its place
fits_there : (r : Rate) (n : ℕ) (x : List ℕ) → misfits_place r n x ≡ false → FitsPlace r n (point_in x)
unfolding misfits
fits_there r n x fine =
    fits_true r (symbol_at_place r n) (carrier_at_place r n) (stream_at_place r n) (point_in x)
    (other_way (fits_carrier r (symbol_at_place r n) (carrier_at_place r n) (stream_at_place r n) (point_in x)) fine)

abbrev more_due : PointDue → Point → PointDue
more_due due p = record { left = due.left; rate = due.rate; length = due.length; points = due.points ++ p ∷ [] }

-- the last point of a frame
last_back : (due : PointDue) (x rest : List ℕ) → point_octets (point_in x) ≡ x → FitsPlace due.rate (length due.points) (point_in x)
    → length due.points + 1 ≡ points_of due.rate due.length → Written (frame_due (due.left - 1)) rest → wrote_body due (x ++ rest)
unfolding symbols_octets
last_back due x rest is fits last w =
    let t = frames_back pointed rate size body IsSymbolFrame wrote_body (due.left - 1) rest w in
    let p : Point = point_in x in (
      p ∷ [],
      t.0,
      ap (λ (z : List ℕ). z ++ rest) (sym is) ∙ ap (λ (z : List ℕ). point_octets p ++ z) t.1,
      last,
      fits_first due.rate (length due.points) p [] fits (λ i lt. absurd (omega (arith, lt))),
      t.2,
      t.3,
    )

-- a point behind which others are due
more_back : (due : PointDue) (x rest : List ℕ) → point_octets (point_in x) ≡ x → FitsPlace due.rate (length due.points) (point_in x)
    → wrote_body (more_due due (point_in x)) rest → wrote_body due (x ++ rest)
more_back due x rest is fits w =
    let p : Point = point_in x in
    let one : length (due.points ++ p ∷ []) ≡ length due.points + 1 = length-append due.points (p ∷ []) in (
      p ∷ w.0,
      w.1,
      ap (λ (z : List ℕ). z ++ rest) (sym is) ∙ ap (λ (z : List ℕ). point_octets p ++ z) w.2,
      omega (arith, w.3, one),
      fits_first due.rate (length due.points) p w.0 fits (λ i lt. subst (λ (n : ℕ). FitsPlace due.rate (n + i) (get_or w.0 i origin)) one (w.4 i lt)),
      w.5,
      w.6,
    )

body_back : (due : PointDue) (next : HeadState PointDue) (x : List ℕ) (here : List SymbolsView) (rest : List ℕ) → AreBytes x
    → IsField (pointed.due due) x (Good next here) → Written next rest → wrote_body due (x ++ rest)
unfolding good_point
body_back due next x here rest bytes good w =
    let n = length due.points in
    let p : Point = point_in x in
    let f : SymbolsView = record { rate = due.rate; length = due.length; points = due.points ++ p ∷ [] } in
    let fine = passed (kind_on (carrier_at_place due.rate n)) (misfits_place due.rate n) (good_point due) x next here good.1 in
    let is = octets_back x good.0 bytes in
    let fits = fits_there due.rate n x fine.0 in
    elim (cases_Bool (nat_eq (n + 1) (points_of due.rate due.length))) [
      | inl e ↦
          let same = same_good (frame_due (due.left - 1)) next (f ∷ []) here (sym (when_true _ _ _ e) ∙ fine.1) in
          last_back due x rest is fits (same_number (n + 1) (points_of due.rate due.length) e)
          (as_state (frame_due (due.left - 1)) next rest same.0 w)
      | inr e ↦
          let same = same_good (behind_head (more_due due p)) next [] here (sym (when_false _ _ _ e) ∙ fine.1) in
          more_back due x rest is fits (as_state (behind_head (more_due due p)) next rest same.0 w)
    ]

no_end : (due : PointDue) → IsEnd (pointed.due due) → ⊥
no_end due e = e

-- The symbols of a file can be written, and it is the file of them.
pub of_symbols : (octets : List ℕ) (fs : List SymbolsView) → AreBytes octets → IsFile symbols octets fs → AreSymbolFrames fs × (octets ≡ symbols_file_of fs)
unfolding symbols_file_of symbols_octets
of_symbols = of_frames_of pointed rate size body IsSymbolFrame wrote_body first_back body_back no_end 18391396 symbols_counted

below : (m : Modulation) → 0 < 2 ^ bits_of m
below Bpsk = omega arith
below Qpsk = omega arith
below Qam16 = omega arith
below Qam64 = omega arith

-- some point fits
some_point : (r : Rate) (symbol : ℕ) (carrier : Carrier) (stream : ℕ) → (p : Point) × Fits r symbol carrier stream p
some_point r symbol (Data m) stream =
    let scheme = modulation_of r in (point_of scheme 0, ap is_some (label_of-point_of scheme 0 (below scheme)))
some_point r symbol (Pilot k) stream = (pilot_point r symbol k stream, refl)

-- and its octets are no misfit
some_octets : (r : Rate) (n : ℕ) → (x : List ℕ) × (length x ≡ 2) × (misfits_place r n x ≡ false)
unfolding misfits
some_octets r n =
    let symbol = symbol_at_place r n in
    let carrier = carrier_at_place r n in
    let stream = stream_at_place r n in
    let p = some_point r symbol carrier stream in (
      point_octets p.0,
      refl,
      when_true _ _ _ (ap (λ (z : Point). fits_carrier r symbol carrier stream z) (point_back r symbol carrier stream p.0 p.1)
          ∙ fits_test r symbol carrier stream p.0 p.1),
    )

good_last : (due : PointDue) (x : List ℕ) → nat_eq (length due.points + 1) (points_of due.rate due.length) ≡ true
    → good_point due x ≡ Good (frame_due (due.left - 1))
    (record { rate = due.rate; length = due.length; points = due.points ++ point_in x ∷ [] } ∷ [])
unfolding good_point
good_last due x e = when_true _ _ _ e

good_more : (due : PointDue) (x : List ℕ) → nat_eq (length due.points + 1) (points_of due.rate due.length) ≡ false
    → good_point due x ≡ Good (behind_head (more_due due (point_in x))) []
unfolding good_point
good_more due x e = when_false _ _ _ e

-- from a point that is due to the end
points_end : (n : ℕ) (due : PointDue) → length due.points < points_of due.rate due.length → points_of due.rate due.length ≤ length due.points + n
    → HasEnd pointed (frame_due (due.left - 1)) → HasEnd pointed (behind_head due)
points_end zero due lt few rest = absurd (omega (arith, lt, few))
points_end (suc n) due lt few rest =
    let count = length due.points in
    let total = points_of due.rate due.length in
    let x = some_octets due.rate count in
    elim (cases_Bool (nat_eq (count + 1) total)) [
      | inl e ↦
          field_first symbols (behind_head due) (frame_due (due.left - 1)) x.0
          (record { rate = due.rate; length = due.length; points = due.points ++ point_in x.0 ∷ [] } ∷ [])
          (x.1, checked_good (kind_on (carrier_at_place due.rate count)) (misfits_place due.rate count) (good_point due) x.0 _ x.2 (good_last due x.0 e)) rest
      | inr e ↦
          let one : length (due.points ++ point_in x.0 ∷ []) ≡ count + 1 = length-append due.points (point_in x.0 ∷ []) in
          let other = other_number (count + 1) total e in
          let less : count + 1 < total = still_less count total lt other in
          field_first symbols (behind_head due) (behind_head (more_due due (point_in x.0))) x.0 []
          (x.1, checked_good (kind_on (carrier_at_place due.rate count)) (misfits_place due.rate count) (good_point due) x.0 _ x.2 (good_more due x.0 e))
          (points_end n (more_due due (point_in x.0)) (omega (arith, one, less)) (omega (arith, one, few)) rest)
    ]

first_ends : (left : ℕ) (r : Rate) (len : ℕ) → 1 ≤ len → HasEnd pointed (frame_due (left - 1)) → HasEnd pointed (behind_head (first_point left r len))
first_ends left r len some rest = points_end (points_of r len) (first_point left r len) (points_of-some r len) (omega arith) rest

-- a point is due where some are left
abbrev some_left : PointDue → Type 0
some_left due = length due.points < points_of due.rate due.length

body_ends : (due : PointDue) → some_left due → HasEnd pointed (behind_head due)
body_ends due sound = points_end (points_of due.rate due.length) due sound (omega arith) (frames_end pointed first_ends (due.left - 1))

body_sound : (due : PointDue) (next : HeadState PointDue) (x : List ℕ) (here : List SymbolsView)
    → IsField (pointed.due due) x (Good next here) → some_left due → IsSound pointed some_left next
body_sound due next x here good lt =
    let count = length due.points in
    let total = points_of due.rate due.length in
    let f : SymbolsView = record { rate = due.rate; length = due.length; points = due.points ++ point_in x ∷ [] } in
    let fine = passed (kind_on (carrier_at_place due.rate count)) (misfits_place due.rate count) (good_point due) x next here good.1 in
    elim (cases_Bool (nat_eq (count + 1) total)) [
      | inl e ↦
          let same = same_good (frame_due (due.left - 1)) next (f ∷ []) here (sym (good_last due x e) ∙ fine.1) in
          subst (IsSound pointed some_left) same.0 (frames_sound pointed some_left (due.left - 1))
      | inr e ↦
          let same = same_good (behind_head (more_due due (point_in x))) next [] here (sym (good_more due x e) ∙ fine.1) in
          let one : length (due.points ++ point_in x ∷ []) ≡ count + 1 = length-append due.points (point_in x ∷ []) in
          let less : count + 1 < total = still_less count total lt (other_number (count + 1) total e) in
          let left : length (due.points ++ point_in x ∷ []) < total = omega (arith, one, less) in
          subst (IsSound pointed some_left) same.0 left
    ]

pub symbols_can_end : CanEnd symbols
symbols_can_end = heads_can_end pointed some_left first_ends body_ends (λ left r len. points_of-some r len) body_sound
