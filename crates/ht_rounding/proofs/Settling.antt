-- From row to row: what rounding ends at, and how far all others are.
use Rattle.std.proofs.Common.{◌≡◌, ℕ, ◌+◌, ◌*◌, ◌^◌, ◌<◌, ◌≤◌, ℤ, pos, ◌+ℤ◌, ◌-ℤ◌, ◌*ℤ◌, unsigned_abs, List, [], ◌∷◌, arith, refl, ap, sym, ◌∙◌, subst}
use Rattle.std.specs.Int.{cast_signed, w32}
use Rattle.std.proofs.lemmas.Int.{ints, unsigned_abs-mul}
use Rattle.std.proofs.Math.Nat.{mul-le-mul}
use Rattle.ht_pam.specs.Zigzags.{gap}
use Rattle.ht_pam.specs.declared.point.Point.{Point}
use Rattle.ht_metric.specs.declared.complex.Complex.{Complex}
use Rattle.ht_metric.specs.declared.sample.Sample.{Sample}
use Rattle.ht_metric.specs.declared.tap.Tap.{Tap}
use Rattle.ht_metric.specs.Distance.{IsInRange, minus as complex_minus, times as entry_times, received}
use Rattle.ht_metric.specs.Jobs.{JobView, IsJob, near}
use Rattle.ht_metric.specs.Vectors.{levels_of}
use Rattle.ht_sphere.specs.Coordinates.{Real, target, first_of, IsMargin, from_last, weighed, weights_of_i, weights_of_q}
use Rattle.ht_sphere.specs.Tree.{Reached, rounding}
use Rattle.ht_sphere.specs.Searching.{leaves, IsBestOf}
use Rattle.ht_sphere.proofs.Rows.{less_times, none_times}
use Rattle.ht_sphere.proofs.Others.{AreChosen, OthersFrom, others_none, others_two, round_two, alone}
use Rattle.ht_sphere.proofs.Finding.{found_is, points_back}
use Rattle.ht_rounding.specs.declared.levels.Levels.{Levels}
use Rattle.ht_rounding.specs.Proposals.{full, farthest}
use Rattle.ht_rounding.specs.RowSteps.{HoldBoth, AreWithin, IsEntry, IsRowSure, CertifiesRow, point_of}

-- what is left of a sample when entries times points are taken away, one after the other
abbrev pub left_by : Complex → List Tap → List Point → Complex
left_by z [] ps = z
left_by z (r ∷ rs) [] = z
left_by z (r ∷ rs) (p ∷ ps) = left_by (complex_minus z (entry_times r p)) rs ps

no-weight : (z : ℤ) → z ≡ z -ℤ pos 0
no-weight z = omega (arith, ints)

left-re : (z : Complex) (rs : List Tap) (ps : List Point) → (left_by z rs ps).re ≡ z.re -ℤ weighed (weights_of_i rs) (levels_of ps)
left-re z [] ps = no-weight z.re
left-re z (r ∷ rs) [] = no-weight z.re
left-re z (r ∷ rs) (p ∷ ps) = left-re (complex_minus z (entry_times r p)) rs ps
    ∙ plain z.re (r.re *ℤ p.i) (r.im *ℤ p.q) ((pos 0 -ℤ r.im) *ℤ p.q) _ (less_times r.im p.q)
  where
    plain : (z a b m w : ℤ) → m ≡ pos 0 -ℤ b → (z -ℤ (a -ℤ b)) -ℤ w ≡ z -ℤ (a +ℤ (m +ℤ w))
    plain z a b m w e = omega (arith, ints, e)

left-im : (z : Complex) (rs : List Tap) (ps : List Point) → (left_by z rs ps).im ≡ z.im -ℤ weighed (weights_of_q rs) (levels_of ps)
left-im z [] ps = no-weight z.im
left-im z (r ∷ rs) [] = no-weight z.im
left-im z (r ∷ rs) (p ∷ ps) = left-im (complex_minus z (entry_times r p)) rs ps ∙ plain z.im (r.re *ℤ p.q) (r.im *ℤ p.i) _
  where
    plain : (z a b w : ℤ) → (z -ℤ (a +ℤ b)) -ℤ w ≡ z -ℤ (b +ℤ (a +ℤ w))
    plain z a b w = omega (arith, ints)

-- the coordinates of a row
abbrev pub real_q : Levels → ℕ → Sample → List Tap → Real
real_q q d y taps = record { ladder = full q; diagonal = d; sample = y.im; weights = weights_of_q taps }

abbrev pub real_i : Levels → ℕ → Sample → List Tap → Real
real_i i d y taps = record { ladder = full i; diagonal = d; sample = y.re; weights = pos 0 ∷ weights_of_i taps }

-- for these coordinates in front: what rounding ends at, that all others are so far, and that this is at most what is to spare
pub record Settled (cs : List Real) (s : List ℤ) (p spare : ℕ) (w : Reached) (off : ℕ) : Type 0 where
  pub rounds : rounding cs s p ≡ w
  pub others : OthersFrom cs s p w off
  pub room : off ≤ p + spare

pub settled-none : (s : List ℤ) (p spare : ℕ) → Settled [] s p spare (s, p) (p + spare)
settled-none s p spare = record { rounds = refl; others = others_none s p (p + spare); room = omega arith }

chosen : (i q : Levels) (d : ℕ) (y : Sample) (taps : List Tap) (ps : List Point) (spare p x_i x_q after n : ℕ)
    → IsRowSure i q d spare p x_i x_q after n (left_by (received y) taps ps)
    → AreChosen (real_q q d y taps) (real_i i d y taps) (levels_of ps) p n after after (cast_signed w32 x_q) (cast_signed w32 x_i)
    (left_by (received y) taps ps).re
chosen i q d y taps ps spare p x_i x_q after n sure =
    let z = left_by (received y) taps ps in
    let t_q = left-im (received y) taps ps in
    let t_i = left-re (received y) taps ps in
    let g_q : gap (target (real_q q d y taps) (levels_of ps)) d (cast_signed w32 x_q) ≡ sure.gap_q = ap (λ (t : ℤ). gap t d (cast_signed w32 x_q)) (sym t_q)
    ∙ sure.sure_q.gap in
    let g_i = sure.sure_i.gap in
    record {
      sum = omega (arith, sure.sum, ap (λ (g : ℕ). g * g) g_q, ap (λ (g : ℕ). g * g) g_i);
      same = λ u. t_i ∙ plain y.re (pos 0 *ℤ u) _ (none_times u);
      first_q = sure.sure_q.first ∙ ap (λ (t : ℤ). first_of (full q) t d) t_q;
      first_i = sure.sure_i.first;
      margin_q = subst (λ (t : ℤ). IsMargin (full q) t d (cast_signed w32 x_q) after) t_q sure.sure_q.margin;
      margin_i = sure.sure_i.margin;
    }
  where
    plain : (y o w : ℤ) → o ≡ pos 0 → y -ℤ w ≡ y -ℤ (o +ℤ w)
    plain y o w e = omega (arith, ints, e)

-- one more row in front
pub settled-row : (i q : Levels) (d : ℕ) (y : Sample) (taps : List Tap) (ps : List Point) (rest : List Real) (spare p x_i x_q after n : ℕ) (w : Reached)
    (off : ℕ)
    → IsRowSure i q d spare p x_i x_q after n (left_by (received y) taps ps)
    → Settled rest (levels_of (point_of x_i x_q ∷ ps)) n after w off
    → Settled (real_q q d y taps ∷ real_i i d y taps ∷ rest) (levels_of ps) p spare w off
settled-row i q d y taps ps rest spare p x_i x_q after n w off sure behind =
    let two = chosen i q d y taps ps spare p x_i x_q after n sure in
    let t = (left_by (received y) taps ps).re in
    let c_q = real_q q d y taps in
    let c_i = real_i i d y taps in
    let u = cast_signed w32 x_q in
    let v = cast_signed w32 x_i in
    record {
      rounds = round_two c_q c_i rest (levels_of ps) p n after after u v t w two behind.rounds;
      others = others_two c_q c_i rest (levels_of ps) p n after after off u v t w two behind.room behind.room behind.others;
      room = omega (arith, behind.room, sure.less, sure.sum);
    }

-- where all others are farther, it is the first nearest vector
pub settled-found : (job : JobView) (cs : List Real) (spare rho off : ℕ) (ps : List Point) → IsJob job → from_last job.system job.grid ≡ cs
    → Settled cs [] 0 spare (levels_of ps, rho) off → rho < off → near job ≡ record { vector = ps; distance = rho }
settled-found job cs spare rho off ps valid all settled less =
    let w : Reached = (levels_of ps, rho) in
    let best : IsBestOf w (leaves cs [] 0) w = alone cs [] 0 off w settled.others less in
    let found : IsBestOf (rounding (from_last job.system job.grid) [] 0) (leaves (from_last job.system job.grid) [] 0) w =
    subst (λ (items : List Real). IsBestOf (rounding items [] 0) (leaves items [] 0) w) (sym all)
    (subst (λ (v : Reached). IsBestOf v (leaves cs [] 0) w) (sym settled.rounds) best) in
    sym (found_is job (levels_of ps) rho ps valid found (sym (points_back ps))).0

-- what a lane has of a target
pub record IsTarget (re im bound : ℕ) (z : Complex) : Type 0 where
  pub held : HoldBoth re im z
  pub within : AreWithin bound z

product-few : (r x : ℤ) → unsigned_abs r ≤ 2 ^ 15 → unsigned_abs x ≤ 7 → unsigned_abs (r *ℤ x) ≤ 229376
product-few r x a b = let m = mul-le-mul a b in omega (arith, m, unsigned_abs-mul r x)

pub target-without : (re im re' im' e_re e_im bound : ℕ) (z : Complex) (r : Tap) (p : Point) → IsTarget re im bound z → IsEntry e_re e_im r → IsInRange p
    → (HoldBoth re im z → HoldBoth re' im' (complex_minus z (entry_times r p)))
    → IsTarget re' im' (bound + 458752) (complex_minus z (entry_times r p))
target-without re im re' im' e_re e_im bound z r p is entry few next =
    let a = product-few r.re p.i entry.few_re few.i in
    let b = product-few r.im p.q entry.few_im few.q in
    let c = product-few r.re p.q entry.few_re few.q in
    let d = product-few r.im p.i entry.few_im few.i in
    let wr = is.within.re in
    let wi = is.within.im in
    record {
      held = next is.held;
      within = record { re = omega (arith, ints, a, b, wr); im = omega (arith, ints, c, d, wi) };
    }

-- a row whose target is known is sure
pub row-known : (i q : Levels) (re im d diagonal spare rho x_i x_q after n bound : ℕ) (z : Complex) → bound ≤ farthest → d ≡ diagonal
    → CertifiesRow i q re im d spare rho x_i x_q after n → IsTarget re im bound z → 0 < after → IsRowSure i q diagonal spare rho x_i x_q after n z
row-known i q re im d diagonal spare rho x_i x_q after n bound z le e certain is some =
    let wr = is.within.re in
    let wi = is.within.im in
    let near : AreWithin farthest z = record { re = omega (arith, wr, le); im = omega (arith, wi, le) } in
    subst (λ (k : ℕ). IsRowSure i q k spare rho x_i x_q after n z) e (certain some z near is.held)

pub point-few : (i q : Levels) (d spare rho x_i x_q after n : ℕ) (z : Complex) → IsRowSure i q d spare rho x_i x_q after n z → IsInRange (point_of x_i x_q)
point-few i q d spare rho x_i x_q after n z sure = record { i = sure.sure_i.few; q = sure.sure_q.few }

pub some-before : (i q : Levels) (d spare rho x_i x_q after n : ℕ) (z : Complex) → IsRowSure i q d spare rho x_i x_q after n z → 0 < after → 0 < spare
some-before i q d spare rho x_i x_q after n z sure some = omega (arith, sure.less, some)
