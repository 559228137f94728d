-- What a row costs and what it leaves to spare.
use Rattle.std.proofs.Common.{◌≡◌, ℕ, zero, suc, ◌+◌, ◌-◌, ◌*◌, ◌%◌, ◌^◌, ◌<◌, ◌≤◌, arith, inl, inr, ap, ◌∙◌}
use Rattle.std.proofs.lemmas.Bool.{cases_lt}
use Rattle.std.proofs.Math.Nat.{mul-le-mul}
use Rattle.ht_rounding.specs.declared.levels.Levels.{Levels}
use Rattle.ht_rounding.specs.Words.{lesser, over}
use Rattle.ht_rounding.specs.Proposals.{IsCoordinate, IsCut}
use Rattle.ht_rounding.specs.RowSteps.{CertifiesRow}
use Rattle.ht_rounding.proofs.Rooms.{less-margin, lesser-left, lesser-right, over-is}

-- a square of a number of fifteen bits
squared : (a : ℕ) → a < 2 ^ 15 → a * a ≤ 32767 * 32767
squared a small = let b : a ≤ 32767 = omega (arith, small) in mul-le-mul b b

pub cost-is : (i q a b c : ℕ) → i < 2 ^ 15 → q < 2 ^ 15 → a ≡ (i * i) % 2 ^ 32 → b ≡ (q * q) % 2 ^ 32 → c ≡ (a + b) % 2 ^ 32 → c ≡ i * i + q * q
cost-is i q a b c si sq ea eb ec = omega (arith, squared i si, squared q sq, ea, eb, ec)

pub cost-most : (i q : ℕ) → i < 2 ^ 15 → q < 2 ^ 15 → i * i + q * q ≤ 2 * (32767 * 32767)
cost-most i q si sq = omega (arith, squared i si, squared q sq)

margin-is : (d room f m : ℕ) → d < 2 ^ 15 → room ≤ d → f ≡ (d * 4) % 2 ^ 32 → m ≡ (f * room) % 2 ^ 32 → m ≡ 4 * d * room
margin-is d room f m small le ef em =
    let four : f ≡ 4 * d = omega (arith, ef, small) in
    let a : 4 * d ≤ 131068 = omega (arith, small) in
    let b : room ≤ 32767 = omega (arith, small, le) in
    let product = mul-le-mul a b in
    em ∙ ap (λ (n : ℕ). (n * room) % 2 ^ 32) four ∙ omega (arith, product)

-- both rooms are positive where something is left to spare, and each margin is at least as much
some-room : (d room : ℕ) (after : ℕ) → 0 < after → after ≤ 4 * d * room → 0 < room
some-room d zero after some le = absurd (omega (arith, some, le))
some-room d (suc room) after some le = omega arith

pub row-sure : (i q : Levels) (d cut spare rho x_i x_q g_i g_q room_i room_q re im c left room f m after sum : ℕ) → IsCut d cut → spare < 2 ^ 32
    → spare + rho < 2 ^ 32 → IsCoordinate i re d cut x_i g_i room_i → IsCoordinate q im d cut x_q g_q room_q
    → c ≡ g_i * g_i + g_q * g_q → left ≡ over spare c → room ≡ lesser room_i room_q → f ≡ (cut * 4) % 2 ^ 32 → m ≡ (f * room) % 2 ^ 32 → after ≡ lesser left m
    → sum ≡ (rho + c) % 2 ^ 32 → CertifiesRow i q re im d spare rho x_i x_q after sum
row-sure i q d cut spare rho x_i x_q g_i g_q room_i room_q re im c left room f m after sum is_cut fits few is_i is_q ec el er ef em ea es some z within held =
    let most = cost-most g_i g_q is_i.small is_q.small in
    let li = lesser-left room_i room_q in
    let lq = lesser-right room_i room_q in
    let whole = margin-is cut room f m is_cut.few (omega (arith, er, li, is_i.within)) ef em in
    let to_left = lesser-left left m in
    let to_margin = lesser-right left m in
    let left_is : left ≡ spare - c = el ∙ over-is spare c fits (omega (arith, ec, most)) in
    let four : 4 * cut ≤ 4 * d = omega (arith, is_cut.under) in
    let ri : room ≤ room_i = omega (arith, er, li) in
    let rq : room ≤ room_q = omega (arith, er, lq) in
    let mi = mul-le-mul four ri in
    let mq = mul-le-mul four rq in
    let after_i : after ≤ 4 * d * room_i = omega (arith, ea, to_margin, whole, mi) in
    let after_q : after ≤ 4 * d * room_q = omega (arith, ea, to_margin, whole, mq) in
    record {
      gap_i = g_i;
      gap_q = g_q;
      sure_i = less-margin i d x_i g_i (4 * d * room_i) after z.re after_i (is_i.certain (some-room d room_i after some after_i) z.re within.re held.re);
      sure_q = less-margin q d x_q g_q (4 * d * room_q) after z.im after_q (is_q.certain (some-room d room_q after some after_q) z.im within.im held.im);
      less = omega (arith, ea, to_left, left_is, some, ec);
      sum = omega (arith, es, ec, few, ea, to_left, left_is, some);
    }

-- what is to spare and the distance fit together behind the row too
pub sum-fits : (spare rho c g_i g_q left m after sum : ℕ) → spare < 2 ^ 32 → spare + rho < 2 ^ 32 → g_i < 2 ^ 15 → g_q < 2 ^ 15
    → c ≡ g_i * g_i + g_q * g_q → left ≡ over spare c → after ≡ lesser left m → sum ≡ (rho + c) % 2 ^ 32 → after + sum < 2 ^ 32
sum-fits spare rho c g_i g_q left m after sum fits few si sq ec el ea es =
    let left_is : left ≡ spare - c = el ∙ over-is spare c fits (omega (arith, ec, cost-most g_i g_q si sq)) in
    plain spare rho c after sum few (omega (arith, ea, lesser-left left m, left_is)) es
  where
    plain : (spare rho c after sum : ℕ) → spare + rho < 2 ^ 32 → after ≤ spare - c → sum ≡ (rho + c) % 2 ^ 32 → after + sum < 2 ^ 32
    plain spare rho c after sum few le es = elim (cases_lt spare c) [
      | inl less ↦ omega (arith, le, es, less)
      | inr more ↦ omega (arith, few, le, es, more)
    ]

pub spare-less : (spare g_i g_q c left m after : ℕ) → spare < 2 ^ 32 → g_i < 2 ^ 15 → g_q < 2 ^ 15 → c ≡ g_i * g_i + g_q * g_q → left ≡ over spare c
    → after ≡ lesser left m
    → after ≤ spare
spare-less spare g_i g_q c left m after fits si sq ec el ea =
    omega (arith, ea, lesser-left left m, el, over-is spare c fits (omega (arith, ec, cost-most g_i g_q si sq)))
