-- Places in rows of groups, by division with remainder.
use Rattle.std.proofs.Common.{◌≡◌, ℕ, ◌+◌, ◌*◌, ◌/◌, ◌%◌, ◌<◌, ◌≤◌, ap, sym, ◌∙◌, arith}
use Rattle.std.proofs.Math.Nat.{mul-le-mul_right}
use Rattle.std.proofs.lemmas.Nat.{div-add-mod', div-mul-add, mod-mul-add, mul-add-lt, mul-le, mod_below}

-- where n groups of s places make a row: the place x of group j of row q
pub group-place : (n s q j x k : ℕ) → j < n → x < s → k ≡ n * s * q + j * s + x → (k / s % n ≡ j) × (k / (n * s) ≡ q) × (k % s ≡ x)
group-place n s q j x k lj lx e =
    let as_groups : k ≡ (q * n + j) * s + x = omega arith in
    let as_rows : k ≡ q * (n * s) + (j * s + x) = omega arith in
    let below : j * s + x < n * s = omega (arith, mul-add-lt j s x n lj lx) in
    let group : k / s ≡ q * n + j = ap (λ (y : ℕ). y / s) as_groups ∙ div-mul-add (q * n + j) s x lx in
    let row : k / (n * s) ≡ q = ap (λ (y : ℕ). y / (n * s)) as_rows ∙ div-mul-add q (n * s) (j * s + x) below in
    (ap (λ (y : ℕ). y % n) group ∙ mod-mul-add q n j lj, row, ap (λ (y : ℕ). y % s) as_groups ∙ mod-mul-add (q * n + j) s x lx)

-- each place has its row, its group and its place in the group
pub parts-place : (n s k : ℕ) → 0 < n → 0 < s → k ≡ n * s * (k / (n * s)) + k / s % n * s + k % s
parts-place n s k pn ps =
    let groups : k / s * s + k % s ≡ k = div-add-mod' k s in
    let rows : k / s / n * n + k / s % n ≡ k / s = div-add-mod' (k / s) n in
    let scaled : (k / s / n * n + k / s % n) * s ≡ k / s * s = ap (λ (y : ℕ). y * s) rows in
    let whole : k ≡ n * s * (k / s / n) + k / s % n * s + k % s = omega arith in
    let row : k / (n * s) ≡ k / s / n = (group-place n s (k / s / n) (k / s % n) (k % s) k (mod_below (k / s) n pn) (mod_below k s ps) whole).1 in
    whole ∙ ap (λ (y : ℕ). n * s * y + k / s % n * s + k % s) (sym row)

-- a place of the rows below m
pub place-below : (n s q j x m : ℕ) → j < n → x < s → q < m → n * s * q + j * s + x < n * s * m
place-below n s q j x m lj lx lq =
    let below : j * s + x < n * s = omega (arith, mul-add-lt j s x n lj lx) in
    omega (arith, mul-add-lt q (n * s) (j * s + x) m lq below)

-- the first place of group t of row q, and its last
pub group-within : (n s m q t : ℕ) → t < n → q < m → (q * n + t) * s + s ≤ n * s * m
group-within n s m q t lt lq =
    let below : q * n + t + 1 ≤ n * m = omega (arith, mul-add-lt q n t m lq lt) in
    let scaled : (q * n + t + 1) * s ≤ n * m * s = mul-le-mul_right s below in
    omega arith

-- the numbers of groups are small
pub groups-small : (n m q t : ℕ) → t < n → q < m → n ≤ 4 → m ≤ 216 → q * n + t < 864
groups-small n m q t lt lq ln lm = omega (arith, mul-add-lt q n t m lq lt, mul-le n m 4 216 ln lm)

pub product-small : (a s : ℕ) → a ≤ 1728 → s ≤ 3 → a * s ≤ 5184
product-small a s la ls = mul-le a s 1728 3 la ls

-- the same in two levels: encoder j of round q of stream t
pub place-within : (e n s m t q j : ℕ) → t < n → q < m → j < e → ((t * m + q) * e + j) * s + s ≤ n * (e * s * m)
place-within e n s m t q j lt lq lj =
    let rounds : t * m + q + 1 ≤ m * n = omega (arith, mul-add-lt t m q n lt lq) in
    let groups : (t * m + q) * e + j < e * (m * n) = mul-add-lt (t * m + q) e j (m * n) (omega arith) lj in
    let below : (t * m + q) * e + j + 1 ≤ e * (m * n) = omega arith in
    let scaled : ((t * m + q) * e + j + 1) * s ≤ e * (m * n) * s = mul-le-mul_right s below in
    omega arith

pub places-small : (e n m t q j : ℕ) → t < n → q < m → j < e → e ≤ 2 → n ≤ 4 → m ≤ 216
    → (t * m ≤ 864) × (t * m + q < 864) × ((t * m + q) * e ≤ 1728) × ((t * m + q) * e + j < 1728)
places-small e n m t q j lt lq lj le ln lm =
    let all : m * n ≤ 864 = omega (arith, mul-le m n 216 4 lm ln) in
    let rounds : t * m + q < m * n = mul-add-lt t m q n lt lq in
    let groups : (t * m + q) * e + j < e * (m * n) = mul-add-lt (t * m + q) e j (m * n) rounds lj in
    let total : e * (m * n) ≤ 1728 = omega (arith, mul-le e (m * n) 2 864 le all) in
    (omega arith, omega arith, omega arith, omega arith)
