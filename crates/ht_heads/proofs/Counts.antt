-- The count in front of a file, as it is read.
use Rattle.std.proofs.Common.{◌≡◌, ℕ, zero, suc, ◌+◌, ◌*◌, ◌/◌, ◌%◌, ◌^◌, ◌<◌, ◌≤◌, List, [], ◌∷◌, ◌++◌, length, take, get_or, refl, sym, ap, ◌∙◌, arith}
use Rattle.std.proofs.lemmas.Nat.{div-mul-add, div_below, mod-mul-add, mod_below}
use Rattle.std.proofs.Math.Nat.{add-mul, div-add-mod', mul_assoc, one-le-pow, pow-succ'}
use Rattle.std.proofs.Math.Seq.{take-append_seam}
use Rattle.std.specs.Int.{byte_at, bytes_high_first}
use Rattle.byteorder.specs.Endian.{big_bytes, big_from, big_number}
use Rattle.byteorder.specs.Numbers.{big_from-cons, big_from-lt}
use Rattle.ht_fields.specs.Tests.{AreBytes}

-- a byte of a number, by its place
byte_by_place : (n x : ℕ) → byte_at n x ≡ x / 256 ^ n % 256
byte_by_place zero x = let one : x / 1 ≡ x = omega arith in ap (λ y. y % 256) (sym one)
byte_by_place (suc n) x = refl

some_power : (n : ℕ) → 0 < 256 ^ n
some_power n = let h = one-le-pow n 256 (omega arith) in omega (arith, h)

-- the byte above a number below 256 ^ n
byte_above : (n high q r : ℕ) → r < 256 ^ n → q < 256 → (x : ℕ) → x ≡ (high * 256 + q) * 256 ^ n + r → byte_at n x ≡ q
byte_above n high q r rs few x is =
    byte_by_place n x
    ∙ (ap (λ y. y / 256 ^ n % 256) is
    ∙ (ap (λ y. y % 256) (div-mul-add (high * 256 + q) (256 ^ n) r rs) ∙ mod-mul-add high 256 q few))

-- what stands above the lowest bytes isn't seen in them
low_bytes : (n high low : ℕ) → low < 256 ^ n → bytes_high_first n (high * 256 ^ n + low) ≡ bytes_high_first n low
low_bytes zero high low small = refl
low_bytes (suc n) high low small =
    let p = 256 ^ n in
    let q = low / p in
    let r = low % p in
    let power : 256 ^ suc n ≡ 256 * p = pow-succ' 256 n in
    let rs : r < p = mod_below low p (some_power n) in
    let few : q < 256 = div_below low p 256 (some_power n) (omega (arith, small, power)) in
    let split : q * p + r ≡ low = div-add-mod' low p in
    let from_low : low ≡ (0 * 256 + q) * p + r = omega (arith, split) in
    let x = high * 256 ^ suc n + low in
    let products : (high * 256 + q) * p ≡ high * (256 * p) + q * p = add-mul (high * 256) q p ∙ ap (λ y. y + q * p) (mul_assoc high 256 p) in
    let all : high * 256 ^ suc n ≡ high * (256 * p) = ap (λ y. high * y) power in
    let from_x : x ≡ (high * 256 + q) * p + r = omega (arith, products, all, split) in
    ap (λ b. b ∷ bytes_high_first n x) (byte_above n high q r rs few x from_x ∙ sym (byte_above n 0 q r rs few low from_low))
    ∙ ap (λ bs. byte_at n low ∷ bs)
    (ap (bytes_high_first n) from_x
    ∙ (low_bytes n (high * 256 + q) r rs ∙ (sym (low_bytes n q r rs) ∙ ap (bytes_high_first n) split)))

-- octets are those of the number that they are
pub bytes_back : (octets : List ℕ) → AreBytes octets → big_bytes (length octets) (big_number (length octets) octets) ≡ octets
bytes_back [] bytes = refl
bytes_back (a ∷ xs) bytes =
    let n = length xs in
    let m = big_from 0 n xs in
    let later : AreBytes xs = λ i. bytes (suc i) in
    let moved : big_number (length (a ∷ xs)) (a ∷ xs) ≡ a * 256 ^ n + m = ap (λ y. a * 256 ^ n + y) (big_from-cons 0 n a xs) in
    let small : m < 256 ^ n = big_from-lt 0 n xs later in
    let first : a < 256 = bytes 0 in
    let from : a * 256 ^ n + m ≡ (0 * 256 + a) * 256 ^ n + m = omega arith in
    ap (bytes_high_first (suc n)) moved
    ∙ (ap (λ b. b ∷ bytes_high_first n (a * 256 ^ n + m)) (byte_above n 0 a m small first (a * 256 ^ n + m) from)
    ∙ ap (λ bs. a ∷ bs) (low_bytes n a m small ∙ bytes_back xs later))

-- the octets of a field that was filled, where its width is another name of their number
pub bytes_back_as : (octets : List ℕ) (width number : ℕ) → length octets ≡ width → number ≡ big_number width octets
    → AreBytes octets → big_bytes width number ≡ octets
bytes_back_as octets width number len is bytes =
    ap (big_bytes width) is ∙ (ap (λ n. big_bytes n (big_number n octets)) (sym len) ∙ bytes_back octets bytes)
