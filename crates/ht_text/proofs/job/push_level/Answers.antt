use Rattle.std.proofs.Common.{◌≡◌, ◌++◌, ◌∷◌, [], ℕ, suc, ℤ, List, pos, negsuc, ◌+◌, ◌<◌, ap, sym, ◌∙◌, arith, subst, w8, SFits, to_z, of_z, to_z-of_z}
use Rattle.std.proofs.Common.{rules, append_assoc, codes, unsigned_abs}
use Rattle.std.specs.Int.Signed.{◌<ℤ◌, ◌≤ℤ◌}
use Rattle.std.proofs.lemmas.Fmt.{decimal_digit}
use Rattle.std.proofs.lemmas.Int.{ints}
use Rattle.ht_text.specs.Lines.{spaced}
use Rattle.ht_text.proofs.job.push_level.Goals as goal

-- what stands before the digit of a number, and the digit
one_digit : (level : ℤ) (piece : List ℕ) → unsigned_abs level < 10 → (level <ℤ pos 0 → piece ≡ codes " -") → (pos 0 ≤ℤ level → piece ≡ codes " ")
    → piece ++ (48 + unsigned_abs level) ∷ [] ≡ spaced (level ∷ [])
one_digit (pos n) piece few minus none =
    ap (λ (p : List ℕ). p ++ (48 + n) ∷ []) (none (omega (arith, ints))) ∙ ap (λ (d : List ℕ). (32 ∷ d) ++ []) (sym (decimal_digit n few))
one_digit (negsuc n) piece few minus none =
    ap (λ (p : List ℕ). p ++ (48 + suc n) ∷ []) (minus (omega (arith, ints))) ∙ ap (λ (d : List ℕ). (32 ∷ 45 ∷ d) ++ []) (sym (decimal_digit (suc n) few))

-- both put behind a text
put_both : (old middle new piece : List ℕ) (level : ℤ) (character : ℕ) → middle ≡ old ++ piece → new ≡ middle ++ character ∷ []
    → character ≡ 48 + unsigned_abs level → piece ++ (48 + unsigned_abs level) ∷ [] ≡ spaced (level ∷ []) → new ≡ old ++ spaced (level ∷ [])
put_both old middle new piece level character first second is both =
    second ∙ ap (λ (t : List ℕ). t ++ character ∷ []) first ∙ ap (λ (n : ℕ). (old ++ piece) ++ n ∷ []) is
    ∙ append_assoc old piece ((48 + unsigned_abs level) ∷ []) ∙ ap (λ (t : List ℕ). old ++ t) both

pub returns-clause-bytes : goal.returns-clause-bytes
returns-clause-bytes c =
    let piece = c.before_digits.result.now in
    let fits : SFits w8 c.args.level = search rules in
    let same : to_z w8 (of_z w8 c.args.level) ≡ c.args.level = to_z-of_z fits in
    let is : c.from.result ≡ 48 + unsigned_abs c.args.level = search rules in
    let few : unsigned_abs c.args.level < 10 = omega (arith, c.unsigned_abs-size.ensures.value, c.if-size-gt9.false) in
    put_both _ _ _ piece c.args.level c.from.result c.push.ensures.bytes c.push_ascii.ensures.bytes is
    (one_digit c.args.level piece few
    (subst (λ (n : ℤ). n <ℤ pos 0 → piece ≡ codes " -") same c.before_digits.ensures.negative)
    (subst (λ (n : ℤ). pos 0 ≤ℤ n → piece ≡ codes " ") same c.before_digits.ensures.other))
