use Rattle.std.proofs.Common.{◌≡◌, ◌∙◌, ◌==◌, ◌-◌, ◌*◌, ℕ, List, [], ap, arith, if◌then◌else◌, refl, sym}
use Rattle.ht_rate.specs.declared.rates.Rate.{Rate}
use Rattle.ht_rate.specs.Rates.{encoders_of, pattern_of, steps_of}
use Rattle.ht_clean.specs.declared.input.PackedInput.{PackedInput}
use Rattle.ht_clean.specs.Sparse.{unpacked}
use Rattle.ht_viterbi.specs.declared.codeword.Codeword.{Codeword}
use Rattle.ht_inverse.specs.Shares.{codeword_of, no_codeword}
use Rattle.ht_inverse.specs.Words.{opened}
use Rattle.ht_inverse.proofs.table.Table.second_codeword.Goals as goal

-- where there is one encoder, the second input has no steps
none-value : (r : Rate) (octets erased : ℕ) (labels : List ℕ) (p : PackedInput) → encoders_of r ≡ 1 → p.distance ≡ 0
    → opened (pattern_of r) ((encoders_of r - 1) * steps_of r octets) p
    ≡ (if encoders_of r == 2 then codeword_of r octets erased labels 1 else no_codeword)
unfolding unpacked
none-value r octets erased labels p one none =
    let made : ℕ → Codeword = λ n. record { input = []; distance = n } in
    let never : 0 * steps_of r octets ≡ 0 = omega arith in
    let steps : (encoders_of r - 1) * steps_of r octets ≡ 0 = ap (λ (k : ℕ). (k - 1) * steps_of r octets) one ∙ never in
    ap (λ (n : ℕ). opened (pattern_of r) n p) steps
    ∙ (ap made none ∙ sym (ap (λ (k : ℕ). if k == 2 then codeword_of r octets erased labels 1 else no_codeword) one))

pub returns-in-None-clause-value : goal.returns-in-None-clause-value
returns-in-None-clause-value c =
    let s = c.args.self.now in
    none-value s.first.rate c.args.frame.now.octets s.first.erased c.args.frame.now.labels.now
    (record { words = c.new.result; distance = 0 }) (s.matched.none c.in-None.is) refl
