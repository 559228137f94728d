use Rattle.std.proofs.Common.{◌≡◌, ◌*◌, ◌≤◌, ℕ, List, length, sym, ap, subst, ◌∙◌, arith}
use Rattle.ht_rate.specs.Rates.{carriers_of, symbols_of}
use Rattle.ht_rate.proofs.RateFacts.{carriers_of-range}
use Rattle.ht_certify.specs.declared.subcarriers.Subcarrier.{Subcarrier}
use Rattle.ht_certify.specs.Making.{subcarriers_of}
use Rattle.ht_certify.proofs.Counting.{data_among, length-frame, records_few}
use Rattle.ht_certify.proofs.putting.count_frame.Goals as goal

pub data_among-data-requires : goal.data_among-data-requires
data_among-data-requires c =
    omega (
      arith,
      ap (λ (xs : List Subcarrier). length xs) c.deref.ensures.value,
      c.in_ok-gather_subcarriers.ensures.few,
      carriers_of-range
          c.args.frame.now.rate,
    )

few : (c : goal.After-from-symbols) → c.from-symbols.result * c.data_among-data.result ≤ 1129296
few c =
    let r = c.args.frame.now.rate in
    subst (λ (n : ℕ). c.from-symbols.result * n ≤ 1129296) (sym c.data_among-data.ensures)
    (records_few r c.args.frame.now.length c.from-symbols.result c.symbols.result c.deref.result.now (omega arith) c.from-symbols.ensures
    c.symbols.ensures.high c.symbols.ensures.least
    (subst (λ (xs : List Subcarrier). length xs ≤ carriers_of r) (sym c.deref.ensures.value) c.in_ok-gather_subcarriers.ensures.few))

pub overflow_mul-result : goal.overflow_mul-result
overflow_mul-result c = let jobs = few c in omega (arith, jobs)

pub returns-clause-count : goal.returns-clause-count
returns-clause-count c =
    let f = c.args.frame.now in
    let listed : c.data_among-data.result ≡ data_among (subcarriers_of f) =
    c.data_among-data.ensures ∙ ap (λ (xs : List Subcarrier). data_among xs) (c.deref.ensures.value ∙ c.in_ok-gather_subcarriers.ensures.listed) in
    ap (λ k. k * c.data_among-data.result) (c.from-symbols.ensures ∙ c.symbols.ensures.value)
    ∙ (ap (λ d. symbols_of f.rate f.length * d) listed ∙ sym (length-frame f))

pub returns-clause-few : goal.returns-clause-few
returns-clause-few c = few c
