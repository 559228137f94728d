use Rattle.std.proofs.Common.{rules, ℕ, ℤ, ◌+◌, ◌*◌, ◌∙◌, drop, subst, SFits, to_z-of_z}
use Rattle.std.specs.Int.{cast_signed, w32}
use Rattle.byteorder.specs.Endian.{big_number}
use Rattle.ht_rounding.specs.Loading.{IsWord}
use Rattle.ht_legacy_blocks.proofs.InLanes.{lanes-more}
use Rattle.ht_legacy_blocks.proofs.words.words.Goals as goal

pub loop-k-preserved : goal.loop-k-preserved
loop-k-preserved c =
    let holds : ℕ → ℕ → Type 0 = λ j n. IsWord n (cast_signed w32 (big_number 4 (drop (c.args.at + 8 * j) c.args.octets.now))) in
    let fits : SFits w32 c.number.result = search rules in
    lanes-more holds c.loop-k.lanes c.loop-k.k c.word.result c.loop-k-test.true c.loop-k.invariant
    (subst (λ (z : ℤ). IsWord c.word.result z) (to_z-of_z fits ∙ c.number.ensures) c.word.ensures)
