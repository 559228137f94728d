use Rattle.std.proofs.Common.{◌≡◌, ◌<◌, ◌≤◌, ◌+◌, [], ◌∷◌, ℕ, length, take, slice_index, sym, subst, arith}
use Rattle.std.proofs.lemmas.List.{length-take-le, take_all, take_more}
use Rattle.ht_io.proofs.Calls.{later-refl, later-later, takes-none, takes-append}
use Rattle.ht_io.specs.Devices.{Takes}
use Rattle.ht_io.specs.declared.faults.Kind.TheVariants.{BadMagic}
use Rattle.ht_fields.specs.Lacking.{FailsField}
use Rattle.ht_fields.specs.Tests.{differs}
use Rattle.ht_heads.proofs.reading.magic.Goals as goal

pub loop-at-init : goal.loop-at-init
loop-at-init g c = let start = g.S.Source.shown c.args.source.now in record { octets = takes-none start; later = later-refl start }

pub returns-in-Err-clause-failed : goal.returns-in-Err-clause-failed
returns-in-Err-clause-failed g c =
    let k = c.loop-at.at in
    let wanted = c.args.wanted.now in
    let few : k < length wanted = omega arith in
    let size : k ≡ 0 + length (take k wanted) = omega (arith, length-take-le k wanted (omega (arith, few))) in
    let before = g.S.Source.shown c.loop-at.source in
    let after = g.S.Source.shown c.one_octet.new.source in (
      k,
      few,
      (
        before,
        c.loop-at.invariant.octets,
        c.loop-at.invariant.later,
        subst (λ (n : ℕ). FailsField 1 BadMagic (differs (slice_index wanted k)) n before after c.in-Err.fault) size c.in-Err.ensures.failed,
      ),
    )

pub loop-at-preserved : goal.loop-at-preserved
loop-at-preserved g c =
    let k = c.loop-at.at in
    let wanted = c.args.wanted.now in
    let few : k < length wanted = omega arith in
    let start = g.S.Source.shown c.args.source.now in
    let before = g.S.Source.shown c.loop-at.source in
    let after = g.S.Source.shown c.one_octet.new.source in
    record {
      octets = subst (λ z. Takes start after z) (sym (take_more wanted k 0 few))
          (takes-append start before after (take k wanted) (slice_index wanted k ∷ []) c.loop-at.invariant.octets c.in-Ok.ensures.whole);
      later = later-later start before after c.loop-at.invariant.later c.in-Ok.ensures.later;
    }

pub returns-clause-whole : goal.returns-clause-whole
returns-clause-whole g c =
    let wanted = c.args.wanted.now in
    let end : length wanted ≤ c.loop-at.at = omega (arith, c.loop-at-test.false, c.loop-at.auto.at-end) in
    subst (λ z. Takes (g.S.Source.shown c.args.source.now) (g.S.Source.shown c.loop-at.source) z) (take_all c.loop-at.at wanted end) c.loop-at.invariant.octets
