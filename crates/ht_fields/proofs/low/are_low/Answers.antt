use Rattle.std.proofs.Common.{◌≡◌, ◌≤◌, get_or, take, rules, subst}
use Rattle.std.proofs.lemmas.List.{take_all}
use Rattle.ht_fields.specs.Tests.{AreLow}
use Rattle.ht_fields.proofs.LowOctets.{low-higher, low-more}
use Rattle.ht_fields.proofs.low.are_low.Goals as goal

pub loop-octet-preserved : goal.loop-octet-preserved
loop-octet-preserved c =
    let octets = c.args.octets.now in
    let i = c.loop-octet.octet-index in
    let next = c.max-highest.result in
    let above : c.loop-octet.highest ≤ next = search rules in
    let here : get_or octets i 0 ≤ next = search rules in
    low-more octets next i (search rules) (low-higher (take i octets) c.loop-octet.highest next above c.loop-octet.invariant) here

pub returns : goal.returns
returns c =
    let octets = c.args.octets.now in
    let all : take c.loop-octet.octet-index octets ≡ octets = take_all c.loop-octet.octet-index octets (search rules) in
    λ is. low-higher octets c.loop-octet.highest c.args.last (search rules) (subst (λ xs. AreLow c.loop-octet.highest xs) all c.loop-octet.invariant)
