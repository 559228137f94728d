use Rattle.std.proofs.Common.{◌≡◌, ◌≤◌, ◌+◌, ◌*◌, ℕ, take, get_or, length, ap, ◌∙◌, arith}
use Rattle.ht_capture.specs.declared.places.Present.{Present}
use Rattle.ht_capture.specs.Frames.{carrier_octets, job_at}
use Rattle.ht_capture.specs.Readers.{symbol_octets}
use Rattle.ht_capture.proofs.Symbols.{gives_job}
use Rattle.ht_capture.proofs.reader.job_of.Goals as goal

pub returns-clause-told : goal.returns-clause-told
returns-clause-told c =
    let due = c.args.due.now in
    let k = c.args.k in
    let present = c.args.present.now in
    let samples = c.args.samples.now in
    let d = c.index-present-k.result in
    let whole : c.width.result ≡ symbol_octets due = c.width.ensures.value ∙ ap (λ n. due.count * (8 * n)) c.streams-streams.ensures.value in
    let place : c.width-2.result ≡ k * carrier_octets due.head.rate = c.width-2.ensures.value ∙ ap (λ n. k * (8 * n)) c.streams-streams.ensures.value in
    let le : due.count ≤ length present = omega (arith, c.requires.fits.frame.places, c.requires.space) in
    let is : c.job.result ≡ job_at due.head due.symbol (due.turn.number + k)
    (get_or present k d) (take (symbol_octets due) samples) (k * carrier_octets due.head.rate) =
    c.job.ensures.value
    ∙ (ap (λ (n : ℕ). job_at due.head due.symbol (due.turn.number + k) d (take n samples) c.width-2.result) whole
    ∙ (ap (λ (n : ℕ). job_at due.head due.symbol (due.turn.number + k) d (take (symbol_octets due) samples) n) place
    ∙ ap (λ (p : Present). job_at due.head due.symbol (due.turn.number + k) p (take (symbol_octets due) samples) (k * carrier_octets due.head.rate))
    c.index-present-k.is)) in
    λ left. gives_job due k c.args.at present samples left c.job.result d c.requires.inside le is
