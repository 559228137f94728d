use Rattle.std.proofs.Common.{◌≡◌, ℕ, ◌+◌, List, [], ◌∷◌, ap, sym, subst, ◌∙◌, arith, rules}
use Rattle.std.specs.Prelude.{length, string_bytes}
use Rattle.ht_fields.specs.Readers.{Gives, ReaderView, Completes}
use Rattle.ht_cert.specs.Readers.{GivesRecord, Advances, shown_by}
use Rattle.ht_cert.specs.declared.record.Record.{Record}
use Rattle.ht_cert.specs.declared.reader.RecordStep.{RecordStep}
use Rattle.ht_cert.specs.declared.reader.RecordStep.TheVariants.{Whole, End}
use Rattle.ht_runs.specs.Streamed.{StreamFails}
use Rattle.ht_runs.specs.declared.faults.RunFault.{RunFault}
use Rattle.ht_certify.specs.Checks.{checking}
use Rattle.ht_certify.proofs.Ending.{ends, ends_in_part, fails_at_lines, halts, halts_in_part, lacks_at_once, lacks_end, lacks_line}
use Rattle.ht_certify.proofs.Stepping.{checks_begun, checks_on, right_few}
use Rattle.ht_certify.proofs.checking.check_file.Goals as goal

-- what the reader gave, by what came
gives_whole : (old new : ReaderView Record) (came : RecordStep) (r : Record) → came ≡ Whole → GivesRecord old new came r → Gives old new (r ∷ [])
gives_whole old new came r is given = subst (λ (c : RecordStep). GivesRecord old new c r) is given

gives_end : (old new : ReaderView Record) (came : RecordStep) (r : Record) → came ≡ End → GivesRecord old new came r → Completes old new.source
gives_end old new came r is given = subst (λ (c : RecordStep). GivesRecord old new c r) is given

pub returns-in_err-text-clause-checks : goal.returns-in_err-text-clause-checks
returns-in_err-text-clause-checks g c =
    let lacks = lacks_at_once (g.S.Source.shown c.args.source.now) (g.K.Sink.shown c.args.sink.now) in search rules

pub loop-text-init : goal.loop-text-init
loop-text-init g c =
    let a = g.S.Source.shown c.args.source.now in
    let jobs = c.new-score.ensures.jobs in
    let few = c.new-reader.ensures.few in
    record {
      going = c.new-reader.ensures.going;
      few = omega (arith, jobs, few);
      waits = let none = c.in_ok-text.ensures.bytes in omega (arith, ap (λ (xs : List ℕ). length xs) none);
      checks = checks_begun a (g.K.Sink.shown c.args.sink.now) (shown_by c.new-reader.result a) c.new-score.result (string_bytes c.in_ok-text.text)
          (c.new-reader.ensures.first a) jobs c.new-score.ensures.right c.in_ok-text.ensures.bytes;
    }

pub returns-in_err-is_right-in-Ok-Whole-clause-checks : goal.returns-in_err-is_right-in-Ok-Whole-clause-checks
returns-in_err-is_right-in-Ok-Whole-clause-checks g c =
    let old = shown_by c.loop-text.reader (g.S.Source.shown c.loop-text.source) in
    let new = shown_by c.next.new.self (g.S.Source.shown c.next.new.source) in
    let gives = gives_whole old new _ c.next.new.into c.in-Ok-Whole.field-0-is (c.in-Ok-Whole.ensures.told c.loop-text.invariant.going) in
    let lacks = lacks_line (g.S.Source.shown c.args.source.now) (g.K.Sink.shown c.args.sink.now) old (g.K.Sink.shown c.loop-text.sink) c.loop-text.score
    (string_bytes c.loop-text.text) c.loop-text.invariant.checks new c.next.new.into gives in search rules

pub count-requires-clause-right : goal.count-requires-clause-right
count-requires-clause-right g c =
    right_few (g.S.Source.shown c.args.source.now) (g.K.Sink.shown c.args.sink.now) (shown_by c.loop-text.reader (g.S.Source.shown c.loop-text.source))
    (g.K.Sink.shown c.loop-text.sink) c.loop-text.score (string_bytes c.loop-text.text) c.loop-text.invariant.checks

pub loop-text-preserved : goal.loop-text-preserved
loop-text-preserved g c =
    let old = shown_by c.loop-text.reader (g.S.Source.shown c.loop-text.source) in
    let new = shown_by c.next.new.self (g.S.Source.shown c.next.new.source) in
    let r = c.next.new.into in
    let score = c.loop-text.score in
    let gives = gives_whole old new _ c.next.new.into c.in-Ok-Whole.field-0-is (c.in-Ok-Whole.ensures.told c.loop-text.invariant.going) in
    let passes : Advances c.loop-text.reader c.next.new.self Whole r =
    subst (λ (came : RecordStep). Advances c.loop-text.reader c.next.new.self came r) c.in-Ok-Whole.field-0-is c.in-Ok-Whole.ensures.passed in
    let line = c.in_ok-is_right-in-Ok-Whole.ensures in
    let put = c.in_ok-put_block-in-Ok-Whole.ensures in
    let few = c.loop-text.invariant.few in
    let jobs = c.count.ensures.jobs in
    record {
      going = passes.3;
      few = omega (arith, few, jobs, passes.0);
      waits = put.few;
      checks = checks_on (g.S.Source.shown c.args.source.now) (g.K.Sink.shown c.args.sink.now) old new (g.K.Sink.shown c.loop-text.sink)
          (g.K.Sink.shown c.put_block.new.sink) score c.count.new.self (string_bytes c.loop-text.text) (string_bytes c.push_line.new.text) put.grown.0
          (string_bytes c.put_block.new.text) r c.loop-text.invariant.checks gives c.in-Ok-Whole.ensures.later line.line jobs
          (c.count.ensures.right ∙ ap (λ n. score.right + n) line.right) put.grown.1 put.grown.2 put.later put.steady;
    }

pub returns-in_err-put_block-in-Ok-Whole-clause-checks : goal.returns-in_err-put_block-in-Ok-Whole-clause-checks
returns-in_err-put_block-in-Ok-Whole-clause-checks g c =
    let old = shown_by c.loop-text.reader (g.S.Source.shown c.loop-text.source) in
    let new = shown_by c.next.new.self (g.S.Source.shown c.next.new.source) in
    let gives = gives_whole old new _ c.next.new.into c.in-Ok-Whole.field-0-is (c.in-Ok-Whole.ensures.told c.loop-text.invariant.going) in
    let put = c.in_err-put_block-in-Ok-Whole.ensures in
    let fails = fails_at_lines (g.S.Source.shown c.args.source.now) (g.K.Sink.shown c.args.sink.now) old (g.K.Sink.shown c.loop-text.sink)
    c.loop-text.score (string_bytes c.loop-text.text) c.loop-text.invariant.checks new (g.K.Sink.shown c.put_block.new.sink)
    (string_bytes c.push_line.new.text) c.next.new.into gives c.in_ok-is_right-in-Ok-Whole.ensures.line put.part put.cause in search rules

pub returns-in_err-push_checked_line-in-Ok-End-clause-checks : goal.returns-in_err-push_checked_line-in-Ok-End-clause-checks
returns-in_err-push_checked_line-in-Ok-End-clause-checks g c =
    let old = shown_by c.loop-text.reader (g.S.Source.shown c.loop-text.source) in
    let completes = gives_end old (shown_by c.next.new.self (g.S.Source.shown c.next.new.source)) _ c.next.new.into c.in-Ok-End.field-0-is
    (c.in-Ok-End.ensures.told c.loop-text.invariant.going) in
    let lacks = lacks_end (g.S.Source.shown c.args.source.now) (g.K.Sink.shown c.args.sink.now) old (g.K.Sink.shown c.loop-text.sink)
    c.loop-text.score (string_bytes c.loop-text.text) c.loop-text.invariant.checks (g.S.Source.shown c.next.new.source) completes in search rules

pub returns-in_err-put-in-Ok-End-clause-checks : goal.returns-in_err-put-in-Ok-End-clause-checks
returns-in_err-put-in-Ok-End-clause-checks g c =
    let old = shown_by c.loop-text.reader (g.S.Source.shown c.loop-text.source) in
    let completes = gives_end old (shown_by c.next.new.self (g.S.Source.shown c.next.new.source)) _ c.next.new.into c.in-Ok-End.field-0-is
    (c.in-Ok-End.ensures.told c.loop-text.invariant.going) in
    let put = c.in_err-put-in-Ok-End.ensures.puts in
    let fails = ends_in_part (g.S.Source.shown c.args.source.now) (g.K.Sink.shown c.args.sink.now) old (g.K.Sink.shown c.loop-text.sink)
    c.loop-text.score (string_bytes c.loop-text.text) c.loop-text.invariant.checks (g.S.Source.shown c.next.new.source) completes
    (g.K.Sink.shown c.put.new.sink) (string_bytes c.push_checked_line.new.text) c.in_ok-push_checked_line-in-Ok-End.ensures.ok put.part put.cause in
    search rules

pub returns-in-Ok-End-clause-checks : goal.returns-in-Ok-End-clause-checks
returns-in-Ok-End-clause-checks g c =
    let old = shown_by c.loop-text.reader (g.S.Source.shown c.loop-text.source) in
    let completes = gives_end old (shown_by c.next.new.self (g.S.Source.shown c.next.new.source)) _ c.next.new.into c.in-Ok-End.field-0-is
    (c.in-Ok-End.ensures.told c.loop-text.invariant.going) in (
      ends (g.S.Source.shown c.args.source.now) (g.K.Sink.shown c.args.sink.now) old (g.K.Sink.shown c.loop-text.sink)
          c.loop-text.score (string_bytes c.loop-text.text) c.loop-text.invariant.checks (g.S.Source.shown c.next.new.source) completes
          (g.K.Sink.shown c.put.new.sink) (string_bytes c.push_checked_line.new.text) c.in_ok-push_checked_line-in-Ok-End.ensures.ok
          c.in_ok-put-in-Ok-End.ensures.puts.grown,
      tt,
    )

pub returns-in_err-put-in-Err-clause-checks : goal.returns-in_err-put-in-Err-clause-checks
returns-in_err-put-in-Err-clause-checks g c =
    let old = shown_by c.loop-text.reader (g.S.Source.shown c.loop-text.source) in
    let put = c.in_err-put-in-Err.ensures.puts in
    let fails = halts_in_part (g.S.Source.shown c.args.source.now) (g.K.Sink.shown c.args.sink.now) old (g.K.Sink.shown c.loop-text.sink)
    c.loop-text.score (string_bytes c.loop-text.text) c.loop-text.invariant.checks (g.S.Source.shown c.next.new.source) (g.K.Sink.shown c.put-in-Err.new.sink)
    c.in-Err.fault (c.in-Err.ensures.told c.loop-text.invariant.going) put.part put.cause in search rules

pub returns-in-Err-clause-checks : goal.returns-in-Err-clause-checks
returns-in-Err-clause-checks g c =
    let a = g.S.Source.shown c.args.source.now in
    let b = g.S.Source.shown c.next.new.source in
    let k = g.K.Sink.shown c.args.sink.now in
    let l = g.K.Sink.shown c.put-in-Err.new.sink in
    let old = shown_by c.loop-text.reader (g.S.Source.shown c.loop-text.source) in
    subst (λ (fault : RunFault). StreamFails checking a b k l fault) (sym c.from.ensures)
    (halts a k old (g.K.Sink.shown c.loop-text.sink) c.loop-text.score (string_bytes c.loop-text.text) c.loop-text.invariant.checks b l c.in-Err.fault
    (c.in-Err.ensures.told c.loop-text.invariant.going) c.in_ok-put-in-Err.ensures.puts.grown c.in_ok-put-in-Err.ensures.puts.later)
