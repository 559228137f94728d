use Rattle.std.proofs.Common.{◌≡◌, ℕ, List, [], ◌++◌, length, flat_map, ap, subst, ◌∙◌, append-nil, rules}
use Rattle.ht_io.specs.Devices.{Device}
use Rattle.ht_capture.specs.declared.frames.CaptureFrame.{CaptureFrame}
use Rattle.ht_cert.specs.Files.{record_octets, records_start}
use Rattle.ht_certify.specs.Making.{file_of_frames, records_of_frames}
use Rattle.ht_certify.specs.Writing.{PutsThrough}
use Rattle.ht_certify.proofs.Passing.{breaks_later, passes_more, passes_waiting, put_breaks, put_last}
use Rattle.ht_certify.proofs.Shown.{file_parts}
use Rattle.ht_certify.proofs.putting.put_file.Goals as goal

-- the start of the file waits in a block that had nothing
start_waits : (fs : List CaptureFrame) (count : ℕ) (block block' : List ℕ) (a : Device ℕ) → count ≡ length (records_of_frames fs) → block ≡ []
    → block' ≡ block ++ records_start count → PutsThrough [] a a (records_start (length (records_of_frames fs))) block'
start_waits fs count block block' a is none added =
    passes_waiting [] (records_start (length (records_of_frames fs))) block' a
    (added ∙ (ap (λ (w : List ℕ). w ++ records_start count) none ∙ ap (λ n. records_start n) is))

-- and with the records behind it it is the file
file_passes : (fs : List CaptureFrame) (block block' : List ℕ) (a b : Device ℕ) → PutsThrough [] a a (records_start (length (records_of_frames fs))) block
    → PutsThrough block a b (flat_map record_octets (records_of_frames fs)) block' → PutsThrough [] a b (file_of_frames fs) block'
file_passes fs block block' a b start records =
    subst (λ (z : List ℕ). PutsThrough [] a b z block') (file_parts fs)
    (passes_more [] block block' (records_start (length (records_of_frames fs))) (flat_map record_octets (records_of_frames fs)) a a b start records)

pub returns-in_err-put_frames : goal.returns-in_err-put_frames
returns-in_err-put_frames g c =
    let fs = c.args.frames.now in
    let a = g.K.Sink.shown c.args.sink.now in
    let start = start_waits fs c.in_ok-count.field-0 _ _ a c.in_ok-count.ensures c.new-block.ensures c.in_ok-add_start.ensures.added in
    let rest = flat_map record_octets (records_of_frames fs) in
    let breaks = breaks_later [] c.add_start.new.self (records_start (length (records_of_frames fs))) rest [] (file_of_frames fs) a a
    (g.K.Sink.shown c.put_frames.new.sink) c.in_err-put_frames.field-0.0
    (ap (λ (z : List ℕ). records_start (length (records_of_frames fs)) ++ z) (append-nil rest) ∙ file_parts fs) start c.in_err-put_frames.ensures in
    search rules

pub returns-in_err-put : goal.returns-in_err-put
returns-in_err-put g c =
    let fs = c.args.frames.now in
    let a = g.K.Sink.shown c.args.sink.now in
    let start = start_waits fs c.in_ok-count.field-0 _ _ a c.in_ok-count.ensures c.new-block.ensures c.in_ok-add_start.ensures.added in
    let breaks = put_breaks [] c.put_frames.new.block (file_of_frames fs) a _ (g.K.Sink.shown c.put.new.sink)
    (file_passes fs c.add_start.new.self _ a (g.K.Sink.shown c.put_frames.new.sink) start c.in_ok-put_frames.ensures)
    c.in_err-put.ensures.puts.part c.in_err-put.ensures.puts.cause c.in_err-put.ensures.puts.later in
    search rules

pub returns : goal.returns
returns g c =
    let a = g.K.Sink.shown c.args.sink.now in
    let b = g.K.Sink.shown c.put_frames.new.sink in
    put_last [] c.put_frames.new.block (file_of_frames c.args.frames.now) a b (g.K.Sink.shown c.put.new.sink)
    (file_passes c.args.frames.now c.add_start.new.self _ a b
    (start_waits c.args.frames.now c.in_ok-count.field-0 _ _ a c.in_ok-count.ensures c.new-block.ensures c.in_ok-add_start.ensures.added)
    c.in_ok-put_frames.ensures) c.in_ok-put.ensures.puts.grown c.in_ok-put.ensures.puts.steady c.in_ok-put.ensures.puts.later
