-- Files of frames that were received exactly: their results, and their text.
use Rattle.std.proofs.Common.{◌≡◌, ◌⊎◌, inl, inr, ℕ, suc, ◌+◌, ◌*◌, List, [], ◌∷◌, ◌++◌, length, map, All, Bool, true, None, if◌then◌else◌}
use Rattle.std.proofs.Common.{refl, sym, ap, subst, ◌∙◌, arith}
use Rattle.std.specs.List.{AllByRecursion, filter}
use Rattle.std.proofs.lemmas.Bool.{eq-eqb}
use Rattle.std.proofs.lemmas.List.{length-map}
use Rattle.std.proofs.lemmas.List.Elements.{All-cons, All-nil, recursion_from_All}
use Rattle.ht_fields.specs.Cases.{File}
use Rattle.ht_fields.specs.Meanings.{Meaning}
use Rattle.ht_fields.proofs.Answered.{met}
use Rattle.ht_rate.specs.Rates.{symbols_of}
use Rattle.ht_metric.specs.Jobs.{JobView}
use Rattle.ht_capture.specs.declared.frames.CaptureFrame.{CaptureFrame}
use Rattle.ht_capture.specs.declared.items.Item.{Item}
use Rattle.ht_capture.specs.declared.items.Item.TheVariants.{Frame, Job}
use Rattle.ht_capture.specs.Captures.{capture_of}
use Rattle.ht_capture.specs.Contents.{AreTyped, AreWhole, IsVersion, head_of, items_from, items_of, presents_of}
use Rattle.ht_capture.specs.Fields.{captures}
use Rattle.ht_capture.specs.Files.{AreCaptureFrames, FitsFrame, capture_file_of}
use Rattle.ht_capture.proofs.Equal.{file_same}
use Rattle.ht_capture.proofs.Filed.{file_written}
use Rattle.ht_capture_laws.specs.Items.{FrameJobs, IsWholeFrame, carriers_in, frames_in, has_all_jobs, items_in}
use Rattle.ht_capture_laws.specs.Items.{items_of_frame, place_in, symbol_places, symbols_in, whole_frames}
use Rattle.ht_capture_laws.proofs.Lists.{length-flat}
use Rattle.ht_capture_laws.proofs.More.{all_whole}
use Rattle.ht_capture_laws.proofs.Parts.{frames_back}
use Rattle.ht_text.specs.Lines.{end_text}
use Rattle.ht_tx.specs.Frames.{FrameView}
use Rattle.ht_tx.specs.Symbols.{SymbolsView}
use Rattle.ht_tx.specs.Transmitted.{AreTransmitted}
use Rattle.ht_files.specs.Files.{AreFrames, IsFrame}
use Rattle.ht_round.specs.Returns.{AreOctets}
use Rattle.ht_results.specs.declared.frame_result.FrameResult.{FrameResult}
use Rattle.ht_results.specs.Results.{frame_result, results_of}
use Rattle.ht_results.specs.Texts.{frame_lines_of, frames_of, last_line, last_of, result_lines, rx_text}
use Rattle.ht_round.specs.Exact.{AreExact, HoldOctets}
use Rattle.ht_round.specs.Returned.{returned_from, returned_lines, returned_results, returned_text}
use Rattle.ht_round.proofs.Frame.{frame_back, frame_fits, frame_typed, made_frame, as_received}
use Rattle.ht_round.proofs.Jobs.{frame_items}

-- such frames can be written
counted : (frames : List FrameView) (sent : List SymbolsView) (captured : List CaptureFrame) → AreTransmitted frames sent → AreExact sent captured
    → length captured ≡ length frames
counted [] [] [] out exact = refl
counted [] [] (c ∷ captured) out exact = absurd exact
counted [] (s ∷ sent) captured out exact = absurd out
counted (f ∷ frames) [] captured out exact = absurd out
counted (f ∷ frames) (s ∷ sent) [] out exact = absurd exact
counted (f ∷ frames) (s ∷ sent) (c ∷ captured) out exact = ap suc (counted frames sent captured out.2 exact.1)

all_fit : (frames : List FrameView) (sent : List SymbolsView) (captured : List CaptureFrame) → AreTransmitted frames sent → AreExact sent captured
    → All FitsFrame captured
all_fit [] [] [] out exact = All-nil FitsFrame
all_fit [] [] (c ∷ captured) out exact = absurd exact
all_fit [] (s ∷ sent) captured out exact = absurd out
all_fit (f ∷ frames) [] captured out exact = absurd out
all_fit (f ∷ frames) (s ∷ sent) [] out exact = absurd exact
all_fit (f ∷ frames) (s ∷ sent) (c ∷ captured) out exact =
    All-cons FitsFrame c captured (frame_fits f s c (as_received f s c out.0 out.1 exact.0)) (all_fit frames sent captured out.2 exact.1)

all_typed : (frames : List FrameView) (sent : List SymbolsView) (captured : List CaptureFrame) → AreTransmitted frames sent → AreExact sent captured
    → AreTyped captured
all_typed [] [] [] out exact = tt
all_typed [] [] (c ∷ captured) out exact = absurd exact
all_typed [] (s ∷ sent) captured out exact = absurd out
all_typed (f ∷ frames) [] captured out exact = absurd out
all_typed (f ∷ frames) (s ∷ sent) [] out exact = absurd exact
all_typed (f ∷ frames) (s ∷ sent) (c ∷ captured) out exact =
    (frame_typed f s c (as_received f s c out.0 out.1 exact.0), all_typed frames sent captured out.2 exact.1)

none_missing : (sent : List SymbolsView) (captured : List CaptureFrame) → AreExact sent captured → AreWhole captured
none_missing [] [] exact = tt
none_missing [] (c ∷ captured) exact = absurd exact
none_missing (s ∷ sent) [] exact = absurd exact
none_missing (s ∷ sent) (c ∷ captured) exact = (exact.0.whole, none_missing sent captured exact.1)

can_be : (version : ℕ) (captured : List CaptureFrame) → (version ≡ 1) ⊎ (version ≡ 2) → AreWhole captured → IsVersion version captured
can_be version captured (inl one) whole = inl (one, whole)
can_be version captured (inr two) whole = inr two

pub written : (version : ℕ) (frames : List FrameView) (sent : List SymbolsView) (captured : List CaptureFrame)
    → (version ≡ 1) ⊎ (version ≡ 2) → AreFrames frames → AreTransmitted frames sent → AreExact sent captured
    → AreCaptureFrames captured × AreTyped captured × IsVersion version captured
written version frames sent captured either good out exact =
    let few = good.few in
    let count = counted frames sent captured out exact in (
      record { few = omega (arith, few, count); fit = all_fit frames sent captured out exact },
      all_typed frames sent captured out exact,
      can_be version captured either (none_missing sent captured exact),
    )

-- the frames of a written file
abbrev made_frames : ℕ → ℕ → List CaptureFrame → List FrameJobs
made_frames frame number [] = []
made_frames frame number (c ∷ captured) =
    made_frame frame number c ∷ made_frames (frame + 1) (number + symbols_of c.rate c.length * length (presents_of c)) captured

items_are : (frame number : ℕ) (captured : List CaptureFrame) → items_from frame number captured ≡ items_in (made_frames frame number captured)
unfolding items_from
items_are frame number [] = refl
items_are frame number (c ∷ captured) =
    let next : ℕ = number + symbols_of c.rate c.length * length (presents_of c) in
    ap (λ (z : List Item). (Frame (head_of frame c) ∷ z) ++ items_from (frame + 1) next captured)
    (frame_items (symbols_of c.rate c.length) (head_of frame c) 0 number (presents_of c) c.samples)
    ∙ ap (λ (z : List Item). items_of_frame (made_frame frame number c) ++ z) (items_are (frame + 1) next captured)

meant : (version : ℕ) (captured : List CaptureFrame) → AreCaptureFrames captured → AreTyped captured → IsVersion version captured
    → capture_of (capture_file_of version captured) ≡ record { items = items_in (made_frames 0 0 captured); fault = None }
meant version captured fit typed allowed =
    let of : List Item → Meaning Item = λ items. record { items = items; fault = None } in
    met captures (capture_file_of version captured) (items_of captured) File (file_written version captured fit typed allowed)
    ∙ ap of (items_are 0 0 captured)

-- all of them are whole
whole_has_all : (g : FrameJobs) → IsWholeFrame g → has_all_jobs g ≡ true
whole_has_all g whole =
    eq-eqb (length g.jobs) (symbols_in g.head * length (carriers_in g.head))
    (sym (length-map g.jobs (λ (j : JobView). j.place))
    ∙ (ap length whole.places
    ∙ length-flat (symbol_places g.head) (length (carriers_in g.head)) 0 (symbols_in g.head) (λ i. length-map (carriers_in g.head) (place_in g.head i))))

kept_all : (gs : List FrameJobs) → AllByRecursion IsWholeFrame gs → filter has_all_jobs gs ≡ gs
kept_all [] whole = refl
kept_all (g ∷ gs) whole =
    ap (λ (b : Bool). if b then g ∷ filter has_all_jobs gs else filter has_all_jobs gs) (whole_has_all g whole.0)
    ∙ ap (λ (z : List FrameJobs). g ∷ z) (kept_all gs whole.1)

made_whole : (version : ℕ) (captured : List CaptureFrame) → AreCaptureFrames captured → AreTyped captured → IsVersion version captured
    → AllByRecursion IsWholeFrame (made_frames 0 0 captured)
made_whole version captured fit typed allowed =
    recursion_from_All IsWholeFrame (made_frames 0 0 captured)
    (subst (All IsWholeFrame) (ap frames_in (items_are 0 0 captured) ∙ frames_back (made_frames 0 0 captured)) (all_whole version captured fit typed allowed))

-- their results
made_back : (frame number : ℕ) (frames : List FrameView) (sent : List SymbolsView) (captured : List CaptureFrame)
    → AllByRecursion IsFrame frames → AllByRecursion (λ (f : FrameView). AreOctets f.octets) frames → AreTransmitted frames sent → AreExact sent captured
    → AllByRecursion IsWholeFrame (made_frames frame number captured) → map frame_result (made_frames frame number captured) ≡ returned_from frame frames
made_back frame number [] [] [] good octets out exact whole = refl
made_back frame number [] [] (c ∷ captured) good octets out exact whole = absurd exact
made_back frame number [] (s ∷ sent) captured good octets out exact whole = absurd out
made_back frame number (f ∷ frames) [] captured good octets out exact whole = absurd out
made_back frame number (f ∷ frames) (s ∷ sent) [] good octets out exact whole = absurd exact
made_back frame number (f ∷ frames) (s ∷ sent) (c ∷ captured) good octets out exact whole =
    let next : ℕ = number + symbols_of c.rate c.length * length (presents_of c) in
    ap (λ (z : FrameResult). z ∷ map frame_result (made_frames (frame + 1) next captured))
    (frame_back frame number f s c good.0.seed octets.0 out.0 (as_received f s c out.0 out.1 exact.0) whole.0)
    ∙ ap (λ (z : List FrameResult). (returned_from frame (f ∷ [])) ++ z)
    (made_back (frame + 1) next frames sent captured good.1 octets.1 out.2 exact.1 whole.1)

pub results_back : (version : ℕ) (frames : List FrameView) (sent : List SymbolsView) (captured : List CaptureFrame)
    → (version ≡ 1) ⊎ (version ≡ 2) → AreFrames frames → HoldOctets frames → AreTransmitted frames sent → AreExact sent captured
    → results_of (capture_file_of version captured) ≡ returned_results frames
unfolding results_of
results_back version frames sent captured either good octets out exact =
    let w = written version frames sent captured either good out exact in
    let gs : List FrameJobs = made_frames 0 0 captured in
    let whole = made_whole version captured w.0 w.1 w.2 in
    ap (λ (m : Meaning Item). map frame_result (whole_frames m.items)) (meant version captured w.0 w.1 w.2)
    ∙ (ap (λ (z : List FrameJobs). map frame_result (filter has_all_jobs z)) (frames_back gs)
    ∙ (ap (map frame_result) (kept_all gs whole)
    ∙ made_back 0 0 frames sent captured (recursion_from_All IsFrame frames good.fit)
    (recursion_from_All (λ (f : FrameView). AreOctets f.octets) frames octets) out exact whole))

-- their text
jobs_count : (jobs : List JobView) (items : List Item) → frames_of (map Job jobs ++ items) ≡ frames_of items
jobs_count [] items = refl
jobs_count (job ∷ jobs) items = jobs_count jobs items

frames_count : (gs : List FrameJobs) → frames_of (items_in gs) ≡ length gs
frames_count [] = refl
frames_count (g ∷ gs) =
    let rest = jobs_count g.jobs (items_in gs) ∙ frames_count gs in
    ap (λ (n : ℕ). 1 + n) rest ∙ omega arith

length-made : (frame number : ℕ) (captured : List CaptureFrame) → length (made_frames frame number captured) ≡ length captured
length-made frame number [] = refl
length-made frame number (c ∷ captured) = ap suc (length-made (frame + 1) (number + symbols_of c.rate c.length * length (presents_of c)) captured)

pub text_back : (version : ℕ) (frames : List FrameView) (sent : List SymbolsView) (captured : List CaptureFrame)
    → (version ≡ 1) ⊎ (version ≡ 2) → AreFrames frames → HoldOctets frames → AreTransmitted frames sent → AreExact sent captured
    → rx_text (capture_file_of version captured) ≡ returned_text frames
unfolding rx_text frame_lines_of last_line
text_back version frames sent captured either good octets out exact =
    let w = written version frames sent captured either good out exact in
    let gs : List FrameJobs = made_frames 0 0 captured in
    let file : List ℕ = capture_file_of version captured in
    let lines : result_lines (results_of file) ≡ returned_lines 0 frames =
    ap result_lines (results_back version frames sent captured either good octets out exact) in
    let count : frames_of (items_in gs) ≡ length frames = frames_count gs ∙ (length-made 0 0 captured ∙ counted frames sent captured out exact) in
    let last : last_of (capture_of file).fault (frames_of (capture_of file).items) ≡ end_text (length frames) =
    ap (λ (m : Meaning Item). last_of m.fault (frames_of m.items)) (meant version captured w.0 w.1 w.2) ∙ ap end_text count in
    ap (λ (z : List ℕ). z ++ last_of (capture_of file).fault (frames_of (capture_of file).items)) lines
    ∙ ap (λ (z : List ℕ). returned_lines 0 frames ++ z) last

-- the same frames, written again
pub rewritten : (version other into : ℕ) (frames : List FrameView) (sent : List SymbolsView) (captured others : List CaptureFrame)
    → (version ≡ 1) ⊎ (version ≡ 2) → (into ≡ 1) ⊎ (into ≡ 2)
    → AreFrames frames → HoldOctets frames → AreTransmitted frames sent → AreExact sent captured
    → AreCaptureFrames others → AreTyped others → IsVersion other others → capture_file_of version captured ≡ capture_file_of other others
    → rx_text (capture_file_of into others) ≡ returned_text frames
rewritten version other into frames sent captured others either either_into good octets out exact fit typed allowed same =
    let w = written version frames sent captured either good out exact in
    let those : captured ≡ others = (file_same version other captured others w.0 w.1 w.2 fit typed allowed same).1 in
    ap (λ (cs : List CaptureFrame). rx_text (capture_file_of into cs)) (sym those)
    ∙ text_back into frames sent captured either_into good octets out exact
