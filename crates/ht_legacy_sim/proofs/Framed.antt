-- The octets of a frame's capture, and of all.
use Rattle.std.proofs.Common.{◌≡◌, ℕ, ◌+◌, ◌<◌, List, [], ◌∷◌, ◌++◌, length, flat_map, drop, get_or, sym, ap, ◌∙◌, add-one}
use Rattle.std.proofs.Math.Seq.{drop-cons}
use Rattle.ht_pam.specs.declared.point.Point.{Point}
use Rattle.ht_metric.specs.declared.sample.Sample.{Sample}
use Rattle.ht_capture.specs.Files.{sample_octets}
use Rattle.ht_clause18.specs.declared.rates.LegacyRate.{LegacyRate}
use Rattle.ht_clause18.specs.Carriers.{carriers}
use Rattle.ht_clause18.specs.Frames.{LegacyFrameView}
use Rattle.ht_clause18.specs.Points.{sent_points}
use Rattle.ht_heads.specs.Starts.{started_octets}
use Rattle.ht_legacy_files.specs.CaptureFiles.{LegacyCapture, capture_octets, captures_file_of, head_octets}
use Rattle.ht_legacy_files.specs.CaptureFormats.{captures_magic}
use Rattle.ht_sim.specs.Channel.{sample_drawn}
use Rattle.ht_sim.specs.Draws.{Drawn, drawn, each, several}
use Rattle.ht_sim.specs.Words.{first}
use Rattle.ht_sim.proofs.Drawing.{length-each}
use Rattle.ht_legacy_sim.specs.Drawing.{capture_drawn, captures_of, diagonal_drawn, exact_from}
use Rattle.ht_legacy_sim.proofs.Drawn.{behind}

-- the octets of a frame with these diagonals and points, from a state on
abbrev pub made : ℕ → LegacyRate → ℕ → List ℕ → List ℕ → ℕ → List Point → Drawn (List ℕ)
made noise rate octets ds es w points =
    behind sample_octets (head_octets (record { rate = rate; length = octets; diagonals = ds })) (each (sample_drawn noise) (exact_from es 0 points) w)

-- they are those of its capture
pub framed : (noise : ℕ) (f : LegacyFrameView) (rate : LegacyRate) (octets : ℕ) (items ds es : List ℕ) (points : List Point) (z w : ℕ)
    → drawn items w ≡ several diagonal_drawn carriers z → ds ≡ items → es ≡ items → points ≡ sent_points f → rate ≡ f.rate → octets ≡ length f.octets
    → made noise rate octets ds es w points ≡ drawn (capture_octets (capture_drawn noise f z).value) (capture_drawn noise f z).state
unfolding capture_drawn capture_octets
framed noise f rate octets items ds es points z w diagonals same also sent r n =
    let len : ℕ = length f.octets in
    let ps : List Point = sent_points f in
    ap (λ (q : LegacyRate). made noise q octets ds es w points) r
    ∙ ap (λ k. made noise f.rate k ds es w points) n
    ∙ ap (λ (xs : List Point). made noise f.rate len ds es w xs) sent
    ∙ ap (λ (xs : List ℕ). made noise f.rate len xs es w ps) same
    ∙ ap (λ (xs : List ℕ). made noise f.rate len items xs w ps) also
    ∙ ap (λ (d : Drawn (List ℕ)). made noise f.rate len d.value d.value d.state ps) diagonals

-- a chunk that was cleared, and then got these octets
pub cleared : (chunk old head : List ℕ) → chunk ≡ old ++ head → old ≡ [] → chunk ≡ head
cleared chunk old head is none = is ∙ ap (λ (o : List ℕ). o ++ head) none

-- What is put of a frame with these diagonals and points: the head, and then its samples.
module _ (noise : ℕ) (f : LegacyFrameView) (rate : LegacyRate) (octets : ℕ) (items ds es : List ℕ) (points : List Point) (z w : ℕ)
    (diagonals : drawn items w ≡ several diagonal_drawn carriers z) (same : ds ≡ items) (also : es ≡ items) (sent : points ≡ sent_points f)
    (r : rate ≡ f.rate) (n : octets ≡ length f.octets) where
  abbrev head_put : List ℕ
  head_put = head_octets (record { rate = rate; length = octets; diagonals = ds })

  abbrev samples_put : Drawn (List Sample)
  samples_put = each (sample_drawn noise) (exact_from es 0 points) w

  all : made noise rate octets ds es w points ≡ drawn (capture_octets (capture_drawn noise f z).value) (capture_drawn noise f z).state
  all = framed noise f rate octets items ds es points z w diagonals same also sent r n

  pub octets_put : (front chunk old : List ℕ) → front ≡ chunk → chunk ≡ old ++ head_put → old ≡ []
      → front ++ flat_map sample_octets samples_put.value ≡ capture_octets (capture_drawn noise f z).value
  octets_put front chunk old is behind_old none =
      ap (λ (o : List ℕ). o ++ flat_map sample_octets samples_put.value) (is ∙ cleared chunk old head_put behind_old none)
      ∙ ap (λ (d : Drawn (List ℕ)). d.value) all

  pub words_left : samples_put.state ≡ (capture_drawn noise f z).state
  words_left = ap (λ (d : Drawn (List ℕ)). d.state) all

-- the frame whose turn it is, and those behind it
pub next_is : (frames : List LegacyFrameView) (k : ℕ) (f : LegacyFrameView) → k < length frames → f ≡ get_or frames k f
    → drop k frames ≡ f ∷ drop (k + 1) frames
next_is frames k f lt is = rw add-one (drop-cons frames k f lt) ∙ ap (λ (s : LegacyFrameView). s ∷ drop (k + 1) frames) (sym is)

pub next_put : (noise : ℕ) (frames : List LegacyFrameView) (k : ℕ) (f : LegacyFrameView) (z : ℕ) → k < length frames → f ≡ get_or frames k f
    → capture_octets (capture_drawn noise f z).value
    ++ flat_map capture_octets (each (capture_drawn noise) (drop (k + 1) frames) (capture_drawn noise f z).state).value
    ≡ flat_map capture_octets (each (capture_drawn noise) (drop k frames) z).value
next_put noise frames k f z lt is =
    ap (λ (fs : List LegacyFrameView). flat_map capture_octets (each (capture_drawn noise) fs z).value) (sym (next_is frames k f lt is))

-- the file of all frames
pub whole_file : (seed noise : ℕ) (frames : List LegacyFrameView)
    → started_octets captures_magic 2 (length frames) ++ flat_map capture_octets (each (capture_drawn noise) frames (first seed)).value
    ≡ captures_file_of (captures_of seed noise frames)
unfolding captures_of captures_file_of
whole_file seed noise frames =
    let cs : List LegacyCapture = (each (capture_drawn noise) frames (first seed)).value in
    ap (λ n. started_octets captures_magic 2 n ++ flat_map capture_octets cs) (sym (length-each (capture_drawn noise) frames (first seed)))
