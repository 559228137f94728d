-- A frame that was read.
use Rattle.std.proofs.Common.{◌≡◌, inl, inr, ℕ, ◌+◌, ◌*◌, ◌-◌, ◌≤◌, List, [], ◌∷◌, ◌++◌, length, take, flat_map}
use Rattle.std.proofs.Common.{All, true, nat_eq, sym, ap, subst, ◌∙◌, append_assoc, arith}
use Rattle.std.proofs.lemmas.Bool.{or_cases}
use Rattle.std.proofs.lemmas.Bool.Decides.{nat_tests}
use Rattle.std.proofs.lemmas.List.{append-nil, length-map, length-take-le}
use Rattle.std.proofs.lemmas.List.Elements.{All-nil, All-cons, All-push}
use Rattle.std.proofs.lemmas.Grind.{flat_map-append}
use Rattle.ht_io.specs.Devices.{Device, Takes, TakesAll}
use Rattle.ht_io.proofs.Calls.{takes-append, takes-all}
use Rattle.ht_rate.specs.declared.rates.Rate.{Rate}
use Rattle.ht_rate.specs.Rates.{carriers_of, streams_of, symbols_of}
use Rattle.ht_metric.specs.Rows.{Leg}
use Rattle.ht_capture.specs.declared.frames.CaptureFrame.{CaptureFrame}
use Rattle.ht_capture.specs.declared.places.Present.{Present}
use Rattle.ht_capture.specs.declared.places.Turn.{Turn}
use Rattle.ht_capture.specs.Fields.{known_version, next_turn}
use Rattle.ht_capture.specs.Files.{FitsFrame, HasAllCarriers, carriers_octets, capture_file_of}
use Rattle.ht_capture.specs.Files.{capture_frame_octets, front_octets, sample_octets, capture_start}
use Rattle.ht_capture.specs.Contents.{AreTriangles, AreTyped, AreWhole, IsTyped, IsVersion}
use Rattle.ht_capture.specs.Taking.{AreRead, ReadsCaptures, SameTurn, triangles_of}
use Rattle.ht_capture.proofs.Octets.{takes_as}
use Rattle.ht_heads.specs.Heads.{head_octets}

pub turn_is : (new old : Turn) → SameTurn new old
    → (let t : Turn = record { version = new.version; left = old.left - 1; frame = old.frame + 1; number = new.number } in t) ≡ next_turn new
unfolding next_turn
turn_is new old same =
    ap (λ (n : ℕ). let t : Turn = record { version = new.version; left = n - 1; frame = old.frame + 1; number = new.number } in t) (sym same.1)
    ∙ ap (λ (n : ℕ). let t : Turn = record { version = new.version; left = new.left - 1; frame = n + 1; number = new.number } in t) (sym same.2)

pub length-triangles : (present : List Present) (count : ℕ) → count ≤ length present → length (triangles_of (take count present)) ≡ count
length-triangles present count le = length-map (take count present) (λ (p : Present). p.triangle) ∙ length-take-le count present le

-- the octets of a frame
pub frame_taken : (version : ℕ) (f : CaptureFrame) (rate : Rate) (len : ℕ) (old a b new : Device ℕ)
    → Takes old a (head_octets rate len) → f.rate ≡ rate → f.length ≡ len
    → AreRead version (carriers_of f.rate) f.rate f.erased f.triangles a b
    → Takes b new (flat_map sample_octets f.samples) → Takes old new (capture_frame_octets version f)
unfolding capture_frame_octets front_octets
frame_taken version f rate len old a b new x same same_length read z =
    let front : Takes old a (head_octets f.rate f.length) =
    takes_as old.known a.known _ _ (ap (λ (r : Rate). head_octets r len) (sym same) ∙ ap (λ n. head_octets f.rate n) (sym same_length)) x in
    takes-append old b new (head_octets f.rate f.length ++ carriers_octets version (carriers_of f.rate) f.erased f.triangles) (flat_map sample_octets f.samples)
    (takes-append old a b (head_octets f.rate f.length) (carriers_octets version (carriers_of f.rate) f.erased f.triangles) front read.octets) z

-- the triangles have the streams
pub typed_all : (streams : ℕ) (ts : List (List Leg)) → AreTriangles streams ts → All (λ t. length t ≡ streams) ts
typed_all streams [] typed = All-nil (λ t. length t ≡ streams)
typed_all streams (t ∷ ts) typed = All-cons (λ t. length t ≡ streams) t ts typed.0 (typed_all streams ts typed.2)

pub frame_fits : (f : CaptureFrame) (version count : ℕ) (a b : Device ℕ) → 1 ≤ f.length
    → AreRead version (carriers_of f.rate) f.rate f.erased f.triangles a b → length f.triangles ≡ count → 1 ≤ count
    → length f.samples ≡ symbols_of f.rate f.length * (count * streams_of f.rate) → FitsFrame f
frame_fits f version count a b some read size one samples =
    let present = sym read.present ∙ size in
    record {
      some = some;
      marks = read.marks;
      present = omega (arith, present, one);
      triangles = read.present;
      streams = typed_all (streams_of f.rate) f.triangles read.typed;
      samples = samples ∙ ap (λ n. symbols_of f.rate f.length * (n * streams_of f.rate)) (sym present);
    }

pub read_as : (version count : ℕ) (rate : Rate) (e : ℕ) (xs ys : List (List Leg)) (a b : Device ℕ)
    → xs ≡ ys → AreRead version count rate e xs a b → AreRead version count rate e ys a b
read_as version count rate e xs ys a b is r = subst (λ (z : List (List Leg)). AreRead version count rate e z a b) is r

-- the frames that were read
pub record Frames (version : ℕ) (frames : List CaptureFrame) : Type 0 where
  pub fit : All FitsFrame frames
  pub typed : AreTyped frames
  pub whole : (version ≡ 2 → ⊥) → AreWhole frames

pub no_frames : (version : ℕ) → Frames version []
no_frames version = record { fit = All-nil FitsFrame; typed = tt; whole = λ not. tt }

fit_more : (xs : List CaptureFrame) (f : CaptureFrame) → All FitsFrame xs → FitsFrame f → All FitsFrame (xs ++ f ∷ [])
fit_more xs f all one = All-push FitsFrame xs f all one

pub typed_more : (xs : List CaptureFrame) (f : CaptureFrame) → AreTyped xs → IsTyped f → AreTyped (xs ++ f ∷ [])
typed_more [] f all one = (one, tt)
typed_more (x ∷ xs) f all one = (all.0, typed_more xs f all.1 one)

whole_more : (xs : List CaptureFrame) (f : CaptureFrame) → AreWhole xs → HasAllCarriers f → AreWhole (xs ++ f ∷ [])
whole_more [] f all one = (one, tt)
whole_more (x ∷ xs) f all one = (all.0, whole_more xs f all.1 one)

pub more_frames : (version : ℕ) (xs : List CaptureFrame) (f : CaptureFrame) (ys : List CaptureFrame)
    → ys ≡ xs ++ f ∷ [] → Frames version xs → FitsFrame f → IsTyped f → ((version ≡ 2 → ⊥) → HasAllCarriers f) → Frames version ys
more_frames version xs f ys is all fits typed whole = subst (λ (z : List CaptureFrame). Frames version z) (sym is) (record {
  fit = fit_more xs f all.fit fits;
  typed = typed_more xs f all.typed typed;
  whole = λ not. whole_more xs f (all.whole not) (whole not);
})

version_of : (version : ℕ) (frames : List CaptureFrame) → known_version version ≡ true → ((version ≡ 2 → ⊥) → AreWhole frames) → IsVersion version frames
version_of version frames known whole =
    elim (or_cases (nat_eq version 1) (nat_eq version 2) known) [
      | inl one ↦ let is : version ≡ 1 = grind (arith, nat_tests) in inl (is, whole (λ two. absurd (omega (arith, is, two))))
      | inr two ↦ let is : version ≡ 2 = grind (arith, nat_tests) in inr is
    ]

takes_end : (old mid after : Device ℕ) (xs : List ℕ) → Takes old mid xs → TakesAll mid after [] → TakesAll old after xs
takes_end old mid after xs a b = subst (λ (z : List ℕ). TakesAll old after z) (append-nil xs) (takes-all old mid after xs [] a b)

-- the whole file
pub file_read : (version count : ℕ) (frames : List CaptureFrame) (old mid after : Device ℕ)
    → known_version version ≡ true → length frames ≡ count → count ≤ 65535 → Frames version frames
    → Takes old mid (capture_start version count ++ flat_map (capture_frame_octets version) frames) → TakesAll mid after [] → ReadsCaptures old after frames
unfolding capture_file_of
file_read version count frames old mid after known size few all taken end = (
  version,
  (
    (version_of version frames known all.whole, record { few = omega (arith, size, few); fit = all.fit }, all.typed),
    takes_end old mid after _ (takes_as old.known mid.known _ _
        (ap (λ n. capture_start version n ++ flat_map (capture_frame_octets version) frames) (sym size)) taken) end,
  ),
)

-- the octets of one frame more
pub taken_more : (version : ℕ) (start : List ℕ) (xs ys : List CaptureFrame) (f : CaptureFrame) (old mid new : Device ℕ) → ys ≡ xs ++ f ∷ []
    → Takes old mid (start ++ flat_map (capture_frame_octets version) xs) → Takes mid new (capture_frame_octets version f)
    → Takes old new (start ++ flat_map (capture_frame_octets version) ys)
taken_more version start xs ys f old mid new is a b =
    let one : flat_map (capture_frame_octets version) (f ∷ []) ≡ capture_frame_octets version f = append-nil (capture_frame_octets version f) in
    let all : (start ++ flat_map (capture_frame_octets version) xs) ++ capture_frame_octets version f ≡ start ++ flat_map (capture_frame_octets version) ys =
    append_assoc start (flat_map (capture_frame_octets version) xs) (capture_frame_octets version f)
    ∙ ap (λ (z : List ℕ). start ++ z)
    (ap (λ (z : List ℕ). flat_map (capture_frame_octets version) xs ++ z) (sym one)
    ∙ (sym (flat_map-append (capture_frame_octets version) xs (f ∷ []))
    ∙ ap (λ (z : List CaptureFrame). flat_map (capture_frame_octets version) z) (sym is))) in
    takes_as old.known new.known _ _ all (takes-append old mid new (start ++ flat_map (capture_frame_octets version) xs) (capture_frame_octets version f) a b)

-- this many frames were read, behind the beginning of the file
pub record SoFar (version count : ℕ) (frames : List CaptureFrame) (left later : Device ℕ) : Type 0 where
  pub octets : Takes left later (capture_start version count ++ flat_map (capture_frame_octets version) frames)
  pub known : known_version version ≡ true
  pub all : Frames version frames

pub version_as : (version other count : ℕ) (frames : List CaptureFrame) (left later : Device ℕ)
    → version ≡ other → SoFar version count frames left later → SoFar other count frames left later
version_as version other count frames left later is s = subst (λ (v : ℕ). SoFar v count frames left later) is s

-- no frame yet
pub so_far_none : (version count : ℕ) (frames : List CaptureFrame) (left later : Device ℕ) → frames ≡ []
    → known_version version ≡ true → Takes left later (capture_start version count) → SoFar version count frames left later
so_far_none version count frames left later none known taken = subst (λ (f : List CaptureFrame). SoFar version count f left later) (sym none) (record {
  octets = takes_as left.known later.known _ _ (sym (append-nil (capture_start version count))) taken;
  known = known;
  all = no_frames version;
})

-- one frame more
pub so_far_more : (version other count : ℕ) (xs ys : List CaptureFrame) (f : CaptureFrame) (left mid later : Device ℕ)
    → SoFar version count xs left mid → other ≡ version → ys ≡ xs ++ f ∷ [] → Takes mid later (capture_frame_octets version f)
    → FitsFrame f → IsTyped f → ((version ≡ 2 → ⊥) → HasAllCarriers f) → SoFar other count ys left later
so_far_more version other count xs ys f left mid later s same is taken fits typed whole = version_as version other count ys left later (sym same) (record {
  octets = taken_more version (capture_start version count) xs ys f left mid later is s.octets taken;
  known = s.known;
  all = more_frames version xs f ys is s.all fits typed whole;
})

-- the whole file
pub so_far_file : (version count : ℕ) (frames : List CaptureFrame) (left mid after : Device ℕ)
    → SoFar version count frames left mid → length frames ≡ count → count ≤ 65535 → TakesAll mid after [] → ReadsCaptures left after frames
so_far_file version count frames left mid after s size few end = file_read version count frames left mid after s.known size few s.all s.octets end
