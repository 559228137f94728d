-- How the octets of frames lead through the fields of a file, in any format of frames with a seed and octets behind their heads.
use Rattle.std.proofs.Common.{◌≡◌, ℕ, ◌+◌, ◌-◌, ◌*◌, ◌^◌, ◌<◌, ◌≤◌, List, [], ◌∷◌, ◌++◌, length}
use Rattle.std.proofs.Common.{refl, sym, ap, subst, ◌∙◌, append_assoc, length-append, arith}
use Rattle.ht_io.specs.Devices.{Device, Takes, IsLater}
use Rattle.ht_io.specs.declared.faults.InFault.{InFault}
use Rattle.ht_io.specs.declared.faults.Kind.TheVariants.{BadSeed}
use Rattle.ht_io.proofs.Calls.{later-later, takes-append}
use Rattle.ht_fields.specs.Cases.{IsField}
use Rattle.ht_fields.specs.FormatLaws.{AreFiles}
use Rattle.ht_fields.specs.Grammar.{Due, Verdict, Good}
use Rattle.ht_fields.specs.Lacking.{FailsField}
use Rattle.ht_fields.specs.Readers.{reader_in}
use Rattle.ht_fields.specs.WholeFiles.{EndsEarly}
use Rattle.ht_fields.proofs.Choices.{checked_good}
use Rattle.ht_fields.proofs.Endings.{halts_ends}
use Rattle.ht_fields.proofs.Halting.{behind_halts, judges_checked}
use Rattle.ht_fields.proofs.Putting.{takes_as}
use Rattle.ht_fields.proofs.Readers.{HasWidth, field_is, width_is}
use Rattle.ht_fields.proofs.Routes.{Route, route_as, route_field, route_then}
use Rattle.ht_scramble.specs.Sequence.{IsSeed}
use Rattle.ht_heads.specs.declared.starting.Limits.{Limits}
use Rattle.ht_heads.specs.Starts.{StartState, Body}
use Rattle.ht_counted.specs.Counted.{AreCounted, CountedFormat, IsCount, IsCounted, counted, counted_octets, entries_due}
use Rattle.ht_counted.specs.Framed.{AreFramed, FrameState, Seed, Octets, FrameParts, Framing, HasOctets, IsFramed, IsFraming}
use Rattle.ht_counted.specs.Framed.{framed_due, framed_file, framed_most, framed_octets, front_octets, good_octets, good_seed}
use Rattle.ht_counted.specs.Seeds.{LacksOctets, is_no_seed}
use Rattle.ht_counted.proofs.Counting.{are_files, is_count, leads_by, route_of}
use Rattle.ht_counted.proofs.Seeded.{octets_end, seed_passes}

-- what is put of a frame
pub frame_put : {B R V : Type 0} (h : Framing B R V) (v : V) (octets : List ℕ) → octets ≡ (h.parts v).octets
    → front_octets h v ++ octets ≡ framed_octets h v
frame_put h v octets is =
    let p = h.parts v in
    ap (λ (z : List ℕ). front_octets h v ++ z) is ∙ append_assoc (h.head p.rate (length p.octets)) (p.seed ∷ []) p.octets

module _ {B R V : Type 0} (f : CountedFormat B V) (h : Framing B R V) (is : IsFraming f h) where
  -- the state behind the head of a frame, and that in front of a number of frames
  abbrev pub behind : FrameState R → StartState B
  behind s = Body (h.behind s)

  abbrev pub frames_due : ℕ → StartState B
  frames_due left = entries_due f.first left

  route_head : (left : ℕ) (rate : R) (len : ℕ) → 0 < left → 1 ≤ len → len ≤ h.most
      → Route (counted f) (frames_due left) (behind (Seed left rate len)) (h.head rate len) []
  route_head left rate len left_some some few = route_of (counted f) _ _ _ _ (is.head left rate len left_some some few)

  -- a field behind a head
  pub field_behind : (s : FrameState R) (x : List ℕ) (verdict : Verdict (StartState B) V) → IsField (framed_due f.first h s) x verdict
      → IsField ((counted f).due (behind s)) x verdict
  field_behind s x verdict good = subst (λ (d : Due (StartState B) V). IsField d x verdict) (sym (is.due s)) good

  -- the head of a frame and the seed
  route_seed : (left : ℕ) (rate : R) (len seed : ℕ) → 0 < left → 1 ≤ len → len ≤ h.most → IsSeed seed
      → Route (counted f) (frames_due left) (behind (Octets left rate len seed)) (h.head rate len ++ (seed ∷ [])) []
  unfolding good_seed
  route_seed left rate len seed left_some some few good =
      let s : StartState B = behind (Seed left rate len) in
      let t : StartState B = behind (Octets left rate len seed) in
      route_then (counted f) (frames_due left) s t (h.head rate len) (seed ∷ []) [] [] (route_head left rate len left_some some few)
      (route_field (counted f) s t (seed ∷ []) [] (field_behind (Seed left rate len) (seed ∷ []) (Good t [])
      (refl, checked_good BadSeed is_no_seed (good_seed h left rate len) (seed ∷ []) _ (seed_passes seed good) refl)))

  -- a frame
  pub route_frame : (left : ℕ) (v : V) → 0 < left → IsFramed h v → Route (counted f) (frames_due left) (frames_due (left - 1)) (framed_octets h v) (v ∷ [])
  unfolding good_octets
  route_frame left v some good =
      let p = h.parts v in
      let len = length p.octets in
      let s : FrameState R = Octets left p.rate len p.seed in
      let t : StartState B = frames_due (left - 1) in
      let verdict : Verdict (StartState B) V = Good t (v ∷ []) in
      let whole : good_octets f.first h left p.rate p.seed p.octets ≡ verdict =
      ap (λ (w : V). let given : Verdict (StartState B) V = Good t (w ∷ []) in given) (is.whole v) in
      route_as (counted f) (frames_due left) t _ _ (v ∷ []) (append_assoc (h.head p.rate len) (p.seed ∷ []) p.octets)
      (route_then (counted f) (frames_due left) (behind s) t (h.head p.rate len ++ (p.seed ∷ [])) p.octets [] (v ∷ [])
      (route_seed left p.rate len p.seed some good.octets.0 good.octets.1 good.seed)
      (route_field (counted f) (behind s) t p.octets (v ∷ []) (field_behind s p.octets verdict
      (field_is len (good_octets f.first h left p.rate p.seed) p.octets verdict good.octets.0 refl whole))))

  pub length_frame : (v : V) → h.width + 1 + length (h.parts v).octets ≡ length (framed_octets h v)
  length_frame v =
      let p = h.parts v in
      let head = h.head p.rate (length p.octets) in
      omega (arith, length-append head (p.seed ∷ p.octets), is.width p.rate (length p.octets))

  -- what the format owes to the reading of its files
  pub is_counted : IsCounted f (framed_octets h) (IsFramed h) (framed_most h)
  is_counted = record {
    count = subst IsCount (sym is.limits) is_count;
    leads = λ left v some good. leads_by (counted f) (frames_due left) (frames_due (left - 1)) (framed_octets h v) (v ∷ []) (route_frame left v some good);
    short = λ v good. omega (arith, length_frame v, good.octets.1);
    bound = subst (λ (l : Limits). 13 + l.most * framed_most h < 2 ^ 64) (sym is.limits) is.bound;
  }

  -- what holds of its files
  pub framed_files : AreFiles (counted f) (AreFramed h) (framed_file f.magic h)
  framed_files =
      subst (λ (l : Limits). AreFiles (counted f) (AreCounted l (IsFramed h)) (counted_octets f.magic l.width (framed_octets h))) is.limits
      (are_files f (framed_octets h) (IsFramed h) (framed_most h) is_counted)

  -- the frame of these parts
  module _ (v : V) (rate : R) (len seed : ℕ) (octets : List ℕ) (made : v ≡ h.frame (record { rate = rate; seed = seed; octets = octets }))
      (size : length octets ≡ len) where
    seen : (let p : FrameParts R = record { rate = rate; seed = seed; octets = octets } in p) ≡ h.parts v
    seen = sym (ap h.parts made ∙ is.parts (record { rate = rate; seed = seed; octets = octets }))

    pub frame_fits : 1 ≤ len → len ≤ h.most → IsSeed seed → IsFramed h v
    frame_fits some few good = record {
      seed = subst (λ (p : FrameParts R). IsSeed p.seed) seen good;
      octets = subst (λ (p : FrameParts R). HasOctets h.most p.octets) seen (omega (arith, size, some), omega (arith, size, few));
    }

    -- as it was read
    pub takes_frame : (a b c d : Device ℕ) → Takes a b (h.head rate len) → Takes b c (seed ∷ []) → Takes c d octets → Takes a d (framed_octets h v)
    takes_frame a b c d x y z =
        let whole : h.head rate len ++ (seed ∷ octets) ≡ framed_octets h v =
        ap (λ n. h.head rate n ++ (seed ∷ octets)) (sym size)
        ∙ ap (λ (p : FrameParts R). h.head p.rate (length p.octets) ++ (p.seed ∷ p.octets)) seen in
        takes_as a d _ _ whole (takes-append a b d (h.head rate len) (seed ∷ octets) x (takes-append b c d (seed ∷ []) octets y z))

  -- Behind the head of a frame something was not read.
  module _ (left at width : ℕ) (rate : R) (len : ℕ) (source mid : Device ℕ) (wide : width ≡ h.width) (left_some : 0 < left) (some : 1 ≤ len)
      (few : len ≤ h.most)
      (taken : Takes source mid (h.head rate len)) (later : IsLater source mid) where
    -- the seed
    pub seed_ends : (after : Device ℕ) (fault : InFault) → FailsField 1 BadSeed is_no_seed (at + width) mid after fault
        → EndsEarly (reader_in (counted f) (frames_due left) at source) after fault
    seed_ends after fault fails =
        let s : FrameState R = Seed left rate len in
        let place : at + width ≡ at + length (h.head rate len) = ap (λ n. at + n) (wide ∙ sym (is.width rate len)) in
        halts_ends (reader_in (counted f) (frames_due left) at source) after fault
        (behind_halts (counted f) (frames_due left) (behind s) (h.head rate len) at 1 BadSeed is_no_seed source after fault
        (route_head left rate len left_some some few)
        (judges_checked (counted f) (behind s) 1 BadSeed is_no_seed (good_seed h left rate len) (is.due s) (omega arith) (λ e. cc, λ e. cc))
        (mid, taken, later, subst (λ (n : ℕ). FailsField 1 BadSeed is_no_seed n mid after fault) place fails))

    -- or the octets
    pub octets_ends : (seed : ℕ) (between after : Device ℕ) (fault : InFault) → IsSeed seed → Takes mid between (seed ∷ []) → IsLater mid between
        → LacksOctets len (at + width + 1) between after fault → EndsEarly (reader_in (counted f) (frames_due left) at source) after fault
    octets_ends seed between after fault good also on lacks =
        let s : FrameState R = Octets left rate len seed in
        let size : HasWidth ((counted f).due (behind s)) len =
        subst (λ (d : Due (StartState B) V). HasWidth d len) (sym (is.due s)) (width_is len (good_octets f.first h left rate seed) some) in
        let place : at + width + 1 ≡ at + length (h.head rate len ++ (seed ∷ [])) =
        omega (arith, length-append (h.head rate len) (seed ∷ []), is.width rate len, wide) in
        octets_end (counted f) (frames_due left) (behind s) (h.head rate len ++ (seed ∷ [])) at (at + width + 1) len source between after fault
        (route_seed left rate len seed left_some some few good) size place
        (takes-append source mid between (h.head rate len) (seed ∷ []) taken also) (later-later source mid between later on) lacks
