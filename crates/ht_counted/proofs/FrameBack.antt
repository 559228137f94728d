-- Field by field back from the frames behind to the head of a frame: the octets are the seed and the octets of a frame.
use Rattle.std.proofs.Common.{◌≡◌, ℕ, ◌+◌, ◌-◌, ◌≤◌, List, [], ◌∷◌, ◌++◌, length, flat_map, refl, sym, ap, subst, ◌∙◌, arith}
use Rattle.std.specs.List.{AllByRecursion}
use Rattle.ht_io.specs.declared.faults.Kind.TheVariants.{BadSeed}
use Rattle.ht_fields.specs.Cases.{IsEnd, IsField}
use Rattle.ht_fields.specs.Grammar.{Due, Good}
use Rattle.ht_fields.specs.Tests.{octet_of}
use Rattle.ht_scramble.specs.Sequence.{IsSeed}
use Rattle.ht_heads.specs.Starts.{StartState}
use Rattle.ht_counted.specs.Counted.{CountedFormat}
use Rattle.ht_counted.specs.Framed.{FrameState, Seed, Octets, FrameParts, Framing, IsFramed, IsFraming, framed_due, framed_octets, good_octets, good_seed}
use Rattle.ht_counted.specs.Seeds.{is_no_seed}
use Rattle.ht_counted.proofs.Back.{FirstBack, Wrote, entries_back, wrote_as}
use Rattle.ht_counted.proofs.FrameRoutes.{behind, frame_fits, frames_due}
use Rattle.ht_counted.proofs.Passing.{passed, same_good, single}
use Rattle.ht_counted.proofs.Seeded.{seed_passed}

module _ {B R V : Type 0} (f : CountedFormat B V) (h : Framing B R V) (is : IsFraming f h) where
  -- what is written from the octets of a frame on
  abbrev OctetsTail : ℕ → ℕ → List ℕ → Type 0
  OctetsTail left len octets =
      (psdu : List ℕ) × (vs : List V) × (octets ≡ psdu ++ flat_map (framed_octets h) vs) × (length psdu ≡ len - 1 + 1)
      × (length vs ≡ left - 1) × AllByRecursion (IsFramed h) vs

  -- and from any state behind its head
  abbrev pub WroteBehind : FrameState R → List ℕ → Type 0
  WroteBehind (Seed left rate len) octets = (seed : ℕ) × (rest : List ℕ) × (octets ≡ seed ∷ rest) × IsSeed seed × OctetsTail left len rest
  WroteBehind (Octets left rate len seed) octets = OctetsTail left len octets

  -- what stands behind the head of a frame, and then the frames behind it
  abbrev pub FrameTail : ℕ → R → ℕ → List ℕ → Type 0
  FrameTail left rate len octets =
      (v : V) × (vs : List V) × (((h.parts v).rate ≡ rate) × (length (h.parts v).octets ≡ len))
      × (octets ≡ ((h.parts v).seed ∷ (h.parts v).octets) ++ flat_map (framed_octets h) vs) × (length vs ≡ left - 1)
      × IsFramed h v × AllByRecursion (IsFramed h) vs

  -- from the seed on a frame is written
  pub frame_back : (left : ℕ) (rate : R) (len : ℕ) (octets : List ℕ) → 1 ≤ len → len ≤ h.most → WroteBehind (Seed left rate len) octets
      → FrameTail left rate len octets
  frame_back left rate len octets some few (seed, rest, begins, good, (psdu, vs, split, size, count, fit)) =
      let p : FrameParts R = record { rate = rate; seed = seed; octets = psdu } in
      let v : V = h.frame p in
      let seen : h.parts v ≡ p = is.parts p in
      let long : length psdu ≡ len = omega (arith, size, some) in (
        v,
        vs,
        (ap (λ (q : FrameParts R). q.rate) seen, ap (λ (q : FrameParts R). length q.octets) seen ∙ long),
        begins ∙ (ap (λ (z : List ℕ). seed ∷ z) split
            ∙ ap (λ (q : FrameParts R). (q.seed ∷ q.octets) ++ flat_map (framed_octets h) vs) (sym seen)),
        count,
        frame_fits f h is v rate len seed psdu refl long some few good,
        fit,
      )

  -- no file ends behind a head
  pub no_end : (s : FrameState R) → IsEnd (f.due (h.behind s)) → ⊥
  no_end (Seed left rate len) e = subst (λ (d : Due (StartState B) V). IsEnd d) (is.due (Seed left rate len)) e
  no_end (Octets left rate len seed) e = subst (λ (d : Due (StartState B) V). IsEnd d) (is.due (Octets left rate len seed)) e

  -- What is written from a state within a frame on, which behind a head is that.
  module _ (Wrote_body : B → List ℕ → Type 0) (first : FirstBack f (framed_octets h) (IsFramed h) Wrote_body)
      (wrote : (s : FrameState R) (x : List ℕ) → Wrote_body (h.behind s) x → WroteBehind s x) where
    abbrev From : StartState B → List ℕ → Type 0
    From = Wrote f (framed_octets h) (IsFramed h) Wrote_body

    as_state : (s t : StartState B) (x : List ℕ) → s ≡ t → From t x → From s x
    as_state = wrote_as f (framed_octets h) (IsFramed h) Wrote_body

    judged_back : (s : FrameState R) (next : StartState B) (x : List ℕ) (here : List V) (rest : List ℕ)
        → IsField (framed_due f.first h s) x (Good next here) → From next rest → WroteBehind s (x ++ rest)
    unfolding good_seed good_octets
    judged_back (Seed left rate len) next x here rest good w =
        let p = passed BadSeed is_no_seed (good_seed h left rate len) x next here good.1 in
        let s : FrameState R = Octets left rate len (octet_of x) in (
          octet_of x,
          rest,
          ap (λ (z : List ℕ). z ++ rest) (single x good.0),
          seed_passed x p.0,
          wrote s rest (as_state (behind f h is s) next rest (same_good (behind f h is s) next [] here p.1).0 w),
        )
    judged_back (Octets left rate len seed) next x here rest good w =
        let v : V = h.frame (record { rate = rate; seed = seed; octets = x }) in
        let state : StartState B = frames_due f h is (left - 1) in
        let t = entries_back f (framed_octets h) (IsFramed h) Wrote_body first (left - 1) rest
        (as_state state next rest (same_good state next (v ∷ []) here good.1).0 w) in
        (x, t.0, ap (λ (z : List ℕ). x ++ z) t.1, good.0, t.2, t.3)

    -- each good field
    pub behind_back : (s : FrameState R) (next : StartState B) (x : List ℕ) (here : List V) (rest : List ℕ)
        → IsField (f.due (h.behind s)) x (Good next here) → From next rest → WroteBehind s (x ++ rest)
    behind_back s next x here rest good w =
        judged_back s next x here rest (subst (λ (d : Due (StartState B) V). IsField d x (Good next here)) (is.due s) good) w
