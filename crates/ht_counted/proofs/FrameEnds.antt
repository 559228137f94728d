-- Behind the head of a frame good fields lead to the end of a file, if they do from the frames behind it.
use Rattle.std.proofs.Common.{ℕ, ◌+◌, ◌-◌, List, [], ◌∷◌, replicate, refl}
use Rattle.std.proofs.lemmas.List.{length-replicate}
use Rattle.ht_io.specs.declared.faults.Kind.TheVariants.{BadSeed}
use Rattle.ht_fields.specs.Grammar.{Good}
use Rattle.ht_fields.proofs.Choices.{checked_good}
use Rattle.ht_heads.specs.Starts.{StartState}
use Rattle.ht_counted.specs.Counted.{CountedFormat, counted}
use Rattle.ht_counted.specs.Framed.{FrameState, Seed, Octets, Framing, IsFraming, good_octets, good_seed}
use Rattle.ht_counted.specs.Seeds.{is_no_seed}
use Rattle.ht_counted.proofs.Ends.{HasAnEnd, field_first}
use Rattle.ht_counted.proofs.FrameRoutes.{behind, field_behind, frames_due}

module _ {B R V : Type 0} (f : CountedFormat B V) (h : Framing B R V) (is : IsFraming f h) where
  -- good fields lead from the state behind a head to the end of a file
  abbrev pub BehindEnds : FrameState R → Type 0
  BehindEnds s = HasAnEnd (counted f) (behind f h is s)

  -- and from a number of frames on
  abbrev pub FramesEnd : ℕ → Type 0
  FramesEnd left = HasAnEnd (counted f) (frames_due f h is left)

  octets_end : (left : ℕ) (rate : R) (len seed : ℕ) → FramesEnd (left - 1) → BehindEnds (Octets left rate len seed)
  unfolding good_octets
  octets_end left rate len seed rest =
      let x : List ℕ = replicate (len - 1 + 1) 0 in
      let s : FrameState R = Octets left rate len seed in
      let t : StartState B = frames_due f h is (left - 1) in
      let here : List V = h.frame (record { rate = rate; seed = seed; octets = x }) ∷ [] in
      field_first (counted f) (behind f h is s) t x here (field_behind f h is s x (Good t here) (length-replicate (len - 1 + 1) 0, refl)) rest

  pub seed_end : (left : ℕ) (rate : R) (len : ℕ) → FramesEnd (left - 1) → BehindEnds (Seed left rate len)
  unfolding good_seed
  seed_end left rate len rest =
      let s : FrameState R = Seed left rate len in
      let t : StartState B = behind f h is (Octets left rate len 1) in
      field_first (counted f) (behind f h is s) t (1 ∷ []) []
      (field_behind f h is s (1 ∷ []) (Good t []) (refl, checked_good BadSeed is_no_seed (good_seed h left rate len) (1 ∷ []) _ refl refl))
      (octets_end left rate len 1 rest)

  pub behind_ends : ((left : ℕ) → FramesEnd left) → (s : FrameState R) → BehindEnds s
  behind_ends next (Seed left rate len) = seed_end left rate len (next (left - 1))
  behind_ends next (Octets left rate len seed) = octets_end left rate len seed (next (left - 1))
