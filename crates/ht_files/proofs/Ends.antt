-- From every state of a file with heads good fields lead to its end.
use Rattle.std.proofs.Common.{ℕ, ◌-◌, ◌≤◌, List, [], ◌∷◌, refl, subst, arith}
use Rattle.byteorder.specs.Endian.{big_number}
use Rattle.ht_io.specs.declared.faults.Kind.TheVariants.{BadBandwidth, BadMcs, BadLength}
use Rattle.ht_fields.specs.Grammar.{Good}
use Rattle.ht_fields.specs.Cases.{CanEnd, IsField}
use Rattle.ht_fields.specs.Tests.{is_above, is_zero, octet_of}
use Rattle.ht_fields.proofs.Choices.{checked_good}
use Rattle.ht_rate.specs.declared.rates.Rate.{Rate}
use Rattle.ht_rate.specs.Rates.{rate_at}
use Rattle.ht_heads.specs.Starts.{Body}
use Rattle.ht_counted.specs.Counted.{counted_format}
use Rattle.ht_counted.proofs.Counting.{is_count}
use Rattle.ht_counted.proofs.Ends.{HasAnEnd, Sound, field_first, sound_can_end}
use Rattle.ht_counted.proofs.Lasting.{due_end, due_sound}
use Rattle.ht_counted.proofs.Passing.{passed, same_good}
use Rattle.ht_files.specs.HeadedFormats.{HeadBody, HeadState, Bandwidth, Mcs, Length, Behind, HeadedFormat, behind_head, frame_due}
use Rattle.ht_files.specs.HeadedFormats.{good_bandwidth, good_length, good_mcs, grammar_of, head_due, headed}

-- which states of a frame good fields lead to, by those behind a head
abbrev pub SoundHead : {B : Type 0} → (B → Type 0) → HeadBody B → Type 0
SoundHead Sound_body (Bandwidth left) = Unit {0}
SoundHead Sound_body (Mcs left code) = Unit {0}
SoundHead Sound_body (Length left r) = Unit {0}
SoundHead Sound_body (Behind b) = Sound_body b

module _ {B V : Type 0} (h : HeadedFormat B V) where
  -- good fields lead from the state to the end of a file
  abbrev pub HasEnd : HeadState B → Type 0
  HasEnd = HasAnEnd (grammar_of h)

  -- behind a head good fields lead to an end, if they do from the frames behind
  abbrev pub FirstEnds : Type 0
  FirstEnds = (left : ℕ) (r : Rate) (len : ℕ) → 1 ≤ len → HasEnd (frame_due (left - 1)) → HasEnd (behind_head (h.first left r len))

  length_ends : FirstEnds → (left : ℕ) (r : Rate) → HasEnd (frame_due (left - 1)) → HasEnd (Body (Length left r))
  unfolding good_length
  length_ends first left r rest =
      field_first (grammar_of h) (Body (Length left r)) (behind_head (h.first left r 1)) (0 ∷ 1 ∷ []) []
      (refl, checked_good BadLength is_zero (good_length h left r) (0 ∷ 1 ∷ []) _ refl refl) (first left r 1 (omega arith) rest)

  mcs_ends : FirstEnds → (left code : ℕ) → HasEnd (frame_due (left - 1)) → HasEnd (Body (Mcs left code))
  unfolding good_mcs
  mcs_ends first left code rest =
      field_first (grammar_of h) (Body (Mcs left code)) (Body (Length left (rate_at code 0))) (0 ∷ []) []
      (refl, checked_good BadMcs (is_above 31) (good_mcs left code) (0 ∷ []) _ refl refl) (length_ends first left (rate_at code 0) rest)

  bandwidth_ends : FirstEnds → (left : ℕ) → HasEnd (frame_due (left - 1)) → HasEnd (Body (Bandwidth left))
  unfolding good_bandwidth
  bandwidth_ends first left rest =
      field_first (grammar_of h) (Body (Bandwidth left)) (Body (Mcs left 0)) (0 ∷ []) []
      (refl, checked_good BadBandwidth (is_above 1) (good_bandwidth left) (0 ∷ []) _ refl refl) (mcs_ends first left 0 rest)

  -- the frames that are due
  pub frames_end : FirstEnds → (left : ℕ) → HasEnd (frame_due left)
  frames_end first = due_end (headed h) (bandwidth_ends first)

  module _ (Sound_body : B → Type 0) where
    -- a state that good fields lead to
    abbrev pub IsSound : HeadState B → Type 0
    IsSound = Sound (counted_format (headed h)) (SoundHead Sound_body)

    pub frames_sound : (left : ℕ) → IsSound (frame_due left)
    frames_sound = due_sound (headed h) (SoundHead Sound_body) (λ left. tt)

    head_sound : ((left : ℕ) (r : Rate) (len : ℕ) → Sound_body (h.first left r len))
        → ((b : B) (next : HeadState B) (x : List ℕ) (here : List V) → IsField (h.due b) x (Good next here) → Sound_body b → IsSound next)
        → (b : HeadBody B) (next : HeadState B) (x : List ℕ) (here : List V) → IsField (head_due h b) x (Good next here) → SoundHead Sound_body b
        → IsSound next
    unfolding good_bandwidth good_mcs good_length
    head_sound first body (Bandwidth left) next x here good sound =
        let p = passed BadBandwidth (is_above 1) (good_bandwidth left) x next here good.1 in
        subst IsSound (same_good (Body (Mcs left (octet_of x))) next [] here p.1).0 tt
    head_sound first body (Mcs left code) next x here good sound =
        let p = passed BadMcs (is_above 31) (good_mcs left code) x next here good.1 in
        subst IsSound (same_good (Body (Length left (rate_at code (octet_of x)))) next [] here p.1).0 tt
    head_sound first body (Length left r) next x here good sound =
        let p = passed BadLength is_zero (good_length h left r) x next here good.1 in
        subst IsSound (same_good (behind_head (h.first left r (big_number 2 x))) next [] here p.1).0 (first left r (big_number 2 x))
    head_sound first body (Behind b) next x here good sound = body b next x here good sound

    pub head_ends : FirstEnds → ((b : B) → Sound_body b → HasEnd (behind_head b)) → (b : HeadBody B) → SoundHead Sound_body b → HasEnd (Body b)
    head_ends first body (Bandwidth left) sound = bandwidth_ends first left (frames_end first (left - 1))
    head_ends first body (Mcs left code) sound = mcs_ends first left code (frames_end first (left - 1))
    head_ends first body (Length left r) sound = length_ends first left r (frames_end first (left - 1))
    head_ends first body (Behind b) sound = body b sound

    pub heads_can_end : FirstEnds → ((b : B) → Sound_body b → HasEnd (behind_head b)) → ((left : ℕ) (r : Rate) (len : ℕ) → Sound_body (h.first left r len))
        → ((b : B) (next : HeadState B) (x : List ℕ) (here : List V) → IsField (h.due b) x (Good next here) → Sound_body b → IsSound next)
        → CanEnd (grammar_of h)
    heads_can_end first body first_sound body_sound =
        sound_can_end (counted_format (headed h)) (SoundHead Sound_body) is_count (frames_end first 0) frames_sound
        (head_sound first_sound body_sound) (head_ends first body)

  each_head : (b : HeadBody B) → SoundHead (λ b. Unit {0}) b
  each_head (Bandwidth left) = tt
  each_head (Mcs left code) = tt
  each_head (Length left r) = tt
  each_head (Behind b) = tt

  -- where each state behind a head can end, each of its head can
  pub each_head_ends : FirstEnds → ((b : B) → HasEnd (behind_head b)) → (b : HeadBody B) → HasEnd (Body b)
  each_head_ends first body b = head_ends (λ b. Unit {0}) first (λ b sound. body b) b (each_head b)
