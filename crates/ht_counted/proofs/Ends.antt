-- From every state of a file that begins with a count good fields lead to its end, if they do behind the count.
use Rattle.std.proofs.Common.{◌≡◌, ℕ, ◌^◌, ◌<◌, List, [], ◌∷◌, ◌++◌, refl, sym, ap, subst, ◌∙◌, arith}
use Rattle.std.proofs.lemmas.List.{append-nil}
use Rattle.byteorder.specs.Endian.{big_bytes, big_number}
use Rattle.byteorder.specs.Numbers.{big_number-reads_back, length-bytes_high_first}
use Rattle.ht_io.specs.declared.faults.Kind.TheVariants.{BadMagic, BadVersion}
use Rattle.ht_fields.specs.Cases.{CanEnd, IsEnd, IsField, Leads}
use Rattle.ht_fields.specs.Grammar.{Grammar, Verdict, Good}
use Rattle.ht_fields.specs.Tests.{checked, differs}
use Rattle.ht_fields.proofs.Choices.{checked_good}
use Rattle.ht_fields.proofs.Readers.{field_is}
use Rattle.ht_heads.specs.Starts.{StartState, StartedFormat, Magic, Version, Count, Body, Over, good_count, good_magic, good_version, is_outside, magic_due}
use Rattle.ht_heads.specs.Starts.{started}
use Rattle.ht_heads.proofs.Leading.{same_octet}
use Rattle.ht_heads.proofs.Started.{inside}
use Rattle.ht_counted.specs.Counted.{IsCount}
use Rattle.ht_counted.proofs.Passing.{passed, same_good}

-- good fields lead from the state to the end of a file
abbrev pub HasAnEnd : {S I : Type 0} → Grammar S I → S → Type 0
HasAnEnd f s = (more : List (List ℕ)) × (later : List _) × (last : _) × Leads f s more later last × IsEnd (f.due last)

-- a good field in front of such an end
pub field_first : {S I : Type 0} (f : Grammar S I) (s t : S) (x : List ℕ) (here : List I) → IsField (f.due s) x (Good t here) → HasAnEnd f t → HasAnEnd f s
field_first f s t x here good e = (x ∷ e.0, here ++ e.1, e.2, (t, here, e.1, good, e.3, refl), e.4)

pub same_as : {S I : Type 0} (f : Grammar S I) (s t : S) → s ≡ t → HasAnEnd f t → HasAnEnd f s
same_as {S = S} f s t is e = subst (λ (z : S). HasAnEnd f z) (sym is) e

module _ {B I : Type 0} (h : StartedFormat B I) where
  pub over_end : HasAnEnd (started h) Over
  over_end = ([], [], Over, (refl, refl), tt)

  count_is : (octets : List ℕ) (count : ℕ) → big_number h.limits.width octets ≡ count → good_count h octets ≡ Good (h.first count) []
  unfolding good_count
  count_is octets count is = ap (λ (n : ℕ). let v : Verdict (StartState B) I = Good (h.first n) [] in v) is

  -- the least count
  count_end : IsCount h.limits → HasAnEnd (started h) (h.first h.limits.least) → HasAnEnd (started h) Count
  count_end is end =
      let limits = h.limits in
      let count = limits.least in
      let octets = big_bytes limits.width count in
      let small : count < 256 ^ limits.width = omega (arith, is.range, is.small) in
      let back : big_number limits.width octets ≡ count =
      ap (big_number limits.width) (sym (append-nil octets)) ∙ big_number-reads_back limits.width count [] small in
      field_first (started h) Count (h.first count) octets []
      (field_is limits.width (checked limits.kind (is_outside limits) (good_count h)) octets (Good (h.first count) [])
      (omega (arith, is.some)) (length-bytes_high_first limits.width count)
      (checked_good limits.kind (is_outside limits) (good_count h) octets _ (inside limits octets count back (omega arith) is.range)
      (count_is octets count back)))
      end

  version_end : HasAnEnd (started h) Count → HasAnEnd (started h) Version
  unfolding good_version
  version_end end = field_first (started h) Version Count (1 ∷ []) [] (refl, checked_good BadVersion (differs 1) good_version (1 ∷ []) _ refl refl) end

  magic_end : HasAnEnd (started h) Version → (xs : List ℕ) → HasAnEnd (started h) (magic_due xs)
  unfolding good_magic
  magic_end end [] = end
  magic_end end (x ∷ xs) =
      field_first (started h) (Magic x xs) (magic_due xs) (x ∷ []) []
      (refl, checked_good BadMagic (differs x) (good_magic xs) (x ∷ []) _ (same_octet x x refl) refl) (magic_end end xs)

  -- Which states behind the count good fields lead to.
  module _ (Sound_body : B → Type 0) where
    abbrev pub Sound : StartState B → Type 0
    Sound (Magic x xs) = Unit {0}
    Sound Version = Unit {0}
    Sound Count = Unit {0}
    Sound (Body b) = Sound_body b
    Sound Over = Unit {0}

    magic_sound : (xs : List ℕ) → Sound (magic_due xs)
    magic_sound [] = tt
    magic_sound (x ∷ xs) = tt

    -- behind a count comes such a state, and so does it behind a good field of such a state
    abbrev pub FirstSound : Type 0
    FirstSound = (count : ℕ) → Sound (h.first count)

    abbrev pub BodySound : Type 0
    BodySound = (b : B) (next : StartState B) (x : List ℕ) (here : List I) → IsField (h.due b) x (Good next here) → Sound_body b → Sound next

    sound_more : FirstSound → BodySound → (s next : StartState B) (x : List ℕ) (here : List I) → IsField ((started h).due s) x (Good next here)
        → Sound s → Sound next
    unfolding good_magic good_version good_count
    sound_more first body (Magic y ys) next x here good sound =
        let p = passed BadMagic (differs y) (good_magic ys) x next here good.1 in
        subst Sound (same_good (magic_due ys) next [] here p.1).0 (magic_sound ys)
    sound_more first body Version next x here good sound =
        let p = passed BadVersion (differs 1) good_version x next here good.1 in subst Sound (same_good Count next [] here p.1).0 tt
    sound_more first body Count next x here good sound =
        let p = passed h.limits.kind (is_outside h.limits) (good_count h) x next here good.1 in
        subst Sound (same_good (h.first (big_number h.limits.width x)) next [] here p.1).0 (first (big_number h.limits.width x))
    sound_more first body (Body b) next x here good sound = body b next x here good sound
    sound_more first body Over next x here good sound = absurd good

    all_sound : FirstSound → BodySound → (fields : List (List ℕ)) (s t : StartState B) (items : List I) → Leads (started h) s fields items t → Sound s → Sound t
    all_sound first body [] s t items leads sound = subst Sound leads.1 sound
    all_sound first body (x ∷ xs) s t items leads sound =
        all_sound first body xs leads.0 t leads.2 leads.4 (sound_more first body s leads.0 x leads.1 leads.3 sound)

    -- from all of them good fields lead to an end
    abbrev pub BodyEnds : Type 0
    BodyEnds = (b : B) → Sound_body b → HasAnEnd (started h) (Body b)

    state_ends : IsCount h.limits → HasAnEnd (started h) (h.first h.limits.least) → BodyEnds → (s : StartState B) → Sound s → HasAnEnd (started h) s
    state_ends is end body (Magic x xs) sound = magic_end (version_end (count_end is end)) (x ∷ xs)
    state_ends is end body Version sound = version_end (count_end is end)
    state_ends is end body Count sound = count_end is end
    state_ends is end body (Body b) sound = body b sound
    state_ends is end body Over sound = over_end

    pub sound_can_end : IsCount h.limits → HasAnEnd (started h) (h.first h.limits.least) → FirstSound → BodySound → BodyEnds → CanEnd (started h)
    sound_can_end is end first sound body fields items state leads =
        state_ends is end body state (all_sound first sound fields (magic_due h.magic) state items leads (magic_sound h.magic))

  always : B → Type 0
  always b = Unit {0}

  each_sound : (s : StartState B) → Sound always s
  unfolding always
  each_sound (Magic x xs) = tt
  each_sound Version = tt
  each_sound Count = tt
  each_sound (Body b) = tt
  each_sound Over = tt

  -- where all states can end
  pub can_end : IsCount h.limits → HasAnEnd (started h) (h.first h.limits.least) → ((b : B) → HasAnEnd (started h) (Body b)) → CanEnd (started h)
  can_end is end body fields items state leads = state_ends always is end (λ b sound. body b) state (each_sound state)
