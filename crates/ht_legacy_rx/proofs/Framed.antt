-- The items of a capture frame by frame: behind a head come as many symbols as its frame has, unless the items end before.
use Rattle.std.proofs.Common.{◌≡◌, ℕ, zero, suc, ◌-◌, ◌≤◌, List, [], ◌∷◌, ◌++◌, nat_eq, nat_lt, Bool, true, false, ◌||◌, refl, sym, subst, ◌∙◌, arith}
use Rattle.std.specs.Prelude.{if◌then◌else◌}
use Rattle.std.proofs.lemmas.Bool.{eqb-true}
use Rattle.std.proofs.lemmas.Bool.Decides.{nat_tests}
use Rattle.byteorder.specs.Endian.{big_number}
use Rattle.ht_io.specs.declared.faults.Kind.{Kind}
use Rattle.ht_fields.specs.Cases.{Case, File, Clean, Longer, Faulty, IsField, Leads, Meets}
use Rattle.ht_fields.specs.Grammar.{Verdict, Good, Bad}
use Rattle.ht_fields.specs.Tests.{checked}
use Rattle.ht_fields.proofs.Answered.{found}
use Rattle.ht_heads.specs.Starts.{StartState, Magic, Version, Count, Body, Over, good_count, good_magic, good_version, is_outside, magic_due}
use Rattle.ht_clause18.specs.Rates.{symbols_of}
use Rattle.ht_legacy_files.specs.HeadedFormats.{Index, Length, Behind, behind_head, good_index, good_length, headed, length_limits}
use Rattle.ht_counted.specs.Counted.{counted_format, entries_due}
use Rattle.ht_legacy_files.specs.CaptureFormats.{CaptureState, Diagonals, Samples, captures, captured, captures_due, symbols_due}
use Rattle.ht_legacy_files.specs.CaptureFormats.{good_diagonals, good_samples}
use Rattle.ht_legacy_files.specs.CaptureItems.{LegacyItem, Begins, Symbol}
use Rattle.ht_legacy_rx.specs.Texts.{legacy_meaning}

-- a frame has 1 to 4095 octets
abbrev pub HasOctets : ℕ → Type 0
HasOctets octets = (1 ≤ octets) × (octets ≤ 4095)

-- items behind a head of whose frame this number of symbols is due
abbrev pub AreFramed : List LegacyItem → ℕ → Type 0
AreFramed [] symbols = Unit {0}
AreFramed (Begins h ∷ items) zero = HasOctets h.length × AreFramed items (symbols_of h.rate h.length)
AreFramed (Begins h ∷ items) (suc symbols) = ⊥
AreFramed (Symbol samples ∷ items) zero = ⊥
AreFramed (Symbol samples ∷ items) (suc symbols) = AreFramed items symbols

-- the symbols that are due in a state
abbrev due_in : StartState CaptureState → ℕ
due_in (Magic x xs) = 0
due_in Version = 0
due_in Count = 0
due_in (Body (Index left)) = 0
due_in (Body (Length left rate)) = 0
due_in (Body (Behind (Diagonals left rate len))) = 0
due_in (Body (Behind (Samples left symbols))) = symbols
due_in Over = 0

-- a state that can be reached
abbrev IsSound : StartState CaptureState → Type 0
IsSound (Magic x xs) = Unit {0}
IsSound Version = Unit {0}
IsSound Count = Unit {0}
IsSound (Body (Index left)) = Unit {0}
IsSound (Body (Length left rate)) = Unit {0}
IsSound (Body (Behind (Diagonals left rate len))) = HasOctets len
IsSound (Body (Behind (Samples left symbols))) = 1 ≤ symbols
IsSound Over = Unit {0}

-- a field leads from one state to another, and gives items that go with both
record Steps (s next : StartState CaptureState) (here : List LegacyItem) : Type 0 where
  pub sound : IsSound next
  pub framed : (later : List LegacyItem) → AreFramed later (due_in next) → AreFramed (here ++ later) (due_in s)

abbrev StepsBy : StartState CaptureState → Verdict (StartState CaptureState) LegacyItem → Type 0
StepsBy s (Good next here) = Steps s next here
StepsBy s (Bad kind) = Unit {0}

-- the states behind the magic and the count, and behind a symbol
magic_sound : (xs : List ℕ) → IsSound (magic_due xs) × (due_in (magic_due xs) ≡ 0)
magic_sound [] = (tt, refl)
magic_sound (x ∷ xs) = (tt, refl)

frames_sound : (b : Bool) (left : ℕ) → (let s : StartState CaptureState = if b then Over else Body (Index left) in IsSound s × (due_in s ≡ 0))
frames_sound true left = (tt, refl)
frames_sound false left = (tt, refl)

captures_sound : (left : ℕ) → IsSound (captures_due left) × (due_in (captures_due left) ≡ 0)
unfolding entries_due
captures_sound left = frames_sound (nat_eq left 0) left

symbols_by : (b : Bool) (left symbols : ℕ) → nat_eq symbols 0 ≡ b
    → (let s : StartState CaptureState = if b then captures_due (left - 1) else behind_head (Samples left symbols) in IsSound s × (due_in s ≡ symbols))
symbols_by true left symbols is = ((captures_sound (left - 1)).0, (captures_sound (left - 1)).1 ∙ sym (eqb-true symbols 0 is))
symbols_by false left symbols is = (grind (arith, nat_tests), refl)

symbols_sound : (left symbols : ℕ) → IsSound (symbols_due left symbols) × (due_in (symbols_due left symbols) ≡ symbols)
unfolding symbols_due
symbols_sound left symbols = symbols_by (nat_eq symbols 0) left symbols refl

-- a step that gives no item
silent : (s next : StartState CaptureState) → due_in s ≡ 0 → IsSound next × (due_in next ≡ 0) → Steps s next []
silent s next here there = record {
  sound = there.0;
  framed = λ later are. subst (AreFramed later) (there.1 ∙ sym here) are;
}

by_test : (s : StartState CaptureState) (b : Bool) (kind : Kind) (v : Verdict (StartState CaptureState) LegacyItem) → (b ≡ false → StepsBy s v)
    → StepsBy s (if b then Bad kind else v)
by_test s true kind v good = tt
by_test s false kind v good = good refl

-- a length that is not outside its limits
unfolds_outside : (octets : List ℕ) → is_outside length_limits octets ≡ false → HasOctets (big_number 2 octets)
unfolding is_outside
unfolds_outside octets e = within (big_number 2 octets) e
  where
    within : (n : ℕ) → nat_lt n 1 || nat_lt 4095 n ≡ false → HasOctets n
    within n e = (grind (arith, nat_tests), grind (arith, nat_tests))

-- each field does
steps : (s next : StartState CaptureState) (x : List ℕ) (here : List LegacyItem) → IsSound s → IsField (captures.due s) x (Good next here) → Steps s next here
unfolding checked good_magic good_version good_count good_index good_length good_diagonals good_samples
steps (Magic y ys) next x here sound field =
    subst (StepsBy (Magic y ys)) field.1 (by_test (Magic y ys) _ _ (good_magic ys x) (λ _. silent (Magic y ys) (magic_due ys) refl (magic_sound ys)))
steps Version next x here sound field =
    subst (StepsBy Version) field.1 (by_test Version _ _ (good_version x) (λ _. silent Version Count refl (tt, refl)))
steps Count next x here sound field =
    subst (StepsBy Count) field.1 (by_test Count _ _ (good_count (counted_format (headed captured)) x) (λ _. silent Count (captures_due (big_number 2 x)) refl
    (captures_sound (big_number 2 x))))
steps (Body (Index left)) next x here sound field =
    subst (StepsBy (Body (Index left))) field.1 (by_test (Body (Index left)) _ _ (good_index left x) (λ _. record { sound = tt; framed = λ later are. are }))
steps (Body (Length left rate)) next x here sound field =
    subst (StepsBy (Body (Length left rate))) field.1
    (by_test (Body (Length left rate)) _ _ (good_length captured left rate x) (λ is. record { sound = unfolds_outside x is; framed = λ later are. are }))
steps (Body (Behind (Diagonals left rate len))) next x here sound field =
    let due = symbols_sound left (symbols_of rate len) in
    subst (StepsBy (Body (Behind (Diagonals left rate len)))) field.1
    (let h : Steps (Body (Behind (Diagonals left rate len))) (symbols_due left (symbols_of rate len)) _ =
    record { sound = due.0; framed = λ later are. (sound, subst (AreFramed later) due.1 are) } in h)
steps (Body (Behind (Samples left zero))) next x here sound field = absurd (omega (arith, sound))
steps (Body (Behind (Samples left (suc symbols)))) next x here sound field =
    let due = symbols_sound left (suc symbols - 1) in
    let one : suc symbols - 1 ≡ symbols = omega arith in
    subst (StepsBy (Body (Behind (Samples left (suc symbols))))) field.1
    (let h : Steps (Body (Behind (Samples left (suc symbols)))) (symbols_due left (suc symbols - 1)) _ =
    record { sound = due.0; framed = λ later are. subst (AreFramed later) (due.1 ∙ one) are } in h)
steps Over next x here sound field = absurd field

leads_framed : (fields : List (List ℕ)) (s t : StartState CaptureState) (items : List LegacyItem) → IsSound s → Leads captures s fields items t
    → AreFramed items (due_in s)
leads_framed [] s t items sound leads = subst (λ (is : List LegacyItem). AreFramed is (due_in s)) (sym leads.0) tt
leads_framed (x ∷ xs) s t items sound leads =
    let step = steps s leads.0 x leads.1 sound leads.3 in
    subst (λ (is : List LegacyItem). AreFramed is (due_in s)) (sym leads.5)
    (step.framed leads.2 (leads_framed xs leads.0 t leads.2 step.sound leads.4))

met_framed : (octets : List ℕ) (items : List LegacyItem) (case : Case) → Meets captures octets items case → AreFramed items 0
met_framed octets items File m = leads_framed m.2.fields captures.start m.1 items tt m.2.good
met_framed octets items Clean m = leads_framed m.3.fields captures.start m.1 items tt m.3.good
met_framed octets items (Longer offset) m = leads_framed m.3.fields captures.start m.0 items tt m.3.good
met_framed octets items (Faulty kind offset) m = leads_framed m.3.fields captures.start m.0 items tt m.3.good

-- the items of a capture
pub are_framed : (octets : List ℕ) → AreFramed (legacy_meaning octets).items 0
are_framed octets = let w = found captures octets in met_framed octets (legacy_meaning octets).items w.0 w.1
