-- Field by field back from the end of a file of counted entries: its octets are those that are written of entries.
use Rattle.std.proofs.Common.{◌≡◌, inl, inr, ℕ, ◌-◌, ◌<◌, List, [], ◌∷◌, ◌++◌, length, flat_map, nat_eq}
use Rattle.std.proofs.Common.{false, refl, sym, ap, subst, ◌∙◌, append_assoc, arith}
use Rattle.std.proofs.lemmas.Bool.{cases_Bool}
use Rattle.std.proofs.lemmas.Bool.Decides.{nat_tests}
use Rattle.std.proofs.lemmas.List.{append-nil}
use Rattle.std.proofs.lemmas.List.Elements.{All-from_recursion}
use Rattle.std.specs.List.{AllByRecursion}
use Rattle.byteorder.specs.Endian.{big_bytes, big_number}
use Rattle.ht_io.specs.declared.faults.Kind.TheVariants.{BadMagic, BadVersion}
use Rattle.ht_fields.specs.Grammar.{Good}
use Rattle.ht_fields.specs.Cases.{IsEnd, IsField, IsFile, Leads, octets_of_fields}
use Rattle.ht_fields.specs.Tests.{AreBytes, differs}
use Rattle.ht_fields.proofs.Answered.{file_items}
use Rattle.ht_heads.specs.Starts.{StartState, Magic, Version, Count, Body, Over, good_count, good_magic, good_version, is_outside, magic_due, start_due}
use Rattle.ht_heads.specs.Starts.{started_octets}
use Rattle.ht_heads.proofs.Counts.{bytes_back_as}
use Rattle.ht_counted.specs.Counted.{AreCounted, CountedFormat, IsCounted, counted, counted_format, counted_octets, entries_due}
use Rattle.ht_counted.proofs.Counting.{entry_is, over_is, written}
use Rattle.ht_counted.proofs.Passing.{bytes_behind, bytes_front, passed, same_good, wanted_is, within}

-- A format, the octets of its entries and which entries can be written, and what is written from a state within an entry on.
module _ {B V : Type 0} (h : CountedFormat B V) (octets : V → List ℕ) (Fit : V → Type 0) (Wrote_body : B → List ℕ → Type 0) where
  -- the octets of the entries that are due
  abbrev pub EntriesTail : ℕ → List ℕ → Type 0
  EntriesTail left x = (vs : List V) × (x ≡ flat_map octets vs) × (length vs ≡ left) × AllByRecursion Fit vs

  -- the last octets of an entry, and then those of the entries behind it
  abbrev pub EntryTail : ℕ → (V → List ℕ) → (V → Type 0) → List ℕ → Type 0
  EntryTail left last Has x =
      (v : V) × (vs : List V) × Has v × (x ≡ last v ++ flat_map octets vs) × (length vs ≡ left - 1) × Fit v × AllByRecursion Fit vs

  abbrev CountTail : List ℕ → Type 0
  CountTail x = (vs : List V) × (x ≡ big_bytes h.limits.width (length vs) ++ flat_map octets vs) × AreCounted h.limits Fit vs

  abbrev VersionTail : List ℕ → Type 0
  VersionTail x = (rest : List ℕ) × (x ≡ 1 ∷ rest) × CountTail rest

  -- what is written from a state on
  abbrev pub Wrote : StartState B → List ℕ → Type 0
  Wrote (Magic y ys) x = (rest : List ℕ) × (x ≡ (y ∷ ys) ++ rest) × VersionTail rest
  Wrote Version x = VersionTail x
  Wrote Count x = CountTail x
  Wrote (Body b) x = Wrote_body b x
  Wrote Over x = x ≡ []

  -- the same state by another name
  pub wrote_as : (s t : StartState B) (x : List ℕ) → s ≡ t → Wrote t x → Wrote s x
  wrote_as s t x is w = subst (λ (z : StartState B). Wrote z x) (sym is) w

  -- from the first field of an entry on a whole entry is written
  abbrev pub FirstBack : Type 0
  FirstBack = (left : ℕ) (x : List ℕ) → Wrote_body (h.first left) x → EntryTail left octets (λ v. Unit {0}) x

  pub entries_back : FirstBack → (left : ℕ) (x : List ℕ) → Wrote (entries_due h.first left) x → EntriesTail left x
  entries_back first left x w =
      elim (cases_Bool (nat_eq left 0)) [
        | inl e ↦
            let none : left ≡ 0 = grind (arith, nat_tests) in
            let nothing : x ≡ [] = wrote_as Over (entries_due h.first left) x (sym (over_is h.first left none)) w in
            ([], nothing, sym none, tt)
        | inr e ↦
            let some : 0 < left = grind (arith, nat_tests) in
            let t : EntryTail left octets (λ v. Unit {0}) x =
            first left x (wrote_as (Body (h.first left)) (entries_due h.first left) x (sym (entry_is h.first left some)) w) in
            (t.0 ∷ t.1, t.3, omega (arith, t.4, some), (t.5, t.6))
      ]

  magic_back : (y : ℕ) (ys x rest : List ℕ) → x ≡ y ∷ [] → Wrote (magic_due ys) rest → Wrote (Magic y ys) (x ++ rest)
  magic_back y [] x rest is w = (rest, ap (λ (z : List ℕ). z ++ rest) is, w)
  magic_back y (z ∷ zs) x rest is w = (w.0, ap (λ (o : List ℕ). o ++ rest) is ∙ ap (λ (o : List ℕ). y ∷ o) w.1, w.2)

  count_back : FirstBack → (x rest : List ℕ) → length x ≡ h.limits.width → AreBytes x → is_outside h.limits x ≡ false
      → Wrote (entries_due h.first (big_number h.limits.width x)) rest → CountTail (x ++ rest)
  count_back first x rest wide bytes pass w =
      let range = within h.limits x pass in
      let t = entries_back first (big_number h.limits.width x) rest w in (
        t.0,
        ap (λ (z : List ℕ). z ++ rest) (sym (bytes_back_as x h.limits.width (length t.0) wide t.2 bytes))
            ∙ ap (λ (z : List ℕ). big_bytes h.limits.width (length t.0) ++ z) t.1,
        record { some = omega (arith, t.2, range.0); few = omega (arith, t.2, range.1); fit = All-from_recursion Fit t.0 t.3 },
      )

  start_back : (magic x : List ℕ) → Wrote (magic_due magic) x → (rest : List ℕ) × (x ≡ magic ++ rest) × VersionTail rest
  start_back [] x w = (x, refl, w)
  start_back (y ∷ ys) x w = w

  -- a good field within an entry goes back over what is written behind it
  abbrev pub BodyBack : Type 0
  BodyBack =
      (b : B) (next : StartState B) (x : List ℕ) (here : List V) (rest : List ℕ) → AreBytes x
      → IsField (h.due b) x (Good next here) → Wrote next rest → Wrote_body b (x ++ rest)

  -- no file ends within an entry
  abbrev pub NoEnd : Type 0
  NoEnd = (b : B) → IsEnd (h.due b) → ⊥

  ended : NoEnd → (s : StartState B) → IsEnd (start_due (counted_format h) s) → Wrote s []
  ended none (Magic y ys) e = absurd e
  ended none Version e = absurd e
  ended none Count e = absurd e
  ended none (Body b) e = absurd (none b e)
  ended none Over e = refl

  -- each good field
  back : FirstBack → BodyBack → 0 < h.limits.width → (s next : StartState B) (x : List ℕ) (here : List V) (rest : List ℕ) → AreBytes x
      → IsField (start_due (counted_format h) s) x (Good next here) → Wrote next rest → Wrote s (x ++ rest)
  unfolding good_magic good_version good_count
  back first body some (Magic y ys) next x here rest bytes good w =
      let p = passed BadMagic (differs y) (good_magic ys) x next here good.1 in
      magic_back y ys x rest (wanted_is y x good.0 p.0) (wrote_as (magic_due ys) next rest (same_good (magic_due ys) next [] here p.1).0 w)
  back first body some Version next x here rest bytes good w =
      let p = passed BadVersion (differs 1) good_version x next here good.1 in
      (rest, ap (λ (z : List ℕ). z ++ rest) (wanted_is 1 x good.0 p.0), wrote_as Count next rest (same_good Count next [] here p.1).0 w)
  back first body some Count next x here rest bytes good w =
      let p = passed h.limits.kind (is_outside h.limits) (good_count (counted_format h)) x next here good.1 in
      let due = entries_due h.first (big_number h.limits.width x) in
      count_back first x rest (omega (arith, good.0, some)) bytes p.0 (wrote_as due next rest (same_good due next [] here p.1).0 w)
  back first body some (Body b) next x here rest bytes good w = body b next x here rest bytes good w
  back first body some Over next x here rest bytes good w = absurd good

  -- all good fields up to the end
  wrote : FirstBack → BodyBack → NoEnd → 0 < h.limits.width → (fields : List (List ℕ)) (s t : StartState B) (items : List V)
      → AreBytes (octets_of_fields fields)
      → Leads (counted h) s fields items t → IsEnd (start_due (counted_format h) t) → Wrote s (octets_of_fields fields)
  wrote first body none some [] s t items bytes leads end =
      ended none s (subst (λ (z : StartState B). IsEnd (start_due (counted_format h) z)) (sym leads.1) end)
  wrote first body none some (x ∷ xs) s t items bytes leads end =
      back first body some s leads.0 x leads.1 (octets_of_fields xs) (bytes_front x (octets_of_fields xs) bytes) leads.3
      (wrote first body none some xs leads.0 t leads.2 (bytes_behind x (octets_of_fields xs) bytes) leads.4 end)

  -- the octets of a file are those that are written of entries
  file_back : FirstBack → BodyBack → NoEnd → 0 < h.limits.width → (x : List ℕ) (items : List V) → AreBytes x → IsFile (counted h) x items
      → (vs : List V) × AreCounted h.limits Fit vs × (x ≡ counted_octets h.magic h.limits.width octets vs)
  unfolding started_octets
  file_back first body none some x items bytes file =
      let reaches = file.2 in
      let all : x ≡ octets_of_fields reaches.fields = reaches.split ∙ append-nil (octets_of_fields reaches.fields) in
      let w = start_back h.magic (octets_of_fields reaches.fields)
      (wrote first body none some reaches.fields (magic_due h.magic) file.1 items (subst AreBytes all bytes) reaches.good file.3) in
      let version : VersionTail w.0 = w.2 in
      let count : CountTail version.0 = version.2 in (
        count.0,
        count.2,
        all ∙ (w.1 ∙ (ap (λ (z : List ℕ). h.magic ++ z) (version.1 ∙ ap (λ (z : List ℕ). 1 ∷ z) count.1)
            ∙ sym (append_assoc h.magic (1 ∷ big_bytes h.limits.width (length count.0)) (flat_map octets count.0)))),
      )

  -- each file is the one that is written of its entries, and they can be written
  pub of_file : (most : ℕ) → IsCounted h octets Fit most → FirstBack → BodyBack → NoEnd → (x : List ℕ) (items : List V) → AreBytes x
      → IsFile (counted h) x items → AreCounted h.limits Fit items × (x ≡ counted_octets h.magic h.limits.width octets items)
  of_file most is first body none x items bytes file =
      let w = file_back first body none (omega (arith, is.count.some)) x items bytes file in
      let same : w.0 ≡ items =
      file_items (counted h) x w.0 items (subst (λ (z : List ℕ). IsFile (counted h) z w.0) (sym w.2) (written h octets Fit most is w.0 w.1)) file in
      (subst (λ (z : List V). AreCounted h.limits Fit z) same w.1, w.2 ∙ ap (counted_octets h.magic h.limits.width octets) same)
