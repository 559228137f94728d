-- Subcarriers that are read one after another.
use Rattle.std.proofs.Common.{◌≡◌, inl, inr, ℕ, zero, suc, ◌+◌, ◌<◌, ◌^◌, List, [], ◌∷◌, ◌++◌, length, flat_map, nat_eq}
use Rattle.std.proofs.Common.{Bool, true, false, if◌then◌else◌, refl, sym, ap, subst, ◌∙◌, append_assoc, length-append, arith}
use Rattle.ht_io.specs.Devices.{Device, Takes}
use Rattle.std.proofs.lemmas.Bool.Decides.{nat_tests}
use Rattle.std.proofs.lemmas.List.{append-nil, map-append}
use Rattle.std.proofs.lemmas.Grind.{flat_map-append}
use Rattle.std.specs.Int.Bits.{bit_or}
use Rattle.ht_io.proofs.Calls.{takes-none, takes-append}
use Rattle.ht_rate.specs.declared.rates.Rate.{Rate}
use Rattle.ht_rate.specs.Rates.{streams_of}
use Rattle.ht_metric.specs.Rows.{Leg}
use Rattle.ht_capture.specs.declared.items.FrameHead.{FrameHead}
use Rattle.ht_capture.specs.declared.places.Present.{Present}
use Rattle.ht_capture.specs.Frames.{erase}
use Rattle.ht_capture.specs.Files.{triangles_behind, carriers_octets, flag_octet, flagged, flagged_octets, is_erased, legs_octets, present_among}
use Rattle.ht_capture.specs.Contents.{AreLegs, AreTriangles}
use Rattle.ht_capture.specs.Taking.{Adds, AreRead, Keeps, TakesFlag, kept_flag, triangles_of}
use Rattle.ht_capture.proofs.Marks.{clear_above, or_above, set_before, set_now, twice}
use Rattle.ht_capture.proofs.Octets.{takes_as}
use Rattle.ht_capture.proofs.Routes.{behind_length}

abbrev Agree : ℕ → ℕ → ℕ → ℕ → Type 0
Agree n k e other = (i : ℕ) → i < n → is_erased other (k + i) ≡ is_erased e (k + i)

agree_first : (n k e other : ℕ) → Agree (suc n) k e other → is_erased other k ≡ is_erased e k
agree_first n k e other same = let z : k + 0 ≡ k = omega arith in ap (is_erased other) (sym z) ∙ (same 0 (omega arith) ∙ ap (is_erased e) z)

agree_next : (n k e other : ℕ) → Agree (suc n) k e other → Agree n (k + 1) e other
agree_next n k e other same = λ i lt. let z : k + suc i ≡ k + 1 + i = omega arith in
    ap (is_erased other) (sym z) ∙ (same (suc i) (omega (arith, lt)) ∙ ap (is_erased e) z)

flagged_front : (b : Bool) (later : ℕ) (ts extra : List (List Leg)) → length ts ≡ (if b then later else 1 + later) → flagged b (ts ++ extra) ≡ flagged b ts
flagged_front true later ts extra len = refl
flagged_front false later [] extra len = absurd (omega (arith, len))
flagged_front false later (t ∷ ts) extra len = refl

behind_front : (b : Bool) (later : ℕ) (ts extra : List (List Leg))
    → length ts ≡ (if b then later else 1 + later) → triangles_behind b (ts ++ extra) ≡ triangles_behind b ts ++ extra
behind_front true later ts extra len = refl
behind_front false later [] extra len = absurd (omega (arith, len))
behind_front false later (t ∷ ts) extra len = refl

-- one subcarrier more, at the end
flagged_more : (n k e other : ℕ) (ts extra : List (List Leg)) → Agree n k e other → length ts ≡ present_among n k e
    → flagged_octets (suc n) k other (ts ++ extra) ≡ flagged_octets n k e ts ++ flagged (is_erased other (k + n)) extra
flagged_more zero k e other [] extra same len = let z : k ≡ k + 0 = omega arith in
    append-nil (flagged (is_erased other k) extra) ∙ ap (λ j. flagged (is_erased other j) extra) z
flagged_more zero k e other (t ∷ ts) extra same len = absurd (omega (arith, len))
flagged_more (suc n) k e other ts extra same len =
    let b = is_erased e k in
    let later = present_among n (k + 1) e in
    let first = agree_first n k e other same in
    let place : k + 1 + n ≡ k + suc n = omega arith in
    let rest = flagged_more n (k + 1) e other (triangles_behind b ts) extra (agree_next n k e other same) (behind_length b later ts len) in
    let end : List ℕ = flagged (is_erased other (k + 1 + n)) extra in
    ap (λ (c : Bool). flagged c (ts ++ extra) ++ flagged_octets (suc n) (k + 1) other (triangles_behind c (ts ++ extra))) first
    ∙ (ap (λ (z : List ℕ). z ++ flagged_octets (suc n) (k + 1) other (triangles_behind b (ts ++ extra))) (flagged_front b later ts extra len)
    ∙ (ap (λ (z : List (List Leg)). flagged b ts ++ flagged_octets (suc n) (k + 1) other z) (behind_front b later ts extra len)
    ∙ (ap (λ (z : List ℕ). flagged b ts ++ z) rest
    ∙ (sym (append_assoc (flagged b ts) (flagged_octets n (k + 1) e (triangles_behind b ts)) end)
    ∙ ap (λ j. (flagged b ts ++ flagged_octets n (k + 1) e (triangles_behind b ts)) ++ flagged (is_erased other j) extra) place))))

count_more : (b : Bool) (x y z : ℕ) → x ≡ y + z → (if b then x else 1 + x) ≡ (if b then y else 1 + y) + z
count_more true x y z e = e
count_more false x y z e = omega (arith, e)

abbrev one_if : Bool → ℕ
one_if true = 0
one_if false = 1

single : (b : Bool) → (if b then 0 else 1 + 0) ≡ 0 + one_if b
single true = refl
single false = refl

present_more : (n k e other : ℕ) → Agree n k e other → present_among (suc n) k other ≡ present_among n k e + one_if (is_erased other (k + n))
present_more zero k e other same = let z : k ≡ k + 0 = omega arith in single (is_erased other k) ∙ ap (λ j. 0 + one_if (is_erased other j)) z
present_more (suc n) k e other same =
    let first = agree_first n k e other same in
    let place : k + 1 + n ≡ k + suc n = omega arith in
    let rest = present_more n (k + 1) e other (agree_next n k e other same) in
    ap (λ (c : Bool). if c then present_among (suc n) (k + 1) other else 1 + present_among (suc n) (k + 1) other) first
    ∙ (count_more (is_erased e k) _ _ _ rest ∙ ap (λ j. present_among (suc n) k e + one_if (is_erased other j)) place)

not_set : (e k : ℕ) → e < 2 ^ k → is_erased e (0 + k) ≡ false
not_set e k low = let z : 0 + k ≡ k = omega arith in ap (λ i. is_erased e i) z ∙ clear_above e k low

now_set : (e k : ℕ) → e < 2 ^ k → is_erased (bit_or e (2 ^ k)) (0 + k) ≡ true
now_set e k low = let z : 0 + k ≡ k = omega arith in ap (λ i. is_erased (bit_or e (2 ^ k)) i) z ∙ set_now e k low

others_stay : (e k : ℕ) → Agree k 0 e (bit_or e (2 ^ k))
others_stay e k = λ i lt. set_before e k (0 + i) (omega (arith, lt))

no_carriers : (b : Bool) → (let none : List ℕ = [] in none) ≡ (if b then [] else [])
no_carriers true = refl
no_carriers false = refl

-- no subcarrier yet
pub read_none : (version : ℕ) (rate : Rate) (erased : ℕ) (left : Device ℕ) → erased ≡ 0 → AreRead version 0 rate erased [] left left
unfolding carriers_octets
read_none version rate erased left none = record {
  octets = takes_as left.known left.known [] _ (no_carriers (nat_eq version 2)) (takes-none left);
  marks = omega (arith, none);
  whole = λ not. none;
  present = refl;
  typed = tt;
}

typed_more : (streams : ℕ) (ts : List (List Leg)) (legs : List Leg) → AreTriangles streams ts
    → length legs ≡ streams → AreLegs legs → AreTriangles streams (ts ++ legs ∷ [])
typed_more streams [] legs all len typed = (len, typed, tt)
typed_more streams (t ∷ ts) legs all len typed = (all.0, all.1, typed_more streams ts legs all.2 len typed)

-- the octets of one subcarrier more that is present
kept_octets : (b : Bool) (version k e : ℕ) (ts : List (List Leg)) (legs : List Leg) → nat_eq version 2 ≡ b → e < 2 ^ k → length ts ≡ present_among k 0 e
    → carriers_octets version k e ts ++ (kept_flag version ++ legs_octets legs) ≡ carriers_octets version (k + 1) e (ts ++ legs ∷ [])
unfolding carriers_octets
kept_octets true version k e ts legs is low len =
    let more : flagged_octets (k + 1) 0 e (ts ++ legs ∷ []) ≡ flagged_octets k 0 e ts ++ flagged (is_erased e (0 + k)) (legs ∷ []) =
    (let z : k + 1 ≡ suc k = omega arith in ap (λ n. flagged_octets n 0 e (ts ++ legs ∷ [])) z) ∙ flagged_more k 0 e e ts (legs ∷ []) (λ i lt. refl) len in
    ap (λ (c : Bool). (if c then flagged_octets k 0 e ts else flat_map legs_octets ts) ++ ((if c then 0 ∷ [] else []) ++ legs_octets legs)) is
    ∙ (ap (λ (c : Bool). flagged_octets k 0 e ts ++ flagged c (legs ∷ [])) (sym (not_set e k low))
    ∙ (sym more ∙ ap (λ (c : Bool). if c then flagged_octets (k + 1) 0 e (ts ++ legs ∷ []) else flat_map legs_octets (ts ++ legs ∷ [])) (sym is)))
kept_octets false version k e ts legs is low len =
    ap (λ (c : Bool). (if c then flagged_octets k 0 e ts else flat_map legs_octets ts) ++ ((if c then 0 ∷ [] else []) ++ legs_octets legs)) is
    ∙ (ap (λ (z : List ℕ). flat_map legs_octets ts ++ z) (sym (append-nil (legs_octets legs)))
    ∙ (sym (flat_map-append legs_octets ts (legs ∷ []))
    ∙ ap (λ (c : Bool). if c then flagged_octets (k + 1) 0 e (ts ++ legs ∷ []) else flat_map legs_octets (ts ++ legs ∷ [])) (sym is)))

-- the octets of one subcarrier more that is erased
erased_octets : (version k e : ℕ) (ts : List (List Leg)) → version ≡ 2 → e < 2 ^ k → length ts ≡ present_among k 0 e
    → carriers_octets version k e ts ++ 1 ∷ [] ≡ carriers_octets version (k + 1) (bit_or e (2 ^ k)) ts
unfolding carriers_octets
erased_octets version k e ts two low len =
    let is : nat_eq version 2 ≡ true = grind (arith, nat_tests) in
    let z : k + 1 ≡ suc k = omega arith in
    let more : flagged_octets (k + 1) 0 (bit_or e (2 ^ k)) (ts ++ []) ≡ flagged_octets k 0 e ts ++ flagged (is_erased (bit_or e (2 ^ k)) (0 + k)) [] =
    ap (λ n. flagged_octets n 0 (bit_or e (2 ^ k)) (ts ++ [])) z ∙ flagged_more k 0 e (bit_or e (2 ^ k)) ts [] (others_stay e k) len in
    ap (λ (c : Bool). (if c then flagged_octets k 0 e ts else flat_map legs_octets ts) ++ 1 ∷ []) is
    ∙ (ap (λ (c : Bool). flagged_octets k 0 e ts ++ flagged c []) (sym (now_set e k low))
    ∙ (sym more
    ∙ (ap (λ (x : List (List Leg)). flagged_octets (k + 1) 0 (bit_or e (2 ^ k)) x) (append-nil ts)
    ∙ ap (λ (c : Bool). if c then flagged_octets (k + 1) 0 (bit_or e (2 ^ k)) ts else flat_map legs_octets ts) (sym is))))

-- one subcarrier more
pub read_more : (version k : ℕ) (old new : FrameHead) (present after : List Present) (left mid later : Device ℕ)
    → AreRead version k old.rate old.erased (triangles_of present) left mid
    → new.rate ≡ old.rate → Adds version k old new present after mid later → AreRead version (k + 1) new.rate new.erased (triangles_of after) left later
unfolding erase
read_more version k old new present after left mid later r same (inl (two, is, kept, taken)) =
    let e = old.erased in
    let ts = triangles_of present in
    let marks : new.erased ≡ bit_or e (2 ^ k) = ap (λ (h : FrameHead). h.erased) is in
    let ts_is : triangles_of after ≡ ts = ap triangles_of kept in
    let z : k + 1 ≡ suc k = omega arith in
    let count : present_among (k + 1) 0 (bit_or e (2 ^ k)) ≡ present_among k 0 e =
    ap (λ n. present_among n 0 (bit_or e (2 ^ k))) z
    ∙ (present_more k 0 e (bit_or e (2 ^ k)) (others_stay e k) ∙ (ap (λ (c : Bool). present_among k 0 e + one_if c) (now_set e k r.marks) ∙ omega arith)) in
    let made : AreRead version (k + 1) old.rate (bit_or e (2 ^ k)) ts left later = record {
      octets = takes_as left.known later.known _ _ (erased_octets version k e ts two r.marks r.present) (takes-append left mid later _ (1 ∷ []) r.octets taken);
      marks = let sum = or_above e k r.marks in let more = twice k in let low = r.marks in omega arith;
      whole = λ not. absurd (not two);
      present = r.present ∙ sym count;
      typed = r.typed;
    } in
    subst (λ (q : Rate). AreRead version (k + 1) q new.erased (triangles_of after) left later) (sym same)
    (subst (λ (m : ℕ). AreRead version (k + 1) old.rate m (triangles_of after) left later) (sym marks)
    (subst (λ (x : List (List Leg)). AreRead version (k + 1) old.rate (bit_or e (2 ^ k)) x left later) (sym ts_is) made))
read_more version k old new present after left mid later r same (inr (is, (legs, len, kept, typed, taken))) =
    let e = old.erased in
    let ts = triangles_of present in
    let ts_is : triangles_of after ≡ ts ++ legs ∷ [] =
    ap triangles_of kept ∙ map-append (λ (p : Present). p.triangle) present (record { carrier = k; triangle = legs } ∷ []) in
    let z : k + 1 ≡ suc k = omega arith in
    let count : present_among (k + 1) 0 e ≡ present_among k 0 e + 1 =
    ap (λ n. present_among n 0 e) z ∙ (present_more k 0 e e (λ i lt. refl) ∙ ap (λ (c : Bool). present_among k 0 e + one_if c) (not_set e k r.marks)) in
    let made : AreRead version (k + 1) old.rate e (ts ++ legs ∷ []) left later = record {
      octets = takes_as left.known later.known _ _ (kept_octets (nat_eq version 2) version k e ts legs refl r.marks r.present)
          (takes-append left mid later _ (kept_flag version ++ legs_octets legs) r.octets taken);
      marks = let more = twice k in let low = r.marks in omega arith;
      whole = r.whole;
      present = length-append ts (legs ∷ []) ∙ (ap (λ n. n + 1) r.present ∙ sym count);
      typed = typed_more (streams_of old.rate) ts legs r.typed len typed;
    } in
    subst (λ (q : Rate). AreRead version (k + 1) q new.erased (triangles_of after) left later) (sym same)
    (subst (λ (m : ℕ). AreRead version (k + 1) old.rate m (triangles_of after) left later) (sym (ap (λ (h : FrameHead). h.erased) is))
    (subst (λ (x : List (List Leg)). AreRead version (k + 1) old.rate e x left later) (sym ts_is) made))

pub read_end : (version k count : ℕ) (rate : Rate) (e : ℕ) (ts : List (List Leg)) (left later : Device ℕ)
    → k ≡ count → AreRead version k rate e ts left later → AreRead version count rate e ts left later
read_end version k count rate e ts left later is r = subst (λ (n : ℕ). AreRead version n rate e ts left later) is r

-- a flag of version 2 that was taken
pub takes_flag : (version : ℕ) (b : Bool) (source later : Device ℕ) → version ≡ 2 → Takes source later (flag_octet b ∷ []) → TakesFlag version source later b
takes_flag version true source later two taken = (two, taken)
takes_flag version false source later two taken =
    let t : nat_eq version 2 ≡ true = grind (arith, nat_tests) in
    takes_as source.known later.known (0 ∷ []) (kept_flag version) (sym (ap (λ (b : Bool). if b then 0 ∷ [] else []) t)) taken

-- behind its flag a triangle was read
pub adds_kept : (version carrier : ℕ) (head : FrameHead) (present after : List Present) (source mid later : Device ℕ) → TakesFlag version source mid false
    → Keeps (streams_of head.rate) [] carrier present after mid later → Adds version carrier head head present after source later
adds_kept version carrier head present after source mid later flag (legs, len, is, typed, taken) =
    inr (refl, (legs, len, is, typed, takes-append source mid later (kept_flag version) (legs_octets legs) flag taken))
