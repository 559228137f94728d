-- Equal files have equal frames.
use Rattle.std.proofs.Common.{◌≡◌, ◌⊎◌, inl, inr, ℕ, zero, suc, ◌+◌, ◌*◌, ◌<◌, ◌≤◌, ◌^◌, List, [], ◌∷◌, ◌++◌, length, drop, get_or, flat_map}
use Rattle.std.proofs.Common.{nat_eq, All, Bool, true, false, if◌then◌else◌, Result, Ok, refl, sym, ap, subst, ◌∙◌, append_assoc, arith}
use Rattle.std.proofs.lemmas.Bool.Decides.{nat_tests}
use Rattle.std.proofs.lemmas.List.{append-nil}
use Rattle.std.proofs.lemmas.List.Elements.{All-head, All-tail}
use Rattle.std.proofs.lemmas.Nat.Bits.{bit_at-lt, same_from_bits_below}
use Rattle.std.specs.Int.{bit_at}
use Rattle.byteorder.specs.Endian.{big_number}
use Rattle.byteorder.specs.Numbers.{big_number-reads_back}
use Rattle.ht_fields.proofs.Paths.{same_front}
use Rattle.ht_rate.specs.declared.rates.Rate.{Rate}
use Rattle.ht_rate.specs.declared.rates.RateFault.{RateFault}
use Rattle.ht_rate.specs.Schemes.{bandwidth_code}
use Rattle.ht_rate.specs.Rates.{bandwidth_of, mcs_of, rate_of, streams_of, carriers_of, symbols_of}
use Rattle.ht_rate.proofs.Numbers.{rate_of-named}
use Rattle.ht_rate.proofs.RateFacts.{streams_of-range}
use Rattle.ht_metric.specs.declared.sample.Sample.{Sample}
use Rattle.ht_metric.specs.Rows.{Leg}
use Rattle.ht_capture.specs.declared.frames.CaptureFrame.{CaptureFrame}
use Rattle.ht_capture.specs.Systems.{triangle_of}
use Rattle.ht_capture.specs.Files.{AreCaptureFrames, FitsFrame, triangles_behind, carriers_octets}
use Rattle.ht_capture.specs.Files.{capture_file_of, flagged, flagged_octets, capture_frame_octets}
use Rattle.ht_capture.specs.Files.{front_octets, is_erased, legs_octets, present_among, sample_octets}
use Rattle.ht_capture.specs.Contents.{AreLegs, AreSamples, AreTriangles, AreTyped, IsTyped, IsVersion}
use Rattle.ht_capture.proofs.Decoded.{sample_read, triangle_read}
use Rattle.ht_capture.proofs.Written.{length-legs}
use Rattle.ht_capture.proofs.Routes.{behind_length, behind_typed}
use Rattle.ht_capture.proofs.Filed.{CanBe, can_be, others}
use Rattle.ht_heads.specs.Heads.{head_octets, start_octets}

-- triangles of as many streams
legs_same : (t u : List Leg) (xs ys : List ℕ) → length t ≡ length u → length t ≤ 4
    → AreLegs t → AreLegs u → legs_octets t ++ xs ≡ legs_octets u ++ ys → (t ≡ u) × (xs ≡ ys)
legs_same t u xs ys len few a b e =
    let size : length (legs_octets t) ≡ length (legs_octets u) =
    length-legs t few ∙ (ap (λ n. 2 * (n * n)) len ∙ sym (length-legs u (omega (arith, len, few)))) in
    let both = same_front (legs_octets t) (legs_octets u) xs ys size e in
    (sym (triangle_read t a) ∙ (ap (λ n. triangle_of n (legs_octets t)) len ∙ (ap (triangle_of (length u)) both.0 ∙ triangle_read u b)), both.1)

samples_same : (xs ys : List Sample) (a b : List ℕ) → length xs ≡ length ys → AreSamples xs
    → AreSamples ys → flat_map sample_octets xs ++ a ≡ flat_map sample_octets ys ++ b → (xs ≡ ys) × (a ≡ b)
samples_same [] [] a b len t u e = (refl, e)
samples_same [] (y ∷ ys) a b len t u e = absurd (omega (arith, len))
samples_same (x ∷ xs) [] a b len t u e = absurd (omega (arith, len))
samples_same (x ∷ xs) (y ∷ ys) a b len t u e =
    let first = same_front (sample_octets x) (sample_octets y) (flat_map sample_octets xs ++ a) (flat_map sample_octets ys ++ b) refl
    (sym (append_assoc (sample_octets x) (flat_map sample_octets xs) a) ∙ (e ∙ append_assoc (sample_octets y) (flat_map sample_octets ys) b)) in
    let same : x ≡ y = sym (sample_read (sample_octets x) [] 0 x (sym (append-nil (sample_octets x))) t.0 t.1)
    ∙ sample_read (sample_octets x) [] 0 y (first.0 ∙ sym (append-nil (sample_octets y))) u.0 u.1 in
    let rest = samples_same xs ys a b (omega (arith, len)) t.2 u.2 first.1 in
    (ap (λ (s : Sample). s ∷ xs) same ∙ ap (λ (l : List Sample). y ∷ l) rest.0, rest.1)

plain_same : (streams : ℕ) (ts us : List (List Leg)) (a b : List ℕ) → streams ≤ 4 → length ts ≡ length us → AreTriangles streams ts
    → AreTriangles streams us → flat_map legs_octets ts ++ a ≡ flat_map legs_octets us ++ b → (ts ≡ us) × (a ≡ b)
plain_same streams [] [] a b few len t u e = (refl, e)
plain_same streams [] (y ∷ ys) a b few len t u e = absurd (omega (arith, len))
plain_same streams (x ∷ xs) [] a b few len t u e = absurd (omega (arith, len))
plain_same streams (x ∷ xs) (y ∷ ys) a b few len t u e =
    let first = legs_same x y (flat_map legs_octets xs ++ a) (flat_map legs_octets ys ++ b) (t.0 ∙ sym u.0) (omega (arith, t.0, few)) t.1 u.1
    (sym (append_assoc (legs_octets x) (flat_map legs_octets xs) a) ∙ (e ∙ append_assoc (legs_octets y) (flat_map legs_octets ys) b)) in
    let rest = plain_same streams xs ys a b few (omega (arith, len)) t.2 u.2 first.1 in
    (ap (λ (s : List Leg). s ∷ xs) first.0 ∙ ap (λ (l : List (List Leg)). y ∷ l) rest.0, rest.1)

head_of_list : (xs ys : List ℕ) → xs ≡ ys → get_or xs 0 0 ≡ get_or ys 0 0
head_of_list xs ys e = ap (λ l. get_or l 0 0) e

-- one subcarrier of version 2
flag_same : (b c : Bool) (streams m n : ℕ) (ts us : List (List Leg)) (xs ys : List ℕ) → streams ≤ 4
    → length ts ≡ (if b then m else 1 + m) → length us ≡ (if c then n else 1 + n) → AreTriangles streams ts → AreTriangles streams us
    → flagged b ts ++ xs ≡ flagged c us ++ ys → (b ≡ c) × (triangles_behind b ts ≡ triangles_behind c us → ts ≡ us) × (xs ≡ ys)
flag_same true true streams m n ts us xs ys few len size t u e = (refl, (λ same. same), ap (drop 1) e)
flag_same true false streams m n ts us xs ys few len size t u e = let one : 1 ≡ 0 = head_of_list _ _ e in absurd (omega (arith, one))
flag_same false true streams m n ts us xs ys few len size t u e = let one : 0 ≡ 1 = head_of_list _ _ e in absurd (omega (arith, one))
flag_same false false streams m n [] us xs ys few len size t u e = absurd (omega (arith, len))
flag_same false false streams m n (x ∷ ts) [] xs ys few len size t u e = absurd (omega (arith, size))
flag_same false false streams m n (x ∷ ts) (y ∷ us) xs ys few len size t u e =
    let first = legs_same x y xs ys (t.0 ∙ sym u.0) (omega (arith, t.0, few)) t.1 u.1 (ap (drop 1) e) in
    (refl, (λ same. ap (λ (s : List Leg). s ∷ ts) first.0 ∙ ap (λ (l : List (List Leg)). y ∷ l) same), first.1)

record SameCarriers (n k e f : ℕ) (ts us : List (List Leg)) (a b : List ℕ) : Type 0 where
  marks : (i : ℕ) → i < n → is_erased e (k + i) ≡ is_erased f (k + i)
  triangles : ts ≡ us
  rest : a ≡ b

marks_more : (n k e f : ℕ) → is_erased e k ≡ is_erased f k → ((i : ℕ) → i < n → is_erased e (k + 1 + i) ≡ is_erased f (k + 1 + i))
    → (i : ℕ) → i < suc n → is_erased e (k + i) ≡ is_erased f (k + i)
marks_more n k e f first rest zero lt = let z : k + 0 ≡ k = omega arith in ap (is_erased e) z ∙ (first ∙ ap (is_erased f) (sym z))
marks_more n k e f first rest (suc i) lt = let z : k + suc i ≡ k + 1 + i = omega arith in
    ap (is_erased e) z ∙ (rest i (omega (arith, lt)) ∙ ap (is_erased f) (sym z))

flagged_same : (n k e f streams : ℕ) (ts us : List (List Leg)) (a b : List ℕ) → streams ≤ 4
    → length ts ≡ present_among n k e → length us ≡ present_among n k f → AreTriangles streams ts → AreTriangles streams us
    → flagged_octets n k e ts ++ a ≡ flagged_octets n k f us ++ b → SameCarriers n k e f ts us a b
flagged_same zero k e f streams [] [] a b few len size t u same = record { marks = λ i lt. absurd (omega (arith, lt)); triangles = refl; rest = same }
flagged_same zero k e f streams (x ∷ ts) us a b few len size t u same = absurd (omega (arith, len))
flagged_same zero k e f streams [] (y ∷ us) a b few len size t u same = absurd (omega (arith, size))
flagged_same (suc n) k e f streams ts us a b few len size t u same =
    let p = is_erased e k in
    let q = is_erased f k in
    let xs : List ℕ = flagged_octets n (k + 1) e (triangles_behind p ts) in
    let ys : List ℕ = flagged_octets n (k + 1) f (triangles_behind q us) in
    let first = flag_same p q streams _ _ ts us (xs ++ a) (ys ++ b) few len size t u
    (sym (append_assoc (flagged p ts) xs a) ∙ (same ∙ append_assoc (flagged q us) ys b)) in
    let rest = flagged_same n (k + 1) e f streams (triangles_behind p ts) (triangles_behind q us) a b few (behind_length p _ ts len)
    (behind_length q _ us size) (behind_typed p streams ts t) (behind_typed q streams us u) first.2 in
    record { marks = marks_more n k e f first.0 rest.marks; triangles = first.1 rest.triangles; rest = rest.rest }

bit_same : (x y : ℕ) → x < 2 → y < 2 → nat_eq x 1 ≡ nat_eq y 1 → x ≡ y
bit_same zero zero lx ly e = refl
bit_same zero (suc zero) lx ly e = absurd cc
bit_same (suc zero) zero lx ly e = absurd cc
bit_same (suc zero) (suc zero) lx ly e = refl
bit_same (suc (suc x)) y lx ly e = absurd (omega (arith, lx))
bit_same zero (suc (suc y)) lx ly e = absurd (omega (arith, ly))
bit_same (suc zero) (suc (suc y)) lx ly e = absurd (omega (arith, ly))

marks_same : (n e f : ℕ) → e < 2 ^ n → f < 2 ^ n → ((i : ℕ) → i < n → is_erased e (0 + i) ≡ is_erased f (0 + i)) → e ≡ f
marks_same n e f le lf same = same_from_bits_below n e f le lf (λ i lt. let z : 0 + i ≡ i = omega arith in
    bit_same (bit_at e i) (bit_at f i) (bit_at-lt e i) (bit_at-lt f i) (ap (is_erased e) (sym z) ∙ (same i lt ∙ ap (is_erased f) z)))

-- the subcarriers of a frame, in either version
carriers_same : (version n e f streams : ℕ) (ts us : List (List Leg)) (a b : List ℕ)
    → streams ≤ 4 → ((version ≡ 1) × (e ≡ 0) × (f ≡ 0)) ⊎ (version ≡ 2) → e < 2 ^ n → f < 2 ^ n
    → length ts ≡ present_among n 0 e → length us ≡ present_among n 0 f → AreTriangles streams ts → AreTriangles streams us
    → carriers_octets version n e ts ++ a ≡ carriers_octets version n f us ++ b → (e ≡ f) × (ts ≡ us) × (a ≡ b)
unfolding carriers_octets
carriers_same version n e f streams ts us a b few (inl (one, ze, zf)) le lf len size t u same =
    let is : nat_eq version 2 ≡ false = grind (arith, nat_tests) in
    let plain : flat_map legs_octets ts ++ a ≡ flat_map legs_octets us ++ b =
    ap (λ (c : Bool). (if c then flagged_octets n 0 e ts else flat_map legs_octets ts) ++ a) (sym is)
    ∙ (same ∙ ap (λ (c : Bool). (if c then flagged_octets n 0 f us else flat_map legs_octets us) ++ b) is) in
    let marks : e ≡ f = ze ∙ sym zf in
    let both = plain_same streams ts us a b few (len ∙ (ap (λ m. present_among n 0 m) marks ∙ sym size)) t u plain in
    (marks, both.0, both.1)
carriers_same version n e f streams ts us a b few (inr two) le lf len size t u same =
    let is : nat_eq version 2 ≡ true = grind (arith, nat_tests) in
    let flags : flagged_octets n 0 e ts ++ a ≡ flagged_octets n 0 f us ++ b =
    ap (λ (c : Bool). (if c then flagged_octets n 0 e ts else flat_map legs_octets ts) ++ a) (sym is)
    ∙ (same ∙ ap (λ (c : Bool). (if c then flagged_octets n 0 f us else flat_map legs_octets us) ++ b) is) in
    let all = flagged_same n 0 e f streams ts us a b few len size t u flags in
    (marks_same n e f le lf all.marks, all.triangles, all.rest)

ok_same : (r s : Rate) → (let x : Result Rate RateFault = Ok r in x) ≡ Ok s → r ≡ s
ok_same r s e = cc

-- bandwidth, MCS and length
head_same : (r s : Rate) (m n : ℕ) → m < 2 ^ 16 → n < 2 ^ 16 → head_octets r m ≡ head_octets s n → (r ≡ s) × (m ≡ n)
head_same r s m n lm ln e =
    let code : bandwidth_code (bandwidth_of r) ≡ bandwidth_code (bandwidth_of s) = ap (λ l. get_or l 0 0) e in
    let mcs : mcs_of r ≡ mcs_of s = ap (λ l. get_or l 1 0) e in
    let rate : (let x : Result Rate RateFault = Ok r in x) ≡ Ok s =
    sym (rate_of-named r) ∙ (ap (λ b. rate_of b (mcs_of r)) code ∙ (ap (rate_of (bandwidth_code (bandwidth_of s))) mcs ∙ rate_of-named s)) in
    let len : m ≡ n = sym (big_number-reads_back 2 m [] lm) ∙ (ap (λ l. big_number 2 (drop 2 l)) e ∙ big_number-reads_back 2 n [] ln) in
    (ok_same r s rate, len)

made : Rate → ℕ → ℕ → List (List Leg) → List Sample → CaptureFrame
made r len e ts ys = record { rate = r; length = len; erased = e; triangles = ts; samples = ys }

both_can : (version : ℕ) (f g : CaptureFrame) → CanBe version f → CanBe version g → ((version ≡ 1) × (f.erased ≡ 0) × (g.erased ≡ 0)) ⊎ (version ≡ 2)
both_can version f g (inl x) (inl y) = inl (x.0, x.1, y.1)
both_can version f g (inl x) (inr y) = inr y
both_can version f g (inr x) c = inr x

-- a frame
frame_same : (version : ℕ) (f g : CaptureFrame) (a b : List ℕ) → CanBe version f → CanBe version g → FitsFrame f → FitsFrame g → IsTyped f → IsTyped g
    → capture_frame_octets version f ++ a ≡ capture_frame_octets version g ++ b → (f ≡ g) × (a ≡ b)
unfolding capture_frame_octets front_octets made
frame_same version f g a b vf vg ff fg tf tg e =
    let hf = head_octets f.rate f.length in
    let hg = head_octets g.rate g.length in
    let cf : List ℕ = carriers_octets version (carriers_of f.rate) f.erased f.triangles in
    let cg : List ℕ = carriers_octets version (carriers_of g.rate) g.erased g.triangles in
    let sf : List ℕ = flat_map sample_octets f.samples in
    let sg : List ℕ = flat_map sample_octets g.samples in
    let lf : ((hf ++ cf) ++ sf) ++ a ≡ hf ++ (cf ++ (sf ++ a)) = append_assoc (hf ++ cf) sf a ∙ append_assoc hf cf (sf ++ a) in
    let lg : ((hg ++ cg) ++ sg) ++ b ≡ hg ++ (cg ++ (sg ++ b)) = append_assoc (hg ++ cg) sg b ∙ append_assoc hg cg (sg ++ b) in
    let heads = same_front hf hg (cf ++ (sf ++ a)) (cg ++ (sg ++ b)) refl (sym lf ∙ (e ∙ lg)) in
    let head = head_same f.rate g.rate f.length g.length tf.length_is tg.length_is heads.0 in
    let rate : g.rate ≡ f.rate = sym head.0 in
    let few = (streams_of-range f.rate).1 in
    let low : g.erased < 2 ^ carriers_of f.rate = subst (λ (r : Rate). g.erased < 2 ^ carriers_of r) rate fg.marks in
    let size : length g.triangles ≡ present_among (carriers_of f.rate) 0 g.erased =
    subst (λ (r : Rate). length g.triangles ≡ present_among (carriers_of r) 0 g.erased) rate fg.triangles in
    let typed : AreTriangles (streams_of f.rate) g.triangles = subst (λ (r : Rate). AreTriangles (streams_of r) g.triangles) rate tg.triangles in
    let behind : cf ++ (sf ++ a) ≡ carriers_octets version (carriers_of f.rate) g.erased g.triangles ++ (sg ++ b) =
    heads.1 ∙ ap (λ (r : Rate). carriers_octets version (carriers_of r) g.erased g.triangles ++ (sg ++ b)) rate in
    let carriers = carriers_same version (carriers_of f.rate) f.erased g.erased (streams_of f.rate) f.triangles g.triangles
    (sf ++ a) (sg ++ b) few (both_can version f g vf vg) ff.marks low ff.triangles size tf.triangles typed behind in
    let count : length f.samples ≡ length g.samples =
    ff.samples ∙ (ap (λ (r : Rate). symbols_of r f.length * (present_among (carriers_of r) 0 f.erased * streams_of r)) head.0
    ∙ (ap (λ n. symbols_of g.rate n * (present_among (carriers_of g.rate) 0 f.erased * streams_of g.rate)) head.1
    ∙ (ap (λ m. symbols_of g.rate g.length * (present_among (carriers_of g.rate) 0 m * streams_of g.rate)) carriers.0 ∙ sym fg.samples))) in
    let samples = samples_same f.samples g.samples a b count tf.samples tg.samples carriers.2 in (
      ap (λ (r : Rate). made r f.length f.erased f.triangles f.samples) head.0
          ∙ (ap (λ n. made g.rate n f.erased f.triangles f.samples) head.1
          ∙ (ap (λ m. made g.rate g.length m f.triangles f.samples) carriers.0
          ∙ (ap (λ (ts : List (List Leg)). made g.rate g.length g.erased ts f.samples) carriers.1
          ∙ ap (λ (ys : List Sample). made g.rate g.length g.erased g.triangles ys) samples.0))),
      samples.1,
    )

frames_same : (version : ℕ) (fs gs : List CaptureFrame) → length fs ≡ length gs → IsVersion version fs
    → IsVersion version gs → All FitsFrame fs → All FitsFrame gs → AreTyped fs → AreTyped gs
    → flat_map (capture_frame_octets version) fs ≡ flat_map (capture_frame_octets version) gs → fs ≡ gs
frames_same version [] [] len vf vg ff fg tf tg e = refl
frames_same version [] (g ∷ gs) len vf vg ff fg tf tg e = absurd (omega (arith, len))
frames_same version (f ∷ fs) [] len vf vg ff fg tf tg e = absurd (omega (arith, len))
frames_same version (f ∷ fs) (g ∷ gs) len vf vg ff fg tf tg e =
    let first = frame_same version f g (flat_map (capture_frame_octets version) fs) (flat_map (capture_frame_octets version) gs)
    (can_be version f fs vf) (can_be version g gs vg) (All-head FitsFrame f fs ff) (All-head FitsFrame g gs fg) tf.0 tg.0 e in
    let rest = frames_same version fs gs (omega (arith, len)) (others version f fs vf)
    (others version g gs vg) (All-tail FitsFrame f fs ff) (All-tail FitsFrame g gs fg) tf.1 tg.1 first.1 in
    ap (λ (x : CaptureFrame). x ∷ fs) first.0 ∙ ap (λ (xs : List CaptureFrame). g ∷ xs) rest

-- whole files
pub file_same : (version other : ℕ) (fs gs : List CaptureFrame) → AreCaptureFrames fs
    → AreTyped fs → IsVersion version fs → AreCaptureFrames gs → AreTyped gs → IsVersion other gs
    → capture_file_of version fs ≡ capture_file_of other gs → (version ≡ other) × (fs ≡ gs)
unfolding capture_file_of start_octets
file_same version other fs gs ff tf vf fg tg vg e =
    let same : version ≡ other = ap (λ l. get_or l 4 0) e in
    let small : length fs < 256 ^ 2 = omega (arith, ff.few) in
    let low : length gs < 256 ^ 2 = omega (arith, fg.few) in
    let count : length fs ≡ length gs = sym (big_number-reads_back 2 (length fs) (flat_map (capture_frame_octets version) fs) small)
    ∙ (ap (λ l. big_number 2 (drop 5 l)) e ∙ big_number-reads_back 2 (length gs) (flat_map (capture_frame_octets other) gs) low) in
    let rest : flat_map (capture_frame_octets version) fs ≡ flat_map (capture_frame_octets other) gs = ap (drop 7) e in
    let back : IsVersion version gs = subst (λ (v : ℕ). IsVersion v gs) (sym same) vg in
    (same, frames_same version fs gs count vf back ff.fit fg.fit tf tg (rest ∙ ap (λ v. flat_map (capture_frame_octets v) gs) (sym same)))
