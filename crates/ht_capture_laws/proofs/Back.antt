-- Field by field back from the end of a capture: its octets are those that are written of frames.
use Rattle.std.proofs.Common.{◌≡◌, inl, inr, ℕ, zero, suc, ◌+◌, ◌-◌, ◌*◌, ◌<◌, ◌≤◌, ◌^◌, List, [], ◌∷◌, ◌++◌, length, drop, flat_map, nat_eq}
use Rattle.std.proofs.Common.{nat_lt, Bool, true, false, ◌||◌, if◌then◌else◌, refl, sym, ap, subst, ◌∙◌, append_assoc, length-append, arith}
use Rattle.std.proofs.lemmas.Bool.{cases_Bool}
use Rattle.std.proofs.lemmas.Bool.Decides.{nat_tests}
use Rattle.std.proofs.lemmas.List.{append-nil, drop_all}
use Rattle.std.proofs.lemmas.List.Elements.{All-from_recursion}
use Rattle.std.proofs.lemmas.Grind.{flat_map-append}
use Rattle.std.specs.List.{AllByRecursion}
use Rattle.byteorder.specs.Endian.{big_bytes, big_number}
use Rattle.ht_fields.specs.Grammar.{Good}
use Rattle.ht_fields.specs.Cases.{IsEnd, IsField, IsFile, Leads, octets_of_fields}
use Rattle.ht_fields.proofs.Answered.{file_items}
use Rattle.ht_rate.specs.declared.rates.Rate.{Rate}
use Rattle.ht_rate.specs.Schemes.{bandwidth_code}
use Rattle.ht_rate.specs.Rates.{bandwidth_of, carriers_of, mcs_of, rate_at, streams_of}
use Rattle.ht_rate.proofs.Numbers.{rate_at-bandwidth, rate_at-mcs}
use Rattle.ht_rate.proofs.RateFacts.{carriers_of-range, streams_of-range}
use Rattle.ht_metric.specs.declared.sample.Sample.{Sample}
use Rattle.ht_metric.specs.Rows.{Leg}
use Rattle.ht_capture.specs.declared.frames.CaptureFrame.{CaptureFrame}
use Rattle.ht_capture.specs.declared.items.FrameHead.{FrameHead}
use Rattle.ht_capture.specs.declared.items.Item.{Item}
use Rattle.ht_capture.specs.declared.places.Present.{Present}
use Rattle.ht_capture.specs.declared.places.SymbolTurn.{SymbolTurn}
use Rattle.ht_capture.specs.declared.places.Turn.{Turn}
use Rattle.ht_capture.specs.Contents.{AreSamples, AreTyped, AreWhole, IsVersion, items_of}
use Rattle.ht_capture.specs.Files.{AreCaptureFrames, FitsFrame, triangles_behind, carriers_octets}
use Rattle.ht_capture.specs.Files.{capture_file_of, flagged, flagged_octets, capture_frame_octets}
use Rattle.ht_capture.specs.Files.{front_octets, is_erased, legs_octets, present_among, sample_octets}
use Rattle.ht_capture.specs.Frames.{carrier_octets, erase}
use Rattle.ht_capture.specs.Systems.{samples_at, triangle_octets, triangle_of}
use Rattle.ht_capture.specs.Fields.{CaptureState, Magic, Version, Count, Bandwidth, Mcs, Length, Flag, Triangle, Symbol, Over, bad_flag}
use Rattle.ht_capture.specs.Fields.{captures, carriers_due, capture_due, first_symbol, turn_due, judge_bandwidth, judge_count}
use Rattle.ht_capture.specs.Fields.{judge_flag, judge_length, judge_magic, judge_mcs, judge_symbol, judge_triangle, judge_version}
use Rattle.ht_capture.specs.Fields.{known_version, capture_magic, capture_magic_due, new_head, next_symbol, next_turn, present_at, symbol_due}
use Rattle.ht_capture.proofs.Framed.{typed_all}
use Rattle.ht_capture.proofs.Endings.{samples_append}
use Rattle.ht_capture.proofs.Marks.{clear_above, set_before, set_now}
use Rattle.ht_capture.proofs.Encoded.{length-samples_at, only_one, pair_back, pair_small, samples_back, triangle_back}
use Rattle.ht_capture.proofs.Endings.{frame_is_due, symbol_is_due}
use Rattle.ht_capture.proofs.Filed.{file_written, many}
use Rattle.ht_capture.proofs.Grids.{length-triangle_of}
use Rattle.ht_capture.proofs.Judges.{some_left}
use Rattle.ht_capture.proofs.Turns.{frame_is, over_is}
use Rattle.ht_capture_laws.specs.Items.{symbols_in}
use Rattle.ht_capture_laws.specs.Written.{IsFileOf}
use Rattle.ht_capture_laws.proofs.Due.{by_carrier}
use Rattle.ht_capture_laws.proofs.Given.{AtSymbol, Gathered, Sound}
use Rattle.ht_capture_laws.proofs.Lists.{bytes_behind, bytes_front}
use Rattle.ht_capture_laws.proofs.Stages.{erased_more, first_gathered, good_else, good_is}
use Rattle.ht_capture_laws.proofs.Stages.{good_of_two, good_then, seen_more, step}
use Rattle.ht_capture_laws.proofs.Tails.{Back, CarriersTail, CountTail, FrameTail, FramesTail, GoodFrame}
use Rattle.ht_capture_laws.proofs.Tails.{SamplesTail, TriangleTail, VersionTail, Wrote, carriers_by, frames_octets}
use Rattle.ht_fields.specs.Tests.{AreBytes, octet_of}
use Rattle.ht_heads.specs.Heads.{head_octets, start_octets}

-- one octet, and two
single : (x : List ℕ) → length x ≡ 1 → x ≡ octet_of x ∷ []
single [] size = absurd (omega (arith, size))
single (a ∷ []) size = refl
single (a ∷ b ∷ x) size = absurd (omega (arith, size))

pair : (x : List ℕ) → length x ≡ 2 → AreBytes x → (big_number 2 x < 2 ^ 16) × (big_bytes 2 (big_number 2 x) ≡ x)
pair [] size bytes = absurd (omega (arith, size))
pair (a ∷ []) size bytes = absurd (omega (arith, size))
pair (a ∷ b ∷ []) size bytes = (pair_small a b [] (bytes 0) (bytes 1), pair_back a b [] (bytes 0) (bytes 1))
pair (a ∷ b ∷ c ∷ x) size bytes = absurd (omega (arith, size))

-- all samples of octets
samples_all : (n : ℕ) (x : List ℕ) → length x ≡ 8 * n → AreBytes x → AreSamples (samples_at n x 0) × (flat_map sample_octets (samples_at n x 0) ≡ x)
samples_all n x size bytes =
    let back = samples_back n x 0 (omega (arith, size)) bytes in
    let none : drop (0 + 8 * n) x ≡ [] = drop_all (0 + 8 * n) x (omega (arith, size)) in
    (back.0, sym (append-nil _) ∙ (ap (λ (z : List ℕ). flat_map sample_octets (samples_at n x 0) ++ z) (sym none) ∙ back.1))

-- four parts, one behind another
regroup : (whole a b c d : List ℕ) → whole ≡ a ++ (b ++ (c ++ d)) → whole ≡ ((a ++ b) ++ c) ++ d
regroup whole a b c d e = e ∙ (sym (append_assoc a b (c ++ d)) ∙ sym (append_assoc (a ++ b) c d))

-- the frames that are due
frames_back : (turn : Turn) (octets : List ℕ) → Wrote (turn_due turn) octets → FramesTail turn.version turn.left octets
unfolding capture_frame_octets front_octets
frames_back turn octets w =
    elim (cases_Bool (nat_eq turn.left 0)) [
      | inl e ↦
          let none : turn.left ≡ 0 = grind (arith, nat_tests) in
          let nothing : octets ≡ [] = subst (λ (s : CaptureState). Wrote s octets) (over_is turn none) w in
          record { frames = []; split = nothing; count = sym none; good = tt }
      | inr e ↦
          let some : 0 < turn.left = grind (arith, nat_tests) in
          let t : FrameTail turn (λ f. head_octets f.rate f.length) octets = subst (λ (s : CaptureState). Wrote s octets) (frame_is turn some) w in
          let f = t.frame in
          let head : List ℕ = head_octets f.rate f.length in
          let carriers : List ℕ = carriers_octets turn.version (carriers_of f.rate) f.erased f.triangles in
          let samples : List ℕ = flat_map sample_octets f.samples in
          let rest : List ℕ = frames_octets turn.version t.frames in
          record {
            frames = f ∷ t.frames;
            split = regroup octets head carriers samples rest t.split;
            count = let left = t.left in omega arith;
            good = (t.is_good, t.good);
          }
    ]

-- what leads to the end from its beginning
ended : (s : CaptureState) → IsEnd (capture_due s) → Wrote s []
ended (Symbol due present) e = absurd e
ended (Magic x xs) e = absurd e
ended Version e = absurd e
ended (Count version) e = absurd e
ended (Bandwidth turn) e = absurd e
ended (Mcs turn bandwidth) e = absurd e
ended (Length turn rate) e = absurd e
ended (Flag turn head carrier present) e = absurd e
ended (Triangle turn head carrier present) e = absurd e
ended Over e = refl

-- no subcarrier is left
none_by : (b : Bool) (carrier erased : ℕ) (octets : List ℕ) → octets ≡ carriers_by b 0 carrier erased [] ++ octets
none_by true carrier erased octets = refl
none_by false carrier erased octets = refl

no_carrier_left : (turn : Turn) (head : FrameHead) (carrier : ℕ) (present : List Present) (octets : List ℕ)
    → Gathered turn head carrier present → carrier ≡ carriers_of head.rate → 1 ≤ length present
    → SamplesTail (first_symbol turn head (length present)) octets → CarriersTail turn head carrier (length present) octets
no_carrier_left turn head carrier present octets g all some t =
    let symbols : t.symbols ≡ symbols_in head = let last = t.last in omega arith in
    let none : length present ≡ length present + length {A = List Leg} [] = omega arith in
    record {
      n = 0;
      all = omega (arith, all);
      erased = head.erased;
      triangles = [];
      samples = t.samples;
      frames = t.frames;
      split = t.split ∙ none_by (nat_eq turn.version 2) carrier head.erased _;
      below = λ i lt. refl;
      marks = subst (λ n. head.erased < 2 ^ n) all g.marks;
      whole = λ not. refl;
      present = refl;
      legs = tt;
      some = omega (arith, some, none);
      typed = t.typed;
      size = t.size ∙ (ap (λ n. n * (length present * streams_of head.rate)) symbols ∙ ap (λ n. symbols_in head * (n * streams_of head.rate)) none);
      left = t.left;
      good = t.good;
    }

-- a subcarrier that is present, in front of those behind it
kept_by : (b : Bool) (n carrier erased : ℕ) (legs : List Leg) (ts : List (List Leg)) → is_erased erased carrier ≡ false
    → carriers_by b (suc n) carrier erased (legs ∷ ts) ≡ ((if b then 0 ∷ [] else []) ++ legs_octets legs) ++ carriers_by b n (carrier + 1) erased ts
kept_by true n carrier erased legs ts clear =
    ap (λ (c : Bool). flagged c (legs ∷ ts) ++ flagged_octets n (carrier + 1) erased (triangles_behind c (legs ∷ ts))) clear
kept_by false n carrier erased legs ts clear = refl

kept_back : (turn : Turn) (head : FrameHead) (carrier seen : ℕ) (octets : List ℕ) → head.erased < 2 ^ carrier → TriangleTail turn head carrier seen octets
    → CarriersTail turn head carrier seen ((if nat_eq turn.version 2 then 0 ∷ [] else []) ++ octets)
kept_back turn head carrier seen octets low t =
    let tail = t.tail in
    let clear : is_erased tail.erased carrier ≡ false = tail.below carrier (omega arith) ∙ clear_above head.erased carrier low in
    let flag : List ℕ = if nat_eq turn.version 2 then 0 ∷ [] else [] in
    let legs : List ℕ = legs_octets t.legs in
    let later : List ℕ = carriers_by (nat_eq turn.version 2) tail.n (carrier + 1) tail.erased tail.triangles in
    let rest : List ℕ = flat_map sample_octets tail.samples ++ frames_octets turn.version tail.frames in
    let more : seen + 1 + length tail.triangles ≡ seen + suc (length tail.triangles) = omega arith in
    record {
      n = suc tail.n;
      all = let all = tail.all in omega arith;
      erased = tail.erased;
      triangles = t.legs ∷ tail.triangles;
      samples = tail.samples;
      frames = tail.frames;
      split = regroup (flag ++ octets) flag legs later rest (ap (λ (z : List ℕ). flag ++ z) (t.split ∙ ap (λ (z : List ℕ). legs ++ z) tail.split))
          ∙ ap (λ (z : List ℕ). z ++ rest) (sym (kept_by (nat_eq turn.version 2) tail.n carrier tail.erased t.legs tail.triangles clear));
      below = λ i lt. tail.below i (omega (arith, lt));
      marks = tail.marks;
      whole = tail.whole;
      present = ap suc tail.present ∙ (omega arith
          ∙ ap (λ (c : Bool). if c then present_among tail.n (carrier + 1) tail.erased else 1 + present_among tail.n (carrier + 1) tail.erased) (sym clear));
      legs = (t.streams, t.typed, tail.legs);
      some = omega (arith, more);
      typed = tail.typed;
      size = tail.size ∙ ap (λ n. symbols_in head * (n * streams_of head.rate)) more;
      left = tail.left;
      good = tail.good;
    }

plain_back : (turn : Turn) (head : FrameHead) (carrier seen : ℕ) (octets : List ℕ) → (turn.version ≡ 2 → ⊥)
    → head.erased < 2 ^ carrier → TriangleTail turn head carrier seen octets → CarriersTail turn head carrier seen octets
plain_back turn head carrier seen octets one low t =
    let no : nat_eq turn.version 2 ≡ false = grind (arith, nat_tests) in
    subst (λ (b : Bool). CarriersTail turn head carrier seen ((if b then 0 ∷ [] else []) ++ octets)) no (kept_back turn head carrier seen octets low t)

zero_back : (turn : Turn) (head : FrameHead) (carrier seen : ℕ) (octets : List ℕ) → turn.version ≡ 2
    → head.erased < 2 ^ carrier → TriangleTail turn head carrier seen octets → CarriersTail turn head carrier seen (0 ∷ octets)
zero_back turn head carrier seen octets two low t =
    let yes : nat_eq turn.version 2 ≡ true = grind (arith, nat_tests) in
    subst (λ (b : Bool). CarriersTail turn head carrier seen ((if b then 0 ∷ [] else []) ++ octets)) yes (kept_back turn head carrier seen octets low t)

-- a subcarrier that is erased, in front of those behind it
marked_by : (n carrier erased : ℕ) (ts : List (List Leg)) → is_erased erased carrier ≡ true
    → flagged_octets (suc n) carrier erased ts ≡ 1 ∷ flagged_octets n (carrier + 1) erased ts
marked_by n carrier erased ts set = ap (λ (c : Bool). flagged c ts ++ flagged_octets n (carrier + 1) erased (triangles_behind c ts)) set

with_flags : (b : Bool) (n carrier erased : ℕ) (ts : List (List Leg)) → b ≡ true → carriers_by b n carrier erased ts ≡ flagged_octets n carrier erased ts
with_flags b n carrier erased ts e = ap (λ (c : Bool). carriers_by c n carrier erased ts) e

one_back : (turn : Turn) (head : FrameHead) (carrier seen : ℕ) (octets : List ℕ) → turn.version ≡ 2
    → head.erased < 2 ^ carrier → CarriersTail turn (erase head carrier) (carrier + 1) seen octets
    → CarriersTail turn head carrier seen (1 ∷ octets)
unfolding erase
one_back turn head carrier seen octets two low tail =
    let yes : nat_eq turn.version 2 ≡ true = grind (arith, nat_tests) in
    let set : is_erased tail.erased carrier ≡ true = tail.below carrier (omega arith) ∙ set_now head.erased carrier low in
    let rest : List ℕ = flat_map sample_octets tail.samples ++ frames_octets turn.version tail.frames in
    record {
      n = suc tail.n;
      all = let all = tail.all in omega arith;
      erased = tail.erased;
      triangles = tail.triangles;
      samples = tail.samples;
      frames = tail.frames;
      split = ap (λ (z : List ℕ). 1 ∷ z) (tail.split ∙ ap (λ (z : List ℕ). z ++ rest) (with_flags _ tail.n (carrier + 1) tail.erased tail.triangles yes))
          ∙ ap (λ (z : List ℕ). z ++ rest)
          (sym (with_flags _ (suc tail.n) carrier tail.erased tail.triangles yes ∙ marked_by tail.n carrier tail.erased tail.triangles set));
      below = λ i lt. tail.below i (omega (arith, lt)) ∙ set_before head.erased carrier i lt;
      marks = tail.marks;
      whole = λ not. absurd (not two);
      present = tail.present ∙ ap (λ (c : Bool). if c then present_among tail.n (carrier + 1) tail.erased
          else 1 + present_among tail.n (carrier + 1) tail.erased) (sym set);
      legs = tail.legs;
      some = tail.some;
      typed = tail.typed;
      size = tail.size;
      left = tail.left;
      good = tail.good;
    }

-- the subcarriers from one on
carriers_back : (turn : Turn) (head : FrameHead) (carrier : ℕ) (present : List Present) (octets : List ℕ)
    → Gathered turn head carrier present → carrier ≤ carriers_of head.rate
    → (carrier ≡ carriers_of head.rate → 1 ≤ length present) → Wrote (carriers_due turn head carrier present) octets
    → CarriersTail turn head carrier (length present) octets
carriers_back turn head carrier present octets g within some w =
    by_carrier (λ (s : CaptureState). Wrote s octets → CarriersTail turn head carrier (length present) octets) turn head carrier present
    (λ le (tail : SamplesTail (first_symbol turn head (length present)) octets).
    let all : carrier ≡ carriers_of head.rate = omega (arith, le, within) in
    no_carrier_left turn head carrier present octets g all (some all) tail)
    (λ two (tail : turn.version ≡ 2 → CarriersTail turn head carrier (length present) octets). tail two)
    (λ one (tail : TriangleTail turn head carrier (length present) octets). plain_back turn head carrier (length present) octets one g.marks tail) w

-- the samples of a symbol
symbol_samples : (count streams : ℕ) (x : List ℕ) → 1 ≤ count → 1 ≤ streams → length x ≡ count * (8 * streams) - 1 + 1 → length x ≡ 8 * (count * streams)
symbol_samples count streams x some one size =
    let wide : 1 ≤ count * streams = many count streams some one in
    let all : count * (8 * streams) ≡ 8 * (count * streams) = omega arith in
    omega (arith, size, wide, all)

joined_samples : (here later : List Sample) (x rest frames : List ℕ) → flat_map sample_octets here ≡ x → rest ≡ flat_map sample_octets later ++ frames
    → x ++ rest ≡ flat_map sample_octets (here ++ later) ++ frames
joined_samples here later x rest frames is split =
    ap (λ (z : List ℕ). z ++ rest) (sym is)
    ∙ (ap (λ (z : List ℕ). flat_map sample_octets here ++ z) split
    ∙ (sym (append_assoc (flat_map sample_octets here) (flat_map sample_octets later) frames)
    ∙ ap (λ (z : List ℕ). z ++ frames) (sym (flat_map-append sample_octets here later))))

symbol_back : (due : SymbolTurn) (present : List Present) (x : List ℕ) → AtSymbol due present
    → AreBytes x → length x ≡ due.count * carrier_octets due.head.rate - 1 + 1
    → Back (Symbol due present) x (symbol_due (next_symbol due) present)
unfolding next_symbol next_turn
symbol_back due present x a bytes size rest w =
    let streams : ℕ = streams_of due.head.rate in
    let one : 1 ≤ due.count = let some = a.some in let count = a.count in omega arith in
    let wide : ℕ = due.count * streams in
    let long : length x ≡ 8 * wide = symbol_samples due.count streams x one (streams_of-range due.head.rate).0 size in
    let here : List Sample = samples_at wide x 0 in
    let back = samples_all wide x long bytes in
    let has : length here ≡ wide = length-samples_at wide x 0 in
    elim (cases_Bool (nat_lt (due.symbol + 1) due.symbols)) [
      | inl e ↦
          let lt : due.symbol + 1 < due.symbols = grind (arith, nat_tests) in
          let t : SamplesTail (next_symbol due) rest = subst (λ (s : CaptureState). Wrote s rest) (symbol_is_due (next_symbol due) present lt) w in
          let times : suc t.symbols * wide ≡ wide + t.symbols * wide = omega arith in
          record {
            samples = here ++ t.samples;
            frames = t.frames;
            split = joined_samples here t.samples x rest (frames_octets due.turn.version t.frames) back.1 t.split;
            typed = samples_append here t.samples back.0 t.typed;
            symbols = suc t.symbols;
            last = let last = t.last in omega arith;
            size = length-append here t.samples ∙ (ap (λ n. n + length t.samples) has ∙ (ap (λ n. wide + n) t.size ∙ sym times));
            left = t.left;
            good = t.good;
          }
      | inr e ↦
          let le : due.symbols ≤ due.symbol + 1 = grind (arith, nat_tests) in
          let t : FramesTail due.turn.version (due.turn.left - 1) rest =
          frames_back (next_turn (next_symbol due).turn) rest (subst (λ (s : CaptureState). Wrote s rest) (frame_is_due (next_symbol due) present le) w) in
          let once : 1 * wide ≡ wide = omega arith in
          record {
            samples = here;
            frames = t.frames;
            split = ap (λ (z : List ℕ). z ++ rest) (sym back.1) ∙ ap (λ (z : List ℕ). flat_map sample_octets here ++ z) t.split;
            typed = back.0;
            symbols = 1;
            last = let lt = a.symbol in omega (arith, le, lt);
            size = has ∙ sym once;
            left = t.count;
            good = t.good;
          }
    ]

-- the subcarriers of a whole frame
carriers_all : (b : Bool) (version n count erased : ℕ) (ts : List (List Leg)) → nat_eq version 2 ≡ b
    → n ≡ count → carriers_by b n 0 erased ts ≡ carriers_octets version count erased ts
unfolding carriers_octets
carriers_all true version n count erased ts is same =
    ap (λ k. flagged_octets k 0 erased ts) same ∙ ap (λ (c : Bool). if c then flagged_octets count 0 erased ts else flat_map legs_octets ts) (sym is)
carriers_all false version n count erased ts is same = ap (λ (c : Bool). if c then flagged_octets count 0 erased ts else flat_map legs_octets ts) (sym is)

-- a frame behind its head
frame_back : (turn : Turn) (rate : Rate) (len : ℕ) (x rest : List ℕ) → 1 ≤ len → len < 2 ^ 16
    → big_bytes 2 len ≡ x → CarriersTail turn (new_head turn rate len) 0 0 rest → Wrote (Length turn rate) (x ++ rest)
frame_back turn rate len x rest some small is t =
    let f : CaptureFrame = record { rate = rate; length = len; erased = t.erased; triangles = t.triangles; samples = t.samples } in
    let n_is : t.n ≡ carriers_of rate = let all = t.all in omega arith in
    let count : length t.triangles ≡ present_among (carriers_of rate) 0 t.erased = t.present ∙ ap (λ k. present_among k 0 t.erased) n_is in
    let none : 0 + length t.triangles ≡ present_among (carriers_of rate) 0 t.erased = let c = count in omega arith in
    let tail : FrameTail turn (λ f. big_bytes 2 f.length) (x ++ rest) = record {
      frame = f;
      frames = t.frames;
      split = ap (λ (z : List ℕ). z ++ rest) (sym is) ∙ ap (λ (z : List ℕ). big_bytes 2 len ++ z) (t.split
          ∙ ap (λ (z : List ℕ). z ++ (flat_map sample_octets t.samples ++ frames_octets turn.version t.frames))
          (carriers_all (nat_eq turn.version 2) turn.version t.n (carriers_of rate) t.erased t.triangles refl n_is));
      is_good = record {
        fits = record {
          some = some;
          marks = t.marks;
          present = let one = t.some in omega (arith, none, one);
          triangles = count;
          streams = typed_all (streams_of rate) t.triangles t.legs;
          samples = t.size ∙ ap (λ k. symbols_in (new_head turn rate len) * (k * streams_of rate)) none;
        };
        typed = record { length_is = small; triangles = t.legs; samples = t.typed };
        whole = t.whole;
      };
      left = t.left;
      good = t.good;
    } in
    (tail, refl)

-- an octet of the magic
magic_back : (y : ℕ) (ys x : List ℕ) → x ≡ y ∷ [] → Back (Magic y ys) x (capture_magic_due ys)
magic_back y [] x is rest w = (rest, ap (λ (z : List ℕ). z ++ rest) is, w)
magic_back y (z ∷ zs) x is rest w = (w.0, ap (λ (o : List ℕ). o ++ rest) is ∙ ap (λ (o : List ℕ). y ∷ o) w.1, w.2)

count_back : (version : ℕ) (x : List ℕ) → length x ≡ 2 → AreBytes x
    → Back (Count version) x (turn_due (record { version = version; left = big_number 2 x; frame = 0; number = 0 }))
count_back version x size bytes rest w =
    let both = pair x size bytes in
    let t = frames_back (record { version = version; left = big_number 2 x; frame = 0; number = 0 }) rest w in
    record {
      frames = t.frames;
      split = ap (λ (z : List ℕ). z ++ rest) (sym (ap (big_bytes 2) t.count ∙ both.1)) ∙ ap (λ (z : List ℕ). big_bytes 2 (length t.frames) ++ z) t.split;
      few = subst (λ n. n < 2 ^ 16) (sym t.count) both.0;
      good = t.good;
    }

length_back : (turn : Turn) (rate : Rate) (x : List ℕ) → length x ≡ 2 → AreBytes x → 1 ≤ big_number 2 x
    → Back (Length turn rate) x (carriers_due turn (new_head turn rate (big_number 2 x)) 0 [])
length_back turn rate x size bytes some rest w =
    let both = pair x size bytes in
    let wide : 56 ≤ carriers_of rate = (carriers_of-range rate).0 in
    let none : 0 ≡ carriers_of rate → 1 ≤ length {A = Present} [] = λ e. absurd (omega (arith, e, wide)) in
    frame_back turn rate (big_number 2 x) x rest some both.0 both.1
    (carriers_back turn (new_head turn rate (big_number 2 x)) 0 [] rest (first_gathered turn rate (big_number 2 x) some) (omega arith) none w)

mcs_back : (turn : Turn) (bandwidth mcs : ℕ) (x : List ℕ) → x ≡ mcs ∷ [] → mcs ≤ 31 → Back (Mcs turn bandwidth) x (Length turn (rate_at bandwidth mcs))
mcs_back turn bandwidth mcs x is few rest w =
    let t = w.0 in
    let index : mcs_of t.frame.rate ≡ mcs = ap mcs_of w.1 ∙ rate_at-mcs bandwidth mcs (omega (arith, few)) in
    let tail : FrameTail turn (λ f. mcs_of f.rate ∷ big_bytes 2 f.length) (x ++ rest) = record {
      frame = t.frame;
      frames = t.frames;
      split = ap (λ (z : List ℕ). z ++ rest) is ∙ (ap (λ (k : ℕ). k ∷ rest) (sym index) ∙ ap (λ (z : List ℕ). mcs_of t.frame.rate ∷ z) t.split);
      is_good = t.is_good;
      left = t.left;
      good = t.good;
    } in
    (tail, λ low. ap (λ (r : Rate). bandwidth_code (bandwidth_of r)) w.1 ∙ rate_at-bandwidth bandwidth mcs (omega (arith, low)))

bandwidth_back : (turn : Turn) (bandwidth : ℕ) (x : List ℕ) → x ≡ bandwidth ∷ [] → bandwidth ≤ 1 → Back (Bandwidth turn) x (Mcs turn bandwidth)
bandwidth_back turn bandwidth x is low rest w =
    let t = w.0 in
    let code : bandwidth_code (bandwidth_of t.frame.rate) ≡ bandwidth = w.1 low in
    record {
      frame = t.frame;
      frames = t.frames;
      split = ap (λ (z : List ℕ). z ++ rest) is
          ∙ (ap (λ (k : ℕ). k ∷ rest) (sym code) ∙ ap (λ (z : List ℕ). bandwidth_code (bandwidth_of t.frame.rate) ∷ z) t.split);
      is_good = t.is_good;
      left = t.left;
      good = t.good;
    }

-- a flag that isn't 0
one_flag : (turn : Turn) (head : FrameHead) (carrier : ℕ) (present : List Present) (x : List ℕ)
    → Gathered turn head carrier present → carrier < carriers_of head.rate
    → length x ≡ 1 → (nat_eq (octet_of x) 0 ≡ false) → bad_flag head carrier (length present) (octet_of x) ≡ false
    → Back (Flag turn head carrier present) x (carriers_due turn (erase head carrier) (carrier + 1) present)
unfolding erase
one_flag turn head carrier present x g lt size other fine rest w two =
    let positive : 1 ≤ octet_of x = grind (arith, nat_tests) in
    let one : octet_of x ≡ 1 = only_one head carrier (length present) (octet_of x) (sym fine) positive in
    let is : x ≡ 1 ∷ [] = single x size ∙ ap (λ (k : ℕ). k ∷ []) one in
    let some : carrier + 1 ≡ carriers_of head.rate → 1 ≤ length present = λ last. some_left head carrier (length present) (octet_of x) (sym fine) last in
    let tail : CarriersTail turn (erase head carrier) (carrier + 1) (length present) rest =
    carriers_back turn (erase head carrier) (carrier + 1) present rest (erased_more turn head carrier present g) (omega (arith, lt)) some w in
    subst (λ (z : List ℕ). CarriersTail turn head carrier (length present) (z ++ rest))
    (sym is) (one_back turn head carrier (length present) rest two g.marks tail)

zero_flag : (turn : Turn) (head : FrameHead) (carrier : ℕ) (present : List Present) (x : List ℕ)
    → Gathered turn head carrier present → length x ≡ 1 → nat_eq (octet_of x) 0 ≡ true
    → Back (Flag turn head carrier present) x (Triangle turn head carrier present)
zero_flag turn head carrier present x g size same rest w two =
    let zero_is : octet_of x ≡ 0 = grind (arith, nat_tests) in
    let is : x ≡ 0 ∷ [] = single x size ∙ ap (λ (k : ℕ). k ∷ []) zero_is in
    subst (λ (z : List ℕ). CarriersTail turn head carrier (length present) (z ++ rest))
    (sym is) (zero_back turn head carrier (length present) rest two g.marks w)

whole_width : (n len : ℕ) → 1 ≤ n → len ≡ triangle_octets n - 1 + 1 → len ≡ triangle_octets n
whole_width zero len some size = absurd (omega arith)
whole_width (suc n) len some size = let square : suc n * suc n ≡ n * n + 2 * n + 1 = omega arith in omega (arith, size, square)

-- a triangle
triangle_field : (turn : Turn) (head : FrameHead) (carrier : ℕ) (present : List Present) (x : List ℕ)
    → Gathered turn head carrier present → carrier < carriers_of head.rate → AreBytes x
    → length x ≡ triangle_octets (streams_of head.rate) - 1 + 1
    → Back (Triangle turn head carrier present) x (carriers_due turn head (carrier + 1) (present ++ present_at head carrier x ∷ []))
triangle_field turn head carrier present x g lt bytes size rest w =
    let streams : ℕ = streams_of head.rate in
    let p : Present = present_at head carrier x in
    let long : length x ≡ triangle_octets streams = whole_width streams (length x) (streams_of-range head.rate).0 size in
    let back = triangle_back streams x long bytes in
    let rows : length (triangle_of streams x) ≡ streams = length-triangle_of streams x _ refl in
    let grown : length (present ++ p ∷ []) ≡ length present + 1 = length-append present (p ∷ []) in
    let some : carrier + 1 ≡ carriers_of head.rate → 1 ≤ length (present ++ p ∷ []) = λ last. omega (arith, grown) in
    let tail : CarriersTail turn head (carrier + 1) (length (present ++ p ∷ [])) rest =
    carriers_back turn head (carrier + 1) (present ++ p ∷ []) rest (seen_more turn head carrier present p g refl rows) (omega (arith, lt)) some w in
    record {
      legs = triangle_of streams x;
      rest = rest;
      split = ap (λ (z : List ℕ). z ++ rest) (sym back.1);
      streams = rows;
      typed = back.0;
      tail = subst (λ n. CarriersTail turn head (carrier + 1) n rest) grown tail;
    }

same_test : (a b : ℕ) → nat_eq a b ≡ true → a ≡ b
same_test a b e = grind (arith, nat_tests)

at_most : (a b : ℕ) → nat_lt a b ≡ false → b ≤ a
at_most a b e = grind (arith, nat_tests)

not_none : (a : ℕ) → nat_eq a 0 ≡ false → 1 ≤ a
not_none a e = grind (arith, nat_tests)

-- each good field
back : (s next : CaptureState) (x : List ℕ) (here : List Item) → Sound s → AreBytes x → IsField (capture_due s) x (Good next here) → Back s x next
unfolding judge_magic judge_version judge_count judge_bandwidth judge_mcs judge_length judge_flag judge_triangle judge_symbol
back (Magic y ys) next x here sound bytes good =
    good_then (λ n i. Back (Magic y ys) x n) (nat_eq (octet_of x) y) _ (capture_magic_due ys) next [] here good.1
    (λ e. magic_back y ys x (single x good.0 ∙ ap (λ (k : ℕ). k ∷ []) (same_test (octet_of x) y e)))
back Version next x here sound bytes good =
    good_then (λ n i. Back Version x n) (known_version (octet_of x)) _ (Count (octet_of x)) next [] here good.1
    (λ e rest w. (octet_of x, rest, ap (λ (z : List ℕ). z ++ rest) (single x good.0), e, w))
back (Count version) next x here sound bytes good =
    good_is (λ n i. Back (Count version) x n) _ next [] here good.1 (count_back version x good.0 bytes)
back (Bandwidth turn) next x here sound bytes good =
    good_else (λ n i. Back (Bandwidth turn) x n) (nat_lt 1 (octet_of x)) _ (Mcs turn (octet_of x)) next [] here good.1
    (λ e. bandwidth_back turn (octet_of x) x (single x good.0) (at_most 1 (octet_of x) e))
back (Mcs turn bandwidth) next x here sound bytes good =
    good_else (λ n i. Back (Mcs turn bandwidth) x n) (nat_lt 31 (octet_of x)) _ (Length turn (rate_at bandwidth (octet_of x))) next [] here good.1
    (λ e. mcs_back turn bandwidth (octet_of x) x (single x good.0) (at_most 31 (octet_of x) e))
back (Length turn rate) next x here sound bytes good =
    good_else (λ n i. Back (Length turn rate) x n) (nat_eq (big_number 2 x) 0) _
    (carriers_due turn (new_head turn rate (big_number 2 x)) 0 []) next [] here good.1
    (λ e. length_back turn rate x good.0 bytes (not_none (big_number 2 x) e))
back (Flag turn head carrier present) next x here sound bytes good =
    good_of_two (λ n i. Back (Flag turn head carrier present) x n) (nat_eq (octet_of x) 0)
    (bad_flag head carrier (length present) (octet_of x)) _ (Triangle turn head carrier present)
    (carriers_due turn (erase head carrier) (carrier + 1) present) next [] _ here good.1
    (λ e. zero_flag turn head carrier present x sound.0 good.0 e)
    (λ e fine. one_flag turn head carrier present x sound.0 sound.1 good.0 e fine)
back (Triangle turn head carrier present) next x here sound bytes good =
    good_is (λ n i. Back (Triangle turn head carrier present) x n) _ next _ here good.1
    (triangle_field turn head carrier present x sound.0 sound.1 bytes good.0)
back (Symbol due present) next x here sound bytes good =
    good_is (λ n i. Back (Symbol due present) x n) _ next _ here good.1 (symbol_back due present x sound bytes good.0)
back Over next x here sound bytes good = absurd good

-- all good fields up to the end
wrote : (fields : List (List ℕ)) (s t : CaptureState) (items : List Item) → Sound s → AreBytes (octets_of_fields fields)
    → Leads captures s fields items t → IsEnd (capture_due t) → Wrote s (octets_of_fields fields)
wrote [] s t items sound bytes leads end = ended s (subst (λ (z : CaptureState). IsEnd (capture_due z)) (sym leads.1) end)
wrote (x ∷ xs) s t items sound bytes leads end =
    let next : CaptureState = leads.0 in
    back s next x leads.1 sound (bytes_front x (octets_of_fields xs) bytes) leads.3 (octets_of_fields xs)
    (wrote xs next t leads.2 (step s next t x leads.1 sound leads.3).0 (bytes_behind x (octets_of_fields xs) bytes) leads.4 end)

-- frames that can stand in a capture
frames_fit : (version : ℕ) (fs : List CaptureFrame) → AllByRecursion (GoodFrame version) fs → AllByRecursion FitsFrame fs
frames_fit version [] good = tt
frames_fit version (f ∷ fs) good = (good.0.fits, frames_fit version fs good.1)

frames_typed : (version : ℕ) (fs : List CaptureFrame) → AllByRecursion (GoodFrame version) fs → AreTyped fs
frames_typed version [] good = tt
frames_typed version (f ∷ fs) good = (good.0.typed, frames_typed version fs good.1)

frames_whole : (version : ℕ) (fs : List CaptureFrame) → (version ≡ 2 → ⊥) → AllByRecursion (GoodFrame version) fs → AreWhole fs
frames_whole version [] one good = tt
frames_whole version (f ∷ fs) one good = (good.0.whole one, frames_whole version fs one good.1)

or_left : (a b : Bool) → b ≡ false → (a || b) ≡ true → a ≡ true
or_left true b e known = refl
or_left false b e known = cc

version_of : (version : ℕ) (fs : List CaptureFrame) → known_version version ≡ true → AllByRecursion (GoodFrame version) fs → IsVersion version fs
version_of version fs known good =
    elim (cases_Bool (nat_eq version 2)) [
      | inl e ↦ inr (same_test version 2 e)
      | inr e ↦
          let one : nat_eq version 1 ≡ true = or_left (nat_eq version 1) (nat_eq version 2) e known in
          let is : version ≡ 1 = same_test version 1 one in
          inl (is, frames_whole version fs (λ two. absurd (omega (arith, is, two))) good)
    ]

-- The octets of a capture are those that are written of its frames.
pub file_back : (octets : List ℕ) (items : List Item) → AreBytes octets → IsFile captures octets items
    → (version : ℕ) × (frames : List CaptureFrame) × IsFileOf version frames octets items
unfolding capture_file_of start_octets
file_back octets items bytes file =
    let reaches = file.2 in
    let all : octets ≡ octets_of_fields reaches.fields = reaches.split ∙ append-nil (octets_of_fields reaches.fields) in
    let w = wrote reaches.fields captures.start file.1 items tt (subst AreBytes all bytes) reaches.good file.3 in
    let tail : VersionTail w.0 = w.2 in
    let version : ℕ = tail.0 in
    let count : CountTail version tail.1 = tail.4 in
    let split : octets ≡ (capture_magic ++ (version ∷ big_bytes 2 (length count.frames))) ++ frames_octets version count.frames =
    all ∙ (w.1 ∙ ap (λ (z : List ℕ). capture_magic ++ z) (tail.2 ∙ ap (λ (z : List ℕ). version ∷ z) count.split)) in
    let fit : AreCaptureFrames count.frames =
    record { few = let few = count.few in omega arith; fit = All-from_recursion _ count.frames (frames_fit version count.frames count.good) } in
    let typed = frames_typed version count.frames count.good in
    let is_version = version_of version count.frames tail.3 count.good in (
      version,
      count.frames,
      record {
        file = split;
        shown = file_items captures octets items (items_of count.frames) file
            (subst (λ (o : List ℕ). IsFile captures o (items_of count.frames)) (sym split) (file_written version count.frames fit typed is_version));
        fit = fit;
        typed = typed;
        allowed = is_version;
      },
    )
