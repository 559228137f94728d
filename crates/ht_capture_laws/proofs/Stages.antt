-- Field by field through a capture: what each good field gives, and in which state it leaves.
use Rattle.std.proofs.Common.{◌≡◌, inl, inr, ℕ, suc, ◌+◌, ◌<◌, ◌≤◌, ◌^◌, List, [], ◌∷◌, ◌++◌, length, map, not, nat_eq}
use Rattle.std.proofs.Common.{nat_lt, Bool, true, false, if◌then◌else◌, refl, sym, ap, subst, ◌∙◌, append_assoc, length-append, arith}
use Rattle.std.proofs.lemmas.Bool.{cases_Bool}
use Rattle.std.proofs.lemmas.Bool.Decides.{nat_tests}
use Rattle.std.proofs.lemmas.List.{append-nil, map-append, length-map}
use Rattle.std.proofs.lemmas.List.Elements.{filter-append}
use Rattle.std.specs.Int.Bits.{bit_or}
use Rattle.std.specs.List.{filter, range_with_len}
use Rattle.byteorder.specs.Endian.{big_number}
use Rattle.ht_io.specs.declared.faults.Kind.{Kind}
use Rattle.ht_fields.specs.Grammar.{Good, Bad}
use Rattle.ht_fields.specs.Cases.{IsField, Leads}
use Rattle.ht_rate.specs.declared.rates.Rate.{Rate}
use Rattle.ht_rate.specs.Rates.{rate_at, carriers_of, streams_of}
use Rattle.ht_rate.proofs.RateFacts.{carriers_of-range}
use Rattle.ht_metric.specs.Jobs.{JobView}
use Rattle.ht_capture.specs.declared.items.FrameHead.{FrameHead}
use Rattle.ht_capture.specs.declared.items.Item.{Item}
use Rattle.ht_capture.specs.declared.items.Item.TheVariants.{Frame, Job}
use Rattle.ht_capture.specs.declared.places.Present.{Present}
use Rattle.ht_capture.specs.declared.places.SymbolTurn.{SymbolTurn}
use Rattle.ht_capture.specs.declared.places.Turn.{Turn}
use Rattle.ht_capture.specs.Files.{is_erased}
use Rattle.ht_capture.specs.Frames.{erase, jobs_at}
use Rattle.ht_capture.specs.Fields.{CaptureState, Magic, Version, Count, Bandwidth, Mcs, Length, Flag, Triangle, Symbol, Over, captures}
use Rattle.ht_capture.specs.Fields.{carriers_due, first_symbol, turn_due, head_given, judge_bandwidth, judge_count, judge_flag}
use Rattle.ht_capture.specs.Fields.{judge_length, judge_magic, judge_mcs, judge_symbol, judge_triangle, judge_version, bad_flag}
use Rattle.ht_capture.specs.Fields.{capture_magic_due, new_head, next_symbol, next_turn, present_at, symbol_due}
use Rattle.ht_capture.proofs.Marks.{clear_above, or_above, set_before, set_now, twice}
use Rattle.ht_capture.proofs.Grids.{length-triangle_of}
use Rattle.ht_capture.proofs.Judges.{some_left}
use Rattle.ht_capture.proofs.Filed.{some_symbols}
use Rattle.ht_capture.proofs.Turns.{flag_is, frame_is, none_given as no_head, one_given as head_is_given, over_is, symbol_is, triangle_is}
use Rattle.ht_capture.proofs.Endings.{frame_is_due, symbol_is_due}
use Rattle.ht_capture_laws.specs.Items.{FrameJobs, IsHead, carriers_in, present_below, symbols_in}
use Rattle.ht_capture_laws.proofs.Lists.{all_append, filter_range, range_append}
use Rattle.ht_capture_laws.proofs.Given.{AreJobs, AtSymbol, Frames, Gathered, Gives, Sound, Step, Symbols}
use Rattle.ht_capture_laws.proofs.Given.{jobs_are, jobs_more, length-views, none_given, views_at, views_good}
use Rattle.ht_fields.specs.Tests.{octet_of}

-- what holds of the one good verdict holds of the state and the items that it names
pub good_is : (P : CaptureState → List Item → Type 0) (n next : CaptureState) (i here : List Item) → Good n i ≡ Good next here → P n i → P next here
good_is P n next i here e p =
    let a : n ≡ next = cc in
    let b : i ≡ here = cc in
    subst (λ (z : CaptureState). P z here) a (subst (λ (z : List Item). P n z) b p)

pub good_else : (P : CaptureState → List Item → Type 0) (b : Bool) (kind : Kind) (n next : CaptureState) (i here : List Item)
    → (if b then Bad kind else Good n i) ≡ Good next here → (b ≡ false → P n i) → P next here
good_else P true kind n next i here e p = absurd cc
good_else P false kind n next i here e p = good_is P n next i here e (p refl)

pub good_then : (P : CaptureState → List Item → Type 0) (b : Bool) (kind : Kind) (n next : CaptureState) (i here : List Item)
    → (if b then Good n i else Bad kind) ≡ Good next here → (b ≡ true → P n i) → P next here
good_then P true kind n next i here e p = good_is P n next i here e (p refl)
good_then P false kind n next i here e p = absurd cc

pub good_of_two : (P : CaptureState → List Item → Type 0) (a b : Bool) (kind : Kind) (n m next : CaptureState) (i j here : List Item)
    → (if a then Good n i else (if b then Bad kind else Good m j)) ≡ Good next here
    → (a ≡ true → P n i) → (a ≡ false → b ≡ false → P m j) → P next here
good_of_two P true b kind n m next i j here e p q = good_is P n next i here e (p refl)
good_of_two P false b kind n m next i j here e p q = good_else P b kind m next j here e (q refl)

-- the frames that are due
frames_sound : (turn : Turn) → Sound (turn_due turn)
frames_sound turn =
    elim (cases_Bool (nat_eq turn.left 0)) [
      | inl t ↦ let none : turn.left ≡ 0 = grind (arith, nat_tests) in subst Sound (sym (over_is turn none)) tt
      | inr f ↦ let some : 0 < turn.left = grind (arith, nat_tests) in subst Sound (sym (frame_is turn some)) tt
    ]

frames_given : (turn : Turn) (t : CaptureState) (items : List Item) → Gives (turn_due turn) t items → Frames t turn.frame turn.number items
frames_given turn t items g =
    elim (cases_Bool (nat_eq turn.left 0)) [
      | inl e ↦
          let none : turn.left ≡ 0 = grind (arith, nat_tests) in
          let no_item : items ≡ [] = subst (λ (s : CaptureState). Gives s t items) (over_is turn none) g in
          ([], no_item, tt)
      | inr e ↦
          let some : 0 < turn.left = grind (arith, nat_tests) in subst (λ (s : CaptureState). Gives s t items) (frame_is turn some) g
    ]

-- the subcarriers from one on
carriers_sound : (turn : Turn) (head : FrameHead) (carrier : ℕ) (present : List Present) → Gathered turn head carrier present → carrier ≤ carriers_of head.rate
    → (carrier ≡ carriers_of head.rate → 1 ≤ length present) → Sound (carriers_due turn head carrier present)
carriers_sound turn head carrier present g within some =
    elim (cases_Bool (nat_lt carrier (carriers_of head.rate))) [
      | inl e ↦
          let lt : carrier < carriers_of head.rate = grind (arith, nat_tests) in
          elim (cases_Bool (nat_eq turn.version 2)) [
            | inl v ↦ let two : turn.version ≡ 2 = grind (arith, nat_tests) in subst Sound (sym (flag_is turn head carrier present lt two)) (g, lt)
            | inr v ↦ let one : turn.version ≡ 2 → ⊥ = λ z. grind (arith, nat_tests) in subst Sound (sym (triangle_is turn head carrier present lt one)) (g, lt)
          ]
      | inr e ↦
          let le : carriers_of head.rate ≤ carrier = grind (arith, nat_tests) in
          let all : carrier ≡ carriers_of head.rate = omega (arith, le, within) in
          subst Sound (sym (symbol_is turn head carrier present le))
          (record {
            gathered = subst (λ (n : ℕ). Gathered turn head n present) all g;
            some = some all;
            count = refl;
            symbols = refl;
            symbol = some_symbols head.rate head.length;
          })
    ]

head_of_all : (turn : Turn) (head : FrameHead) (present : List Present) → Gathered turn head (carriers_of head.rate) present → 1 ≤ length present → IsHead head
head_of_all turn head present g some = record {
  some = g.some;
  symbols = some_symbols head.rate head.length;
  present = let size : length (carriers_in head) ≡ length present = ap length (sym g.carriers) ∙ length-map present (λ (p : Present). p.carrier) in
      omega (arith, size, some);
  marks = g.marks;
}

-- a head, and the jobs behind it
headed : (turn : Turn) (head : FrameHead) (present : List Present) (t : CaptureState) (rest : List Item)
    → Gathered turn head (carriers_of head.rate) present → 1 ≤ length present
    → Symbols t (first_symbol turn head (length present)) rest → Frames t turn.frame turn.number (Frame head ∷ rest)
headed turn head present t rest g some r =
    let f : FrameJobs = record { head = head; jobs = r.jobs } in
    elim r.behind [
      | inl last ↦
          let all : r.count ≡ symbols_in head = omega (arith, last.0) in
          let fs = last.1 in (
            f ∷ fs.0,
            ap (λ (z : List Item). Frame head ∷ z) (r.all ∙ ap (λ (z : List Item). map Job r.jobs ++ z) fs.1),
            inl (
              record { named = g.named; head = head_of_all turn head present g some; jobs = subst (λ (n : ℕ). AreJobs head turn.number 0 n r.jobs) all r.good },
              fs.2,
            ),
          )
      | inr cut ↦
          let few : r.count < symbols_in head = let lt = cut.0 in omega arith in (
            f ∷ [],
            ap (λ (z : List Item). Frame head ∷ z) (r.all ∙ ap (λ (z : List Item). map Job r.jobs ++ z) cut.1),
            inr (r.count, few, record { named = g.named; head = head_of_all turn head present g some; jobs = r.good }, refl, cut.2),
          )
    ]

carriers_given : (turn : Turn) (head : FrameHead) (carrier : ℕ) (present : List Present) (t : CaptureState) (rest : List Item)
    → Gathered turn head carrier present → carrier ≤ carriers_of head.rate
    → (carrier ≡ carriers_of head.rate → 1 ≤ length present) → Gives (carriers_due turn head carrier present) t rest
    → Frames t turn.frame turn.number (head_given head carrier ++ rest)
carriers_given turn head carrier present t rest g within some gives =
    elim (cases_Bool (nat_lt carrier (carriers_of head.rate))) [
      | inl e ↦
          let lt : carrier < carriers_of head.rate = grind (arith, nat_tests) in
          subst (λ (z : List Item). Frames t turn.frame turn.number (z ++ rest)) (sym (no_head head carrier lt))
          (elim (cases_Bool (nat_eq turn.version 2)) [
            | inl v ↦ let two : turn.version ≡ 2 = grind (arith, nat_tests) in
                subst (λ (s : CaptureState). Gives s t rest) (flag_is turn head carrier present lt two) gives
            | inr v ↦ let one : turn.version ≡ 2 → ⊥ = λ z. grind (arith, nat_tests) in
                subst (λ (s : CaptureState). Gives s t rest) (triangle_is turn head carrier present lt one) gives
          ])
      | inr e ↦
          let le : carriers_of head.rate ≤ carrier = grind (arith, nat_tests) in
          let all : carrier ≡ carriers_of head.rate = omega (arith, le, within) in
          let symbols : Symbols t (first_symbol turn head (length present)) rest =
          subst (λ (s : CaptureState). Gives s t rest) (symbol_is turn head carrier present le) gives in
          subst (λ (z : List Item). Frames t turn.frame turn.number (z ++ rest)) (sym (head_is_given head carrier le))
          (headed turn head present t rest (subst (λ (n : ℕ). Gathered turn head n present) all g) (some all) symbols)
    ]

-- one subcarrier more that is present
below_more : (n e : ℕ) → present_below (n + 1) e ≡ present_below n e ++ (if not (is_erased e n) then n ∷ [] else [])
below_more n e =
    let test : ℕ → Bool = λ carrier. not (is_erased e carrier) in
    let place : 0 + n ≡ n = omega arith in
    ap (filter test) (range_append 0 n 1 ∙ ap (λ (k : ℕ). range_with_len 0 n ++ k ∷ []) place)
    ∙ filter-append test (range_with_len 0 n) (n ∷ [])

pub seen_more : (turn : Turn) (head : FrameHead) (carrier : ℕ) (present : List Present) (p : Present)
    → Gathered turn head carrier present → p.carrier ≡ carrier → length p.triangle ≡ streams_of head.rate
    → Gathered turn head (carrier + 1) (present ++ p ∷ [])
seen_more turn head carrier present p g is legs = record {
  named = g.named;
  some = g.some;
  marks = let low = g.marks in let more = twice carrier in omega arith;
  carriers = map-append (λ (q : Present). q.carrier) present (p ∷ [])
      ∙ (ap (λ (z : List ℕ). z ++ p.carrier ∷ []) g.carriers
      ∙ (ap (λ (k : ℕ). present_below carrier head.erased ++ k ∷ []) is
      ∙ (ap (λ (b : Bool). present_below carrier head.erased ++ (if not b then carrier ∷ [] else [])) (sym (clear_above head.erased carrier g.marks))
      ∙ sym (below_more carrier head.erased))));
  legs = all_append (λ (q : Present). length q.triangle ≡ streams_of head.rate) present (p ∷ []) g.legs (legs, tt);
}

pub erased_more : (turn : Turn) (head : FrameHead) (carrier : ℕ) (present : List Present)
    → Gathered turn head carrier present → Gathered turn (erase head carrier) (carrier + 1) present
unfolding erase
erased_more turn head carrier present g =
    let e = head.erased in
    let now = bit_or e (2 ^ carrier) in record {
      named = g.named;
      some = g.some;
      marks = let low = g.marks in let more = twice carrier in let sum = or_above e carrier g.marks in omega arith;
      carriers = g.carriers
          ∙ (filter_range (λ k. not (is_erased e k)) (λ k. not (is_erased now k)) 0 carrier (λ i lt. ap not (sym (set_before e carrier i (omega (arith, lt)))))
          ∙ (sym (append-nil (present_below carrier now))
          ∙ (ap (λ (b : Bool). present_below carrier now ++ (if not b then carrier ∷ [] else [])) (sym (set_now e carrier g.marks))
          ∙ sym (below_more carrier now))));
      legs = g.legs;
    }

-- the jobs of a symbol, and what comes behind them
symbol_given : (t : CaptureState) (due : SymbolTurn) (present : List Present) (octets : List ℕ) → AtSymbol due present
    → Step (Symbol due present) t (symbol_due (next_symbol due) present) (jobs_at due.head due.symbol due.turn.number present octets 0)
unfolding next_symbol next_turn
symbol_given t due present octets a =
    let jobs : List JobView = views_at due.head due.symbol due.turn.number present octets 0 in
    let size : length jobs ≡ due.count = length-views due.head due.symbol due.turn.number present octets 0 ∙ sym a.count in
    let good : AreJobs due.head due.turn.number due.symbol 1 jobs = views_good due.turn due.head due.symbol due.turn.number present octets a.gathered in
    let are : jobs_at due.head due.symbol due.turn.number present octets 0 ≡ map Job jobs =
    jobs_are due.head due.symbol due.turn.number present octets 0 in
    elim (cases_Bool (nat_lt (due.symbol + 1) due.symbols)) [
      | inl e ↦
          let lt : due.symbol + 1 < due.symbols = grind (arith, nat_tests) in
          let next_is : symbol_due (next_symbol due) present ≡ Symbol (next_symbol due) present = symbol_is_due (next_symbol due) present lt in (
            subst Sound (sym next_is) (record {
              gathered = record {
                named = a.gathered.named;
                some = a.gathered.some;
                marks =
                    a.gathered.marks;
                carriers = a.gathered.carriers;
                legs = a.gathered.legs;
              };
              some = a.some;
              count = a.count;
              symbols = a.symbols;
              symbol = lt;
            }),
            λ rest gives.
                let r : Symbols t (next_symbol due) rest = subst (λ (s : CaptureState). Gives s t rest) next_is gives in
                let from : due.turn.number + due.count ≡ due.turn.number + length jobs = ap (λ n. due.turn.number + n) (sym size) in
                let place : due.symbol + 1 + r.count ≡ due.symbol + suc r.count = omega arith in
                let back : AreJobs due.head (due.turn.number + length jobs) (due.symbol + 1) r.count r.jobs =
                subst (λ (n : ℕ). AreJobs due.head n (due.symbol + 1) r.count r.jobs) from r.good in
                let total : due.turn.number + due.count + length r.jobs ≡ due.turn.number + length (jobs ++ r.jobs) =
                omega (arith, from, length-append jobs r.jobs) in
                record {
                  jobs = jobs ++ r.jobs;
                  later = r.later;
                  count = suc r.count;
                  all = ap (λ (z : List Item). z ++ rest) are ∙ (ap (λ (z : List Item). map Job jobs ++ z) r.all
                      ∙ (sym (append_assoc (map Job jobs) (map Job r.jobs) r.later) ∙ ap (λ (z : List Item). z ++ r.later) (sym (map-append Job jobs r.jobs))));
                  good = jobs_more due.head due.turn.number due.symbol r.count jobs r.jobs good back;
                  behind = elim r.behind [
                    | inl last ↦ inl (sym place ∙ last.0, subst (λ (n : ℕ). Frames t (due.turn.frame + 1) n r.later) total last.1)
                    | inr cut ↦ inr (let few = cut.0 in omega arith, cut.1, cut.2)
                  ];
                },
          )
      | inr e ↦
          let le : due.symbols ≤ due.symbol + 1 = grind (arith, nat_tests) in
          let next_is : symbol_due (next_symbol due) present ≡ turn_due (next_turn (next_symbol due).turn) = frame_is_due (next_symbol due) present le in (
            subst Sound (sym next_is) (frames_sound (next_turn (next_symbol due).turn)),
            λ rest gives.
                let fs : Frames t (due.turn.frame + 1) (due.turn.number + due.count) rest =
                frames_given (next_turn (next_symbol due).turn) t rest (subst (λ (s : CaptureState). Gives s t rest) next_is gives) in
                record {
                  jobs = jobs;
                  later = rest;
                  count = 1;
                  all = ap (λ (z : List Item). z ++ rest) are;
                  good = good;
                  behind = inl (
                    let lt = a.symbol in
                        omega (arith, le, lt),
                    subst (λ (n : ℕ). Frames t (due.turn.frame + 1) (due.turn.number + n) rest) (sym size) fs,
                  );
                },
          )
    ]

-- the first subcarrier is due
pub first_gathered : (turn : Turn) (rate : Rate) (len : ℕ) → 1 ≤ len → Gathered turn (new_head turn rate len) 0 []
first_gathered turn rate len some = record { named = refl; some = some; marks = omega arith; carriers = refl; legs = tt }

magic_step : (xs : List ℕ) (t : CaptureState) (x : ℕ) → Step (Magic x xs) t (capture_magic_due xs) []
magic_step [] t x = (tt, λ rest gives. gives)
magic_step (y ∷ ys) t x = (tt, λ rest gives. gives)

length_step : (turn : Turn) (rate : Rate) (t : CaptureState) (len : ℕ) → 1 ≤ len
    → Step (Length turn rate) t (carriers_due turn (new_head turn rate len) 0 []) []
length_step turn rate t len some =
    let wide : 56 ≤ carriers_of rate = (carriers_of-range rate).0 in
    let g = first_gathered turn rate len some in
    let none : 0 ≡ carriers_of rate → 1 ≤ length {A = Present} [] = λ e. absurd (omega (arith, e, wide)) in (
      carriers_sound turn (new_head turn rate len) 0 [] g (omega arith) none,
      λ rest gives. subst (λ (z : List Item). Frames t turn.frame turn.number (z ++ rest)) (no_head (new_head turn rate len) 0 (omega (arith, wide)))
          (carriers_given turn (new_head turn rate len) 0 [] t rest g (omega arith) none gives),
    )

flag_step : (turn : Turn) (head : FrameHead) (carrier flag : ℕ) (present : List Present) (t : CaptureState)
    → Gathered turn head carrier present → carrier < carriers_of head.rate
    → bad_flag head carrier (length present) flag ≡ false
    → Step (Flag turn head carrier present) t (carriers_due turn (erase head carrier) (carrier + 1) present) (head_given (erase head carrier) (carrier + 1))
unfolding erase
flag_step turn head carrier flag present t g lt fine =
    let g_next = erased_more turn head carrier present g in
    let some : carrier + 1 ≡ carriers_of head.rate → 1 ≤ length present = λ last. some_left head carrier (length present) flag (sym fine) last in (
      carriers_sound turn (erase head carrier) (carrier + 1) present g_next (omega (arith, lt)) some,
      λ rest gives. carriers_given turn (erase head carrier) (carrier + 1) present t rest g_next (omega (arith, lt)) some gives,
    )

triangle_step : (turn : Turn) (head : FrameHead) (carrier : ℕ) (present : List Present) (t : CaptureState) (octets : List ℕ)
    → Gathered turn head carrier present → carrier < carriers_of head.rate
    → Step (Triangle turn head carrier present) t
    (carriers_due turn head (carrier + 1) (present ++ present_at head carrier octets ∷ [])) (head_given head (carrier + 1))
triangle_step turn head carrier present t octets g lt =
    let p : Present = present_at head carrier octets in
    let g_next = seen_more turn head carrier present p g refl (length-triangle_of (streams_of head.rate) octets _ refl) in
    let some : carrier + 1 ≡ carriers_of head.rate → 1 ≤ length (present ++ p ∷ []) = λ last. omega (arith, length-append present (p ∷ [])) in (
      carriers_sound turn head (carrier + 1) (present ++ p ∷ []) g_next (omega (arith, lt)) some,
      λ rest gives. carriers_given turn head (carrier + 1) (present ++ p ∷ []) t rest g_next (omega (arith, lt)) some gives,
    )

-- each good field
pub step : (s next t : CaptureState) (x : List ℕ) (here : List Item) → Sound s → IsField (captures.due s) x (Good next here) → Step s t next here
unfolding judge_magic judge_version judge_count judge_bandwidth judge_mcs judge_length judge_flag judge_triangle judge_symbol
step (Magic y ys) next t x here sound good =
    good_then (λ n i. Step (Magic y ys) t n i) (nat_eq (octet_of x) y) _ (capture_magic_due ys) next [] here good.1 (λ e. magic_step ys t y)
step Version next t x here sound good =
    good_then (λ n i. Step Version t n i) _ _ (Count (octet_of x)) next [] here good.1 (λ e. (tt, λ rest gives. gives))
step (Count version) next t x here sound good =
    let turn : Turn = record { version = version; left = big_number 2 x; frame = 0; number = 0 } in
    good_is (λ n i. Step (Count version) t n i) (turn_due turn) next [] here good.1 (frames_sound turn, λ rest gives. frames_given turn t rest gives)
step (Bandwidth turn) next t x here sound good =
    good_else (λ n i. Step (Bandwidth turn) t n i) (nat_lt 1 (octet_of x)) _ (Mcs turn (octet_of x)) next [] here good.1 (λ e. (tt, λ rest gives. gives))
step (Mcs turn bandwidth) next t x here sound good =
    good_else (λ n i. Step (Mcs turn bandwidth) t n i) (nat_lt 31 (octet_of x)) _
    (Length turn (rate_at bandwidth (octet_of x))) next [] here good.1 (λ e. (tt, λ rest gives. gives))
step (Length turn rate) next t x here sound good =
    good_else (λ n i. Step (Length turn rate) t n i) (nat_eq (big_number 2 x) 0) _
    (carriers_due turn (new_head turn rate (big_number 2 x)) 0 []) next [] here good.1
    (λ e. length_step turn rate t (big_number 2 x) (grind (arith, nat_tests)))
step (Flag turn head carrier present) next t x here sound good =
    good_of_two (λ n i. Step (Flag turn head carrier present) t n i) (nat_eq (octet_of x) 0)
    (bad_flag head carrier (length present) (octet_of x)) _ (Triangle turn head carrier present)
    (carriers_due turn (erase head carrier) (carrier + 1) present) next [] (head_given (erase head carrier) (carrier + 1)) here good.1
    (λ e. (sound, λ rest gives. gives))
    (λ e fine. flag_step turn head carrier (octet_of x) present t sound.0 sound.1 fine)
step (Triangle turn head carrier present) next t x here sound good =
    good_is (λ n i. Step (Triangle turn head carrier present) t n i) _ next _ here good.1 (triangle_step turn head carrier present t x sound.0 sound.1)
step (Symbol due present) next t x here sound good =
    good_is (λ n i. Step (Symbol due present) t n i) _ next _ here good.1 (symbol_given t due present x sound)
step Over next t x here sound good = absurd good

-- all good fields
pub fields_give : (fields : List (List ℕ)) (s t : CaptureState) (items : List Item) → Sound s → Leads captures s fields items t → Gives s t items
fields_give [] s t items sound leads = subst (λ (z : List Item). Gives s t z) (sym leads.0) (none_given s t sound leads.1)
fields_give (x ∷ xs) s t items sound leads =
    let one = step s leads.0 t x leads.1 sound leads.3 in
    subst (λ (z : List Item). Gives s t z) (sym leads.5) (one.1 leads.2 (fields_give xs leads.0 t leads.2 one.0 leads.4))
