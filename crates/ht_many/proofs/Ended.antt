-- How a capture ended, with its last line.
use Rattle.std.specs.Prelude.{◌≡◌, ◌⊎◌, ℕ, List, ◌++◌, Option, Some, None, IfSome, Result, Ok, Err}
use Rattle.std.proofs.Common.{refl, ap, ◌∙◌, sym, subst, inl, inr, map}
use Rattle.std.specs.List.{flat_map}
use Rattle.std.proofs.lemmas.Option.{IfSome_then}
use Rattle.ht_io.specs.Devices.{Device, Takes, TakesAll, Grows, GrowsByPart, Rose, IsLater}
use Rattle.ht_io.specs.Pieces.{KnownGrown}
use Rattle.ht_io.specs.declared.faults.FormatFault.{FormatFault}
use Rattle.ht_io.proofs.Calls.{failed-later, grows-append, grows_by_part-front, grows_by_part-append}
use Rattle.ht_fields.specs.Meanings.{Meaning}
use Rattle.ht_capture.specs.declared.items.Item.{Item}
use Rattle.ht_capture.specs.Captures.{capture_of}
use Rattle.ht_capture.specs.Fields.{captures}
use Rattle.ht_capture_laws.specs.Items.{whole_frames}
use Rattle.ht_results.specs.Results.{frame_result, results_of}
use Rattle.ht_results.specs.Texts.{frame_lines_of, frames_of, last_line, last_of, result_line, rx_text}
use Rattle.ht_results.proofs.Folded.{more_lines}
use Rattle.ht_runs.specs.Outcomes.{TellsBroken, TellsPieces}
use Rattle.ht_runs.specs.Streamed.{line_of_fault}
use Rattle.ht_runs.proofs.Known.{by_part, known, known_all, takes_of}
use Rattle.ht_runs.specs.declared.faults.RunFault.{RunFault}
use Rattle.ht_runs.specs.declared.faults.RunFault.TheVariants.{Format, Read as RunRead, Write as RunWrite, NoMemory as RunMemory}
use Rattle.ht_feed.specs.declared.ended.Ended.{Ended}
use Rattle.ht_text.specs.Lines.{end_text}
use Rattle.ht_receive.specs.Endings.{PutsLast, PutsText}
use Rattle.ht_many.specs.declared.many_end.ManyEnd.{ManyEnd}
use Rattle.ht_many.specs.declared.many_end.ManyEnd.TheVariants.{Done, Refused, Read, Write}
use Rattle.ht_many.specs.Alone.{Alone, HasText, Heard, PutsPieces, Says}

-- the lines of octets with this fault, or with none, and then the last line, are their text
with_last : (octets : List ℕ) (fault : Option FormatFault) → (capture_of octets).fault ≡ fault
    → frame_lines_of octets ++ last_of fault (frames_of (capture_of octets).items) ≡ rx_text octets
unfolding rx_text last_line
with_last octets fault is =
    ap (λ (f : Option FormatFault). frame_lines_of octets ++ last_of f (frames_of (capture_of octets).items)) (sym is)

-- octets that mean the same have the same text
same_text : (a b : List ℕ) → capture_of a ≡ capture_of b → rx_text a ≡ rx_text b
unfolding rx_text last_line frame_lines_of results_of
same_text a b is =
    ap (λ (m : Meaning Item). flat_map result_line (map frame_result (whole_frames m.items)) ++ last_of m.fault (frames_of m.items)) is

-- the source before and after, and the sink before
module _ (a b c : Device ℕ) where
  -- a part of the lines is a part of the text
  text_part : (d : Device ℕ) (octets : List ℕ) → GrowsByPart c d (frame_lines_of octets) → GrowsByPart c d (rx_text octets)
  text_part d octets part =
      subst (λ (z : List ℕ). GrowsByPart c d z) (with_last octets (capture_of octets).fault refl)
      (grows_by_part-front c d (frame_lines_of octets) (last_of (capture_of octets).fault (frames_of (capture_of octets).items)) part)

  pub pieces_part : (d : Device ℕ) → TellsPieces captures frame_lines_of a b c d → PutsPieces a b c d
  pieces_part d l = record {
    taken = l.taken;
    octets = l.octets;
    put = text_part d l.taken l.put;
    of_all = IfSome_then a.known l.of_all (λ all part. text_part d all part);
  }

  -- a part of the text of a whole capture
  whole_part : (d : Device ℕ) (taken : List ℕ) → TakesAll a b taken → GrowsByPart c d (rx_text taken) → PutsPieces a b c d
  whole_part d taken octets put = record {
    taken = taken;
    octets = takes_of a b taken octets;
    put = put;
    of_all = known_all a.known b.known taken (λ all. GrowsByPart c d (rx_text all)) octets put;
  }

  -- a part of the text of octets that mean what all mean
  refused_part : (d : Device ℕ) (taken : List ℕ) → Takes a b taken → IfSome a.known (λ all. capture_of all ≡ capture_of taken)
      → GrowsByPart c d (rx_text taken) → PutsPieces a b c d
  refused_part d taken octets comes put = record {
    taken = taken;
    octets = octets;
    put = put;
    of_all = IfSome_then a.known comes (λ all is. subst (λ (z : List ℕ). GrowsByPart c d z) (sym (same_text all taken is)) put);
  }

  -- the lines of a front are a part of the text of all octets
  broken_part : (d : Device ℕ) → TellsBroken captures frame_lines_of a b c d → PutsPieces a b c d
  broken_part d l =
      let front : (rest : List ℕ) → GrowsByPart c d (frame_lines_of (l.taken ++ rest)) =
      λ rest.
      let more = more_lines l.taken rest in
      subst (λ (z : List ℕ). GrowsByPart c d z) (sym more.1)
      (grows_by_part-front c d (frame_lines_of l.taken) more.0 (by_part c d (frame_lines_of l.taken) l.put)) in
      record {
        taken = l.taken;
        octets = l.octets;
        put = text_part d l.taken (by_part c d (frame_lines_of l.taken) l.put);
        of_all = known a.known b.known l.taken (λ all. GrowsByPart c d (rx_text all)) l.octets (λ rest. text_part d (l.taken ++ rest) (front rest));
      }

  -- however a capture ended, a part of its text was put
  pub ended_part : (d : Device ℕ) (end : ManyEnd) → Alone a b c d end → PutsPieces a b c d
  ended_part d (Done frames) l = whole_part d l.taken l.octets (by_part c d (rx_text l.taken) l.put)
  ended_part d (Refused fault) l = refused_part d l.taken l.octets l.comes (by_part c d (rx_text l.taken) l.put)
  ended_part d Read l = broken_part d l.0
  ended_part d Write l = l.0

  -- lines and behind them the last line, of octets whose text they are, of which an answer and a part then say this
  by_line : (good : Result ℕ RunFault) (taken line : List ℕ) (mid d : Device ℕ) (result : Result ℕ RunFault) → IsLater c mid
      → Grows c mid (frame_lines_of taken) → frame_lines_of taken ++ line ≡ rx_text taken → (Grows c d (rx_text taken) → Says a b c d good)
      → (GrowsByPart c d (rx_text taken) → PutsPieces a b c d) → PutsText good (Err RunWrite) (Err RunMemory) line mid d result → Says a b c d result
  by_line good taken line mid d result later put text says part (inl (is, last)) =
      subst (Says a b c d) (sym is) (says (subst (Grows c d) text (grows-append c mid d (frame_lines_of taken) line put last)))
  by_line good taken line mid d result later put text says part (inr (inl (is, last, rose))) =
      subst (Says a b c d) (sym is) (
        part (subst (GrowsByPart c d) text (grows_by_part-append c mid d (frame_lines_of taken) line put last)),
        failed-later c mid d later rose,
      )
  by_line good taken line mid d result later put text says part (inr (inr (is, same))) =
      subst (Says a b c d) (sym is)
      (part (text_part d taken (by_part c d (frame_lines_of taken) (subst (λ (k : Device ℕ). Grows c k (frame_lines_of taken)) (sym same) put))))

  -- what is said of a capture with its last line, whose receiving answered this
  pub heard_ends : (answer : Result Ended RunFault) (mid d : Device ℕ) (result : Result ℕ RunFault) → Heard a b c mid answer → IsLater c mid
      → PutsLast answer mid d result → Says a b c d result
  heard_ends (Ok ended) mid d result l later puts =
      by_line (Ok ended.frames) l.taken (end_text ended.frames) mid d result later l.put
      (ap (λ n. frame_lines_of l.taken ++ end_text n) l.says.frames_are ∙ with_last l.taken None l.whole)
      (λ put. record { taken = l.taken; octets = l.octets; whole = l.whole; says = l.says.frames_are; put = put })
      (whole_part d l.taken l.octets) puts
  heard_ends (Err (Format fault)) mid d result l later puts =
      by_line (Err (Format fault)) l.taken (line_of_fault fault) mid d result later l.put (with_last l.taken (Some fault) l.refused)
      (λ put. record { taken = l.taken; octets = l.octets; refused = l.refused; ends = l.ends; comes = l.comes; put = put })
      (refused_part d l.taken l.octets l.comes) puts
  heard_ends (Err RunRead) mid d result l later (is, same) =
      subst (Says a b c d) (sym is) (subst (λ (k : Device ℕ). TellsBroken captures frame_lines_of a b c k) (sym same) l.0, l.1)
  heard_ends (Err RunWrite) mid d result l later (is, same) =
      subst (Says a b c d) (sym is) (subst (λ (k : Device ℕ). PutsPieces a b c k × Rose c k) (sym same) (pieces_part mid l.0, l.1))
  heard_ends (Err RunMemory) mid d result l later (is, same) =
      subst (Says a b c d) (sym is) (subst (PutsPieces a b c) (sym same) (pieces_part mid l))

  -- without its last line a part of its text was put
  pub heard_part : (answer : Result Ended RunFault) (d : Device ℕ) → Heard a b c d answer → PutsPieces a b c d
  heard_part (Ok ended) d l = whole_part d l.taken l.octets (text_part d l.taken (by_part c d (frame_lines_of l.taken) l.put))
  heard_part (Err (Format fault)) d l = refused_part d l.taken l.octets l.comes (text_part d l.taken (by_part c d (frame_lines_of l.taken) l.put))
  heard_part (Err RunRead) d l = broken_part d l.0
  heard_part (Err RunWrite) d l = pieces_part d l.0
  heard_part (Err RunMemory) d l = pieces_part d l

  -- neither device failed
  pub unfailed_ends : (d : Device ℕ) (end : ManyEnd) → Alone a b c d end → (Rose a b → ⊥) → (Rose c d → ⊥)
      → ((frames : ℕ) × (end ≡ Done frames)) ⊎ ((fault : FormatFault) × (end ≡ Refused fault))
  unfailed_ends d (Done frames) l reads puts = inl (frames, refl)
  unfailed_ends d (Refused fault) l reads puts = inr (fault, refl)
  unfailed_ends d Read l reads puts = absurd (reads l.1)
  unfailed_ends d Write l reads puts = absurd (puts l.1)

all_taken : (all : List ℕ) (a : Option (List ℕ)) (taken : List ℕ) → a ≡ Some all → IfSome a (λ octets. octets ≡ taken) → taken ≡ all
all_taken all a taken is same = sym (subst (λ (z : Option (List ℕ)). IfSome z (λ octets. octets ≡ taken)) is same)

-- known octets whose whole text was put have their own text
pub ended_text : (end : ManyEnd) (all : List ℕ) (a b c d : Device ℕ) → a.known ≡ Some all → Alone a b c d end → HasText end → Grows c d (rx_text all)
ended_text (Done frames) all a b c d is l text =
    let same : IfSome a.known (λ octets. octets ≡ l.taken) = known_all a.known b.known l.taken (λ octets. octets ≡ l.taken) l.octets refl in
    subst (λ (z : List ℕ). Grows c d (rx_text z)) (all_taken all a.known l.taken is same) l.put
ended_text (Refused fault) all a b c d is l text =
    let means : capture_of all ≡ capture_of l.taken = subst (λ (z : Option (List ℕ)). IfSome z (λ octets. capture_of octets ≡ capture_of l.taken)) is l.comes in
    subst (λ (z : List ℕ). Grows c d z) (sym (same_text all l.taken means)) l.put
ended_text Read all a b c d is l text = absurd text
ended_text Write all a b c d is l text = absurd text

has_text : (end : ManyEnd) (a b c d : Device ℕ) → Alone a b c d end → (Rose a b → ⊥) → (Rose c d → ⊥) → HasText end
has_text (Done frames) a b c d l reads puts = tt
has_text (Refused fault) a b c d l reads puts = tt
has_text Read a b c d l reads puts = reads l.1
has_text Write a b c d l reads puts = puts l.1

-- so have known octets whose devices did not fail
pub unfailed_text : (end : ManyEnd) (all : List ℕ) (a b c d : Device ℕ) → a.known ≡ Some all → Alone a b c d end
    → (Rose a b → ⊥) → (Rose c d → ⊥) → Grows c d (rx_text all)
unfailed_text end all a b c d is l reads puts = ended_text end all a b c d is l (has_text end a b c d l reads puts)

grown_same : (c d d' : Option (List ℕ)) (put text₁ text₂ : List ℕ) → d ≡ Some text₁ → d' ≡ Some text₂
    → KnownGrown c d put → KnownGrown c d' put → text₁ ≡ text₂
grown_same None d d' put text₁ text₂ is also p q = absurd (subst (λ (z : Option (List ℕ)). KnownGrown None z put) is p)
grown_same (Some held) d d' put text₁ text₂ is also p q =
    let one : text₁ ≡ held ++ put = subst (λ (z : Option (List ℕ)). KnownGrown (Some held) z put) is p in
    let two : text₂ ≡ held ++ put = subst (λ (z : Option (List ℕ)). KnownGrown (Some held) z put) also q in
    one ∙ sym two

-- so two calls put the same
pub unfailed_same : (end other : ManyEnd) (all text₁ text₂ : List ℕ) (a b c d b' d' : Device ℕ) → a.known ≡ Some all
    → d.known ≡ Some text₁ → d'.known ≡ Some text₂ → Alone a b c d end → Alone a b' c d' other
    → (Rose a b → ⊥) → (Rose c d → ⊥) → (Rose a b' → ⊥) → (Rose c d' → ⊥) → text₁ ≡ text₂
unfailed_same end other all text₁ text₂ a b c d b' d' is one two l m p q r s =
    grown_same c.known d.known d'.known (rx_text all) text₁ text₂ one two
    (unfailed_text end all a b c d is l p q) (unfailed_text other all a b' c d' is m r s)
