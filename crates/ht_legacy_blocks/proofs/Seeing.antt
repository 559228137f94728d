-- What a reader does in the format, said of heads and jobs.
use Rattle.std.specs.Prelude.{Result, Ok, Err, IfErr, IfOk, OnOk, MatchResult}
use Rattle.std.proofs.Common.{◌≡◌, ℕ, ◌+◌, ◌-◌, ◌≤◌, List, [], ◌∷◌, ◌++◌, length, map, take, refl, sym, ap, subst, ◌∙◌, inl, inr, arith}
use Rattle.ht_io.specs.Devices.{Device, IsLater, TakesAll}
use Rattle.ht_io.specs.declared.faults.FormatFault.{FormatFault}
use Rattle.ht_io.specs.declared.faults.InFault.{InFault}
use Rattle.ht_io.specs.declared.faults.InFault.TheVariants.{Format, Read, NoMemory}
use Rattle.ht_io.proofs.Calls.{failed-later, later-later, takes-all, takes-append, takes-none}
use Rattle.ht_fields.specs.Lacking.{GoesFurther}
use Rattle.ht_fields.specs.Meanings.{Meaning, before, meaning}
use Rattle.ht_fields.specs.Readers.{ReaderView, Breaks, Finishes, Gives, IsEarly, Refuses, RunsOut, reader_in, Completes}
use Rattle.ht_fields.specs.WholeFiles.{StopsWithCause}
use Rattle.ht_fields.proofs.Halting.{ended_finishes, further_halts}
use Rattle.ht_fields.proofs.Joins.{gives_breaks, gives_more, gives_refuses, gives_runs_out}
use Rattle.ht_metric.specs.Jobs.{JobView}
use Rattle.ht_metric.specs.declared.sample.Sample.{Sample}
use Rattle.ht_clause18.specs.Carriers.{carriers}
use Rattle.ht_feed.specs.declared.came.Came.{Came}
use Rattle.ht_feed.specs.declared.came.Came.TheVariants.{Head, Block, End}
use Rattle.ht_feed.specs.Items.{Item, Begins, One, Numbered}
use Rattle.ht_feed.specs.Reading.{Counts, CountsCame, GivesCame, Halts}
use Rattle.ht_heads.specs.Starts.{Over}
use Rattle.ht_counted.proofs.Counting.{over_is}
use Rattle.ht_legacy_files.specs.HeadedFormats.{Index}
use Rattle.ht_legacy_files.specs.CaptureFormats.{captures, captures_due, symbols_due}
use Rattle.ht_legacy_files.specs.CaptureItems.{LegacyHead, LegacyItem, Begins as BeginsFrame, Symbol}
use Rattle.ht_legacy_files.proofs.CaptureRoutes.{State, behind_is}
use Rattle.ht_legacy_blocks.specs.declared.head.LegacyFrameHead.{LegacyFrameHead}
use Rattle.ht_legacy_blocks.specs.declared.stage.Stage.{Stage}
use Rattle.ht_legacy_blocks.specs.declared.stage.Stage.TheVariants.{Start, Due}
use Rattle.ht_legacy_blocks.specs.Frames.{Course, behind_head, behind_symbol, given_from, head_of, mapped_from, symbol_at}
use Rattle.ht_legacy_blocks.specs.Jobs.{SymbolView, jobs_between}
use Rattle.ht_legacy_blocks.specs.Readers.{Fits, IsFresh, IsSound, Progress, ReadsOn, first_of, legacy_counts, legacy_means, seen, state_of}
use Rattle.ht_legacy_blocks.proofs.Splitting.{left_split}

no_jobs : (s : SymbolView) (first : ℕ) → (let items : List (Item LegacyFrameHead) = map One (jobs_between s first 0) in items) ≡ []
unfolding jobs_between
no_jobs s first = refl

-- where in its format a reader is
pub record Stands (r : Progress) (c : Course) (s : State) (place : ℕ) : Type 0 where
  pub course : r.course ≡ c
  pub state : state_of r.stage ≡ s
  pub at : r.at ≡ place

module _ (r : Progress) (c : Course) (t : State) (at : ℕ) (stands : Stands r c t at) where
  means_as : (left : ℕ) (s : SymbolView) (octets : List ℕ) → r.left ≡ left → r.symbol ≡ s
      → legacy_means r octets ≡ before (map One (jobs_between s (first_of left) left)) (mapped_from c (meaning captures t at octets))
  means_as left s octets is same =
      let behind : Meaning (Item LegacyFrameHead) = mapped_from r.course (meaning captures (state_of r.stage) r.at octets) in
      ap (λ n. before (map One (jobs_between r.symbol (first_of n) n)) behind) is
      ∙ (ap (λ (x : SymbolView). before (map One (jobs_between x (first_of left) left)) behind) same
      ∙ ap (before (map One (jobs_between s (first_of left) left)))
      (ap (λ (x : Course). mapped_from x (meaning captures (state_of r.stage) r.at octets)) stands.course
      ∙ (ap (λ (x : State). mapped_from c (meaning captures x r.at octets)) stands.state
      ∙ ap (λ n. mapped_from c (meaning captures t n octets)) stands.at)))

  -- with no job left
  plain : (octets : List ℕ) → r.left ≡ 0 → legacy_means r octets ≡ mapped_from c (meaning captures t at octets)
  plain octets none =
      means_as 0 r.symbol octets none refl
      ∙ ap (λ (is : List (Item LegacyFrameHead)). before is (mapped_from c (meaning captures t at octets))) (no_jobs r.symbol (first_of 0))

  gives_seen : (new : Progress) (source after : Device ℕ) (u : State) (behind : ℕ) (items : List LegacyItem) (given : List (Item LegacyFrameHead))
      → r.left ≡ 0 → new.at ≡ behind → Gives (reader_in captures t at source) (reader_in captures u behind after) items
      → ((rest : List ℕ) → mapped_from c (before items (meaning captures u behind rest)) ≡ before given (legacy_means new rest))
      → Gives (seen r source) (seen new after) given
  gives_seen new source after u behind items given none place g h = record {
    taken = g.taken;
    octets = g.octets;
    place = omega (arith, place, g.place, stands.at);
    means = λ rest. plain (g.taken ++ rest) none ∙ (ap (mapped_from c) (g.means rest) ∙ h rest);
  }

  refuses_seen : (source after : Device ℕ) (fault : FormatFault) → r.left ≡ 0
      → Refuses (reader_in captures t at source) after fault → Refuses (seen r source) after fault
  refuses_seen source after fault none f =
      let e = f.ends in
      let same = stands.at in
      record {
        taken = f.taken;
        octets = f.octets;
        means = λ rest. plain (f.taken ++ rest) none ∙ ap (mapped_from c) (f.means rest);
        ends = record {
          kind = e.kind;
          behind = omega (arith, same, e.behind);
          within = omega (arith, same, e.within);
          early = λ n from few.
              let total : at + n ≡ r.at + n = omega (arith, same) in
              subst (λ (m : Meaning (Item LegacyFrameHead)). IsEarly (r.at + n) m.fault) (sym (plain (take n f.taken) none))
              (subst (λ k. IsEarly k (meaning captures t at (take n f.taken)).fault) total (e.early n (omega (arith, same, from)) few));
          trailing = λ k. omega (arith, same, e.trailing k);
        };
      }

  runs_out_seen : (source after : Device ℕ) (fault : FormatFault) → r.left ≡ 0
      → RunsOut (reader_in captures t at source) after fault → RunsOut (seen r source) after fault
  runs_out_seen source after fault none f =
      record {
        taken = f.taken;
        octets = f.octets;
        kind = f.kind;
        place = omega (arith, stands.at, f.place);
        means = plain f.taken none ∙ ap (mapped_from c) f.means;
      }

  breaks_seen : (source after : Device ℕ) → r.left ≡ 0 → Breaks (reader_in captures t at source) after → Breaks (seen r source) after
  breaks_seen source after none b =
      let total : at + length b.taken ≡ r.at + length b.taken = omega (arith, stands.at) in
      record {
        taken = b.taken;
        octets = b.octets;
        items = ap (λ (m : Meaning (Item LegacyFrameHead)). m.items) (plain b.taken none) ∙ ap (given_from c) b.items;
        early = subst (λ (m : Meaning (Item LegacyFrameHead)). IsEarly (r.at + length b.taken) m.fault) (sym (plain b.taken none))
            (subst (λ k. IsEarly k (meaning captures t at b.taken).fault) total b.early);
      }

  pub halts_seen : (source after : Device ℕ) (fault : InFault) → r.left ≡ 0
      → StopsWithCause (reader_in captures t at source) after fault → Halts (seen r source) after fault
  halts_seen source after (Format fault) none (inl f, cause) = inl (refuses_seen source after fault none f)
  halts_seen source after (Format fault) none (inr f, cause) = inr (runs_out_seen source after fault none f)
  halts_seen source after Read none (b, rose) = (breaks_seen source after none b, rose)
  halts_seen source after NoMemory none h = absurd h.1

  pub completes_seen : (source after : Device ℕ) → r.left ≡ 0 → Finishes (reader_in captures t at source) after → Completes (seen r source) after
  completes_seen source after none f = record { taken = []; octets = f.octets; means = plain [] none ∙ ap (mapped_from c) f.means }

-- in front of a frame, and behind the last one
pub next_frame : (frames : ℕ) → symbols_due (frames + 1) 0 ≡ captures_due frames
next_frame frames = let less : frames + 1 - 1 ≡ frames = omega arith in behind_is (frames + 1) 0 refl ∙ ap captures_due less

pub at_start : (r : Progress) → r.stage ≡ Start → IsSound r → r.at ≡ 0
at_start r is sound = let fresh : IsFresh r = subst (λ (stage : Stage). Fits stage r) is sound.stage in fresh.place

-- the input ended, or went on
pub finish_told : (r : Progress) (source after : Device ℕ) (result : Result (Unit {0}) InFault) → r.stage ≡ Due 0 0 → r.left ≡ 0
    → OnOk result (TakesAll source after []) → IfErr result (GoesFurther r.at source after)
    → MatchResult result (λ _. Completes (seen r source) after) (Halts (seen r source) after)
finish_told r source after (Ok u) is none all further =
    completes_seen r r.course Over r.at (record { course = refl; state = ap state_of is ∙ (next_frame 0 ∙ over_is Index 0 refl); at = refl }) source after none
    (ended_finishes captures Over r.at source after tt all)
finish_told r source after (Err fault) is none all further =
    halts_seen r r.course Over r.at (record { course = refl; state = ap state_of is ∙ (next_frame 0 ∙ over_is Index 0 refl); at = refl }) source after fault
    none
    (further_halts captures Over r.at source after fault tt further)

-- some of the jobs that are left are given
pub jobs_seen : (old new : Progress) (source : Device ℕ) (count : ℕ) (block : List JobView) → Stands new old.course (state_of old.stage) old.at
    → new.symbol ≡ old.symbol → new.left ≡ old.left - count → count ≤ old.left → old.left ≤ carriers
    → block ≡ jobs_between old.symbol (first_of old.left) count → Gives (seen old source) (seen new source) (map One block)
jobs_seen old new source count block stands same left within few is = record {
  taken = [];
  octets = takes-none source;
  place = omega (arith, stands.at);
  means = λ rest.
      let behind : Meaning (Item LegacyFrameHead) = mapped_from old.course (meaning captures (state_of old.stage) old.at rest) in
      left_split old.symbol old.left count behind few within
      ∙ (ap (before (map One (jobs_between old.symbol (first_of old.left) count)))
      (sym (means_as new old.course (state_of old.stage) old.at stands (old.left - count) old.symbol rest left same))
      ∙ ap (λ (jobs : List JobView). before (map One jobs) (legacy_means new rest)) (sym is));
}

-- what stands in front of the frames was read
pub start_seen : (old new : Progress) (source after : Device ℕ) (c : Course) (s t : State) (at behind : ℕ)
    → Stands old c s at → Stands new c t behind → old.left ≡ 0 → new.left ≡ 0
    → Gives (reader_in captures s at source) (reader_in captures t behind after) [] → Gives (seen old source) (seen new after) []
start_seen old new source after c s t at behind from to none still g =
    gives_seen old c s at from new source after t behind [] [] none to.at g (λ rest. sym (plain new c t behind to rest still))

-- the head of a frame
pub front_seen : (old new : Progress) (source after : Device ℕ) (c : Course) (h : LegacyHead) (s t : State) (at behind : ℕ)
    → Stands old c s at → Stands new (behind_head c h) t behind → old.left ≡ 0 → new.left ≡ 0
    → Gives (reader_in captures s at source) (reader_in captures t behind after) (BeginsFrame h ∷ [])
    → Gives (seen old source) (seen new after) (Begins (head_of c.frames h) ∷ [])
front_seen old new source after c h s t at behind from to none still g =
    gives_seen old c s at from new source after t behind (BeginsFrame h ∷ []) (Begins (head_of c.frames h) ∷ []) none to.at g
    (λ rest. ap (before (Begins (head_of c.frames h) ∷ [])) (sym (plain new (behind_head c h) t behind to rest still)))

-- a symbol: its jobs are left
pub symbol_seen : (old new : Progress) (source after : Device ℕ) (c : Course) (ss : List Sample) (s t : State) (at behind : ℕ)
    → Stands old c s at → Stands new (behind_symbol c) t behind → old.left ≡ 0 → new.left ≡ carriers → new.symbol ≡ symbol_at c ss
    → Gives (reader_in captures s at source) (reader_in captures t behind after) (Symbol ss ∷ []) → Gives (seen old source) (seen new after) []
symbol_seen old new source after c ss s t at behind from to none all is g =
    gives_seen old c s at from new source after t behind (Symbol ss ∷ []) [] none to.at g
    (λ rest. sym (means_as new (behind_symbol c) t behind to carriers (symbol_at c ss) rest all is))

-- behind octets that give nothing
module _ {I : Type 0} (old mid : ReaderView I) (g : Gives old mid []) where
  pub halts_behind : (after : Device ℕ) (fault : InFault) → IsLater old.source mid.source → Halts mid after fault → Halts old after fault
  halts_behind after (Format fault) later (inl r) = inl (gives_refuses old mid after fault g r)
  halts_behind after (Format fault) later (inr r) = inr (gives_runs_out old mid after fault g r)
  halts_behind after Read later (b, rose) = (gives_breaks old mid after g b, failed-later old.source mid.source after later rose)
  halts_behind after NoMemory later l =
      record { taken = g.taken ++ l.taken; octets = takes-append old.source mid.source after g.taken l.taken g.octets l.octets }

module _ {H B : Type 0} (jobs : B → List JobView) (old mid new : ReaderView (Item H)) (g : Gives old mid []) where
  came_behind : (came : Came H B) → GivesCame jobs mid new came → GivesCame jobs old new came
  came_behind (Head head) h = gives_more old mid new [] (Begins head ∷ []) g h
  came_behind (Block block) h = gives_more old mid new [] (map One (jobs block)) g h
  came_behind End h = record {
    taken = g.taken ++ h.taken;
    octets = takes-all old.source mid.source new.source g.taken h.taken g.octets h.octets;
    means = g.means h.taken ∙ ap (before []) h.means;
  }

  told_behind : (result : Result (Came H B) InFault) → IsLater old.source mid.source
      → MatchResult result (GivesCame jobs mid new) (Halts mid new.source) → MatchResult result (GivesCame jobs old new) (Halts old new.source)
  told_behind (Ok came) later h = came_behind came h
  told_behind (Err fault) later h = halts_behind old mid g new.source fault later h

module _ {H B : Type 0} (jobs : B → List JobView) (most : ℕ) (old mid new : Counts) (same : mid.given ≡ old.given) (less : mid.more ≤ old.more) where
  counts_came : (came : Came H B) → CountsCame jobs most mid new came → CountsCame jobs most old new came
  counts_came (Head head) c = record { going = c.going; given = c.given ∙ same; fewer = omega (arith, less, c.fewer) }
  counts_came (Block block) c = record {
    going = c.going;
    numbers = subst (λ n. Numbered n (jobs block)) same c.numbers;
    given = c.given ∙ ap (λ n. n + length (jobs block)) same;
    some = c.some;
    few = c.few;
    fewer = omega (arith, less, c.fewer);
  }
  counts_came End c = tt

  counts_behind : (result : Result (Came H B) InFault) → IfOk result (CountsCame jobs most mid new) → IfOk result (CountsCame jobs most old new)
  counts_behind (Ok came) c = counts_came came c
  counts_behind (Err fault) c = tt

-- what comes then
pub reads_behind : (most : ℕ) (old mid new : Progress) (source between after : Device ℕ) (result : Result (Came LegacyFrameHead (List JobView)) InFault)
    → Gives (seen old source) (seen mid between) [] → IsLater source between → (legacy_counts mid).given ≡ (legacy_counts old).given
    → (legacy_counts mid).more ≤ (legacy_counts old).more → ReadsOn most mid new between after result → ReadsOn most old new source after result
reads_behind most old mid new source between after result gives later same less reads =
    let jobs : List JobView → List JobView = λ block. block in
    let fewer = reads.never_more in
    record {
      told = told_behind jobs (seen old source) (seen mid between) (seen new after) gives result later reads.told;
      counted = counts_behind jobs most (legacy_counts old) (legacy_counts mid) (legacy_counts new) same less result reads.counted;
      never_more = omega (arith, fewer, less);
      later = later-later source between after later reads.later;
    }
