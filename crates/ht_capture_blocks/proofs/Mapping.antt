-- What a reader of captures says, said of heads and jobs.
use Rattle.std.specs.Prelude.{◌≡◌, ℕ, ◌+◌, ◌<◌, ◌≤◌, List, [], ◌∷◌, ◌++◌, length, map, Option, None, Some, not, is_some, true, Result}
use Rattle.std.proofs.Common.{refl, sym, ap, subst, ◌∙◌, inl, inr, arith}
use Rattle.std.proofs.lemmas.Bool.{false≢true}
use Rattle.ht_io.specs.Devices.{Device}
use Rattle.ht_io.specs.declared.faults.InFault.{InFault}
use Rattle.ht_io.specs.declared.faults.InFault.TheVariants.{Format, Read, NoMemory}
use Rattle.ht_io.specs.declared.faults.FormatFault.{FormatFault}
use Rattle.ht_fields.specs.Readers.{ReaderView, Gives, Refuses, RunsOut, Breaks, Completes}
use Rattle.ht_metric.specs.Jobs.{JobView}
use Rattle.ht_capture.specs.declared.items.FrameHead.{FrameHead}
use Rattle.ht_capture.specs.declared.items.Item.{Item as CaptureItem}
use Rattle.ht_capture.specs.declared.items.Item.TheVariants.{Frame, Job, Done}
use Rattle.ht_capture.specs.declared.places.Present.{Present}
use Rattle.ht_capture.specs.Blocks.{CountsPart, StopsBlocks, items_in}
use Rattle.ht_capture.specs.Frames.{carrier_octets, job_at}
use Rattle.ht_capture.specs.Parts.{SymbolPart, jobs_of, views_at}
use Rattle.ht_capture.proofs.Sharing.{views_length}
use Rattle.ht_capture.specs.Readers.{Progress, Counted, counted, counts, finished, more, shown_by}
use Rattle.ht_feed.specs.Items.{Item, Begins, One, Numbered}
use Rattle.ht_feed.specs.Reading.{CountsBlock, CountsHead, Halts, view}
use Rattle.ht_capture_blocks.specs.Captures.{capture_at, capture_counts, capture_means, items_of, mapped}

abbrev pub seen : Progress → Device ℕ → ReaderView (Item FrameHead)
seen = view capture_means capture_at

items_of-append : (xs ys : List CaptureItem) → items_of (xs ++ ys) ≡ items_of xs ++ items_of ys
items_of-append [] ys = refl
items_of-append (Frame head ∷ xs) ys = ap (λ (is : List (Item FrameHead)). Begins head ∷ is) (items_of-append xs ys)
items_of-append (Job job ∷ xs) ys = ap (λ (is : List (Item FrameHead)). One job ∷ is) (items_of-append xs ys)
items_of-append (Done ∷ xs) ys = items_of-append xs ys

items_of-jobs : (jobs : List JobView) → items_of (map (λ job. Job job) jobs) ≡ map One jobs
items_of-jobs [] = refl
items_of-jobs (job ∷ jobs) = ap (λ (is : List (Item FrameHead)). One job ∷ is) (items_of-jobs jobs)

module _ (old : Progress) (source : Device ℕ) where
  pub gives : (new : Progress) (after : Device ℕ) (items : List CaptureItem) → Gives (shown_by old source) (shown_by new after) items
      → Gives (seen old source) (seen new after) (items_of items)
  gives new after items g = record {
    taken = g.taken;
    octets = g.octets;
    place = g.place;
    means = λ rest. ap mapped (g.means rest)
        ∙ ap (λ (is : List (Item FrameHead)). record { items = is; fault = ((shown_by new after).means rest).fault })
        (items_of-append items ((shown_by new after).means rest).items);
  }

  -- the jobs of a block
  pub gives_block : (new : Progress) (after : Device ℕ) (part : SymbolPart) → Gives (shown_by old source) (shown_by new after) (items_in part)
      → Gives (seen old source) (seen new after) (map One (jobs_of part))
  gives_block new after part g =
      subst (λ (items : List (Item FrameHead)). Gives (seen old source) (seen new after) items) (items_of-jobs (jobs_of part))
      (gives new after (items_in part) g)

  pub completes : (after : Device ℕ) → Completes (shown_by old source) after → Completes (seen old source) after
  completes after c = record { taken = c.taken; octets = c.octets; means = ap mapped c.means }

  refuses : (after : Device ℕ) (fault : FormatFault) → Refuses (shown_by old source) after fault → Refuses (seen old source) after fault
  refuses after fault r =
      let e = r.ends in
      record {
        taken = r.taken;
        octets = r.octets;
        means = λ rest. ap mapped (r.means rest);
        ends = record { kind = e.kind; behind = e.behind; within = e.within; early = e.early; trailing = e.trailing };
      }

  runs_out : (after : Device ℕ) (fault : FormatFault) → RunsOut (shown_by old source) after fault → RunsOut (seen old source) after fault
  runs_out after fault r = record { taken = r.taken; octets = r.octets; kind = r.kind; place = r.place; means = ap mapped r.means }

  breaks : (after : Device ℕ) → Breaks (shown_by old source) after → Breaks (seen old source) after
  breaks after b = record { taken = b.taken; octets = b.octets; items = ap items_of b.items; early = b.early }

  pub halts : (new : Progress) (after : Device ℕ) (fault : InFault) → StopsBlocks (shown_by old source) (shown_by new after) fault
      → Halts (seen old source) after fault
  halts new after (Format fault) (inl r, caused) = inl (refuses after fault r)
  halts new after (Format fault) (inr r, caused) = inr (runs_out after fault r)
  halts new after Read (b, rose) = (breaks after b, rose)
  halts new after NoMemory g = record { taken = g.taken; octets = g.octets }

-- a reader that can be asked hasn't finished, and the other way round
pub unfinished : (x : Option (Result CaptureItem InFault)) → not (is_some x) ≡ true → x ≡ None
unfinished None is = refl
unfinished (Some answer) is = absurd (false≢true is)

pub goes : (x : Option (Result CaptureItem InFault)) → x ≡ None → not (is_some x) ≡ true
goes x is = ap (λ o. not (is_some o)) is

-- a head came
pub head_counts : (old new : Progress) (head : FrameHead) → Counted (counts old) (counts new) (Frame head) → finished new ≡ None
    → more new < more old → CountsHead (capture_counts old) (capture_counts new)
head_counts old new head counted going fewer = record { going = goes (finished new) going; given = ap (λ k. k.jobs) counted.1; fewer = fewer }

-- the jobs of some subcarriers are numbered on
numbered : (head : FrameHead) (symbol number : ℕ) (ps : List Present) (octets : List ℕ) (at : ℕ) → Numbered number (views_at head symbol number ps octets at)
unfolding views_at job_at
numbered head symbol number [] octets at = tt
numbered head symbol number (p ∷ ps) octets at = (refl, numbered head symbol (number + 1) ps octets (at + carrier_octets head.rate))

-- a block came
pub block_counts : (most : ℕ) (old new : Progress) (part : SymbolPart) → CountsPart most (counts old) (counts new) part → finished new ≡ None
    → more new + length part.present ≤ more old → CountsBlock most (capture_counts old) (capture_counts new) (jobs_of part)
block_counts most old new part counted going fewer =
    let size : length (jobs_of part) ≡ length part.present = views_length part.head part.symbol part.number part.present part.octets 0 in
    record {
      going = goes (finished new) going;
      numbers = subst (λ n. Numbered n (jobs_of part)) counted.number (numbered part.head part.symbol part.number part.present part.octets 0);
      given = ap (λ k. k.jobs) counted.given ∙ ap (λ n. (counts old).jobs + n) (sym size);
      some = omega (arith, size, counted.some);
      few = omega (arith, size, counted.few);
      fewer = omega (arith, size, fewer);
    }
