-- The blocks of a feed of single jobs lead on as the feed does.
use Rattle.std.specs.Prelude.{◌≤◌, Bool, true, false}
use Rattle.std.proofs.Common.{refl, ◌∙◌, arith}
use Rattle.ht_crew.specs.Feeds.{FeedView}
use Rattle.ht_crew.specs.Singles.{LeadsOn, Notes}
use Rattle.ht_crew.specs.declared.singles.Singles.{Singles}

module _ {Fault : Type 0} where
  notes-none : (noted : Bool) (a : FeedView Fault) → Notes noted noted a a
  notes-none false a = refl
  notes-none true a = λ some. some

  notes-more : (x y z : Bool) (a b c : FeedView Fault) → a.faults ≤ b.faults → b.faults ≤ c.faults → Notes x y a b → Notes y z b c → Notes x z a c
  notes-more false false false a b c before after first later = later ∙ first
  notes-more false false true a b c before after first later = (omega (arith, before, later.0), later.1)
  notes-more false true false a b c before after first later = absurd later
  notes-more false true true a b c before after first later = (omega (arith, after, first.0), later first.1)
  notes-more true false z a b c before after first later = absurd first
  notes-more true true false a b c before after first later = absurd later
  notes-more true true true a b c before after first later = λ some. later (first some)

module _ {F Fault : Type 0} (leads : F → F → Type 0) (shown : F → FeedView Fault) where
  pub leads_on-none : ((x : F) → leads x x) → (a : Singles F) → LeadsOn leads shown a a
  leads_on-none stays a =
      record {
        same = refl;
        on = stays a.feed.now;
        later = omega arith;
        notes = notes-none a.failed.now (shown a.feed.now);
      }

  pub leads_on-more : ((x y z : F) → leads x y → leads y z → leads x z) → (a b c : Singles F) → LeadsOn leads shown a b → LeadsOn leads shown b c
      → LeadsOn leads shown a c
  leads_on-more goes_on a b c first later =
      record {
        same = first.same ∙ later.same;
        on = goes_on a.feed.now b.feed.now c.feed.now first.on later.on;
        later = omega (arith, first.later, later.later);
        notes = notes-more a.failed.now b.failed.now c.failed.now (shown a.feed.now) (shown b.feed.now) (shown c.feed.now)
            first.later later.later first.notes later.notes;
      }
