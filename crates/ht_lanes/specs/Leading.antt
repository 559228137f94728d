-- What each lane did over several calls.
use Rattle.std.proofs.Common.{ℕ, ◌<◌, refl, sym, ◌∙◌, subst}
use Rattle.ht_lanes.specs.Lanes.{AllLead, Lent, LentLead, Side, Sides, side_at}

module _ {L S K : Type 0} (leads : Side L S K → Side L S K → Type 0) (stays : (a : Side L S K) → leads a a)
    (goes_on : (a b c : Side L S K) → leads a b → leads b c → leads a c) where
  pub all-none : (a : Sides L S K) → AllLead leads a a
  all-none a = record { lanes = refl; sources = refl; sinks = refl; each = λ l s t k within. stays (side_at a l s t k) }

  pub all-on : (a b c : Sides L S K) → AllLead leads a b → AllLead leads b c → AllLead leads a c
  all-on a b c p q = record {
    lanes = q.lanes ∙ p.lanes;
    sources = q.sources ∙ p.sources;
    sinks = q.sinks ∙ p.sinks;
    each = λ l s t k within. goes_on (side_at a l s t k) (side_at b l s t k) (side_at c l s t k) (p.each l s t k within)
        (q.each l s t k (subst (λ (n : ℕ). k < n) (sym p.lanes) within));
  }

  pub lent-none : (a : Lent L S K) → LentLead leads a a
  lent-none a = (refl, all-none a.sides)

  pub lent-on : (a b c : Lent L S K) → LentLead leads a b → LentLead leads b c → LentLead leads a c
  lent-on a b c p q = (p.0 ∙ q.0, all-on a.sides b.sides c.sides p.1 q.1)
