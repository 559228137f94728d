-- What one lane did that was asked alone is what each lane did.
use Rattle.std.proofs.Common.{◌≡◌, ℕ, get_or, Bool, true, false, nat_eq, refl, ap, sym, ◌∙◌, subst}
use Rattle.ht_feed.proofs.Others.{other_number, same_number}
use Rattle.ht_lanes.specs.Lanes.{AllLead, OneLeads, Side, Sides, side_at, side_of}
use Rattle.ht_lanes.specs.Leading.{all-on}

module _ {L S K : Type 0} (leads : Side L S K → Side L S K → Type 0) (stays : (a : Side L S K) → leads a a)
    (goes_on : (a b c : Side L S K) → leads a b → leads b c → leads a c) where
  stays_as : (a : Side L S K) (lane : L) (source : S) (sink : K) → lane ≡ a.lane → source ≡ a.source → sink ≡ a.sink → leads a (side_of lane source sink)
  stays_as a lane source sink p q r =
      let is : side_of lane source sink ≡ a =
      ap (λ (z : L). side_of z source sink) p ∙ (ap (λ (z : S). side_of a.lane z sink) q ∙ ap (λ (z : K). side_of a.lane a.source z) r) in
      subst (λ (z : Side L S K). leads a z) (sym is) (stays a)

  module _ {a b : Sides L S K} {at : ℕ} (one : OneLeads leads a b at) where
    each : (t : Bool) (l : L) (s : S) (x : K) (k : ℕ) → nat_eq k at ≡ t → leads (side_at a l s x k) (side_at b l s x k)
    each true l s x k e =
        subst (λ (n : ℕ). leads (side_at a l s x n) (side_at b l s x n)) (sym (same_number at k e)) (one.here l s x)
    each false l s x k e =
        let far = other_number at k e in
        stays_as (side_at a l s x k) (get_or b.lanes k l) (get_or b.sources k s) (get_or b.sinks k x)
        (one.lanes.others l k far) (one.sources.others s k far) (one.sinks.others x k far)

    pub all-one : AllLead leads a b
    all-one = record {
      lanes = one.lanes.as_many;
      sources = one.sources.as_many;
      sinks = one.sinks.as_many;
      each = λ l s t k within. each (nat_eq k at) l s t k refl;
    }

    -- behind what all did before
    pub all-more : (before : Sides L S K) → AllLead leads before a → AllLead leads before b
    all-more before did = all-on leads stays goes_on before a b did all-one
