-- Octets that are good fields, in any format.
use Rattle.std.proofs.Common.{◌≡◌, ℕ, ◌+◌, List, [], ◌∷◌, ◌++◌, length, refl, sym, ap, subst, ◌∙◌}
use Rattle.std.proofs.lemmas.List.{append-nil}
use Rattle.ht_io.specs.Devices.{Device, Takes}
use Rattle.ht_fields.specs.Grammar.{Grammar, Good}
use Rattle.ht_fields.specs.Cases.{IsEnd, IsField, IsFile, Leads, octets_of_fields}
use Rattle.ht_fields.specs.Meanings.{before, meaning}
use Rattle.ht_fields.specs.Readers.{reader_in, Gives}
use Rattle.ht_fields.proofs.Paths.{joined-append, Leads-append}
use Rattle.ht_fields.proofs.Steps.{good_fields}

-- the octets are good fields that lead from one state to another, and give these items
pub record Route {S I : Type 0} (f : Grammar S I) (s t : S) (octets : List ℕ) (items : List I) : Type 0 where
  pub fields : List (List ℕ)
  pub good : Leads f s fields items t
  pub split : octets ≡ octets_of_fields fields

pub route_none : {S I : Type 0} (f : Grammar S I) (s t : S) → s ≡ t → Route f s t [] []
route_none f s t e = record { fields = []; good = (refl, e); split = refl }

pub route_then : {S I : Type 0} (f : Grammar S I) (s t u : S) (a b : List ℕ) (x y : List I)
    → Route f s t a x → Route f t u b y → Route f s u (a ++ b) (x ++ y)
route_then f s t u a b x y p q = record {
  fields = p.fields ++ q.fields;
  good = Leads-append f s t u p.fields q.fields x y p.good q.good;
  split = ap (λ z. z ++ b) p.split ∙ (ap (λ z. octets_of_fields p.fields ++ z) q.split ∙ sym (joined-append p.fields q.fields));
}

pub route_field : {S I : Type 0} (f : Grammar S I) (s t : S) (x : List ℕ) (items : List I) → IsField (f.due s) x (Good t items) → Route f s t x items
route_field f s t x items good = record {
  fields = x ∷ [];
  good = (t, items, [], good, (refl, refl), sym (append-nil items));
  split = sym (append-nil x);
}

pub route_from : {S I : Type 0} (f : Grammar S I) (s t u : S) (a : List ℕ) (x : List I) → s ≡ t → Route f t u a x → Route f s u a x
route_from {S = S} f s t u a x e r = subst (λ (z : S). Route f z u a x) (sym e) r

pub route_to : {S I : Type 0} (f : Grammar S I) (s t u : S) (a : List ℕ) (x : List I) → t ≡ u → Route f s t a x → Route f s u a x
route_to {S = S} f s t u a x e r = subst (λ (z : S). Route f s z a x) e r

pub route_as : {S I : Type 0} (f : Grammar S I) (s t : S) (a b : List ℕ) (x : List I) → a ≡ b → Route f s t a x → Route f s t b x
route_as f s t a b x e r = subst (λ (z : List ℕ). Route f s t z x) e r

-- good fields up to the end are a file
pub route_file : {S I : Type 0} (f : Grammar S I) (t : S) (octets : List ℕ) (items : List I)
    → Route f f.start t octets items → IsEnd (f.due t) → IsFile f octets items
route_file f t octets items r e =
    (_, t, record { fields = r.fields; good = r.good; split = r.split ∙ sym (append-nil (octets_of_fields r.fields)); length_is = refl }, e)

-- what good fields give
pub route_gives : {S I : Type 0} (f : Grammar S I) (s t : S) (octets : List ℕ) (items : List I) (at behind : ℕ) (source between : Device ℕ)
    → Route f s t octets items → behind ≡ at + length octets → Takes source between octets
    → Gives (reader_in f s at source) (reader_in f t behind between) items
route_gives {I = I} f s t octets items at behind source between r place taken = record {
  taken = octets;
  octets = taken;
  place = place;
  means = λ rest.
      ap (λ (z : List ℕ). meaning f s at (z ++ rest)) r.split
      ∙ (good_fields f s t at r.fields items rest r.good
      ∙ ap (λ (n : ℕ). before items (meaning f t n rest)) (ap (λ (z : List ℕ). at + length z) (sym r.split) ∙ sym place));
}
