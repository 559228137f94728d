-- How the conclusions of a reader are joined, and what they come to over a whole text.
use Rattle.std.specs.Prelude.{◌≡◌, ◌⊎◌, ℕ, ◌+◌, ◌-◌, List, [], ◌++◌, length, take, Option, None, Some}
use Rattle.std.proofs.Common.{refl, ap, ◌∙◌, sym, subst, inl, inr, append_assoc, arith, length-append}
use Rattle.std.proofs.lemmas.List.{append-nil}
use Rattle.std.proofs.Math.Seq.{take-append-add}
use Rattle.ht_io.specs.Devices.{Device, Takes}
use Rattle.ht_io.specs.declared.faults.FormatFault.{FormatFault}
use Rattle.ht_io.specs.declared.faults.InFault.{InFault}
use Rattle.ht_io.specs.declared.faults.InFault.TheVariants.{Format, Read, NoMemory}
use Rattle.ht_fields.specs.Grammar.{Grammar}
use Rattle.ht_fields.specs.Cases.{IsFile, IsClean}
use Rattle.ht_fields.specs.Meanings.{Meaning, before, refused, meaning}
use Rattle.ht_fields.specs.Readers.{ReaderView, Gives, EndsAt, Refuses, RunsOut, Finishes, IsEarly, Breaks, Stops}
use Rattle.ht_io.proofs.Calls.{takes-none, takes-append, takes-all, takes-known, takes_all-known}
use Rattle.ht_fields.proofs.Steps.{before-before}
use Rattle.ht_fields.proofs.Answered.{alone, file_found, clean_found}

-- Nothing was taken yet.
pub gives_none : {I : Type 0} (old : ReaderView I) → Gives old old []
gives_none old = record { taken = []; octets = takes-none old.source; place = omega arith; means = λ rest. refl }

farther : (old mid new : ℕ) (a b : List ℕ) → mid ≡ old + length a → new ≡ mid + length b → new ≡ old + length (a ++ b)
farther old mid new a b p q = omega (arith, length-append a b)

-- Items, and then more items.
pub gives_more : {I : Type 0} (old mid new : ReaderView I) (items more : List I) → Gives old mid items → Gives mid new more → Gives old new (items ++ more)
gives_more old mid new items more a b =
    record {
      taken = a.taken ++ b.taken;
      octets = takes-append old.source mid.source new.source a.taken b.taken a.octets b.octets;
      place = farther old.at mid.at new.at a.taken b.taken a.place b.place;
      means = λ rest. ap old.means (append_assoc a.taken b.taken rest)
          ∙ (a.means (b.taken ++ rest) ∙ (ap (before items) (b.means rest) ∙ before-before items more (new.means rest)));
    }

-- Behind octets that give items the field at fault ends where it ended.
pub ends_behind : {I : Type 0} (old mid : ReaderView I) (items : List I) (a : Gives old mid items) (taken : List ℕ) (fault : FormatFault)
    → EndsAt mid taken fault → EndsAt old (a.taken ++ taken) fault
ends_behind {I = I} old mid items a taken fault b =
    let place = a.place in
    let all : length (a.taken ++ taken) ≡ length a.taken + length taken = length-append a.taken taken in
    record {
      kind = b.kind;
      behind = omega (arith, b.behind, place);
      within = omega (arith, b.within, place, all);
      early = λ n from few.
          let m = n - length a.taken in
          let so : length a.taken + m ≡ n = omega (arith, b.behind, place, from) in
          let total : mid.at + m ≡ old.at + n = omega (arith, place, so) in
          let is : old.means (take n (a.taken ++ taken)) ≡ before items (mid.means (take m taken)) =
          ap old.means (ap (λ k. take k (a.taken ++ taken)) (sym so) ∙ take-append-add a.taken taken m) ∙ a.means (take m taken) in
          subst (λ (z : Meaning I). IsEarly (old.at + n) z.fault) (sym is)
          (subst (λ k. IsEarly k (mid.means (take m taken)).fault) total
          (b.early m (omega (arith, from, total)) (omega (arith, few, all, so))));
      trailing = λ e. omega (arith, b.trailing e, place, all);
    }

-- Octets that give no item, and then what follows them.
module _ {I : Type 0} (old mid : ReaderView I) (after : Device ℕ) where
  -- a fault
  pub gives_refuses : (fault : FormatFault) → Gives old mid [] → Refuses mid after fault → Refuses old after fault
  gives_refuses fault a b = record {
    taken = a.taken ++ b.taken;
    octets = takes-append old.source mid.source after a.taken b.taken a.octets b.octets;
    means = λ rest. ap old.means (append_assoc a.taken b.taken rest) ∙ (a.means (b.taken ++ rest) ∙ ap (before []) (b.means rest));
    ends = ends_behind old mid [] a b.taken fault b.ends;
  }

  -- an early end
  pub gives_runs_out : (fault : FormatFault) → Gives old mid [] → RunsOut mid after fault → RunsOut old after fault
  gives_runs_out fault a b = record {
    taken = a.taken ++ b.taken;
    octets = takes-all old.source mid.source after a.taken b.taken a.octets b.octets;
    kind = b.kind;
    place = farther old.at mid.at fault.offset a.taken b.taken a.place b.place;
    means = a.means b.taken ∙ ap (before []) b.means;
  }

  -- a failing source
  pub gives_breaks : Gives old mid [] → Breaks mid after → Breaks old after
  gives_breaks a b =
      let is : old.means (a.taken ++ b.taken) ≡ mid.means b.taken = a.means b.taken in
      let total : mid.at + length b.taken ≡ old.at + length (a.taken ++ b.taken) = farther old.at mid.at
      (mid.at + length b.taken) a.taken b.taken a.place refl in
      record {
        taken = a.taken ++ b.taken;
        octets = takes-append old.source mid.source after a.taken b.taken a.octets b.octets;
        items = ap (λ (m : Meaning I). m.items) is ∙ b.items;
        early = subst (λ (m : Meaning I). IsEarly (old.at + length (a.taken ++ b.taken)) m.fault)
            (sym is) (subst (λ n. IsEarly n (mid.means b.taken).fault) total b.early);
      }

  -- a stop
  pub gives_stops : (answer : InFault) → Gives old mid [] → Stops mid after answer → Stops old after answer
  gives_stops (Format fault) a (inl b) = inl (gives_refuses fault a b)
  gives_stops (Format fault) a (inr b) = inr (gives_runs_out fault a b)
  gives_stops Read a b = gives_breaks a b
  gives_stops NoMemory a b = tt

-- What a text that is known means, where items were given.
pub known_gives : {I : Type 0} (old new : ReaderView I) (items : List I) (b : List ℕ) → Gives old new items → old.source.known ≡ Some b
    → (rest : List ℕ) × (new.source.known ≡ Some rest) × (old.means b ≡ before items (new.means rest))
known_gives old new items b g is =
    let front = takes-known old.source new.source b g.taken g.octets is in
    (front.0, front.1, ap old.means front.2 ∙ g.means front.0)

-- What a text that is known means, where the reader refused it at once.
pub known_stops : {I : Type 0} (old : ReaderView I) (after : Device ℕ) (fault : FormatFault) (b : List ℕ)
    → Stops old after (Format fault) → old.source.known ≡ Some b → old.means b ≡ refused fault.kind fault.offset
known_stops old after fault b (inl r) is =
    let front = takes-known old.source after b r.taken r.octets is in
    ap old.means front.2 ∙ r.means front.0
known_stops old after fault b (inr r) is =
    ap old.means (takes_all-known old.source after b r.taken r.octets is).1 ∙ r.means

-- What a text that is known means, where items were given and then it was refused.
pub known_refused : {I : Type 0} (old mid : ReaderView I) (after : Device ℕ) (items : List I) (fault : FormatFault) (b : List ℕ)
    → Gives old mid items → Stops mid after (Format fault) → old.source.known ≡ Some b → old.means b ≡ record { items = items; fault = Some fault }
known_refused old mid after items fault b g s is =
    let known = known_gives old mid items b g is in
    known.2 ∙ (ap (before items) (known_stops mid after fault known.0 s known.1) ∙ alone items (Some fault))

-- What a text that is known means, where items were given and then it was finished.
pub known_finished : {I : Type 0} (old mid : ReaderView I) (after : Device ℕ) (items : List I) (b : List ℕ)
    → Gives old mid items → Finishes mid after → old.source.known ≡ Some b
    → (after.known ≡ Some []) × (old.means b ≡ record { items = items; fault = None })
known_finished old mid after items b g s is =
    let known = known_gives old mid items b g is in
    let none = takes_all-known mid.source after known.0 [] s.octets known.1 in
    (none.0, known.2 ∙ (ap (before items) (ap mid.means none.1 ∙ s.means) ∙ alone items None))

-- What the octets taken mean alone, where items were given and then the source failed.
pub record Broke {I : Type 0} (old : ReaderView I) (after : Device ℕ) (items : List I) : Type 0 where
  pub taken : List ℕ
  pub octets : Takes old.source after taken
  pub means : (old.means taken).items ≡ items
  pub early : IsEarly (old.at + length taken) (old.means taken).fault

pub gives_broke : {I : Type 0} (old mid : ReaderView I) (after : Device ℕ) (items : List I) → Gives old mid items → Breaks mid after → Broke old after items
gives_broke {I = I} old mid after items a b =
    let is : old.means (a.taken ++ b.taken) ≡ before items (mid.means b.taken) = a.means b.taken in
    let total : mid.at + length b.taken ≡ old.at + length (a.taken ++ b.taken) = farther old.at mid.at (mid.at + length b.taken) a.taken b.taken a.place refl in
    record {
      taken = a.taken ++ b.taken;
      octets = takes-append old.source mid.source after a.taken b.taken a.octets b.octets;
      means = ap (λ (m : Meaning I). m.items) is ∙ (ap (λ (z : List I). items ++ z) b.items ∙ append-nil items);
      early = subst (λ (m : Meaning I). IsEarly (old.at + length (a.taken ++ b.taken)) m.fault)
          (sym is) (subst (λ n. IsEarly n (mid.means b.taken).fault) total b.early);
    }

early_at : {S I : Type 0} (f : Grammar S I) (octets : List ℕ) (fault : Option FormatFault)
    → (meaning f f.start 0 octets).fault ≡ fault → IsEarly (length octets) fault
    → IsFile f octets (meaning f f.start 0 octets).items ⊎ IsClean f octets (meaning f f.start 0 octets).items
early_at f octets None is e = inl (file_found f octets is)
early_at f octets (Some fault) is e = inr (clean_found f octets (is ∙ ap (λ (z : FormatFault). Some z) e))

-- Octets with no fault but their early end are a file, or clean.
pub early_text : {S I : Type 0} (f : Grammar S I) (octets : List ℕ)
    → IsEarly (0 + length octets) (meaning f f.start 0 octets).fault
    → IsFile f octets (meaning f f.start 0 octets).items ⊎ IsClean f octets (meaning f f.start 0 octets).items
early_text f octets e =
    let total : 0 + length octets ≡ length octets = omega arith in
    early_at f octets (meaning f f.start 0 octets).fault refl (subst (λ n. IsEarly n (meaning f f.start 0 octets).fault) total e)
