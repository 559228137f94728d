-- What a run over blocks comes to, said of the octets of a format.
use Rattle.std.specs.Prelude.{◌≡◌, ℕ, ◌+◌, ◌<◌, List, length, take, Some, Result, MatchResult}
use Rattle.std.proofs.Common.{refl, ap, ◌∙◌, sym, subst, inl, inr, arith, length-take}
use Rattle.std.proofs.Math.Path.{fun_ext}
use Rattle.std.proofs.lemmas.Option.{IfSome_then}
use Rattle.ht_io.specs.Devices.{Device}
use Rattle.ht_io.specs.declared.faults.FormatFault.{FormatFault}
use Rattle.ht_fields.specs.Grammar.{Grammar}
use Rattle.ht_fields.specs.Meanings.{Meaning, meaning}
use Rattle.ht_fields.specs.Readers.{EndsAt, IsEarly, ReaderView}
use Rattle.ht_runs.specs.Outcomes.{IsFrontOf, TellsBroken, TellsPieces, TellsRefused, TellsWhole}
use Rattle.ht_runs.specs.declared.faults.RunFault.{RunFault}
use Rattle.ht_runs.proofs.Fronts.{before_end, before_fault}
use Rattle.ht_runs.proofs.Outcomes.{start as start_of}
use Rattle.ht_feed.specs.declared.ended.Ended.{Ended}
use Rattle.ht_feed.specs.Consumers.{Telling}
use Rattle.ht_feed.specs.Items.{Item, frames_of, headed, jobs_of}
use Rattle.ht_feed.specs.Reading.{view}
use Rattle.ht_feed.specs.Outcomes.{
  Comes,
  EndsWith,
  StopsAs as BlockStops,
  EndsBroken as BlockBroken,
  EndsPartly as BlockPieces,
  EndsRefused as BlockRefused,
  EndsWhole as BlockWhole,
  pieces_of,
}
use Rattle.ht_receive.specs.Endings.{seen_as}

-- what octets mean in a format
abbrev pub means_in : {S I : Type 0} → Grammar S I → List ℕ → Meaning I
means_in f octets = meaning f f.start 0 octets

-- a format, and how a reader of blocks sees its items
module _ {S I H : Type 0} (f : Grammar S I) (items_as : List I → List (Item H)) where
  -- a reader of blocks in front of an input
  abbrev pub front : Device ℕ → ReaderView (Item H)
  front source = record { means = λ octets. seen_as items_as (means_in f octets); at = 0; source = source }

  -- these pieces are put of octets; the source and the device, before and after
  module _ {P : Type 0} (pieces : List ℕ → List P) (source source' : Device ℕ) (device device' : Device P) where
    front_is : (taken : List ℕ) (n : ℕ) → n < length taken → IsEarly n (means_in f (take n taken)).fault → IsFrontOf f (take n taken)
    front_is taken n few early =
        let long : length (take n taken) ≡ n = omega (arith, few, length-take n taken) in
        subst (λ k. IsEarly k (means_in f (take n taken)).fault) (sym long) early

    pub ends_at : (taken : List ℕ) (fault : FormatFault) (n : ℕ) → (means_in f taken).fault ≡ Some fault
        → EndsWith (front source) pieces source' device device' taken fault → n < length taken → IsFrontOf f (take n taken)
    ends_at taken fault n is (inl e) few =
        let at : EndsAt (start_of f source) taken fault =
        record { kind = e.kind; behind = e.behind; within = e.within; early = e.early; trailing = e.trailing } in
        front_is taken n few (before_end f (start_of f source) taken fault n refl (λ xs. refl) is at few)
    ends_at taken fault n is (inr e) few =
        let place : fault.offset ≡ 0 + length taken = ap (λ (x : FormatFault). x.offset) e in
        front_is taken n few (before_fault f taken fault n is (omega (arith, few, place)) few)

    -- a whole file, of which this follows from the numbers of its frames and of its jobs
    pub whole : (Says : List ℕ → Type 0) (ended : Ended)
        → ((octets : List ℕ) → ended.frames ≡ frames_of (items_as (means_in f octets).items)
        → ended.jobs ≡ length (jobs_of (items_as (means_in f octets).items))
        → Says octets)
        → BlockWhole (front source) pieces source' device device' ended → TellsWhole f pieces source source' device device' Says
    whole Says ended says w =
        record { taken = w.taken; octets = w.octets; whole = w.whole; says = says w.taken w.frames_are w.jobs_are; put = w.put }

    -- an input with a fault, where octets that the reader sees alike mean the same
    pub refused : ((xs ys : List ℕ) → seen_as items_as (means_in f xs) ≡ seen_as items_as (means_in f ys) → means_in f xs ≡ means_in f ys)
        → (fault : FormatFault)
        → BlockRefused (front source) pieces source' device device' fault → TellsRefused f pieces source source' device device' fault
    refused same fault r =
        record {
          taken = r.taken;
          octets = r.octets;
          refused = r.refused;
          ends = λ n few. ends_at r.taken fault n r.refused r.ends few;
          comes = IfSome_then source.known r.comes (λ all is. same all r.taken is);
          put = r.put;
        }

    pub broken : BlockBroken (front source) pieces source' device device' → TellsBroken f pieces source source' device device'
    broken b =
        let place : 0 + length b.taken ≡ length b.taken = omega arith in
        record { taken = b.taken; octets = b.octets; front = subst (λ n. IsEarly n (means_in f b.taken).fault) place b.front; put = b.put }

    pub in_part : BlockPieces (front source) pieces source' device device' → TellsPieces f pieces source source' device device'
    in_part p = record { taken = p.taken; octets = p.octets; put = p.put; of_all = p.of_all }

  -- a run from a reader in front of an input came to this, said of the octets
  pub from_front : {R P : Type 0} (means_of : R → List ℕ → Meaning (Item H)) (at : R → ℕ) (reader : R) (head : H) (pieces : List ℕ → List P)
      (source source' : Device ℕ) (a b : Telling H P) (result : Result Ended RunFault)
      → ((octets : List ℕ) → means_of reader octets ≡ seen_as items_as (means_in f octets)) → at reader ≡ 0
      → ((octets : List ℕ) → a.pieces (headed head (items_as (means_in f octets).items)) ≡ pieces octets)
      → Comes means_of at reader head source source' a b result
      → MatchResult result (BlockWhole (front source) pieces source' a.device b.device) (BlockStops (front source) pieces source' a.device b.device)
  from_front {P = P} means_of at reader head pieces source source' a b result same zero are came =
      let is : view means_of at reader source ≡ front source =
      ap (λ (m : List ℕ → Meaning (Item H)). let v : ReaderView (Item H) = record { means = m; at = at reader; source = source } in v) (fun_ext same)
      ∙ ap (λ (n : ℕ). let v : ReaderView (Item H) = record { means = λ octets. seen_as items_as (means_in f octets); at = n; source = source } in v) zero in
      let pieces_same : pieces_of a.pieces head (front source) ≡ pieces = fun_ext are in
      subst (λ (g : List ℕ → List P).
      MatchResult result (BlockWhole (front source) g source' a.device b.device) (BlockStops (front source) g source' a.device b.device)) pieces_same
      (subst (λ (v : ReaderView (Item H)).
      MatchResult result (BlockWhole v (pieces_of a.pieces head v) source' a.device b.device)
      (BlockStops v (pieces_of a.pieces head v) source' a.device b.device)) is came)
