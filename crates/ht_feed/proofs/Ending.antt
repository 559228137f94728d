-- What it comes to that an input is read and its hits are taken, from what its reader gave.
use Rattle.std.specs.Prelude.{◌≡◌, ◌⊎◌, ℕ, ◌+◌, List, [], ◌++◌, length, Option, None, Some, IfSome}
use Rattle.std.proofs.Common.{refl, ap, ◌∙◌, sym, subst, inl, inr, append_assoc, append-nil, arith, length-append}
use Rattle.ht_io.specs.Devices.{Device, Takes, Grows, GrowsByPart}
use Rattle.ht_io.proofs.Calls.{takes-append, takes-all, takes-none, grows_by_part-none}
use Rattle.ht_io.specs.declared.faults.FormatFault.{FormatFault}
use Rattle.ht_io.specs.declared.faults.Kind.TheVariants.{Truncated}
use Rattle.ht_fields.specs.Meanings.{Meaning, before}
use Rattle.ht_fields.specs.Readers.{ReaderView, Gives, Refuses, RunsOut, Breaks, Completes}
use Rattle.ht_fields.proofs.Answered.{alone}
use Rattle.ht_fields.proofs.Joins.{gives_broke, ends_behind}
use Rattle.ht_runs.proofs.Known.{known, known_all, takes_of}
use Rattle.ht_feed.specs.declared.ended.Ended.{Ended}
use Rattle.ht_feed.specs.declared.stop.Stop.{Stop}
use Rattle.ht_feed.specs.declared.stop.Stop.TheVariants.{Whole, Refused, Broken, Lacking}
use Rattle.ht_feed.specs.Items.{Item, Headed, headed, last_head, frames_of, jobs_of}
use Rattle.ht_feed.specs.Consumers.{PutsPartOf}
use Rattle.ht_feed.specs.Leading.{headed-append}
use Rattle.ht_feed.specs.Outcomes.{EndsBroken, EndsPartly, EndsRefused, EndsWhole, pieces_of}
use Rattle.ht_feed.specs.Reading.{Closes, ReadsBy}

-- what a meaning's items and fault are
items_are : {I : Type 0} (m : Meaning I) (items : List I) (fault : Option FormatFault) → m ≡ record { items = items; fault = fault } → m.items ≡ items
items_are {I = I} m items fault is = ap (λ (x : Meaning I). x.items) is

fault_is : {I : Type 0} (m : Meaning I) (items : List I) (fault : Option FormatFault) → m ≡ record { items = items; fault = fault } → m.fault ≡ fault
fault_is {I = I} m items fault is = ap (λ (x : Meaning I). x.fault) is

-- the reader in front of an input; a consumer that puts this of jobs; the head that stands for the one that came last; the
-- source after; and the device before and after
module _ {H P : Type 0} (start : ReaderView (Item H)) (pieces : List (Headed H) → List P) (head : H) (source' : Device ℕ) (device device' : Device P) where
  abbrev all_pieces : List ℕ → List P
  all_pieces = pieces_of pieces head start

  -- the items that came, and all pieces of their jobs were put
  module _ (mid : ReaderView (Item H)) (items : List (Item H)) (g : Gives start mid items) (put : Grows device device' (pieces (headed head items))) where
    puts_all : (octets : List ℕ) → (start.means octets).items ≡ items → Grows device device' (all_pieces octets)
    puts_all octets is = subst (λ (xs : List (Item H)). Grows device device' (pieces (headed head xs))) (sym is) put

    pub whole : (ended : Ended) → Completes mid source' → ended.frames ≡ frames_of items → ended.jobs ≡ length (jobs_of items)
        → EndsWhole start all_pieces source' device device' ended
    whole ended c f j =
        let taken = g.taken ++ c.taken in
        let here : start.means taken ≡ record { items = items; fault = None } = g.means c.taken ∙ (ap (before items) c.means ∙ alone items None) in
        let is = items_are (start.means taken) items None here in
        record {
          taken = taken;
          octets = takes-all start.source mid.source source' g.taken c.taken g.octets c.octets;
          whole = fault_is (start.means taken) items None here;
          frames_are = f ∙ ap frames_of (sym is);
          jobs_are = j ∙ ap (λ (xs : List (Item H)). length (jobs_of xs)) (sym is);
          put = puts_all taken is;
        }

    refused_at : (fault : FormatFault) → Refuses mid source' fault → EndsRefused start all_pieces source' device device' fault
    refused_at fault r =
        let taken = g.taken ++ r.taken in
        let all_mean : (rest : List ℕ) → start.means (taken ++ rest) ≡ record { items = items; fault = Some fault } =
        λ rest. ap start.means (append_assoc g.taken r.taken rest)
        ∙ (g.means (r.taken ++ rest) ∙ (ap (before items) (r.means rest) ∙ alone items (Some fault))) in
        let here : start.means taken ≡ record { items = items; fault = Some fault } = ap start.means (sym (append-nil taken)) ∙ all_mean [] in
        let octets = takes-append start.source mid.source source' g.taken r.taken g.octets r.octets in
        record {
          taken = taken;
          octets = octets;
          refused = fault_is (start.means taken) items (Some fault) here;
          ends = inl (ends_behind start mid items g r.taken fault r.ends);
          comes = known start.source.known source'.known taken (λ all. start.means all ≡ start.means taken) octets (λ rest. all_mean rest ∙ sym here);
          put = puts_all taken (items_are (start.means taken) items (Some fault) here);
        }

    refused_early : (fault : FormatFault) → RunsOut mid source' fault → EndsRefused start all_pieces source' device device' fault
    refused_early fault r =
        let taken = g.taken ++ r.taken in
        let here : start.means taken ≡ record { items = items; fault = Some fault } = g.means r.taken
        ∙ (ap (before items) r.means ∙ alone items (Some fault)) in
        let all = takes-all start.source mid.source source' g.taken r.taken g.octets r.octets in
        let total : fault.offset ≡ start.at + length taken = let e = r.place in let h = g.place in omega (arith, e, h, length-append g.taken r.taken) in
        record {
          taken = taken;
          octets = takes_of start.source source' taken all;
          refused = fault_is (start.means taken) items (Some fault) here;
          ends = inr (ap (λ k. record { kind = k; offset = fault.offset }) r.kind ∙ ap (λ n. record { kind = Truncated; offset = n }) total);
          comes = known_all start.source.known source'.known taken (λ octets. start.means octets ≡ start.means taken) all refl;
          put = puts_all taken (items_are (start.means taken) items (Some fault) here);
        }

    pub refused : (fault : FormatFault) → Refuses mid source' fault ⊎ RunsOut mid source' fault → EndsRefused start all_pieces source' device device' fault
    refused fault (inl r) = refused_at fault r
    refused fault (inr r) = refused_early fault r

    pub broken : Breaks mid source' → EndsBroken start all_pieces source' device device'
    broken b =
        let broke = gives_broke start mid source' items g b in
        record { taken = broke.taken; octets = broke.octets; front = broke.early; put = puts_all broke.taken broke.means }

  -- the items are the first of those that the octets give
  abbrev StartsWith : List (Item H) → List ℕ → Type 0
  StartsWith items octets = (more : List (Item H)) × ((start.means octets).items ≡ items ++ more)

  -- octets were taken that give these items first, and so do all that were left
  record Saw (items : List (Item H)) : Type 0 where
    pub taken : List ℕ
    pub octets : Takes start.source source' taken
    pub front : StartsWith items taken
    pub of_all : IfSome start.source.known (StartsWith items)

  behind : (mid : ReaderView (Item H)) (items : List (Item H)) (g : Gives start mid items) (xs rest : List ℕ) → StartsWith items ((g.taken ++ xs) ++ rest)
  behind mid items g xs rest = (
    (mid.means (xs ++ rest)).items,
    ap (λ (m : Meaning (Item H)). m.items) (ap start.means (append_assoc g.taken xs rest) ∙ g.means (xs ++ rest)),
  )

  saw : (mid : ReaderView (Item H)) (items : List (Item H)) (g : Gives start mid items) (xs : List ℕ) → Takes mid.source source' xs → Saw items
  saw mid items g xs takes =
      let taken = g.taken ++ xs in
      let octets = takes-append start.source mid.source source' g.taken xs g.octets takes in
      record {
        taken = taken;
        octets = octets;
        front = subst (StartsWith items) (append-nil taken) (behind mid items g xs []);
        of_all = known start.source.known source'.known taken (StartsWith items) octets (behind mid items g xs);
      }

  saw_closes : (mid : ReaderView (Item H)) (items : List (Item H)) (stop : Stop) → Gives start mid items → Closes mid source' stop → Saw items
  saw_closes mid items Whole g c = saw mid items g c.taken (takes_of mid.source source' c.taken c.octets)
  saw_closes mid items (Refused fault) g (inl c) = saw mid items g c.taken c.octets
  saw_closes mid items (Refused fault) g (inr c) = saw mid items g c.taken (takes_of mid.source source' c.taken c.octets)
  saw_closes mid items Broken g c = saw mid items g c.0.taken c.0.octets
  saw_closes mid items Lacking g c = saw mid items g c.taken c.octets

  saw_reads : (mid : ReaderView (Item H)) (items : List (Item H)) (stop : Option Stop) → mid.source ≡ source' → ReadsBy None stop start mid items → Saw items
  saw_reads mid items None is g = saw mid items g [] (subst (λ (s : Device ℕ). Takes mid.source s []) is (takes-none mid.source))
  saw_reads mid items (Some stop) is c = saw_closes c.between items stop c.gives (subst (λ (s : Device ℕ). Closes c.between s stop) is c.closes)

  part_of : (octets : List ℕ) (items : List (Item H)) (taken rest : List (Headed H))
      → StartsWith items octets → headed head items ≡ taken ++ rest → PutsPartOf device device' pieces taken → GrowsByPart device device' (all_pieces octets)
  part_of octets items taken rest front is part =
      let more = headed (last_head head items) front.0 in
      let all : taken ++ (rest ++ more) ≡ headed head (start.means octets).items =
      sym (append_assoc taken rest more)
      ∙ (ap (λ (xs : List (Headed H)). xs ++ more) (sym is)
      ∙ (sym (headed-append head items front.0) ∙ ap (headed head) (sym front.1))) in
      subst (λ (xs : List (Headed H)). GrowsByPart device device' (pieces xs)) all (part (rest ++ more))

  each : (left : Option (List ℕ)) (items : List (Item H)) → IfSome left (StartsWith items)
      → ((octets : List ℕ) → StartsWith items octets → GrowsByPart device device' (all_pieces octets))
      → IfSome left (λ all. GrowsByPart device device' (all_pieces all))
  each None items all part = tt
  each (Some octets) items all part = part octets all

  -- a part was put of the pieces of the first jobs of these items
  pub in_part : (mid : ReaderView (Item H)) (items : List (Item H)) (stop : Option Stop) (taken rest : List (Headed H)) → mid.source ≡ source'
      → ReadsBy None stop start mid items → headed head items ≡ taken ++ rest → PutsPartOf device device' pieces taken
      → EndsPartly start all_pieces source' device device'
  in_part mid items stop taken rest is reads jobs part =
      let s = saw_reads mid items stop is reads in
      let puts : (octets : List ℕ) → StartsWith items octets
      → GrowsByPart device device' (all_pieces octets) = λ octets front. part_of octets items taken rest front jobs part in
      record { taken = s.taken; octets = s.octets; put = puts s.taken s.front; of_all = each start.source.known items s.of_all puts }

-- nothing was taken and nothing put
pub told_nothing : {H P : Type 0} (start : ReaderView (Item H)) (pieces : List ℕ → List P) (device : Device P)
    → EndsPartly start pieces start.source device device
told_nothing start pieces device =
    record {
      taken = [];
      octets = takes-none start.source;
      put = grows_by_part-none device (pieces []);
      of_all = known start.source.known start.source.known [] (λ all. GrowsByPart device device (pieces all))
          (takes-none start.source) (λ rest. grows_by_part-none device (pieces rest));
    }
