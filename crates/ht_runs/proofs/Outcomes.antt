-- What it comes to that a file is read and pieces of it are put, from what the reader gave and how it stopped.
use Rattle.std.specs.Prelude.{◌≡◌, ◌⊎◌, ℕ, ◌+◌, ◌<◌, List, [], ◌++◌, length, take, Option, Some, None, IfSome}
use Rattle.std.proofs.Common.{refl, ap, ◌∙◌, sym, subst, inl, inr, append_assoc, append-nil, arith, length-append, length-take}
use Rattle.ht_io.specs.Devices.{Device, Takes, TakesAll, Grows, GrowsByPart}
use Rattle.ht_io.proofs.Calls.{takes-append, takes-all, takes-none, grows_by_part-none}
use Rattle.ht_io.specs.declared.faults.FormatFault.{FormatFault}
use Rattle.ht_fields.specs.Grammar.{Grammar}
use Rattle.ht_fields.specs.Meanings.{Meaning, before, ended, meaning}
use Rattle.ht_fields.specs.Readers.{ReaderView, Gives, Refuses, RunsOut, Breaks, IsEarly, reader_in}
use Rattle.ht_fields.proofs.Answered.{alone}
use Rattle.ht_fields.proofs.Joins.{gives_broke, ends_behind}
use Rattle.ht_runs.specs.Outcomes.{IsFrontOf, TellsWhole, TellsRefused, TellsBroken, TellsPieces}
use Rattle.ht_runs.proofs.Fronts.{before_fault, before_end}
use Rattle.ht_runs.proofs.Known.{known, known_all, takes_of}

-- a format, and the source before
module _ {S I : Type 0} (f : Grammar S I) (source : Device ℕ) where
  -- a reader in front of a file
  abbrev pub start : ReaderView I
  start = reader_in f f.start 0 source

  -- what octets mean in the format
  abbrev means : List ℕ → Meaning I
  means octets = meaning f f.start 0 octets

  items_of : (octets : List ℕ) (items : List I) (fault : Option FormatFault)
      → means octets ≡ record { items = items; fault = fault } → (means octets).items ≡ items
  items_of octets items fault is = ap (λ (m : Meaning I). m.items) is

  fault_is : (octets : List ℕ) (items : List I) (fault : Option FormatFault)
      → means octets ≡ record { items = items; fault = fault } → (means octets).fault ≡ fault
  fault_is octets items fault is = ap (λ (m : Meaning I). m.fault) is

  front_is : (octets : List ℕ) (n : ℕ) → n < length octets → IsEarly n (means (take n octets)).fault → IsFrontOf f (take n octets)
  front_is octets n few early =
      let long : length (take n octets) ≡ n = omega (arith, few, length-take n octets) in
      subst (λ k. IsEarly k (means (take n octets)).fault) (sym long) early

  -- the source after; the pieces of octets with these items, and the device before and after them
  module _ {P : Type 0} (source' : Device ℕ) (pieces : List ℕ → List P) (device device' : Device P) (items : List I) (put : List P)
      (are : (octets : List ℕ) → (means octets).items ≡ items → put ≡ pieces octets) where
    puts_all : (octets : List ℕ) → (means octets).items ≡ items → Grows device device' put → Grows device device' (pieces octets)
    puts_all octets is grows = subst (λ (ps : List P). Grows device device' ps) (are octets is) grows

    -- all that was left gives these items and no fault, and their pieces were put
    pub told_whole : (mid : ReaderView I) (rest : List ℕ) (Says : List ℕ → Type 0) → Gives start mid items → TakesAll mid.source source' rest
        → mid.means rest ≡ ended → ((octets : List ℕ) → (means octets).items ≡ items → Says octets) → Grows device device' put
        → TellsWhole f pieces source source' device device' Says
    told_whole mid rest Says g octets none says grows =
        let taken = g.taken ++ rest in
        let here : means taken ≡ record { items = items; fault = None } = g.means rest ∙ (ap (before items) none ∙ alone items None) in
        let is = items_of taken items None here in
        record {
          taken = taken;
          octets = takes-all source mid.source source' g.taken rest g.octets octets;
          whole = fault_is taken items None here;
          says = says taken is;
          put = puts_all taken is grows;
        }

    -- a bad field, or an octet behind the file
    refused_at : (mid : ReaderView I) (fault : FormatFault) → Gives start mid items → Refuses mid source' fault → Grows device device' put
        → TellsRefused f pieces source source' device device' fault
    refused_at mid fault g r grows =
        let taken = g.taken ++ r.taken in
        let all_mean : (rest : List ℕ) → means (taken ++ rest) ≡ record { items = items; fault = Some fault } =
        λ rest. ap means (append_assoc g.taken r.taken rest) ∙ (g.means (r.taken ++ rest) ∙ (ap (before items) (r.means rest) ∙ alone items (Some fault))) in
        let here : means taken ≡ record { items = items; fault = Some fault } = ap means (sym (append-nil taken)) ∙ all_mean [] in
        let is = fault_is taken items (Some fault) here in
        let octets = takes-append source mid.source source' g.taken r.taken g.octets r.octets in
        let ends = ends_behind start mid items g r.taken fault r.ends in
        record {
          taken = taken;
          octets = octets;
          refused = is;
          ends = λ n few. front_is taken n few (before_end f start taken fault n refl (λ xs. refl) is ends few);
          comes = known source.known source'.known taken (λ all. means all ≡ means taken) octets (λ rest. all_mean rest ∙ sym here);
          put = puts_all taken (items_of taken items (Some fault) here) grows;
        }

    -- an early end
    refused_early : (mid : ReaderView I) (fault : FormatFault) → Gives start mid items → RunsOut mid source' fault → Grows device device' put
        → TellsRefused f pieces source source' device device' fault
    refused_early mid fault g r grows =
        let taken = g.taken ++ r.taken in
        let here : means taken ≡ record { items = items; fault = Some fault } = g.means r.taken ∙ (ap (before items) r.means ∙ alone items (Some fault)) in
        let is = fault_is taken items (Some fault) here in
        let all = takes-all source mid.source source' g.taken r.taken g.octets r.octets in
        let total : fault.offset ≡ length taken = let e = r.place in let h = g.place in omega (arith, e, h, length-append g.taken r.taken) in
        record {
          taken = taken;
          octets = takes_of source source' taken all;
          refused = is;
          ends = λ n few. front_is taken n few (before_fault f taken fault n is (omega (arith, few, total)) few);
          comes = known_all source.known source'.known taken (λ octets. means octets ≡ means taken) all refl;
          put = puts_all taken (items_of taken items (Some fault) here) grows;
        }

    -- the first fault was found behind these items, and their pieces were put
    pub told_refused : (mid : ReaderView I) (fault : FormatFault) → Gives start mid items → Refuses mid source' fault ⊎ RunsOut mid source' fault
        → Grows device device' put → TellsRefused f pieces source source' device device' fault
    told_refused mid fault g (inl r) grows = refused_at mid fault g r grows
    told_refused mid fault g (inr r) grows = refused_early mid fault g r grows

    -- the source failed behind these items, and their pieces were put
    pub told_broken : (mid : ReaderView I) → Gives start mid items → Breaks mid source' → Grows device device' put
        → TellsBroken f pieces source source' device device'
    told_broken mid g b grows =
        let broke = gives_broke start mid source' items g b in
        let place : 0 + length broke.taken ≡ length broke.taken = omega arith in
        record {
          taken = broke.taken;
          octets = broke.octets;
          front = subst (λ n. IsEarly n (means broke.taken).fault) place broke.early;
          put = puts_all broke.taken broke.means grows;
        }

  -- the items are the first of those that the octets give
  abbrev pub StartsWith : List I → List ℕ → Type 0
  StartsWith items octets = (more : List I) × ((means octets).items ≡ items ++ more)

  -- octets were taken that give these items first, and so do all that were left
  pub record Saw (source' : Device ℕ) (items : List I) : Type 0 where
    pub taken : List ℕ
    pub octets : Takes source source' taken
    pub front : StartsWith items taken
    pub of_all : IfSome source.known (StartsWith items)

  saw_more : (source' : Device ℕ) (items : List I) (taken : List ℕ) → Takes source source' taken
      → ((rest : List ℕ) → StartsWith items (taken ++ rest)) → Saw source' items
  saw_more source' items taken octets all =
      record {
        taken = taken;
        octets = octets;
        front = subst (StartsWith items) (append-nil taken) (all []);
        of_all = known source.known source'.known taken (StartsWith items) octets all;
      }

  pub saw_all : (source' : Device ℕ) (items : List I) (taken : List ℕ) → TakesAll source source' taken → StartsWith items taken → Saw source' items
  saw_all source' items taken octets front =
      record {
        taken = taken;
        octets = takes_of source source' taken octets;
        front = front;
        of_all = known_all source.known source'.known taken (StartsWith items) octets front;
      }

  behind : (mid : ReaderView I) (items : List I) (g : Gives start mid items) (xs rest : List ℕ) → StartsWith items ((g.taken ++ xs) ++ rest)
  behind mid items g xs rest = (
    (mid.means (xs ++ rest)).items,
    ap (λ (m : Meaning I). m.items) (ap means (append_assoc g.taken xs rest) ∙ g.means (xs ++ rest)),
  )

  -- a reader gave the items, and perhaps took more octets or all of them
  pub saw_gives : (mid : ReaderView I) (items : List I) → Gives start mid items → Saw mid.source items
  saw_gives mid items g =
      saw_more mid.source items g.taken g.octets (λ rest. ((mid.means rest).items, ap (λ (m : Meaning I). m.items) (g.means rest)))

  pub saw_behind : (source' : Device ℕ) (mid : ReaderView I) (items : List I) (g : Gives start mid items) (xs : List ℕ)
      → Takes mid.source source' xs → Saw source' items
  saw_behind source' mid items g xs octets =
      saw_more source' items (g.taken ++ xs) (takes-append source mid.source source' g.taken xs g.octets octets) (behind mid items g xs)

  pub saw_rest : (source' : Device ℕ) (mid : ReaderView I) (items : List I) (g : Gives start mid items) (xs : List ℕ)
      → TakesAll mid.source source' xs → Saw source' items
  saw_rest source' mid items g xs octets =
      saw_all source' items (g.taken ++ xs) (takes-all source mid.source source' g.taken xs g.octets octets)
      (subst (StartsWith items) (append-nil (g.taken ++ xs)) (behind mid items g xs []))

  -- a part was put of the pieces of any octets that give these items first
  pub told_pieces : {P : Type 0} (source' : Device ℕ) (pieces : List ℕ → List P) (device device' : Device P) (items : List I) → Saw source' items
      → ((octets : List ℕ) → StartsWith items octets → GrowsByPart device device' (pieces octets)) → TellsPieces f pieces source source' device device'
  told_pieces source' pieces device device' items s part =
      record {
        taken = s.taken;
        octets = s.octets;
        put = part s.taken s.front;
        of_all = each source.known s.of_all;
      }
    where
      each : (left : Option (List ℕ)) → IfSome left (StartsWith items) → IfSome left (λ all. GrowsByPart device device' (pieces all))
      each None all = tt
      each (Some octets) all = part octets all

  -- nothing was taken and nothing put
  pub told_nothing : {P : Type 0} (pieces : List ℕ → List P) (device : Device P) → TellsPieces f pieces source source device device
  told_nothing pieces device =
      record {
        taken = [];
        octets = takes-none source;
        put = grows_by_part-none device (pieces []);
        of_all = known source.known source.known [] (λ all. GrowsByPart device device (pieces all))
            (takes-none source) (λ rest. grows_by_part-none device (pieces rest));
      }
