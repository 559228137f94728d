-- Whoever goes on from where an in-flight reader between a source and a consumer stands has gone on from where it began.
use Rattle.std.specs.Prelude.{◌≡◌, ℕ, ◌+◌, List, [], ◌∷◌, ◌++◌, Option, None, Some}
use Rattle.std.proofs.Common.{refl, ap, ◌∙◌, sym, subst, arith, append_assoc, append-nil, length, length-append}
use Rattle.ht_io.specs.Devices.{Device, Grows, GrowsByPart, Rose, IsLater}
use Rattle.ht_io.proofs.Calls.{grows-none, grows-append, grows_by_part-append, later-refl, later-later, failed-later}
use Rattle.ht_fields.specs.Readers.{ReaderView, Gives}
use Rattle.ht_fields.proofs.Joins.{gives_none, gives_more}
use Rattle.ht_metric.specs.Jobs.{JobView}
use Rattle.ht_feed.specs.declared.stop.Stop.{Stop}
use Rattle.ht_feed.specs.declared.book_fault.BookFault.{BookFault}
use Rattle.ht_feed.specs.Items.{Item, Begins, One, Headed, headed, headed_of, last_head, frames_of, jobs_of}
use Rattle.ht_feed.specs.Consumers.{PutsFirst, PutsPartOf}
use Rattle.ht_feed.specs.Reading.{Standing, Closes, ReadsOn, ReadsBy}
use Rattle.ht_feed.specs.Telling.{Seen, Tells, TellsPart, RestsThen, TellsBy}

module _ {H : Type 0} where
  pub jobs_of-append : (xs ys : List (Item H)) → jobs_of (xs ++ ys) ≡ jobs_of xs ++ jobs_of ys
  jobs_of-append [] ys = refl
  jobs_of-append (Begins head ∷ xs) ys = jobs_of-append xs ys
  jobs_of-append (One job ∷ xs) ys = ap (λ (jobs : List JobView). job ∷ jobs) (jobs_of-append xs ys)

  pub frames_of-append : (xs ys : List (Item H)) → frames_of (xs ++ ys) ≡ frames_of xs + frames_of ys
  frames_of-append [] ys = omega arith
  frames_of-append (Begins head ∷ xs) ys = let e = frames_of-append xs ys in omega (arith, e)
  frames_of-append (One job ∷ xs) ys = frames_of-append xs ys

module _ {I : Type 0} where
  reads_by-none : (stop : Option Stop) (reader : ReaderView I) → ReadsBy stop stop reader reader []
  reads_by-none None reader = gives_none reader
  reads_by-none (Some stop) reader = (refl, refl, refl)

  pub reads_none : (standing : Standing I) → ReadsOn standing standing []
  reads_none standing = reads_by-none standing.stop standing.reader

  pub reads_on : (a b c : Option Stop) (old mid new : ReaderView I) (items more : List I) → IsLater old.source mid.source
      → ReadsBy a b old mid items → ReadsBy b c mid new more → ReadsBy a c old new (items ++ more)
  reads_on None None None old mid new items more p first later = gives_more old mid new items more first later
  reads_on None None (Some stop) old mid new items more p first later =
      record {
        between = later.between;
        gives = gives_more old mid later.between items more first later.gives;
        later = later-later old.source mid.source later.between.source p later.later;
        closes = later.closes;
      }
  reads_on None (Some stop) None old mid new items more p first later = absurd later
  reads_on None (Some stop) (Some other) old mid new items more p first later =
      let same : items ≡ items ++ more = sym (append-nil items) ∙ ap (λ (xs : List I). items ++ xs) (sym later.1) in
      let moved = subst (λ (source : Device ℕ). Closes first.between source stop) later.2 first.closes in
      record {
        between = first.between;
        gives = subst (λ (xs : List I). Gives old first.between xs) same first.gives;
        later = first.later;
        closes = subst (λ (s : Stop). Closes first.between new.source s) later.0 moved;
      }
  reads_on (Some stop) None c old mid new items more p first later = absurd first
  reads_on (Some stop) (Some other) None old mid new items more p first later = absurd later
  reads_on (Some stop) (Some other) (Some last) old mid new items more p first later =
      (first.0 ∙ later.0, ap (λ (xs : List I). xs ++ more) first.1 ∙ later.1, first.2 ∙ later.2)

module _ {H : Type 0} where
  pub headed-append : (head : H) (xs ys : List (Item H)) → headed head (xs ++ ys) ≡ headed head xs ++ headed (last_head head xs) ys
  headed-append head [] ys = refl
  headed-append head (Begins next ∷ xs) ys = headed-append next xs ys
  headed-append head (One job ∷ xs) ys = ap (λ (jobs : List (Headed H)). headed_of head job ∷ jobs) (headed-append head xs ys)

  last_head-append : (head : H) (xs ys : List (Item H)) → last_head head (xs ++ ys) ≡ last_head (last_head head xs) ys
  last_head-append head [] ys = refl
  last_head-append head (Begins next ∷ xs) ys = last_head-append next xs ys
  last_head-append head (One job ∷ xs) ys = last_head-append head xs ys

  pub heads-on : (head mid last : H) (xs ys : List (Item H)) → mid ≡ last_head head xs → last ≡ last_head mid ys → last ≡ last_head head (xs ++ ys)
  heads-on head mid last xs ys a b = b ∙ (ap (λ (h : H). last_head h ys) a ∙ sym (last_head-append head xs ys))

  pub headed-on : (head mid : H) (xs ys : List (Item H)) → mid ≡ last_head head xs → headed head (xs ++ ys) ≡ headed head xs ++ headed mid ys
  headed-on head mid xs ys is = headed-append head xs ys ∙ ap (λ (h : H). headed head xs ++ headed h ys) (sym is)

  -- the jobs of items and more items, behind jobs that were due
  jobs-on : (due mid last answered more came others : List (Headed H)) → due ++ came ≡ answered ++ mid → mid ++ others ≡ more ++ last
      → due ++ (came ++ others) ≡ (answered ++ more) ++ last
  jobs-on due mid last answered more came others first later =
      sym (append_assoc due came others)
      ∙ (ap (λ (xs : List (Headed H)). xs ++ others) first
      ∙ (append_assoc answered mid others
      ∙ (ap (λ (xs : List (Headed H)). answered ++ xs) later
      ∙ sym (append_assoc answered more last))))

  -- what both give read, in turn
  reads-both : (old mid new : Standing (Item H)) (items more : List (Item H)) → IsLater old.reader.source mid.reader.source
      → ReadsOn old mid items → ReadsOn mid new more → ReadsOn old new (items ++ more)
  reads-both old mid new items more p first later = reads_on old.stop mid.stop new.stop old.reader mid.reader new.reader items more p first later

  module _ {P : Type 0} where
    pub puts-on : (old mid new : List (Headed H) → List P) (answered more : List (Headed H)) (p q : List P) → PutsFirst old mid answered p
        → PutsFirst mid new more q
        → PutsFirst old new (answered ++ more) (p ++ q)
    puts-on old mid new answered more p q first later = λ ys.
        ap old (append_assoc answered more ys) ∙ (first (more ++ ys) ∙ (ap (λ (xs : List P). p ++ xs) (later ys) ∙ sym (append_assoc p q (new ys))))

    pub part-on : (a b c : Device P) (old mid : List (Headed H) → List P) (answered more : List (Headed H)) (p : List P) → Grows a b p
        → PutsFirst old mid answered p
        → PutsPartOf b c mid more → PutsPartOf a c old (answered ++ more)
    part-on a b c old mid answered more p grows first part = λ ys.
        subst (λ (xs : List P). GrowsByPart a c xs) (sym (ap old (append_assoc answered more ys) ∙ first (more ++ ys)))
        (grows_by_part-append a b c p (mid (more ++ ys)) grows (part ys))

    pub tells-none : (seen : Seen H P) → Tells seen seen
    tells-none seen =
        record {
          items = [];
          answered = [];
          put = [];
          reads = reads_none seen.standing;
          head = refl;
          jobs = append-nil seen.due;
          first = λ ys. refl;
          grows = grows-none seen.consumer.device;
          waits = λ w. w;
          steady = refl;
          frames = omega arith;
          count = omega arith;
          reads_later = later-refl seen.standing.reader.source;
          puts_later = later-refl seen.consumer.device;
        }

    pub tells-on : (old mid new : Seen H P) → Tells old mid → Tells mid new → Tells old new
    tells-on old mid new a b =
        record {
          items = a.items ++ b.items;
          answered = a.answered ++ b.answered;
          put = a.put ++ b.put;
          reads = reads-both old.standing mid.standing new.standing a.items b.items a.reads_later a.reads b.reads;
          head = heads-on old.head mid.head new.head a.items b.items a.head b.head;
          jobs = ap (λ (xs : List (Headed H)). old.due ++ xs) (headed-on old.head mid.head a.items b.items a.head)
              ∙ jobs-on old.due mid.due new.due a.answered b.answered (headed old.head a.items) (headed mid.head b.items) a.jobs b.jobs;
          first = puts-on old.consumer.pieces mid.consumer.pieces new.consumer.pieces a.answered b.answered a.put b.put a.first b.first;
          grows = grows-append old.consumer.device mid.consumer.device new.consumer.device a.put b.put a.grows b.grows;
          waits = λ w. b.waits (a.waits w);
          steady = b.steady ∙ a.steady;
          frames = let e = frames_of-append a.items b.items in let f = a.frames in let g = b.frames in omega (arith, e, f, g);
          count =
              let e = ap length (jobs_of-append a.items b.items) ∙ length-append (jobs_of a.items) (jobs_of b.items) in
              let f = a.count in
              let g = b.count in
              omega (arith, e, f, g);
          reads_later = later-later old.standing.reader.source mid.standing.reader.source new.standing.reader.source a.reads_later b.reads_later;
          puts_later = later-later old.consumer.device mid.consumer.device new.consumer.device a.puts_later b.puts_later;
        }

    pub tells-fails : (old mid new : Seen H P) (fault : BookFault) → Tells old mid → TellsPart mid new fault → TellsPart old new fault
    tells-fails old mid new fault a b =
        record {
          items = a.items ++ b.items;
          answered = a.answered ++ b.answered;
          rest = b.rest;
          reads = reads-both old.standing mid.standing new.standing a.items b.items a.reads_later a.reads b.reads;
          jobs = ap (λ (xs : List (Headed H)). old.due ++ xs) (headed-on old.head mid.head a.items b.items a.head)
              ∙ jobs-on old.due mid.due b.rest a.answered b.answered (headed old.head a.items) (headed mid.head b.items) a.jobs b.jobs;
          part = part-on old.consumer.device mid.consumer.device new.consumer.device
              old.consumer.pieces mid.consumer.pieces a.answered b.answered a.put a.grows a.first b.part;
          reads_later = later-later old.standing.reader.source mid.standing.reader.source new.standing.reader.source a.reads_later b.reads_later;
          puts_later = later-later old.consumer.device mid.consumer.device new.consumer.device a.puts_later b.puts_later;
          cause = λ is. failed-later old.consumer.device mid.consumer.device new.consumer.device a.puts_later (b.cause is);
          steady = λ is. b.steady is ∙ a.steady;
        }

    fails-rests : (old mid new : Seen H P) (fault other : BookFault) → fault ≡ other → TellsPart old mid fault → RestsThen mid new → TellsPart old new other
    fails-rests old mid new fault other is a b =
        record {
          items = a.items;
          answered = a.answered;
          rest = a.rest;
          reads = subst (λ (standing : Standing (Item H)). ReadsOn old.standing standing a.items) b.standing a.reads;
          jobs = a.jobs;
          part = subst (λ (device : Device P). PutsPartOf old.consumer.device device old.consumer.pieces a.answered) b.device a.part;
          reads_later = subst (λ (standing : Standing (Item H)). IsLater old.standing.reader.source standing.reader.source) b.standing a.reads_later;
          puts_later = subst (λ (device : Device P). IsLater old.consumer.device device) b.device a.puts_later;
          cause = λ write. subst (λ (device : Device P). Rose old.consumer.device device) b.device (a.cause (is ∙ write));
          steady = λ none. ap (λ (device : Device P). device.faults) (sym b.device) ∙ a.steady (is ∙ none);
        }

    rests-none : (seen : Seen H P) → RestsThen seen seen
    rests-none seen = record { standing = refl; device = refl }

    rests-on : (old mid new : Seen H P) → RestsThen old mid → RestsThen mid new → RestsThen old new
    rests-on old mid new a b = record { standing = a.standing ∙ b.standing; device = a.device ∙ b.device }

    pub tells_by-none : (failed : Option BookFault) (seen : Seen H P) → TellsBy failed failed seen seen
    tells_by-none None seen = tells-none seen
    tells_by-none (Some fault) seen = (refl, rests-none seen)

    pub tells_by-on : (a b c : Option BookFault) (old mid new : Seen H P) → TellsBy a b old mid → TellsBy b c mid new → TellsBy a c old new
    tells_by-on None None None old mid new first later = tells-on old mid new first later
    tells_by-on None None (Some fault) old mid new first later = tells-fails old mid new fault first later
    tells_by-on None (Some fault) None old mid new first later = absurd later
    tells_by-on None (Some fault) (Some other) old mid new first later = fails-rests old mid new fault other later.0 first later.1
    tells_by-on (Some fault) None c old mid new first later = absurd first
    tells_by-on (Some fault) (Some other) None old mid new first later = absurd later
    tells_by-on (Some fault) (Some other) (Some last) old mid new first later = (first.0 ∙ later.0, rests-on old mid new first.1 later.1)
