-- The hit of one more job is taken where the results of whole frames are still to be booked.
use Rattle.std.proofs.Common.{◌≡◌, ◌≤◌, ℕ, List, [], ◌∷◌, ◌++◌, Result, Ok, Err, OnErr, OnOk, map, length}
use Rattle.std.specs.Prelude.{IfErr, Bool, true}
use Rattle.std.proofs.Common.{arith, refl, sym, ap, ◌∙◌, subst, append-nil, append_assoc}
use Rattle.std.proofs.lemmas.List.{map-append}
use Rattle.std.specs.List.{flat_map}
use Rattle.std.proofs.lemmas.Grind.{flat_map-append}
use Rattle.ht_io.specs.Devices.{Device, Grows, GrowsByPart, IsLater, Rose}
use Rattle.ht_io.proofs.Calls.{failed-later, grows-append, grows-none, grows_by_part-append, grows_by_part-front}
use Rattle.ht_feed.specs.declared.book_fault.BookFault.{BookFault}
use Rattle.ht_feed.specs.declared.book_fault.BookFault.TheVariants.{Failed}
use Rattle.ht_feed.specs.Consumers.{BooksJobs, PutsBlock, PutsPartOf}
use Rattle.ht_feed.specs.Items.{Headed}
use Rattle.ht_frames.specs.Gathering.{BooksFirst, WaitForJobs, behind_one, booked_behind, booked_whole, finished}

-- where the book failed behind others that didn't, it failed
pub failed_behind : {P : Type 0} (result : Result (Unit {0}) BookFault) (a b c : Device P) → IsLater a b
    → IfErr result (λ fault. fault ≡ Failed → Rose b c) → IfErr result (λ fault. fault ≡ Failed → Rose a c)
failed_behind (Ok x) a b c later cause = tt
failed_behind (Err e) a b c later cause = λ is. failed-later a b c later (cause is)

-- none is left
none_longer : {W : Type 0} (whole : List W) → length whole ≤ 0 → whole ≡ []
none_longer [] none = refl
none_longer (f ∷ fs) none = absurd (omega (arith, none))

-- where none waits, nothing is kept back
pub none_kept : {W X : Type 0} (result : Result (Unit {0}) BookFault) (whole : List W) (Waits : Type 0) (due : List X)
    → OnOk result (length whole ≤ 0) → OnOk result (Waits → WaitForJobs whole due)
none_kept (Ok x) whole Waits due few = λ w is. none_longer whole few
none_kept (Err e) whole Waits due few = tt

-- what follows of what a call leaves
pub ok_as : {A E X Y : Type 0} (result : Result A E) → (X → Y) → OnOk result X → OnOk result Y
ok_as (Ok x) follows holds = follows holds
ok_as (Err e) follows holds = tt

pub err_as : {A E X Y : Type 0} (result : Result A E) → (X → Y) → OnErr result X → OnErr result Y
err_as (Ok x) follows holds = tt
err_as (Err e) follows holds = follows holds

module _ {W T P : Type 0} (result_of : W → T) (booked : T → List P) where
  -- no result was booked yet
  pub books_none : (a : Device P) (whole : List W) → BooksFirst result_of booked a a whole whole
  books_none a whole = ([], refl, grows-none a)

  -- the results of the first ones and of the next one
  whole_next : (done : List W) (f : W) (rest : List W) → booked_whole result_of booked (done ++ f ∷ rest)
      ≡ booked_whole result_of booked done ++ (booked (result_of f) ++ booked_whole result_of booked rest)
  whole_next done f rest = ap (flat_map booked) (map-append result_of done (f ∷ rest)) ∙ flat_map-append booked (map result_of done) (map result_of (f ∷ rest))

  module _ (a b c : Device P) (old mid new : List W) (f : W) where
    -- the next one was booked too
    pub books_next : BooksFirst result_of booked a b old mid → mid ≡ f ∷ new → Grows b c (booked (result_of f)) → BooksFirst result_of booked a c old new
    books_next books is grows =
        let all : booked_whole result_of booked (books.0 ++ f ∷ []) ≡ booked_whole result_of booked books.0 ++ booked (result_of f) =
        whole_next books.0 f [] ∙ ap (λ (ps : List P). booked_whole result_of booked books.0 ++ ps) (append-nil (booked (result_of f))) in (
          books.0 ++ f ∷ [],
          books.1 ∙ (ap (λ (fs : List W). books.0 ++ fs) is ∙ sym (append_assoc books.0 (f ∷ []) new)),
          subst (λ (ps : List P). Grows a c ps) (sym all)
              (grows-append a b c (booked_whole result_of booked books.0) (booked (result_of f)) books.2 grows),
        )

    -- a part of the next one was booked
    pub books_next_part : BooksFirst result_of booked a b old mid → mid ≡ f ∷ new → GrowsByPart b c (booked (result_of f))
        → GrowsByPart a c (booked_whole result_of booked old)
    books_next_part books is part =
        let all : booked_whole result_of booked old ≡ booked_whole result_of booked books.0 ++ (booked (result_of f) ++ booked_whole result_of booked new) =
        ap (booked_whole result_of booked) (books.1 ∙ ap (λ (fs : List W). books.0 ++ fs) is) ∙ whole_next books.0 f new in
        subst (λ (ps : List P). GrowsByPart a c ps) (sym all)
        (grows_by_part-append a b c (booked_whole result_of booked books.0) (booked (result_of f) ++ booked_whole result_of booked new) books.2
        (grows_by_part-front b c (booked (result_of f)) (booked_whole result_of booked new) part))

  -- what is booked behind whole frames is booked behind their results
  behind_whole : (whole : List W) (later : List T)
      → flat_map booked (map result_of whole ++ later) ≡ booked_whole result_of booked whole ++ flat_map booked later
  behind_whole whole later = flat_map-append booked (map result_of whole) later

  module _ {H : Type 0} where
    -- where the results of the first ones were booked, those of the others are left
    first_booked : (whole : List W) (results : List (Headed H) → List T) (done left : List W) (more : List (Headed H)) → whole ≡ done ++ left
        → booked_behind result_of booked whole results more ≡ booked_whole result_of booked done ++ booked_behind result_of booked left results more
    first_booked whole results done left more is =
        let rest = results more in
        ap (λ (fs : List W). booked_behind result_of booked fs results more) is
        ∙ (ap (λ (rs : List T). flat_map booked (rs ++ rest)) (map-append result_of done left)
        ∙ (ap (flat_map booked) (append_assoc (map result_of done) (map result_of left) rest)
        ∙ behind_whole done (map result_of left ++ rest)))

    -- jobs were taken, with which frames are whole that weren't
    module _ (a b : Device P) (whole whole' : List W) (before after : List (Headed H) → List T) (hs : List (Headed H))
        (goes : (more : List (Headed H)) → map result_of whole ++ before (hs ++ more) ≡ map result_of whole' ++ after more) where
      pub puts_first : {A E : Type 0} (result : Result A E) (left : List W) → OnOk result (BooksFirst result_of booked a b whole' left)
          → OnOk result (PutsBlock a b (booked_behind result_of booked whole before) (booked_behind result_of booked left after) hs)
      puts_first (Ok x) left books = (
        booked_whole result_of booked books.0,
        books.2,
        λ more. ap (flat_map booked) (goes more) ∙ first_booked whole' after books.0 left more books.1,
      )
      puts_first (Err e) left books = tt

      -- a part of what waited was booked
      pub part_first : {A E : Type 0} (result : Result A E) → OnErr result (GrowsByPart a b (booked_whole result_of booked whole'))
          → OnErr result (PutsPartOf a b (booked_behind result_of booked whole before) hs)
      part_first (Ok x) part = tt
      part_first (Err e) part = λ more.
          subst (λ (ps : List P). GrowsByPart a b ps) (sym (ap (flat_map booked) (goes more) ∙ behind_whole whole' (after more)))
          (grows_by_part-front a b (booked_whole result_of booked whole') (flat_map booked (after more)) part)

    -- a frame whose last job came stands behind the others, and what the jobs that still come give is the same
    pub stands_behind : (whole whole' : List W) (f : W) (one : T) (mid after : List (Headed H) → List T)
        → result_of f ≡ one → whole' ≡ whole ++ f ∷ [] → ((more : List (Headed H)) → after more ≡ mid more)
        → (more : List (Headed H)) → map result_of whole ++ behind_one one mid more ≡ map result_of whole' ++ after more
    stands_behind whole whole' f one mid after same stands kept more =
        let rest = after more in
        let come : behind_one one mid more ≡ result_of f ∷ rest =
        ap (λ (r : T). r ∷ mid more) (sym same) ∙ ap (λ (rs : List T). result_of f ∷ rs) (sym (kept more)) in
        ap (λ (rs : List T). map result_of whole ++ rs) come
        ∙ (sym (append_assoc (map result_of whole) (result_of f ∷ []) rest)
        ∙ (ap (λ (rs : List T). rs ++ rest) (sym (map-append result_of whole (f ∷ [])))
        ∙ ap (λ (fs : List W). map result_of fs ++ rest) (sym stands)))

    -- with these jobs a frame is whole, and then its result stands behind the others
    module _ (a b : Device P) (whole : List W) (one : T) (before mid : List (Headed H) → List T) (hs : List (Headed H)) (last : Bool)
        (goes : (more : List (Headed H)) → before (hs ++ more) ≡ finished last one ++ mid more) (is : last ≡ true) where
      comes : (more : List (Headed H)) → booked_behind result_of booked whole before (hs ++ more)
          ≡ booked_behind result_of booked whole (behind_one one mid) more
      comes more = ap (λ (rs : List T). flat_map booked (map result_of whole ++ rs)) (goes more ∙ ap (λ (b : Bool). finished b one ++ mid more) is)

      part_whole : PutsPartOf a b (booked_behind result_of booked whole (behind_one one mid)) []
          → PutsPartOf a b (booked_behind result_of booked whole before) hs
      part_whole part = λ more. subst (λ (ps : List P). GrowsByPart a b ps) (sym (comes more)) (part more)

      pub books_whole : {A : Type 0} {answer : Result A BookFault} {end : List (Headed H) → List P} {lent lent' : List ℕ}
          → BooksJobs answer a b (booked_behind result_of booked whole (behind_one one mid)) end [] lent lent'
          → BooksJobs answer a b (booked_behind result_of booked whole before) end hs lent lent'
      books_whole {answer = answer} books = record {
        put = ok_as answer (λ puts. (puts.0, puts.1, λ more. comes more ∙ puts.2 more)) books.put;
        part = err_as answer part_whole books.part;
        faults = books.faults;
      }

    -- frames under way to which these jobs are the same
    module _ (a b : Device P) (whole : List W) (before same : List (Headed H) → List T) (hs : List (Headed H))
        (alike : (more : List (Headed H)) → same (hs ++ more) ≡ before (hs ++ more)) where
      alike_behind : (more : List (Headed H)) → booked_behind result_of booked whole same (hs ++ more)
          ≡ booked_behind result_of booked whole before (hs ++ more)
      alike_behind more = ap (λ (rs : List T). flat_map booked (map result_of whole ++ rs)) (alike more)

      pub books_alike : {A : Type 0} {answer : Result A BookFault} {end : List (Headed H) → List P} {lent lent' : List ℕ}
          → BooksJobs answer a b (booked_behind result_of booked whole same) end hs lent lent'
          → BooksJobs answer a b (booked_behind result_of booked whole before) end hs lent lent'
      books_alike {answer = answer} books = record {
        put = ok_as answer (λ puts. (puts.0, puts.1, λ more. sym (alike_behind more) ∙ puts.2 more)) books.put;
        part = err_as answer (λ part. λ more. subst (λ (ps : List P). GrowsByPart a b ps) (alike_behind more) (part more)) books.part;
        faults = books.faults;
      }

    -- the hits of a block were taken, and then results are booked that wait
    module _ (a b c : Device P) (start : List (Headed H) → List P) (mid new : List W) (results : List (Headed H) → List T) (hs : List (Headed H))
        (puts : PutsBlock a b start (booked_behind result_of booked mid results) hs) where
      pub all_put : (result : Result (Unit {0}) BookFault) → OnOk result (BooksFirst result_of booked b c mid new)
          → OnOk result (PutsBlock a c start (booked_behind result_of booked new results) hs)
      all_put (Ok x) books =
          let put = booked_whole result_of booked books.0 in (
            puts.0 ++ put,
            grows-append a b c puts.0 put puts.1 books.2,
            λ more. puts.2 more
                ∙ (ap (λ (ps : List P). puts.0 ++ ps) (first_booked mid results books.0 new more books.1)
                ∙ sym (append_assoc puts.0 put (booked_behind result_of booked new results more))),
          )
      all_put (Err e) books = tt

      pub all_part : (result : Result (Unit {0}) BookFault) → OnErr result (GrowsByPart b c (booked_whole result_of booked mid))
          → OnErr result (PutsPartOf a c start hs)
      all_part (Ok x) part = tt
      all_part (Err e) part = λ more.
          let waiting = booked_whole result_of booked mid in
          let behind = flat_map booked (results more) in
          subst (λ (ps : List P). GrowsByPart a c ps) (sym (puts.2 more))
          (grows_by_part-append a b c puts.0 (booked_behind result_of booked mid results more) puts.1
          (subst (λ (ps : List P). GrowsByPart b c ps) (sym (behind_whole mid (results more))) (grows_by_part-front b c waiting behind part)))
