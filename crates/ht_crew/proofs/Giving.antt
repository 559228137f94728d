-- Lists of jobs that are given one after the other.
use Rattle.std.proofs.Common.{◌≡◌, ℕ, ◌+◌, ◌<◌, ◌≤◌, List, [], ◌∷◌, ◌++◌, length, map, take, drop}
use Rattle.std.proofs.Common.{slice_get, get_or, Some, false, ap, ◌∙◌, sym, refl, arith}
use Rattle.std.proofs.lemmas.List.{take_more, drop_more, drop-append-le, drop-take, drop-drop, drop_all, get_or-drop}
use Rattle.std.proofs.lemmas.List.{length-take, length-take-le, length-drop, length-append, map-append}
use Rattle.std.proofs.lemmas.List.{get_or-take, append-nil}
use Rattle.std.proofs.lemmas.Option.{slice_get_within, slice_get-get_or, get_or_from_slice_get}
use Rattle.ht_metric.specs.Jobs.{JobView}
use Rattle.ht_metric.specs.declared.found.Found.{Found}
use Rattle.ht_metric.specs.declared.hit.Hit.{Hit}
use Rattle.ht_metric.proofs.Finding.{found_near}
use Rattle.ht_crew.specs.Feeds.{GivesJob, TakesHit}
use Rattle.ht_crew.specs.Lists.{JobAnswer, nearest_answer, answer_of, Listed, IsListed, called, gave, took, shown, TakesInTurn}

-- an entry that is there, behind those before it
pub take_next : {A : Type 0} (xs : List A) (n : ℕ) (x : A) → slice_get xs n ≡ Some x → take (n + 1) xs ≡ take n xs ++ x ∷ []
take_next {A} xs n x e =
    let below = slice_get_within xs n x e in
    take_more xs n x below ∙ ap (λ (y : A). take n xs ++ y ∷ []) (get_or_from_slice_get xs n x x e)

-- the entries from one that is there on
pub drop_next : {A : Type 0} (xs : List A) (n : ℕ) (x : A) → slice_get xs n ≡ Some x → drop n xs ≡ x ∷ drop (n + 1) xs
drop_next {A} xs n x e =
    let below = slice_get_within xs n x e in
    drop_more xs n x below ∙ ap (λ (y : A). y ∷ drop (n + 1) xs) (get_or_from_slice_get xs n x x e)

-- what is due after one more was given
pub due_more : {A : Type 0} (xs : List A) (hits given : ℕ) (x : A) → hits ≤ given
    → slice_get xs given ≡ Some x → drop hits (take (given + 1) xs) ≡ drop hits (take given xs) ++ x ∷ []
due_more {A} xs hits given x within e =
    let below = slice_get_within xs given x e in
    ap (λ (ys : List A). drop hits ys) (take_next xs given x e)
    ∙ drop-append-le hits (take given xs) (x ∷ []) (omega (arith, below, length-take-le given xs (omega (arith, below))))

-- the next job of a feed over a list
pub gives_next : (a : Listed) (job : JobView) → IsListed (called a) → a.ended ≡ false
    → slice_get a.jobs a.given ≡ Some job → GivesJob (shown a) (shown (gave a)) job
gives_next a job listed running e =
    let below = slice_get_within a.jobs a.given job e in
    record {
      running = running;
      number = listed.numbered a.given job e;
      count = refl;
      due = due_more a.jobs (length a.hits) a.given job listed.hits e;
      more = omega (arith, below);
      left = drop_next a.jobs a.given job e;
      failed = refl;
    }

-- no entry stands between a place and itself
no_part : {A : Type 0} (n : ℕ) (xs : List A) → drop n (take n xs) ≡ []
no_part n xs = drop_all n (take n xs) (omega (arith, length-take n xs))

-- a call that changed neither list leads on
pub unmoved : (a b : Listed) → b.jobs ≡ a.jobs → b.hits ≡ a.hits → TakesInTurn a b
unmoved a b jobs hits =
    let n : ℕ = length a.hits in
    let long : length b.hits ≡ n = ap (λ (hits : List Hit). length hits) hits in
    let none : drop n (take (length b.hits) a.jobs) ≡ [] = ap (λ (m : ℕ). drop n (take m a.jobs)) long ∙ no_part n a.jobs in
    record {
      jobs = jobs;
      hits = ap (λ (hits : List Hit). map answer_of hits) hits
          ∙ sym (ap (λ (left : List JobView). map answer_of a.hits ++ map nearest_answer left) none ∙ append-nil (map answer_of a.hits));
    }

-- what stands first behind a place, before another one
pub first_between : {A : Type 0} (xs : List A) (n m : ℕ) (x : A) → slice_get (drop n (take m xs)) 0 ≡ Some x → (n < m) × (slice_get xs n ≡ Some x)
first_between {A} xs n m x e =
    let some = slice_get_within (drop n (take m xs)) 0 x e in
    let below : (n < m) × (n < length xs) = omega (arith, some, length-drop n (take m xs), length-take m xs) in
    let at : n + 0 ≡ n = omega arith in
    let front : get_or (drop n (take m xs)) 0 x ≡ get_or xs n x =
    get_or-drop n (take m xs) 0 x ∙ (ap (λ (k : ℕ). get_or (take m xs) k x) at ∙ get_or-take m xs n x below.0) in
    let read : get_or xs n x ≡ x = sym front ∙ get_or_from_slice_get (drop n (take m xs)) 0 x x e in
    (below.0, slice_get-get_or xs n x below.1 ∙ ap Some read)

-- a hit says its job's first nearest vector
pub hit_answers : (hit : Hit) → answer_of hit ≡ nearest_answer hit.job
hit_answers hit = ap (λ (found : Found). let a : JobAnswer = record { job = hit.job; found = found } in a) (found_near hit)

-- one more hit
pub length_more : {A : Type 0} (xs : List A) (x : A) → length (xs ++ x ∷ []) ≡ length xs + 1
length_more xs x = length-append xs (x ∷ [])

-- no more hits were taken than jobs given
pub still_listed : (a : Listed) (hit : Hit) → IsListed a → slice_get (shown a).due 0 ≡ Some hit.job → IsListed (record a { hits = a.hits ++ hit ∷ [] })
still_listed a hit listed first =
    let below = (first_between a.jobs (length a.hits) a.given hit.job first).0 in
    record {
      numbered = listed.numbered;
      given = listed.given;
      hits = omega (arith, below, length_more a.hits hit);
    }

-- the first job due is due no more
pub takes_first : (a : Listed) (hit : Hit) → TakesHit (shown a) (shown (took a hit))
takes_first a hit = record {
  due = ap (λ (n : ℕ). drop n (take a.given a.jobs)) (length_more a.hits hit) ∙ sym (drop-drop 1 (length a.hits) (take a.given a.jobs));
  failed = refl;
}

-- the hit of the first job due is the one next in turn
pub takes_in_turn : (a : Listed) (hit : Hit) → slice_get (shown a).due 0 ≡ Some hit.job → TakesInTurn a (took a hit)
takes_in_turn a hit first =
    let n : ℕ = length a.hits in
    let there = (first_between a.jobs n a.given hit.job first).1 in
    let next : drop n (take (n + 1) a.jobs) ≡ hit.job ∷ [] =
    drop-take n 1 a.jobs ∙ ap (λ (jobs : List JobView). take 1 jobs) (drop_next a.jobs n hit.job there) in
    record {
      jobs = refl;
      hits = map-append answer_of a.hits (hit ∷ [])
          ∙ (ap (λ (x : JobAnswer). map answer_of a.hits ++ x ∷ []) (hit_answers hit)
          ∙ ap (λ (jobs : List JobView). map answer_of a.hits ++ map nearest_answer jobs)
          (sym (ap (λ (m : ℕ). drop n (take m a.jobs)) (length_more a.hits hit) ∙ next)));
    }
