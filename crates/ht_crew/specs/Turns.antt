-- The calls of a feed over a list lead on from one another.
use Rattle.std.specs.Prelude.{◌≡◌, ℕ, ◌+◌, ◌-◌, ◌≤◌, List, [], ◌++◌, length, map, take, drop}
use Rattle.std.proofs.Common.{ap, ◌∙◌, sym, refl, arith}
use Rattle.std.proofs.lemmas.List.{append-nil, append_assoc, drop-take, drop-drop, drop_all, length-take, length-append, length-map, map-append}
use Rattle.std.proofs.Math.Seq.{take-add}
use Rattle.ht_metric.specs.Jobs.{JobView}
use Rattle.ht_metric.specs.declared.hit.Hit.{Hit}
use Rattle.ht_crew.specs.Lists.{JobAnswer, nearest_answer, answer_of, Listed, TakesInTurn}

pub stays : (a : Listed) → TakesInTurn a a
stays a =
    let n : ℕ = length a.hits in
    let none : drop n (take n a.jobs) ≡ [] = drop_all n (take n a.jobs) (omega (arith, length-take n a.jobs)) in
    record {
      jobs = refl;
      hits = sym (ap (λ (jobs : List JobView). map answer_of a.hits ++ map nearest_answer jobs) none ∙ append-nil (map answer_of a.hits));
    }

pub goes_on : (a b c : Listed) → TakesInTurn a b → TakesInTurn b c → TakesInTurn a c
goes_on a b c ab bc =
    let start : ℕ = length a.hits in
    let mid : ℕ = length b.hits in
    let end : ℕ = length c.hits in
    let same : drop mid (take end b.jobs) ≡ drop mid (take end a.jobs) = ap (λ (jobs : List JobView). drop mid (take end jobs)) ab.jobs in
    let joined : drop start (take mid a.jobs) ++ drop mid (take end b.jobs) ≡ drop start (take end a.jobs) =
    ap (λ (jobs : List JobView). drop start (take mid a.jobs) ++ jobs) same
    ∙ sym (parts start mid end a.jobs
    (grew a.hits b.hits (drop start (take mid a.jobs)) ab.hits)
    (grew b.hits c.hits (drop mid (take end b.jobs)) bc.hits)) in
    record {
      jobs = bc.jobs ∙ ab.jobs;
      hits = bc.hits
          ∙ (ap (λ (answers : List JobAnswer). answers ++ map nearest_answer (drop mid (take end b.jobs))) ab.hits
          ∙ (append_assoc (map answer_of a.hits) (map nearest_answer (drop start (take mid a.jobs))) (map nearest_answer (drop mid (take end b.jobs)))
          ∙ ap (λ (answers : List JobAnswer). map answer_of a.hits ++ answers)
          (sym (map-append nearest_answer (drop start (take mid a.jobs)) (drop mid (take end b.jobs)))
          ∙ ap (λ (jobs : List JobView). map nearest_answer jobs) joined)));
    }
  where
    -- a part of a list, in two parts
    parts : (p q r : ℕ) (xs : List JobView) → p ≤ q → q ≤ r → drop p (take r xs) ≡ drop p (take q xs) ++ drop q (take r xs)
    parts p q r xs pq qr =
        let m : ℕ = q - p in
        let k : ℕ = r - q in
        let to_q : p + m ≡ q = omega arith in
        let to_r : q + k ≡ r = omega arith in
        let all : p + (m + k) ≡ r = omega arith in
        let whole : drop p (take r xs) ≡ take (m + k) (drop p xs) = ap (λ (n : ℕ). drop p (take n xs)) (sym all) ∙ drop-take p (m + k) xs in
        let front : drop p (take q xs) ≡ take m (drop p xs) = ap (λ (n : ℕ). drop p (take n xs)) (sym to_q) ∙ drop-take p m xs in
        let back : drop q (take r xs) ≡ take k (drop q xs) = ap (λ (n : ℕ). drop q (take n xs)) (sym to_r) ∙ drop-take q k xs in
        let rest : take k (drop m (drop p xs)) ≡ take k (drop q xs) =
        ap (λ (ys : List JobView). take k ys) (drop-drop m p xs ∙ ap (λ (n : ℕ). drop n xs) to_q) in
        whole
        ∙ (take-add m k (drop p xs)
        ∙ (ap (λ (ys : List JobView). take m (drop p xs) ++ ys) (rest ∙ sym back)
        ∙ ap (λ (ys : List JobView). ys ++ drop q (take r xs)) (sym front)))

    -- hits that grew by answers are no fewer
    grew : (before after : List Hit) (jobs : List JobView) → map answer_of after ≡ map answer_of before ++ map nearest_answer jobs
        → length before ≤ length after
    grew before after jobs e =
        let lengths : length (map answer_of after) ≡ length (map answer_of before) + length (map nearest_answer jobs) =
        ap (λ (xs : List JobAnswer). length xs) e ∙ length-append (map answer_of before) (map nearest_answer jobs) in
        omega (arith, lengths, length-map after answer_of, length-map before answer_of)
