-- Octets that pass to a sink by way of others that wait.
use Rattle.std.proofs.Common.{◌≡◌, ℕ, List, [], ◌++◌, Result, Ok, Err, refl, sym, ap, subst, ◌∙◌, append_assoc, append-nil}
use Rattle.ht_io.specs.Devices.{Device, Grows, GrowsByPart, IsLater, Rose}
use Rattle.ht_io.proofs.Calls.{failed-later, grows-append, grows-none, grows_by_part-append, grows_by_part-front, grows_by_part-none, later-later, later-refl}
use Rattle.ht_runs.specs.declared.faults.RunFault.{RunFault}
use Rattle.ht_runs.specs.declared.faults.RunFault.TheVariants.{Format, Read, Write, NoMemory}
use Rattle.ht_certify.specs.Writing.{Breaks, IsCause, PutsThrough, PutsFrontThrough, Writes}

-- nothing was given
pub passes_none : (waits : List ℕ) (sink : Device ℕ) → PutsThrough waits sink sink [] waits
passes_none waits sink =
    record { front = []; put = grows-none sink; all = append-nil waits; steady = refl; later = later-refl sink }

-- what was given waits
pub passes_waiting : (waits given waits' : List ℕ) (sink : Device ℕ) → waits' ≡ waits ++ given → PutsThrough waits sink sink given waits'
passes_waiting waits given waits' sink is =
    record { front = []; put = grows-none sink; all = sym is; steady = refl; later = later-refl sink }

-- some octets, and then more
pub passes_more : (w x y given more : List ℕ) (a b c : Device ℕ) → PutsThrough w a b given x → PutsThrough x b c more y → PutsThrough w a c (given ++ more) y
passes_more w x y given more a b c p q = record {
  front = p.front ++ q.front;
  put = grows-append a b c p.front q.front p.put q.put;
  all = sym (append_assoc w given more) ∙ (ap (λ z. z ++ more) p.all ∙ (append_assoc p.front x more
      ∙ (ap (λ z. p.front ++ z) q.all ∙ sym (append_assoc p.front q.front y))));
  steady = q.steady ∙ p.steady;
  later = later-later a b c p.later q.later;
}

cause_later : (a b c : Device ℕ) (fault : RunFault) → IsLater a b → b.faults ≡ a.faults → IsCause b c fault → IsCause a c fault
cause_later a b c (Format fault) later steady cause = cause
cause_later a b c Read later steady cause = cause
cause_later a b c Write later steady cause = failed-later a b c later cause
cause_later a b c NoMemory later steady cause = cause ∙ steady

-- some octets, and then a part of more, where others follow
pub breaks_later : (w x given more rest whole : List ℕ) (a b c : Device ℕ) (fault : RunFault) → given ++ (more ++ rest) ≡ whole
    → PutsThrough w a b given x → Breaks x b c more fault → Breaks w a c whole fault
breaks_later w x given more rest whole a b c fault all p q =
    let both : (p.front ++ (x ++ more)) ++ rest ≡ w ++ whole =
    ap (λ z. z ++ rest) (sym (append_assoc p.front x more) ∙ (ap (λ z. z ++ more) (sym p.all) ∙ append_assoc w given more))
    ∙ (append_assoc w (given ++ more) rest ∙ (ap (λ z. w ++ z) (append_assoc given more rest) ∙ ap (λ z. w ++ z) all)) in
    record {
      part = subst (λ z. GrowsByPart a c z) both
          (grows_by_part-front a c (p.front ++ (x ++ more)) rest (grows_by_part-append a b c p.front (x ++ more) p.put q.part));
      cause = cause_later a b c fault p.later p.steady q.cause;
      later = later-later a b c p.later q.later;
    }

-- nothing was put for lack of memory
pub breaks_before : (w given : List ℕ) (sink : Device ℕ) → Breaks w sink sink given NoMemory
breaks_before w given sink = record { part = grows_by_part-none sink (w ++ given); cause = refl; later = later-refl sink }

-- what was left was a piece and less, and the piece was given
pub one_more : (w x y piece left less whole : List ℕ) (a b c : Device ℕ) → PutsFrontThrough w a b left whole x → left ≡ piece ++ less
    → PutsThrough x b c piece y → PutsFrontThrough w a c less whole y
one_more w x y piece left less whole a b c (done, p, all) is q =
    (done ++ piece, passes_more w x y done piece a b c p q, append_assoc done piece less ∙ (ap (λ z. done ++ z) (sym is) ∙ all))

-- and a part of the piece was put
pub one_breaks : (w x piece left less whole : List ℕ) (a b c : Device ℕ) (fault : RunFault) → PutsFrontThrough w a b left whole x → left ≡ piece ++ less
    → Breaks x b c piece fault → Breaks w a c whole fault
one_breaks w x piece left less whole a b c fault (done, p, all) is q =
    breaks_later w x done piece less whole a b c fault (ap (λ z. done ++ z) (sym is) ∙ all) p q

-- nothing is left
pub all_passes : (w x done left whole : List ℕ) (a b : Device ℕ) → left ≡ [] → done ++ left ≡ whole → PutsThrough w a b done x → PutsThrough w a b whole x
all_passes w x done left whole a b none all p =
    subst (λ z. PutsThrough w a b z x) (sym (append-nil done) ∙ (ap (λ z. done ++ z) (sym none) ∙ all)) p

-- what waits is put at last, or a part of it
pub put_last : (w x given : List ℕ) (a b c : Device ℕ) → PutsThrough w a b given x → Grows b c x → c.faults ≡ b.faults → IsLater b c
    → PutsThrough w a c given []
put_last w x given a b c p put steady later = record {
  front = p.front ++ x;
  put = grows-append a b c p.front x p.put put;
  all = p.all ∙ sym (append-nil (p.front ++ x));
  steady = steady ∙ p.steady;
  later = later-later a b c p.later later;
}

pub put_breaks : (w x given : List ℕ) (a b c : Device ℕ) → PutsThrough w a b given x → GrowsByPart b c x → Rose b c → IsLater b c → Breaks w a c given Write
put_breaks w x given a b c p part rose later = record {
  part = subst (λ z. GrowsByPart a c z) (sym p.all) (grows_by_part-append a b c p.front x p.put part);
  cause = failed-later a b c p.later rose;
  later = later-later a b c p.later later;
}

-- the same octets by another name
pub breaks_as : (w given same : List ℕ) (a b : Device ℕ) (fault : RunFault) → given ≡ same → Breaks w a b given fault → Breaks w a b same fault
breaks_as w given same a b fault is p = subst (λ z. Breaks w a b z fault) is p

-- however it ends, the sink is the same at a later time
pub writes_later : (w given x : List ℕ) (a b : Device ℕ) (result : Result (Unit {0}) RunFault) → Writes w a b given x result → IsLater a b
writes_later w given x a b (Ok done) p = p.later
writes_later w given x a b (Err fault) p = p.later
