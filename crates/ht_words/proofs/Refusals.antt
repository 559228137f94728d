-- Words whose form or values aren't accepted ask for nothing, and others for what is made of the values that were read.
use Rattle.std.proofs.Common.{◌≡◌, ℕ, zero, suc, Bool, true, false, List, [], ◌∷◌, Result, Ok, Err, true≢false, refl, sym, ap, ◌∙◌, subst}
use Rattle.std.specs.Prelude.{◌&&◌, Some, IfOk, IsOkAnd, MatchResult, is_ok, option_map, slice_get}
use Rattle.std.specs.List.{list_all}
use Rattle.std.proofs.lemmas.Option.{none-some, same_Some}
use Rattle.ht_words.specs.declared.asked.Asked.{Asked}
use Rattle.ht_words.specs.declared.plain.Refusal.{Refusal}
use Rattle.ht_words.specs.declared.plain.Refusal.TheVariants.{Words}
use Rattle.ht_words.specs.declared.setting.Setting.{Setting}
use Rattle.ht_words.specs.Refusing.{Reads}
use Rattle.ht_words.specs.Settings.{admits}
use Rattle.ht_words.specs.Words.{are_accepted, is_plain, only_if, value_of}

nor : (test : Bool) → (test && false) ≡ false
nor true = refl
nor false = refl

not_all : (holds : Setting → Bool) (settings : List Setting) (k : ℕ) (setting : Setting) → slice_get settings k ≡ Some setting → holds setting ≡ false
    → list_all holds settings ≡ false
not_all holds [] k setting there fails = absurd (none-some setting there)
not_all holds (s ∷ ss) zero setting there fails = ap (λ (test : Bool). test && list_all holds ss) (ap holds (same_Some s setting there) ∙ fails)
not_all holds (s ∷ ss) (suc k) setting there fails =
    ap (λ (test : Bool). holds s && test) (not_all holds ss k setting there fails) ∙ nor (holds s)

abbrev refusal_in : {A : Type 0} → Result A Refusal → Refusal
refusal_in (Ok asked) = Words
refusal_in (Err refusal) = refusal

abbrev pub refused : {A : Type 0} → Refusal → Result A Refusal
refused refusal = Err refusal

-- an error, where it is that of words only if these aren't accepted
refuses : {A : Type 0} (accepted : Bool) (asked : A) {given : Refusal} {result : Result A Refusal} → result ≡ Err given
    → (given ≡ Words → accepted ≡ false) → Reads (only_if accepted asked) result
refuses {A} accepted asked {given} {result} is none = record {
  asked = subst (λ (r : Result A Refusal). IfOk r (λ a. only_if accepted asked ≡ Some a)) (sym is) tt;
  refused = λ words. ap (λ (test : Bool). only_if test asked) (none (ap refusal_in (sym is ∙ words)));
}

-- what is made of what was read, where that was asked for
module _ {A : Type 0} (accepted : Bool) (wanted : A) (make : A → Asked) where
  made_if : (test : Bool) → only_if test (make wanted) ≡ option_map make (only_if test wanted)
  made_if true = refl
  made_if false = refl

  pub reads_made : (Gives : A → Asked → Type 0) → ((x : A) (made : Asked) → Gives x made → made ≡ make x)
      → (read : Result A Refusal) (result : Result Asked Refusal) → Reads (only_if accepted wanted) read
      → MatchResult read (λ x. IsOkAnd result (Gives x)) (λ e. result ≡ Err e) → Reads (only_if accepted (make wanted)) result
  reads_made Gives gives (Ok x) (Ok made) reads is = record {
    asked = made_if accepted ∙ (ap (option_map make) reads.asked ∙ ap Some (sym (gives x made is)));
    refused = λ words. absurd (true≢false (ap is_ok words));
  }
  reads_made Gives gives (Ok x) (Err e) reads is = absurd is
  reads_made Gives gives (Err e) result reads is = record {
    asked = subst (λ (r : Result Asked Refusal). IfOk r (λ a. only_if accepted (make wanted) ≡ Some a)) (sym is) tt;
    refused = λ words.
        let none = reads.refused (ap (λ (r : Result Asked Refusal). refused {A = A} (refusal_in r)) (sym is ∙ words)) in
        made_if accepted ∙ ap (option_map make) none;
  }

module _ {A : Type 0} (settings : List Setting) (words : List (List ℕ)) (asked : A) {fault : Refusal} {result : Result A Refusal}
    (error : (given : Refusal) × (result ≡ Err given) × (given ≡ fault)) where
  -- the words aren't in the plain form
  pub refuses_form : is_plain settings words ≡ false → Reads (only_if (are_accepted settings words) asked) result
  refuses_form plain =
      refuses (are_accepted settings words) asked error.1
      (λ is. ap (λ (test : Bool). test && list_all (λ setting. admits setting (value_of words setting)) settings) plain)

  -- they give one of the options a value that it may not have
  pub refuses_value : (k : ℕ) (setting : Setting) → slice_get settings k ≡ Some setting
      → (refused {A = ℕ} fault ≡ refused {A = ℕ} Words → admits setting (value_of words setting) ≡ false)
      → Reads (only_if (are_accepted settings words) asked) result
  refuses_value k setting there none =
      refuses (are_accepted settings words) asked error.1
      (λ is. ap (λ (test : Bool). is_plain settings words && test)
      (not_all (λ setting. admits setting (value_of words setting)) settings k setting there
      (none (ap (λ (r : Refusal). refused {A = ℕ} r) (sym error.2 ∙ is)))) ∙ nor (is_plain settings words))
