-- One more worker has ended.
use Rattle.std.proofs.Common.{◌≡◌, ℕ, List, [], ◌∷◌, ◌++◌, map, ap, ◌∙◌, sym}
use Rattle.std.proofs.lemmas.List.{map-append}
use Rattle.std.proofs.lemmas.List.Elements.{All-push, All-same}
use Rattle.atomic_table.specs.Seated.{TableId}
use Rattle.ht_pool.specs.Members.{workplace_of, HasServed, HaveServed}
use Rattle.ht_pool.specs.declared.member.Member.{Member}

module _ {T A : Type 0} (asked : A → T) (weight : T → ℕ) (queue : TableId) where
  pub have_served-push : (before front after all : List (Member T A)) (m m' : Member T A) → before ≡ front ++ m ∷ [] → all ≡ after ++ m' ∷ []
      → HaveServed asked weight queue front after → HasServed asked weight queue m' → workplace_of m' ≡ workplace_of m
      → HaveServed asked weight queue before all
  have_served-push before front after all m m' b a those this same =
      let new : map workplace_of all ≡ map workplace_of after ++ workplace_of m' ∷ [] = ap (map workplace_of) a ∙ map-append workplace_of after (m' ∷ []) in
      let old : map workplace_of before ≡ map workplace_of front ++ workplace_of m ∷ [] = ap (map workplace_of) b ∙ map-append workplace_of front (m ∷ []) in
      record {
        served = All-same (HasServed asked weight queue) all (after ++ m' ∷ []) a (All-push (HasServed asked weight queue) after m' those.served this);
        workplaces_are = new ∙ (ap (λ x. map workplace_of after ++ x ∷ []) same ∙ (ap (λ xs. xs ++ workplace_of m ∷ []) those.workplaces_are ∙ sym old));
      }
