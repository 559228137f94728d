use Rattle.std.proofs.Common.{[], ◌∷◌, codes, refl}
use Rattle.ht_words.proofs.Acceptance.{accepted_by, refused}
use Rattle.ht_words.proofs.laws.worked.Goals as goal

pub returns-clause-alone : goal.returns-clause-alone
returns-clause-alone c = accepted_by (codes "rx" ∷ []) refl

pub returns-clause-zeros : goal.returns-clause-zeros
returns-clause-zeros c = accepted_by (codes "rx" ∷ codes "--window" ∷ codes "00000000000000000007" ∷ codes "--workers" ∷ codes "64" ∷ []) refl

pub returns-clause-twice : goal.returns-clause-twice
returns-clause-twice c = refused (codes "rx" ∷ codes "--window" ∷ codes "7" ∷ codes "--window" ∷ codes "7" ∷ []) refl

pub returns-clause-long : goal.returns-clause-long
returns-clause-long c = refused (codes "rx" ∷ codes "--window" ∷ codes "000000000000000000007" ∷ []) refl

pub returns-clause-signed : goal.returns-clause-signed
returns-clause-signed c = refused (codes "rx" ∷ codes "--window" ∷ codes "+7" ∷ []) refl

pub returns-clause-foreign : goal.returns-clause-foreign
returns-clause-foreign c = refused (codes "rx" ∷ codes "--seed" ∷ codes "7" ∷ []) refl

pub returns-clause-above : goal.returns-clause-above
returns-clause-above c = refused (codes "rx" ∷ codes "--window" ∷ codes "4097" ∷ []) refl

pub returns-clause-bare : goal.returns-clause-bare
returns-clause-bare c = refused (codes "rx" ∷ codes "--window" ∷ []) refl

pub returns-clause-unknown : goal.returns-clause-unknown
returns-clause-unknown c = refused (codes "receive" ∷ []) refl

pub returns-clause-nothing : goal.returns-clause-nothing
returns-clause-nothing c = refused [] refl
