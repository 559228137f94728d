use Rattle.std.proofs.Common.{ℕ, List, sym, subst, ◌∙◌}
use Rattle.ht_fields.specs.Cases.{IsFile}
use Rattle.ht_capture.specs.declared.items.Item.{Item}
use Rattle.ht_capture.specs.Fields.{captures}
use Rattle.ht_capture.specs.Files.{capture_file_of}
use Rattle.ht_capture.proofs.Equal.{file_same}
use Rattle.ht_capture.proofs.Filed.{file_written}
use Rattle.ht_capture_laws.proofs.Back.{file_back}
use Rattle.ht_capture_laws.proofs.files.each_of_frames.Goals as goal

pub returns-clause-some : goal.returns-clause-some
returns-clause-some c = file_back

pub returns-clause-only : goal.returns-clause-only
returns-clause-only c = λ octets items those version other frames others a b. file_same version
    other frames others a.fit a.typed a.allowed b.fit b.typed b.allowed (sym a.file ∙ b.file)

pub returns-clause-back : goal.returns-clause-back
returns-clause-back c = λ octets items version frames a.
    subst (λ (o : List ℕ). IsFile captures o items) (sym a.file)
    (subst (λ (i : List Item). IsFile captures (capture_file_of version frames) i) (sym a.shown) (file_written version frames a.fit a.typed a.allowed))
