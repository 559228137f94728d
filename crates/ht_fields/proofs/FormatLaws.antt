-- What holds of the files of every format.
use Rattle.std.proofs.Common.{◌≡◌, ℕ, List}
use Rattle.ht_fields.specs.Grammar.{Grammar}
use Rattle.ht_fields.specs.Cases.{CanEnd, IsFile}
use Rattle.ht_fields.specs.FormatLaws.{CleanCanEnd, IsPrefixFree, WritesEach}
use Rattle.ht_fields.specs.Tests.{AreBytes}
use Rattle.ht_fields.proofs.Answered.{file_items, file_prefix}
use Rattle.ht_fields.proofs.Cuts.{clean_cut, cut_clean}

pub prefix_free : {S I : Type 0} (f : Grammar S I) → IsPrefixFree f
prefix_free f = record { prefix = file_prefix f; equal = file_items f }

pub clean_ends : {S I : Type 0} (f : Grammar S I) → CanEnd f → CleanCanEnd f
clean_ends f ends = record { ends = ends; clean = λ octets items clean. clean_cut f octets items ends clean; cut = cut_clean f }

pub each_written : {S I : Type 0} (f : Grammar S I) (are : List I → Type 0) (file : List I → List ℕ)
    → ((octets : List ℕ) (items : List I) → AreBytes octets → IsFile f octets items → are items × (octets ≡ file items)) → WritesEach f are file
each_written f are file back = record {
  fit = λ octets items bytes is. (back octets items bytes is).0;
  written = λ octets items bytes is. (back octets items bytes is).1;
}
