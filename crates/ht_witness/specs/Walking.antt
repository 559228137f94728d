-- What is left of a walk.
use Rattle.std.specs.Prelude.{ℕ, List, Bool, drop, Option}
use Rattle.ht_sphere.specs.Tree.{Reached}
use Rattle.ht_witness.specs.declared.check_fault.CheckFault.{CheckFault}
use Rattle.ht_witness.specs.declared.check_fault.CheckFault.TheVariants.{Early, Better, Short}
use Rattle.ht_witness.specs.declared.flaw.Flaw.{Flaw}
use Rattle.ht_witness.specs.declared.flaw.Flaw.TheVariants.{Ended, Cut, Beaten}
use Rattle.ht_witness.specs.Walks.{Suffix, walk_fault}

-- the first fault of a walk that goes on with these suffixes at a place of the marks
abbrev pub fault_here : Reached → List Bool → List Suffix → ℕ → Option CheckFault
fault_here claim marks todo at = walk_fault claim todo at (drop at marks)

-- what is wrong where a walk stopped
abbrev pub fault_at : Flaw → ℕ → CheckFault
fault_at Ended at = Short at
fault_at Cut at = Early at
fault_at Beaten at = Better at
