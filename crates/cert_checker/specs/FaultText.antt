-- The texts of the faults of lines.
use Rattle.std.specs.Prelude.{ℕ, List, ◌++◌, codes}
use Rattle.std.specs.Fmt.{decimal, signed_decimal}
use Rattle.cert_checker.specs.declared.check_fault.CheckFault.{CheckFault}
use Rattle.cert_checker.specs.declared.check_fault.CheckFault.TheVariants.{AfterEnd, AlreadySplit, BadEdge, Broken, NoSuchConstraint, NotChosen, NotNegative, PathHere, SumTooGreat, TooLong}

-- what a fault says, with its count, its place or its sum, if it has one, in decimal
abbrev pub fault_text : CheckFault → List ℕ
fault_text AfterEnd = codes "the proof is whole before this line"
fault_text NoSuchConstraint = codes "there is no such constraint to split"
fault_text AlreadySplit = codes "the constraint is split above"
fault_text PathHere = codes "a proof of nothing has no paths"
fault_text (TooLong count) = decimal count ++ codes " edges are more than there are events"
fault_text (BadEdge place) = codes "there is no edge of the name at " ++ decimal place
fault_text (NotChosen place) = codes "the edge at " ++ (decimal place ++ codes " may not be used here")
fault_text (Broken place) = codes "the edges are broken at " ++ decimal place
fault_text (SumTooGreat sum) = codes "the sum " ++ (signed_decimal sum ++ codes " exceeds the value")
fault_text (NotNegative sum) = codes "the sum " ++ (signed_decimal sum ++ codes " is not negative")
