use Rattle.std.proofs.Common.{◌≡◌}
use Rattle.serde_json.specs.View.{members_view}
use Rattle.json_tree.specs.Words.{all_of, members}
use Rattle.json_tree.proofs.ReadLists.{with_rest}
use Rattle.grades.specs.Grades.{parameter_of}
use Rattle.grades.proofs.loose.parameters_in.Given as goal

-- what is read so far, and what the members that are left give, are what all members give
abbrev pub invariant-loop-name : goal.invariant-loop-name
invariant-loop-name l = with_rest parameter_of l.parameters (members (members_view l.name-iterator)) ≡ all_of parameter_of (members (members_view l.map.entries))
