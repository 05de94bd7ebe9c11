use Rattle.std.proofs.Common.{◌≡◌, drop}
use Rattle.label_grammar.specs.Reading.{first_kind, kind_of}
use Rattle.label_grammar.proofs.parts.read_kind.Given as goal

abbrev pub invariant-loop-kind : goal.invariant-loop-kind
invariant-loop-kind l = first_kind (drop l.kind-index l.kind-items) l.text ≡ kind_of l.text
