use Rattle.std.proofs.Common.{drop}
use Rattle.std.specs.FinMap as map
use Rattle.web.specs.Given.{cut, filed}
use Rattle.web.proofs.Cutting.{Filing}
use Rattle.web.proofs.given.shelf_of.Given as goal

abbrev pub invariant-loop-k : goal.invariant-loop-k
invariant-loop-k l =
    Filing (filed map.empty (cut l.name_sizes l.names) (cut l.file_sizes l.files)) l.shelf (drop l.k l.name_sizes) l.names_left (drop l.k l.file_sizes) l.files_left
