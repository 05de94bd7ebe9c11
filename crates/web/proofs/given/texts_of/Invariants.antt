use Rattle.std.proofs.Common.{drop}
use Rattle.web.proofs.Cutting.{Copied}
use Rattle.web.proofs.given.texts_of.Given as goal

abbrev pub invariant-loop-size : goal.invariant-loop-size
invariant-loop-size l = Copied l.sizes l.bytes l.texts (drop l.size-index l.sizes) l.left
