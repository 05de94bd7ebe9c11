use Rattle.std.proofs.Common.{drop}
use Rattle.web.proofs.Cutting.{TextsLeft}
use Rattle.web.proofs.given.is_each_text.Given as goal

abbrev pub invariant-loop-size : goal.invariant-loop-size
invariant-loop-size l = TextsLeft l.sizes l.bytes (drop l.size-index l.sizes) l.left
