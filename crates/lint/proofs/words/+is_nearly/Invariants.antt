use Rattle.std.proofs.Common.{length}
use Rattle.lint.proofs.words.+is_nearly.Given as goal

abbrev pub decreases-is_nearly : goal.decreases-is_nearly
decreases-is_nearly l = length l.word.now
