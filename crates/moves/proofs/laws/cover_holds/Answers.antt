use Rattle.moves.proofs.Covering.{cover_contradicts, cover_holds, covers_between}
use Rattle.moves.proofs.laws.cover_holds.Goals as goal

pub returns : goal.returns
returns c = record { holds = cover_holds; contradicts = cover_contradicts; between = covers_between }
