use Rattle.std.proofs.Common.{◌∙◌, ap, take}
use Rattle.redraw.proofs.Pieces.{dots_are}
use Rattle.redraw.proofs.write.dots.Goals as goal

pub returns : goal.returns
returns c = ap (take c.args.count) c.all_dots.ensures ∙ dots_are c.args.count c.requires
