use Rattle.certificate.specs.declared.stored.StoredKind.TheVariants as kinds
use Rattle.certificate.proofs.Trees.{line_is, part_within}
use Rattle.certificate.proofs.tree_scribe.line_at.Goals as goal

pub part-edges-requires-clause-low : goal.part-edges-requires-clause-low
part-edges-requires-clause-low c = rw c.start_of.ensures (part_within _ _ _ _ c.requires.ends c.requires.line).0

pub part-edges-requires-clause-high : goal.part-edges-requires-clause-high
part-edges-requires-clause-high c = (part_within _ _ _ _ c.requires.ends c.requires.line).1

pub returns-in-Split : goal.returns-in-Split
returns-in-Split c = line_is _ _ _ _ _ _ (kinds.Split c.in-Split.constraint) c.requires.line c.start_of.ensures c.part-edges.ensures c.in-Split.is

pub returns-in-Path : goal.returns-in-Path
returns-in-Path c = line_is _ _ _ _ _ _ kinds.Path c.requires.line c.start_of.ensures c.part-edges.ensures c.in-Path.is

pub returns-in-Loop : goal.returns-in-Loop
returns-in-Loop c = line_is _ _ _ _ _ _ kinds.Loop c.requires.line c.start_of.ensures c.part-edges.ensures c.in-Loop.is
