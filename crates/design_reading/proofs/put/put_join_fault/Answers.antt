use Rattle.design_reading.proofs.put.put_join_fault.Goals as goal

pub returns-in-MarkCounts : goal.returns-in-MarkCounts
returns-in-MarkCounts g c = rw (c.in-MarkCounts.is, ← c.from.ensures, ← c.from-in-MarkCounts.ensures) c.put_words-in-MarkCounts.ensures

pub returns-in-KindsDiffer : goal.returns-in-KindsDiffer
returns-in-KindsDiffer g c = rw (c.in-KindsDiffer.is, ← c.from-in-KindsDiffer.ensures) c.put_words-in-KindsDiffer.ensures

pub returns-in-WireNoPart : goal.returns-in-WireNoPart
returns-in-WireNoPart g c = rw c.in-WireNoPart.is c.put_words-in-WireNoPart.ensures

pub returns-in-WireNoMark : goal.returns-in-WireNoMark
returns-in-WireNoMark g c = rw c.in-WireNoMark.is c.put_words-in-WireNoMark.ensures

pub returns-in-TooManyCauses : goal.returns-in-TooManyCauses
returns-in-TooManyCauses g c = rw c.in-TooManyCauses.is c.put_words-in-TooManyCauses.ensures
