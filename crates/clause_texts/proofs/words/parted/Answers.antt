use Rattle.std.proofs.Common.{◌<◌, ◌∙◌, arith, codes, length, sym}
use Rattle.clause_texts.proofs.Parting.{parted_as, parted_none}
use Rattle.clause_texts.proofs.words.parted.Goals as goal

pub returns-then-place-words : goal.returns-then-place-words
returns-then-place-words c = sym (parted_none (codes "keep") c.args.words.now (sym c.place_of-place.ensures.place ∙ c.if-place-words.true))

pub returns : goal.returns
returns c =
    let within : c.place_of-place.result < length c.args.words.now = omega (arith, c.if-place-words.false, c.place_of-place.ensures.within) in
    parted_as (codes "keep") c.args.words.now c.place_of-place.result c.place_of-place.ensures.place within
