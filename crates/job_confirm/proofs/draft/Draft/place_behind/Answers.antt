use Rattle.std.proofs.Common.{refl, arith}
use Rattle.job_confirm.proofs.Whole.{piece_behind, piece_found}
use Rattle.job_confirm.proofs.draft.Draft.place_behind.Goals as goal

pub returns-then-same-len-clause-whole : goal.returns-then-same-len-clause-whole
returns-then-same-len-clause-whole c more stands =
    let all = piece_found c.args.text.now _ c.args.self.now.bytes.items _ more c.args.place c.same_len-same.result c.requires.place refl c.deref.ensures.value c.same_len-same.ensures.most stands in
    absurd (omega (arith, all, c.if-same-len.true))

pub returns-clause-whole : goal.returns-clause-whole
returns-clause-whole c more stands =
    piece_behind c.args.text.now c.args.self.now.bytes.items more c.args.place c.same_len-same.result
    (piece_found c.args.text.now _ c.args.self.now.bytes.items _ more c.args.place c.same_len-same.result c.requires.place refl c.deref.ensures.value c.same_len-same.ensures.most stands) stands
