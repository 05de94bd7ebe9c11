use Rattle.std.proofs.Common.{◌<◌, ℕ, subst}
use Rattle.web.proofs.Cutting.{filing_next, filing_text}
use Rattle.web.proofs.given.shelf_of.Goals as goal

pub add_file-requires : goal.add_file-requires
add_file-requires c =
    let P : ℕ → Type 0 = λ n. c.loop-k.k < n in
    filing_text _ _ c.args.name_sizes.now c.loop-k.names_left.now c.args.file_sizes.now c.loop-k.files_left.now c.split_at.result.0.now c.loop-k.k c.loop-k-test.true
    (subst P c.requires.as_many c.loop-k-test.true) c.split_at.ensures.front c.loop-k.invariant

pub loop-k-preserved : goal.loop-k-preserved
loop-k-preserved c =
    let P : ℕ → Type 0 = λ n. c.loop-k.k < n in
    filing_next _ _ _ c.args.name_sizes.now c.loop-k.names_left.now c.args.file_sizes.now c.loop-k.files_left.now c.split_at.result.0.now c.split_at-in-loop-k.result.0.now
    c.split_at.result.1.now c.split_at-in-loop-k.result.1.now c.loop-k.k c.loop-k-test.true (subst P c.requires.as_many c.loop-k-test.true)
    c.split_at.ensures.front c.split_at.ensures.back c.split_at-in-loop-k.ensures.front c.split_at-in-loop-k.ensures.back c.in_ok-add_file.ensures.ok c.loop-k.invariant
