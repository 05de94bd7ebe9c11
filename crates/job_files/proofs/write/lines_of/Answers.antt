use Rattle.job_files.proofs.Lining.{text_pushed}
use Rattle.job_files.proofs.write.lines_of.Goals as goal

pub loop-k-preserved : goal.loop-k-preserved
loop-k-preserved c =
    text_pushed c.args.names.now c.loop-k.k c.get.result.now c.as_text.result.now _ _ _ c.get.ensures.item c.loop-k.invariant c.in_ok-push_str.ensures.bytes c.as_text.ensures.text c.in_ok-push_str-2.ensures.bytes
