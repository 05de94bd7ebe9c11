use Rattle.std.proofs.Common.{◌+◌, ◌-◌, length, drop, take, take_all, ap, ◌∙◌, sym, length-drop, arith}
use Rattle.job_confirm.proofs.Lines.{cut_parts, is_cut}
use Rattle.job_confirm.proofs.reader.cut_line.Goals as goal

pub returns-then-len-text : goal.returns-then-len-text
returns-then-len-text c = record { cut = λ line more b. is_cut c.args.text.now line more b (sym c.line_len-len.ensures.len ∙ c.if-len-text.true) }

pub returns : goal.returns
returns c = record {
  cut = λ line more b.
      cut_parts c.args.text.now line more _ _ b (ap (λ n. take n c.args.text.now) c.line_len-len.ensures.len)
      (take_all (length c.args.text.now - (c.line_len-len.result + 1)) (drop (c.line_len-len.result + 1) c.args.text.now)
      (omega (arith, length-drop (c.line_len-len.result + 1) c.args.text.now)) ∙ ap (λ n. drop (n + 1) c.args.text.now) c.line_len-len.ensures.len);
}
