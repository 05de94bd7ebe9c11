use Rattle.std.proofs.Common.{◌∙◌, ap, sym, option_map}
use Rattle.slack_report.specs.Step.Items.{step_view}
use Rattle.slack_report.proofs.Gathering.{cut_short, goes_on, stops, whole_is}
use Rattle.slack_report.proofs.read.read_items.Goals as goal

pub returns-in_default-2 : goal.returns-in_default-2
returns-in_default-2 c =
    let cut = c.in-Some.ensures in
    let step = sym (ap (option_map step_view) c.in_default-2.is) ∙ c.in_ok-item.ensures.is in
    stops c.loop-line.items.items c.loop-line.place c.loop-line.rest.now _ c.loop-line.invariant.so_far c.in-Some.line.now c.in-Some.behind.now c.len.result cut.0 cut.1 cut.2 step (c.len.ensures ∙ c.loop-line.items.ok.0)

pub loop-line-preserved : goal.loop-line-preserved
loop-line-preserved c =
    let cut = c.in-Some.ensures in
    let step = sym (ap (option_map step_view) c.in-Some-2.is) ∙ c.in_ok-item.ensures.is in record {
      within = rw c.in-Some-2.is at c.in_ok-item.ensures.within;
      so_far = goes_on c.loop-line.items.items c.loop-line.place c.loop-line.rest.now _ c.loop-line.invariant.so_far c.in-Some.line.now c.in-Some.behind.now c.in-Some-2.item c.in-Some-2.next c.push.new.self.items cut.0 cut.1 cut.2 step c.in_ok-push.ensures.items;
    }

pub returns-then-not-is_end : goal.returns-then-not-is_end
returns-then-not-is_end c =
    cut_short c.loop-line.items.items c.loop-line.place c.loop-line.rest.now _ c.loop-line.invariant.so_far c.len-then-not-is_end.result c.in_default.ensures (sym c.if-not-is_end.ensures)
    (c.len-then-not-is_end.ensures ∙ c.loop-line.items.ok.0)

pub returns : goal.returns
returns c = whole_is c.loop-line.items.items c.loop-line.place c.loop-line.rest.now _ c.loop-line.invariant.so_far c.in_default.ensures (sym c.if-not-is_end.ensures)
