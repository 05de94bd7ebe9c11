use Rattle.std.proofs.Common.{List, ℤ, length, ap, sym, subst, ◌∙◌}
use Rattle.std.proofs.lemmas.List.{with_items_is}
use Rattle.branch.specs.Answers.{evidence}
use Rattle.job_bounds.specs.Step.Witness.{IsShiftedTo}
use Rattle.job_bounds.proofs.Answering.{kept_from, not_unbounded}
use Rattle.job_bounds.proofs.bounding.keep.Goals as goal

pub returns-in-Unbounded-clause-kept : goal.returns-in-Unbounded-clause-kept
returns-in-Unbounded-clause-kept c =
    let list = with_items_is c.args.kept.now.times c.take_times.new.out (c.take_times.auto.out ∙ ap length c.deref_mut.ensures.value ∙ sym c.args.kept.now.times.ok.0) in
    kept_from _ _ _ _ (evidence c.requires.answers.1 c.args.work.now) _ _ _ c.is_whole.ensures.net c.requires.answers.2 c.requires.times c.requires.close c.requires.reached c.requires.from c.requires.to
    (list ∙ subst (λ (ts : List ℤ). IsShiftedTo c.args.pair.from ts c.take_times.new.out) c.times.ensures c.take_times.ensures.taken)
    (λ unbounded. c.copy_from_slice.ensures.items ∙ c.ray.ensures)

pub returns-in-Closed-clause-kept : goal.returns-in-Closed-clause-kept
returns-in-Closed-clause-kept c =
    let list = with_items_is c.args.kept.now.times c.take_times.new.out (c.take_times.auto.out ∙ ap length c.deref_mut.ensures.value ∙ sym c.args.kept.now.times.ok.0) in
    kept_from _ _ _ _ (evidence c.requires.answers.1 c.args.work.now) _ _ _ c.is_whole.ensures.net c.requires.answers.2 c.requires.times c.requires.close c.requires.reached c.requires.from c.requires.to
    (list ∙ subst (λ (ts : List ℤ). IsShiftedTo c.args.pair.from ts c.take_times.new.out) c.times.ensures c.take_times.ensures.taken)
    (λ unbounded. absurd (not_unbounded c.args.answer c.in-Closed.is unbounded))
