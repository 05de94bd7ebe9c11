use Rattle.std.proofs.Common.{refl}
use Rattle.web.proofs.Running.{fit_status, without_memory}
use Rattle.web.proofs.itv_run.Goals as goal

pub returns-in-Err-clause-answered : goal.returns-in-Err-clause-answered
returns-in-Err-clause-answered c = without_memory _ _ _ _ (c.if-not-is_fit.ensures.0 refl) c.code.ensures.code refl

pub returns-in-Ok-shelf_of-clause-answered : goal.returns-in-Ok-shelf_of-clause-answered
returns-in-Ok-shelf_of-clause-answered c = c.answer.ensures.answered _ (c.if-not-is_fit.ensures.0 refl) c.in-Ok.ensures.pieces c.in-Ok-shelf_of.ensures.files

pub returns-in-Ok-shelf_of-clause-fit : goal.returns-in-Ok-shelf_of-clause-fit
returns-in-Ok-shelf_of-clause-fit c =
    fit_status _ _ _ _ (c.answer.ensures.answered _ (c.if-not-is_fit.ensures.0 refl) c.in-Ok.ensures.pieces c.in-Ok-shelf_of.ensures.files)

pub returns-clause-answered : goal.returns-clause-answered
returns-clause-answered c = without_memory _ _ _ _ (c.if-not-is_fit.ensures.0 refl) c.code-in-Err-shelf_of.ensures.code refl
