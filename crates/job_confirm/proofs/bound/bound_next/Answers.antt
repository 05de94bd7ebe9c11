use Rattle.std.proofs.Common.{List, ℕ, refl, sym, subst, ◌∙◌}
use Rattle.job_confirm.specs.Step.{Begins}
use Rattle.job_confirm.proofs.Next.{endless_read, number_read, spent_bound_read}
use Rattle.job_confirm.proofs.bound.bound_next.Goals as goal

pub returns-then-passes-clause-read : goal.returns-then-passes-clause-read
returns-then-passes-clause-read c shown more is stands =
    spent_bound_read c.args.net.now c.args.which c.args.row.now c.args.reader.now.rest.now
    (λ next after b. (c.if-passes.ensures.stands next after b).0 refl ∙ c.spent_line.ensures) shown more stands

pub returns-then-passes-2-clause-read : goal.returns-then-passes-2-clause-read
returns-then-passes-2-clause-read c shown more is stands =
    let stays = c.if-passes.ensures.stays refl in
    let here = λ (line after : List ℕ) (b : Begins c.args.reader.now.rest.now line after). subst (λ (rest : List ℕ). Begins rest line after) (sym stays) b in
    endless_read c.args.net.now c.args.which c.args.row.now c.args.reader.now.rest.now _ _
    (λ line after b. (c.if-passes-2.ensures.stands line after (here line after b)).0 refl ∙ c.unbounded_line.ensures)
    (λ line after b. c.if-passes-2.ensures.passed line after (here line after b) refl) c.endless_next.ensures.read shown more is stands

pub returns-clause-read : goal.returns-clause-read
returns-clause-read c shown more is stands =
    let stays = c.if-passes.ensures.stays refl in
    let again = c.if-passes-2.ensures.stays refl in
    let here = λ (line after : List ℕ) (b : Begins c.args.reader.now.rest.now line after). subst (λ (rest : List ℕ). Begins rest line after) (sym stays) b in
    number_read c.args.net.now c.args.which c.args.row.now c.args.reader.now.rest.now _
    (λ line after b same. absurd (cc ((c.if-passes.ensures.stands line after b).1 (same ∙ sym c.spent_line.ensures))))
    (λ line after b same. absurd (cc ((c.if-passes-2.ensures.stands line after (here line after b)).1 (same ∙ sym c.unbounded_line.ensures))))
    (λ value times proof behind number stands. c.number_next.ensures.read value times proof behind number (again ∙ (stays ∙ stands))) shown more is stands
