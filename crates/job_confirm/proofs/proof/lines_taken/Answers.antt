use Rattle.std.proofs.Common.{◌≡◌, List, Option, arith, length, refl, ◌∙◌, sym, subst}
use Rattle.std.specs.Prelude.{IfSome, IsSomeAnd}
use Rattle.edge_clauses.specs.declared.line.StoredLine.{StoredLine}
use Rattle.edge_clauses.specs.Proofs.{IsProving, line_of, lines_of}
use Rattle.edge_clauses.proofs.Leading.{taken_proving}
use Rattle.clause_texts.specs.Text.{SpellsClause}
use Rattle.job_confirm.proofs.Taken.{ended_proves, ended_reads, is_over, none_left, reads_more, reads_taken, spent_left, starts_reading}
use Rattle.job_confirm.proofs.proof.lines_taken.Goals as goal

pub loop-number-init : goal.loop-number-init
loop-number-init c = record {
  proving = subst (λ (ls : List StoredLine). IsProving c.args.net.now (record { check = c.args.checker.now; lines = ls })) (sym c.new-lines.ensures.items) c.requires.proving;
  same_goal = refl;
  reading = starts_reading c.args.net.now c.args.checker.now.goal c.args.reader.now.rest.now _ c.new-lines.result.items c.new-lines.ensures.items refl;
}

pub loop-number-preserved : goal.loop-number-preserved
loop-number-preserved c =
    let takes = c.in_ok-take.ensures.taken c.if-not-branch.false in
    record {
      proving =
          subst (λ (ls : List StoredLine). IsProving c.args.net.now (record { check = c.take.new.self; lines = ls })) (sym c.in_ok-push.ensures.items)
          (taken_proving c.args.net.now c.loop-number.checker c.take.new.self c.loop-number.lines.items c.in-Some.line c.loop-number.invariant.proving takes);
      same_goal = takes.goal ∙ c.loop-number.invariant.same_goal;
      reading = reads_more c.args.net.now c.args.checker.now.goal c.args.reader.now.rest.now c.loop-number.reader.rest.now _ c.loop-number._number c.loop-number.lines.items c.push.new.self.items c.in-Some.line
          c.loop-number.invariant.reading
          (λ text after b. subst (λ (o : Option StoredLine). IfSome o (λ l. SpellsClause text (line_of l))) c.in-Some.is (c.in_ok-line.ensures.some text after b))
          (λ text after l b spells. subst (λ (o : Option StoredLine). IsSomeAnd o (λ r. line_of r ≡ l)) c.in-Some.is (c.in_ok-line.ensures.read text after l b spells))
          c.in_ok-push.ensures.items c.pass.ensures.passed;
    }

pub returns-in_default-clause-proof : goal.returns-in_default-clause-proof
returns-in_default-clause-proof c =
    ended_proves c.args.net.now _ c.loop-number.checker c.loop-number.lines.items c.ended.result c.loop-number.invariant.proving c.loop-number.invariant.same_goal c.ended.ensures.over
    c.ended.ensures.same

pub returns-in_default-clause-read : goal.returns-in_default-clause-read
returns-in_default-clause-read c shown more proof forms other stands =
    let (left, many) = c.loop-number.invariant.reading shown more proof forms other stands in
    let (all, behind) = none_left (lines_of shown) more (lines_of c.loop-number.lines.items) c.loop-number.reader.rest.now left
    (λ text after l b spells. subst (λ (o : Option StoredLine). IsSomeAnd o (λ r. line_of r ≡ l)) c.in_default.is (c.in_ok-line.ensures.read text after l b spells)) in
    ended_reads shown c.loop-number.lines.items c.loop-number.reader.rest.now more c.ended.result all behind
    (c.ended.ensures.given (is_over c.args.net.now _ c.loop-number.checker c.loop-number.lines.items shown c.loop-number.invariant.proving c.loop-number.invariant.same_goal all proof))

pub returns-then-not-branch-clause-read : goal.returns-then-not-branch-clause-read
returns-then-not-branch-clause-read c shown more proof forms other stands =
    absurd (reads_taken c.args.net.now _ c.loop-number.checker c.args.reader.now.rest.now c.loop-number.reader.rest.now c.loop-number._number c.loop-number.lines.items c.in-Some.line
    c.loop-number.invariant.reading c.loop-number.invariant.proving c.loop-number.invariant.same_goal
    (λ text after b. subst (λ (o : Option StoredLine). IfSome o (λ l. SpellsClause text (line_of l))) c.in-Some.is (c.in_ok-line.ensures.some text after b))
    (λ text after l b spells. subst (λ (o : Option StoredLine). IsSomeAnd o (λ r. line_of r ≡ l)) c.in-Some.is (c.in_ok-line.ensures.read text after l b spells))
    (c.in_ok-take.ensures.refused c.if-not-branch.true) shown more proof forms other stands)

pub returns-clause-proof : goal.returns-clause-proof
returns-clause-proof c =
    ended_proves c.args.net.now _ c.loop-number.checker c.loop-number.lines.items c.ended-2.result c.loop-number.invariant.proving c.loop-number.invariant.same_goal c.ended-2.ensures.over
    c.ended-2.ensures.same

pub returns-clause-read : goal.returns-clause-read
returns-clause-read c shown more proof forms other stands =
    let (left, many) = c.loop-number.invariant.reading shown more proof forms other stands in
    let none : length c.loop-number.reader.rest.now ≡ 0 = omega (arith, many, c.loop-number-test.false, c.left-number-end.ensures.left) in
    let (all, behind) = spent_left (lines_of shown) more (lines_of c.loop-number.lines.items) c.loop-number.reader.rest.now left none in
    ended_reads shown c.loop-number.lines.items c.loop-number.reader.rest.now more c.ended-2.result all behind
    (c.ended-2.ensures.given (is_over c.args.net.now _ c.loop-number.checker c.loop-number.lines.items shown c.loop-number.invariant.proving c.loop-number.invariant.same_goal all proof))
