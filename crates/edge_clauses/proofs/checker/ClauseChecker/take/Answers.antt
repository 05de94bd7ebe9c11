use Rattle.std.proofs.Common.{◌≡◌, IfOk, IsFalse, ap, sym, subst}
use Rattle.edge_clauses.specs.Checking.{IsNoLine}
use Rattle.edge_clauses.specs.Lines.{Assume, ClauseLine, Close, Fall, Know, Loop, Rise}
use Rattle.edge_clauses.specs.Proofs.{line_of}
use Rattle.edge_clauses.proofs.Checked.{still_checking}
use Rattle.edge_clauses.proofs.checker.ClauseChecker.take.Goals as goal

pub returns-in-Fall-clause-checking : goal.returns-in-Fall-clause-checking
returns-in-Fall-clause-checking c =
    still_checking c.args.net.now c.args.self.now c.fall.new.self (Fall c.in-Fall.bound.event c.in-Fall.bound.value c.in-Fall.bound.basis) c.fall.result c.requires.checking c.fall.ensures.taken c.fall.ensures.unchanged c.fall.ensures.kept

pub returns-in-Rise-clause-refused : goal.returns-in-Rise-clause-refused
returns-in-Rise-clause-refused c =
    subst (λ (l : ClauseLine). IfOk c.rise.result (λ taken. IsFalse taken → IsNoLine c.args.net.now c.args.self.now l)) (sym (ap line_of c.in-Rise.is)) c.rise.ensures.refused

pub returns-in-Rise-clause-checking : goal.returns-in-Rise-clause-checking
returns-in-Rise-clause-checking c =
    still_checking c.args.net.now c.args.self.now c.rise.new.self (Rise c.in-Rise.bound.event c.in-Rise.bound.value c.in-Rise.bound.basis) c.rise.result c.requires.checking c.rise.ensures.taken c.rise.ensures.unchanged c.rise.ensures.kept

pub returns-in-Know-clause-refused : goal.returns-in-Know-clause-refused
returns-in-Know-clause-refused c =
    subst (λ (l : ClauseLine). IfOk c.know.result (λ taken. IsFalse taken → IsNoLine c.args.net.now c.args.self.now l)) (sym (ap line_of c.in-Know.is)) c.know.ensures.refused

pub returns-in-Know-clause-checking : goal.returns-in-Know-clause-checking
returns-in-Know-clause-checking c =
    still_checking c.args.net.now c.args.self.now c.know.new.self (Know c.in-Know.edge c.in-Know.basis) c.know.result c.requires.checking c.know.ensures.taken c.know.ensures.unchanged c.know.ensures.kept

pub returns-in-Loop-clause-refused : goal.returns-in-Loop-clause-refused
returns-in-Loop-clause-refused c =
    let same : Loop c.in-Loop.event c.deref.result.now c.deref-in-Loop.result.now ≡ line_of c.args.line.now =
    cc (c.deref.ensures.value, c.deref-in-Loop.ensures.value, ap line_of c.in-Loop.is) in
    subst (λ (l : ClauseLine). IfOk c.keep_loop.result (λ taken. IsFalse taken → IsNoLine c.args.net.now c.args.self.now l)) same c.keep_loop.ensures.refused

pub returns-in-Loop-clause-checking : goal.returns-in-Loop-clause-checking
returns-in-Loop-clause-checking c =
    still_checking c.args.net.now c.args.self.now c.keep_loop.new.self (Loop c.in-Loop.event c.deref.result.now c.deref-in-Loop.result.now) c.keep_loop.result c.requires.checking c.keep_loop.ensures.taken c.keep_loop.ensures.unchanged c.keep_loop.ensures.kept

pub returns-in-Assume-clause-checking : goal.returns-in-Assume-clause-checking
returns-in-Assume-clause-checking c =
    still_checking c.args.net.now c.args.self.now c.assume.new.self (Assume c.deref-in-Assume.result.now) c.assume.result c.requires.checking c.assume.ensures.taken c.assume.ensures.unchanged c.assume.ensures.kept

pub returns-in-Close-clause-checking : goal.returns-in-Close-clause-checking
returns-in-Close-clause-checking c =
    still_checking c.args.net.now c.args.self.now c.close.new.self (Close) c.close.result c.requires.checking c.close.ensures.taken c.close.ensures.unchanged c.close.ensures.kept
