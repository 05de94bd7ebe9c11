use Rattle.std.proofs.Common.{◌≡◌, Option, Some, IsSomeAnd, refl, sym, subst, ap, ◌∙◌}
use Rattle.line_words.specs.Lines.{ended}
use Rattle.edge_clauses.specs.declared.claim.Claim.{Claim}
use Rattle.job_confirm.proofs.reader.claim_in.Goals as goal

pub returns-in-Some-clause-claim : goal.returns-in-Some-clause-claim
returns-in-Some-clause-claim c line more claim b is long =
    let same : c.in-Some.line.now ≡ line = c.in-Some.ensures.next line more b in
    let value : Claim = record { value = claim } in
    let read : c.read_claim.result ≡ Some value = (c.read_claim.ensures.exact value).1 (ap ended same ∙ is, long) in
    subst (λ (o : Option Claim). IsSomeAnd o (λ found. found.value ≡ claim)) (sym read) refl
