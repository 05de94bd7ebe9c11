use Rattle.std.proofs.Common.{◌≡◌, neg_ℤ, ◌∙◌, ap, to_z, of_z, w64}
use Rattle.std.proofs.lemmas.Int.{to_z-of_z}
use Rattle.extremes.specs.Found.{IsAttainedBy}
use Rattle.event_graph.proofs.MovingOn.{read_time}
use Rattle.steady.proofs.Pairs.{closed_lower, rising_unbounded}
use Rattle.steady.proofs.extreme.lower.Goals as goal

pub returns-in-Closed-clause-found : goal.returns-in-Closed-clause-found
returns-in-Closed-clause-found c =
    let attained : IsAttainedBy c.args.net.now c.args.from c.args.to c.in-Closed.value c.in-Closed.shown.items = rw c.in-Closed.is at c.requires.found in
    let read : to_z w64 (of_z w64 c.negated_time.result) ≡ c.negated_time.result = to_z-of_z w64 c.negated_time.result (record { sfits = c.negated_time.type_inv }) in
    let minus : c.negated_time.result ≡ neg_ℤ c.in-Closed.value = c.negated_time.ensures.value ∙ ap neg_ℤ (read_time c.in-Closed.value attained.value_within) in
    closed_lower c.args.net.now c.args.from c.args.to c.in-Closed.value (to_z w64 (of_z w64 c.negated_time.result)) c.in-Closed.shown.items (read ∙ minus) attained

pub returns-in-Unbounded-clause-found : goal.returns-in-Unbounded-clause-found
returns-in-Unbounded-clause-found c = rising_unbounded c.args.net.now c.args.from c.args.to c.in-Unbounded.shown.items (rw c.in-Unbounded.is at c.requires.found)
