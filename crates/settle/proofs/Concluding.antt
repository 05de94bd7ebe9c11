-- What the lines of an ended search show.
use Rattle.std.proofs.Common.{◌≡◌, ◌<◌, ◌≤◌, ℕ, ℤ, pos, neg_ℤ, ◌-ℤ◌, ◌<ℤ◌, Bool, List, [], length, Option, Some, IfSome, IfNone, sym, refl, subst, arith}
use Rattle.std.proofs.lemmas.Int.{ints}
use Rattle.std.specs.Global.{Vec}
use Rattle.itv_base.specs.declared.names.EventId.{EventId}
use Rattle.itv_base.proofs.Options.{some_and, some_at}
use Rattle.event_graph.specs.Network.{IsNet, Net}
use Rattle.falling.specs.declared.view.View.{View}
use Rattle.falling.specs.declared.view.View.TheVariants.{Plain, Negated}
use Rattle.falling.specs.Cap.{far_line}
use Rattle.falling.specs.Kinds.{negated}
use Rattle.edge_clauses.specs.Lines.{Goal, IsClauseProof, IsOver}
use Rattle.edge_clauses.proofs.Proving.{clause_proof_bounds, clause_proof_of_nothing, negated_proof_bounds, negated_proof_of_nothing}
use Rattle.settle.specs.declared.shown_answer.ShownAnswer.{ShownAnswer}
use Rattle.settle.specs.declared.shown_answer.Settled.{Settled}
use Rattle.settle.specs.declared.shown_answer.Settled.TheVariants.{Closed, Unbounded, Inconsistent}
use Rattle.edge_clauses.specs.declared.line.StoredLine.{StoredLine}
use Rattle.settle.specs.declared.race.RaceEnd.TheVariants.{Closed as ClosedBy, Unbounded as UnboundedBy, Inconsistent as InconsistentBy}
use Rattle.settle.specs.declared.race.Race.{Race}
use Rattle.settle.specs.ShownAnswer.{IsFound, IsRightAnswer, IsSettledAt, IsSettledInconsistent, IsSettledUnbounded}
use Rattle.edge_clauses.specs.Proofs.{IsProofAs, IsProving, ProverView, lines_of}
use Rattle.settle.specs.Step.Racing.{AreRaceTimes, IsEnding, IsOverAs, IsRacing, line_count, lines_as}

-- the lines of an ended search are a proof of its goal
pub proof_of : (net : Net) (goal : Goal) (proving : ProverView) → IsProving net proving → proving.check.goal ≡ goal → IsOver proving.check.goal proving.check.state
    → IsClauseProof net goal (lines_of proving.lines)
proof_of net goal proving is same over = subst (λ (g : Goal). IsClauseProof net g (lines_of proving.lines)) same (proving.check.state, is.lines, over)

-- a proof and times that satisfy and attain its claim settle a pair
pub settled_at : (net : Net) (from to : EventId) (claim : ℤ) (view : View) (lines : List StoredLine) (times : List ℤ) → IsNet net → from.0 < net.events → to.0 < net.events
    → claim <ℤ pos (far_line net) → IsProofAs view net from to claim lines → AreRaceTimes net from to claim times → IsSettledAt net from to claim view lines times
settled_at net from to claim Plain lines times is_net in_from in_to below proof are = record {
  greatest = record {
    attained = (times, are.satisfies, are.attained);
    most = λ others h. clause_proof_bounds net (record { from = from; to = to; claim = claim }) (lines_of lines) others is_net in_from in_to below proof h;
  };
  satisfies = are.satisfies;
  attained = are.attained;
  near = are.near;
  proof = proof;
}
settled_at net from to claim Negated lines times is_net in_from in_to below proof are = record {
  greatest = record {
    attained = (times, are.satisfies, are.attained);
    most = λ others h. negated_proof_bounds net from to claim (lines_of lines) others is_net in_from in_to below proof h;
  };
  satisfies = are.satisfies;
  attained = are.attained;
  near = are.near;
  proof = proof;
}

-- a proof of a claim below minus the far line shows that no times satisfy
pub settled_inconsistent : (net : Net) (from to : EventId) (claim : ℤ) (view : View) (lines : List StoredLine) → IsNet net → from.0 < net.events → to.0 < net.events
    → claim <ℤ neg_ℤ (pos (far_line net)) → IsProofAs view net from to claim lines → IsSettledInconsistent net from to claim view lines
settled_inconsistent net from to claim Plain lines is_net in_from in_to low proof = record {
  none = clause_proof_of_nothing net (record { from = from; to = to; claim = claim }) (lines_of lines) is_net in_from in_to low proof;
  low = low;
  proof = proof;
}
settled_inconsistent net from to claim Negated lines is_net in_from in_to low proof = record {
  none = negated_proof_of_nothing net (record { from = to; to = from; claim = claim }) (lines_of lines) is_net in_to in_from low proof;
  low = low;
  proof = proof;
}

-- the claim before times are found lies below minus the far line
pub start_low : (claim lowest : ℤ) (far : ℕ) → claim ≡ (lowest -ℤ pos 1) → lowest ≡ neg_ℤ (pos far) → claim <ℤ neg_ℤ (pos far)
start_low claim lowest far is at = omega (arith, ints)

-- ---- what is found

-- the lines of the ended search of a view are a proof of the claim
proof_as : (net : Net) (race : Race) (view : View) (lines : List StoredLine) → IsRacing net race → IsOverAs view race → lines ≡ lines_as view race
    → IsProofAs view net race.from race.to race.best.claim.value lines
proof_as net race Plain lines racing over is =
    subst (λ (ls : List StoredLine). IsProofAs Plain net race.from race.to race.best.claim.value ls) (sym is)
    (proof_of net (record { from = race.from; to = race.to; claim = race.best.claim.value }) race.plain racing.plain racing.plain_goal over)
proof_as net race Negated lines racing over is =
    subst (λ (ls : List StoredLine). IsProofAs Negated net race.from race.to race.best.claim.value ls) (sym is)
    (proof_of (negated net) (record { from = race.to; to = race.from; claim = race.best.claim.value }) race.turned racing.turned racing.turned_goal over)

few_lines : (race : Race) (view : View) (lines : List StoredLine) (turns : ℕ) → lines ≡ lines_as view race → line_count race ≤ turns → length lines ≤ turns
few_lines race Plain lines turns is few = rw is (omega arith)
few_lines race Negated lines turns is few = rw is (omega arith)

-- the lines of the answer are the lines of the search of the view
pub handed : (race : Race) (view : View) (lines : List StoredLine) → (view ≡ Plain → lines ≡ race.plain.lines) → (view ≡ Negated → lines ≡ race.turned.lines)
    → lines ≡ lines_as view race
handed race Plain lines plain negated = plain refl
handed race Negated lines plain negated = negated refl

-- an answer for the race's pair is an answer for an equal pair
pub of_pair : (net : Net) (race : Race) (from to : EventId) (most : ℕ) (found : ShownAnswer) → race.from ≡ from → race.to ≡ to → IsFound net race.from race.to most found
    → IsFound net from to most found
of_pair net race from to most found same_from same_to is =
    subst (λ (e : EventId). IsFound net from e most found) same_to (subst (λ (e : EventId). IsFound net e race.to most found) same_from is)

pub found_closed : (net : Net) (race : Race) (view : View) (turns budget : ℕ) (answer : Settled) (times : Vec ℤ) (ray : Vec Bool) (lines : Vec StoredLine) → IsNet net
    → IsRacing net race → IsEnding net race (ClosedBy view) → line_count race ≤ turns → answer ≡ Closed race.best.claim.value
    → ((ts : Vec ℤ) → race.best.times ≡ Some ts → times ≡ ts) → lines.items ≡ lines_as view race
    → turns ≤ budget → IsFound net race.from race.to budget (record { answer = answer; times = times; ray = ray; claim = race.best.claim; view = view; lines = lines; turns = turns })
found_closed net race view turns budget answer times ray lines is_net racing (over, some, below) few is_answer at_times at_lines within =
    let (ts, is) = some_at race.best.times some in
    let are : AreRaceTimes net race.from race.to race.best.claim.value ts.items =
    subst (λ (o : Option (Vec ℤ)). IfSome o (λ times. AreRaceTimes net race.from race.to race.best.claim.value times.items)) is racing.best.found in
    let same : times ≡ ts = at_times ts is in
    let settled : IsSettledAt net race.from race.to race.best.claim.value view lines.items times.items =
    settled_at net race.from race.to race.best.claim.value view lines.items times.items is_net racing.from racing.to below
    (proof_as net race view lines.items racing over at_lines)
    (subst (λ (t : Vec ℤ). AreRaceTimes net race.from race.to race.best.claim.value t.items) (sym same) are) in
    subst (λ (a : Settled). IsFound net race.from race.to budget (record { answer = a; times = times; ray = ray; claim = race.best.claim; view = view; lines = lines; turns = turns })) (sym is_answer)
    (record { answer = (settled, refl); most = within; lines = few_lines race view lines.items turns at_lines few })

pub found_inconsistent : (net : Net) (race : Race) (view : View) (turns budget : ℕ) (times : Vec ℤ) (ray : Vec Bool) (lines : Vec StoredLine) → IsNet net → IsRacing net race
    → IsEnding net race (InconsistentBy view) → line_count race ≤ turns → lines.items ≡ lines_as view race
    → turns ≤ budget → IsFound net race.from race.to budget (record { answer = Inconsistent; times = times; ray = ray; claim = race.best.claim; view = view; lines = lines; turns = turns })
found_inconsistent net race view turns budget times ray lines is_net racing (over, none) few at_lines within =
    let low : race.best.claim.value <ℤ neg_ℤ (pos (far_line net)) =
    subst (λ (o : Option (Vec ℤ)). IfNone o (race.best.claim.value <ℤ neg_ℤ (pos (far_line net)))) none racing.best.none in
    record {
      answer = settled_inconsistent net race.from race.to race.best.claim.value view lines.items is_net racing.from racing.to low
          (proof_as net race view lines.items racing over at_lines);
      most = within;
      lines = few_lines race view lines.items turns at_lines few;
    }

pub found_unbounded : (net : Net) (race : Race) (ray : Vec Bool) (budget : ℕ) (found : ShownAnswer) → IsRacing net race
    → IsEnding net race (UnboundedBy ray) → found.answer ≡ Unbounded → ((ts : Vec ℤ) → race.best.times ≡ Some ts → found.times ≡ ts) → found.ray ≡ ray
    → found.lines.items ≡ [] → found.turns ≤ budget → IsFound net race.from race.to budget found
found_unbounded net race ray budget found racing ending is_answer at_times is_ray none within =
    let (ts, is, raised) = some_and race.best.times _ ending in
    let are : AreRaceTimes net race.from race.to race.best.claim.value ts.items =
    subst (λ (o : Option (Vec ℤ)). IfSome o (λ times. AreRaceTimes net race.from race.to race.best.claim.value times.items)) is racing.best.found in
    let settled : IsSettledUnbounded net race.from race.to ts.items ray.items = record { satisfies = are.satisfies; near = are.near; raised = raised } in
    let with_ray : IsSettledUnbounded net race.from race.to ts.items found.ray.items =
    subst (λ (r : Vec Bool). IsSettledUnbounded net race.from race.to ts.items r.items) (sym is_ray) settled in
    let with_times : IsSettledUnbounded net race.from race.to found.times.items found.ray.items =
    subst (λ (t : Vec ℤ). IsSettledUnbounded net race.from race.to t.items found.ray.items) (sym (at_times ts is)) with_ray in
    record {
      answer = subst (λ (a : Settled). IsRightAnswer net race.from race.to budget found a) (sym is_answer) with_times;
      most = within;
      lines = rw none (omega arith);
    }
