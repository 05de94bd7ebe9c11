-- What the lines of a proof that a checker has taken show of a bound and of a network.
use Rattle.std.proofs.Common.{◌≡◌, ◌<◌, ℤ, pos, neg_ℤ, ◌≤ℤ◌, ◌<ℤ◌, true, List, All, refl, subst}
use Rattle.itv_base.specs.declared.names.EventId.{EventId}
use Rattle.event_graph.specs.Bounds.{IsInconsistent}
use Rattle.event_graph.specs.Network.{IsNet, Net}
use Rattle.event_graph.specs.Satisfying.{Satisfies}
use Rattle.event_graph.specs.Times.{separation, time_of}
use Rattle.event_graph.proofs.Reversing.{above_value}
use Rattle.falling.specs.declared.view.View.{View}
use Rattle.falling.specs.declared.view.View.TheVariants.{Plain, Negated}
use Rattle.falling.specs.Cap.{far_line}
use Rattle.line_words.specs.Numbers.{IsLong}
use Rattle.edge_clauses.proofs.Proving.{clause_proof_bounds, clause_proof_of_nothing, negated_proof_bounds, negated_proof_of_nothing}
use Rattle.edge_clauses.specs.declared.line.StoredLine.{StoredLine}
use Rattle.edge_clauses.specs.Proofs.{IsProofAs, lines_of}
use Rattle.slack_report.specs.declared.words.Which.{Which}
use Rattle.slack_report.specs.declared.words.Which.TheVariants.{Max, Min}
use Rattle.drawn_networks.specs.Drawn.{IsRowOf}
use Rattle.drawn_networks.specs.declared.row.Row.{Row}
use Rattle.clause_texts.specs.Text.{IsClauseLine}
use Rattle.job_settle.specs.declared.proof.Proof.{Proof}
use Rattle.job_settle.specs.Answers.{ArePrintedTimes, IsExtreme, IsNumber, IsRefuted, first_event}
use Rattle.job_confirm.specs.Step.{claim_of, pair_of}

-- no satisfying times have a separation of the pair above the claim that the lines prove
bounds : (view : View) (net : Net) (from to : EventId) (claim : ℤ) (lines : List StoredLine) → IsNet net → from.0 < net.events → to.0 < net.events → claim <ℤ pos (far_line net)
    → IsProofAs view net from to claim lines → (times : List ℤ) → Satisfies times net → separation times from to ≤ℤ claim
bounds Plain net from to claim lines is_net in_from in_to near proof times h =
    clause_proof_bounds net (record { from = from; to = to; claim = claim }) (lines_of lines) times is_net in_from in_to near proof h
bounds Negated net from to claim lines is_net in_from in_to near proof times h = negated_proof_bounds net from to claim (lines_of lines) times is_net in_from in_to near proof h

extreme : (which : Which) (net : Net) (row : Row) (value : ℤ) (times : List ℤ) (proof : Proof) → Satisfies times net → separation times row.from row.to ≡ value
    → ((others : List ℤ) → Satisfies others net → separation others (pair_of which row).from (pair_of which row).to ≤ℤ claim_of which value)
    → proof.claim ≡ claim_of which value → IsProofAs proof.view net (pair_of which row).from (pair_of which row).to (claim_of which value) proof.lines.items
    → All IsClauseLine (lines_of proof.lines.items) → IsExtreme true which net row value proof
extreme Max net row value times proof satisfied attained most claimed proves forms = (record { attained = (times, satisfied, attained); most = most }, (claimed, λ wanted. (proves, forms)))
extreme Min net row value times proof satisfied attained most claimed proves forms = (
  record { attained = (times, satisfied, attained); least = λ others h. above_value (time_of others row.from) (time_of others row.to) value (most others h) },
  (claimed, λ wanted. (proves, forms)),
)

in_from : (which : Which) (net : Net) (row : Row) → IsRowOf net row → (pair_of which row).from.0 < net.events
in_from Max net row within = within.0
in_from Min net row within = within.1

in_to : (which : Which) (net : Net) (row : Row) → IsRowOf net row → (pair_of which row).to.0 < net.events
in_to Max net row within = within.1
in_to Min net row within = within.0

-- a proof and satisfying times that attain its claim show a bound
pub is_number : (net : Net) (which : Which) (row : Row) (value : ℤ) (times : List ℤ) (proof : Proof) → IsNet net → IsRowOf net row → ArePrintedTimes net row.from times
    → separation times row.from row.to ≡ value → proof.claim ≡ claim_of which value → proof.claim <ℤ pos (far_line net)
    → IsProofAs proof.view net (pair_of which row).from (pair_of which row).to proof.claim proof.lines.items → All IsClauseLine (lines_of proof.lines.items)
    → IsNumber true net which row value times proof
is_number net which row value times proof is_net within printed attained claimed near proves forms =
    let led : IsProofAs proof.view net (pair_of which row).from (pair_of which row).to (claim_of which value) proof.lines.items =
    subst (λ (claim : ℤ). IsProofAs proof.view net (pair_of which row).from (pair_of which row).to claim proof.lines.items) claimed proves in record {
      extreme = extreme which net row value times proof printed.satisfied attained
          (bounds proof.view net (pair_of which row).from (pair_of which row).to (claim_of which value) proof.lines.items is_net (in_from which net row within)
          (in_to which net row within) (subst (λ (claim : ℤ). claim <ℤ pos (far_line net)) claimed near) led) claimed led forms;
      are_times = printed;
      attained = attained;
    }

nothing : (view : View) (net : Net) (event : EventId) (claim : ℤ) (lines : List StoredLine) → IsNet net → event.0 < net.events → claim <ℤ neg_ℤ (pos (far_line net))
    → IsProofAs view net event event claim lines → IsInconsistent net
nothing Plain net event claim lines is_net within low proof = clause_proof_of_nothing net (record { from = event; to = event; claim = claim }) (lines_of lines) is_net within within low proof
nothing Negated net event claim lines is_net within low proof = negated_proof_of_nothing net (record { from = event; to = event; claim = claim }) (lines_of lines) is_net within within low proof

-- a proof of a claim of 64 bits below minus the far line shows that no times satisfy
pub is_refuted : (net : Net) (proof : Proof) → IsNet net → 0 < net.events → proof.claim <ℤ neg_ℤ (pos (far_line net)) → IsLong proof.claim
    → IsProofAs proof.view net first_event first_event proof.claim proof.lines.items → All IsClauseLine (lines_of proof.lines.items)
    → IsRefuted true net proof
is_refuted net proof is_net some low long proves forms = record {
  none = nothing proof.view net first_event proof.claim proof.lines.items is_net some low proves;
  low = low;
  fits = long;
  proves = (refl, λ wanted. (proves, forms));
}
