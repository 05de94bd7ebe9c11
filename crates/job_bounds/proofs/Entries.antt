-- Each line of a report has a text.
use Rattle.std.proofs.Common.{◌≡◌, ◌<◌, ◌≤◌, ℕ, zero, suc, Bool, true, false, List, [], ◌∷◌, length, All, Option, Some, None, slice_get, refl, sym, subst, arith}
use Rattle.std.specs.Prelude.{IsSomeAnd, option_and_then}
use Rattle.itv_base.specs.declared.limits.TheConstants.{MAX_CAUSES}
use Rattle.itv_base.specs.declared.names.EdgeName.{EdgeName}
use Rattle.itv_base.specs.declared.names.EventId.{EventId}
use Rattle.itv_base.proofs.Options.{then_some}
use Rattle.certificate.specs.Text.{IsEdgeName, IsProofLine}
use Rattle.event_graph.specs.declared.edge.Edge.{Edge}
use Rattle.event_graph.specs.Edges.{edge, side_edge}
use Rattle.event_graph.specs.Network.{Constraint, IsConstraint, IsNet, Net}
use Rattle.event_graph.specs.Proof.{Bound, Case, HasChoice, IsWalk, Loop, Nothing, Path, ProofGoal, ProofLine, Split}
use Rattle.event_graph.specs.Proof.{ProofLeaves as ReadsProof}
use Rattle.event_graph.proofs.Causes.{few_causes}
use Rattle.requirements.specs.declared.consistency.Consistency.{Consistency}
use Rattle.requirements.specs.declared.consistency.Consistency.TheVariants as findings
use Rattle.requirements.specs.declared.bound.Bound.{Bound as RowBound}
use Rattle.requirements.specs.declared.bound.Bound.TheVariants as bounds
use Rattle.right_report.specs.Right.ReportState.{NextBound}
use Rattle.drawn_networks.specs.declared.row.Row.{Row}
use Rattle.right_report.specs.Shown.{ShowsBound, ShowsFinding, goal_of}
use Rattle.job_bounds.specs.Written.{printed}

-- ---- lists

pub all_nil : {A : Type 0} (P : A → Type 0) → All P []
all_nil P k d h = absurd (omega arith)

pub all_cons : {A : Type 0} (P : A → Type 0) (x : A) (xs : List A) → P x → All P xs → All P (x ∷ xs)
all_cons P x xs p all zero d h = p
all_cons P x xs p all (suc k) d h = all k d (omega arith)

pub all_head : {A : Type 0} (P : A → Type 0) (x : A) (xs : List A) → All P (x ∷ xs) → P x
all_head P x xs all = all zero x (omega arith)

pub all_tail : {A : Type 0} (P : A → Type 0) (x : A) (xs : List A) → All P (x ∷ xs) → All P xs
all_tail P x xs all = λ k d h. all (suc k) d (omega arith)

all_get : {A : Type 0} (P : A → Type 0) (xs : List A) (k : ℕ) (x : A) → All P xs → slice_get xs k ≡ Some x → P x × (k < length xs)
all_get P [] k x all e = absurd (cc e)
all_get P (y ∷ xs) zero x all e = (subst P (cc e) (all_head P y xs all), omega arith)
all_get P (y ∷ xs) (suc k) x all e = let h = all_get P xs k x (all_tail P y xs all) e in (h.0, omega (arith, h.1))

some_in : {A : Type 0} (xs : List A) (k : ℕ) (x : A) → slice_get xs k ≡ Some x → k < length xs
some_in [] k x e = absurd (cc e)
some_in (y ∷ xs) zero x e = omega arith
some_in (y ∷ xs) (suc k) x e = let h = some_in xs k x e in omega (arith, h)

some_and : {A : Type 0} (P : A → Type 0) (o : Option A) → IsSomeAnd o P → (x : A) × (o ≡ Some x) × P x
some_and P None h = absurd h
some_and P (Some x) h = (x, refl, h)

-- ---- lines of proofs

edge_named : (net : Net) (name : EdgeName) (e : Edge) → IsNet net → edge net name ≡ Some e → IsEdgeName name
edge_named net name e is_net h =
    let a = then_some (λ (c : Constraint). option_and_then (side_edge name.side c.target) (slice_get c.causes name.cause)) (slice_get net.constraints name.constraint) e h in
    let b = then_some (side_edge name.side a.0.target) (slice_get a.0.causes name.cause) e a.2 in
    let c = all_get (IsConstraint net.events) net.constraints name.constraint a.0 is_net.constraints a.1 in
    let few : length a.0.causes ≤ MAX_CAUSES = few_causes a.0.kind (length a.0.causes) c.0.count in
    let cause : name.cause < length a.0.causes = some_in a.0.causes name.cause b.0 b.1 in
    (omega (arith, c.1, is_net.count), omega (arith, few, cause))

walk_named : (net : Net) (from : EventId) (names : List EdgeName) (to : EventId) → IsNet net → IsWalk net from names to → All IsEdgeName names
walk_named net from [] to is_net walk = all_nil IsEdgeName
walk_named net from (name ∷ names) to is_net walk =
    let s = some_and (λ (e : Edge). (e.from ≡ from) × IsWalk net e.to names to) (edge net name) walk in
    all_cons IsEdgeName name names (edge_named net name s.0 is_net s.1) (walk_named net s.0.to names to is_net s.2.1)

proof_lines : (net : Net) (goal : ProofGoal) (cases : List Case) (lines : List ProofLine) (left : List Case) → IsNet net → ReadsProof net goal cases lines left → All IsProofLine lines
proof_lines net goal cases [] left is_net reads = all_nil IsProofLine
proof_lines net goal [] (line ∷ lines) left is_net reads = absurd reads
proof_lines net goal (chosen ∷ cases) (Split number ∷ lines) left is_net reads =
    let s = some_and (λ (c : Constraint). HasChoice c.kind) (slice_get net.constraints number) reads.0.0 in
    let within : number < length net.constraints = some_in net.constraints number s.0 s.1 in
    all_cons IsProofLine (Split number) lines (omega (arith, within, is_net.count)) (proof_lines net goal _ lines left is_net reads.1)
proof_lines net (Bound from to value) (chosen ∷ cases) (Path names ∷ lines) left is_net reads =
    all_cons IsProofLine (Path names) lines (walk_named net from names to is_net reads.0.0) (proof_lines net (Bound from to value) cases lines left is_net reads.1)
proof_lines net Nothing (chosen ∷ cases) (Path names ∷ lines) left is_net reads = absurd reads.0
proof_lines net goal (chosen ∷ cases) (Loop names ∷ lines) left is_net reads =
    all_cons IsProofLine (Loop names) lines (walk_named net reads.0.0.0 names reads.0.0.0 is_net reads.0.0.1) (proof_lines net goal cases lines left is_net reads.1)

pub finding_lines : (net : Net) (most : ℕ) (lines : List ProofLine) (word : Consistency) → IsNet net → ShowsFinding net most lines word → All IsProofLine lines
finding_lines net most lines findings.Consistent is_net s = proof_lines net Nothing _ lines _ is_net s.2.open_case.2
finding_lines net most lines findings.Inconsistent is_net s = proof_lines net Nothing _ lines _ is_net s.0
finding_lines net most lines findings.Open is_net s = proof_lines net Nothing _ lines _ is_net s.open_case.2

pub bound_lines : (net : Net) (most : ℕ) (lines : List ProofLine) (r : Row) (coming : NextBound) (value : RowBound) → IsNet net → ShowsBound net most lines r coming value → All IsProofLine lines
bound_lines net most lines r coming (bounds.Closed value) is_net s = proof_lines net (goal_of r coming value) _ lines _ is_net s.0
bound_lines net most lines r coming bounds.Unbounded is_net s = proof_lines net (goal_of r coming s.0) _ lines _ is_net s.1.2.open_case.2
bound_lines net most lines r coming (bounds.Within limit None) is_net s = subst (λ (ls : List ProofLine). All IsProofLine ls) (sym s) (all_nil IsProofLine)
bound_lines net most lines r coming (bounds.Within limit (Some found)) is_net s = proof_lines net (goal_of r coming found) _ lines _ is_net s.open_case.2

pub printed_lines : (cert : Bool) (lines : List ProofLine) → All IsProofLine lines → All IsProofLine (printed cert lines)
printed_lines true lines h = h
printed_lines false lines h = all_nil IsProofLine
