-- What the searches for times find.
use Rattle.std.proofs.Common.{◌≡◌, ◌≤◌, ℕ, ℤ, Bool, false, List, length, replicate, Option, Some, None, Result, Ok, refl, sym, ◌∙◌, subst, arith, inl, inr}
use Rattle.std.specs.Prelude.{◌↔◌, IfSome, IsSome, IsSomeAnd}
use Rattle.std.proofs.lemmas.Bool.{cases_lt, false≢true}
use Rattle.std.proofs.lemmas.List.{get_or-replicate, get_or_past, length-replicate}
use Rattle.event_graph.specs.Edges.{cause_choices}
use Rattle.event_graph.specs.Network.{Net}
use Rattle.event_graph.specs.Proof.{IsStoppedProof, Nothing, ProofLine}
use Rattle.event_graph.specs.Satisfying.{Satisfies}
use Rattle.event_graph.specs.declared.scribe.ScribeFailed.{ScribeFailed}
use Rattle.branch.specs.Answers.{Finds}
use Rattle.requirements.specs.declared.consistency.Consistency.{Consistency}
use Rattle.chains.specs.Named.{HasMarked, IsIn, IsRefuting}
use Rattle.chains.proofs.Naming.{named_contradict}
use Rattle.extremes.specs.Found.{IsConsistency, IsContradictionFound, IsFindingOpen}
use Rattle.requirements.specs.declared.consistency.Consistency.TheVariants.{Consistent, Inconsistent, Open}

known_times : (net : Net) (known : Option (List ℤ)) → IsSomeAnd known (λ times. Satisfies times net) → (times : List ℤ) × Satisfies times net
known_times net None sat = absurd sat
known_times net (Some times) sat = (times, sat)

-- some known times satisfy
pub times_known : (net : Net) (known : Option (List ℤ)) → IfSome known (λ times. Satisfies times net) → IsSome known → IsSomeAnd known (λ times. Satisfies times net)
times_known net None sat some = absurd (cc some)
times_known net (Some times) sat some = sat

-- so some times satisfy
pub times_there : (net : Net) (known : Option (List ℤ)) → IfSome known (λ times. Satisfies times net) → IsSome known → (times : List ℤ) × Satisfies times net
times_there net known sat some = known_times net known (times_known net known sat some)

pub finding_right : (net : Net) (budget leaves : ℕ) (lines : List ProofLine) (known : Option (List ℤ)) (found : Consistency) → Finds net budget lines leaves known found
    → IsConsistency net found
finding_right net budget leaves lines known Consistent f = known_times net known f.satisfies
finding_right net budget leaves lines known Inconsistent f = f.none
finding_right net budget leaves lines known Open f = tt

-- after a consistent finding there are known times
pub finding_known : (found : Consistency) (known : Option (List ℤ)) (result : Result Consistency ScribeFailed) → result ≡ Ok found → (IsSome known ↔ (result ≡ Ok Consistent))
    → found ≡ Consistent → IsSome known
finding_known Consistent known result is knows same = knows.1 is
finding_known Inconsistent known result is knows same = absurd (cc same)
finding_known Open known result is knows same = absurd (cc same)

-- known times satisfy
pub known_right : (net : Net) (budget leaves : ℕ) (lines : List ProofLine) (known : Option (List ℤ)) (found : Consistency) (result : Result Consistency ScribeFailed) → result ≡ Ok found
    → (IsSome known ↔ (result ≡ Ok Consistent)) → Finds net budget lines leaves known found → IfSome known (λ times. Satisfies times net)
known_right net budget leaves lines None found result is knows f = tt
known_right net budget leaves lines (Some times) Consistent result is knows f = f.satisfies
known_right net budget leaves lines (Some times) Inconsistent result is knows f = let there : result ≡ Ok Consistent = knows.0 refl in absurd (cc (is, there))
known_right net budget leaves lines (Some times) Open result is knows f = let there : result ≡ Ok Consistent = knows.0 refl in absurd (cc (is, there))

-- a budget of as many cases as there are choices leaves nothing open
pub finding_settles : (net : Net) (budget leaves : ℕ) (lines : List ProofLine) (known : Option (List ℤ)) (found : Consistency) → Finds net budget lines leaves known found
    → cause_choices net.constraints ≤ budget → found ≡ Open → ⊥
finding_settles net budget leaves lines known Consistent f enough open_ = cc open_
finding_settles net budget leaves lines known Inconsistent f enough open_ = cc open_
finding_settles net budget leaves lines known Open f enough open_ = omega (arith, f.below_choices, enough)

-- an open finding used the budget up
pub finding_open : (net : Net) (budget leaves : ℕ) (lines : List ProofLine) (known : Option (List ℤ)) (found : Consistency) → Finds net budget lines leaves known found
    → found ≡ Open → IsFindingOpen net budget
finding_open net budget leaves lines known Consistent f is = absurd (cc is)
finding_open net budget leaves lines known Inconsistent f is = absurd (cc is)
finding_open net budget leaves lines known Open f is =
    record { always = f.always; stopped = (lines, subst (λ n. IsStoppedProof net Nothing lines n) f.used f.stopped) }

-- ---- constraints that contradict each other

-- no flag of a marking that begins is set
none_in : (count number : ℕ) → IsIn (replicate count false) number → ⊥
none_in count number is_in = elim (cases_lt number count) [
  | inl below ↦ false≢true (sym (get_or-replicate count number false false below) ∙ is_in)
  | inr past ↦ false≢true (sym (get_or_past (replicate count false) number false (omega (arith, length-replicate {A = Bool}))) ∙ is_in)
]

-- where a search by cases found no times, the constraints that its lines name refute the network
pub finding_refutes : (net : Net) (budget leaves : ℕ) (lines : List ProofLine) (known : Option (List ℤ)) (found : Consistency) (count : ℕ) (old new : List Bool)
    → Finds net budget lines leaves known found → old ≡ replicate count false → HasMarked old lines new → found ≡ Inconsistent → IsRefuting net new
finding_refutes net budget leaves lines known Consistent count old new f fresh marked is = absurd (cc is)
finding_refutes net budget leaves lines known Open count old new f fresh marked is = absurd (cc is)
finding_refutes net budget leaves lines known Inconsistent count old new f fresh marked is =
    let before : (number : ℕ) → IsIn old number → ⊥ = λ number is_in. none_in count number (subst (λ set. IsIn set number) fresh is_in) in
    record {
      lines = lines;
      proof = f.proof;
      named = record { named = marked.named; only = λ number is_in. elim (marked.fresh number is_in) [ inl old ↦ absurd (before number old) | inr named ↦ named ] };
    }

-- a marking keeps its length
pub marked_count : (net : Net) (lines : List ProofLine) (first old new : List Bool) → length first ≡ length net.constraints → old ≡ replicate (length first) false → HasMarked old lines new
    → length new ≡ length net.constraints
marked_count net lines first old new count fresh marked =
    let e : length old ≡ length first = subst (λ xs. length xs ≡ length first) (sym fresh) (length-replicate (length first) false) in
    marked.count ∙ (e ∙ count)

-- the constraints that a proof by cases names contradict each other
pub refuting_found : (net : Net) (budget : ℕ) (set : List Bool) → length set ≡ length net.constraints → IsRefuting net set → IsContradictionFound net budget set
refuting_found net budget set count refutes = record {
  count = count;
  contradicts = named_contradict net set refutes.lines count refutes.proof refutes.named.named;
  named = inl refutes;
}
