-- The lines of a finding.
use Rattle.std.proofs.Common.{◌≡◌, ◌<◌, ◌≤◌, ℕ, ℤ, pos, neg_ℤ, Bool, List, [], ◌∷◌, length, unwrap_or, All, Option, Some, None, IsSomeAnd, refl, sym, subst, ap, ◌∙◌, ◌⊎◌, inl, inr, arith}
use Rattle.branch.specs.Answers.{Finds}
use Rattle.branch.specs.Needed.{IsNeededToFind}
use Rattle.branch.specs.Work.{IsClose}
use Rattle.requirements.specs.declared.consistency.Consistency.{Consistency}
use Rattle.event_graph.specs.Network.{IsNet, Net}
use Rattle.event_graph.specs.Proof.{IsStoppedProof, Nothing, ProofLine}
use Rattle.event_graph.specs.Reading.{AtEachSplit}
use Rattle.event_graph.specs.Satisfying.{Satisfies}
use Rattle.event_graph.specs.Times.{separation, time_of}
use Rattle.event_graph.proofs.Shifting.{length-shifted}
use Rattle.itv_base.specs.declared.names.EventId.{EventId}
use Rattle.requirements.specs.declared.consistency.Consistency.TheVariants as findings
use Rattle.slack_report.specs.Entry.{finding, times as times_line}
use Rattle.right_report.specs.Right.ReportState.{behind_finding}
use Rattle.drawn_networks.specs.Drawn.{Drawn}
use Rattle.right_report.specs.Right.LineClaims.{IsFinding}
use Rattle.right_report.specs.Right.Following.{MayFollow}
use Rattle.right_report.specs.Shown.{ShowsFinding}
use Rattle.right_report.proofs.Leading.{behind_proof}
use Rattle.job_bounds.specs.Step.Witness.{AreNearby, IsShiftedTo}
use Rattle.job_bounds.specs.Step.Ready.{AreKnown, HasFound, behind_known}
use Rattle.job_bounds.specs.Step.Searched.{printed_known, sized}
use Rattle.job_bounds.specs.Written.{printed}
use Rattle.job_bounds.proofs.Shifted.{at_zero, nearby-shifted, nearby_close, satisfies-shifted, separation-shifted, times_nearby}

-- what the search shows
shows : (net : Net) (most : ℕ) (lines : List ProofLine) (leaves : ℕ) (known : Option (List ℤ)) (found : Consistency) → Finds net most lines leaves known found → leaves ≤ most
    → IsFinding net found × ShowsFinding net most lines found
shows net most lines leaves known findings.Consistent f count = let s = f.stopped in (tt, (s.0, omega (arith, s.2, count), s.1))
shows net most lines leaves known findings.Inconsistent f count = (f.none, (f.proof, omega (arith, f.count, count)))
shows net most lines leaves known findings.Open f count = (f.always, subst (λ n. IsStoppedProof net Nothing lines n) f.used f.stopped)

pub finding_fact : (net : Net) (most : ℕ) (cert : Bool) (basis : List ℤ) (lines : List ProofLine) (leaves : ℕ) (known : Option (List ℤ)) (found : Consistency)
    → Finds net most lines leaves known found → AtEachSplit net (IsNeededToFind net) lines → leaves ≤ most → (sized net most cert basis).finding (printed cert lines) found
finding_fact net most cert basis lines leaves known found f needed count =
    let s : IsFinding net found × ShowsFinding net most lines found = shows net most lines leaves known found f count in
    (s.0, (lines, refl, (s.1, needed)))

pub finding_may : (net : Net) (most : ℕ) (cert : Bool) (basis : List ℤ) (drawn : Drawn) (number : ℕ) (lines : List ProofLine) (word : Consistency) → (sized net most cert basis).finding lines word
    → MayFollow (sized net most cert basis) drawn (behind_proof number lines) (finding word) (behind_finding word)
finding_may net most cert basis drawn number [] word fact = inr (word, refl, fact, refl)
finding_may net most cert basis drawn number (line ∷ lines) word fact = inr (word, refl, fact, refl)

-- what it leaves
pub found_is : (net : Net) (most : ℕ) (lines : List ProofLine) (leaves : ℕ) (known : Option (List ℤ)) (found : Consistency) → Finds net most lines leaves known found
    → HasFound net found known
found_is net most lines leaves known findings.Consistent f = f.satisfies
found_is net most lines leaves known findings.Inconsistent f = tt
found_is net most lines leaves known findings.Open f = f.always

-- ---- the known times

none_is : (list : List ℤ) → length list ≡ 0 → list ≡ []
none_is [] e = refl
none_is (time ∷ list) e = absurd (cc e)

-- the known times keep their separations when they are printed
pub known_apart : (net : Net) (known : Option (List ℤ)) (basis : List ℤ) (from to : EventId) → IsSomeAnd known (λ times. Satisfies times net) → from.0 < net.events → to.0 < net.events → basis ≡ printed_known known
    → separation (unwrap_or known []) from to ≡ separation basis from to
known_apart net None basis from to sat in_from in_to is = absurd sat
known_apart net (Some times) basis from to sat in_from in_to is =
    let f : from.0 < length times = subst (λ n. from.0 < n) (sym sat.count) in_from in
    let t : to.0 < length times = subst (λ n. to.0 < n) (sym sat.count) in_to in
    subst (λ (ts : List ℤ). separation times from to ≡ separation ts from to) (sym is) (separation-shifted times (neg_ℤ (time_of times (record { 0 = 0 }))) from to f t)

-- where there are no events, no times are printed
pub printed_none : (net : Net) (known : Option (List ℤ)) (list : List ℤ) → IsSomeAnd known (λ times. Satisfies times net) → net.events ≤ 0 → length list ≡ net.events → list ≡ printed_known known
printed_none net None list sat none count = absurd sat
printed_none net (Some times) list sat none count =
    let empty : net.events ≡ 0 = omega (arith, none) in
    none_is list (count ∙ empty) ∙ sym (ap (λ (ts : List ℤ). printed_known (Some ts)) (none_is times (sat.count ∙ empty)))

pub known_shifted : (net : Net) (known list : List ℤ) → IsNet net → Satisfies known net → All IsClose known → 0 < net.events → IsShiftedTo (record { 0 = 0 }) known list → AreKnown net list
known_shifted net known list is_net sat close some is =
    let by : ℤ = neg_ℤ (time_of known (record { 0 = 0 })) in
    let f : 0 < length known = subst (λ n. 0 < n) (sym sat.count) some in
    let zero_at : time_of list (record { 0 = 0 }) ≡ pos 0 = at_zero known list (record { 0 = 0 }) f is in
    let near : AreNearby list = subst (λ (ts : List ℤ). AreNearby ts) (sym is) (nearby-shifted known by (nearby_close known close)) in (
      times_nearby list (record { 0 = 0 }) near (subst (λ n. 0 < n) (sym (ap length is ∙ length-shifted known by)) f) zero_at,
      subst (λ ts. Satisfies ts net) (sym is) (satisfies-shifted net known by is_net sat),
      zero_at,
    )

pub known_none : (net : Net) (known list : List ℤ) → Satisfies known net → net.events ≤ 0 → length list ≡ net.events → AreKnown net list
known_none net known list sat none count =
    let empty : net.events ≡ 0 = omega (arith, none) in
    let a : list ≡ [] = none_is list (count ∙ empty) in
    let b : known ≡ [] = none_is known (sat.count ∙ empty) in
    subst (λ (ts : List ℤ). AreKnown net ts) (sym a) ((λ k d h. absurd (omega arith)), subst (λ ts. Satisfies ts net) b sat, refl)

pub known_may : (net : Net) (most : ℕ) (cert : Bool) (basis : List ℤ) (drawn : Drawn) (word : Consistency) (list : List ℤ) → word ≡ findings.Consistent → list ≡ basis → AreKnown net list
    → MayFollow (sized net most cert basis) drawn (behind_finding word) (times_line list) (behind_known word)
known_may net most cert basis drawn word list e is known =
    subst (λ (w : Consistency). MayFollow (sized net most cert basis) drawn (behind_finding w) (times_line list) (behind_known w)) (sym e) (list, refl, (is, known.0, (known.1, known.2)), refl)

pub same_place : (word : Consistency) → (word ≡ findings.Inconsistent) ⊎ (word ≡ findings.Open) → behind_finding word ≡ behind_known word
same_place word (inl e) = rw e refl
same_place word (inr e) = rw e refl
