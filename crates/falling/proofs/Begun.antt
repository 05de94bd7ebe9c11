-- A checker that was begun, and its first faults.
use Rattle.std.proofs.Common.{◌≡◌, ◌<◌, inl, inr, ◌↔◌, ℤ, Bool, false, IsTrue, List, [], ◌∷◌, ◌++◌, sym, ap, ◌∙◌, subst, arith}
use Rattle.std.proofs.Math.ListN.{length-set}
use Rattle.itv_base.specs.declared.names.EventId.{EventId}
use Rattle.itv_base.proofs.Bools.{true_or_false}
use Rattle.event_graph.specs.Network.{IsNet, Net}
use Rattle.falling.specs.declared.fault.FallCheckFault.{FallCheckFault}
use Rattle.falling.specs.declared.fault.FallCheckFault.TheVariants.{AfterEnd, NotLower, NoEdge, NoLate, WrongValue}
use Rattle.falling.specs.declared.limits.Limits.{Limits}
use Rattle.falling.specs.declared.line.FallLine.{FallLine}
use Rattle.falling.specs.Checking.{FallCheckerView, IsBegun, IsCheckFault, IsFallCheckFault}
use Rattle.falling.specs.Step.DerivationEnds.{EndsDerivation}
use Rattle.falling.specs.Derivation.{IsLineAllowed, IsEnded, fallen, starting_values}
use Rattle.falling.proofs.Counting.{due_within}
use Rattle.falling.proofs.Deriving.{ended_after, fallen_most, leads_more, not_ended_after}

pub line_fault_is : (net : Net) (from : EventId) (values : List ℤ) (line : FallLine) (fault : FallCheckFault) → (IsEnded net from values → ⊥) → IsFallCheckFault net values line fault
    → IsCheckFault net from values line fault
line_fault_is net from values line AfterEnd goes_on h = absurd h
line_fault_is net from values line (NotLower current) goes_on h = (goes_on, h)
line_fault_is net from values line NoEdge goes_on h = (goes_on, h)
line_fault_is net from values line NoLate goes_on h = (goes_on, h)
line_fault_is net from values line (WrongValue due) goes_on h = (goes_on, h)

not_true : (b : Bool) → b ≡ false → IsTrue b → ⊥
not_true b is_false is_true = cc

pub open_checker : (net : Net) (check : FallCheckerView) → IsBegun net check → check.ended ≡ false → IsEnded net check.source check.values → ⊥
open_checker net check begun goes_on ended = not_true check.ended goes_on (begun.ended.1 ended)

abbrev pub checking : Limits → EventId → List ℤ → Bool → FallCheckerView
checking limits source values ended = record { limits = limits; source = source; values = values; ended = ended }

pub begun_after : (net : Net) (check : FallCheckerView) (line : FallLine) (values : List ℤ) (ended : Bool) → IsNet net → IsBegun net check → check.ended ≡ false
    → IsLineAllowed net check.values line → values ≡ fallen check.values line → (IsTrue ended ↔ EndsDerivation line check.source check.limits.lowest)
    → IsBegun net (checking check.limits check.source values ended)
begun_after net check line values ended is_net begun goes_on allowed is ends =
    let not_ended : IsEnded net check.source check.values → ⊥ = open_checker net check begun goes_on in
    let in_line : line.event.0 < net.events = due_within net check.values line.event line.value line.reason is_net allowed.due in
    let lines = begun.lines in
    let least = begun.made.limits.lowest_is in
    rw is (record {
      made = record { limits = begun.made.limits; count = length-set check.values line.event.0 line.value ∙ begun.made.count };
      source = begun.source;
      lines = (lines.0 ++ line ∷ [], leads_more net check.source (starting_values net check.source) lines.0 check.values line lines.1 not_ended allowed);
      ended = (
        (λ is_true. ended_after net check.source check.values line check.limits.lowest least (omega (arith, begun.made.count)) (ends.0 is_true)),
        (λ has_ended. elim (true_or_false ended) [
          | inl yes' ↦ yes'
          | inr no' ↦ absurd (not_ended_after net check.source check.values line check.limits.lowest least (omega (arith, begun.made.count, begun.source)) not_ended
              (λ e. not_true ended no' (ends.1 e)) has_ended)
        ]),
      );
      most = fallen_most net check.values line begun.most (omega (arith, begun.made.count)) allowed.lower;
    })

-- the same of a checker that is given by its parts
pub begun_at : (net : Net) (check before : FallCheckerView) (line : FallLine) (values given : List ℤ) (ended : Bool) → before ≡ check → IsNet net → IsBegun net check → before.ended ≡ false
    → given ≡ before.values → IsLineAllowed net given line → values ≡ fallen given line → (IsTrue ended ↔ EndsDerivation line before.source before.limits.lowest)
    → IsBegun net (checking before.limits before.source values ended)
begun_at net check before line values given ended same is_net begun goes_on is_given allowed is ends =
    begun_after net before line values ended is_net (subst (IsBegun net) (sym same) begun) goes_on (subst (λ v. IsLineAllowed net v line) is_given allowed)
    (is ∙ ap (λ v. fallen v line) is_given) ends

pub fault_at : (net : Net) (check before : FallCheckerView) (line : FallLine) (given : List ℤ) (fault : FallCheckFault) → before ≡ check → IsBegun net check → before.ended ≡ false
    → given ≡ before.values → IsFallCheckFault net given line fault → IsCheckFault net check.source check.values line fault
fault_at net check before line given fault same begun goes_on is_given h =
    line_fault_is net check.source check.values line fault (open_checker net check begun (ap (λ (x : FallCheckerView). x.ended) (sym same) ∙ goes_on))
    (subst (λ v. IsFallCheckFault net v line fault) (is_given ∙ ap (λ (x : FallCheckerView). x.values) same) h)
