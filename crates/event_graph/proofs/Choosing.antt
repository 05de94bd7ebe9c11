-- The table of choices, as choices come and go.
use Rattle.std.proofs.Common.{◌≡◌, ◌<◌, ◌≤◌, ◌==◌, inl, inr, ℕ, Bool, true, false, if◌then◌else◌, eqb, List, [], ◌∷◌, length, set, map, Option, Some, None, sym, ◌∙◌, refl, subst, arith, length-set, get_or-set_other, get_or-set_same}
use Rattle.std.specs.List.{AllByRecursion, IsDistinct, list_any}
use Rattle.std.proofs.lemmas.Bool.{cases_eq, eq-eqb, eqb-true, ne_eqb, or_cases, true≢false}
use Rattle.std.proofs.lemmas.List.{length-map}
use Rattle.std.proofs.lemmas.Map.Steps.{length-le_from_distinct_below}
use Rattle.event_graph.specs.Proof.{Case, Choice}
use Rattle.event_graph.specs.Cases.{cause_chosen}
use Rattle.event_graph.specs.Step.Noted.{AreChoices, IsTable}

abbrev number_of : Choice → ℕ
number_of choice = choice.constraint

if_unchosen : (b : Bool) (cause : ℕ) (o : Option ℕ) → (if b then Some cause else o) ≡ None → (b ≡ false) × (o ≡ None)
if_unchosen true cause o h = absurd (cc)
if_unchosen false cause o h = (refl, h)

differs : (a b : ℕ) → (a == b) ≡ false → (b == a) ≡ false
differs a b h = ne_eqb b a (λ same. true≢false (sym (eq-eqb a b (sym same)) ∙ h))

-- if no cause of a constraint is chosen, no choice is of this constraint
apart : (number : ℕ) (chosen : Case) → cause_chosen chosen number ≡ None → AllByRecursion (λ y. eqb number y ≡ false) (map number_of chosen)
apart number [] free = tt
apart number (choice ∷ above) free =
    let parts = if_unchosen (choice.constraint == number) choice.cause (cause_chosen above number) free in
    (differs choice.constraint number parts.0, apart number above parts.1)

distinct : (room : ℕ) (chosen : Case) → AreChoices room chosen → IsDistinct eqb (map number_of chosen)
unfolding IsDistinct
distinct room [] h = tt
distinct room (choice ∷ above) h = (apart choice.constraint above h.1, distinct room above h.2)

below : (room : ℕ) (chosen : Case) (number : ℕ) → AreChoices room chosen → list_any (eqb number) (map number_of chosen) ≡ true → number < room
below room [] number h any = absurd (true≢false (sym any))
below room (choice ∷ above) number h any =
    elim (or_cases (eqb number choice.constraint) (list_any (eqb number) (map number_of above)) any) [
      | inl here ↦ let same : number ≡ choice.constraint = eqb-true number choice.constraint here in let less : choice.constraint < room = h.0 in omega arith
      | inr later ↦ below room above number h.2 later
    ]

-- there are no more choices than constraints
pub length_within : (room : ℕ) (chosen : Case) → AreChoices room chosen → length chosen ≤ room
length_within room chosen h =
    let few : length (map number_of chosen) ≤ room =
    length-le_from_distinct_below (map number_of chosen) room (distinct room chosen h) (λ number any. below room chosen number h any) in
    omega (arith, length-map chosen number_of)

-- no cause of a constraint beyond the room is chosen
pub cause_beyond : (room : ℕ) (chosen : Case) (number : ℕ) → AreChoices room chosen → room ≤ number → cause_chosen chosen number ≡ None
cause_beyond room [] number h beyond = refl
cause_beyond room (choice ∷ above) number h beyond =
    let within : choice.constraint < room = h.0 in
    rw (ne_eqb choice.constraint number (λ same. absurd (omega (arith, same)))) (cause_beyond room above number h.2 beyond)

pub table_pop : (causes : List (Option ℕ)) (chosen : Case) (choice : Choice) → IsTable causes (choice ∷ chosen) → IsTable (set causes choice.constraint None) chosen
table_pop causes chosen choice table =
    let same_length : length (set causes choice.constraint None) ≡ length causes = length-set causes choice.constraint None in
    let first = table.choices in
    let within : choice.constraint < length causes = first.0 in
    record {
      choices = subst (λ room. AreChoices room chosen) (sym same_length) first.2;
      each = λ number there.
          let there_before : number < length causes = omega arith in
          elim (cases_eq number choice.constraint) [
            | inl same ↦ rw (same, first.1) (get_or-set_same causes choice.constraint None None within)
            | inr other ↦
                get_or-set_other causes choice.constraint number None None other
                ∙ (table.each number there_before ∙ unchosen (choice.constraint == number) choice.cause (cause_chosen chosen number)
                (ne_eqb choice.constraint number (λ same. other (sym same))))
          ];
    }
  where
    unchosen : (b : Bool) (cause : ℕ) (o : Option ℕ) → b ≡ false → (if b then Some cause else o) ≡ o
    unchosen b cause o is = rw is refl
