-- Tables of the first two leads into marks.
use Rattle.std.proofs.Common.{◌≡◌, Bool, true, false, not, ◌&&◌, cond, List, [], ◌∷◌, ◌++◌, Option, Some, None, find, refl, ap, sym, ◌∙◌}
use Rattle.std.specs.Option.{option_or}
use Rattle.std.proofs.lemmas.Bool.{and_from, and_parts, and_right, not_from_false}
use Rattle.std.proofs.lemmas.List.Folds.{find-append}
use Rattle.compose.specs.declared.mark.DesignMark.{DesignMark}
use Rattle.lint.specs.declared.first_two.FirstTwo.{FirstTwo}
use Rattle.lint.specs.declared.lead.Lead.{Lead}
use Rattle.lint.specs.Leads.{is_at, leads_into}
use Rattle.lint.specs.Step.{AreFirstTwo, differs, first_at, given_at, is_second, meets, met_by, met_in, second_after}
use Rattle.lint.proofs.FirstLists.{and_true, at_same, find_holds, find_still, find_weaker, mark_same}

-- ---- what a lead meets

met_at : (leads : List Lead) (lead first : Lead) (second : Option Lead) (b : Bool) → is_at first.from lead.from ≡ b → find (leads_into lead.to) leads ≡ Some first
    → second ≡ find (is_second lead.to first) leads → cond b second (Some first) ≡ find (meets lead) leads
met_at leads lead first second true same is held = held ∙ ap (λ (from : DesignMark). find (λ (other : Lead). leads_into lead.to other && not (is_at other.from from)) leads) (mark_same first.from lead.from same)
met_at leads lead first second false apart is held =
    sym (find_still (leads_into lead.to) (meets lead) (λ other met. (and_parts (leads_into lead.to other) (not (is_at other.from lead.from)) met).0) leads first
    (and_from (leads_into lead.to first) (not (is_at first.from lead.from)) (find_holds (leads_into lead.to) leads first is) (not_from_false (is_at first.from lead.from) apart)) is)

met_of : (leads : List Lead) (lead : Lead) (first second : Option Lead) → first ≡ find (leads_into lead.to) leads → second ≡ second_after leads lead.to first → met_by first second lead ≡ find (meets lead) leads
met_of leads lead None second is held =
    sym (find_weaker (leads_into lead.to) (meets lead) (λ other met. (and_parts (leads_into lead.to other) (not (is_at other.from lead.from)) met).0) leads (sym is))
met_of leads lead (Some first) second is held = met_at leads lead first second (is_at first.from lead.from) refl (sym is) held

-- the tables give the first lead that a lead meets
pub met_is : (tables : FirstTwo) (leads : List Lead) → AreFirstTwo tables leads → (lead : Lead) → met_in tables lead ≡ find (meets lead) leads
met_is tables leads are lead =
    met_of leads lead (first_at tables.firsts lead.to) (first_at tables.seconds lead.to) (are.firsts lead.to) (are.seconds lead.to ∙ ap (second_after leads lead.to) (sym (are.firsts lead.to)))

-- ---- one more lead

second_more : (leads : List Lead) (lead : Lead) (mark : DesignMark) (first found : Option Lead) (into : Bool) → leads_into mark lead ≡ into → (into ≡ true → first ≡ found) → found ≡ find (leads_into mark) leads
    → option_or (second_after leads mark found) (cond (into && differs first lead) (Some lead) None) ≡ second_after (leads ++ lead ∷ []) mark (option_or found (cond into (Some lead) None))
second_more leads lead mark first (Some f) true into same is =
    ap (λ (o : Option Lead). option_or (find (is_second mark f) leads) (cond (differs o lead) (Some lead) None)) (same refl)
    ∙ ap (λ b. option_or (find (is_second mark f) leads) (cond (b && not (is_at lead.from f.from)) (Some lead) None)) (sym into)
    ∙ sym (find-append (is_second mark f) leads (lead ∷ []))
second_more leads lead mark first (Some f) false into same is =
    ap (λ b. option_or (find (is_second mark f) leads) (cond (b && not (is_at lead.from f.from)) (Some lead) None)) (sym into)
    ∙ sym (find-append (is_second mark f) leads (lead ∷ []))
second_more leads lead mark first None true into same is =
    let none : find (is_second mark lead) leads ≡ None =
    find_weaker (leads_into mark) (is_second mark lead) (λ other met. (and_parts (leads_into mark other) (not (is_at other.from lead.from)) met).0) leads (sym is) in
    let itself : is_second mark lead lead ≡ false = and_right (leads_into mark lead) (not (is_at lead.from lead.from)) (ap not (at_same lead.from)) in
    ap (λ (o : Option Lead). cond (differs o lead) (Some lead) None) (same refl)
    ∙ sym (find-append (is_second mark lead) leads (lead ∷ []) ∙ ap (λ (o : Option Lead). option_or o (cond (is_second mark lead lead) (Some lead) None)) none ∙ ap (λ b. cond b (Some lead) None) itself)
second_more leads lead mark first None false into same is = refl

module _ (old new : FirstTwo) (leads : List Lead) (lead : Lead) (are : AreFirstTwo old leads) where
  first_noted : (mark : DesignMark) → first_at new.firsts mark ≡ option_or (first_at old.firsts mark) (given_at mark true lead) → first_at new.firsts mark ≡ find (leads_into mark) (leads ++ lead ∷ [])
  first_noted mark noted =
      noted ∙ ap (λ b. option_or (first_at old.firsts mark) (cond b (Some lead) None)) (and_true (leads_into mark lead))
      ∙ ap (λ (o : Option Lead). option_or o (cond (leads_into mark lead) (Some lead) None)) (are.firsts mark) ∙ sym (find-append (leads_into mark) leads (lead ∷ []))

  second_noted : (mark : DesignMark) → first_at new.seconds mark ≡ option_or (first_at old.seconds mark) (given_at mark (differs (first_at old.firsts lead.to) lead) lead)
      → first_at new.seconds mark ≡ second_after (leads ++ lead ∷ []) mark (find (leads_into mark) (leads ++ lead ∷ []))
  second_noted mark noted =
      noted ∙ ap (λ (o : Option Lead). option_or o (given_at mark (differs (first_at old.firsts lead.to) lead) lead)) (are.seconds mark)
      ∙ second_more leads lead mark (first_at old.firsts lead.to) (find (leads_into mark) leads) (leads_into mark lead) refl (λ into. ap (first_at old.firsts) (mark_same lead.to mark into) ∙ are.firsts mark) refl
      ∙ ap (second_after (leads ++ lead ∷ []) mark) (sym (find-append (leads_into mark) leads (lead ∷ [])))

  -- the tables with one lead more
  pub lead_noted : ((mark : DesignMark) → first_at new.firsts mark ≡ option_or (first_at old.firsts mark) (given_at mark true lead))
      → ((mark : DesignMark) → first_at new.seconds mark ≡ option_or (first_at old.seconds mark) (given_at mark (differs (first_at old.firsts lead.to) lead) lead)) → AreFirstTwo new (leads ++ lead ∷ [])
  lead_noted firsts seconds = record { firsts = λ mark. first_noted mark (firsts mark); seconds = λ mark. second_noted mark (seconds mark) }
