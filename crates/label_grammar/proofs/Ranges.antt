-- What is made of ends that are a range.
use Rattle.std.proofs.Common.{◌≡◌, Bool, true, false, cond, Some, Result, Ok, Err, ap}
use Rattle.itv_base.specs.Range.{Ends, has_wide, is_reversed}
use Rattle.label_grammar.specs.declared.label.LabelFault.{LabelFault}
use Rattle.label_grammar.specs.declared.label.LabelFault.TheVariants.{TooWide, EmptyRange}
use Rattle.label_grammar.specs.Label.{fixed}
use Rattle.label_grammar.specs.Step.Form.{judged_ends, judged_range, judged_span}

chosen : {B : Type 0} (f : Ends → B) (wide reversed : Bool) (ends range : Ends) → ◌≡◌ {A = Result Ends LabelFault} (cond wide (Err TooWide) (cond reversed (Err EmptyRange) (Ok ends))) (Ok range)
    → ◌≡◌ {A = Result B LabelFault} (cond wide (Err TooWide) (cond reversed (Err EmptyRange) (Ok (f ends)))) (Ok (f range))
chosen f true reversed ends range e = absurd cc
chosen f false true ends range e = absurd cc
chosen f false false ends range e = let same : ends ≡ range = cc in ap (λ x. Ok (f x)) same

pub range_made : (ends range : Ends) → judged_ends ends ≡ Ok range → judged_range (Some ends) ≡ Ok (Some range)
range_made ends range e = chosen (λ x. Some x) (has_wide ends) (is_reversed ends) ends range e

pub span_made : (ends range : Ends) → judged_ends ends ≡ Ok range → judged_span (Some (fixed ends)) ≡ Ok (Some (fixed range))
span_made ends range e = chosen (λ x. Some (fixed x)) (has_wide ends) (is_reversed ends) ends range e
