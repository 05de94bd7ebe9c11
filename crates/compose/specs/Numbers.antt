-- The marks of a design, numbered part by part, and within a part as on its sheet; and joins between these numbers. So one cycle of the design is
-- like one large sheet.
use Rattle.std.specs.Prelude.{ℕ, ◌+◌, List, [], ◌∷◌, length, sum_by, take}
use Rattle.itv_base.specs.declared.names.RuleKind.TheVariants.{Lin}
use Rattle.sheet.specs.Rule.{RuleView}
use Rattle.sheet.specs.SheetContents.{SheetView}
use Rattle.compose.specs.declared.mark.DesignMark.{DesignMark}
use Rattle.compose.specs.declared.joins.Join.{Join}

-- how many marks sheets have together
abbrev pub mark_count : List SheetView → ℕ
mark_count sheets = sum_by (λ sheet. length sheet.marks) sheets

-- the number of a mark; the marks of earlier parts have lower numbers
abbrev pub number_of : List SheetView → DesignMark → ℕ
number_of sheets mark = mark_count (take mark.part sheets) + mark.mark

-- a join is a linear rule within one cycle
abbrev pub join_rule : List SheetView → Join → RuleView
join_rule sheets join = record {
  kind = Lin;
  target = number_of sheets join.to;
  causes = record { mark = number_of sheets join.from; shift = 0; range = join.delay; origin = join.origin } ∷ [];
}
