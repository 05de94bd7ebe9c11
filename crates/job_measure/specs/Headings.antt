-- What the lines of job measure are about.
use Rattle.std.specs.Prelude.{ℕ, List, [], ◌∷◌, ◌++◌, codes, map, take}
use Rattle.std.specs.List.{flat_map}
use Rattle.itv_base.specs.Names.{Name}
use Rattle.itv_base.specs.Numerals.{number_text}
use Rattle.itv_base.specs.declared.names.RuleKind.{RuleKind}
use Rattle.itv_base.specs.declared.names.RuleKind.TheVariants.{Lin, Late, Early}
use Rattle.origin.specs.Text.{origin_text}
use Rattle.origin.specs.declared.origin.Origin.{Origin}
use Rattle.event_graph.specs.declared.cause.Cause.{Cause}
use Rattle.event_graph.specs.Network.{Constraint}
use Rattle.drawn_networks.specs.Drawn.{Drawn, name_of}
use Rattle.drawn_networks.specs.declared.row.Row.{Row}
use Rattle.line_words.specs.Lines.{spaced}
use Rattle.line_words.specs.Words.{Word}
use Rattle.slack_report.specs.Text.{row_words}

-- a part, a full stop and a mark, without a cycle
abbrev pub mark_word : Name → Word
mark_word name = name.part ++ (46 ∷ name.mark ∷ [])

abbrev pub kind_word : RuleKind → Word
kind_word Lin = codes "lin"
kind_word Late = codes "late"
kind_word Early = codes "early"

-- the mark from which a linear rule leads
abbrev pub from_words : Drawn → RuleKind → List Cause → List Word
from_words drawn Lin causes = map (λ (c : Cause). mark_word (name_of drawn c.event)) (take 1 causes)
from_words drawn Late causes = []
from_words drawn Early causes = []

-- a rule: its kind, its marks, and what draws its first cause. The constraints that a rule draws in several cycles have one heading
abbrev pub rule_heading : Drawn → Constraint → List Origin → List ℕ
rule_heading drawn c origins =
    codes "rule" ++ flat_map spaced (kind_word c.kind ∷ (from_words drawn c.kind c.causes ++ (mark_word (name_of drawn c.target) ∷ map origin_text (take 1 origins))))

-- a row, in the words of a report
abbrev pub row_heading : Drawn → ℕ → Row → List ℕ
row_heading drawn number row = codes "row" ++ flat_map spaced (number_text number ∷ row_words row.kind (name_of drawn row.from) (name_of drawn row.to))
