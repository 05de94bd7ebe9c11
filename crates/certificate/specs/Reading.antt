-- Reading the words of a line of a proof.
use Rattle.std.specs.Prelude.{◌^◌, ◌-◌, ℕ, if◌then◌else◌, List, codes, Option, Some, option_map}
use Rattle.std.specs.List.{take_while}
use Rattle.std.specs.Char.{is_ascii_digit}
use Rattle.itv_base.specs.Cuts.{after_while, stripped}
use Rattle.itv_base.specs.declared.names.EdgeName.{EdgeName}
use Rattle.itv_base.specs.declared.names.Side.{Side}
use Rattle.itv_base.specs.declared.names.Side.TheVariants.{Lower, Upper}
use Rattle.event_graph.specs.Proof.{Loop, Path, ProofLine, Split}
use Rattle.line_words.specs.Words.{◌>>=◌, Word, is_word, keyed, many, one, or_else, when}
use Rattle.line_words.specs.Numbers.{number_in}

abbrev pub side_in : Word → Option Side
side_in word = if is_word word (codes "u") then Some Upper else when (is_word word (codes "l")) (Some Lower)

-- a cause and a side
abbrev pub cause_in : ℕ → Word → Option EdgeName
cause_in constraint word =
    number_in (2 ^ 32 - 1) (take_while is_ascii_digit word) >>= λ cause. side_in (after_while is_ascii_digit word) >>= λ side. Some (record { constraint = constraint; cause = cause; side = side })

-- an edge
unfoldable pub edge_in : Word → Option EdgeName
edge_in word =
    number_in (2 ^ 32 - 1) (take_while is_ascii_digit word) >>= λ constraint. stripped (codes ".") (after_while is_ascii_digit word) >>= cause_in constraint

-- the line of a proof with these words
unfoldable pub proof_in : List Word → Option ProofLine
proof_in words =
    or_else (option_map Split (keyed (codes "split") (one (number_in (2 ^ 32 - 1))) words)) (or_else (option_map Path (keyed (codes "path") (many edge_in) words)) (option_map Loop (keyed (codes "loop") (many edge_in) words)))
