-- The text of an origin.
use Rattle.std.specs.Prelude.{ℕ, List, ◌++◌, codes}
use Rattle.itv_base.specs.Numerals.{number_text}
use Rattle.origin.specs.declared.origin.Origin.{Origin}
use Rattle.origin.specs.declared.origin.Origin.TheVariants.{Lane, Edge, Pin, Wire}

-- the text of what draws a cause or a row: its kind and its number
abbrev pub origin_text : Origin → List ℕ
origin_text (Lane number) = codes "lane " ++ (number_text number ++ codes " order")
origin_text (Edge number) = codes "edge " ++ number_text number
origin_text (Pin net pin) = codes "net " ++ (number_text net ++ (codes " pin " ++ number_text pin))
origin_text (Wire number) = codes "wire " ++ number_text number
