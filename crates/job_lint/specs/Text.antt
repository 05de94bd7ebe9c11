-- The text of job lint.
use Rattle.std.specs.Prelude.{ℕ, ℤ, neg_ℤ, ◌==◌, ◌||◌, Bool, true, false, if◌then◌else◌, List, [], ◌∷◌, ◌++◌, option_and_then, Option, Some, None, unwrap_or, slice_get, codes}
use Rattle.std.specs.List.{filter, flat_map}
use Rattle.std.specs.Option.{option_map_or}
use Rattle.itv_base.specs.Numerals.{number_text, signed_text}
use Rattle.itv_base.specs.declared.names.Side.{Side}
use Rattle.itv_base.specs.declared.names.Side.TheVariants.{Lower, Upper}
use Rattle.line_words.specs.Lines.{ended, line_of}
use Rattle.line_words.specs.Words.{Word}
use Rattle.origin.specs.Text.{origin_text}
use Rattle.origin.specs.declared.origin.Origin.{Origin}
use Rattle.origin.specs.declared.origin.Origin.TheVariants as drawn
use Rattle.json_tree.specs.declared.key_place.KeyPlace.{KeyPlace}
use Rattle.json_tree.specs.declared.key_place.KeyPlace.TheVariants as places
use Rattle.json_tree.specs.declared.stray_key.StrayKey.{StrayKey}
use Rattle.design_plan.specs.Notes.{edge_named, is_printed_byte, plan_note}
use Rattle.design_plan.specs.Plan.{PlanView}
use Rattle.sheet.specs.declared.mark.Mark.{Mark}
use Rattle.sheet.specs.SheetContents.{SheetView}
use Rattle.compose.specs.declared.mark.DesignMark.{DesignMark}
use Rattle.compose.specs.Design.{DesignView}
use Rattle.compose.specs.Nets.{marks_at}
use Rattle.drawn_networks.specs.Drawn.{Drawn}
use Rattle.lint.specs.declared.warning.DrawnPlace.{DrawnPlace}
use Rattle.lint.specs.declared.warning.Warning.{Warning}
use Rattle.lint.specs.declared.about.About.{About}
use Rattle.lint.specs.declared.about.About.TheVariants as abouts
use Rattle.lint.specs.Words.{word_text}
use Rattle.job_lint.specs.declared.drawn_at.DrawnAt.{DrawnAt}
use Rattle.job_lint.specs.declared.line.Line.{Line}
use Rattle.job_lint.specs.declared.line.Line.TheVariants.{Drawing, Never, Narrow, Order, OpenRow, Contradiction, OrderContradicts, Open, OpenEnds}
use Rattle.job_lint.specs.Lines.{event_part, is_clean, is_silenced, meant_count, part_word}

-- ---- places

-- an edge or a lane of a part has the name of the part before it; a pin or a wire is by itself
abbrev pub place_word : List ℕ → Origin → Word
place_word part (drawn.Lane n) = part ++ (32 ∷ origin_text (drawn.Lane n))
place_word part (drawn.Edge n) = part ++ (32 ∷ origin_text (drawn.Edge n))
place_word part (drawn.Pin net pin) = origin_text (drawn.Pin net pin)
place_word part (drawn.Wire n) = origin_text (drawn.Wire n)

abbrev pub spot_word : DesignView → DrawnPlace → Word
spot_word d spot = place_word (part_word d spot.part) spot.origin

abbrev pub at_word : Drawn → DrawnAt → Word
at_word network at = place_word (event_part network at.event) at.origin

-- the name of a mark of a part
abbrev pub mark_byte : DesignView → DesignMark → List ℕ
mark_byte d mark = option_map_or (λ (m : Mark). m.name ∷ []) (slice_get (marks_at d.sheets mark.part) mark.mark) []

-- a mark after its part, with a full stop between them
abbrev pub mark_word : DesignView → DesignMark → Word
mark_word d mark = part_word d mark.part ++ (46 ∷ mark_byte d mark)

-- ---- what a reader knows a place by

-- the whole text of an edge of a sheet or of the netlist
abbrev pub whole_text : PlanView → List ℕ → Origin → List ℕ
whole_text plan part (drawn.Edge n) = unwrap_or (edge_named plan part n) []
whole_text plan part (drawn.Wire n) = unwrap_or (slice_get plan.netlist.edges n) []
whole_text plan part (drawn.Lane n) = []
whole_text plan part (drawn.Pin net pin) = []

-- the first text, or where it is empty the other
abbrev pub first_text : List ℕ → List ℕ → List ℕ
first_text [] other = other
first_text (c ∷ cs) other = c ∷ cs

-- the note of a place, or where there is none its whole text
abbrev pub source_text : PlanView → List ℕ → Origin → List ℕ
source_text plan part origin = first_text (plan_note plan part origin) (whole_text plan part origin)

-- what a place is known by, without the characters that can't be printed
abbrev pub told : PlanView → List ℕ → Origin → List ℕ
told plan part origin = filter is_printed_byte (source_text plan part origin)

-- a word, if it is not empty
abbrev pub word_if_any : Word → List Word
word_if_any [] = []
word_if_any (c ∷ cs) = (c ∷ cs) ∷ []

-- a stroke between two texts, if neither is empty
abbrev pub stroke_between : List ℕ → List ℕ → List Word
stroke_between [] other = []
stroke_between (c ∷ cs) [] = []
stroke_between (c ∷ cs) (e ∷ es) = codes "/" ∷ []

abbrev pub both_words : List ℕ → List ℕ → List Word
both_words first other = word_if_any first ++ (stroke_between first other ++ word_if_any other)

abbrev pub told_words : PlanView → List ℕ → Origin → List Word
told_words plan part origin = word_if_any (told plan part origin)

abbrev pub spot_told : PlanView → DesignView → DrawnPlace → List Word
spot_told plan d spot = told_words plan (part_word d spot.part) spot.origin

abbrev pub at_told : PlanView → Drawn → DrawnAt → List Word
at_told plan network at = told_words plan (event_part network at.event) at.origin

-- ---- keys that are ignored

-- a near key of the sheet of a part
abbrev pub sheet_key_word : DesignView → ℕ → ℕ → Word
sheet_key_word d part key = unwrap_or (option_and_then (λ (sheet : SheetView). slice_get sheet.near key) (slice_get d.sheets part)) []

-- the name of a net, if it has one
abbrev pub net_told : PlanView → ℕ → List Word
net_told plan net = told_words plan [] (drawn.Pin net 0)

-- a key that is not known, without the characters that can't be printed, with the part or the net that has it
abbrev pub stray_words : PlanView → DesignView → KeyPlace → List ℕ → List Word
stray_words plan d places.Netlist key = codes "key" ∷ filter is_printed_byte key ∷ []
stray_words plan d (places.Part part) key = codes "key" ∷ codes "part" ∷ number_text part ∷ filter is_printed_byte key ∷ part_word d part ∷ []
stray_words plan d (places.Net net) key = codes "key" ∷ codes "net" ∷ number_text net ∷ filter is_printed_byte key ∷ net_told plan net

-- the key of this number of the netlist
abbrev pub netlist_key_words : PlanView → DesignView → Option StrayKey → List Word
netlist_key_words plan d None = codes "key" ∷ []
netlist_key_words plan d (Some stray) = stray_words plan d stray.place stray.key

-- ---- lines

-- a word, a place, and what the place is known by
abbrev pub spot_words : PlanView → DesignView → Word → DrawnPlace → List Word
spot_words plan d key spot = key ∷ spot_word d spot ∷ spot_told plan d spot

-- a word, two places, and what they are known by
abbrev pub pair_words : PlanView → DesignView → Word → DrawnPlace → DrawnPlace → List Word
pair_words plan d key first other =
    key ∷ spot_word d first ∷ spot_word d other
    ∷ both_words (told plan (part_word d first.part) first.origin) (told plan (part_word d other.part) other.origin)

-- a word, a mark that follows something, what draws that, and an edge of the sheet of the mark
abbrev pub driven_words : PlanView → DesignView → Word → DesignMark → Origin → Origin → List Word
driven_words plan d key mark by edge = key ∷ mark_word d mark ∷ origin_text by ∷ origin_text edge ∷ told_words plan (part_word d mark.part) edge

-- a word, a mark that follows two drivers, and what draws these two
abbrev pub drivers_words : PlanView → DesignView → Word → DesignMark → Origin → Origin → List Word
drivers_words plan d key mark first other =
    key ∷ mark_word d mark ∷ origin_text first ∷ origin_text other
    ∷ both_words (told plan (part_word d mark.part) first) (told plan (part_word d mark.part) other)

-- a word, and what the warning is about
abbrev pub about_words : PlanView → DesignView → Word → About → List Word
about_words plan d key abouts.Nothing = key ∷ []
about_words plan d key (abouts.Place spot) = spot_words plan d key spot
about_words plan d key (abouts.Mark mark) = key ∷ mark_word d mark ∷ []
about_words plan d key (abouts.Two first other) = pair_words plan d key first other
about_words plan d key (abouts.Follows mark by) = key ∷ mark_word d mark ∷ spot_word d by ∷ spot_told plan d by
about_words plan d key (abouts.Driven mark by edge) = driven_words plan d key mark by edge
about_words plan d key (abouts.Drivers mark first other) = drivers_words plan d key mark first other
about_words plan d key (abouts.SheetKey part near) = key ∷ part_word d part ∷ sheet_key_word d part near ∷ []
about_words plan d key (abouts.NetlistKey stray) = netlist_key_words plan d (slice_get plan.netlist.stray stray)
about_words plan d key (abouts.Net net) = key ∷ codes "net" ∷ number_text net ∷ net_told plan net
about_words plan d key (abouts.Count part count) = key ∷ part_word d part ∷ number_text count ∷ []

abbrev pub warning_words : PlanView → DesignView → Warning → List Word
warning_words plan d warning = about_words plan d (word_text warning.word) warning.about

-- the end of a range; on the low side it is minus what is kept
abbrev pub end_word : Side → Word
end_word Upper = codes "high"
end_word Lower = codes "low"

abbrev pub end_number : Side → ℤ → ℤ
end_number Upper value = value
end_number Lower value = neg_ℤ value

-- the end of a range that no times reach, and how near they come
abbrev pub narrow_words : PlanView → Drawn → DrawnAt → Side → ℤ → ℤ → List Word
narrow_words plan network at side weight only =
    codes "narrow" ∷ at_word network at ∷ end_word side ∷ signed_text (end_number side weight) ∷ codes "only" ∷ signed_text (end_number side only)
    ∷ at_told plan network at

-- the words of a line, after its first word
abbrev pub line_words : PlanView → DesignView → Drawn → Line → List Word
line_words plan d network (Drawing warning) = warning_words plan d warning
line_words plan d network (Never spot) = spot_words plan d (codes "never") spot
line_words plan d network (Narrow at side weight only) = narrow_words plan network at side weight only
line_words plan d network (Order number at) = codes "order" ∷ codes "row" ∷ number_text number ∷ at_told plan network at
line_words plan d network (OpenRow number at) = codes "open" ∷ codes "row" ∷ number_text number ∷ at_told plan network at
line_words plan d network Contradiction = codes "contradiction" ∷ []
line_words plan d network OrderContradicts = codes "order" ∷ []
line_words plan d network Open = codes "open" ∷ []
line_words plan d network (OpenEnds count) = codes "open" ∷ codes "ends" ∷ number_text count ∷ []

abbrev pub line_text : PlanView → DesignView → Drawn → Line → List ℕ
line_text plan d network line = ended (line_of (codes "warning" ∷ line_words plan d network line))

-- a line that is silenced is left out
abbrev pub shown_text : PlanView → DesignView → Drawn → Line → List ℕ
shown_text plan d network line = if is_silenced plan d network line then [] else line_text plan d network line

-- ---- the whole

abbrev pub clean_word : Bool → Word
clean_word true = codes "clean"
clean_word false = codes "noted"

abbrev pub meant_words : ℕ → List Word
meant_words count = if count == 0 then [] else number_text count ∷ codes "meant" ∷ []

-- the last line, and how many lines are silenced, if some are
abbrev pub end_text : Bool → ℕ → List ℕ
end_text clean count = ended (line_of (codes "end" ∷ clean_word clean ∷ meant_words count))

abbrev pub lint_text : PlanView → DesignView → Drawn → List Line → List ℕ
lint_text plan d network lines =
    ended (codes "itv lint 1") ++ (flat_map (shown_text plan d network) lines ++ end_text (is_clean plan d network lines) (meant_count plan d network lines))
