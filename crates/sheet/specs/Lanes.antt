-- The marks, the pins and the lane order of a drawing. Lanes and marks are numbered from 0.
use Rattle.std.specs.Prelude.{ℕ, ◌+◌, ◌-◌, ◌||◌, ◌==◌, pos, Bool, not, if◌then◌else◌, List, [], ◌∷◌, ◌++◌, length, map, Option, Some, None, unwrap_or}
use Rattle.std.specs.Char.{is_ascii_graphic}
use Rattle.std.specs.Str.{chars}
use Rattle.std.specs.List.{enumerate_from, filter_map, flat_map, list_all, list_any, range_with_len}
use Rattle.itv_base.specs.declared.names.RuleKind.TheVariants.{Lin}
use Rattle.origin.specs.declared.origin.Origin.{Origin}
use Rattle.origin.specs.declared.origin.Origin.TheVariants.{Lane}
use Rattle.wave_string.specs.declared.mark_kind.MarkKind.{MarkKind}
use Rattle.wave_string.specs.declared.mark_kind.MarkKind.TheVariants.{Bare}
use Rattle.wave_string.specs.Kinds.{kind_of}
use Rattle.wavejson.specs.declared.lane_text.LaneText.{LaneText}
use Rattle.itv_base.specs.Characters.{is_mark}
use Rattle.sheet.specs.declared.mark.Mark.{Mark}
use Rattle.sheet.specs.declared.pin.Pin.{Pin}
use Rattle.sheet.specs.Rule.{RuleView}

-- ---- marks

-- A full stop, a space or a mark. These are ASCII, so in a node that has only these the places of bytes are the places of characters.
abbrev pub is_node_byte : ℕ → Bool
is_node_byte b = b == 32 || is_ascii_graphic b

abbrev pub node_of : LaneText → List ℕ
node_of lane = unwrap_or lane.node []

abbrev pub has_bad_node : LaneText → Bool
has_bad_node lane = not (list_all is_node_byte (node_of lane))

-- what a lane's wave draws at a place; nothing if the lane has no wave
abbrev pub drawn_kind : Option (List ℕ) → ℕ → MarkKind
drawn_kind None place = Bare
drawn_kind (Some wave) place = kind_of (chars wave) place

-- the mark at a place of a node, if its byte is one
abbrev pub mark_at : ℕ → LaneText → ℕ × ℕ → Option Mark
mark_at number lane at = if is_mark at.1 then Some (record { lane = number; place = at.0; name = at.1; kind = drawn_kind lane.wave at.0 }) else None

-- the marks of a lane by place
abbrev pub lane_marks : ℕ × LaneText → List Mark
lane_marks lane = filter_map (mark_at lane.0 lane.1) (enumerate_from 0 (node_of lane.1))

-- the marks of all lanes
abbrev pub marks_of : List LaneText → List Mark
marks_of lanes = flat_map lane_marks (enumerate_from 0 lanes)

-- ---- pins

-- a lane with its number, and the marks on the lanes before it and on itself
pub record NumberedLane : Type 0 where
  pub number : ℕ
  pub lane : LaneText
  pub first : ℕ
  pub count : ℕ

-- the lanes from a number on: the first has this number, and this many marks stand before it
abbrev pub numbered_from : ℕ → ℕ → List LaneText → List NumberedLane
numbered_from number first [] = []
numbered_from number first (lane ∷ lanes) =
    record { number = number; lane = lane; first = first; count = length (lane_marks (number, lane)) } ∷ numbered_from (number + 1) (first + length (lane_marks (number, lane))) lanes

abbrev pub numbered : List LaneText → List NumberedLane
numbered lanes = numbered_from 0 0 lanes

-- a pin is a lane with a name and at least one mark
abbrev pub pin_named : NumberedLane → Option (List ℕ) → Option Pin
pin_named l None = None
pin_named l (Some name) = if l.count == 0 then None else Some (record { lane = l.number; name = name; first = l.first; count = l.count })

abbrev pub pin_of : NumberedLane → Option Pin
pin_of l = pin_named l l.lane.name

abbrev pub pins_of : List LaneText → List Pin
pins_of lanes = filter_map pin_of (numbered lanes)

-- ---- the order on a lane

-- the target comes no earlier than the mark, which stands this many cycles before it
abbrev pub follows_rule : Origin → ℕ → ℕ → ℕ → RuleView
follows_rule origin from to shift =
    record { kind = Lin; target = to; causes = record { mark = from; shift = shift; range = record { low = Some (pos 0); high = None }; origin = origin } ∷ [] }

-- each mark and the next, and then the last mark and the first mark of the next cycle, even if the lane has only one mark
abbrev pub order_of : Origin → ℕ → ℕ → List RuleView
order_of origin first count =
    if count == 0 then []
    else map (λ k. follows_rule origin k (k + 1) 0) (range_with_len first (count - 1)) ++ follows_rule origin (first + count - 1) first 1 ∷ []

-- a lane with a name and a wave is in order, and draws the rules of its order
abbrev pub order_named : NumberedLane → Option (List ℕ) → Option (List ℕ) → List RuleView
order_named l (Some name) (Some wave) = order_of (Lane l.number) l.first l.count
order_named l name wave = []

abbrev pub lane_order : NumberedLane → List RuleView
lane_order l = order_named l l.lane.name l.lane.wave

abbrev pub order_rules : List LaneText → List RuleView
order_rules lanes = flat_map lane_order (numbered lanes)

-- ---- what occurs twice

-- the first element whose key an earlier element has
abbrev pub first_repeated : {X K : Type 0} → (K → K → Bool) → (X → K) → List K → List X → Option X
first_repeated same key before [] = None
first_repeated same key before (x ∷ xs) = if list_any (same (key x)) before then Some x else first_repeated same key (before ++ key x ∷ []) xs
