-- Which edit turns an answer of the network, and the condition that this makes of the answer.
use Rattle.std.specs.Prelude.{ℕ, ◌&&◌, nat_eq, Bool, true, false, Option, Some, None, List}
use Rattle.std.specs.Prelude.{position}
use Rattle.condition_formula.specs.declared.condition.Condition.{Condition}
use Rattle.condition_formula.specs.declared.condition.Condition.TheVariants.{Always, Never, If}
use Rattle.condition_formula.specs.declared.condition.Condition.TheVariants.{Unless}
use Rattle.net_model.specs.declared.policies.Class.{Class}
use Rattle.edit_list.specs.declared.edit_kinds.Edit.{Edit}
use Rattle.edit_list.specs.declared.edit_kinds.Edit.TheVariants as edits

-- the numbers that make an edit: its kind, the place where it acts, and of its entry the prefix, or
-- the two prefixes and the range of services
abbrev pub NumbersOfEdit : Type 0
NumbersOfEdit = ℕ × ℕ × ℕ × ℕ × ℕ × ℕ × ℕ × ℕ

-- those of an edit of this kind that acts at this place, with an entry for the class
abbrev pub packet_key : ℕ → ℕ → Class → NumbersOfEdit
packet_key kind place class = (
  kind,
  place,
  class.from.addr,
  class.from.len,
  class.to.addr,
  class.to.len,
  class.service.low,
  class.service.high,
)

-- the numbers of the edit
abbrev pub key_of : Edit → NumbersOfEdit
key_of (edits.Session face) = (0, face.0, 0, 0, 0, 0, 0, 0)
key_of (edits.RouteList list to) = (1, list.0, to.addr, to.len, 0, 0, 0, 0)
key_of (edits.RouteNew face to) = (2, face.0, to.addr, to.len, 0, 0, 0, 0)
key_of (edits.PacketList list class) = packet_key 3 list.0 class
key_of (edits.PacketNew face class) = packet_key 4 face.0 class

-- whether the eight numbers of the one are those of the other
abbrev pub same_edit_key : NumbersOfEdit → NumbersOfEdit → Bool
same_edit_key k l =
    ((((((nat_eq k.0 l.0 && nat_eq k.1 l.1) && nat_eq k.2 l.2) && nat_eq k.3 l.3) &&
    nat_eq k.4 l.4) && nat_eq k.5 l.5) && nat_eq k.6 l.6) && nat_eq k.7 l.7

-- whether the two edits are the same
abbrev pub is_same_edit : Edit → Edit → Bool
is_same_edit e f = same_edit_key (key_of e) (key_of f)

-- the place of the edit in the list of edits, if it is there
abbrev pub place_of : List Edit → Edit → Option ℕ
place_of list edit = position (is_same_edit edit) list

-- the condition that holds as the answer says, and the other way round where the edit at this place
-- is chosen
abbrev pub condition_at : Bool → Option ℕ → Condition
condition_at true None = Always
condition_at false None = Never
condition_at true (Some place) = Unless place
condition_at false (Some place) = If place

-- the condition for an answer that this edit turns, if it is one of the edits
abbrev pub turned : List Edit → Edit → Bool → Condition
turned list edit answer = condition_at answer (place_of list edit)
