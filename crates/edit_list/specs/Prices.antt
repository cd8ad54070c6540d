-- The edits that are chosen, and their price.
use Rattle.std.specs.Prelude.{ℕ, Bool, false, Option, Some, None, List, map, sum_by, if◌then◌else◌}
use Rattle.std.specs.List.{filter_map, zip}
use Rattle.net_model.specs.declared.policies.Document.{Document}
use Rattle.net_model.specs.declared.policies.Weights.{Weights}
use Rattle.edit_list.specs.declared.edit_kinds.Edit.{Edit}
use Rattle.edit_list.specs.declared.edit_kinds.Edit.TheVariants as edits

-- the edit, if its flag says that it is chosen
abbrev pub if_chosen : Edit × Bool → Option Edit
if_chosen flagged = if flagged.1 then Some flagged.0 else None

-- the edits that the flags choose, in their order
abbrev pub chosen_of : List Edit → List Bool → List Edit
chosen_of list flags = filter_map if_chosen (zip list flags)

-- what the edit costs
abbrev pub weight : Weights → Edit → ℕ
weight weights (edits.Session face) = weights.session
weight weights (edits.RouteList list prefix) = weights.filter
weight weights (edits.RouteNew face prefix) = weights.filter
weight weights (edits.PacketList list class) = weights.list
weight weights (edits.PacketNew face class) = weights.list

-- what the edit costs if its flag says that it is chosen
abbrev pub cost_of : Weights → Edit × Bool → ℕ
cost_of weights flagged = if flagged.1 then weight weights flagged.0 else 0

-- the price of edits: what they cost together
abbrev pub price_of : Weights → List Edit → ℕ
price_of weights list = sum_by (weight weights) list

-- the price of the edits that the flags choose
abbrev pub price_of_flags : Document → List Edit → List Bool → ℕ
price_of_flags doc list flags = price_of doc.weights (chosen_of list flags)

-- the flags that choose none of the edits
abbrev pub none_of : List Edit → List Bool
none_of list = map (λ edit. false) list
