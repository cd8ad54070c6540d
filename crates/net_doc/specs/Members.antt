-- What a JSON value holds under a name, and in which form.
use Rattle.std.specs.Prelude.{ℕ, ◌&&◌, Bool, true, false, List, [], ◌∷◌, bytes_eq, Option, Some}
use Rattle.std.specs.Prelude.{None, option_map, option_and_then}
use Rattle.std.specs.List.{list_any}
use Rattle.serde_json.specs.Data.{Data, null, boolean, number, string, array, object, Items}
use Rattle.serde_json.specs.Data.{no_items, item, Members, no_members, member}
use Rattle.serde_json.specs.Find.{get, as_number, as_u64, as_str, as_array}

-- each member has one of these names
abbrev pub are_among : List (List ℕ) → Members → Bool
are_among names no_members = true
are_among names (member name value rest) =
    list_any (λ known. bytes_eq known name) names && are_among names rest

-- an object with no member but these
abbrev pub has_only : List (List ℕ) → Data → Bool
has_only names null = false
has_only names (boolean b) = false
has_only names (number n) = false
has_only names (string s) = false
has_only names (array items) = false
has_only names (object members) = are_among names members

-- the number under the name: digits alone, and below 2 ^ 64
abbrev pub number_under : List ℕ → Data → Option ℕ
number_under name d = option_and_then as_u64 (option_and_then as_number (get name d))

-- the text under the name
abbrev pub text_under : List ℕ → Data → Option (List ℕ)
text_under name d = option_and_then as_str (get name d)

-- the list under the name
abbrev pub list_under : List ℕ → Data → Option Items
list_under name d = option_and_then as_array (get name d)

-- what each item is, where each is something
abbrev pub all_of : {T : Type 0} → (Data → Option T) → Items → Option (List T)
all_of form no_items = Some []
all_of form (item d rest) =
    option_and_then (λ first. option_map (λ others. first ∷ others) (all_of form rest)) (form d)

-- what the value says where it is there, and else the default
abbrev pub or_default : {T : Type 0} → T → (Data → Option T) → Option Data → Option T
or_default default form None = Some default
or_default default form (Some d) = form d
