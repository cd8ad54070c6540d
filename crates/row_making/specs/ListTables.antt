-- The tables from which the rows of lists are made: names, and lists by their names, held by
-- reference.
use Rattle.std.specs.Prelude.{◌≡◌, ℕ, ◌↔◌, ◌⊎◌, ◌&&◌, Bool, Option, Some, None, List, ◌++◌}
use Rattle.std.specs.Prelude.{Contains, option_map, bytes_eq, if◌then◌else◌}
use Rattle.std.specs.List.{filter_map}
use Rattle.std.specs.Cmp.Lexicographic.{slice_cmp}
use Rattle.std.specs.Ordering.{nat_cmp}
use Rattle.std.specs.BTreeMap.{BTreeMap, get_by}
use denote.Ref.{Bor}
use Rattle.ios_config.specs.declared.settings.ListText.{ListText}
use Rattle.net_rules.specs.Ordered.{AreInOrder}
use Rattle.arc_base.specs.NameForms.{IsNameBefore, texts_at}
use Rattle.net_rules.specs.Lists.{is_of_kind}

-- the names with this property were added to those that were there
abbrev pub Adds : (List ℕ → Type 0) → List (Bor (List ℕ)) → List (Bor (List ℕ)) → Type 0
Adds IsAdded old new =
    (name : List ℕ) → Contains (texts_at new) name ↔ (Contains (texts_at old) name ⊎ IsAdded name)

-- the list of this name in a map that holds lists by reference
abbrev pub list_at : BTreeMap (Bor (List ℕ)) (Bor ListText) → List ℕ → Option ListText
list_at lists name = option_map (λ l. l.now) (get_by (λ k. slice_cmp nat_cmp name k.now) lists)

-- the list, if it is of the kind and has this name
abbrev pub list_if : Bool → ListText → List ℕ → Option ListText
list_if packet list name =
    if bytes_eq list.name name && is_of_kind packet list then Some list else None

-- the rows of those names were added that are bound, in byte order
pub record AddsRows {X : Type 0} (IsBound : List ℕ → Type 0) (row_at : List ℕ → Option X)
    (old new : List X) : Type 0 where
  pub names : List (List ℕ)
  pub bound : AreInOrder IsNameBefore IsBound names
  pub added : new ≡ old ++ filter_map row_at names
