-- The places of edits by their texts.
use Rattle.std.specs.Prelude.{◌≡◌, ℕ, ◌<◌, Option, List, IfSome, bytes_eq}
use denote.Ref.{Bor}
use Rattle.indexmap.specs.IndexMap.{get_by}
use Rattle.net_model.specs.declared.rows.Network.{Network}
use Rattle.edit_list.specs.declared.edit_kinds.Edit.{Edit}
use Rattle.policy_report.specs.Edits.{edit_of}
use Rattle.edit_reader.specs.declared.places.TextPlaces.{TextPlaces}

-- the place of the text, if it has one
abbrev pub place_of : TextPlaces → List ℕ → Option ℕ
place_of found text = get_by (λ (k : Bor (List ℕ)). bytes_eq text k.now) found.places

-- each text has the place of the first edit with it
abbrev pub FindsEdits : Network → List Edit → TextPlaces → Type 0
FindsEdits net edits found = (text : List ℕ) → place_of found text ≡ edit_of net edits text

-- each place is below the bound
abbrev pub AreBelow : ℕ → TextPlaces → Type 0
AreBelow bound found = (text : List ℕ) → IfSome (place_of found text) (λ place. place < bound)
