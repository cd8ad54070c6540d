-- Lists with entries more at their front.
use Rattle.std.specs.Prelude.{◌≡◌, ℕ, Option, Some, None, List, [], ◌∷◌, ◌++◌, map, if◌then◌else◌}
use Rattle.net_model.specs.declared.rows.Network.{Network}
use Rattle.ios_words.specs.declared.commands.Command.{Command}
use Rattle.ios_words.specs.declared.commands.Command.TheVariants.{ListBlock, ListLine, PrefixLine}
use Rattle.ios_config.specs.declared.commands.FileCommand.{FileCommand}
use Rattle.ios_config.specs.declared.settings.ListForm.{ListForm}
use Rattle.ios_config.specs.declared.settings.ListForm.TheVariants as forms
use Rattle.ios_config.specs.declared.settings.ListKind.{ListKind}
use Rattle.ios_config.specs.declared.settings.ListKind.TheVariants.{Extended, Standard, Prefix}
use Rattle.ios_config.specs.declared.settings.ListText.{ListText}
use Rattle.ios_config.specs.Texts.{kind_of_number, list_of, entries}
use Rattle.edit_list.specs.declared.edit_kinds.Edit.{Edit}
use Rattle.settings_edit_laws.specs.Additions.{front_lines}
use Rattle.settings_edit_laws.specs.Plain.{said, plain_entry, plain_list}
use Rattle.settings_edit_laws.specs.SettingsAfter.{list_with}

-- which list a command begins: its name, its kind and its form
abbrev pub list_begun : Command → Option (List ℕ × ListKind × ListForm)
list_begun (ListBlock extended name) =
    Some (name, if extended then Extended else Standard, forms.Block)
list_begun (ListLine name entry) = Some (name, kind_of_number name, forms.Lines)
list_begun (PrefixLine name number entry) = Some (name, Prefix, forms.PrefixLines)
list_begun _ = None

-- a list with the entries of the edits before its old ones is the list after the edits
abbrev pub ListsGrow : Type 0
ListsGrow =
    (net : Network) (chosen : List Edit) (router : ℕ)
    (first next : FileCommand) (old new : List FileCommand) (list : ListText) →
    map plain_list (list_of (first ∷ old)) ≡ list ∷ [] →
    list_begun next.command ≡ list_begun first.command →
    map plain_entry (entries (next ∷ new))
    ≡ map said (front_lines net chosen router list list.kind) ++
    map plain_entry (entries (first ∷ old)) →
    map plain_list (list_of (next ∷ new)) ≡ map (list_with net chosen router) (list ∷ [])
