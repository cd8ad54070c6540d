-- Laws of the settings after edits: nothing of them is refused, and their network is the network
-- after the edits.
use Rattle.std.specs.Prelude.{ℕ, ◌≤◌, Bool, List, All, length}
use Rattle.std.specs.List.{AllZip}
use Rattle.arc_base.specs.declared.limits.TheConstants.{EDITED_ENTRY_LIMIT, EDIT_LIMIT}
use Rattle.net_model.specs.declared.policies.Document.{Document}
use Rattle.net_model.specs.declared.rows.Network.{Network}
use Rattle.net_model.specs.Forwarding.{HasEnds}
use Rattle.net_model.specs.Packets.{subject}
use Rattle.net_model.specs.Validity.{IsValid}
use Rattle.ios_config.specs.declared.settings.Config.{Config}
use Rattle.net_rules.specs.Limits.{RefusesEntries}
use Rattle.net_rules.specs.Reasons.{NoRefusal}
use Rattle.net_build.specs.Networks.{HasSettings, IsNetworkOf}
use Rattle.edit_list.specs.declared.edit_kinds.Edit.{Edit}
use Rattle.edit_list.specs.After.{IsAfter}
use Rattle.edit_list.specs.Determined.{IsCountable}
use Rattle.edit_list.specs.EditLists.{AreEdits}
use Rattle.edit_list.specs.Prices.{chosen_of}
use Rattle.settings_edit_laws.specs.Premises.{AreFitting, HasRoom, IsUntouched, IsWritable}
use Rattle.settings_edit_laws.specs.SettingsAfter.{AreSettingsAfter, AreAllSettingsAfter}

-- files that say the settings after fitting edits have a network, which is the network after the
-- edits
abbrev pub SettingsHaveTheNetwork : Type 0
SettingsHaveTheNetwork =
    (doc : Document) (files patched : List (List ℕ)) (net : Network)
    (was : IsNetworkOf doc files net) (chosen : List Edit) (new : List Config) (after : Network) →
    IsValid net → IsCountable net → AreFitting net chosen → HasRoom chosen was.configs →
    AllZip HasSettings patched new → AreAllSettingsAfter net chosen was.configs new →
    IsAfter net chosen after → IsNetworkOf doc patched after

-- the edits of a network for a document are fitting, where the policies go from one host network to
-- another
abbrev pub EditsAreFitting : Type 0
EditsAreFitting =
    (net : Network) (doc : Document) (list : List Edit) (flags : List Bool) → IsValid net →
    All (λ policy. HasEnds net (subject policy)) doc.policies → AreEdits net doc list →
    AreFitting net (chosen_of list flags)

-- files in which no list has more than EDITED_ENTRY_LIMIT entries have room for all edits, of which
-- there are EDIT_LIMIT at most
abbrev pub ShortListsHaveRoom : Type 0
ShortListsHaveRoom =
    (configs : List Config) (list : List Edit) (flags : List Bool) →
    NoRefusal (RefusesEntries EDITED_ENTRY_LIMIT configs) →
    length list ≤ EDIT_LIMIT → HasRoom (chosen_of list flags) configs

-- a file to which the edits add nothing has its own settings after them
abbrev pub UntouchedFilesStay : Type 0
UntouchedFilesStay =
    (net : Network) (chosen : List Edit) (router : ℕ) (config : Config) →
    IsUntouched net chosen router →
    AreSettingsAfter net chosen router config config

-- what a network has from files can be written in lines of files again
abbrev pub NetworksAreWritable : Type 0
NetworksAreWritable =
    (doc : Document) (files : List (List ℕ)) (net : Network) →
    IsNetworkOf doc files net → IsWritable net
