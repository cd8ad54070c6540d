-- Laws of router files after edits: their network is the network after the edits.
use Rattle.std.specs.Prelude.{◌≡◌, ℕ, ◌<◌, List, ◌++◌, map}
use Rattle.std.specs.List.{AllByRecursion, flat_map}
use Rattle.net_model.specs.declared.policies.Document.{Document}
use Rattle.net_model.specs.declared.rows.Network.{Network}
use Rattle.net_model.specs.Validity.{IsValid}
use Rattle.ios_lines.specs.declared.line.Lines.{Lines}
use Rattle.ios_lines.specs.Lines.{AreLinesOf}
use Rattle.ios_lines.specs.Texts.{text_lines}
use Rattle.ios_config.specs.declared.commands.FileCommand.{FileCommand}
use Rattle.ios_config.specs.Bare.{bare_config}
use Rattle.ios_config.specs.Texts.{config_of}
use Rattle.net_build.specs.declared.built.Built.{Built}
use Rattle.net_build.specs.Networks.{IsBuilt, IsNetworkOf}
use Rattle.edit_list.specs.declared.edit_kinds.Edit.{Edit}
use Rattle.edit_list.specs.After.{IsAfter}
use Rattle.edit_list.specs.Determined.{IsCountable}
use Rattle.settings_edit_laws.specs.Premises.{AreFitting, HasRoom}
use Rattle.settings_edit_laws.specs.SettingsAfter.{AreSettingsAfter}
use Rattle.line_patcher.specs.declared.additions.NewNumber.{NewNumber}
use Rattle.line_patcher.specs.Patches.{ArePatched, patched_text, line_end}
use Rattle.line_edit_laws.specs.Grown.{HasGrownGroups}
use Rattle.line_edit_laws.specs.Sites.{Site, new_lines, AreChunks, chunk_lines}
use Rattle.edit_list.specs.declared.list_kinds.NewList.{NewList}
use Rattle.line_patcher.specs.NewListLines.{new_list_commands}
use Rattle.line_patcher.specs.Written.{line_of}
use Rattle.patch_laws.specs.NewListSites.{IsNewName, AreClear, AreDifferent, list_chunks}
use Rattle.patch_laws.specs.NewListSites.{SetNewLists}
use Rattle.patch_laws.specs.Grown.{GrowAsEdited}
use Rattle.patch_laws.specs.Sessions.{AreSessions}
use Rattle.patch_laws.specs.Fits.{CanBePatched}
use Rattle.patch_laws.specs.Sites.{HaveSites}

-- files after edits that turn sessions alone have the network after these edits
abbrev pub SessionFilesHaveTheNetwork : Type 0
SessionFilesHaveTheNetwork =
    (doc : Document) (files new : List (List ℕ)) (built : Built) (was : IsBuilt doc files built)
    (chosen : List Edit) (after : Network) → IsValid built.net → IsCountable built.net →
    AreFitting built.net chosen → HasRoom chosen was.network.configs → AreSessions chosen →
    ArePatched built chosen files new → IsAfter built.net chosen after → IsNetworkOf doc new after

-- the lines of a patched text are those of the sites of its commands, if all that is added may be
-- written in lines
abbrev pub PatchedTextsHaveSites : Type 0
PatchedTextsHaveSites =
    (text : List ℕ) (lines : Lines) (before : List (ℕ × List ℕ)) (numbers : List (ℕ × NewNumber))
    (after : List (ℕ × List ℕ)) (put : FileCommand → Site) (commands : List FileCommand) →
    AreLinesOf text lines → CanBePatched text lines before numbers after →
    HaveSites text (line_end text lines.rows) before numbers after put 1 lines.rows commands →
    text_lines (patched_text text lines before numbers after)
    ≡ new_lines put 1 (text_lines text) commands

-- commands that grow as edits make them set the settings after the edits
abbrev pub GrownSettingsAreAfter : Type 0
GrownSettingsAreAfter =
    (net : Network) (chosen : List Edit) (router : ℕ) (grow : FileCommand → List FileCommand)
    (front back added all : List FileCommand) →
    HasGrownGroups grow front back added → GrowAsEdited net chosen router grow front back added →
    bare_config (config_of all)
    ≡ bare_config (config_of (flat_map grow front ++ (added ++ flat_map grow back))) →
    AreSettingsAfter net chosen router (config_of (front ++ back)) (config_of all)

-- the lines of new lists are allowed before a top line, and are these lists' lines
abbrev pub NewListsAreChunks : Type 0
NewListsAreChunks =
    (chosen : List Edit) (number key : ℕ) (later : List FileCommand)
    (named : List (NewList × List ℕ)) → AllByRecursion (IsNewName chosen) named → number < key →
    AreClear key later → AreChunks number later (list_chunks chosen key named)

abbrev pub NewListsHaveTheirLines : Type 0
NewListsHaveTheirLines =
    (chosen : List Edit) (key : ℕ) (named : List (NewList × List ℕ)) →
    flat_map chunk_lines (list_chunks chosen key named)
    ≡ map line_of (flat_map (λ l. new_list_commands chosen l.0 l.1) named)

-- and they set these lists
abbrev pub NewListsSetThemselves : Type 0
NewListsSetThemselves =
    (chosen : List Edit) (key : ℕ) (named : List (NewList × List ℕ)) → AreDifferent named →
    SetNewLists chosen key named
