-- Laws of what edits add at the command lines of router files: so the files have the network after
-- the edits.
use Rattle.std.specs.Prelude.{◌≡◌, ℕ, Bool, Some, List, ◌++◌, All, slice_get}
use Rattle.std.specs.List.{AllByRecursion, flat_map}
use Rattle.net_model.specs.declared.policies.Document.{Document}
use Rattle.net_model.specs.declared.rows.Network.{Network}
use Rattle.net_model.specs.Forwarding.{HasEnds}
use Rattle.net_model.specs.Packets.{subject}
use Rattle.net_model.specs.Validity.{IsValid}
use Rattle.ios_lines.specs.declared.line.Lines.{Lines}
use Rattle.ios_lines.specs.Lines.{AreLinesOf}
use Rattle.ios_lines.specs.Texts.{text_lines}
use Rattle.ios_config.specs.declared.commands.FileCommand.{FileCommand}
use Rattle.ios_config.specs.declared.settings.Config.{Config}
use Rattle.ios_config.specs.LineLists.{AreCommandsIn}
use Rattle.ios_config.specs.Rising.{NumbersRise}
use Rattle.ios_config.specs.Texts.{config_of}
use Rattle.ios_config.specs.Twice.{StandOnce}
use Rattle.net_build.specs.declared.built.Built.{Built}
use Rattle.net_build.specs.declared.built.Places.{Places}
use Rattle.net_build.specs.Networks.{HasSettings, IsBuilt, IsNetworkOf}
use Rattle.net_build.specs.Places.{places_of}
use Rattle.edit_list.specs.declared.edit_kinds.Edit.{Edit}
use Rattle.edit_list.specs.After.{IsAfter}
use Rattle.edit_list.specs.Determined.{IsCountable}
use Rattle.edit_list.specs.EditLists.{AreEdits}
use Rattle.edit_list.specs.Prices.{chosen_of}
use Rattle.settings_edit_laws.specs.Premises.{HasRoom}
use Rattle.line_patcher.specs.Additions.{lines_before, lines_after, numbers_at}
use Rattle.line_patcher.specs.Patches.{ArePatched, line_end}
use Rattle.line_edit_laws.specs.Grown.{IsGrown, AreFreshParts}
use Rattle.line_edit_laws.specs.Sites.{AreGood, new_commands}
use Rattle.patch_laws.specs.EditFiles.{HaveListLines, IsEditedFile}
use Rattle.patch_laws.specs.EditSites.{added, grow, new_key, put}
use Rattle.patch_laws.specs.Files.{AreSited}
use Rattle.patch_laws.specs.Fits.{CanBePatched}
use Rattle.patch_laws.specs.Grown.{GrowAsEdited}
use Rattle.patch_laws.specs.Sites.{HaveSites}

-- the places of a file with these commands
abbrev pub own_places : List FileCommand → Places
own_places cs = places_of (config_of cs)

-- the rows of the file have what is added at its commands, and other rows have nothing
abbrev pub EditSitesAreThere : Type 0
EditSitesAreThere =
    (net : Network) (places : List Places) (chosen : List Edit) (router : ℕ) (text : List ℕ)
    (lines : Lines) (cs : List FileCommand) → IsEditedFile net places chosen router text lines cs →
    HaveSites text (line_end text lines.rows)
    (lines_before net (own_places cs) chosen router) (numbers_at net (own_places cs) chosen router)
    (lines_after net places (own_places cs) chosen router)
    (put net places (own_places cs) chosen router text lines (new_key lines)) 1 lines.rows cs

-- all that is added may be written in lines
abbrev pub EditedTextsCanBePatched : Type 0
EditedTextsCanBePatched =
    (net : Network) (places : List Places) (chosen : List Edit) (router : ℕ) (text : List ℕ)
    (lines : Lines) (cs : List FileCommand) → IsEditedFile net places chosen router text lines cs →
    CanBePatched text lines
    (lines_before net (own_places cs) chosen router) (numbers_at net (own_places cs) chosen router)
    (lines_after net places (own_places cs) chosen router)

-- what is added at the commands is good
abbrev pub EditSitesAreGood : Type 0
EditSitesAreGood =
    (net : Network) (places : List Places) (chosen : List Edit) (router : ℕ) (text : List ℕ)
    (lines : Lines) (cs : List FileCommand) → IsEditedFile net places chosen router text lines cs →
    AreGood cs (put net places (own_places cs) chosen router text lines (new_key lines))
    1 (text_lines text) cs

-- With what is added at them, the commands come before and after those of new lists. Each grows by
-- commands of its part, and the groups set what the edits make of them; nothing occurs twice, and
-- numbers rise.
pub record GrowByEdits (net : Network) (places : List Places) (chosen : List Edit) (router : ℕ)
    (text : List ℕ) (lines : Lines) (cs : List FileCommand) : Type 0 where
  pub front : List FileCommand
  pub back : List FileCommand
  pub parts : cs ≡ front ++ back
  pub grown :
      new_commands (put net places (own_places cs) chosen router text lines (new_key lines)) cs ≡
      flat_map (grow net places (own_places cs) chosen router text lines (new_key lines)) front ++
      (added net chosen router (new_key lines) ++
      flat_map (grow net places (own_places cs) chosen router text lines (new_key lines)) back)
  pub front_grown : AllByRecursion
      (IsGrown (grow net places (own_places cs) chosen router text lines (new_key lines))) front
  pub back_grown : AllByRecursion
      (IsGrown (grow net places (own_places cs) chosen router text lines (new_key lines))) back
  pub fresh : AreFreshParts (front ++ back) (added net chosen router (new_key lines))
  pub edited : GrowAsEdited net chosen
      router (grow net places (own_places cs) chosen router text lines (new_key lines)) front back
      (added net chosen router (new_key lines))
  pub once : StandOnce
      (new_commands (put net places (own_places cs) chosen router text lines (new_key lines)) cs)
  pub rising : NumbersRise (config_of
      (new_commands (put net places (own_places cs) chosen router text lines (new_key lines))
      cs)).lists

abbrev pub CommandsGrowByEdits : Type 0
CommandsGrowByEdits =
    (net : Network) (places : List Places) (chosen : List Edit) (router : ℕ) (text : List ℕ)
    (lines : Lines) (cs : List FileCommand) → IsEditedFile net places chosen router text lines cs →
    GrowByEdits net places chosen router text lines cs

-- the commands of lines have list lines as the language has them
abbrev pub CommandsHaveListLines : Type 0
CommandsHaveListLines =
    (text : List ℕ) (lines : Lines) (cs : List FileCommand) → AreLinesOf text lines →
    AreCommandsIn (text_lines text) cs → HaveListLines cs

-- each file of a network is one that the network's edits can be added to
abbrev pub EditedFilesAreFiles : Type 0
EditedFilesAreFiles =
    (doc : Document) (files : List (List ℕ)) (built : Built) (was : IsBuilt doc files built)
    (list : List Edit) (flags : List Bool) → IsValid built.net → IsCountable built.net →
    All (λ policy. HasEnds built.net (subject policy)) doc.policies → AreEdits built.net doc list →
    HasRoom (chosen_of list flags) was.network.configs →
    (router : ℕ) (config : Config) (text : List ℕ) (says : HasSettings text config)
    (lines : Lines) →
    slice_get was.network.configs router ≡ Some config →
    slice_get files router ≡ Some text → AreLinesOf text lines →
    IsEditedFile built.net built.places (chosen_of list flags) router text lines
    says.is_config.commands

-- so what edits add to the files are good sites,
abbrev pub EditedFilesAreSited : Type 0
EditedFilesAreSited =
    (doc : Document) (files : List (List ℕ)) (built : Built) (was : IsBuilt doc files built)
    (list : List Edit) (flags : List Bool) → IsValid built.net → IsCountable built.net →
    All (λ policy. HasEnds built.net (subject policy)) doc.policies → AreEdits built.net doc list →
    HasRoom (chosen_of list flags) was.network.configs →
    AreSited built (chosen_of list flags) files was.network.configs

-- and the patched files have the network after the edits
abbrev pub EditedFilesHaveTheNetwork : Type 0
EditedFilesHaveTheNetwork =
    (doc : Document) (files new : List (List ℕ)) (built : Built) (was : IsBuilt doc files built)
    (list : List Edit) (flags : List Bool) (after : Network) → IsValid built.net →
    IsCountable built.net → All (λ policy. HasEnds built.net (subject policy)) doc.policies →
    AreEdits built.net doc list → HasRoom (chosen_of list flags) was.network.configs →
    ArePatched built (chosen_of list flags) files new →
    IsAfter built.net (chosen_of list flags) after → IsNetworkOf doc new after
