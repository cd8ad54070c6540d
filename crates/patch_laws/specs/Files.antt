-- Patched files whose lines are sites of their commands, and the network of all of them.
use Rattle.std.specs.Prelude.{◌≡◌, ℕ, Some, List, ◌++◌, length, slice_get}
use Rattle.std.specs.List.{AllByRecursion, flat_map}
use Rattle.net_model.specs.declared.policies.Document.{Document}
use Rattle.net_model.specs.declared.rows.Network.{Network}
use Rattle.net_model.specs.Validity.{IsValid}
use Rattle.ios_lines.specs.declared.line.Lines.{Lines}
use Rattle.ios_lines.specs.Lines.{AreLinesOf}
use Rattle.ios_lines.specs.Texts.{text_lines}
use Rattle.ios_config.specs.declared.commands.FileCommand.{FileCommand}
use Rattle.ios_config.specs.declared.settings.Config.{Config}
use Rattle.ios_config.specs.Rising.{NumbersRise}
use Rattle.ios_config.specs.Texts.{config_of}
use Rattle.ios_config.specs.Twice.{StandOnce}
use Rattle.net_build.specs.declared.built.Built.{Built}
use Rattle.net_build.specs.Networks.{HasSettings, IsBuilt, IsNetworkOf}
use Rattle.net_build.specs.Places.{places_of}
use Rattle.edit_list.specs.declared.edit_kinds.Edit.{Edit}
use Rattle.edit_list.specs.After.{IsAfter}
use Rattle.edit_list.specs.Determined.{IsCountable}
use Rattle.settings_edit_laws.specs.Premises.{AreFitting, HasRoom}
use Rattle.settings_edit_laws.specs.SettingsAfter.{AreSettingsAfter}
use Rattle.line_patcher.specs.declared.additions.NewNumber.{NewNumber}
use Rattle.line_patcher.specs.Additions.{lines_before, lines_after, numbers_at}
use Rattle.line_patcher.specs.Patches.{ArePatched, patched_text, line_end}
use Rattle.line_edit_laws.specs.Grown.{IsGrown, AreFreshParts}
use Rattle.line_edit_laws.specs.Sites.{Site, AreGood, new_commands}
use Rattle.patch_laws.specs.Fits.{CanBePatched}
use Rattle.patch_laws.specs.Grown.{GrowAsEdited}
use Rattle.patch_laws.specs.Sites.{HaveSites}

-- What is added to the text are good sites of these commands. With them the commands grow as the
-- edits make them: nothing occurs twice, and numbers rise.
pub record IsSited (net : Network) (chosen : List Edit) (router : ℕ) (text : List ℕ) (lines : Lines)
    (cs : List FileCommand) (before : List (ℕ × List ℕ)) (numbers : List (ℕ × NewNumber))
    (after : List (ℕ × List ℕ)) : Type 0 where
  pub put : FileCommand → Site
  pub can : CanBePatched text lines before numbers after
  pub have : HaveSites text (line_end text lines.rows) before numbers after put 1 lines.rows cs
  pub good : AreGood cs put 1 (text_lines text) cs
  pub front : List FileCommand
  pub back : List FileCommand
  pub added : List FileCommand
  pub grow : FileCommand → List FileCommand
  pub parts : cs ≡ front ++ back
  pub grown : new_commands put cs ≡ flat_map grow front ++ (added ++ flat_map grow back)
  pub front_grown : AllByRecursion (IsGrown grow) front
  pub back_grown : AllByRecursion (IsGrown grow) back
  pub fresh : AreFreshParts (front ++ back) added
  pub edited : GrowAsEdited net chosen router grow front back added
  pub once : StandOnce (new_commands put cs)
  pub rising : NumbersRise (config_of (new_commands put cs)).lists

-- the text is a router file with the settings after the edits
pub record IsFileAfter (net : Network) (chosen : List Edit) (router : ℕ) (config : Config)
    (new : List ℕ) : Type 0 where
  pub now : Config
  pub says : HasSettings new now
  pub after : AreSettingsAfter net chosen router config now

-- a patched file whose lines are good sites has the settings after the edits
abbrev pub SitedFilesAreAfter : Type 0
SitedFilesAreAfter =
    (net : Network) (chosen : List Edit) (router : ℕ) (text new : List ℕ) (config : Config)
    (says : HasSettings text config) (lines : Lines) (before : List (ℕ × List ℕ))
    (numbers : List (ℕ × NewNumber)) (after : List (ℕ × List ℕ)) →
    AreLinesOf text lines → new ≡ patched_text text lines before numbers after →
    IsSited net chosen router text lines says.is_config.commands before numbers after →
    IsFileAfter net chosen router config new

-- files that each have the settings after the edits have the network after the edits
abbrev pub FilesHaveTheNetwork : Type 0
FilesHaveTheNetwork =
    (doc : Document) (files new : List (List ℕ)) (net : Network) (was : IsNetworkOf doc files net)
    (chosen : List Edit) (after : Network) → IsValid net → IsCountable net → AreFitting net chosen →
    HasRoom chosen was.configs → length new ≡ length was.configs →
    ((router : ℕ) (config : Config) (text : List ℕ) → slice_get was.configs router ≡ Some config →
    slice_get new router ≡ Some text → IsFileAfter net chosen router config text) →
    IsAfter net chosen after → IsNetworkOf doc new after

-- what the edits add to each file are good sites of its commands
abbrev pub AreSited : (built : Built) → List Edit → List (List ℕ) → List Config → Type 0
AreSited built chosen files configs =
    (router : ℕ) (config : Config) (text : List ℕ) (says : HasSettings text config)
    (lines : Lines) →
    slice_get configs router ≡ Some config →
    slice_get files router ≡ Some text → AreLinesOf text lines →
    IsSited built.net chosen router text lines says.is_config.commands
    (lines_before built.net (places_of config) chosen router)
    (numbers_at built.net (places_of config) chosen router)
    (lines_after built.net built.places (places_of config) chosen router)

-- patched files whose lines are good sites have the network after the edits
abbrev pub SitedFilesHaveTheNetwork : Type 0
SitedFilesHaveTheNetwork =
    (doc : Document) (files new : List (List ℕ)) (built : Built) (was : IsBuilt doc files built)
    (chosen : List Edit) (after : Network) → IsValid built.net → IsCountable built.net →
    AreFitting built.net chosen → HasRoom chosen was.network.configs →
    AreSited built chosen files was.network.configs → ArePatched built chosen files new →
    IsAfter built.net chosen after → IsNetworkOf doc new after
