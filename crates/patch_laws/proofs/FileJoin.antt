-- Patched files whose lines are good sites have the settings after the edits, and their network is the network after the edits.
use Rattle.std.proofs.Common.{◌≡◌, ℕ, zero, suc, ◌+◌, Some, List, [], ◌∷◌, ◌++◌, length, refl, sym, ap, subst, ◌∙◌, arith}
use Rattle.std.specs.Prelude.{slice_get}
use Rattle.std.specs.List.{AllZip, flat_map}
use Rattle.std.proofs.lemmas.Option.{none-some, same_Some}
use Rattle.net_model.specs.declared.rows.Network.{Network}
use Rattle.ios_lines.specs.Blocks.{IsOrphan}
use Rattle.ios_lines.specs.Kinds.{open_banner}
use Rattle.ios_lines.specs.Lines.{HasOrphanAt}
use Rattle.ios_lines.specs.Texts.{text_lines}
use Rattle.ios_lines.proofs.Orphans.{no-first, no-banner-at, no-banner-left}
use Rattle.ios_config.specs.declared.commands.FileCommand.{FileCommand}
use Rattle.ios_config.specs.declared.settings.Config.{Config}
use Rattle.ios_config.specs.Bare.{bare_config}
use Rattle.ios_config.specs.Inserted.{AreMarksRead}
use Rattle.ios_config.specs.LineLists.{marks_in, AreCommandsIn}
use Rattle.ios_config.specs.Texts.{config_of}
use Rattle.ios_config.proofs.LineLists.{commands-of-lines}
use Rattle.net_build.specs.Networks.{HasSettings}
use Rattle.edit_list.specs.declared.edit_kinds.Edit.{Edit}
use Rattle.edit_space.proofs.SomeNames.{after_is_valid}
use Rattle.settings_edit_laws.specs.SettingsAfter.{AreSettingsAfter}
use Rattle.settings_edit_laws.proofs.Joined.{network_is_after}
use Rattle.settings_edit_laws.proofs.Pairs.{zip_length}
use Rattle.arc_base.proofs.Zips.{AllZip-left}
use Rattle.line_edit_laws.specs.Sites.{new_lines, new_commands}
use Rattle.line_edit_laws.proofs.Chain.{edited-lines}
use Rattle.line_edit_laws.proofs.Grown.{has-grown}
use Rattle.patch_laws.specs.Files.{IsFileAfter, SitedFilesAreAfter, FilesHaveTheNetwork, SitedFilesHaveTheNetwork}
use Rattle.patch_laws.proofs.GrownSettings.{grown-settings}
use Rattle.patch_laws.proofs.LinesExist.{lines-exist, no_orphans}
use Rattle.patch_laws.proofs.PatchedSites.{patched-sites}
use Rattle.patch_laws.proofs.SessionFiles.{file-facts}
use Rattle.patch_laws.proofs.SessionReads.{rising_stays}

pub sited-files-after : SitedFilesAreAfter
sited-files-after net chosen router text new config says lines before numbers after are is site =
    let cs : List FileCommand = says.is_config.commands in
    let in_lines : AreCommandsIn (text_lines text) cs = record {
      no_orphan = λ place. no_orphans (text_lines text) says.has_blocks.no_orphan (place + 1) place (omega arith);
      reads = (commands-of-lines text says.lines cs says.are_lines).0 says.is_config.read;
    } in
    let s = edited-lines (text_lines text) cs site.put in_lines (no-banner-left text says.has_blocks.no_open_banner) site.good in
    let same : text_lines new ≡ new_lines site.put 1 (text_lines text) cs = ap text_lines is ∙ patched-sites text lines before numbers after site.put cs are site.can site.have in
    let no_orphan : (number : ℕ) → ¬ HasOrphanAt new number = no-first new (λ place orphan. s.are.no_orphan place (subst (λ (ls : List (List ℕ)). IsOrphan ls place) same orphan)) in
    let now = lines-exist new no_orphan in
    let sets : config_of cs ≡ config_of (site.front ++ site.back) = ap config_of site.parts in
    let set : bare_config (config_of s.all) ≡ bare_config (config_of (flat_map site.grow site.front ++ (site.added ++ flat_map site.grow site.back))) =
    s.set ∙ ap (λ (vs : List FileCommand). bare_config (config_of vs)) site.grown in
    record {
      now = config_of s.all;
      says = record {
        has_blocks = record { no_orphan = no_orphan; no_open_banner = no-banner-at new (ap open_banner same ∙ s.outside) };
        lines = now.lines;
        are_lines = now.are;
        is_config = record {
          commands = s.all;
          read = (commands-of-lines new now.lines s.all now.are).1 (subst (λ (ls : List (List ℕ)). AreMarksRead (marks_in ls) s.all) (sym same) s.are.reads);
          once = s.once site.once;
          rising = rising_stays (config_of (new_commands site.put cs)).lists (config_of s.all).lists (ap (λ (c : Config). c.lists) s.set) site.rising;
          set = refl;
        };
      };
      after = subst (λ (c : Config). AreSettingsAfter net chosen router c (config_of s.all)) (sym (says.is_config.set ∙ sets))
          (grown-settings net chosen router site.grow site.front site.back site.added
          (has-grown site.grow site.front site.back site.added site.front_grown site.back_grown site.fresh) site.edited s.all set);
    }

module _ (net : Network) (chosen : List Edit) where
  record AllAfter (start : ℕ) (cs : List Config) (news : List (List ℕ)) : Type 0 where
    ds : List Config
    whole : length ds ≡ length cs
    said : AllZip HasSettings news ds
    each : (k : ℕ) (c d : Config) → slice_get cs k ≡ Some c → slice_get ds k ≡ Some d → AreSettingsAfter net chosen (start + k) c d

  collect : (start : ℕ) (cs : List Config) (news : List (List ℕ)) → length news ≡ length cs →
      ((k : ℕ) (c : Config) (new : List ℕ) → slice_get cs k ≡ Some c → slice_get news k ≡ Some new → IsFileAfter net chosen (start + k) c new) → AllAfter start cs news
  collect start [] [] e f = record { ds = []; whole = refl; said = tt; each = λ k c d at. absurd (none-some c at) }
  collect start [] (n ∷ ns) e f = absurd (omega (arith, e))
  collect start (c ∷ cs) [] e f = absurd (omega (arith, e))
  collect start (c ∷ cs) (n ∷ ns) e f =
      let one = f zero c n refl refl in
      let place : start + 0 ≡ start = omega arith in
      join one (subst (λ (r : ℕ). AreSettingsAfter net chosen r c one.now) place one.after)
      (collect (start + 1) cs ns (omega (arith, e)) (λ k d new at_d at_new.
      let next : start + suc k ≡ start + 1 + k = omega arith in
      subst (λ (r : ℕ). IsFileAfter net chosen r d new) next (f (suc k) d new at_d at_new)))
    where
      join : (one : IsFileAfter net chosen (start + 0) c n) → AreSettingsAfter net chosen start c one.now → AllAfter (start + 1) cs ns → AllAfter start (c ∷ cs) (n ∷ ns)
      join one first rest = record { ds = one.now ∷ rest.ds; whole = ap suc rest.whole; said = (one.says, rest.said); each = each }
        where
          each : (k : ℕ) (x d : Config) → slice_get (c ∷ cs) k ≡ Some x → slice_get (one.now ∷ rest.ds) k ≡ Some d → AreSettingsAfter net chosen (start + k) x d
          each zero x d at_x at_d =
              let place : start ≡ start + 0 = omega arith in
              subst (λ (r : ℕ). AreSettingsAfter net chosen r x d) place
              (subst (λ (y : Config). AreSettingsAfter net chosen start x y) (same_Some one.now d at_d)
              (subst (λ (y : Config). AreSettingsAfter net chosen start y one.now) (same_Some c x at_x) first))
          each (suc k) x d at_x at_d = let place : start + 1 + k ≡ start + suc k = omega arith in subst (λ (r : ℕ). AreSettingsAfter net chosen r x d) place (rest.each k x d at_x at_d)

pub files-have-network : FilesHaveTheNetwork
files-have-network doc files new net was chosen after valid countable fits room count each is =
    let all : AllAfter net chosen 0 was.configs new = collect net chosen 0 was.configs new count (λ k c text at_c at_new.
    let place : k ≡ 0 + k = omega arith in
    subst (λ (r : ℕ). IsFileAfter net chosen r c text) place (each k c text at_c at_new)) in
    network_is_after doc files new net was chosen all.ds after valid countable fits room all.said
    (record { whole = all.whole; each = λ k c d at_c at_d. (let place : 0 + k ≡ k = omega arith in subst (λ (r : ℕ). AreSettingsAfter net chosen r c d) place (all.each k c d at_c at_d)) }) is
    (after_is_valid net valid countable chosen after is)

pub sited-files-have : SitedFilesHaveTheNetwork
sited-files-have doc files new built was chosen after valid countable fits room sited patched is =
    files-have-network doc files new built.net was.network chosen after valid countable fits room (patched.whole ∙ sym (zip_length HasSettings files was.network.configs was.network.said))
    (λ router config text at_c at_new.
    let (old, at_old, says) = AllZip-left HasSettings files was.network.configs was.network.said router config at_c in
    let facts = file-facts doc files new built was chosen patched router config old text at_c at_old at_new in
    sited-files-after built.net chosen router old text config says facts.lines _ _ _ facts.are facts.is (sited router config old says facts.lines at_c at_old facts.are))
    is
