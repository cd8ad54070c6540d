-- Each file of a network is one that the network's edits can be put into; so the patched files have the network after the edits.
use Rattle.std.proofs.Common.{◌≡◌, ◌≢◌, ℕ, ◌+◌, true, Some, List, [], sym, ap, subst, ◌∙◌, arith, Contains}
use Rattle.std.specs.Prelude.{slice_get}
use Rattle.std.proofs.lemmas.List.Elements.{All-contains}
use Rattle.net_model.proofs.Readings.{item_at_place}
use Rattle.net_model.specs.declared.lists.PacketList.{PacketList}
use Rattle.net_model.specs.declared.lists.RouteList.{RouteList}
use Rattle.net_model.specs.declared.policies.Document.{Document}
use Rattle.net_model.specs.declared.rows.Network.{Network}
use Rattle.net_model.specs.Validity.{IsValid, IsValidRouteList}
use Rattle.ios_lines.specs.declared.line.Lines.{Lines}
use Rattle.ios_lines.specs.Lines.{AreLinesOf}
use Rattle.ios_lines.specs.Texts.{text_lines}
use Rattle.ios_config.specs.declared.commands.FileCommand.{FileCommand}
use Rattle.ios_config.specs.declared.settings.Config.{Config}
use Rattle.ios_config.specs.LineLists.{AreCommandsIn}
use Rattle.ios_config.specs.Rising.{NumbersRise}
use Rattle.ios_config.specs.Texts.{config_of}
use Rattle.ios_config.proofs.LineLists.{commands-of-lines}
use Rattle.net_build.specs.declared.built.Built.{Built}
use Rattle.net_build.specs.Networks.{HasSettings, IsBuilt}
use Rattle.net_rules.specs.Rows.{IsRouterRow}
use Rattle.edit_list.specs.declared.edit_kinds.Edit.{Edit}
use Rattle.edit_list.specs.Changes.{list_classes}
use Rattle.edit_list.specs.Determined.{IsCountable}
use Rattle.edit_list.specs.Prices.{chosen_of}
use Rattle.net_build.specs.Places.{places_of}
use Rattle.line_patcher.specs.Additions.{lines_after, lines_before, numbers_at}
use Rattle.settings_edit_laws.specs.Premises.{HasRoom}
use Rattle.settings_edit_laws.proofs.FittingEdits.{edits_fit}
use Rattle.arc_base.proofs.Zips.{AllZip-right}
use Rattle.settings_edit_laws.proofs.Writable.{network_written}
use Rattle.patch_laws.specs.EditFiles.{HaveListLines, IsEditedFile}
use Rattle.patch_laws.specs.EditSiteLaws.{CommandsHaveListLines, CommandsGrowByEdits, EditSitesAreGood, EditSitesAreThere, EditedFilesAreFiles, EditedFilesAreSited}
use Rattle.patch_laws.specs.EditSiteLaws.{EditedFilesHaveTheNetwork, EditedTextsCanBePatched, own_places}
use Rattle.patch_laws.specs.EditSites.{added, grow, new_key, put}
use Rattle.patch_laws.specs.Files.{AreSited, IsSited}
use Rattle.patch_laws.specs.Laws.{SessionFilesHaveTheNetwork}
use Rattle.patch_laws.proofs.EditClasses.{AreSaid, edits-said, no-classes, sessions-said}
use Rattle.patch_laws.proofs.EditInterfaces.{OneProcess, has-face, one-process}
use Rattle.patch_laws.proofs.EditHasLists.{edited-extended, has-packets, has-routes}
use Rattle.patch_laws.proofs.EditNewNames.{new-different, new-free, new-names}
use Rattle.patch_laws.proofs.FileJoin.{sited-files-have}
use Rattle.patch_laws.proofs.LinesExist.{no_orphans}

-- edits put entries into no packet lists but extended ones
abbrev AreInExtended : Network → List Edit → Type 0
AreInExtended net chosen = (id : ℕ) (row : PacketList) → slice_get net.packet_lists id ≡ Some row → list_classes chosen id ≢ [] → row.extended ≡ true

module _ (have_lines : CommandsHaveListLines) (doc : Document) (files : List (List ℕ)) (built : Built) (was : IsBuilt doc files built) (chosen : List Edit) (valid : IsValid built.net)
    (small : IsCountable built.net) (extended : AreInExtended built.net chosen)
    (said : AreSaid chosen) (room : HasRoom chosen was.network.configs) where
  abbrev net : Network
  net = built.net

  route-valid : (id : ℕ) (p : RouteList) → slice_get net.route_lists id ≡ Some p → IsValidRouteList net p
  route-valid id p at_p = All-contains (IsValidRouteList net) net.route_lists p valid.route_lists (item_at_place net.route_lists id p at_p)

  -- each file is one that the edits can be put into
  file-of : (router : ℕ) (config : Config) (text : List ℕ) (says : HasSettings text config) (lines : Lines) → slice_get was.network.configs router ≡ Some config → AreLinesOf text lines →
      IsEditedFile net built.places chosen router text lines says.is_config.commands
  file-of router config text says lines at_c are_lines =
      let cs : List FileCommand = says.is_config.commands in
      let set : config ≡ config_of cs = says.is_config.set in
      let stand : AreCommandsIn (text_lines text) cs = record {
        no_orphan = λ place. no_orphans (text_lines text) says.has_blocks.no_orphan (place + 1) place (omega arith);
        reads = (commands-of-lines text says.lines cs says.are_lines).0 says.is_config.read;
      } in
      let listed : HaveListLines cs = have_lines text lines cs are_lines stand in
      let at : slice_get was.network.configs router ≡ Some (config_of cs) = at_c ∙ ap (λ (c : Config). Some c) set in
      let process : OneProcess doc files built was router config at_c = one-process doc files built was router config at_c in
      let (row, at_row, is_row) = AllZip-right (IsRouterRow net.protocol) was.network.configs net.routers was.network.rows.base.routers router config at_c in
      record {
        valid = valid;
        writable = network_written doc files net was.network;
        fits = valid.protocol;
        are = are_lines;
        cut = record { no_orphan = says.has_blocks.no_orphan; no_open_banner = says.has_blocks.no_open_banner };
        stand = stand;
        tops = listed.tops;
        once = says.is_config.once;
        rising = subst (λ (c : Config). NumbersRise c.lists) set says.is_config.rising;
        process = process.process;
        one = ap (λ (c : Config). c.process) (sym set) ∙ process.one;
        runs = process.runs;
        names = new-names net valid small chosen router room.new said.new;
        different = new-different net valid small chosen router;
        free = λ named there l in_lists. new-free net valid small chosen router row config at_row is_row named there l (subst (λ (c : Config). Contains c.lists l) (sym set) in_lists);
        packets = λ id p at_p own some. has-packets cs listed router was.network.configs at p own
            ((was.network.rows.base.packet_lists.just p).0 (item_at_place net.packet_lists id p at_p)) (extended id p at_p some);
        routes = λ id p at_p own some. has-routes cs listed router was.network.configs at p own ((was.network.rows.base.route_lists.just p).0 (item_at_place net.route_lists id p at_p))
            (route-valid id p at_p).name;
        classes = said.lists;
        faces = λ face name there. has-face doc files built was router config at_c chosen valid small cs set face name there;
        room = λ l in_lists. room.old config (item_at_place was.network.configs router config at_c) l (subst (λ (c : Config). Contains c.lists l) (sym set) in_lists);
        few = room.new;
      }

  -- so what they put into the files are good sites
  sited-of : EditSitesAreThere → EditedTextsCanBePatched → EditSitesAreGood → CommandsGrowByEdits → AreSited built chosen files was.network.configs
  sited-of there can good grows router config text says lines at_c at_t are_lines =
      let cs : List FileCommand = says.is_config.commands in
      let set : config ≡ config_of cs = says.is_config.set in
      let file = file-of router config text says lines at_c are_lines in
      let g = grows net built.places chosen router text lines cs file in
      subst (λ (c : Config). IsSited net chosen router text lines cs (lines_before net (places_of c) chosen router) (numbers_at net (places_of c) chosen router)
      (lines_after net built.places (places_of c) chosen router)) (sym set) (record {
        put = put net built.places (own_places cs) chosen router text lines (new_key lines);
        can = can net built.places chosen router text lines cs file;
        have = there net built.places chosen router text lines cs file;
        good = good net built.places chosen router text lines cs file;
        front = g.front;
        back = g.back;
        added = added net chosen router (new_key lines);
        grow = grow net built.places (own_places cs) chosen router text lines (new_key lines);
        parts = g.parts;
        grown = g.grown;
        front_grown = g.front_grown;
        back_grown = g.back_grown;
        fresh = g.fresh;
        edited = g.edited;
        once = g.once;
        rising = g.rising;
      })

pub edited-files : CommandsHaveListLines → EditedFilesAreFiles
edited-files have_lines doc files built was list flags valid small ends are room router config text says lines at_c at_t are_lines =
    file-of have_lines doc files built was (chosen_of list flags) valid small (λ id row at some. edited-extended built.net id row at doc list flags are some)
    (edits-said built.net doc list flags are) room router config text says lines at_c are_lines

pub edited-sited : CommandsHaveListLines → EditSitesAreThere → EditedTextsCanBePatched → EditSitesAreGood → CommandsGrowByEdits → EditedFilesAreSited
edited-sited have_lines there can good grows doc files built was list flags valid small ends are room =
    sited-of have_lines doc files built was (chosen_of list flags) valid small (λ id row at some. edited-extended built.net id row at doc list flags are some)
    (edits-said built.net doc list flags are) room there can good grows

pub edited-network : EditedFilesAreSited → EditedFilesHaveTheNetwork
edited-network sited doc files new built was list flags after valid small ends are room patched is =
    sited-files-have doc files new built was (chosen_of list flags) after valid small (edits_fit built.net valid doc ends list flags are) room
    (sited doc files built was list flags valid small ends are room) patched is

pub session-network : CommandsHaveListLines → EditSitesAreThere → EditedTextsCanBePatched → EditSitesAreGood → CommandsGrowByEdits → SessionFilesHaveTheNetwork
session-network have_lines there can good grows doc files new built was chosen after valid small fits room only patched is =
    sited-files-have doc files new built was chosen after valid small fits room
    (sited-of have_lines doc files built was chosen valid small (λ id row at some. absurd (some (no-classes chosen only id))) (sessions-said chosen only) room there can good grows) patched is
