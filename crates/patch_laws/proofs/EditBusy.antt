-- Whatever edits put into a file stands at a line of one of its commands.
use Rattle.std.proofs.Common.{◌≡◌, ◌≢◌, ℕ, suc, ◌+◌, ◌*◌, Bool, true, false, if◌then◌else◌, Some, List, [], ◌∷◌, length, map, refl, sym, ap, subst, ◌∙◌, ◌⊎◌, inl, inr, ⊎_elim, Contains, arith}
use Rattle.std.specs.Prelude.{slice_get, option_map, unwrap_or}
use Rattle.std.specs.List.{flat_map, enumerate_from}
use Rattle.std.proofs.lemmas.Option.{none-some, same_Some}
use Rattle.std.proofs.lemmas.List.Elements.{Contains-append_cases}
use Rattle.arc_base.proofs.Items.{Contains-cases, Contains-none, Contains-head, from_map, from_piece}
use Rattle.net_model.proofs.Readings.{item_at_place}
use Rattle.net_model.specs.declared.lists.PacketList.{PacketList}
use Rattle.net_model.specs.declared.lists.RouteList.{RouteList}
use Rattle.net_model.specs.declared.rows.Network.{Network}
use Rattle.ios_lines.specs.declared.line.Lines.{Lines}
use Rattle.ios_lines.specs.Texts.{text_lines}
use Rattle.ios_words.specs.declared.commands.Command.{Command}
use Rattle.ios_words.specs.declared.commands.Command.TheVariants as commands
use Rattle.ios_config.specs.declared.commands.FileCommand.{FileCommand}
use Rattle.ios_config.specs.declared.settings.Given.{Given}
use Rattle.ios_config.specs.declared.settings.ListText.{ListText}
use Rattle.ios_config.specs.declared.settings.ProcessText.{ProcessText}
use Rattle.ios_config.specs.ProcessLines.{HasProcess}
use Rattle.ios_config.specs.Texts.{config_of}
use Rattle.ios_config.proofs.ProcessBlocks.{process-blocks}
use Rattle.arc_base.specs.declared.place.Face.{Face}
use Rattle.net_build.specs.declared.built.FacePlace.{FacePlace}
use Rattle.net_build.specs.declared.built.ListPlace.{ListPlace}
use Rattle.net_build.specs.declared.built.Places.{Places}
use Rattle.net_build.specs.Places.{list_place}
use Rattle.edit_list.specs.declared.edit_kinds.Edit.{Edit}
use Rattle.edit_list.specs.declared.list_kinds.NewList.{NewList}
use Rattle.edit_list.specs.declared.list_kinds.NewList.TheVariants.{Route, Packet}
use Rattle.edit_list.specs.Changes.{list_prefixes, list_classes}
use Rattle.edit_list.proofs.NewListFacts.{picked_from}
use Rattle.line_patcher.specs.declared.additions.NewNumber.{NewNumber}
use Rattle.line_patcher.specs.Additions.{all_at, commands_after, numbers_at, process_commands}
use Rattle.line_patcher.specs.EntryLines.{first_line, new_number, new_numbers, edited_packet_lists, edited_route_lists, packet_list_numbers, route_list_numbers}
use Rattle.line_patcher.specs.NewListLines.{face_places, group_command, group_commands}
use Rattle.edit_list.specs.NewLists.{named_lists}
use Rattle.patch_laws.specs.EditFiles.{HasFace, HasPacketList, HasRouteList, IsEditedFile}
use Rattle.patch_laws.specs.EditSiteLaws.{own_places}
use Rattle.patch_laws.specs.FaceBlocks.{HasFaceBlock}
use Rattle.patch_laws.proofs.EditLists.{list-group, entry-command, first-entry, edited-packets, edited-routes, packets-have, routes-have}
use Rattle.patch_laws.proofs.EditRows.{mapped-at}
use Rattle.patch_laws.proofs.FaceBlocks.{face-blocks}

-- one of the commands stands at this line
pub record AtCommand (cs : List FileCommand) (number : ℕ) : Type 0 where
  pub command : FileCommand
  pub among : Contains cs command
  pub line : number ≡ command.line

-- the lines of a list's entries are those of commands
pub first-command : (cs : List FileCommand) (list : ListText) → Contains (config_of cs).lists list → list.entries ≢ [] → AtCommand cs (first_line (list_place list))
first-command cs list there some =
    let f = first-entry list some in
    let c = entry-command cs list (list-group cs list there) f.first (subst (λ (es : List (Given Command)). Contains es f.first) (sym f.is) (Contains-head f.first f.more)) in
    record { command = c.command; among = c.among; line = f.line ∙ sym c.line }

-- where an entry with its place is
pub at-enumerated : {X : Type 0} (n : ℕ) (xs : List X) (item : ℕ × X) → Contains (enumerate_from n xs) item → (k : ℕ) × (item.0 ≡ n + k) × (slice_get xs k ≡ Some item.1)
at-enumerated n [] item there = absurd (Contains-none item there)
at-enumerated n (x ∷ xs) item there = ⊎_elim
    (λ same. (0, ap (λ p. p.0) (sym same) ∙ omega arith, ap (λ p. Some (p.1)) same))
    (λ more. let (k, number, at) = at-enumerated (n + 1) xs item more in (suc k, number ∙ omega arith, at))
    (Contains-cases (n, x) item (enumerate_from (n + 1) xs) there)

-- a new number of a list's entry
pub record NumberAt (list : ListText) (word step count : ℕ) (item : ℕ × NewNumber) : Type 0 where
  pub numbered : list.numbered ≡ true
  pub place : ℕ
  pub entry : Given Command
  pub at : slice_get list.entries place ≡ Some entry
  pub line : item.0 ≡ entry.line
  pub new : item.1 ≡ record { word = word; number = step * (count + (1 + place)) }

pub number-at : (list : ListText) (word step count : ℕ) (item : ℕ × NewNumber) → Contains (new_numbers (list_place list) word step count) item → NumberAt list word step count item
number-at list word step count item among = by list.numbered refl among
  where
    by : (b : Bool) → list.numbered ≡ b → Contains (if b then map (new_number word step count) (enumerate_from 1 (map (λ (g : Given Command). g.line) list.entries)) else []) item →
        NumberAt list word step count item
    by false e has = absurd (Contains-none item has)
    by true e has =
        let (entry, in_places, is) = from_map (new_number word step count) (enumerate_from 1 (map (λ (g : Given Command). g.line) list.entries)) item has in
        let (k, number, at) = at-enumerated 1 (map (λ (g : Given Command). g.line) list.entries) entry in_places in
        let (g, here, line) = mapped-at (λ (x : Given Command). x.line) list.entries k entry.1 at in
        record {
          numbered = e;
          place = k;
          entry = g;
          at = here;
          line = ap (λ (p : ℕ × NewNumber). p.0) (sym is) ∙ sym line;
          new = ap (λ (p : ℕ × NewNumber). p.1) (sym is) ∙ (λ i. record { word = word; number = step * (count + number i) });
        }

-- a new number is that of an entry of a list with numbers
pub record NumberItem (cs : List FileCommand) (item : ℕ × NewNumber) : Type 0 where
  pub list : ListText
  pub among : Contains (config_of cs).lists list
  pub numbered : list.numbered ≡ true
  pub entry : Given Command
  pub has : Contains list.entries entry
  pub line : item.0 ≡ entry.line

numbered-entry : (cs : List FileCommand) (list : ListText) → Contains (config_of cs).lists list → (word step count : ℕ) (item : ℕ × NewNumber) →
    Contains (new_numbers (list_place list) word step count) item → NumberItem cs item
numbered-entry cs list there word step count item among =
    let n = number-at list word step count item among in
    record { list = list; among = there; numbered = n.numbered; entry = n.entry; has = item_at_place list.entries n.place n.entry n.at; line = n.line }

-- things that all stand at one number
pub at-one : {X Y : Type 0} (number : ℕ) (f : X → Y) (xs : List X) (item : ℕ × Y) → Contains (map (λ (x : X). (number, f x)) xs) item → item.0 ≡ number
at-one {X} {Y} number f xs item there = let (x, among, is) = from_map (λ (x : X). (number, f x)) xs item there in ap (λ (p : ℕ × Y). p.0) (sym is)

module _ (net : Network) (places : List Places) (chosen : List Edit) (router : ℕ) (text : List ℕ) (lines : Lines) (cs : List FileCommand)
    (file : IsEditedFile net places chosen router text lines cs) where
  abbrev own : Places
  own = own_places cs

  -- the process of the file among its commands
  pub process-here : HasProcess cs file.process
  process-here = process-blocks (text_lines text) cs file.process file.stand (subst (λ (ps : List ProcessText). Contains ps file.process) (sym file.one) (Contains-head file.process []))

  pub process-line : own.process ≡ process-here.head.line
  process-line = ap (λ (ps : List ProcessText). unwrap_or (option_map (λ (p : ProcessText). p.head) (slice_get ps 0)) 0) file.one ∙ process-here.head_line

  pub last-line : own.process_last ≡ process-here.last.line
  last-line = ap (λ (ps : List ProcessText). unwrap_or (option_map (λ (p : ProcessText). p.last) (slice_get ps 0)) 0) file.one ∙ process-here.last_line

  pub packets-of : (id : ℕ) → Contains (edited_packet_lists net chosen router) id → (row : PacketList) × (slice_get net.packet_lists id ≡ Some row) × HasPacketList cs row
  packets-of id there = let e = edited-packets net chosen router id there in (e.row, e.at, file.packets id e.row e.at e.own e.some)

  pub routes-of : (id : ℕ) → Contains (edited_route_lists net chosen router) id → (row : RouteList) × (slice_get net.route_lists id ≡ Some row) × HasRouteList cs row
  routes-of id there = let e = edited-routes net chosen router id there in (e.row, e.at, file.routes id e.row e.at e.own e.some)

  pub number-item : (item : ℕ × NewNumber) → Contains (numbers_at net own chosen router) item → NumberItem cs item
  number-item item there = ⊎_elim
      (λ packets.
      let (id, among, has) = from_piece (packet_list_numbers net own chosen) (edited_packet_lists net chosen router) item packets in
      let (row, at, h) = packets-of id among in
      let here = subst (λ (l : List (ℕ × NewNumber)). Contains l item)
      (packets-have net cs (λ (list : PacketList) (place : ListPlace). new_numbers place 0 10 (length (list_classes chosen id))) id row h at) has in
      numbered-entry cs h.list h.among 0 10 (length (list_classes chosen id)) item here)
      (λ routes.
      let (id, among, has) = from_piece (route_list_numbers net own chosen) (edited_route_lists net chosen router) item routes in
      let (row, at, h) = routes-of id among in
      let here = subst (λ (l : List (ℕ × NewNumber)). Contains l item)
      (routes-have net cs (λ (list : RouteList) (place : ListPlace). new_numbers place 4 5 (length (list_prefixes chosen id))) id row h at) has in
      numbered-entry cs h.list h.among 4 5 (length (list_prefixes chosen id)) item here)
      (Contains-append_cases (flat_map (packet_list_numbers net own chosen) (edited_packet_lists net chosen router))
      (flat_map (route_list_numbers net own chosen) (edited_route_lists net chosen router)) item there)

  pub number-command : (item : ℕ × NewNumber) → Contains (numbers_at net own chosen router) item → AtCommand cs item.0
  number-command item there =
      let n = number-item item there in
      let c = entry-command cs n.list (list-group cs n.list n.among) n.entry n.has in
      record { command = c.command; among = c.among; line = n.line ∙ sym c.line }

  -- a binding comes after the last line of its interface
  pub record AtFace (item : ℕ × Command) : Type 0 where
    pub face : Face
    pub name : List ℕ
    pub named : Contains (named_lists net chosen router) (Packet face, name)
    pub has : HasFace net places router cs face.0
    pub block : HasFaceBlock cs has.face
    pub line : item.0 ≡ block.last.line
    pub says : item.1 ≡ commands.Group name true

  pub face-line : (item : ℕ × Command) → Contains (group_commands net places chosen router) item → AtFace item
  face-line item there =
      let (named, among, is) = picked_from (λ (n : NewList × List ℕ). group_command (face_places places) n.0 n.1) (named_lists net chosen router) item there in
      by named.0 named.1 among is
    where
      by : (list : NewList) (name : List ℕ) → Contains (named_lists net chosen router) (list, name) → group_command (face_places places) list name ≡ Some item → AtFace item
      by (Route face) name among e = absurd (none-some item e)
      by (Packet face) name among e =
          let h = file.faces face name among in
          let b = face-blocks (text_lines text) cs h.face file.stand h.among in
          let new : Command = commands.Group name true in
          let is : Some (h.face.last, new) ≡ Some item = sym (ap (option_map {U = ℕ × Command} (λ (place : FacePlace). (place.last, new))) h.place_is) ∙ e in
          let both : item ≡ (h.face.last, new) = sym (same_Some (h.face.last, new) item is) in
          record { face = face; name = name; named = among; has = h; block = b; line = ap (λ (p : ℕ × Command). p.0) both ∙ b.last_line; says = ap (λ (p : ℕ × Command). p.1) both }

  -- what comes after a line is of the process, or is a binding
  pub after-item : (item : ℕ × Command) → Contains (commands_after net places own chosen router) item →
      ((item.0 ≡ own.process_last) × Contains (process_commands net chosen router) item.1) ⊎ AtFace item
  after-item item there = ⊎_elim
      (λ process.
      let (command, among, is) = from_map (λ (k : Command). (own.process_last, k)) (process_commands net chosen router) item process in
      inl (ap (λ (p : ℕ × Command). p.0) (sym is), subst (λ (p : ℕ × Command). Contains (process_commands net chosen router) p.1) is among))
      (λ faces. inr (face-line item faces))
      (Contains-append_cases (all_at own.process_last (process_commands net chosen router)) (group_commands net places chosen router) item there)

  pub after-command : (item : ℕ × Command) → Contains (commands_after net places own chosen router) item → AtCommand cs item.0
  after-command item there = ⊎_elim
      (λ process. record { command = process-here.last; among = process-here.block.last_among; line = process.0 ∙ last-line })
      (λ a. record { command = a.block.last; among = a.block.block.last_among; line = a.line })
      (after-item item there)
