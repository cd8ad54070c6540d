-- What a network has from files can be written into them again: the names of its interfaces, and the addresses of its neighbours.
use Rattle.std.proofs.Common.{◌≡◌, ℕ, zero, ◌^◌, ◌<◌, Option, Some, None, List, map, refl, sym, ap, subst, arith, IsTrue}
use Rattle.std.specs.Prelude.{Contains, slice_get, option_map}
use Rattle.std.proofs.lemmas.Option.{none-some, same_Some}
use Rattle.arc_base.specs.declared.prefix.Prefix.{Prefix}
use Rattle.arc_base.proofs.Items.{Contains-none, from_filter}
use Rattle.net_model.specs.declared.policies.Document.{Document}
use Rattle.net_model.specs.declared.rows.FaceRow.{FaceRow}
use Rattle.net_model.specs.declared.rows.SessionRow.{SessionRow}
use Rattle.net_model.specs.declared.rows.Network.{Network}
use Rattle.net_model.specs.declared.rows.Protocol.{Protocol}
use Rattle.net_model.specs.declared.rows.Protocol.TheVariants.{Ospf, Bgp}
use Rattle.net_model.specs.Routing.{head_end}
use Rattle.net_model.proofs.Readings.{place_of_item}
use Rattle.traffic_classes.proofs.Ranges.{range_holds, ends_below}
use Rattle.ios_lines.specs.declared.line.Lines.{Lines}
use Rattle.ios_words.specs.Forms.{IsInForm}
use Rattle.ios_words.specs.Names.{is_face_name}
use Rattle.ios_words.proofs.Formed.{in_form}
use Rattle.ios_config.specs.declared.commands.FileCommand.{FileCommand}
use Rattle.ios_config.specs.declared.settings.Config.{Config}
use Rattle.ios_config.specs.declared.settings.FaceText.{FaceText}
use Rattle.ios_config.specs.Commands.{command_lines, IsReadAs}
use Rattle.ios_config.specs.Configs.{IsConfigOf}
use Rattle.ios_config.specs.Groups.{is_same, part_of, distinct}
use Rattle.net_rules.specs.Lists.{packet_list_key, route_list_key}
use Rattle.net_build.specs.Networks.{HasSettings, IsNetworkOf}
use Rattle.net_rules.specs.Rows.{IsFaceRow, IsSubnet, IsSession, AreSessions}
use Rattle.net_rules.specs.Settings.{address_of}
use Rattle.net_rules.specs.Sites.{sites, ends_of}
use Rattle.net_build.proofs.FacesApart.{piece_head}
use Rattle.net_rules.proofs.SiteFacts.{site_of}
use Rattle.settings_edit_laws.specs.Premises.{IsWritable}
use Rattle.arc_base.proofs.Zips.{AllZip-left, AllZip-right}

-- the interfaces of a file have names that pass the test of names
face_tested : (text : List ℕ) (lines : Lines) (config : Config) → IsConfigOf text lines config → (f : FaceText) → Contains config.faces f → IsTrue (is_face_name f.name)
face_tested text lines config is f there =
    let found = piece_head is.commands (distinct (map part_of is.commands)) f (subst (λ (c : Config). Contains c.faces f) is.set there) in
    let head = found.2 in
    let member = from_filter (λ c. is_same found.0 (part_of c)) is.commands head.head (subst (λ (ds : List FileCommand). Contains ds head.head) (sym head.block) (zero, omega arith, refl)) in
    let tested : IsTrue (is_face_name head.name) = subst IsInForm head.is_interface (good head.head member.0) in
    subst (λ (n : List ℕ). IsTrue (is_face_name n)) (ap (λ (x : FaceText). x.name) (sym head.face_is)) tested
  where
    good : (c : FileCommand) → Contains is.commands c → IsInForm c.command
    good c in_all =
        let at = place_of_item is.commands c in_all in
        let read = AllZip-left (IsReadAs text lines) (command_lines lines) is.commands is.read at.0 c at.1 in
        in_form text read.0.1 read.2.within c.command read.2.reads

module _ (doc : Document) (files : List (List ℕ)) (net : Network) (is : IsNetworkOf doc files net) where
  faces_written : (place : ℕ) (row : FaceRow) → slice_get net.faces place ≡ Some row → IsTrue (is_face_name row.name)
  faces_written place row at =
      let s = AllZip-left (IsFaceRow net.protocol (ends_of doc.links) (map packet_list_key net.packet_lists)) (sites is.configs) net.faces is.rows.base.faces place row at in
      let file = site_of is.configs place s.0 s.1 in
      let said = AllZip-left HasSettings files is.configs is.said s.0.router s.0.config file.file_at in
      subst (λ (n : List ℕ). IsTrue (is_face_name n)) (sym s.2.name) (face_tested said.0 said.2.lines s.0.config said.2.is_config s.0.face file.listed)

  session_of : (s : SessionRow) → (p : Protocol) (ss : List SessionRow) → AreSessions p is.configs net.links (map route_list_key net.route_lists) ss →
      Contains ss s → IsSession is.configs net.links (map route_list_key net.route_lists) s
  session_of s Ospf ss none there = absurd (Contains-none s (subst (λ (l : List SessionRow). Contains l s) none there))
  session_of s Bgp ss are there = (are.just s).0 there

  peers_written : (s : SessionRow) → Contains net.sessions s → s.peer < 2 ^ 32
  peers_written s there =
      let o = (session_of s net.protocol net.sessions is.rows.sessions there) in
      let so = o.session_of in
      let row = AllZip-right (IsFaceRow net.protocol (ends_of doc.links) (map packet_list_key net.packet_lists)) (sites is.configs) net.faces is.rows.base.faces
      (head_end so.row o.from_a).0 so.far so.at_far in
      by (address_of so.far.face) so.peer row.0.subnet row.2.subnet
    where
      by : (a : Option (ℕ × ℕ)) → option_map (λ (x : ℕ × ℕ). x.0) a ≡ Some s.peer → (subnet : Option Prefix) → IsSubnet a subnet → s.peer < 2 ^ 32
      by None e subnet h = absurd (none-some s.peer e)
      by (Some x) e None h = absurd h
      by (Some x) e (Some q) h =
          let same : x.0 ≡ s.peer = same_Some x.0 s.peer e in
          omega (arith, same, (range_holds q x.0 h.1).1, ends_below q)

  pub network_written : IsWritable net
  network_written = record { faces = faces_written; peers = peers_written }
