-- The words of each line of a witness.
use Rattle.std.proofs.Common.{◌≡◌, ℕ, ◌+◌, ◌^◌, ◌<◌, ◌≤◌, Bool, List, [], ◌∷◌, ◌++◌, length, map, refl, arith, decimal, codes}
use Rattle.arc_base.specs.declared.place.Link.{Link}
use Rattle.net_model.specs.declared.lists.Packet.{Packet}
use Rattle.net_model.specs.declared.policies.Class.{Class}
use Rattle.net_model.specs.declared.rows.Network.{Network}
use Rattle.net_model.specs.declared.verdicts.ClassSide.{ClassSide}
use Rattle.net_model.specs.declared.verdicts.LinkPath.{LinkPath}
use Rattle.net_model.specs.declared.verdicts.Verdict.{Verdict}
use Rattle.net_model.specs.declared.verdicts.Verdict.TheVariants.{Closed, Paths, Walk, Denied, Cut, Refused}
use Rattle.net_model.specs.Validity.{IsValid}
use Rattle.policy_report.specs.Reports.{class_words, report_packet_words, link_words, router_side_words}
use Rattle.policy_report.specs.Rereading.{AreLinks}
use Rattle.policy_report.proofs.ServiceParts.{are_class_words, are_packet_words}
use Rattle.policy_report.proofs.Spaced.{AreWords, words_append, joined}
use Rattle.policy_report.proofs.WordBytes.{word, decimal_word, links_words, sides_words}

-- a side, a path, a walk, a class that is denied, a cut, its side, and a packet that is denied
abbrev pub closed_words : Network → ClassSide → List (List ℕ)
closed_words net shown = codes "closed" ∷ (class_words shown.class ++ router_side_words net.routers shown.side)

abbrev pub path_words : LinkPath → List (List ℕ)
path_words path = codes "path" ∷ link_words path.links

abbrev pub walk_words : Class → LinkPath → List (List ℕ)
walk_words class path = codes "walk" ∷ (class_words class ++ link_words path.links)

abbrev pub denied_words : Class → List (List ℕ)
denied_words class = codes "denied" ∷ class_words class

abbrev pub cut_words : List Link → List (List ℕ)
cut_words links = codes "cut" ∷ link_words links

abbrev pub side_line_words : Network → List Bool → List (List ℕ)
side_line_words net side = codes "side" ∷ router_side_words net.routers side

abbrev pub refused_words : Packet → Link → List (List ℕ)
refused_words packet link = codes "acl-on-routed-link" ∷ (report_packet_words packet ++ decimal (link.0 + 1) ∷ [])

-- the lines of a side and of a path
abbrev pub closed_text : Network → ClassSide → List ℕ
closed_text net shown = joined (closed_words net shown)

abbrev pub path_text : LinkPath → List ℕ
path_text path = joined (path_words path)

-- the lines of the witness, without their ends
abbrev pub witness_texts : Network → Verdict → List (List ℕ)
witness_texts net (Closed sides) = map (closed_text net) sides
witness_texts net (Paths paths) = map path_text paths
witness_texts net (Walk class path) = joined (walk_words class path) ∷ []
witness_texts net (Denied class) = joined (denied_words class) ∷ []
witness_texts net (Cut links side) = joined (cut_words links) ∷ joined (side_line_words net side) ∷ []
witness_texts net (Refused packet link) = joined (refused_words packet link) ∷ []

-- a side has a flag for each router
abbrev pub IsSide : Network → List Bool → Type 0
IsSide net side = length side ≡ length net.routers

-- the link is the network's, the addresses have 32 bits, and the service 24
abbrev pub FitsRefused : Network → Packet × Link → Type 0
FitsRefused net r = (r.1.0 < length net.links) × ((r.0.from < 2 ^ 32) × (r.0.to < 2 ^ 32) × (r.0.service < 2 ^ 24))

-- neither a space nor a control byte stands in them
module _ (net : Network) (valid : IsValid net) where
  pub are_closed_words : (shown : ClassSide) → AreWords (closed_words net shown)
  are_closed_words shown =
      (word _ refl, words_append (class_words shown.class) (router_side_words net.routers shown.side) (are_class_words shown.class) (sides_words net.routers shown.side valid.router_names))

  pub are_path_words : (path : LinkPath) → AreLinks net path.links → AreWords (path_words path)
  are_path_words path h = (word _ refl, links_words (length net.links) path.links valid.few_links h)

  pub are_walk_words : (class : Class) (path : LinkPath) → AreLinks net path.links → AreWords (walk_words class path)
  are_walk_words class path h = (word _ refl, words_append (class_words class) (link_words path.links) (are_class_words class) (links_words (length net.links) path.links valid.few_links h))

  pub are_cut_words : (links : List Link) → AreLinks net links → AreWords (cut_words links)
  are_cut_words links h = (word _ refl, links_words (length net.links) links valid.few_links h)

  pub are_side_line_words : (side : List Bool) → AreWords (side_line_words net side)
  are_side_line_words side = (word _ refl, sides_words net.routers side valid.router_names)

  pub are_refused_words : (packet : Packet) (link : Link) → FitsRefused net (packet, link) → AreWords (refused_words packet link)
  are_refused_words packet link h =
      let few : length net.links ≤ 1024 = valid.few_links in
      (word _ refl, words_append (report_packet_words packet) (decimal (link.0 + 1) ∷ []) (are_packet_words packet h.1.0 h.1.1 h.1.2) (decimal_word (link.0 + 1) (omega (arith, h.0)), tt))

pub are_denied_words : (class : Class) → AreWords (denied_words class)
are_denied_words class = (word _ refl, are_class_words class)
