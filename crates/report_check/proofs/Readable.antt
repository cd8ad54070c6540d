-- A right verdict whose lines can be counted can be written in a report.
use Rattle.std.proofs.Common.{◌≡◌, Bool, ℕ, ◌<◌, ◌≤◌, List, [], ◌∷◌, length, sym, subst, arith}
use Rattle.std.specs.Prelude.{All}
use Rattle.std.specs.List.{AllZip}
use Rattle.std.proofs.lemmas.List.{length-map}
use Rattle.std.proofs.lemmas.Option.{slice_get_within}
use Rattle.std.proofs.lemmas.List.Elements.{All-weaker, All-nil, All-cons, All-head, All-tail}
use Rattle.arc_base.specs.declared.place.Link.{Link}
use Rattle.arc_base.proofs.Items.{All-from}
use Rattle.net_model.specs.declared.policies.Policy.{Policy}
use Rattle.net_model.specs.declared.policies.PolicyKind.{PolicyKind}
use Rattle.net_model.specs.declared.policies.PolicyKind.TheVariants.{Blocked, Through, Reach}
use Rattle.net_model.specs.declared.policies.Class.{Class}
use Rattle.net_model.specs.declared.rows.Network.{Network}
use Rattle.net_model.specs.declared.verdicts.LinkPath.{LinkPath}
use Rattle.net_model.specs.declared.verdicts.Verdict.{Verdict}
use Rattle.net_model.specs.declared.verdicts.Verdict.TheVariants.{Closed, Paths, Walk, Denied, Cut, Refused}
use Rattle.net_model.specs.Forwarding.{Ends}
use Rattle.net_model.specs.Packets.{subject}
use Rattle.net_model.specs.Routing.{Arc, IsArc, head_router}
use Rattle.net_model.specs.Witnesses.{IsRight, IsRightFor, IsRightBlocking, IsRightReach, IsRightSide, IsRightCut, IsPath, Path, links_of}
use Rattle.net_laws.proofs.Cover.{Holds-below, Serves-below}
use Rattle.policy_report.specs.Reports.{witness_lines, closed_line, path_line}
use Rattle.policy_report.specs.Rereading.{MayHaveVerdict, CanBeWritten, AreLinks, IsReadable}

-- an arc of the network is over a link of it
of_network : (net : Network) (arc : Arc) → IsArc net arc → arc.link < length net.links
of_network net arc is = slice_get_within net.links arc.link arc.row is.link

-- the arcs of a path are over links of the network
path_links : (net : Network) (to : _) (u v : ℕ) (arcs : List Arc) → Path net to u arcs v → AreLinks net (links_of arcs)
path_links net to u v [] is = All-nil (λ l. l.0 < length net.links)
path_links net to u v (arc ∷ arcs) is =
    All-cons (λ l. l.0 < length net.links) (record { 0 = arc.link }) (links_of arcs) (of_network net arc is.0) (path_links net to (head_router arc) v arcs is.3)

pub are_links : (net : Network) (ends : Ends) (path : LinkPath) → IsPath net ends path → AreLinks net path.links
are_links net ends path is = subst (AreLinks net) is.links (path_links net ends.to _ _ is.arcs is.leads)

-- the witness of a right verdict can be written
told_blocking : (net : Network) (ends : Ends) (kind : PolicyKind) (whole : Class) (v : Verdict) → IsRightBlocking net ends kind whole v →
    length (witness_lines net v) ≤ 4294967295 → CanBeWritten net v
told_blocking net ends kind whole (Closed sides) right few = (
  All-weaker (IsRightSide net ends kind whole) (λ s. length s.side ≡ length net.routers) (λ s side. side.closed.flags) sides right.right,
  subst (λ (n : ℕ). n ≤ 4294967295) (length-map sides (closed_line net)) few,
)
told_blocking net ends kind whole (Walk class path) right few = are_links net ends path right.path
told_blocking net ends kind whole (Paths paths) right few = absurd right
told_blocking net ends kind whole (Denied class) right few = absurd right
told_blocking net ends kind whole (Cut links side) right few = absurd right
told_blocking net ends kind whole (Refused packet link) right few = absurd right

cut_links : (net : Network) (ends : Ends) (k : ℕ) (whole : Class) (links : List Link) (side : List Bool) → IsRightCut net ends k whole links side → AreLinks net links
cut_links net ends k whole links side right =
    All-from (λ l. l.0 < length net.links) links (λ l held. let found = (right.cut l).0 held in subst (λ (n : ℕ). n < length net.links) found.1 (of_network net found.0 found.2.is_arc))

told_reach : (net : Network) (ends : Ends) (k : ℕ) (whole : Class) (v : Verdict) → IsRightReach net ends k whole v →
    length (witness_lines net v) ≤ 4294967295 → CanBeWritten net v
told_reach net ends k whole (Paths paths) right few = (
  All-weaker (IsPath net ends) (λ p. AreLinks net p.links) (λ p path. are_links net ends p path) paths right.are_paths,
  subst (λ (n : ℕ). n ≤ 4294967295) (length-map paths path_line) few,
)
told_reach net ends k whole (Denied class) right few = tt
told_reach net ends k whole (Cut links side) right few = (cut_links net ends k whole links side right, right.flags)
told_reach net ends k whole (Refused packet link) right few = (
  subst (λ (n : ℕ). n < length net.links) right.of_link (of_network net right.arc right.is_arc),
  (
    Holds-below whole.from packet.from right.packet.0,
    Holds-below whole.to packet.to right.packet.1,
    Serves-below whole.service packet.service right.packet.2,
  ),
)
told_reach net ends k whole (Closed sides) right few = absurd right
told_reach net ends k whole (Walk class path) right few = absurd right

told_for : (net : Network) (ends : Ends) (kind : PolicyKind) (whole : Class) (v : Verdict) → IsRightFor net ends kind whole v →
    length (witness_lines net v) ≤ 4294967295 → CanBeWritten net v
told_for net ends Blocked whole v right few = told_blocking net ends Blocked whole v right few
told_for net ends Through whole v right few = told_blocking net ends Through whole v right few
told_for net ends (Reach k) whole v right few = told_reach net ends k whole v right few

-- a right verdict is an answer to what the policy asks
answers_kind : (net : Network) (ends : Ends) (kind : PolicyKind) (whole : Class) (v : Verdict) → IsRightFor net ends kind whole v → MayHaveVerdict kind v
answers_kind net ends (Reach k) whole (Paths paths) right = tt
answers_kind net ends (Reach k) whole (Denied class) right = tt
answers_kind net ends (Reach k) whole (Cut links side) right = tt
answers_kind net ends (Reach k) whole (Refused packet link) right = tt
answers_kind net ends (Reach k) whole (Closed sides) right = right
answers_kind net ends (Reach k) whole (Walk class path) right = right
answers_kind net ends Blocked whole (Closed sides) right = tt
answers_kind net ends Blocked whole (Walk class path) right = tt
answers_kind net ends Blocked whole (Paths paths) right = right
answers_kind net ends Blocked whole (Denied class) right = right
answers_kind net ends Blocked whole (Cut links side) right = right
answers_kind net ends Blocked whole (Refused packet link) right = right
answers_kind net ends Through whole (Closed sides) right = tt
answers_kind net ends Through whole (Walk class path) right = tt
answers_kind net ends Through whole (Paths paths) right = right
answers_kind net ends Through whole (Denied class) right = right
answers_kind net ends Through whole (Cut links side) right = right
answers_kind net ends Through whole (Refused packet link) right = right

pub readable : (net : Network) (policy : Policy) (v : Verdict) → IsRight net policy v → length (witness_lines net v) ≤ 4294967295 → IsReadable net policy v
readable net policy v right few =
    record {
      kind = answers_kind net right.ends policy.kind (subject policy) v right.right;
      told = told_for net right.ends policy.kind (subject policy) v right.right few;
    }

pub all_readable : (net : Network) (policies : List Policy) (vs : List Verdict) → AllZip (IsRight net) policies vs →
    All (λ v. length (witness_lines net v) ≤ 4294967295) vs → AllZip (IsReadable net) policies vs
all_readable net [] [] right few = tt
all_readable net [] (v ∷ vs) right few = absurd right
all_readable net (policy ∷ policies) [] right few = absurd right
all_readable net (policy ∷ policies) (v ∷ vs) right few = (
  readable net policy v right.0 (All-head (λ v. length (witness_lines net v) ≤ 4294967295) v vs few),
  all_readable net policies vs right.1 (All-tail (λ v. length (witness_lines net v) ≤ 4294967295) v vs few),
)

-- the lines of a readable verdict can be counted
few_lines : (net : Network) (kind : PolicyKind) (v : Verdict) → MayHaveVerdict kind v → CanBeWritten net v → length (witness_lines net v) ≤ 4294967295
few_lines net kind (Closed sides) answer told = subst (λ (n : ℕ). n ≤ 4294967295) (sym (length-map sides (closed_line net))) told.1
few_lines net kind (Paths paths) answer told = subst (λ (n : ℕ). n ≤ 4294967295) (sym (length-map paths path_line)) told.1
few_lines net kind (Walk class path) answer told = omega arith
few_lines net kind (Denied class) answer told = omega arith
few_lines net kind (Cut links side) answer told = omega arith
few_lines net kind (Refused packet link) answer told = omega arith

pub all_few : (net : Network) (policies : List Policy) (vs : List Verdict) → AllZip (IsReadable net) policies vs → All (λ v. length (witness_lines net v) ≤ 4294967295) vs
all_few net [] [] zip = All-nil (λ v. length (witness_lines net v) ≤ 4294967295)
all_few net [] (v ∷ vs) zip = absurd zip
all_few net (policy ∷ policies) [] zip = absurd zip
all_few net (policy ∷ policies) (v ∷ vs) zip =
    All-cons (λ v. length (witness_lines net v) ≤ 4294967295) v vs (few_lines net policy.kind v (zip.0).kind (zip.0).told) (all_few net policies vs zip.1)
