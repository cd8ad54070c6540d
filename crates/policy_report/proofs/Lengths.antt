-- How long a report can get.
use Rattle.std.proofs.Common.{◌≡◌, ℕ, ◌+◌, ◌*◌, ◌/◌, ◌%◌, ◌^◌, ◌<◌, ◌≤◌, ◌==◌, Bool, true, false, if◌then◌else◌, List}
use Rattle.std.proofs.Common.{[], ◌∷◌, ◌++◌, length, map, ap, sym, subst, ◌∙◌, arith, All, length-append, append-nil, codes, decimal}
use Rattle.std.specs.List.{AllZip, concat}
use Rattle.std.specs.Net.Text.{dotted_text}
use Rattle.std.proofs.lemmas.Fmt.{length-decimal-le}
use Rattle.std.proofs.lemmas.List.Elements.{All-head, All-tail}
use Rattle.arc_base.specs.declared.place.Link.{Link}
use Rattle.arc_base.specs.declared.prefix.Prefix.{Prefix}
use Rattle.arc_base.specs.PrefixText.{address_text, prefix_text}
use Rattle.arc_base.proofs.AddressTexts.{IsDotted-address_text}
use Rattle.net_model.specs.declared.policies.Class.{Class}
use Rattle.net_model.specs.declared.policies.Policy.{Policy}
use Rattle.net_model.specs.declared.policies.PolicyKind.{PolicyKind}
use Rattle.net_model.specs.declared.policies.PolicyKind.TheVariants as kinds
use Rattle.net_model.specs.declared.rows.Network.{Network}
use Rattle.net_model.specs.declared.rows.RouterRow.{RouterRow}
use Rattle.net_model.specs.declared.verdicts.ClassSide.{ClassSide}
use Rattle.net_model.specs.declared.verdicts.LinkPath.{LinkPath}
use Rattle.net_model.specs.declared.verdicts.Verdict.{Verdict}
use Rattle.net_model.specs.declared.verdicts.Verdict.TheVariants.{Closed, Paths, Walk, Denied, Cut, Refused}
use Rattle.net_model.specs.declared.services.Service.{Service}
use Rattle.net_model.specs.Validity.{IsValid}
use Rattle.arc_base.specs.NameForms.{IsName}
use Rattle.policy_report.specs.Lengths.{IsShort, ReportsAreShort}
use Rattle.policy_report.specs.Lines.{after_spaces, line}
use Rattle.policy_report.specs.Reports.{kind_word, answer_word, link_words, router_side_words, class_words, report_packet_words, closed_line, path_line, refused_line, witness_lines, block_text}
use Rattle.policy_report.specs.Reports.{blocks_text}
use Rattle.policy_report.specs.ServiceWords.{service_text, service_word, range_word, is_whole, service_words, range_words}
use Rattle.policy_report.specs.Rereading.{AreLinks, CanBeWritten, IsReadable}
use Rattle.policy_report.proofs.BlockTexts.{few_lines}
use Rattle.policy_report.proofs.ServiceTexts.{protocol_small, port_small}

-- a line is its words and two spaces less
line_length : (first : List ℕ) (ws : List (List ℕ)) → length (line first ws) ≡ length first + length (after_spaces ws) + 1
line_length first ws = length-append (first ++ after_spaces ws) (10 ∷ []) ∙ ap (λ n. n + 1) (length-append first (after_spaces ws))

word_length : (w : List ℕ) (ws : List (List ℕ)) → length (after_spaces (w ∷ ws)) ≡ 1 + length w + length (after_spaces ws)
word_length w ws = omega (arith, length-append w (after_spaces ws))

links_length : (n : ℕ) (links : List Link) → n ≤ 1024 → All (λ l. l.0 < n) links → length (after_spaces (link_words links)) ≤ 5 * length links
links_length n [] few h = omega arith
links_length n (l ∷ links) few h =
    let within : l.0 < n = All-head (λ l. l.0 < n) l links h in
    omega (
      arith,
      word_length (decimal (l.0 + 1)) (link_words links),
      length-decimal-le 4 (l.0 + 1) (omega arith) (omega arith) (omega arith),
      links_length n links few (All-tail (λ l. l.0 < n) l links h),
    )

sides_length : (routers : List RouterRow) (side : List Bool) → All (λ r. IsName r.name) routers → length (after_spaces (router_side_words routers side)) ≤ 65 * length routers
sides_length [] side h = omega arith
sides_length (r ∷ routers) [] h = omega arith
sides_length (r ∷ routers) (true ∷ side) h =
    omega (arith, word_length r.name (router_side_words routers side), (All-head (λ s. IsName s.name) r routers h).few, sides_length routers side (All-tail (λ s. IsName s.name) r routers h))
sides_length (r ∷ routers) (false ∷ side) h = omega (arith, sides_length routers side (All-tail (λ s. IsName s.name) r routers h))

byte_length : (n : ℕ) → n < 256 → length (decimal n) ≤ 3
byte_length n h = length-decimal-le 3 n (omega arith) (omega arith) (omega arith)

address_length : (addr : ℕ) → addr < 2 ^ 32 → length (address_text addr) ≤ 15
address_length addr small =
    let dotted = IsDotted-address_text addr small in
    let a = decimal dotted.a in
    let b = decimal dotted.b in
    let c = decimal dotted.c in
    let d = decimal dotted.d in
    let size : length (dotted_text dotted.a dotted.b dotted.c dotted.d) ≤ 15 =
    omega (
      arith,
      byte_length dotted.a dotted.fit.0,
      byte_length dotted.b dotted.fit.1,
      byte_length dotted.c dotted.fit.2,
      byte_length dotted.d dotted.fit.3,
      length-append (a ++ codes "." ++ b ++ codes "." ++ c ++ codes ".") d,
      length-append (a ++ codes "." ++ b ++ codes "." ++ c) (codes "."),
      length-append (a ++ codes "." ++ b ++ codes ".") c,
      length-append (a ++ codes "." ++ b) (codes "."),
      length-append (a ++ codes ".") b,
      length-append a (codes "."),
    ) in
    subst (λ (t : List ℕ). length t ≤ 15) (sym dotted.spelled) size

prefix_length : (p : Prefix) → length (prefix_text p) ≤ 18
prefix_length p =
    let low : p.len ≤ 32 = p.length in
    omega (
      arith,
      length-append (address_text p.addr ++ codes "/") (decimal p.len),
      length-append (address_text p.addr) (codes "/"),
      address_length p.addr p.in_range,
      length-decimal-le 2 p.len (omega arith) (omega arith) (omega arith),
    )

-- a service, and the services of a class and of a packet
service_length : (n : ℕ) → n < 2 ^ 24 → length (service_text n) ≤ 9
service_length n small =
    let protocol : ℕ = n / 65536 in
    let port : ℕ = n % 65536 in
    let p : protocol ≤ 255 = protocol_small n small in
    let q : port ≤ 65535 = port_small n in
    omega (
      arith,
      length-append (decimal protocol ++ codes ".") (decimal port),
      length-append (decimal protocol) (codes "."),
      byte_length protocol (omega arith),
      length-decimal-le 5 port (omega arith) (omega arith) (omega arith),
    )

range_length : (s : Service) (ws : List (List ℕ)) → length (after_spaces (range_words s ++ ws)) ≤ 28 + length (after_spaces ws)
range_length s ws = by (is_whole s)
  where
    by : (b : Bool) → length (after_spaces ((if b then [] else range_word s ∷ []) ++ ws)) ≤ 28 + length (after_spaces ws)
    by true = omega arith
    by false =
        let ordered : s.low ≤ s.high = s.ordered in
        let high_small : s.high < 2 ^ 24 = s.in_range in
        let low : List ℕ = service_text s.low in
        let high : List ℕ = service_text s.high in
        omega (
          arith,
          word_length (range_word s) ws,
          length-append (codes "service:" ++ low ++ codes "-") high,
          length-append (codes "service:" ++ low) (codes "-"),
          length-append (codes "service:") low,
          service_length s.low (omega arith),
          service_length s.high high_small,
        )

point_length : (n : ℕ) (ws : List (List ℕ)) → n < 2 ^ 24 → length (after_spaces (service_words n ++ ws)) ≤ 18 + length (after_spaces ws)
point_length n ws small = by (n == 0)
  where
    by : (b : Bool) → length (after_spaces ((if b then [] else service_word n ∷ []) ++ ws)) ≤ 18 + length (after_spaces ws)
    by true = omega arith
    by false = omega (arith, word_length (service_word n) ws, length-append (codes "service:") (service_text n), service_length n small)

class_length : (class : Class) (ws : List (List ℕ)) → length (after_spaces (class_words class ++ ws)) ≤ 66 + length (after_spaces ws)
class_length class ws =
    let after : List (List ℕ) = range_words class.service ++ ws in
    omega (
      arith,
      word_length (prefix_text class.from) (prefix_text class.to ∷ after),
      word_length (prefix_text class.to) after,
      range_length class.service ws,
      prefix_length class.from,
      prefix_length class.to,
    )

module _ (net : Network) (valid : IsValid net) where
  -- a line has at most 16,720 bytes
  closed_length : (shown : ClassSide) → length (closed_line net shown) ≤ 16720
  closed_length shown =
      let few : length net.routers ≤ 256 = valid.few_routers in
      omega (
        arith,
        line_length (codes "closed") (class_words shown.class ++ router_side_words net.routers shown.side),
        class_length shown.class (router_side_words net.routers shown.side),
        sides_length net.routers shown.side valid.router_names,
      )

  path_length : (path : LinkPath) → AreLinks net path.links → length path.links ≤ 1024 → length (path_line path) ≤ 16720
  path_length path are short =
      omega (arith, line_length (codes "path") (link_words path.links), links_length (length net.links) path.links valid.few_links are)

  sides_lines : (sides : List ClassSide) → length (concat (map (closed_line net) sides)) ≤ 16720 * length sides
  sides_lines [] = omega arith
  sides_lines (s ∷ sides) = omega (arith, length-append (closed_line net s) (concat (map (closed_line net) sides)), closed_length s, sides_lines sides)

  paths_lines : (paths : List LinkPath) → All (λ p. AreLinks net p.links) paths → All (λ p. length p.links ≤ 1024) paths → length (concat (map path_line paths)) ≤ 16720 * length paths
  paths_lines [] are short = omega arith
  paths_lines (p ∷ paths) are short =
      omega (
        arith,
        length-append (path_line p) (concat (map path_line paths)),
        path_length p (All-head (λ p. AreLinks net p.links) p paths are) (All-head (λ p. length p.links ≤ 1024) p paths short),
        paths_lines paths (All-tail (λ p. AreLinks net p.links) p paths are) (All-tail (λ p. length p.links ≤ 1024) p paths short),
      )

  -- the lines of a witness
  witness_length : (v : Verdict) → CanBeWritten net v → IsShort v → length (concat (witness_lines net v)) ≤ 68485120
  witness_length (Closed sides) told short = omega (arith, sides_lines sides)
  witness_length (Paths paths) told short = omega (arith, paths_lines paths told.0 short.1, short.0)
  witness_length (Walk class path) told short =
      omega (
        arith,
        length-append (line (codes "walk") (class_words class ++ link_words path.links)) [],
        line_length (codes "walk") (class_words class ++ link_words path.links),
        class_length class (link_words path.links),
        links_length (length net.links) path.links valid.few_links told,
      )
  witness_length (Denied class) told short =
      omega (
        arith,
        length-append (line (codes "denied") (class_words class)) [],
        line_length (codes "denied") (class_words class),
        class_length class [],
        ap (λ ws. length (after_spaces ws)) (append-nil (class_words class)),
      )
  witness_length (Cut links side) told short =
      let few : length net.routers ≤ 256 = valid.few_routers in
      omega (
        arith,
        length-append (line (codes "cut") (link_words links)) (line (codes "side") (router_side_words net.routers side) ++ []),
        length-append (line (codes "side") (router_side_words net.routers side)) [],
        line_length (codes "cut") (link_words links),
        line_length (codes "side") (router_side_words net.routers side),
        links_length (length net.links) links valid.few_links told.0,
        sides_length net.routers side valid.router_names,
      )
  witness_length (Refused packet link) told short =
      let few : length net.links ≤ 1024 = valid.few_links in
      omega (
        arith,
        length-append (refused_line packet link) [],
        line_length (codes "acl-on-routed-link") (report_packet_words packet ++ decimal (link.0 + 1) ∷ []),
        word_length (address_text packet.from) (address_text packet.to ∷ (service_words packet.service ++ decimal (link.0 + 1) ∷ [])),
        word_length (address_text packet.to) (service_words packet.service ++ decimal (link.0 + 1) ∷ []),
        point_length packet.service (decimal (link.0 + 1) ∷ []) told.1.2,
        word_length (decimal (link.0 + 1)) [],
        address_length packet.from told.1.0,
        address_length packet.to told.1.1,
        length-decimal-le 4 (link.0 + 1) (omega arith) (omega (arith, told.0)) (omega (arith, told.0)),
      )

  kind_length : (kind : PolicyKind) → length (kind_word kind) ≤ 7
  kind_length kinds.Blocked = omega arith
  kind_length kinds.Through = omega arith
  kind_length (kinds.Reach k) = omega arith

  answer_length : (v : Verdict) → length (answer_word v) ≤ 7
  answer_length (Closed sides) = omega arith
  answer_length (Paths paths) = omega arith
  answer_length (Walk class path) = omega arith
  answer_length (Denied class) = omega arith
  answer_length (Cut links side) = omega arith
  answer_length (Refused packet link) = omega arith

  -- a block
  block_length : (number : ℕ) (policy : Policy) (v : Verdict) → number ≤ 4294967295 → CanBeWritten net v → IsShort v → length (block_text number net policy v) ≤ 68485220
  block_length number policy v small told short =
      let count : ℕ = length (witness_lines net v) in
      let few : count ≤ 4294967295 = few_lines net v told in
      let ws : List (List ℕ) = kind_word policy.kind ∷ answer_word v ∷ decimal count ∷ [] in
      omega (
        arith,
        length-append (line (decimal number) ws) (concat (witness_lines net v)),
        line_length (decimal number) ws,
        word_length (kind_word policy.kind) (answer_word v ∷ decimal count ∷ []),
        word_length (answer_word v) (decimal count ∷ []),
        word_length (decimal count) [],
        kind_length policy.kind,
        answer_length v,
        length-decimal-le 10 number (omega arith) (omega arith) (omega arith),
        length-decimal-le 10 count (omega arith) (omega arith) (omega arith),
        witness_length v told short,
      )

  blocks_length : (number : ℕ) (policies : List Policy) (vs : List Verdict) → number + length policies ≤ 4294967295 → AllZip (IsReadable net) policies vs → All IsShort vs →
      length (blocks_text number net policies vs) ≤ 68485220 * length policies
  blocks_length number [] vs small readable short = omega arith
  blocks_length number (policy ∷ policies) [] small readable short = omega arith
  blocks_length number (policy ∷ policies) (v ∷ vs) small readable short =
      omega (
        arith,
        length-append (block_text number net policy v) (blocks_text (number + 1) net policies vs),
        block_length number policy v (omega arith) readable.0.told (All-head IsShort v vs short),
        blocks_length (number + 1) policies vs (omega arith) readable.1 (All-tail IsShort v vs short),
      )

pub reports_are_short : ReportsAreShort
reports_are_short net doc vs valid few readable short =
    let head : List ℕ = line (codes "arc-report") (codes "1" ∷ []) in
    let blocks : List ℕ = blocks_text 1 net doc.policies vs in
    omega (arith, length-append (head ++ blocks) (line (codes "end") []), length-append head blocks, blocks_length net valid 1 doc.policies vs (omega arith) readable short)
