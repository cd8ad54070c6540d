-- A generated network's document has one class for each of its policies.
use Rattle.std.proofs.Common.{◌≡◌, ℕ, suc, ◌+◌, ◌*◌, ◌<◌, ◌≤◌, inl, inr, ◌-◌, ◌^◌, Bool, true, false, cond}
use Rattle.std.proofs.Common.{List, [], ◌∷◌, ◌++◌, length, take, drop, map, fold, sym, ap, subst, ◌∙◌, arith, Contains, take-append-drop, length-append}
use Rattle.std.specs.List.{AllZip, flat_map, list_any}
use Rattle.std.proofs.Math.Nat.{min-le_left}
use Rattle.std.proofs.lemmas.List.Elements.{Contains-append_left}
use Rattle.arc_base.specs.declared.prefix.Prefix.{Prefix}
use Rattle.arc_base.proofs.Items as items
use Rattle.net_model.specs.declared.lists.PacketList.{PacketList}
use Rattle.net_model.specs.declared.policies.Class.{Class}
use Rattle.net_model.specs.declared.policies.Policy.{Policy}
use Rattle.net_model.specs.declared.rows.Network.{Network}
use Rattle.net_model.specs.declared.services.Service.{Service}
use Rattle.net_model.specs.Services.{serves, Serves, whole_service}
use Rattle.traffic_classes.specs.AllClasses.{is_same_class, with_class, each_once, AreAllClasses, FirstHaveMore}
use Rattle.traffic_classes.specs.Classes.{source_marks, destination_marks, service_marks, marks_of, told, AreClasses}
use Rattle.traffic_classes.specs.Leaves.{IsSplit, AreLeaves}
use Rattle.traffic_classes.specs.ServiceLeaves.{IsCut, IsServiceLeaf, AreServiceLeaves}
use Rattle.traffic_classes.proofs.HalvesLeaves.{unsplit_is_leaf}
use Rattle.traffic_classes.proofs.Triples.{length-triples}

-- a prefix that is not split has one leaf
one-leaf : (marks : List Prefix) (whole : Prefix) (leaves : List Prefix) → ¬ IsSplit marks whole → AreLeaves marks whole leaves → length leaves ≤ 1
one-leaf marks whole (p ∷ q ∷ rest) unsplit are =
    let second : Contains (q ∷ rest) q = items.Contains-head q rest in
    let one : p ≡ whole = (unsplit_is_leaf marks whole unsplit p).0 ((are.each p).0 (items.Contains-head p (q ∷ rest))) in
    let two : q ≡ whole = (unsplit_is_leaf marks whole unsplit q).0 ((are.each q).0 (items.Contains-tail p q (q ∷ rest) second)) in
    let rising : p.addr < q.addr = items.AllPairs-first (λ (x y : Prefix). x.addr < y.addr) p q (q ∷ rest) are.rising second in
    let same : p.addr ≡ q.addr = ap (λ (x : Prefix). x.addr) (one ∙ sym two) in
    absurd (omega arith)
one-leaf marks whole other unsplit are = omega arith

-- a range that is not cut has one leaf
one-range : (marks : List Service) (whole : Service) (leaves : List Service) → ¬ IsCut marks whole → AreServiceLeaves marks whole leaves → length leaves ≤ 1
one-range marks whole (s ∷ t ∷ rest) uncut are =
    let second : Contains (t ∷ rest) t = items.Contains-head t rest in
    let first : IsServiceLeaf marks whole s = (are.each s).0 (items.Contains-head s (t ∷ rest)) in
    let next : IsServiceLeaf marks whole t = (are.each t).0 (items.Contains-tail s t (t ∷ rest) second) in
    let one : whole ≡ s = first.longest whole first.part (λ service h. h) uncut in
    let two : whole ≡ t = next.longest whole next.part (λ service h. h) uncut in
    let rising : s.low < t.low = items.AllPairs-first (λ (x y : Service). x.low < y.low) s t (t ∷ rest) are.rising second in
    let same : s.low ≡ t.low = ap (λ (x : Service). x.low) (sym one ∙ two) in
    absurd (omega arith)
one-range marks whole other uncut are = omega arith

-- the policies go between prefixes of one length, and speak of all services
pub record AreEven (policies : List Policy) : Type 0 where
  pub from : (p : Policy) → Contains policies p → p.from.len ≡ 24
  pub to : (p : Policy) → Contains policies p → p.to.len ≡ 24
  pub service : (p : Policy) → Contains policies p → p.service ≡ whole_service

even-from : (net : Network) (policies : List Policy) (p : Policy) → net.packet_lists ≡ [] → AreEven policies → Contains policies p → ¬ IsSplit (source_marks net policies) p.from
even-from net policies p none even there split =
    let marks : Contains (map (λ (q : Policy). q.from) policies) split.mark =
    subst (λ (ls : List PacketList). Contains (flat_map (λ l. map (λ e. e.from) l.entries) ls ++ map (λ (q : Policy). q.from) policies) split.mark) none split.one in
    let other = items.from_map (λ (q : Policy). q.from) policies split.mark marks in
    let long : split.mark.len ≡ 24 = ap (λ (x : Prefix). x.len) (sym other.2) ∙ even.from other.0 other.1 in
    let whole : p.from.len ≡ 24 = even.from p there in
    let longer : p.from.len < split.mark.len = split.inside.longer in
    omega arith

even-to : (net : Network) (policies : List Policy) (p : Policy) → net.packet_lists ≡ [] → AreEven policies → Contains policies p → ¬ IsSplit (destination_marks net policies) p.to
even-to net policies p none even there split =
    let marks : Contains (map (λ (q : Policy). q.to) policies) split.mark =
    subst (λ (ls : List PacketList). Contains (flat_map (λ l. map (λ e. e.to) l.entries) ls ++ map (λ (q : Policy). q.to) policies) split.mark) none split.one in
    let other = items.from_map (λ (q : Policy). q.to) policies split.mark marks in
    let long : split.mark.len ≡ 24 = ap (λ (x : Prefix). x.len) (sym other.2) ∙ even.to other.0 other.1 in
    let whole : p.to.len ≡ 24 = even.to p there in
    let longer : p.to.len < split.mark.len = split.inside.longer in
    omega arith

-- all services are the only mark of all services
whole-marks : (mark : Service) → Contains (marks_of whole_service) mark → mark ≡ whole_service
whole-marks mark there = elim (items.Contains-cases whole_service mark [] there) [ inl same ↦ sym same | inr none ↦ absurd (items.Contains-none mark none) ]

even-services : (net : Network) (policies : List Policy) (p : Policy) → net.packet_lists ≡ [] → AreEven policies → Contains policies p → ¬ IsCut (service_marks net policies) p.service
even-services net policies p none even there cut =
    let marks : Contains (flat_map (λ (q : Policy). marks_of q.service) policies) cut.mark =
    subst (λ (ls : List PacketList). Contains (flat_map (λ l. flat_map (λ e. marks_of e.service) l.entries) ls ++ flat_map (λ (q : Policy). marks_of q.service) policies) cut.mark) none cut.one in
    let other = items.from_piece (λ (q : Policy). marks_of q.service) policies cut.mark marks in
    let whole : cut.mark ≡ p.service =
    whole-marks cut.mark (subst (λ (s : Service). Contains (marks_of s) cut.mark) (even.service other.0 other.1) other.2) ∙ sym (even.service p there) in
    let at : (service : ℕ) → Serves p.service service → serves cut.mark service ≡ true = λ service h. ap (λ (s : Service). serves s service) whole ∙ h in
    cut.parted (at cut.service cut.first ∙ sym (at (cut.service + 1) cut.next))

at-most-one : (x y : ℕ) → x ≤ 1 → y ≤ 1 → x * y ≤ 1
at-most-one (suc (suc x)) y low few = absurd (omega arith)
at-most-one x y low few = omega arith

pub one-class : (net : Network) (policies : List Policy) (p : Policy) (classes : List Class) → net.packet_lists ≡ [] → AreEven policies → Contains policies p →
    AreClasses net policies p classes → length classes ≤ 1
one-class net policies p classes none even there are =
    let sources = one-leaf (source_marks net policies) p.from are.sources (even-from net policies p none even there) are.sources_are in
    let targets = one-leaf (destination_marks net policies) p.to are.destinations (even-to net policies p none even there) are.destinations_are in
    let ranges = one-range (service_marks net policies) p.service are.services (even-services net policies p none even there) are.services_are in
    let product : length classes ≡ length are.sources * length are.destinations * length are.services = ap length are.triples ∙ length-triples are.sources are.destinations are.services in
    let pairs = at-most-one (length are.sources) (length are.destinations) sources targets in
    let few = at-most-one (length are.sources * length are.destinations) (length are.services) pairs ranges in
    omega arith

few-with : (classes : List Class) (class : Class) → length (with_class classes class) ≤ length classes + 1
few-with classes class = by (list_any (is_same_class class) classes)
  where
    by : (b : Bool) → length (cond b classes (classes ++ class ∷ [])) ≤ length classes + 1
    by true = omega arith
    by false = let long = length-append classes (class ∷ []) in omega arith

few-fold : (cs start : List Class) → length (fold with_class start cs) ≤ length start + length cs
few-fold [] start = omega arith
few-fold (c ∷ cs) start = let deeper = few-fold cs (with_class start c) in let one = few-with start c in omega arith

few-lists : (net : Network) (policies some : List Policy) (lists : List (List Class)) → net.packet_lists ≡ [] → AreEven policies →
    ((p : Policy) → Contains some p → Contains policies p) → AllZip (AreClasses net policies) some lists →
    length (flat_map (λ (l : List Class). l) lists) ≤ length some
few-lists net policies [] [] none even among zip = omega arith
few-lists net policies (p ∷ some) (l ∷ lists) none even among zip =
    let first = one-class net policies p l none even (among p (items.Contains-head p some)) zip.0 in
    let rest = few-lists net policies some lists none even (λ q there. among q (items.Contains-tail p q some there)) zip.1 in
    let long = length-append l (flat_map (λ (x : List Class). x) lists) in
    omega arith
few-lists net policies some lists none even among zip = absurd zip

pub few-classes : (net : Network) (policies some : List Policy) (classes : List Class) → net.packet_lists ≡ [] → AreEven policies →
    ((p : Policy) → Contains some p → Contains policies p) → AreAllClasses net policies some classes → length classes ≤ length some
few-classes net policies some classes none even among all =
    let lists = few-lists net policies some all.lists none even among all.are in
    let once : length (each_once (flat_map (λ (l : List Class). l) all.lists)) ≤ 0 + length (flat_map (λ (l : List Class). l) all.lists) = few-fold (flat_map (λ (l : List Class). l) all.lists) [] in
    let same : length classes ≡ length (each_once (flat_map (λ (l : List Class). l) all.lists)) = ap length all.once in
    omega arith

-- the number that a fault tells is no more than there are
pub told-few : (n count : ℕ) → told n ≡ count → count ≤ n
told-few n count is = let least = min-le_left n (2 ^ 64 - 1) in omega (arith, is, least)

-- and so of the first policies
pub few-first : (net : Network) (policies : List Policy) (count : ℕ) → net.packet_lists ≡ [] → AreEven policies → FirstHaveMore net policies count → count ≤ length policies
few-first net policies count none even first =
    let k = first.place + 1 in
    let front = take k policies in
    let whole : front ++ drop k policies ≡ policies = take-append-drop k policies in
    let classes = first.with_it.classes in
    let few = few-classes net policies front classes none even (λ p there. subst (λ ps. Contains ps p) whole (Contains-append_left front (drop k policies) p there)) first.with_it.are in
    let counted : count ≤ length classes = told-few (length classes) count first.with_it.counted in
    let long : length front + length (drop k policies) ≡ length policies = sym (length-append front (drop k policies)) ∙ ap length whole in
    omega arith
