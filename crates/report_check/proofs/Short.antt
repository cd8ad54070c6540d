-- The witnesses of right verdicts are short, and so are reports of them.
use Rattle.std.proofs.Common.{◌≡◌, ◌≢◌, ℕ, ◌+◌, ◌<◌, ◌≤◌, ◌==◌, ◌||◌, Bool, true, false, List, [], ◌∷◌, ◌++◌, length, get_or, map, refl, sym, subst, arith, All, length-append}
use Rattle.std.specs.Prelude.{AllPairs}
use Rattle.std.specs.List.{AllZip, flat_map, list_any}
use Rattle.std.proofs.lemmas.Bool.{eqb-true, false≢true, ne_eqb}
use Rattle.std.proofs.lemmas.List.{length-map, get_or_append_left}
use Rattle.std.proofs.lemmas.List.Elements.{All-nil, All-cons, All-head, All-tail, All-weaker}
use Rattle.std.proofs.lemmas.Map.Keys.{IsDistinct-from_apart}
use Rattle.std.proofs.lemmas.Map.Steps.{length-le_from_distinct_below}
use Rattle.arc_base.specs.declared.place.Link.{Link}
use Rattle.arc_base.proofs.Items.{AllPairs-rest, AllPairs-map, AllPairs-among}
use Rattle.net_model.specs.declared.policies.Class.{Class}
use Rattle.net_model.specs.declared.policies.Policy.{Policy}
use Rattle.net_model.specs.declared.policies.PolicyKind.{PolicyKind}
use Rattle.net_model.specs.declared.policies.PolicyKind.TheVariants.{Blocked, Through, Reach}
use Rattle.net_model.specs.declared.rows.Network.{Network}
use Rattle.net_model.specs.declared.verdicts.LinkPath.{LinkPath}
use Rattle.net_model.specs.declared.verdicts.Verdict.{Verdict}
use Rattle.net_model.specs.declared.verdicts.Verdict.TheVariants.{Closed, Paths, Walk, Denied, Cut, Refused}
use Rattle.net_model.specs.Forwarding.{Ends}
use Rattle.net_model.specs.Packets.{subject}
use Rattle.net_model.specs.Routing.{Arc, head_router}
use Rattle.net_model.specs.Validity.{IsValid}
use Rattle.net_model.specs.Witnesses.{IsRight, IsRightFor, IsRightBlocking, IsRightReach, IsPath, Path, links_of}
use Rattle.policy_report.specs.Lengths.{IsShort}
use Rattle.policy_report.specs.Reports.{witness_lines, closed_line, path_line}
use Rattle.policy_report.specs.Rereading.{AreLinks}
use Rattle.policy_report.proofs.Lengths.{reports_are_short}
use Rattle.report_check.specs.Lengths.{HasFewLines, HasFewFailures, RightReportsAreShort}
use Rattle.report_check.proofs.Readable.{all_readable, are_links}

-- there are no more different numbers below a bound than the bound
any_below : (n q : ℕ) (xs : List ℕ) → All (λ x. x < n) xs → list_any (λ x. q == x) xs ≡ true → q < n
any_below n q [] h e = absurd (false≢true e)
any_below n q (x ∷ xs) h e = by (q == x) refl (any_below n q xs (All-tail (λ x. x < n) x xs h)) e
  where
    by : (b : Bool) → (q == x) ≡ b → (list_any (λ x. q == x) xs ≡ true → q < n) → (b || list_any (λ x. q == x) xs) ≡ true → q < n
    by true is rest e = subst (λ (k : ℕ). k < n) (sym (eqb-true q x is)) (All-head (λ x. x < n) x xs h)
    by false is rest e = rest e

few_below : (n : ℕ) (xs : List ℕ) → All (λ x. x < n) xs → AllPairs (λ x y. x ≢ y) xs → length xs ≤ n
few_below n xs below apart =
    length-le_from_distinct_below xs n (IsDistinct-from_apart (λ a b. a == b) xs (λ i j d l m. ne_eqb _ _ (apart i j d l m))) (λ q e. any_below n q xs below e)

-- different links of a network are few
few_links : (net : Network) → IsValid net → (links : List Link) → AreLinks net links → AllPairs (λ l m. l ≢ m) links → length links ≤ 1024
few_links net valid links are apart =
    let places : List ℕ = map (λ (l : Link). l.0) links in
    let all : length net.links ≤ 1024 = valid.few_links in
    let few : length places ≤ length net.links =
    few_below (length net.links) places (below links are)
    (AllPairs-map (λ (a : ℕ) (b : ℕ). a ≢ b) (λ (l : Link). l.0) links
    (AllPairs-among (λ (l : Link) (m : Link). l ≢ m) (λ (l : Link) (m : Link). l.0 ≢ m.0) links (λ l m in_l in_m differ e. differ (λ i. record { 0 = e i })) apart)) in
    omega (arith, few, length-map links (λ (l : Link). l.0))
  where
    below : (ls : List Link) → AreLinks net ls → All (λ k. k < length net.links) (map (λ (l : Link). l.0) ls)
    below [] h = All-nil (λ k. k < length net.links)
    below (l ∷ ls) h =
        All-cons (λ k. k < length net.links) l.0 (map (λ (l : Link). l.0) ls) (All-head (λ l. l.0 < length net.links) l ls h) (below ls (All-tail (λ l. l.0 < length net.links) l ls h))

-- the links of a path that repeats no router are few
path_routers : (net : Network) (valid : IsValid net) (to : _) (u v : ℕ) (arcs : List Arc) → Path net to u arcs v → All (λ r. r < length net.routers) (map head_router arcs)
path_routers net valid to u v [] is = All-nil (λ r. r < length net.routers)
path_routers net valid to u v (arc ∷ arcs) is =
    All-cons (λ r. r < length net.routers) (head_router arc) (map head_router arcs) (valid.faces _ arc.head is.0.head).router (path_routers net valid to (head_router arc) v arcs is.3)

walk_links : (net : Network) → IsValid net → (to : _) (u v : ℕ) (arcs : List Arc) → Path net to u arcs v → AllPairs (λ a b. a ≢ b) (u ∷ map head_router arcs) → length (links_of arcs) ≤ 1024
walk_links net valid to u v arcs is once =
    let few : length net.routers ≤ 256 = valid.few_routers in
    let heads : length (map head_router arcs) ≤ length net.routers =
    few_below (length net.routers) (map head_router arcs) (path_routers net valid to u v arcs is) (AllPairs-rest (λ (a : ℕ) (b : ℕ). a ≢ b) u (map head_router arcs) once) in
    let link : Arc → Link = λ arc. record { 0 = arc.link } in
    omega (arith, heads, length-map arcs head_router, length-map arcs link)

-- the items at the front of a list are related as all are
front_apart : {X : Type 0} (R : X → X → Type 0) (xs ys : List X) → AllPairs R (xs ++ ys) → AllPairs R xs
front_apart {X} R xs ys all i j d l m =
    let short : j < length (xs ++ ys) = omega (arith, m, length-append xs ys) in
    subst (λ (b : X). R (get_or xs i d) b) (get_or_append_left xs ys d j m)
    (subst (λ (a : X). R a (get_or (xs ++ ys) j d)) (get_or_append_left xs ys d i (omega (arith, l, m))) (all i j d l short))

rest_apart : {X : Type 0} (R : X → X → Type 0) (xs ys : List X) → AllPairs R (xs ++ ys) → AllPairs R ys
rest_apart R [] ys all = all
rest_apart R (x ∷ xs) ys all = rest_apart R xs ys (AllPairs-rest R x (xs ++ ys) all)

-- the links of link-disjoint paths are few
paths_links : (net : Network) → IsValid net → (paths : List LinkPath) → All (λ p. AreLinks net p.links) paths → AllPairs (λ l m. l ≢ m) (flat_map (λ path. path.links) paths) →
    All (λ p. length p.links ≤ 1024) paths
paths_links net valid [] are once = All-nil (λ (p : LinkPath). length p.links ≤ 1024)
paths_links net valid (p ∷ paths) are once =
    let rest : List Link = flat_map (λ (path : LinkPath). path.links) paths in
    All-cons (λ (p : LinkPath). length p.links ≤ 1024) p paths
    (few_links net valid p.links (All-head (λ (p : LinkPath). AreLinks net p.links) p paths are) (front_apart (λ (l : Link) (m : Link). l ≢ m) p.links rest once))
    (paths_links net valid paths (All-tail (λ (p : LinkPath). AreLinks net p.links) p paths are) (rest_apart (λ (l : Link) (m : Link). l ≢ m) p.links rest once))

paths_are_links : (net : Network) (ends : Ends) (paths : List LinkPath) → All (IsPath net ends) paths → All (λ p. AreLinks net p.links) paths
paths_are_links net ends paths h = All-weaker (IsPath net ends) (λ (p : LinkPath). AreLinks net p.links) (λ p path. are_links net ends p path) paths h

short_blocking : (net : Network) (ends : Ends) (kind : PolicyKind) (whole : Class) (v : Verdict) → IsValid net → IsRightBlocking net ends kind whole v → length (witness_lines net v) ≤ 4096 → IsShort v
short_blocking net ends kind whole (Closed sides) valid right few = omega (arith, few, length-map sides (closed_line net))
short_blocking net ends kind whole (Walk class path) valid right few =
    subst (λ (ls : List Link). length ls ≤ 1024) right.path.links (walk_links net valid ends.to _ _ right.path.arcs right.path.leads right.once)
short_blocking net ends kind whole (Paths paths) valid right few = absurd right
short_blocking net ends kind whole (Denied class) valid right few = absurd right
short_blocking net ends kind whole (Cut links side) valid right few = absurd right
short_blocking net ends kind whole (Refused packet link) valid right few = absurd right

short_reach : (net : Network) (ends : Ends) (k : ℕ) (whole : Class) (v : Verdict) → IsValid net → IsRightReach net ends k whole v → k ≤ 1024 → length (witness_lines net v) ≤ 4096 → IsShort v
short_reach net ends k whole (Paths paths) valid right small few =
    (omega (arith, few, length-map paths path_line), paths_links net valid paths (paths_are_links net ends paths right.are_paths) right.once)
short_reach net ends k whole (Denied class) valid right small few = tt
short_reach net ends k whole (Cut links side) valid right small few = omega (arith, right.few)
short_reach net ends k whole (Refused packet link) valid right small few = tt
short_reach net ends k whole (Closed sides) valid right small few = absurd right
short_reach net ends k whole (Walk class path) valid right small few = absurd right

short_for : (net : Network) (ends : Ends) (kind : PolicyKind) (whole : Class) (v : Verdict) → IsValid net → IsRightFor net ends kind whole v → HasFewFailures kind →
    length (witness_lines net v) ≤ 4096 → IsShort v
short_for net ends Blocked whole v valid right small few = short_blocking net ends Blocked whole v valid right few
short_for net ends Through whole v valid right small few = short_blocking net ends Through whole v valid right few
short_for net ends (Reach k) whole v valid right small few = short_reach net ends k whole v valid right small few

all_short : (net : Network) (policies : List Policy) (vs : List Verdict) → IsValid net → AllZip (IsRight net) policies vs →
    All (λ p. HasFewFailures p.kind) policies → All (HasFewLines net) vs → All IsShort vs
all_short net [] [] valid right small few = All-nil IsShort
all_short net [] (v ∷ vs) valid right small few = absurd right
all_short net (policy ∷ policies) [] valid right small few = absurd right
all_short net (policy ∷ policies) (v ∷ vs) valid right small few =
    All-cons IsShort v vs
    (short_for net right.0.ends policy.kind (subject policy) v valid right.0.right (All-head (λ (p : Policy). HasFewFailures p.kind) policy policies small) (All-head (HasFewLines net) v vs few))
    (all_short net policies vs valid right.1 (All-tail (λ (p : Policy). HasFewFailures p.kind) policy policies small) (All-tail (HasFewLines net) v vs few))

pub right_reports_are_short : RightReportsAreShort
right_reports_are_short net doc vs valid policies small right few =
    let readable = all_readable net doc.policies vs right (All-weaker (HasFewLines net) (λ (v : Verdict). length (witness_lines net v) ≤ 4294967295) (λ v h. omega arith) vs few) in
    reports_are_short net doc vs valid policies readable (all_short net doc.policies vs valid right small few)
