-- Of more paths than failed links, no link twice in them, one path has no failed link.
use Rattle.std.proofs.Common.{◌≡◌, ℕ, zero, suc, ◌+◌, ◌*◌, ◌<◌, ◌≤◌, ◌≢◌, ◌⊎◌, inl, inr, Bool, true, false, List, [], ◌∷◌, ◌++◌, length, ap, refl, sym, ◌∙◌, subst, arith}
use Rattle.std.specs.Prelude.{All, AllPairs, IsFalse, ◌==◌, count_by, cond}
use Rattle.std.specs.List.{AllByRecursion, flat_map, range_with_len}
use Rattle.std.proofs.lemmas.Bool.{cases_lt, eq-eqb, ne_eqb, cases_Bool}
use Rattle.std.proofs.lemmas.Bool.Decides.{eqb_tells}
use Rattle.std.proofs.lemmas.Option.{slice_get_within}
use Rattle.std.proofs.lemmas.List.Sums.{sum_by-cons}
use Rattle.std.proofs.lemmas.List.Elements.{All-head, All-tail}
use Rattle.arc_base.specs.declared.place.Link.{Link}
use Rattle.arc_base.specs.declared.prefix.Prefix.{Prefix}
use Rattle.arc_base.proofs.Items.{AllPairs-rest}
use Rattle.arc_base.proofs.Zips.{AllByRecursion-append}
use Rattle.net_model.specs.declared.verdicts.LinkPath.{LinkPath}
use Rattle.net_model.specs.declared.rows.Network.{Network}
use Rattle.net_model.specs.Routing.{Arc, head_router}
use Rattle.net_model.specs.Forwarding.{Ends, failures}
use Rattle.net_model.specs.Witnesses.{Path, IsPath, links_of}
use Rattle.net_laws.proofs.Counting.{total, total-add, total-cong, total-const, total-mono, total-sum, ind}
use Rattle.net_laws.proofs.Cover.{AllPairs-first}

-- how many of the links have failed
abbrev pub hits : (ℕ → Bool) → List Link → ℕ
hits failed [] = 0
hits failed (l ∷ ls) = ind (failed l.0) + hits failed ls

hits-append : (failed : ℕ → Bool) (ls ms : List Link) → hits failed (ls ++ ms) ≡ hits failed ls + hits failed ms
hits-append failed [] ms = omega arith
hits-append failed (l ∷ ls) ms = omega (arith, hits-append failed ls ms)

-- how often a link stands in the list
abbrev pub times : List Link → ℕ → ℕ
times [] link = 0
times (l ∷ ls) link = ind (l.0 == link) + times ls link

never : (l : Link) (ls : List Link) → All (λ m. l ≢ m) ls → times ls l.0 ≡ 0
never l [] all = refl
never l (m ∷ ls) all =
    let D : Link → Type 0 = λ x. l ≢ x in
    let rest : times ls l.0 ≡ 0 = never l ls (All-tail D m ls all) in
    let off : ind (m.0 == l.0) ≡ 0 = ap ind (ne_eqb m.0 l.0 (λ e. All-head D m ls all (ap (λ (k : ℕ). record { 0 = k }) (sym e)))) in
    omega (arith, rest, off)

at_most_once : (ls : List Link) → AllPairs (λ l m. l ≢ m) ls → (link : ℕ) → times ls link ≤ 1
at_most_once [] apart link = omega arith
at_most_once (l ∷ ls) apart link =
    let D : Link → Link → Type 0 = λ x y. x ≢ y in
    let rest : times ls link ≤ 1 = at_most_once ls (AllPairs-rest D l ls apart) link in
    elim (eqb_tells l.0 link) [
      | inl at ↦
          let one : ind (l.0 == link) ≡ 1 = ap ind at.0 in
          let none : times ls link ≡ 0 = subst (λ (k : ℕ). times ls k ≡ 0) at.1 (never l ls (AllPairs-first D l ls apart)) in
          omega (arith, one, none)
      | inr off ↦ let zero_here : ind (l.0 == link) ≡ 0 = ap ind off.0 in omega (arith, zero_here, rest)
    ]

-- the sum of g over the places of x is g at x
pub total-single : (n x : ℕ) (g : ℕ → ℕ) → x < n → total n (λ k. ind (x == k) * g k) ≡ g x
unfolding total
total-single zero x g l = absurd (omega arith)
total-single (suc n) x g l =
    elim (cases_lt x n) [
      | inl below ↦
          let off : ind (x == n) ≡ 0 = ap ind (ne_eqb x n (λ e. omega arith)) in
          omega (arith, total-single n x g below, ap (λ (k : ℕ). k * g n) off)
      | inr at ↦
          let e : x ≡ n = omega arith in
          let front : total n (λ k. ind (x == k) * g k) ≡ n * 0 =
          total-const n 0 (λ k. ind (x == k) * g k) (λ k m. ap (λ (i : ℕ). i * g k) (ap ind (ne_eqb x k (λ q. omega arith))) ∙ (omega arith)) in
          let last : ind (x == n) ≡ 1 = ap ind (eq-eqb x n e) in
          let value : g n ≡ g x = ap g (sym e) in
          omega (arith, front, ap (λ (k : ℕ). k * g n) last, value)
    ]

hits-total : (n : ℕ) (failed : ℕ → Bool) (ls : List Link) → AllByRecursion (λ l. l.0 < n) ls →
    hits failed ls ≡ total n (λ k. times ls k * ind (failed k))
hits-total n failed [] within = sym (total-const n 0 (λ k. 0 * ind (failed k)) (λ k m. omega arith) ∙ (omega arith))
hits-total n failed (l ∷ ls) within =
    let rest : hits failed ls ≡ total n (λ k. times ls k * ind (failed k)) = hits-total n failed ls within.1 in
    let one : total n (λ k. ind (l.0 == k) * ind (failed k)) ≡ ind (failed l.0) = total-single n l.0 (λ k. ind (failed k)) within.0 in
    let both : total n (λ k. ind (l.0 == k) * ind (failed k) + times ls k * ind (failed k)) ≡
    total n (λ k. ind (l.0 == k) * ind (failed k)) + total n (λ k. times ls k * ind (failed k)) =
    total-sum n (λ k. ind (l.0 == k) * ind (failed k)) (λ k. times ls k * ind (failed k)) in
    let spread : total n (λ k. (ind (l.0 == k) + times ls k) * ind (failed k)) ≡ total n (λ k. ind (l.0 == k) * ind (failed k) + times ls k * ind (failed k)) =
    total-cong n (λ k. (ind (l.0 == k) + times ls k) * ind (failed k)) (λ k. ind (l.0 == k) * ind (failed k) + times ls k * ind (failed k)) (λ k m. omega arith) in
    omega (arith, rest, one, both, spread)

pub once_or_less : (m : ℕ) (b : Bool) → m ≤ 1 → m * ind b ≤ ind b
once_or_less m true l = omega arith
once_or_less m false l = omega arith

pub count-range : (f : ℕ → Bool) (a n : ℕ) → count_by f (range_with_len a n) ≡ total n (λ k. ind (f (a + k)))
unfolding total
count-range f a zero = refl
count-range f a (suc n) =
    let rest : count_by f (range_with_len (a + 1) n) ≡ total n (λ k. ind (f ((a + 1) + k))) = count-range f (a + 1) n in
    let head : count_by f (a ∷ range_with_len (a + 1) n) ≡ ind (f a) + count_by f (range_with_len (a + 1) n) =
    sum_by-cons (λ x. cond (f x) 1 0) a (range_with_len (a + 1) n) in
    let e : 1 + n ≡ suc n = omega arith in
    let split : total (suc n) (λ k. ind (f (a + k))) ≡ total 1 (λ k. ind (f (a + k))) + total n (λ k. ind (f (a + (1 + k)))) =
    ap (λ (x : ℕ). total x (λ k. ind (f (a + k)))) (sym e) ∙ total-add 1 n (λ k. ind (f (a + k))) in
    let first : ind (f (a + 0)) ≡ ind (f a) = ap (λ (x : ℕ). ind (f x)) (omega arith) in
    let later : total n (λ k. ind (f (a + (1 + k)))) ≡ total n (λ k. ind (f ((a + 1) + k))) =
    total-cong n (λ k. ind (f (a + (1 + k)))) (λ k. ind (f ((a + 1) + k))) (λ k m. ap (λ (x : ℕ). ind (f x)) (omega arith)) in
    omega (arith, rest, head, split, first, later)

-- different links of the network that have failed are no more than the failures
pub hits-few : (net : Network) (failed : ℕ → Bool) (ls : List Link) → AllByRecursion (λ l. l.0 < length net.links) ls → AllPairs (λ l m. l ≢ m) ls →
    hits failed ls ≤ failures net failed
hits-few net failed ls within apart =
    let n : ℕ = length net.links in
    let count : hits failed ls ≡ total (length net.links) (λ k. times ls k * ind (failed k)) = hits-total (length net.links) failed ls within in
    let few : total (length net.links) (λ k. times ls k * ind (failed k)) ≤ total (length net.links) (λ k. ind (failed k)) =
    total-mono (length net.links) (λ k. ind (failed k)) (λ k. times ls k * ind (failed k)) (λ k l. once_or_less (times ls k) (failed k) (at_most_once ls apart k)) in
    let all : failures net failed ≡ total (length net.links) (λ k. ind (failed (0 + k))) = count-range failed 0 (length net.links) in
    let same : total (length net.links) (λ k. ind (failed (0 + k))) ≡ total (length net.links) (λ k. ind (failed k)) =
    total-cong (length net.links) (λ k. ind (failed (0 + k))) (λ k. ind (failed k)) (λ k m. ap (λ (x : ℕ). ind (failed x)) (omega arith)) in
    omega (arith, count, few, all, same)

-- no link of the arcs has failed
abbrev pub Alive : (ℕ → Bool) → List Arc → Type 0
Alive failed arcs = AllByRecursion (λ arc. IsFalse (failed arc.link)) arcs

alive_or_hit : (failed : ℕ → Bool) (arcs : List Arc) → Alive failed arcs ⊎ (1 ≤ hits failed (links_of arcs))
alive_or_hit failed [] = inl tt
alive_or_hit failed (arc ∷ arcs) =
    elim (cases_Bool (failed arc.link)) [
      | inl down ↦ inr (let one : ind (failed arc.link) ≡ 1 = ap ind down in omega (arith, one))
      | inr up ↦ elim (alive_or_hit failed arcs) [
        | inl alive ↦ inl (up, alive)
        | inr hit ↦ inr (omega (arith, hit))
      ]
    ]

within_net : (net : Network) (to : Prefix) (t : ℕ) (u : ℕ) (arcs : List Arc) → Path net to u arcs t → AllByRecursion (λ l. l.0 < length net.links) (links_of arcs)
within_net net to t u [] path = tt
within_net net to t u (arc ∷ arcs) path =
    (slice_get_within net.links arc.link arc.row path.0.link, within_net net to t (head_router arc) arcs path.3)

all_within : (net : Network) (ends : Ends) (paths : List LinkPath) → All (IsPath net ends) paths →
    AllByRecursion (λ l. l.0 < length net.links) (flat_map (λ p. p.links) paths)
all_within net ends [] all = tt
all_within net ends (path ∷ paths) all =
    let shown : IsPath net ends path = All-head (IsPath net ends) path paths all in
    let In : Link → Type 0 = λ l. l.0 < length net.links in
    AllByRecursion-append In path.links (flat_map (λ (p : LinkPath). p.links) paths)
    (subst (AllByRecursion In) shown.links (within_net net ends.to _ _ shown.arcs shown.leads))
    (all_within net ends paths (All-tail (IsPath net ends) path paths all))

-- a path of which no link has failed
pub record Survivor (net : Network) (ends : Ends) (failed : ℕ → Bool) : Type 0 where
  pub path : LinkPath
  pub shown : IsPath net ends path
  pub alive : Alive failed shown.arcs

survivor_or_hits : (net : Network) (ends : Ends) (failed : ℕ → Bool) (paths : List LinkPath) → All (IsPath net ends) paths →
    Survivor net ends failed ⊎ (length paths ≤ hits failed (flat_map (λ p. p.links) paths))
survivor_or_hits net ends failed [] all = inr (omega arith)
survivor_or_hits net ends failed (path ∷ paths) all =
    let shown : IsPath net ends path = All-head (IsPath net ends) path paths all in
    elim (alive_or_hit failed shown.arcs) [
      | inl alive ↦ inl (record { path = path; shown = shown; alive = alive })
      | inr hit ↦ elim (survivor_or_hits net ends failed paths (All-tail (IsPath net ends) path paths all)) [
        | inl found ↦ inl found
        | inr more ↦ inr (
            let here : 1 ≤ hits failed path.links = subst (λ (ls : List Link). 1 ≤ hits failed ls) shown.links hit in
            omega (arith, here, more, hits-append failed path.links (flat_map (λ (p : LinkPath). p.links) paths)))
      ]
    ]

pub survivor : (net : Network) (ends : Ends) (failed : ℕ → Bool) (k : ℕ) (paths : List LinkPath) → All (IsPath net ends) paths →
    AllPairs (λ l m. l ≢ m) (flat_map (λ p. p.links) paths) → length paths ≡ k + 1 → failures net failed ≤ k → Survivor net ends failed
survivor net ends failed k paths all apart many few =
    elim (survivor_or_hits net ends failed paths all) [
      | inl found ↦ found
      | inr hit ↦ absurd (omega (arith, hit, many, few, hits-few net failed (flat_map (λ (p : LinkPath). p.links) paths) (all_within net ends paths all) apart))
    ]
