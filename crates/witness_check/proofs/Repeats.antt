-- What of a list stands twice, item by item.
use Rattle.std.proofs.Common.{◌≡◌, ℕ, suc, ◌+◌, ◌-◌, ◌<◌, ◌≤◌, ◌⊎◌, inl, inr, List, [], ◌∷◌, ◌++◌, length, get_or, take, drop, sym, ◌∙◌, ap, subst, arith}
use Rattle.std.specs.Prelude.{◌↔◌, All, AllPairs, Contains}
use Rattle.std.specs.List.{flat_map}
use Rattle.std.proofs.lemmas.List.{drop_more, drop_all, take_rest, get_or_default}
use Rattle.std.proofs.lemmas.List.Elements.{Contains-append_left, Contains-append_right, Contains-append_cases}
use Rattle.std.proofs.lemmas.List.Kept.{AllPairs-cons}
use Rattle.arc_base.specs.declared.place.Link.{Link}
use Rattle.arc_base.proofs.Items.{AllPairs-rest, AllPairs-none, Contains-head, Contains-tail, Contains-cases, Contains-none}
use Rattle.net_model.specs.declared.verdicts.LinkPath.{LinkPath}
use Rattle.witness_check.specs.Paths.{AreApart, StandOnce}

module _ {X : Type 0} (R : X → X → Type 0) where
  pub pairs_first : (x : X) (xs : List X) → AllPairs R (x ∷ xs) → All (R x) xs
  pairs_first x xs pairs k d less = pairs 0 (suc k) d (omega arith) (omega arith)

  -- the pairs of what is left of a list, one item on
  pub pairs_on_at : (A : Type 0) (xs : List X) (i : ℕ) (x : X) → i < length xs → x ≡ get_or xs i x → All (R x) (take (length xs - (i + 1)) (drop (i + 1) xs)) →
      (A ↔ AllPairs R (drop i xs)) → A ↔ AllPairs R (drop (i + 1) xs)
  pairs_on_at A xs i x within read first before =
      let split : drop i xs ≡ x ∷ drop (i + 1) xs = drop_more xs i x within ∙ ap (λ (z : X). z ∷ drop (i + 1) xs) (sym read) in
      let others : All (R x) (drop (i + 1) xs) = subst (λ (ys : List X). All (R x) ys) (take_rest xs (i + 1)) first in (
        λ a. AllPairs-rest R x (drop (i + 1) xs) (subst (λ (ys : List X). AllPairs R ys) split (before.0 a)),
        λ rest. before.1 (subst (λ (ys : List X). AllPairs R ys) (sym split) (AllPairs-cons R x (drop (i + 1) xs) others rest)),
      )

  pub pairs_first_at : (xs : List X) (i : ℕ) (x : X) → i < length xs → x ≡ get_or xs i x → AllPairs R (drop i xs) → All (R x) (take (length xs - (i + 1)) (drop (i + 1) xs))
  pairs_first_at xs i x within read pairs =
      let split : drop i xs ≡ x ∷ drop (i + 1) xs = drop_more xs i x within ∙ ap (λ (z : X). z ∷ drop (i + 1) xs) (sym read) in
      subst (λ (ys : List X). All (R x) ys) (sym (take_rest xs (i + 1))) (pairs_first x (drop (i + 1) xs) (subst (λ (ys : List X). AllPairs R ys) split pairs))

-- links that differ pair by pair
apart_from : (x : Link) (xs : List Link) → (Contains xs x → ⊥) → All (AreApart x) xs
apart_from x xs none k d less same = none (k, less, get_or_default xs k x d less ∙ sym same)

not_among : (x : Link) (xs : List Link) → All (AreApart x) xs → Contains xs x → ⊥
not_among x xs apart at = apart at.0 x at.1 (sym at.2)

pub once_first : (x : Link) (xs others : List Link) → StandOnce (x ∷ xs) others → (Contains xs x → ⊥) × (Contains others x → ⊥)
once_first x xs others once = (not_among x xs (pairs_first AreApart x xs once.0), once.1 x (Contains-head x xs))

pub once_rest : (x : Link) (xs others : List Link) → StandOnce (x ∷ xs) others → StandOnce xs others
once_rest x xs others once = (AllPairs-rest AreApart x xs once.0, λ l at. once.1 l (Contains-tail x l xs at))

pub once_more : (x : Link) (xs others : List Link) → (Contains xs x → ⊥) → (Contains others x → ⊥) → StandOnce xs others → StandOnce (x ∷ xs) others
once_more x xs others not_here not_there once = (
  AllPairs-cons AreApart x xs (apart_from x xs not_here) once.0,
  λ l at other. elim (Contains-cases x l xs at) [
    | inl same ↦ not_there (subst (λ (z : Link). Contains others z) (sym same) other)
    | inr later ↦ once.1 l later other
  ],
)

pub once_none : (others : List Link) → StandOnce [] others
once_none others = (AllPairs-none AreApart, λ l at other. Contains-none l at)

-- no link stands twice in two lists after one another where each stands once in the first, apart from the second, and once in the second
pub joined : (xs ys : List Link) → StandOnce xs ys → AllPairs AreApart ys → AllPairs AreApart (xs ++ ys)
joined [] ys once pairs = pairs
joined (x ∷ xs) ys once pairs =
    let first : (Contains xs x → ⊥) × (Contains ys x → ⊥) = once_first x xs ys once in
    AllPairs-cons AreApart x (xs ++ ys) (apart_from x (xs ++ ys) (λ at. elim (Contains-append_cases xs ys x at) [ inl a ↦ first.0 a | inr b ↦ first.1 b ]))
    (joined xs ys (once_rest x xs ys once) pairs)

pub parted : (xs ys : List Link) → AllPairs AreApart (xs ++ ys) → StandOnce xs ys × AllPairs AreApart ys
parted [] ys pairs = (once_none ys, pairs)
parted (x ∷ xs) ys pairs =
    let rest : StandOnce xs ys × AllPairs AreApart ys = parted xs ys (AllPairs-rest AreApart x (xs ++ ys) pairs) in
    let none : Contains (xs ++ ys) x → ⊥ = not_among x (xs ++ ys) (pairs_first AreApart x (xs ++ ys) pairs) in
    (once_more x xs ys (λ at. none (Contains-append_left xs ys x at)) (λ at. none (Contains-append_right xs ys x at)) rest.0, rest.1)

-- a look at each path in turn
abbrev links_in : LinkPath → List Link
links_in path = path.links

flat_at : (paths : List LinkPath) (i : ℕ) (path : LinkPath) → i < length paths → path ≡ get_or paths i path →
    flat_map links_in (drop i paths) ≡ path.links ++ flat_map links_in (drop (i + 1) paths)
flat_at paths i path within read =
    ap (λ (ps : List LinkPath). flat_map links_in ps) (drop_more paths i path within ∙ ap (λ (z : LinkPath). z ∷ drop (i + 1) paths) (sym read))

pub used_at : (A : Type 0) (paths : List LinkPath) (i : ℕ) (path : LinkPath) (link : Link) → i < length paths → path ≡ get_or paths i path → Contains path.links link →
    (A ↔ Contains (flat_map (λ path. path.links) (drop i paths)) link) → A
used_at A paths i path link within read at before =
    before.1 (subst (λ (ls : List Link). Contains ls link) (sym (flat_at paths i path within read)) (Contains-append_left path.links (flat_map links_in (drop (i + 1) paths)) link at))

pub used_on_at : (A : Type 0) (paths : List LinkPath) (i : ℕ) (path : LinkPath) (link : Link) → i < length paths → path ≡ get_or paths i path → (Contains path.links link → ⊥) →
    (A ↔ Contains (flat_map (λ path. path.links) (drop i paths)) link) → A ↔ Contains (flat_map (λ path. path.links) (drop (i + 1) paths)) link
used_on_at A paths i path link within read none before =
    let split : flat_map links_in (drop i paths) ≡ path.links ++ flat_map links_in (drop (i + 1) paths) = flat_at paths i path within read in (
      λ a. elim (Contains-append_cases path.links (flat_map links_in (drop (i + 1) paths)) link (subst (λ (ls : List Link). Contains ls link) split (before.0 a))) [
        | inl h ↦ absurd (none h)
        | inr later ↦ later
      ],
      λ later. before.1 (subst (λ (ls : List Link). Contains ls link) (sym split) (Contains-append_right path.links (flat_map links_in (drop (i + 1) paths)) link later)),
    )

pub unused_at : (A : Type 0) (paths : List LinkPath) (i : ℕ) (link : Link) → length paths ≤ i → (A ↔ Contains (flat_map (λ path. path.links) (drop i paths)) link) → A → ⊥
unused_at A paths i link past before a =
    Contains-none link (subst (λ (ps : List LinkPath). Contains (flat_map links_in ps) link) (drop_all i paths past) (before.0 a))

pub disjoint_first_at : (paths : List LinkPath) (i : ℕ) (path : LinkPath) → i < length paths → path ≡ get_or paths i path → AllPairs AreApart (flat_map (λ path. path.links) (drop i paths)) →
    StandOnce path.links (flat_map (λ path. path.links) (take (length paths - (i + 1)) (drop (i + 1) paths)))
disjoint_first_at paths i path within read pairs =
    subst (λ (ps : List LinkPath). StandOnce path.links (flat_map links_in ps)) (sym (take_rest paths (i + 1)))
    (parted path.links (flat_map links_in (drop (i + 1) paths)) (subst (λ (ls : List Link). AllPairs AreApart ls) (flat_at paths i path within read) pairs)).0

pub disjoint_on_at : (A : Type 0) (paths : List LinkPath) (i : ℕ) (path : LinkPath) → i < length paths → path ≡ get_or paths i path →
    StandOnce path.links (flat_map (λ path. path.links) (take (length paths - (i + 1)) (drop (i + 1) paths))) →
    (A ↔ AllPairs AreApart (flat_map (λ path. path.links) (drop i paths))) → A ↔ AllPairs AreApart (flat_map (λ path. path.links) (drop (i + 1) paths))
disjoint_on_at A paths i path within read once before =
    let split : flat_map links_in (drop i paths) ≡ path.links ++ flat_map links_in (drop (i + 1) paths) = flat_at paths i path within read in
    let others : StandOnce path.links (flat_map links_in (drop (i + 1) paths)) =
    subst (λ (ps : List LinkPath). StandOnce path.links (flat_map links_in ps)) (take_rest paths (i + 1)) once in (
      λ a. (parted path.links (flat_map links_in (drop (i + 1) paths)) (subst (λ (ls : List Link). AllPairs AreApart ls) split (before.0 a))).1,
      λ rest. before.1 (subst (λ (ls : List Link). AllPairs AreApart ls) (sym split) (joined path.links (flat_map links_in (drop (i + 1) paths)) others rest)),
    )

pub disjoint_end : (A : Type 0) (paths : List LinkPath) (i : ℕ) → length paths ≤ i → (A ↔ AllPairs AreApart (flat_map (λ path. path.links) (drop i paths))) → A
disjoint_end A paths i past before =
    before.1 (subst (λ (ps : List LinkPath). AllPairs AreApart (flat_map links_in ps)) (sym (drop_all i paths past)) (AllPairs-none AreApart))

-- a look at each link in turn
pub once_not_at : (links others : List Link) (i : ℕ) (d : Link) → i < length links →
    Contains (take (length links - (i + 1)) (drop (i + 1) links)) (get_or links i d) ⊎ Contains others (get_or links i d) → StandOnce (drop i links) others → ⊥
once_not_at links others i d within (inl at) once =
    (once_first (get_or links i d) (drop (i + 1) links) others (subst (λ (ls : List Link). StandOnce ls others) (drop_more links i d within) once)).0
    (subst (λ (ls : List Link). Contains ls (get_or links i d)) (take_rest links (i + 1)) at)
once_not_at links others i d within (inr at) once =
    (once_first (get_or links i d) (drop (i + 1) links) others (subst (λ (ls : List Link). StandOnce ls others) (drop_more links i d within) once)).1 at

pub once_on_at : (A : Type 0) (links others : List Link) (i : ℕ) (d : Link) → i < length links →
    (Contains (take (length links - (i + 1)) (drop (i + 1) links)) (get_or links i d) ⊎ Contains others (get_or links i d) → ⊥) →
    (A ↔ StandOnce (drop i links) others) → A ↔ StandOnce (drop (i + 1) links) others
once_on_at A links others i d within none before =
    let split : drop i links ≡ get_or links i d ∷ drop (i + 1) links = drop_more links i d within in (
      λ a. once_rest (get_or links i d) (drop (i + 1) links) others (subst (λ (ls : List Link). StandOnce ls others) split (before.0 a)),
      λ rest. before.1 (subst (λ (ls : List Link). StandOnce ls others) (sym split) (once_more (get_or links i d) (drop (i + 1) links) others
          (λ at. none (inl (subst (λ (ls : List Link). Contains ls (get_or links i d)) (sym (take_rest links (i + 1))) at))) (λ at. none (inr at)) rest)),
    )

pub once_end : (A : Type 0) (links others : List Link) (i : ℕ) → length links ≤ i → (A ↔ StandOnce (drop i links) others) → A
once_end A links others i past before = before.1 (subst (λ (ls : List Link). StandOnce ls others) (sym (drop_all i links past)) (once_none others))
