-- Lists that grow by one item for each item of another list.
use Rattle.std.proofs.Common.{◌≡◌, ℕ, ◌+◌, ◌<◌, List, [], ◌∷◌, ◌++◌, length, map, get_or, take, sym, ap, ◌∙◌, subst}
use Rattle.std.specs.Prelude.{All}
use Rattle.std.proofs.lemmas.List.{take_more, map-append}
use Rattle.std.proofs.lemmas.List.Elements.{All-append, All-nil, All-cons}
use Rattle.arc_base.specs.declared.place.Link.{Link}
use Rattle.graph_flow.specs.declared.arcs.LinkRow2.{LinkRow2}
use Rattle.net_model.specs.declared.verdicts.LinkPath.{LinkPath}
use Rattle.verdicts.specs.Reaching.{paths_of}

-- one more image
pub map_more : {X Y : Type 0} (f : X → Y) (ys zs : List X) (y : X) (xs : List Y) (i : ℕ) (d : Y) → i < length xs → map f ys ≡ take i xs → zs ≡ ys ++ y ∷ [] → f y ≡ get_or xs i d →
    map f zs ≡ take (i + 1) xs
map_more {X} {Y} f ys zs y xs i d within before grown here =
    ap (map f) grown ∙ map-append f ys (y ∷ []) ∙ ap (λ (l : List Y). l ++ f y ∷ []) before ∙ ap (λ (l : Y). take i xs ++ l ∷ []) here ∙ sym (take_more xs i d within)

pub all_push : {X : Type 0} (P : X → Type 0) (xs ys : List X) (y : X) → ys ≡ xs ++ y ∷ [] → All P xs → P y → All P ys
all_push {X} P xs ys y grown all here = subst (All P) (sym grown) (All-append P xs (y ∷ []) all (All-cons P y [] here (All-nil P)))

abbrev path_of : List Link → LinkPath
path_of links = record { links = links }

pub path_more : (rows : List LinkRow2) (i : ℕ) (d : LinkRow2) → i < length rows → (old new : List LinkPath) (links : List Link) → old ≡ paths_of (take i rows) →
    links ≡ (get_or rows i d).links → new ≡ old ++ record { links = links } ∷ [] → new ≡ paths_of (take (i + 1) rows)
path_more rows i d within old new links before same grown =
    let row : LinkRow2 = get_or rows i d in
    let added : LinkRow2 → LinkPath = λ r. record { links = r.links } in
    let one : LinkPath = record { links = links } in
    let alike : one ≡ added row = ap path_of same in
    grown ∙ ap (λ (ps : List LinkPath). ps ++ one ∷ []) before ∙ ap (λ (p : LinkPath). paths_of (take i rows) ++ p ∷ []) alike ∙
    sym (map-append added (take i rows) (row ∷ [])) ∙ ap paths_of (sym (take_more rows i d within))
