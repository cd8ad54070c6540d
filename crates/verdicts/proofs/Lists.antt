-- Facts that hold of each item of a mapped list.
use Rattle.std.proofs.Common.{◌≡◌, ℕ, ◌+◌, ◌<◌, List, [], ◌∷◌, length, map, refl, sym, ap, ◌∙◌, subst, arith}
use Rattle.std.specs.Prelude.{slice_index_or, All, AllPairs, sum_by}
use Rattle.std.specs.List.{flat_map}
use Rattle.std.specs.List.Sorted.{IsStrictlyIncreasing}
use Rattle.std.proofs.lemmas.List.{get_or-map, length-map}
use Rattle.std.proofs.lemmas.List.Folds.{flat_map-map}
use Rattle.std.proofs.lemmas.List.Sums.{sum_by-cons}
use Rattle.arc_base.specs.declared.place.Link.{Link}
use Rattle.graph_flow.specs.declared.arcs.LinkRow2.{LinkRow2}
use Rattle.graph_flow.specs.Answers.{rows_of}
use Rattle.graph_flow.specs.Paths.{links_of_paths}
use Rattle.net_model.specs.declared.verdicts.LinkPath.{LinkPath}
use Rattle.verdicts.specs.Reaching.{paths_of}

-- what holds of the images holds of the items by their images
pub all_of_map : {X Y : Type 0} (f : X → Y) (P : Y → Type 0) (xs : List X) → All P (map f xs) → All (λ x. P (f x)) xs
all_of_map {X} {Y} f P xs all = λ k d low. subst P (get_or-map f xs k d (f d) low) (all k (f d) (omega (arith, length-map xs f)))

pub pairs_of_map : {X Y : Type 0} (f : X → Y) (R : Y → Y → Type 0) (xs : List X) → AllPairs R (map f xs) → AllPairs (λ x y. R (f x) (f y)) xs
pairs_of_map {X} {Y} f R xs all = λ i j d low high.
    subst (λ (y : Y). R (f (slice_index_or xs i d)) y) (get_or-map f xs j d (f d) high)
    (subst (λ (x : Y). R x (slice_index_or (map f xs) j (f d))) (get_or-map f xs i d (f d) (omega arith)) (all i j (f d) low (omega (arith, length-map xs f))))

pub sum_of_map : {X Y : Type 0} (f : X → Y) (g : Y → ℕ) (xs : List X) → sum_by g (map f xs) ≡ sum_by (λ x. g (f x)) xs
sum_of_map {X} {Y} f g [] = refl
sum_of_map {X} {Y} f g (x ∷ xs) =
    sum_by-cons g (f x) (map f xs) ∙ ap (λ (n : ℕ). g (f x) + n) (sum_of_map f g xs) ∙ sym (sum_by-cons (λ (y : X). g (f y)) x xs)

-- the paths have the links of their rows
pub links_same : (rows : List LinkRow2) → map (λ (path : LinkPath). path.links) (paths_of rows) ≡ rows_of rows
links_same [] = refl
links_same (row ∷ rows) = ap (λ (ls : List (List Link)). row.links ∷ ls) (links_same rows)

pub all_links_same : (rows : List LinkRow2) → links_of_paths (rows_of rows) ≡ flat_map (λ (path : LinkPath). path.links) (paths_of rows)
all_links_same rows =
    ap links_of_paths (sym (links_same rows)) ∙ flat_map-map (λ (path : List Link). path) (λ (path : LinkPath). path.links) (paths_of rows)

-- links in rising order have rising numbers
pub rising_numbers : (links : List Link) → AllPairs (λ (k l : Link). k.0 < l.0) links → IsStrictlyIncreasing (map (λ (l : Link). l.0) links)
rising_numbers links pairs = λ k low.
    let none : Link = record { 0 = 0 } in
    let within : k + 1 < length links = omega (arith, length-map links (λ (l : Link). l.0)) in
    let first = get_or-map (λ (l : Link). l.0) links k none 0 (omega arith) in
    let second = get_or-map (λ (l : Link). l.0) links (k + 1) none 0 within in
    omega (arith, first, second, pairs k (k + 1) none (omega arith) within)
