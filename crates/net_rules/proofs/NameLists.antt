-- Lists of names, as loops make them.
use Rattle.std.proofs.Common.{◌≡◌, ℕ, ◌+◌, ◌<◌, List, [], ◌∷◌, ◌++◌, length, get_or, take, drop, refl, sym, ◌∙◌, ap, subst, arith, Bool, true, false, MatchBool, ◌⊎◌, inl, inr}
use Rattle.std.specs.Prelude.{AllPairs, Contains, map}
use Rattle.std.specs.List.{flat_map, enumerate_from}
use Rattle.std.proofs.lemmas.List.{take-append-drop, drop_more, map-append, length-take-le, append_assoc, map_more, take_more, append-nil}
use Rattle.std.proofs.lemmas.List.Concat.{flat_map-append}
use Rattle.std.proofs.lemmas.List.Elements.{Contains-append_left, Contains-append_cases}
use Rattle.arc_base.proofs.Items.{Contains-cases, Contains-none}
use Rattle.ios_config.specs.declared.settings.Config.{Config}
use Rattle.ios_config.specs.declared.settings.FaceText.{FaceText}
use Rattle.net_rules.specs.Sites.{FullName, sites, sites_of, host_name, full_name, full_names}
use Rattle.net_rules.specs.Names.{file_names}
use Rattle.arc_base.specs.Lists.{AreDistinct}
use Rattle.net_rules.proofs.Distinct.{AllPairs-front, AreDistinct-twice}

-- a list around one of its items
pub split_at : {X : Type 0} (xs : List X) (i : ℕ) (x : X) → i < length xs → x ≡ get_or xs i x → xs ≡ take i xs ++ x ∷ drop (i + 1) xs
split_at xs i x h e =
    sym (take-append-drop i xs) ∙ ap (λ l. take i xs ++ l) (drop_more xs i x h ∙ ap (λ y. y ∷ drop (i + 1) xs) (sym e))

-- one more item of a map
pub mapped_more : {X Y : Type 0} (f : X → Y) (before now next : List Y) (xs : List X) (i : ℕ) (x : X) → i < length xs → x ≡ get_or xs i x →
    now ≡ before ++ map f (take i xs) → next ≡ now ++ f x ∷ [] → next ≡ before ++ map f (take (i + 1) xs)
mapped_more f before now next xs i x h e is grown =
    grown ∙ ap (λ l. l ++ f x ∷ []) is ∙ append_assoc before (map f (take i xs)) (f x ∷ []) ∙
    ap (λ l. before ++ l) (ap (λ y. map f (take i xs) ++ f y ∷ []) e ∙ sym (map_more f xs i x h))

-- where the next item is there already, the whole is not distinct
pub mapped_twice : {X Y : Type 0} (f : X → Y) (before now : List Y) (xs : List X) (i : ℕ) (x : X) → i < length xs → x ≡ get_or xs i x →
    now ≡ before ++ map f (take i xs) → Contains now (f x) → AreDistinct (before ++ map f xs) → ⊥
mapped_twice f before now xs i x h e is there distinct =
    let whole : before ++ map f xs ≡ (before ++ map f (take i xs)) ++ f x ∷ map f (drop (i + 1) xs) =
    ap (λ l. before ++ l) (ap (map f) (split_at xs i x h e) ∙ map-append f (take i xs) (x ∷ drop (i + 1) xs)) ∙
    sym (append_assoc before (map f (take i xs)) (f x ∷ map f (drop (i + 1) xs))) in
    AreDistinct-twice (before ++ map f (take i xs)) (f x) (map f (drop (i + 1) xs)) (subst (λ l. Contains l (f x)) is there) (subst AreDistinct whole distinct)

-- what holds of all pairs of the whole holds of those up to a piece
pub pieces_front : {X Y : Type 0} (R : Y → Y → Type 0) (f : X → List Y) (now : List Y) (xs : List X) (i : ℕ) (x : X) → i < length xs → x ≡ get_or xs i x →
    now ≡ flat_map f (take i xs) → AllPairs R (flat_map f xs) → AllPairs R (now ++ f x)
pieces_front R f now xs i x h e is all =
    let whole : flat_map f xs ≡ (now ++ f x) ++ flat_map f (drop (i + 1) xs) =
    ap (flat_map f) (split_at xs i x h e) ∙ flat_map-append f (take i xs) (x ∷ drop (i + 1) xs) ∙
    ap (λ l. l ++ (f x ++ flat_map f (drop (i + 1) xs))) (sym is) ∙ sym (append_assoc now (f x) (flat_map f (drop (i + 1) xs))) in
    AllPairs-front R (now ++ f x) (flat_map f (drop (i + 1) xs)) (subst (AllPairs R) whole all)

-- the names of the interfaces of one file
names_of_file : (n : ℕ) (file : Config) (faces : List FaceText) →
    map full_name (map (λ (face : FaceText). record { router = n; config = file; face = face }) faces) ≡ map (λ face. (host_name file, face.name)) faces
names_of_file n file [] = refl
names_of_file n file (face ∷ faces) = ap (λ l. (host_name file, face.name) ∷ l) (names_of_file n file faces)

names_from : (n : ℕ) (plain : List Config) → map full_name (flat_map sites_of (enumerate_from n plain)) ≡ flat_map file_names plain
names_from n [] = refl
names_from n (file ∷ plain) =
    map-append full_name (sites_of (n, file)) (flat_map sites_of (enumerate_from (n + 1) plain)) ∙
    ap (λ l. l ++ map full_name (flat_map sites_of (enumerate_from (n + 1) plain))) (names_of_file n file file.faces) ∙
    ap (λ l. file_names file ++ l) (names_from (n + 1) plain)

-- the full names of all interfaces, file by file
pub full_names-by_file : (plain : List Config) → full_names plain ≡ flat_map file_names plain
full_names-by_file plain = names_from 0 plain

-- two more names, where they differ
pub two_free : (old mid next : List FullName) (a b : FullName) (new : Bool) → (a ≡ b → ⊥) → ¬ Contains old a → mid ≡ old ++ a ∷ [] →
    MatchBool new ((¬ Contains mid b) × (next ≡ mid ++ b ∷ [])) (Contains mid b) →
    MatchBool new ((¬ Contains old a) × (¬ Contains old b) × (next ≡ old ++ (a ∷ b ∷ []))) (Contains old a ⊎ Contains old b)
two_free old mid next a b true differ lacks grown said = (
  lacks,
  λ there. said.0 (subst (λ (l : List FullName). Contains l b) (sym grown) (Contains-append_left old (a ∷ []) b there)),
  said.1 ∙ ap (λ l. l ++ b ∷ []) grown ∙ append_assoc old (a ∷ []) (b ∷ []),
)
two_free old mid next a b false differ lacks grown said = elim (Contains-append_cases old (a ∷ []) b (subst (λ (l : List FullName). Contains l b) grown said)) [
  | inl before ↦ inr before
  | inr now ↦ elim (Contains-cases a b [] now) [
    | inl same ↦ absurd (differ same)
    | inr none ↦ absurd (Contains-none b none)
  ]
]

sites_from-push : (n : ℕ) (plain : List Config) (file : Config) →
    flat_map sites_of (enumerate_from n (plain ++ file ∷ [])) ≡ flat_map sites_of (enumerate_from n plain) ++ sites_of (n + length plain, file)
sites_from-push n [] file = append-nil (sites_of (n, file)) ∙ ap (λ m. sites_of (m, file)) (omega arith)
sites_from-push n (f ∷ plain) file =
    let e : n + 1 + length plain ≡ n + length (f ∷ plain) = omega arith in
    ap (λ l. sites_of (n, f) ++ l) (sites_from-push (n + 1) plain file ∙ ap (λ m. flat_map sites_of (enumerate_from (n + 1) plain) ++ sites_of (m, file)) e) ∙
    sym (append_assoc (sites_of (n, f)) (flat_map sites_of (enumerate_from (n + 1) plain)) (sites_of (n + length (f ∷ plain), file)))

-- the interfaces of one more file
pub sites-more : (plain : List Config) (n : ℕ) (file : Config) → n < length plain → file ≡ get_or plain n file →
    sites (take (n + 1) plain) ≡ sites (take n plain) ++ sites_of (n, file)
sites-more plain n file h e =
    let long : 0 + length (take n plain) ≡ n = omega (arith, length-take-le n plain (omega arith)) in
    ap sites (take_more plain n file h ∙ ap (λ f. take n plain ++ f ∷ []) (sym e)) ∙ sites_from-push 0 (take n plain) file ∙
    ap (λ m. sites (take n plain) ++ sites_of (m, file)) long
