-- The routers of a side, as they are named and read.
use Rattle.std.proofs.Common.{◌≡◌, ◌≢◌, ℕ, suc, zero, Bool, true, false, List, [], ◌∷◌, length, ⊎_elim, refl, ap, ap₂, sym, ◌∙◌, arith, All, Some, option_and_then}
use Rattle.std.specs.List.{AllPairs}
use Rattle.std.specs.Str.{bytes_eq}
use Rattle.std.proofs.lemmas.Bool.{cond-true, cond-false, false_from_ne_true, cases_Bool}
use Rattle.std.proofs.lemmas.Option.{none-some, same_Some}
use Rattle.std.proofs.lemmas.Slice.Eq.{bytes_eq-Decides}
use Rattle.std.proofs.lemmas.List.Elements.{All-nil, All-cons, All-head, All-tail}
use Rattle.std.proofs.NetLemmas.Options.{and_then_some}
use Rattle.arc_base.proofs.Items.{AllPairs-rest}
use Rattle.net_model.specs.declared.rows.RouterRow.{RouterRow}
use Rattle.policy_report.specs.Readings.{side_of}
use Rattle.policy_report.specs.Reports.{router_side_words}

-- a name of its own is none of a side's
apart : (r : RouterRow) (routers : List RouterRow) (side : List Bool) → All (λ s. r.name ≢ s.name) routers → All (λ w. r.name ≢ w) (router_side_words routers side)
apart r [] side h = All-nil (λ w. r.name ≢ w)
apart r (s ∷ routers) [] h = All-nil (λ w. r.name ≢ w)
apart r (s ∷ routers) (true ∷ side) h =
    All-cons (λ w. r.name ≢ w) s.name (router_side_words routers side) (All-head (λ s. r.name ≢ s.name) s routers h) (apart r routers side (All-tail (λ s. r.name ≢ s.name) s routers h))
apart r (s ∷ routers) (false ∷ side) h = apart r routers side (All-tail (λ s. r.name ≢ s.name) s routers h)

-- a router that is not named is passed over
passed : (r : RouterRow) (routers : List RouterRow) (names : List (List ℕ)) → All (λ w. r.name ≢ w) names →
    side_of (r ∷ routers) names ≡ option_and_then (λ side. Some (false ∷ side)) (side_of routers names)
passed r routers [] h = refl
passed r routers (name ∷ names) h =
    let other : bytes_eq r.name name ≡ false = false_from_ne_true _ (λ e. All-head (λ w. r.name ≢ w) name names h ((bytes_eq-Decides r.name name).0 e)) in
    cond-false (bytes_eq r.name name) _ _ other

-- the names of a side are read as it
pub side_read : (routers : List RouterRow) (side : List Bool) → AllPairs (λ r s. r.name ≢ s.name) routers → length side ≡ length routers →
    side_of routers (router_side_words routers side) ≡ Some side
side_read [] [] apart_all same = refl
side_read [] (flag ∷ side) apart_all same = absurd (omega arith)
side_read (r ∷ routers) [] apart_all same = absurd (omega arith)
side_read (r ∷ routers) (true ∷ side) apart_all same =
    let rest = side_read routers side (AllPairs-rest (λ r s. r.name ≢ s.name) r routers apart_all) (omega arith) in
    cond-true (bytes_eq r.name r.name) _ _ ((bytes_eq-Decides r.name r.name).1 refl) ∙ ap (option_and_then (λ side. Some (true ∷ side))) rest
side_read (r ∷ routers) (false ∷ side) apart_all same =
    let rest = side_read routers side (AllPairs-rest (λ r s. r.name ≢ s.name) r routers apart_all) (omega arith) in
    passed r routers (router_side_words routers side) (apart r routers side (λ k d l. apart_all zero (suc k) d (omega arith) (omega arith))) ∙
    ap (option_and_then (λ side. Some (false ∷ side))) rest

-- what is read as a side are its names
pub side_told : (routers : List RouterRow) (names : List (List ℕ)) (side : List Bool) → side_of routers names ≡ Some side →
    (names ≡ router_side_words routers side) × (length side ≡ length routers)
side_told [] [] side e = let same : [] ≡ side = same_Some _ _ e in (refl, ap length (sym same))
side_told [] (name ∷ names) side e = absurd (none-some side e)
side_told (r ∷ routers) [] side e =
    and_then_some _ (side_of routers []) side e λ rest rest_is same_is.
    let same : (false ∷ rest) ≡ side = same_Some _ _ same_is in
    let (told, size) = side_told routers [] rest rest_is in
    (told ∙ ap (router_side_words (r ∷ routers)) same, ap length (sym same) ∙ ap suc size)
side_told (r ∷ routers) (name ∷ names) side e =
    ⊎_elim
    (λ t.
    and_then_some _ (side_of routers names) side (sym (cond-true (bytes_eq r.name name) _ _ t) ∙ e) λ rest rest_is same_is.
    let same : (true ∷ rest) ≡ side = same_Some _ _ same_is in
    let (told, size) = side_told routers names rest rest_is in
    let named : r.name ≡ name = (bytes_eq-Decides r.name name).0 t in
    (ap₂ (λ w ws. w ∷ ws) (sym named) told ∙ ap (router_side_words (r ∷ routers)) same, ap length (sym same) ∙ ap suc size))
    (λ f.
    and_then_some _ (side_of routers (name ∷ names)) side (sym (cond-false (bytes_eq r.name name) _ _ f) ∙ e) λ rest rest_is same_is.
    let same : (false ∷ rest) ≡ side = same_Some _ _ same_is in
    let (told, size) = side_told routers (name ∷ names) rest rest_is in
    (told ∙ ap (router_side_words (r ∷ routers)) same, ap length (sym same) ∙ ap suc size))
    (cases_Bool (bytes_eq r.name name))
