-- The values of a formula's variables, numbered from 1.
use Rattle.std.proofs.Common.{◌≡◌, ℕ, ◌+◌, ◌<◌, Bool, List, [], ◌∷◌, ◌++◌, map, take, get_or, length, append_assoc, sym, ◌∙◌, ap}
use Rattle.std.specs.List.{enumerate_from}
use Rattle.std.proofs.lemmas.Grind.{flat_map-append}
use Rattle.std.proofs.lemmas.List.{append-nil, map-append}
use Rattle.proof_log.specs.Texts.{before_spaces}
use Rattle.sat_search.proofs.Numbering.{one_more}
use Rattle.cnf_commands.specs.Solves.{value_text, values_text}

pub values_more : (values : List Bool) (i : ℕ) (value d : Bool) → i < length values → value ≡ get_or values i d
    → values_text (take (i + 1) values) ≡ values_text (take i values) ++ (value_text (i + 1) value ++ 32 ∷ [])
values_more values i value d within is =
    let texts : List (ℕ × Bool) → List (List ℕ) = map (λ p. value_text p.0 p.1) in
    ap (λ ps. before_spaces (texts ps)) (one_more values i value d within is)
    ∙ ap before_spaces (map-append (λ (p : ℕ × Bool). value_text p.0 p.1) (enumerate_from 1 (take i values)) ((i + 1, value) ∷ []))
    ∙ flat_map-append (λ (w : List ℕ). w ++ 32 ∷ []) (texts (enumerate_from 1 (take i values))) (value_text (i + 1) value ∷ [])
    ∙ ap (λ l. values_text (take i values) ++ l) (append-nil (value_text (i + 1) value ++ 32 ∷ []))

pub written_more : (values : List Bool) (i : ℕ) (value d : Bool) (before text after : List ℕ) → i < length values → value ≡ get_or values i d
    → text ≡ before ++ values_text (take i values) → after ≡ text ++ (value_text (i + 1) value ++ 32 ∷ []) → after ≡ before ++ values_text (take (i + 1) values)
written_more values i value d before text after within is so_far next =
    next ∙ ap (λ t. t ++ (value_text (i + 1) value ++ 32 ∷ [])) so_far ∙ append_assoc before (values_text (take i values)) (value_text (i + 1) value ++ 32 ∷ [])
    ∙ ap (λ t. before ++ t) (sym (values_more values i value d within is))
