-- Texts that grow at their end, piece by piece.
use Rattle.std.proofs.Common.{◌≡◌, ℕ, zero, suc, ◌+◌, ◌<◌, Bool, true, false, cond, List, [], ◌∷◌, ◌++◌, length, get_or, drop, refl, sym, ap, ◌∙◌, arith, append_assoc, append-nil, add-one}
use Rattle.std.proofs.lemmas.List.{get_or-drop, drop_more}
use Rattle.net_model.specs.declared.rows.RouterRow.{RouterRow}
use Rattle.policy_report.specs.Lines.{after_spaces, line}
use Rattle.policy_report.specs.Reports.{router_side_words}

-- a piece of what is still to be put is put
pub one_more : (target text after piece rest whole : List ℕ) → text ++ whole ≡ target → whole ≡ piece ++ rest → after ≡ text ++ piece → after ++ rest ≡ target
one_more target text after piece rest whole before split pushed =
    ap (λ t. t ++ rest) pushed ∙ append_assoc text piece rest ∙ ap (λ t. text ++ t) (sym split) ∙ before

no_flags : (routers : List RouterRow) → router_side_words routers [] ≡ []
no_flags [] = refl
no_flags (router ∷ routers) = refl

side_first : (router : RouterRow) (routers : List RouterRow) (flags : List Bool) →
    after_spaces (router_side_words (router ∷ routers) flags) ≡ cond (get_or flags 0 false) (32 ∷ router.name) [] ++ after_spaces (router_side_words routers (drop 1 flags))
side_first router routers [] = sym (ap after_spaces (no_flags routers))
side_first router routers (true ∷ flags) = refl
side_first router routers (false ∷ flags) = refl

drop_suc : {A : Type 0} (i : ℕ) (xs : List A) → drop 1 (drop i xs) ≡ drop (suc i) xs
drop_suc zero xs = refl
drop_suc (suc i) [] = refl
drop_suc (suc i) (x ∷ xs) = drop_suc i xs

drop_one : {A : Type 0} (i : ℕ) (xs : List A) → drop 1 (drop i xs) ≡ drop (i + 1) xs
drop_one i xs = rw add-one (drop_suc i xs)

-- the names of the routers on the side from one on
pub side_next : (routers : List RouterRow) (side : List Bool) (i : ℕ) (d : RouterRow) → i < length routers →
    after_spaces (router_side_words (drop i routers) (drop i side))
    ≡ cond (get_or side i false) (32 ∷ (get_or routers i d).name) [] ++ after_spaces (router_side_words (drop (i + 1) routers) (drop (i + 1) side))
side_next routers side i d within =
    let at : get_or (drop i side) 0 false ≡ get_or side i false = get_or-drop i side 0 false ∙ ap (λ k. get_or side k false) (omega arith) in
    ap (λ t. after_spaces (router_side_words t (drop i side))) (drop_more routers i d within)
    ∙ side_first (get_or routers i d) (drop (i + 1) routers) (drop i side)
    ∙ ap (λ b. cond b (32 ∷ (get_or routers i d).name) [] ++ after_spaces (router_side_words (drop (i + 1) routers) (drop 1 (drop i side)))) at
    ∙ ap (λ t. cond (get_or side i false) (32 ∷ (get_or routers i d).name) [] ++ after_spaces (router_side_words (drop (i + 1) routers) t)) (drop_one i side)

pub spaced-append : (a b : List (List ℕ)) → after_spaces (a ++ b) ≡ after_spaces a ++ after_spaces b
spaced-append [] b = refl
spaced-append (word ∷ a) b = ap (λ t. 32 ∷ (word ++ t)) (spaced-append a b) ∙ ap (λ t. 32 ∷ t) (sym (append_assoc word (after_spaces a) (after_spaces b)))

-- a line of a first word and two runs of words
pub two_runs : (old first t₁ t₂ t₃ t₄ : List ℕ) (a b : List (List ℕ)) → t₁ ≡ old ++ first → t₂ ≡ t₁ ++ after_spaces a → t₃ ≡ t₂ ++ after_spaces b → t₄ ≡ t₃ ++ 10 ∷ [] → t₄ ≡ old ++ line first (a ++ b)
two_runs old first t₁ t₂ t₃ t₄ a b e₁ e₂ e₃ e₄ =
    e₄ ∙ ap (λ t. t ++ 10 ∷ []) (e₃ ∙ ap (λ t. t ++ after_spaces b) (e₂ ∙ ap (λ t. t ++ after_spaces a) e₁))
    ∙ ap (λ t. t ++ 10 ∷ []) (append_assoc (old ++ first) (after_spaces a) (after_spaces b) ∙ ap (λ t. (old ++ first) ++ t) (sym (spaced-append a b)) ∙ append_assoc old first (after_spaces (a ++ b)))
    ∙ append_assoc old (first ++ after_spaces (a ++ b)) (10 ∷ [])

-- the same, where the second run is one word
pub run_and_word : (old first t₁ t₂ t₃ t₄ : List ℕ) (a : List (List ℕ)) (word : List ℕ) → t₁ ≡ old ++ first → t₂ ≡ t₁ ++ after_spaces a → t₃ ≡ t₂ ++ 32 ∷ word →
    t₄ ≡ t₃ ++ 10 ∷ [] → t₄ ≡ old ++ line first (a ++ word ∷ [])
run_and_word old first t₁ t₂ t₃ t₄ a word e₁ e₂ e₃ e₄ =
    two_runs old first t₁ t₂ t₃ t₄ a (word ∷ []) e₁ e₂ (e₃ ∙ ap (λ t. t₂ ++ 32 ∷ t) (sym (append-nil word))) e₄

-- a word and two runs of words
pub word_and_runs : (old word t₁ t₂ t₃ : List ℕ) (a b : List (List ℕ)) → t₁ ≡ old ++ 32 ∷ word → t₂ ≡ t₁ ++ after_spaces a → t₃ ≡ t₂ ++ after_spaces b → t₃ ≡ old ++ after_spaces (word ∷ (a ++ b))
word_and_runs old word t₁ t₂ t₃ a b e₁ e₂ e₃ =
    e₃ ∙ ap (λ t. t ++ after_spaces b) (e₂ ∙ ap (λ t. t ++ after_spaces a) e₁)
    ∙ append_assoc (old ++ 32 ∷ word) (after_spaces a) (after_spaces b) ∙ append_assoc old (32 ∷ word) (after_spaces a ++ after_spaces b)
    ∙ ap (λ t. old ++ 32 ∷ (word ++ t)) (sym (spaced-append a b))

-- a run of one word
pub one_word : (t₁ t₂ word : List ℕ) → t₂ ≡ t₁ ++ 32 ∷ word → t₂ ≡ t₁ ++ after_spaces (word ∷ [])
one_word t₁ t₂ word e = e ∙ ap (λ t. t₁ ++ 32 ∷ t) (sym (append-nil word))

-- two words and others after them
pub two_words_and_run : (t0 t1 t2 t3 a b : List ℕ) (ws : List (List ℕ)) → t1 ≡ t0 ++ 32 ∷ a → t2 ≡ t1 ++ 32 ∷ b → t3 ≡ t2 ++ after_spaces ws → t3 ≡ t0 ++ after_spaces (a ∷ b ∷ ws)
two_words_and_run t0 t1 t2 t3 a b ws first second rest =
    let run : List ℕ = after_spaces ws in
    rest ∙ ap (λ t. t ++ run) (second ∙ ap (λ t. t ++ 32 ∷ b) first) ∙
    append_assoc (t0 ++ 32 ∷ a) (32 ∷ b) run ∙ append_assoc t0 (32 ∷ a) (32 ∷ (b ++ run))
