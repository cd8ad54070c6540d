-- The lines of texts that end their last line.
use Rattle.std.proofs.Common.{◌≡◌, ℕ, ◌⊎◌, inl, inr, Bool, true, false, cond, List, [], ◌∷◌, ◌++◌, map, refl, ap, sym, subst, ◌∙◌, append_assoc, append-nil}
use Rattle.std.specs.List.{concat, onto_first}
use Rattle.arc_base.specs.TextLines.{lines, is_line_feed}
use Rattle.policy_report.specs.Lines.{after_spaces, line}

-- a text that ends a line has a first line
pub record HasFirst (ls : List (List ℕ)) : Type 0 where
  pub first : List ℕ
  pub rest : List (List ℕ)
  pub is : ls ≡ first ∷ rest

pub ended_first : (a : List ℕ) → HasFirst (lines (a ++ 10 ∷ []))
ended_first [] = record { first = []; rest = []; is = refl }
ended_first (b ∷ a) = by (is_line_feed b) (ended_first a)
  where
    by : (feed : Bool) → HasFirst (lines (a ++ 10 ∷ [])) → HasFirst (cond feed ([] ∷ lines (a ++ 10 ∷ [])) (onto_first b (lines (a ++ 10 ∷ []))))
    by true h = record { first = []; rest = lines (a ++ 10 ∷ []); is = refl }
    by false h = record { first = b ∷ h.first; rest = h.rest; is = ap (onto_first b) h.is }

-- the lines of a text that ends a line, and of the text after it
pub lines_after : (a rest : List ℕ) → lines ((a ++ 10 ∷ []) ++ rest) ≡ lines (a ++ 10 ∷ []) ++ lines rest
lines_after [] rest = refl
lines_after (b ∷ a) rest = by (is_line_feed b) (lines_after a rest) (ended_first a)
  where
    by : (feed : Bool) → lines ((a ++ 10 ∷ []) ++ rest) ≡ lines (a ++ 10 ∷ []) ++ lines rest → HasFirst (lines (a ++ 10 ∷ [])) →
        cond feed ([] ∷ lines ((a ++ 10 ∷ []) ++ rest)) (onto_first b (lines ((a ++ 10 ∷ []) ++ rest))) ≡
        cond feed ([] ∷ lines (a ++ 10 ∷ [])) (onto_first b (lines (a ++ 10 ∷ []))) ++ lines rest
    by true h some = ap (λ ls. [] ∷ ls) h
    by false h some =
        ap (onto_first b) (h ∙ ap (λ ls. ls ++ lines rest) some.is) ∙ ap (λ ls. onto_first b ls ++ lines rest) (sym some.is)

-- the text is empty, or it ends with a line feed
pub record EndsLine (text : List ℕ) : Type 0 where
  pub is : (text ≡ []) ⊎ ((front : List ℕ) × (text ≡ front ++ 10 ∷ []))

pub nothing_ends : EndsLine []
nothing_ends = record { is = inl refl }

pub line_ends : (first : List ℕ) (ws : List (List ℕ)) → EndsLine (line first ws)
line_ends first ws = record { is = inr (first ++ after_spaces ws, refl) }

pub both_end : (a b : List ℕ) → EndsLine a → EndsLine b → EndsLine (a ++ b)
both_end a b h k =
    elim k.is [
      | inl none ↦ subst EndsLine (sym (ap (λ t. a ++ t) none ∙ append-nil a)) h
      | inr some ↦ record { is = inr (a ++ some.0, ap (λ t. a ++ t) some.1 ∙ sym (append_assoc a some.0 (10 ∷ []))) }
    ]

pub all_end : {X : Type 0} (form : X → List ℕ) → ((x : X) → EndsLine (form x)) → (xs : List X) → EndsLine (concat (map form xs))
all_end form ends [] = nothing_ends
all_end form ends (x ∷ xs) = both_end (form x) (concat (map form xs)) (ends x) (all_end form ends xs)

-- the lines of such a text, and of the text after it
pub lines_append : (a b : List ℕ) → EndsLine a → lines (a ++ b) ≡ lines a ++ lines b
lines_append a b h =
    elim h.is [
      | inl none ↦ ap (λ t. lines (t ++ b)) none ∙ ap (λ t. lines t ++ lines b) (sym none)
      | inr some ↦ ap (λ t. lines (t ++ b)) some.1 ∙ lines_after some.0 b ∙ ap (λ t. lines t ++ lines b) (sym some.1)
    ]
