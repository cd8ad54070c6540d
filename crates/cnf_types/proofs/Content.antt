-- The lines of a text that are no comments, one by one.
use Rattle.std.proofs.Common.{◌≡◌, ℕ, ◌+◌, ℤ, false, cond, List, [], ◌∷◌, ◌++◌, refl, ap, sym, ◌∙◌, append_assoc, Some, IsFalse, ◌||◌}
use Rattle.std.specs.List.{list_any}
use Rattle.std.proofs.lemmas.List.Elements.{filter_map-append}
use Rattle.arc_base.specs.WordNumbers.{number}
use Rattle.arc_base.specs.TextLines.{without_return}
use Rattle.arc_base.specs.Words.{words}
use Rattle.cnf_types.specs.Dimacs.{content, is_comment, cnf_line_words, line_numbers, numbers, first_bad, is_bad_word, pieces}
use Rattle.cnf_types.specs.declared.literal.Lit.{Lit}
use Rattle.cnf_types.specs.declared.clauses.Clause.{Clause}
use Rattle.cnf_types.specs.Progress.{pieces_after}
use Rattle.cnf_types.proofs.Growing.{onto_nothing}

pub content_line : (n : ℕ) (line : List ℕ) (ls : List (List ℕ)) → is_comment line ≡ false → content n (line ∷ ls) ≡ (n + 1, line) ∷ content (n + 1) ls
content_line n line ls e = rw e refl

-- a line whose words are numbers goes before the first bad line
pub bad_later : (vars n : ℕ) (line bytes : List ℕ) (ls rest : List (List ℕ)) → rest ≡ line ∷ ls → is_comment line ≡ false → bytes ≡ without_return line →
    IsFalse (list_any (is_bad_word vars) (words bytes)) → first_bad vars (content (n + 1) ls) ≡ first_bad vars (content n rest)
bad_later vars n line bytes ls rest rest_is off bytes_is good =
    let fine : list_any (is_bad_word vars) (cnf_line_words line) ≡ false = rw bytes_is at good in
    sym (ap (λ r. first_bad vars (content n r)) rest_is ∙ ap (first_bad vars) (content_line n line ls off) ∙ ap (λ b. cond b (Some (n + 1, line)) (first_bad vars (content (n + 1) ls))) fine)

-- its numbers come before those of the lines that follow
pub numbers_line : (vars n : ℕ) (line bytes : List ℕ) (ls rest : List (List ℕ)) (more : List ℤ) → rest ≡ line ∷ ls → is_comment line ≡ false →
    bytes ≡ without_return line → line_numbers vars (words bytes) ++ (numbers vars (content (n + 1) ls) ++ more) ≡ numbers vars (content n rest) ++ more
numbers_line vars n line bytes ls rest more rest_is off bytes_is =
    ap (λ b. line_numbers vars (words b) ++ (numbers vars (content (n + 1) ls) ++ more)) bytes_is ∙ sym (ap (λ r. numbers vars (content n r) ++ more)
    rest_is ∙ ap (λ c. numbers vars c ++ more) (content_line n line ls off) ∙ append_assoc (line_numbers vars (cnf_line_words line)) (numbers vars (content (n + 1) ls)) more)

-- no clause yet
pub pieces_at_first : (clauses : List Clause) (front : List Lit) (more : List ℤ) → clauses ≡ [] → front ≡ [] → pieces_after clauses front more ≡ pieces more
pieces_at_first clauses front more clauses_is front_is = rw (clauses_is, front_is) (onto_nothing more)

-- a word that is a number goes before the words that follow it
pub good_word : (vars : ℕ) (word : List ℕ) (ws all : List (List ℕ)) → all ≡ word ∷ ws → IsFalse (is_bad_word vars word) → list_any (is_bad_word vars) ws ≡ list_any (is_bad_word vars) all
good_word vars word ws all all_is good = sym (ap (list_any (is_bad_word vars)) all_is ∙ ap (λ b. b || list_any (is_bad_word vars) ws) good)

-- and so does its number
pub numbers_word : (vars : ℕ) (word : List ℕ) (ws all : List (List ℕ)) (more : List ℤ) → all ≡ word ∷ ws →
    line_numbers vars (word ∷ []) ++ (line_numbers vars ws ++ more) ≡ line_numbers vars all ++ more
numbers_word vars word ws all more all_is =
    sym (ap (λ r. line_numbers vars r ++ more) all_is ∙ ap (λ zs. zs ++ more) (filter_map-append (number vars) (word ∷ []) ws) ∙ append_assoc
    (line_numbers vars (word ∷ [])) (line_numbers vars ws) more)
