-- The lines of a block's text.
use Rattle.std.proofs.Common.{◌≡◌, ℕ, ◌+◌, ◌≤◌, List, [], ◌∷◌, ◌++◌, length, map, refl, ap, sym, ◌∙◌, arith, All, append_assoc, append-nil, codes, decimal}
use Rattle.std.specs.List.{concat}
use Rattle.std.proofs.lemmas.List.{length-map}
use Rattle.std.proofs.lemmas.List.Elements.{All-head, All-tail}
use Rattle.arc_base.specs.TextLines.{lines}
use Rattle.net_model.specs.declared.policies.Policy.{Policy}
use Rattle.net_model.specs.declared.policies.PolicyKind.{PolicyKind}
use Rattle.net_model.specs.declared.policies.PolicyKind.TheVariants as kinds
use Rattle.net_model.specs.declared.rows.Network.{Network}
use Rattle.net_model.specs.declared.verdicts.Verdict.{Verdict}
use Rattle.net_model.specs.declared.verdicts.Verdict.TheVariants.{Closed, Paths, Walk, Denied, Cut, Refused}
use Rattle.net_model.specs.Validity.{IsValid}
use Rattle.policy_report.specs.Lines.{line}
use Rattle.policy_report.specs.Reports.{kind_word, answer_word, class_words, report_packet_words, link_words, router_side_words, closed_line, path_line, witness_lines, block_text, blocks_text}
use Rattle.policy_report.specs.Rereading.{AreLinks, CanBeWritten}
use Rattle.policy_report.proofs.LineWords.{IsSide, closed_text, path_text, cut_words, witness_texts, are_closed_words}
use Rattle.policy_report.proofs.LineWords.{are_path_words, are_walk_words, are_denied_words, are_cut_words, are_side_line_words, are_refused_words}
use Rattle.policy_report.proofs.Ended.{EndsLine, nothing_ends, line_ends, both_end, all_end}
use Rattle.policy_report.proofs.FirstLines.{heading_words}
use Rattle.policy_report.proofs.Spaced.{IsWord, AreWords, joined, line_first}
use Rattle.policy_report.proofs.WordBytes.{word, decimal_word}

-- the first line of a block
abbrev pub first_words : Network → ℕ → Policy → Verdict → List (List ℕ)
first_words net number policy v = heading_words number (kind_word policy.kind) (answer_word v) (length (witness_lines net v))

abbrev pub first_text : Network → ℕ → Policy → Verdict → List ℕ
first_text net number policy v = joined (first_words net number policy v)

-- one line, and then a text
first_of_text : (first : List ℕ) (ws : List (List ℕ)) (text rest : List ℕ) → AreWords (first ∷ ws) →
    lines ((line first ws ++ text) ++ rest) ≡ joined (first ∷ ws) ∷ lines (text ++ rest)
first_of_text first ws text rest h = ap lines (append_assoc (line first ws) text rest) ∙ line_first first ws (text ++ rest) h

-- lines that begin with one word, one for each item
item_lines : {X : Type 0} (P : X → Type 0) (first : List ℕ) (words : X → List (List ℕ)) → ((x : X) → P x → AreWords (first ∷ words x)) →
    (xs : List X) (rest : List ℕ) → All P xs →
    lines (concat (map (λ x. line first (words x)) xs) ++ rest) ≡ map (λ x. joined (first ∷ words x)) xs ++ lines rest
item_lines P first words are [] rest h = refl
item_lines P first words are (x ∷ xs) rest h =
    first_of_text first (words x) (concat (map (λ x. line first (words x)) xs)) rest (are x (All-head P x xs h)) ∙
    ap (λ ls. joined (first ∷ words x) ∷ ls) (item_lines P first words are xs rest (All-tail P x xs h))

kind_is_word : (kind : PolicyKind) → IsWord (kind_word kind)
kind_is_word kinds.Blocked = word (codes "blocked") refl
kind_is_word kinds.Through = word (codes "through") refl
kind_is_word (kinds.Reach k) = word (codes "reach") refl

answer_is_word : (v : Verdict) → IsWord (answer_word v)
answer_is_word (Closed sides) = word (codes "yes") refl
answer_is_word (Paths paths) = word (codes "yes") refl
answer_is_word (Walk class path) = word (codes "no") refl
answer_is_word (Denied class) = word (codes "no") refl
answer_is_word (Cut links side) = word (codes "no") refl
answer_is_word (Refused packet link) = word (codes "refused") refl

pub are_first_words : (net : Network) (number : ℕ) (policy : Policy) (v : Verdict) → number ≤ 4294967295 → length (witness_lines net v) ≤ 4294967295 →
    AreWords (first_words net number policy v)
are_first_words net number policy v small few =
    (decimal_word number (omega arith), (kind_is_word policy.kind, (answer_is_word v, (decimal_word (length (witness_lines net v)) (omega arith), tt))))

module _ (net : Network) (valid : IsValid net) where
  -- the lines of a witness
  witness_lines_of : (v : Verdict) (rest : List ℕ) → CanBeWritten net v → lines (concat (witness_lines net v) ++ rest) ≡ witness_texts net v ++ lines rest
  witness_lines_of (Closed sides) rest told =
      item_lines (λ s. IsSide net s.side) (codes "closed") (λ s. class_words s.class ++ router_side_words net.routers s.side) (λ s h. are_closed_words net valid s) sides rest told.0
  witness_lines_of (Paths paths) rest told =
      item_lines (λ p. AreLinks net p.links) (codes "path") (λ p. link_words p.links) (are_path_words net valid) paths rest told.0
  witness_lines_of (Walk class path) rest told =
      first_of_text (codes "walk") (class_words class ++ link_words path.links) [] rest (are_walk_words net valid class path told)
  witness_lines_of (Denied class) rest told = first_of_text (codes "denied") (class_words class) [] rest (are_denied_words class)
  witness_lines_of (Cut links side) rest told =
      first_of_text (codes "cut") (link_words links) (line (codes "side") (router_side_words net.routers side) ++ []) rest (are_cut_words net valid links told.0) ∙
      ap (λ ls. joined (cut_words links) ∷ ls) (first_of_text (codes "side") (router_side_words net.routers side) [] rest (are_side_line_words net valid side))
  witness_lines_of (Refused packet link) rest told =
      first_of_text (codes "acl-on-routed-link") (report_packet_words packet ++ decimal (link.0 + 1) ∷ []) [] rest
      (are_refused_words net valid packet link told)

  -- the lines of a block
  block_lines_of : (number : ℕ) (policy : Policy) (v : Verdict) (rest : List ℕ) → number ≤ 4294967295 → length (witness_lines net v) ≤ 4294967295 → CanBeWritten net v →
      lines (block_text number net policy v ++ rest) ≡ first_text net number policy v ∷ (witness_texts net v ++ lines rest)
  block_lines_of number policy v rest small few told =
      first_of_text (decimal number) (kind_word policy.kind ∷ answer_word v ∷ decimal (length (witness_lines net v)) ∷ []) (concat (witness_lines net v)) rest
      (are_first_words net number policy v small few) ∙
      ap (λ ls. first_text net number policy v ∷ ls) (witness_lines_of v rest told)

  -- the lines of the blocks and the end, from the first block on
  pub blocks_lines_of : (number : ℕ) (policy : Policy) (policies : List Policy) (v : Verdict) (vs : List Verdict) (rest : List ℕ) →
      number ≤ 4294967295 → length (witness_lines net v) ≤ 4294967295 → CanBeWritten net v →
      lines (blocks_text number net (policy ∷ policies) (v ∷ vs) ++ rest) ≡
      first_text net number policy v ∷ (witness_texts net v ++ lines (blocks_text (number + 1) net policies vs ++ rest))
  blocks_lines_of number policy policies v vs rest small few told =
      ap lines (append_assoc (block_text number net policy v) (blocks_text (number + 1) net policies vs) rest) ∙
      block_lines_of number policy v (blocks_text (number + 1) net policies vs ++ rest) small few told

  -- the same before other lines
  pub blocks_first : (number : ℕ) (policy : Policy) (policies : List Policy) (v : Verdict) (vs : List Verdict) →
      number ≤ 4294967295 → length (witness_lines net v) ≤ 4294967295 → CanBeWritten net v → (after : List (List ℕ)) →
      lines (blocks_text number net (policy ∷ policies) (v ∷ vs)) ++ after ≡
      first_text net number policy v ∷ (witness_texts net v ++ (lines (blocks_text (number + 1) net policies vs) ++ after))
  blocks_first number policy policies v vs small few told after =
      let whole : List ℕ = blocks_text number net (policy ∷ policies) (v ∷ vs) in
      let rest : List ℕ = blocks_text (number + 1) net policies vs in
      let split : lines whole ≡ first_text net number policy v ∷ (witness_texts net v ++ lines rest) =
      ap lines (sym (append-nil whole)) ∙ blocks_lines_of number policy policies v vs [] small few told ∙
      ap (λ t. first_text net number policy v ∷ (witness_texts net v ++ lines t)) (append-nil rest) in
      ap (λ ls. ls ++ after) split ∙ ap (λ ls. first_text net number policy v ∷ ls) (append_assoc (witness_texts net v) (lines rest) after)

-- the text of blocks ends its last line
witness_ends : (net : Network) (v : Verdict) → EndsLine (concat (witness_lines net v))
witness_ends net (Closed sides) = all_end (closed_line net) (λ s. line_ends (codes "closed") (class_words s.class ++ router_side_words net.routers s.side)) sides
witness_ends net (Paths paths) = all_end path_line (λ p. line_ends (codes "path") (link_words p.links)) paths
witness_ends net (Walk class path) = all_end (λ (ws : List (List ℕ)). line (codes "walk") ws) (line_ends (codes "walk")) ((class_words class ++ link_words path.links) ∷ [])
witness_ends net (Denied class) = all_end (λ (ws : List (List ℕ)). line (codes "denied") ws) (line_ends (codes "denied")) (class_words class ∷ [])
witness_ends net (Cut links side) =
    both_end (line (codes "cut") (link_words links)) (concat (line (codes "side") (router_side_words net.routers side) ∷ [])) (line_ends (codes "cut") (link_words links))
    (all_end (λ (ws : List (List ℕ)). line (codes "side") ws) (line_ends (codes "side")) (router_side_words net.routers side ∷ []))
witness_ends net (Refused packet link) =
    all_end (λ (ws : List (List ℕ)). line (codes "acl-on-routed-link") ws) (line_ends (codes "acl-on-routed-link")) ((report_packet_words packet ++ decimal (link.0 + 1) ∷ []) ∷ [])

pub blocks_end : (number : ℕ) (net : Network) (policies : List Policy) (vs : List Verdict) → EndsLine (blocks_text number net policies vs)
blocks_end number net [] vs = nothing_ends
blocks_end number net (policy ∷ policies) [] = nothing_ends
blocks_end number net (policy ∷ policies) (v ∷ vs) =
    both_end (block_text number net policy v) (blocks_text (number + 1) net policies vs)
    (both_end (line (decimal number) (kind_word policy.kind ∷ answer_word v ∷ decimal (length (witness_lines net v)) ∷ [])) (concat (witness_lines net v))
    (line_ends (decimal number) (kind_word policy.kind ∷ answer_word v ∷ decimal (length (witness_lines net v)) ∷ [])) (witness_ends net v))
    (blocks_end (number + 1) net policies vs)

-- there are as many lines as texts, and they can be counted
pub witness_size : (net : Network) (v : Verdict) → length (witness_lines net v) ≡ length (witness_texts net v)
witness_size net (Closed sides) = length-map sides (closed_line net) ∙ sym (length-map sides (closed_text net))
witness_size net (Paths paths) = length-map paths path_line ∙ sym (length-map paths path_text)
witness_size net (Walk class path) = refl
witness_size net (Denied class) = refl
witness_size net (Cut links side) = refl
witness_size net (Refused packet link) = refl

pub few_lines : (net : Network) (v : Verdict) → CanBeWritten net v → length (witness_lines net v) ≤ 4294967295
few_lines net (Closed sides) told = omega (arith, length-map sides (closed_line net), told.1)
few_lines net (Paths paths) told = omega (arith, length-map paths path_line, told.1)
few_lines net (Walk class path) told = omega arith
few_lines net (Denied class) told = omega arith
few_lines net (Cut links side) told = omega arith
few_lines net (Refused packet link) told = omega arith
