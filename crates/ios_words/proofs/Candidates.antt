-- The rows that do not begin as a line does say nothing of it.
use Rattle.std.proofs.Common.{◌≡◌, ℕ, ◌&&◌, not, Bool, true, false, cond, List, [], ◌∷◌, Some, get_or, refl, sym, ap, subst, ◌∙◌, true≢false, codes, drop, filter, find}
use Rattle.std.proofs.lemmas.Bool.{eq-eqb, and_from}
use Rattle.std.proofs.lemmas.Slice.Eq.{bytes_eq-Decides}
use Rattle.std.specs.Str.{bytes_eq}
use Rattle.ios_words.specs.Candidates.{letter, begins_with, is_ip, parts_have_letter, has_letter, parts_begin, parts_follow_ip, follows_ip}
use Rattle.ios_words.specs.declared.kinds.BlockKind.{BlockKind}
use Rattle.ios_words.specs.Commands.{completes}
use Rattle.ios_words.specs.Language.{rows}
use Rattle.ios_words.specs.Readings.{begins, match_words, matches}
use Rattle.ios_words.specs.Rows.{Piece, Word, Verdict, Place, Bracket, Flag, EntryNumber, Protocol, Source, Destination, Ports, Anything, Rule}
use Rattle.ios_words.specs.Trials.{SaysTheSame}

-- what is left out of a list is not found where it is not sought
filter-step : {X : Type 0} (p q : X → Bool) (x : X) (xs : List X) → (p x ≡ true → q x ≡ true) → find p (filter q xs) ≡ find p xs → (b c : Bool) → q x ≡ b →
    p x ≡ c → find p (filter q (x ∷ xs)) ≡ find p (x ∷ xs)
filter-step p q x xs sought rest true c kept is = rw kept (ap (cond (p x) (Some x)) rest)
filter-step p q x xs sought rest false true left is = absurd (true≢false (sym (sought is) ∙ left))
filter-step p q x xs sought rest false false left is = rw (left, is) rest

pub find-filter : {X : Type 0} (p q : X → Bool) → ((x : X) → p x ≡ true → q x ≡ true) → (xs : List X) → find p (filter q xs) ≡ find p xs
find-filter p q sought [] = refl
find-filter p q sought (x ∷ xs) = filter-step p q x xs (sought x) (find-filter p q sought xs) (q x) (p x) refl refl

same_bytes : (v w : List ℕ) → bytes_eq v w ≡ true → v ≡ w
same_bytes v w e = (bytes_eq-Decides v w).0 e

-- where a row has this word first, the line has it
first_word : (v w : List ℕ) (words : List (List ℕ)) (pieces : List Piece) → match_words (Word v ∷ pieces) (w ∷ words) ≡ true → (w ≡ v) × (match_words pieces words ≡ true)
first_word v w words pieces e = go (bytes_eq w v) refl
  where
    go : (b : Bool) → bytes_eq w v ≡ b → (w ≡ v) × (match_words pieces words ≡ true)
    go true same = (same_bytes w v same, rw same at e)
    go false other = absurd (true≢false (sym e ∙ rw other refl))

no_first : (v : List ℕ) (pieces : List Piece) → match_words (Word v ∷ pieces) [] ≡ true → ⊥
no_first v pieces e = true≢false (sym e)

keeps_letter : (words : List (List ℕ)) → begins (codes "ip") words ≡ false → (pieces : List Piece) → match_words pieces words ≡ true → parts_have_letter (letter words) pieces ≡ true
keeps_letter words other [] e = refl
keeps_letter [] other (Word v ∷ pieces) e = absurd (no_first v pieces e)
keeps_letter (w ∷ words) other (Word v ∷ pieces) e =
    let P : List ℕ → Type 0 = λ u. (begins_with (letter (w ∷ words)) u && not (is_ip u)) ≡ true in
    subst P (first_word v w words pieces e).0 (rw (eq-eqb (get_or w 0 0) (get_or w 0 0) refl, other) refl)
keeps_letter words other (Verdict ∷ pieces) e = refl
keeps_letter words other (Place form ∷ pieces) e = refl
keeps_letter words other (Bracket word form ∷ pieces) e = refl
keeps_letter words other (Flag word ∷ pieces) e = refl
keeps_letter words other (EntryNumber ∷ pieces) e = refl
keeps_letter words other (Protocol ∷ pieces) e = refl
keeps_letter words other (Source ∷ pieces) e = refl
keeps_letter words other (Destination ∷ pieces) e = refl
keeps_letter words other (Ports ∷ pieces) e = refl
keeps_letter words other (Anything ∷ pieces) e = refl

begins_letter : (words : List (List ℕ)) (pieces : List Piece) → match_words pieces words ≡ true → parts_begin (letter words) pieces ≡ true
begins_letter words [] e = refl
begins_letter [] (Word v ∷ pieces) e = absurd (no_first v pieces e)
begins_letter (w ∷ words) (Word v ∷ pieces) e =
    let P : List ℕ → Type 0 = λ u. begins_with (letter (w ∷ words)) u ≡ true in
    subst P (first_word v w words pieces e).0 (eq-eqb (get_or w 0 0) (get_or w 0 0) refl)
begins_letter words (Verdict ∷ pieces) e = refl
begins_letter words (Place form ∷ pieces) e = refl
begins_letter words (Bracket word form ∷ pieces) e = refl
begins_letter words (Flag word ∷ pieces) e = refl
begins_letter words (EntryNumber ∷ pieces) e = refl
begins_letter words (Protocol ∷ pieces) e = refl
begins_letter words (Source ∷ pieces) e = refl
begins_letter words (Destination ∷ pieces) e = refl
begins_letter words (Ports ∷ pieces) e = refl
begins_letter words (Anything ∷ pieces) e = refl

keeps_ip : (words : List (List ℕ)) (pieces : List Piece) → match_words pieces (codes "ip" ∷ words) ≡ true → parts_follow_ip (letter words) pieces ≡ true
keeps_ip words [] e = refl
keeps_ip words (Word v ∷ pieces) e =
    let both = first_word v (codes "ip") words pieces e in
    let P : List ℕ → Type 0 = λ u. is_ip u ≡ true in
    and_from _ _ (subst P both.0 refl) (begins_letter words pieces both.1)
keeps_ip words (Verdict ∷ pieces) e = refl
keeps_ip words (Place form ∷ pieces) e = refl
keeps_ip words (Bracket word form ∷ pieces) e = refl
keeps_ip words (Flag word ∷ pieces) e = refl
keeps_ip words (EntryNumber ∷ pieces) e = refl
keeps_ip words (Protocol ∷ pieces) e = refl
keeps_ip words (Source ∷ pieces) e = refl
keeps_ip words (Destination ∷ pieces) e = refl
keeps_ip words (Ports ∷ pieces) e = refl
keeps_ip words (Anything ∷ pieces) e = refl

-- a row that matches with every word matches
completes-matches : (extended : Bool) (words : List (List ℕ)) (rule : Rule) → completes extended words rule ≡ true → matches words rule ≡ true
completes-matches extended words rule e = go (matches words rule) refl
  where
    go : (b : Bool) → matches words rule ≡ b → matches words rule ≡ true
    go true is = is
    go false is = absurd (true≢false (sym e ∙ rw is refl))

-- rows that are left out without a match
pub left_out : (words : List (List ℕ)) (keeps : Rule → Bool) (rules others : List Rule) → ((rule : Rule) → matches words rule ≡ true → keeps rule ≡ true) →
    rules ≡ filter keeps others → SaysTheSame words rules others
left_out words keeps rules others sound is = record {
  matching = ap (find (matches words)) is ∙ find-filter (matches words) keeps sound others;
  completing = λ extended. ap (find (completes extended words)) is ∙ find-filter (completes extended words) keeps (λ rule complete. sound rule (completes-matches extended words rule complete)) others;
}

pub same_letter : (words : List (List ℕ)) (l : ℕ) (rules others : List Rule) → begins (codes "ip") words ≡ false → l ≡ letter words → rules ≡ filter (has_letter l) others →
    SaysTheSame words rules others
same_letter words l rules others other at is =
    left_out words (has_letter (letter words)) rules others (λ rule. keeps_letter words other rule.pieces) (is ∙ ap (λ k. filter (has_letter k) others) at)

pub same_ip : (words : List (List ℕ)) (l : ℕ) (rules others : List Rule) → begins (codes "ip") words ≡ true → l ≡ letter (drop 1 words) → rules ≡ filter (follows_ip l) others →
    SaysTheSame words rules others
same_ip [] l rules others ip at is = absurd (true≢false (sym ip))
same_ip (w ∷ more) l rules others ip at is =
    let P : List ℕ → Type 0 = λ v. SaysTheSame (v ∷ more) rules others in
    subst P (sym (same_bytes w (codes "ip") ip))
    (left_out (codes "ip" ∷ more) (follows_ip (letter more)) rules others (λ rule. keeps_ip more rule.pieces) (is ∙ ap (λ k. filter (follows_ip k) others) at))

-- rows that say the same as those of a block
pub in_block : (words : List (List ℕ)) (rules : List Rule) (within block : BlockKind) → within ≡ block → SaysTheSame words rules (rows block) → SaysTheSame words rules (rows within)
in_block words rules within block is same = let P : BlockKind → Type 0 = λ b. SaysTheSame words rules (rows b) in subst P (sym is) same
