use Rattle.std.proofs.Common.{◌≡◌, ◌∙◌, ◌+◌, ◌<◌, ◌&&◌, ℕ, Bool, true, false, List, [], ◌∷◌, ◌++◌, length, map}
use Rattle.std.proofs.Common.{get_or, take, drop, Some, None, refl, sym, ap, ap₂, if◌then◌else◌, IsUtf8, add-one, Bor, take-suc, drop-cons}
use Rattle.std.specs.List.{list_all}
use Rattle.std.specs.Str.{is_utf8}
use Rattle.std.proofs.lemmas.List.{map-append}
use Rattle.std.proofs.lemmas.Str.{IsUtf8-from_is_utf8, is_utf8-from_IsUtf8}
use Rattle.command_words.proofs.reading.texts_of.Goals as goal

not_text : (bytes : List ℕ) → (IsUtf8 bytes → ⊥) → is_utf8 bytes ≡ false
not_text bytes h = go (is_utf8 bytes) refl
  where
    go : (t : Bool) → is_utf8 bytes ≡ t → is_utf8 bytes ≡ false
    go true e = absurd (h (IsUtf8-from_is_utf8 bytes e))
    go false e = e

-- what is left at a word
left_at : (words : List (List ℕ)) (i : ℕ) (word : List ℕ) (t : Bool) → i < length words → word ≡ get_or words i word → is_utf8 word ≡ t
    → list_all is_utf8 (drop i words) ≡ (t && list_all is_utf8 (drop (i + 1) words))
left_at words i word t below at is =
    ap (list_all is_utf8) (drop-cons words i word below)
    ∙ ap₂ (λ (b : Bool) (rest : List (List ℕ)). b && list_all is_utf8 rest) (ap is_utf8 (sym at) ∙ is) (rw add-one refl)

none_where : (words : List (List ℕ)) → list_all is_utf8 words ≡ false → None ≡ (if list_all is_utf8 words then Some words else None)
none_where words e = rw e refl

one_more : (words : List (List ℕ)) (texts : List (Bor (List ℕ))) (i : ℕ) (text : Bor (List ℕ)) → i < length words → text.now ≡ get_or words i text.now
    → map (λ s. s.now) texts ≡ take i words → map (λ s. s.now) (texts ++ text ∷ []) ≡ take (i + 1) words
one_more words texts i text below at same =
    map-append (λ (s : Bor (List ℕ)). s.now) texts (text ∷ [])
    ∙ ap₂ (λ (xs : List (List ℕ)) (x : List ℕ). xs ++ x ∷ []) same at ∙ sym (rw add-one (take-suc words i text.now below))

pub returns-in-Err : goal.returns-in-Err
returns-in-Err c =
    let words = c.args.words.now in
    let is = not_text c.bytes.result.now c.in-Err.ensures.cases.0 in
    let here = left_at words c.loop-word.word-index c.word-item.result false c.loop-word-test.true c.word-item.is (ap is_utf8 (sym c.bytes.ensures) ∙ is) in
    none_where words (c.loop-word.invariant.left ∙ here)

pub loop-word-preserved : goal.loop-word-preserved
loop-word-preserved c =
    let words = c.args.words.now in
    let i = c.loop-word.word-index in
    let ok = c.in-Ok.ensures.cases in
    let text_is : c.in-Ok.text.now ≡ c.word-item.result = ok.0 ∙ c.bytes.ensures in
    let is : is_utf8 c.word-item.result ≡ true = ap is_utf8 (sym c.bytes.ensures) ∙ is_utf8-from_IsUtf8 _ ok.1 in
    let at : c.in-Ok.text.now ≡ get_or words i c.in-Ok.text.now = rw text_is c.word-item.is in
    record {
      same = ap (map (λ s. s.now)) c.in_ok-push-in-Ok.ensures.items ∙ one_more words c.loop-word.texts.items i c.in-Ok.text c.loop-word-test.true at c.loop-word.invariant.same;
      left = c.loop-word.invariant.left ∙ left_at words i c.word-item.result true c.loop-word-test.true c.word-item.is is;
    }
