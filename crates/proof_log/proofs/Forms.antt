-- What a line is read as, from what its parts are.
use Rattle.std.proofs.Common.{◌≡◌, ℕ, true, false, not, List, [], ◌∷◌, refl, ap, sym, ◌∙◌, Some, None, Ok, Err, IsFalse, cond, ◌||◌, length, ◌==◌}
use Rattle.std.proofs.lemmas.Bool.{false≢true}
use Rattle.std.specs.List.{list_any}
use Rattle.cnf_types.specs.Dimacs.{is_comment, cnf_line_words}
use Rattle.arc_base.specs.TextLines.{without_return}
use Rattle.arc_base.specs.Words.{is_filled, words}
use Rattle.proof_log.specs.declared.steps.Step.{Step}
use Rattle.proof_log.specs.declared.reading.LineKind.TheVariants.{BadNumber}
use Rattle.proof_log.specs.Reading.{reading, is_bad, number_words, formed, sign, numbers, ok_or_bad_line}

filled : (line : List ℕ) → false ≡ (length line == 0) → is_filled line ≡ true
filled [] h = absurd (false≢true h)
filled (b ∷ bytes) h = refl

-- a line of good numbers in one of the three forms
pub reads_step : (line text : List ℕ) (s : Step) → text ≡ without_return line → false ≡ (length text == 0) → false ≡ is_comment line →
    IsFalse (list_any is_bad (number_words (words text))) → Some s ≡ formed (sign (words text)) (numbers (number_words (words text))) → reading line ≡ Ok (Some s)
unfolding reading
reads_step line text s text_is some off good form =
    let at : is_filled (without_return line) ≡ true = rw (sym text_is) (filled text some) in
    let fine : list_any is_bad (number_words (cnf_line_words line)) ≡ false = rw (sym text_is) good in
    let step : formed (sign (cnf_line_words line)) (numbers (number_words (cnf_line_words line))) ≡ Some s = rw (sym text_is) (sym form) in
    ap (λ b. cond (not b || is_comment line) (Ok None)
    (cond (list_any is_bad (number_words (cnf_line_words line))) (Err BadNumber) (ok_or_bad_line (formed (sign (cnf_line_words line)) (numbers (number_words (cnf_line_words line))))))) at
    ∙ ap (λ b. cond b (Ok None)
    (cond (list_any is_bad (number_words (cnf_line_words line))) (Err BadNumber) (ok_or_bad_line (formed (sign (cnf_line_words line)) (numbers (number_words (cnf_line_words line)))))))
    (sym off) ∙ ap (λ b. cond b (Err BadNumber) (ok_or_bad_line (formed (sign (cnf_line_words line)) (numbers (number_words (cnf_line_words line)))))) fine ∙ ap ok_or_bad_line step
