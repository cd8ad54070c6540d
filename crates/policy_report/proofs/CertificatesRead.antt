-- The lines of a certificate are read again.
use Rattle.std.proofs.Common.{◌≡◌, ℕ, ◌+◌, ◌≤◌, nat_lt, Bool, true, false, List, [], ◌∷◌, ◌++◌, length, map, refl, ap, sym, ◌∙◌, arith, append_assoc, length-append, Some, Result, Ok, codes, decimal}
use Rattle.std.specs.Prelude.{option_and_then, slice_get}
use Rattle.std.specs.Fmt.{digits}
use Rattle.std.specs.List.{AllZip}
use Rattle.std.proofs.lemmas.Bool.{cond-true, cond-false, le-ltb}
use Rattle.arc_base.specs.TextLines.{lines}
use Rattle.arc_base.specs.Words.{words}
use Rattle.arc_base.specs.declared.certificate.CertKind.TheVariants.{NoClaim}
use Rattle.net_model.specs.declared.policies.Document.{Document}
use Rattle.net_model.specs.declared.policies.Policy.{Policy}
use Rattle.net_model.specs.declared.rows.Network.{Network}
use Rattle.net_model.specs.declared.verdicts.Verdict as verdicts
use Rattle.net_model.specs.Validity.{IsValid}
use Rattle.edit_list.specs.declared.claims.Claim.{Claim}
use Rattle.edit_list.specs.declared.claims.Claim.TheVariants as claims
use Rattle.edit_list.specs.declared.edit_kinds.Edit.{Edit}
use Rattle.edit_list.specs.declared.edit_kinds.Edit.TheVariants as kinds
use Rattle.edit_list.specs.Prices.{chosen_of}
use Rattle.proof_log.specs.Reading.{reading}
use Rattle.proof_log.specs.Texts.{log_text}
use Rattle.policy_report.specs.declared.answers.Answer.TheVariants as replies
use Rattle.policy_report.specs.declared.got.Got.{Got}
use Rattle.policy_report.specs.declared.got.Got.TheVariants as gots
use Rattle.policy_report.specs.declared.got.Got.TheVariants.{More, Head}
use Rattle.policy_report.specs.declared.got.CertFault.{CertFault}
use Rattle.policy_report.specs.declared.got.CertForm.TheVariants.{Repaired, NoRepair}
use Rattle.policy_report.specs.declared.stages.Stage.TheVariants as stages
use Rattle.policy_report.specs.declared.stages.Text.TheVariants as texts
use Rattle.policy_report.specs.Certificates.{head_line, claim_line, shown_lines, log_lines, budget_line, budget_text}
use Rattle.policy_report.specs.Edits.{edit_text, edit_words, edit_lines, edit_from, AreToldApart, HasAddresses}
use Rattle.policy_report.specs.Lines.{after_spaces, line}
use Rattle.policy_report.specs.Readings.{count_of, answer_of, answer_with, line_words}
use Rattle.policy_report.specs.Reports.{kind_word, answer_word, witness_lines, blocks_text}
use Rattle.policy_report.specs.Rereading.{IsReadable, blocks_answers}
use Rattle.policy_report.specs.Recertifying.{Told, log_answers, chosen_from, edits_answers, CertificatesAreWritten, CertificatesAreReadAgain, BudgetsAreRefused}
use Rattle.policy_report.specs.Steps.{Step, next_line, answered, is_edit, edited, between, logs}
use Rattle.policy_report.proofs.BlockTexts.{first_text, blocks_first, blocks_end, few_lines}
use Rattle.policy_report.proofs.Ended.{EndsLine, nothing_ends, line_ends, both_end, all_end, lines_append}
use Rattle.policy_report.proofs.EditsFound.{edit_found}
use Rattle.policy_report.proofs.EditWords.{are_edit_words}
use Rattle.policy_report.proofs.LineWords.{witness_texts}
use Rattle.policy_report.proofs.LogsRead.{log_read, steps_end, written_read}
use Rattle.policy_report.proofs.Parts.{count_read}
use Rattle.policy_report.proofs.ReportsRead.{answers_at, at_place, blocks_read}
use Rattle.policy_report.proofs.Spaced.{AreWords, joined, line_first, words_read}
use Rattle.policy_report.proofs.WordBytes.{word, decimal_word}

-- the words of an answer of two numbers
abbrev pub two_words : List ℕ → ℕ → ℕ → List (List ℕ)
two_words kind number bound = codes "answer" ∷ kind ∷ decimal number ∷ decimal bound ∷ []

pub two_are_words : (kind : List ℕ) (number bound : ℕ) → AreWords (kind ∷ []) → number ≤ 4294967295 → bound ≤ 4294967295 → AreWords (two_words kind number bound)
two_are_words kind number bound h small low = (word _ refl, (h.0, (decimal_word number (omega arith), (decimal_word bound (omega arith), tt))))

-- the answer of two numbers
two_read : (kind : List ℕ) (number bound : ℕ) → AreWords (kind ∷ []) → number ≤ 4294967295 → bound ≤ 4294967295 →
    answer_of (line_words (joined (two_words kind number bound))) ≡ answer_with kind number bound
two_read kind number bound h small low =
    ap answer_of (words_read (two_words kind number bound) (omega arith) (two_are_words kind number bound h small low)) ∙
    ap (option_and_then (λ n. option_and_then (λ b. answer_with kind n b) (count_of (decimal bound)))) (count_read number small) ∙
    ap (option_and_then (λ b. answer_with kind number b)) (count_read bound low)

-- the answer that there is no repair
abbrev pub none_words : ℕ → List (List ℕ)
none_words bound = codes "answer" ∷ codes "none" ∷ decimal bound ∷ []

pub none_are_words : (bound : ℕ) → bound ≤ 4294967295 → AreWords (none_words bound)
none_are_words bound low = (word _ refl, (word _ refl, (decimal_word bound (omega arith), tt)))

none_read : (bound : ℕ) → bound ≤ 4294967295 → answer_of (line_words (joined (codes "answer" ∷ codes "none" ∷ decimal bound ∷ []))) ≡ Some (replies.NoRepair bound)
none_read bound low =
    ap answer_of (words_read (codes "answer" ∷ codes "none" ∷ decimal bound ∷ []) (omega arith) (none_are_words bound low)) ∙
    ap (option_and_then (λ (b : ℕ). Some (replies.NoRepair b))) (count_read bound low)

-- the first word of an edit's text
is_edit_text : (net : Network) (edit : Edit) → is_edit (words (edit_text net edit)) ≡ true
is_edit_text net (kinds.Session face) = refl
is_edit_text net (kinds.RouteList list prefix) = refl
is_edit_text net (kinds.RouteNew face prefix) = refl
is_edit_text net (kinds.PacketList list class) = refl
is_edit_text net (kinds.PacketNew face class) = refl

-- the number of the first policy
decimal_one : decimal 1 ≡ 49 ∷ []
unfolding digits
decimal_one = refl

module _ (net : Network) (doc : Document) (edits : List Edit) where
  -- the line `log` after all blocks, and the log
  log_closes : (log : List (List ℕ)) (told : List Told) → map reading log ≡ map Ok told → (m which : ℕ) → length doc.policies ≤ which →
      answers_at net doc edits m (stages.Between texts.Repair which) (codes "log" ∷ (log ++ codes "end" ∷ [])) ≡ log_answers told
  log_closes log told read m which over =
      let taken : between doc (next_line m) texts.Repair which (codes "log") ≡ logs (next_line m) texts.Repair =
      cond-false (nat_lt which (length doc.policies)) _ _ (le-ltb which (length doc.policies) over) in
      ap (λ (s : Step). s.1 ∷ answers_at net doc edits s.0.line s.0.stage (log ++ codes "end" ∷ [])) taken ∙
      ap (λ r. Ok More ∷ r) (log_read net doc edits log told (next_line m) read)

  -- where the first line is none of an edit, the edits are over
  record NoEdit (ls : List (List ℕ)) : Type 0 where
    pub first : List ℕ
    pub rest : List (List ℕ)
    pub is : ls ≡ first ∷ rest
    pub none : is_edit (words first) ≡ false

  edits_over : (ls : List (List ℕ)) → NoEdit ls → (m next : ℕ) → answers_at net doc edits m (stages.Edits next) ls ≡ answers_at net doc edits m (stages.Between texts.Repair 0) ls
  edits_over ls over m next =
      ap (answers_at net doc edits m (stages.Edits next)) over.is ∙
      ap (λ (s : Step). s.1 ∷ answers_at net doc edits s.0.line s.0.stage over.rest) (cond-false (is_edit (words over.first)) _ _ over.none) ∙
      sym (ap (answers_at net doc edits m (stages.Between texts.Repair 0)) over.is)

  -- the blocks and the log begin with no edit
  shown_no_edit : IsValid net → (rest : List (List ℕ)) (policies : List Policy) (vs : List verdicts.Verdict) → AllZip (IsReadable net) policies vs →
      NoEdit (lines (blocks_text 1 net policies vs) ++ codes "log" ∷ rest)
  shown_no_edit valid rest [] [] readable = record { first = codes "log"; rest = rest; is = refl; none = refl }
  shown_no_edit valid rest [] (v ∷ vs) readable = absurd readable
  shown_no_edit valid rest (policy ∷ policies) [] readable = absurd readable
  shown_no_edit valid rest (policy ∷ policies) (v ∷ vs) readable =
      let told = readable.0.told in
      record {
        first = first_text net 1 policy v;
        rest = witness_texts net v ++ (lines (blocks_text 2 net policies vs) ++ codes "log" ∷ rest);
        is = blocks_first net valid 1 policy policies v vs (omega arith) (few_lines net v told) told (codes "log" ∷ rest);
        none = ap (λ d. is_edit (words (d ++ after_spaces (kind_word policy.kind ∷ answer_word v ∷ decimal (length (witness_lines net v)) ∷ [])))) decimal_one;
      }

  -- the lines of edits, and what follows them
  edits_read : IsValid net → HasAddresses net → AreToldApart net edits → (after : List (List ℕ)) (tail : List (Result Got CertFault)) →
      ((m next : ℕ) → answers_at net doc edits m (stages.Edits next) after ≡ tail) →
      (done rest : List Edit) (flags : List Bool) (place next n : ℕ) → edits ≡ done ++ rest → place ≡ length done → length flags ≡ length rest → next ≤ place →
      answers_at net doc edits n (stages.Edits next) (lines (edit_lines net (chosen_of rest flags)) ++ after) ≡ edits_answers (chosen_from place flags) tail
  edits_read valid small apart after tail ends done [] [] place next n all at same before = ends n next
  edits_read valid small apart after tail ends done [] (flag ∷ flags) place next n all at same before = absurd (omega (arith, same))
  edits_read valid small apart after tail ends done (edit ∷ rest) [] place next n all at same before = absurd (omega (arith, same))
  edits_read valid small apart after tail ends done (edit ∷ rest) (false ∷ flags) place next n all at same before =
      edits_read valid small apart after tail ends (done ++ edit ∷ []) rest flags (place + 1) next n
      (all ∙ sym (append_assoc done (edit ∷ []) rest)) (omega (arith, length-append done (edit ∷ []))) (omega (arith, same)) (omega arith)
  edits_read valid small apart after tail ends done (edit ∷ rest) (true ∷ flags) place next n all at same before =
      let ws : List (List ℕ) = edit_words net edit in
      let later : List ℕ = edit_lines net (chosen_of rest flags) in
      let split : lines (edit_lines net (chosen_of (edit ∷ rest) (true ∷ flags))) ≡ edit_text net edit ∷ lines later =
      line_first (codes "edit") ws later (are_edit_words net valid small edit) in
      let there : slice_get edits place ≡ Some edit = ap (λ es. slice_get es place) all ∙ at_place done edit rest place at in
      let found : edit_from net edits next (edit_text net edit) ≡ Some place = edit_found net edits apart next place edit before there in
      ap (λ ls. answers_at net doc edits n (stages.Edits next) (ls ++ after)) split ∙
      ap (λ (s : Step). s.1 ∷ answers_at net doc edits s.0.line s.0.stage (lines later ++ after))
      (cond-true (is_edit (words (edit_text net edit))) _ _ (is_edit_text net edit) ∙ ap (edited (next_line n)) found) ∙
      ap (λ r. Ok (gots.Edit place) ∷ r)
      (edits_read valid small apart after tail ends (done ++ edit ∷ []) rest flags (place + 1) (place + 1) (next_line n)
      (all ∙ sym (append_assoc done (edit ∷ []) rest)) (omega (arith, length-append done (edit ∷ []))) (omega (arith, same)) (omega arith))

-- the head of a certificate
head_words : AreWords (codes "arc-repair" ∷ codes "1" ∷ [])
head_words = (word _ refl, (word _ refl, tt))

-- the lines of the head, of the answer and of what a repair shows
pub front_lines : (claim : Claim) (first : List ℕ) (ws : List (List ℕ)) (shown : List ℕ) → claim_line claim ≡ line first ws → AreWords (first ∷ ws) →
    lines (head_line ++ claim_line claim ++ shown) ≡ codes "arc-repair 1" ∷ joined (first ∷ ws) ∷ lines shown
front_lines claim first ws shown is are =
    ap lines (append_assoc head_line (claim_line claim) shown) ∙
    line_first (codes "arc-repair") (codes "1" ∷ []) (claim_line claim ++ shown) head_words ∙
    ap (λ l. codes "arc-repair 1" ∷ lines (l ++ shown)) is ∙
    ap (λ ls. codes "arc-repair 1" ∷ ls) (line_first first ws shown are)

pub edits_end : (net : Network) (list : List Edit) → EndsLine (edit_lines net list)
edits_end net list = all_end (λ edit. line (codes "edit") (edit_words net edit)) (λ edit. line_ends (codes "edit") (edit_words net edit)) list

pub certificates_are_read_again : CertificatesAreReadAgain
certificates_are_read_again net doc edits (claims.NoRepair bound) told ls valid small few apart is =
    let log : List (List ℕ) = codes "log" ∷ (is.log ++ codes "end" ∷ []) in
    let split : ls ≡ codes "arc-repair 1" ∷ joined (none_words bound) ∷ log =
    is.are ∙ ap (λ l. l ++ log) (front_lines (claims.NoRepair bound) (codes "answer") (codes "none" ∷ decimal bound ∷ []) [] refl (none_are_words bound is.is_told)) in
    ap (answers_at net doc edits 0 stages.Head) split ∙
    ap (λ r. Ok More ∷ r)
    (ap (λ (s : Step). s.1 ∷ answers_at net doc edits s.0.line s.0.stage log) (ap (answered 2) (none_read bound is.is_told)) ∙
    ap (λ r. Ok (Head (NoRepair bound)) ∷ Ok More ∷ r) (log_read net doc edits is.log told 3 is.read))
certificates_are_read_again net doc edits (claims.Repaired price bound chosen verdicts) told ls valid small few apart is =
    let claim : Claim = claims.Repaired price bound chosen verdicts in
    let told_claim = is.is_told in
    let log : List (List ℕ) = codes "log" ∷ (is.log ++ codes "end" ∷ []) in
    let blocks : List ℕ = blocks_text 1 net doc.policies verdicts in
    let chosen_lines : List ℕ = edit_lines net (chosen_of edits chosen) in
    let after : List (List ℕ) = lines blocks ++ log in
    let tail : List (Result Got CertFault) = blocks_answers net 0 verdicts (log_answers told) in
    let ends : (m next : ℕ) → answers_at net doc edits m (stages.Edits next) after ≡ tail = λ m next.
    edits_over net doc edits after (shown_no_edit net doc edits valid (is.log ++ codes "end" ∷ []) doc.policies verdicts told_claim.3) m next ∙
    blocks_read net doc edits valid texts.Repair log (log_answers told) (log_closes net doc edits is.log told is.read) [] doc.policies verdicts 0 m refl refl few told_claim.3 told_claim.4 in
    let split : ls ≡ codes "arc-repair 1" ∷ joined (two_words (codes "repaired") price bound) ∷ (lines chosen_lines ++ after) =
    is.are ∙
    ap (λ l. l ++ log) (front_lines claim (codes "answer") (codes "repaired" ∷ decimal price ∷ decimal bound ∷ []) (chosen_lines ++ blocks) refl
    (two_are_words (codes "repaired") price bound (word _ refl, tt) told_claim.0 told_claim.1) ∙
    ap (λ l. codes "arc-repair 1" ∷ joined (two_words (codes "repaired") price bound) ∷ l) (lines_append chosen_lines blocks (edits_end net (chosen_of edits chosen)))) ∙
    ap (λ l. codes "arc-repair 1" ∷ joined (two_words (codes "repaired") price bound) ∷ l) (append_assoc (lines chosen_lines) (lines blocks) log) in
    ap (answers_at net doc edits 0 stages.Head) split ∙
    ap (λ r. Ok More ∷ r)
    (ap (λ (s : Step). s.1 ∷ answers_at net doc edits s.0.line s.0.stage (lines chosen_lines ++ after))
    (ap (answered 2) (two_read (codes "repaired") price bound (word _ refl, tt) told_claim.0 told_claim.1)) ∙
    ap (λ r. Ok (Head (Repaired price bound)) ∷ r)
    (edits_read net doc edits valid small apart after tail ends [] edits chosen 0 0 2 refl refl told_claim.2 (omega arith)))

-- what is written is a certificate
claim_ends : (claim : Claim) → EndsLine (claim_line claim)
claim_ends (claims.Repaired price bound chosen verdicts) = line_ends (codes "answer") (codes "repaired" ∷ decimal price ∷ decimal bound ∷ [])
claim_ends (claims.NoRepair bound) = line_ends (codes "answer") (codes "none" ∷ decimal bound ∷ [])

shown_ends : (net : Network) (doc : Document) (edits : List Edit) (claim : Claim) → EndsLine (shown_lines net doc edits claim)
shown_ends net doc edits (claims.Repaired price bound chosen verdicts) =
    both_end (edit_lines net (chosen_of edits chosen)) (blocks_text 1 net doc.policies verdicts) (edits_end net (chosen_of edits chosen)) (blocks_end 1 net doc.policies verdicts)
shown_ends net doc edits (claims.NoRepair bound) = nothing_ends

pub certificates_are_written : CertificatesAreWritten
certificates_are_written net doc edits claim log told have =
    let front : List ℕ = head_line ++ claim_line claim ++ shown_lines net doc edits claim in
    let ends : EndsLine front =
    both_end (head_line ++ claim_line claim) (shown_lines net doc edits claim) (both_end head_line (claim_line claim) (line_ends (codes "arc-repair") (codes "1" ∷ [])) (claim_ends claim))
    (shown_ends net doc edits claim) in
    record {
      is_told = told;
      log = lines (log_text log);
      read = written_read log have;
      are = lines_append front (log_lines log) ends ∙
          ap (λ ls. lines front ++ ls) (ap lines (append_assoc (line (codes "log") []) (log_text log) (line (codes "end") [])) ∙
          ap (λ ls. codes "log" ∷ ls) (lines_append (log_text log) (line (codes "end") []) (steps_end 0 log.steps)));
    }

-- where the budget was used up
pub budgets_are_refused : BudgetsAreRefused
budgets_are_refused net doc edits limit bound log small low =
    let rest : List ℕ = log_lines log in
    let ws : List (List ℕ) = codes "budget" ∷ decimal limit ∷ decimal bound ∷ [] in
    let split : lines (budget_text limit bound log) ≡ codes "arc-repair 1" ∷ joined (codes "answer" ∷ ws) ∷ lines rest =
    ap lines (append_assoc head_line (budget_line limit bound) rest) ∙
    line_first (codes "arc-repair") (codes "1" ∷ []) (budget_line limit bound ++ rest) head_words ∙
    ap (λ ls. codes "arc-repair 1" ∷ ls) (line_first (codes "answer") ws rest (two_are_words (codes "budget") limit bound (word _ refl, tt) small low)) in (
      answers_at net doc edits 2 (stages.Failed (record { line = 2; kind = NoClaim })) (lines rest),
      ap (answers_at net doc edits 0 stages.Head) split ∙
          ap (λ r. Ok More ∷ r)
          (ap (λ (s : Step). s.1 ∷ answers_at net doc edits s.0.line s.0.stage (lines rest)) (ap (answered 2) (two_read (codes "budget") limit bound (word _ refl, tt) small low))),
    )
