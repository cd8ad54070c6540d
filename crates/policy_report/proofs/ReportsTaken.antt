-- Only the lines of blocks, and of a report, are taken.
use Rattle.std.proofs.Common.{◌≡◌, ℕ, suc, zero, ◌+◌, ◌≤◌, nat_lt, Bool, true, false, cond, List, [], ◌∷◌}
use Rattle.std.proofs.Common.{◌++◌, length, refl, ap, ap₂, sym, ◌∙◌, arith, append_assoc, length-append, Option, Some, None, Ok, codes}
use Rattle.std.specs.List.{AllZip, slice_get}
use Rattle.std.specs.Prelude.{All}
use Rattle.std.proofs.lemmas.List.Elements.{All-nil, All-cons}
use Rattle.std.specs.Str.{bytes_eq}
use Rattle.std.proofs.lemmas.Bool.{false≢true, ltb-false}
use Rattle.std.proofs.lemmas.Option.{slice_get_past}
use Rattle.std.proofs.lemmas.Slice.Eq.{bytes_eq-Decides}
use Rattle.arc_base.specs.TextLines.{lines}
use Rattle.edit_list.specs.declared.edit_kinds.Edit.{Edit}
use Rattle.net_model.specs.declared.policies.Document.{Document}
use Rattle.net_model.specs.declared.policies.Policy.{Policy}
use Rattle.net_model.specs.declared.rows.Network.{Network}
use Rattle.net_model.specs.declared.verdicts.Verdict as verdicts
use Rattle.net_model.specs.Validity.{IsValid}
use Rattle.policy_report.specs.declared.drafts.Block.{Block}
use Rattle.policy_report.specs.declared.drafts.Block.TheVariants.{Open, Whole}
use Rattle.policy_report.specs.declared.drafts.Draft.{Draft}
use Rattle.policy_report.specs.declared.drafts.Heading.{Heading}
use Rattle.policy_report.specs.declared.got.Got.TheVariants.{End}
use Rattle.policy_report.specs.declared.stages.Stage.TheVariants.{Between, Within, Steps, Ended}
use Rattle.policy_report.specs.declared.stages.Text.{Text}
use Rattle.policy_report.specs.declared.stages.Text.TheVariants as texts
use Rattle.policy_report.specs.Lines.{line}
use Rattle.policy_report.specs.Readings.{line_words, heading_of, asked_by, block_of}
use Rattle.policy_report.specs.Reports.{kind_word, blocks_text, report_text}
use Rattle.policy_report.specs.Rereading.{IsReadable, IsWhole, IsWholeReport, answers, OnlyReportsAreTaken}
use Rattle.policy_report.specs.Steps.{Step, next_line, goes_on, went_on, begun, closed, logs, may_stand, is_of, is_of_policy, grown}
use Rattle.policy_report.proofs.Blocks.{Makes}
use Rattle.policy_report.proofs.BlocksTaken.{grown_told}
use Rattle.policy_report.proofs.LineWords.{witness_texts}
use Rattle.policy_report.proofs.BlockTexts.{first_words, first_text, blocks_first, blocks_end, few_lines}
use Rattle.policy_report.proofs.Ended.{lines_append}
use Rattle.policy_report.proofs.FirstLines.{asked_word, word_of_kind, heading_words, heading_told, policy_is}
use Rattle.policy_report.proofs.ReportsRead.{answers_at, at_place, Stands, stands_from}
use Rattle.policy_report.proofs.Spaced.{line_of_words}
use Rattle.policy_report.proofs.WitnessesTaken.{block_told}

module _ (net : Network) (doc : Document) (edits : List Edit) where
  -- after this step each line is taken, and the last one is the end
  abbrev pub IsTaken : Step → List (List ℕ) → Type 0
  IsTaken s ls = IsWhole (s.1 ∷ answers net doc edits s.0 ls)

  -- by a test
  pub if_taken : {P : Type 0} (b : Bool) (s t : Step) (ls : List (List ℕ)) → IsTaken (cond b s t) ls →
      (b ≡ true → IsTaken s ls → P) → (b ≡ false → IsTaken t ls → P) → P
  if_taken true s t ls h yes_it no_it = yes_it refl h
  if_taken false s t ls h yes_it no_it = no_it refl h

  -- the closing line is the last one
  pub nothing_after : (ls : List (List ℕ)) (n : ℕ) → IsTaken (record { line = n; stage = Ended }, Ok End) ls → ls ≡ []
  nothing_after [] n whole = refl
  nothing_after (t ∷ ls) n whole = absurd whole

  -- what stands after the blocks: the end of a report, or the line `log` of a repair and lines that are taken after it
  abbrev pub Closes : Text → List (List ℕ) → Type 0
  Closes texts.Report after = after ≡ codes "end" ∷ []
  Closes texts.Repair after = (log : List (List ℕ)) × (m : ℕ) × (after ≡ codes "log" ∷ log) × IsWhole (answers_at net doc edits m Steps log)

  end_closes : (text : Text) (t : List ℕ) (ls : List (List ℕ)) (n : ℕ) → t ≡ codes "end" → IsTaken (closed n text) ls → Closes text (t ∷ ls)
  end_closes texts.Report t ls n is taken = ap₂ (λ u us. u ∷ us) is (nothing_after ls n taken)
  end_closes texts.Repair t ls n is bad = absurd bad

  log_closes : (text : Text) (t : List ℕ) (ls : List (List ℕ)) (n : ℕ) → t ≡ codes "log" → IsTaken (logs n text) ls → Closes text (t ∷ ls)
  log_closes texts.Report t ls n is bad = absurd bad
  log_closes texts.Repair t ls n is taken = (ls, n, ap (λ u. u ∷ ls) is, taken)

  module _ (text : Text) where
    -- the lines that are left of a block, and those after it
    record Rest (which : ℕ) (block : Block) (ls : List (List ℕ)) : Type 0 where
      pub verdict : verdicts.Verdict
      pub front : List (List ℕ)
      pub after : List (List ℕ)
      pub n : ℕ
      pub split : ls ≡ front ++ after
      pub makes : Makes net block verdict front
      pub whole : IsWhole (answers_at net doc edits n (Between text (which + 1)) after)

    -- a line of a block
    line_taken : (t : List ℕ) (ls : List (List ℕ)) (n which : ℕ) (draft : Draft) →
        (later : (m : ℕ) (next : Draft) → IsWhole (answers_at net doc edits m (Within text which next) ls) → Rest which (Open next) ls) →
        (o : Option Block) → grown net draft (line_words t) ≡ o → IsTaken (went_on n text which o) ls → Rest which (Open draft) (t ∷ ls)
    line_taken t ls n which draft later None e whole = absurd whole
    line_taken t ls n which draft later (Some (Open next)) e whole =
        let rest = later n next whole in
        record {
          verdict = rest.verdict;
          front = t ∷ rest.front;
          after = rest.after;
          n = rest.n;
          split = ap (λ r. t ∷ r) rest.split;
          makes = grown_told net draft t (Open next) rest.verdict rest.front e rest.makes;
          whole = rest.whole;
        }
    line_taken t ls n which draft later (Some (Whole v)) e whole =
        record {
          verdict = v;
          front = t ∷ [];
          after = ls;
          n = n;
          split = refl;
          makes = grown_told net draft t (Whole v) v [] e (refl, refl);
          whole = whole;
        }

    within_taken : (ls : List (List ℕ)) (n which : ℕ) (draft : Draft) → IsWhole (answers_at net doc edits n (Within text which draft) ls) → Rest which (Open draft) ls
    within_taken [] n which draft whole = absurd whole
    within_taken (t ∷ ls) n which draft whole =
        line_taken t ls (next_line n) which draft (λ m next. within_taken ls m which next) (grown net draft (line_words t)) refl whole

    block_taken : (ls : List (List ℕ)) (n which : ℕ) (block : Block) → IsTaken (goes_on n text which block) ls → Rest which block ls
    block_taken ls n which (Open draft) whole = within_taken ls n which draft whole
    block_taken ls n which (Whole v) whole = record { verdict = v; front = []; after = ls; n = n; split = refl; makes = (refl, refl); whole = whole }

    -- the first line of a block
    first_taken : {P : Type 0} (ls : List (List ℕ)) (n which : ℕ) (o : Option Heading) → IsTaken (begun doc n text which o) ls →
        ((heading : Heading) → o ≡ Some heading → is_of doc.policies which heading ≡ true → may_stand text heading.block ≡ true →
        IsTaken (goes_on n text which heading.block) ls → P) → P
    first_taken ls n which None whole then = absurd whole
    first_taken ls n which (Some heading) whole then =
        if_taken (is_of doc.policies which heading) _ _ ls whole
        (λ its taken.
        if_taken (may_stand text heading.block) _ _ ls taken (λ stands goes_it. then heading refl its stands goes_it) (λ other bad. absurd bad))
        (λ other bad. absurd bad)

    -- these lines are those of the blocks of these policies, and those that close them
    pub record AreBlocks (which : ℕ) (rest : List Policy) (ls : List (List ℕ)) : Type 0 where
      pub verdicts : List verdicts.Verdict
      pub readable : AllZip (IsReadable net) rest verdicts
      pub stand : All (Stands text) verdicts
      pub after : List (List ℕ)
      pub are : ls ≡ lines (blocks_text (which + 1) net rest verdicts) ++ after
      pub closes : Closes text after

    no_blocks : (done rest : List Policy) (which : ℕ) (ls : List (List ℕ)) →
        doc.policies ≡ done ++ rest → which ≡ length done → length doc.policies ≤ which → Closes text ls → AreBlocks which rest ls
    no_blocks done [] which ls all place over closes =
        record { verdicts = []; readable = tt; stand = All-nil (Stands text); after = ls; are = refl; closes = closes }
    no_blocks done (policy ∷ rest) which ls all place over closes = absurd (omega (arith, ap length all, length-append done (policy ∷ rest)))

    -- a heading that is taken is a policy's
    no_policy : (done : List Policy) (which : ℕ) (heading : Heading) → doc.policies ≡ done ++ [] → which ≡ length done → is_of doc.policies which heading ≡ true → ⊥
    no_policy done which heading all place its =
        let over : length doc.policies ≤ which = omega (arith, ap length all, length-append done []) in
        false≢true (ap (λ o. is_of_policy o which heading) (sym (slice_get_past doc.policies which over)) ∙ its)

    -- the heading and the lines of its block are a verdict's, and those of the other blocks follow
    block_is_told : IsValid net → (which : ℕ) (policy : Policy) (rest : List Policy) (heading : Heading) (t : List ℕ) (ls : List (List ℕ)) →
        which + 1 ≤ 4294967295 → heading_of (line_words t) ≡ Some heading → is_of_policy (Some policy) which heading ≡ true → may_stand text heading.block ≡ true →
        (left : Rest which heading.block ls) → AreBlocks (which + 1) rest left.after → AreBlocks which (policy ∷ rest) (t ∷ ls)
    block_is_told valid which policy rest heading t ls within read its may left others =
        let vs = others.verdicts in
        let head = heading_told (line_words t) heading read in
        let (number_is, asked_is) = policy_is policy which heading its in
        let begun_with : block_of (asked_by policy.kind) head.answer head.count ≡ Some heading.block =
        ap (λ a. block_of a head.answer head.count) (sym asked_is) ∙ head.block in
        let v = left.verdict in
        let block = block_told net head.answer head.count heading.block v left.front head.few left.makes policy.kind begun_with in
        let few = few_lines net v block.is_told in
        let words : line_words t ≡ first_words net (which + 1) policy v =
        head.told ∙ ap (λ k. heading_words k (asked_word heading.asked) head.answer head.count) number_is ∙
        ap (λ a. heading_words (which + 1) a head.answer head.count) (ap asked_word asked_is ∙ word_of_kind policy.kind) ∙
        ap₂ (λ a c. heading_words (which + 1) (kind_word policy.kind) a c) block.answer_is block.count_is in
        let others_lines : List (List ℕ) = lines (blocks_text (which + 1 + 1) net rest vs) ++ others.after in
        let whole : t ∷ ls ≡ first_text net (which + 1) policy v ∷ (witness_texts net v ++ others_lines) =
        ap₂ (λ u us. u ∷ us) (line_of_words t (first_words net (which + 1) policy v) words) (left.split ∙ ap₂ (λ f r. f ++ r) block.front_is others.are) in
        record {
          verdicts = v ∷ vs;
          readable = (record { kind = block.is_answer; told = block.is_told }, others.readable);
          stand = All-cons (Stands text) v vs (stands_from net text heading.block v left.front left.makes may) others.stand;
          after = others.after;
          are = whole ∙ sym (blocks_first net valid (which + 1) policy rest v vs within few block.is_told others.after);
          closes = others.closes;
        }

    -- between blocks, of lines that are no more than so many
    pub between_taken : IsValid net → length doc.policies ≤ 4294967295 → (most : ℕ) (ls : List (List ℕ)) → length ls ≤ most → (done rest : List Policy) (n which : ℕ) →
        doc.policies ≡ done ++ rest → which ≡ length done → IsWhole (answers_at net doc edits n (Between text which) ls) → AreBlocks which rest ls
    between_taken valid few most [] fits done rest n which all place whole = absurd whole
    between_taken valid few zero (t ∷ ls) fits done rest n which all place whole = absurd (omega arith)
    between_taken valid few (suc most) (t ∷ ls) fits done rest n which all place whole =
        if_taken (bytes_eq t (codes "end")) _ _ ls whole
        (λ is_end taken.
        if_taken (nat_lt which (length doc.policies)) _ _ ls taken (λ early bad. absurd bad) λ over ended.
        no_blocks done rest which (t ∷ ls) all place (ltb-false _ _ over) (end_closes text t ls (next_line n) ((bytes_eq-Decides t (codes "end")).0 is_end) ended))
        (λ no_end taken.
        if_taken (bytes_eq t (codes "log")) _ _ ls taken
        (λ is_log logged.
        if_taken (nat_lt which (length doc.policies)) _ _ ls logged (λ early bad. absurd bad) λ over goes_it.
        no_blocks done rest which (t ∷ ls) all place (ltb-false _ _ over) (log_closes text t ls (next_line n) ((bytes_eq-Decides t (codes "log")).0 is_log) goes_it))
        λ no_log begun_it.
        first_taken ls (next_line n) which (heading_of (line_words t)) begun_it λ heading read its may goes_it.
        let left = block_taken ls (next_line n) which heading.block goes_it in
        let fewer : length left.after ≤ most = omega (arith, ap length left.split, length-append left.front left.after) in
        one_more rest all heading read its may left
        (λ policy others whole_is.
        between_taken valid few most left.after fewer (done ++ policy ∷ []) others left.n (which + 1)
        (whole_is ∙ sym (append_assoc done (policy ∷ []) others)) (omega (arith, length-append done (policy ∷ []))) left.whole))
      where
        one_more : (rest : List Policy) → doc.policies ≡ done ++ rest →
            (heading : Heading) → heading_of (line_words t) ≡ Some heading → is_of doc.policies which heading ≡ true → may_stand text heading.block ≡ true →
            (left : Rest which heading.block ls) →
            ((policy : Policy) (others : List Policy) → doc.policies ≡ done ++ policy ∷ others → AreBlocks (which + 1) others left.after) → AreBlocks which rest (t ∷ ls)
        one_more [] all heading read its may left later = absurd (no_policy done which heading all place its)
        one_more (policy ∷ others) all heading read its may left later =
            let at : slice_get doc.policies which ≡ Some policy = ap (λ ps. slice_get ps which) all ∙ at_place done policy others which place in
            let within : which + 1 ≤ 4294967295 = omega (arith, ap length all, length-append done (policy ∷ others)) in
            block_is_told valid which policy others heading t ls within read (ap (λ o. is_of_policy o which heading) (sym at) ∙ its) may left (later policy others all)

-- the head of a report
head_taken : (net : Network) (doc : Document) (edits : List Edit) {P : Type 0} (is_report is_repair : Bool) (s t u : Step) (ls : List (List ℕ)) →
    let taken : Step = cond is_report s (cond is_repair t u) in
    IsWholeReport (taken.1 ∷ answers net doc edits taken.0 ls) →
    (is_report ≡ true → IsWholeReport (s.1 ∷ answers net doc edits s.0 ls) → P) →
    (IsWholeReport (t.1 ∷ answers net doc edits t.0 ls) → P) → (IsWholeReport (u.1 ∷ answers net doc edits u.0 ls) → P) → P
head_taken net doc edits true is_repair s t u ls whole one two three = one refl whole
head_taken net doc edits false true s t u ls whole one two three = two whole
head_taken net doc edits false false s t u ls whole one two three = three whole

-- only the lines of a report are taken
pub only_reports_are_taken : OnlyReportsAreTaken
only_reports_are_taken net doc edits [] valid few whole = absurd whole
only_reports_are_taken net doc edits (t ∷ ls) valid few whole =
    head_taken net doc edits (bytes_eq t (codes "arc-report 1")) (bytes_eq t (codes "arc-repair 1")) _ _ _ ls whole
    (λ is_head taken.
    let blocks = between_taken net doc edits texts.Report valid few (length ls) ls (omega arith) [] doc.policies 1 0 refl refl taken in
    let text : List ℕ = blocks_text 1 net doc.policies blocks.verdicts in
    let split : lines (report_text net doc blocks.verdicts) ≡ codes "arc-report 1" ∷ (lines text ++ codes "end" ∷ []) =
    ap lines (append_assoc (line (codes "arc-report") (codes "1" ∷ [])) text (line (codes "end") [])) ∙
    ap (λ r. codes "arc-report 1" ∷ r) (lines_append text (line (codes "end") []) (blocks_end 1 net doc.policies blocks.verdicts)) in (
      blocks.verdicts,
      blocks.readable,
      ap₂ (λ u us. u ∷ us) ((bytes_eq-Decides t (codes "arc-report 1")).0 is_head) (blocks.are ∙ ap (λ r. lines text ++ r) blocks.closes) ∙ sym split,
    ))
    (λ bad. absurd bad) (λ bad. absurd bad)
