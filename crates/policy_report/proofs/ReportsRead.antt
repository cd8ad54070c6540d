-- The lines of blocks and of a report are read again.
use Rattle.std.proofs.Common.{◌≡◌, ℕ, ◌+◌, ◌<◌, ◌≤◌, nat_lt, true, false, List, [], ◌∷◌, ◌++◌, length, refl, ap, ap₂, sym, subst, ◌∙◌, arith, All, append_assoc, length-append, Some, Result, Ok, codes}
use Rattle.std.specs.List.{AllZip, slice_get}
use Rattle.std.specs.Str.{bytes_eq}
use Rattle.std.proofs.lemmas.Bool.{cond-true, cond-false, le-ltb, false≢true, false_from_ne_true}
use Rattle.std.proofs.lemmas.Slice.Eq.{bytes_eq-Decides}
use Rattle.std.proofs.lemmas.List.Elements.{All-nil, All-cons, All-head, All-tail}
use Rattle.arc_base.specs.TextLines.{lines}
use Rattle.edit_list.specs.declared.edit_kinds.Edit.{Edit}
use Rattle.net_model.specs.declared.policies.Document.{Document}
use Rattle.net_model.specs.declared.policies.Policy.{Policy}
use Rattle.net_model.specs.declared.rows.Network.{Network}
use Rattle.net_model.specs.declared.verdicts.Verdict as verdicts
use Rattle.net_model.specs.declared.verdicts.Verdict.TheVariants as shows
use Rattle.net_model.specs.Validity.{IsValid}
use Rattle.policy_report.specs.declared.drafts.Block.{Block}
use Rattle.policy_report.specs.declared.drafts.Block.TheVariants.{Open, Whole}
use Rattle.policy_report.specs.declared.drafts.Heading.{Heading}
use Rattle.policy_report.specs.declared.drafts.Draft.TheVariants as drafts
use Rattle.policy_report.specs.declared.got.Got.{Got}
use Rattle.policy_report.specs.declared.got.Got.TheVariants as gots
use Rattle.policy_report.specs.declared.got.Got.TheVariants.{More, Verdict, End}
use Rattle.policy_report.specs.declared.got.CertForm.TheVariants.{Report}
use Rattle.policy_report.specs.declared.got.CertFault.{CertFault}
use Rattle.policy_report.specs.declared.stages.Stage.{Stage}
use Rattle.policy_report.specs.declared.stages.Stage.TheVariants.{Head, Between, Within}
use Rattle.policy_report.specs.declared.stages.Text.{Text}
use Rattle.policy_report.specs.declared.stages.Text.TheVariants as texts
use Rattle.policy_report.specs.Lines.{line}
use Rattle.policy_report.specs.Readings.{line_words, heading_of, asked_by}
use Rattle.policy_report.specs.Reports.{answer_word, witness_lines, blocks_text, report_text}
use Rattle.policy_report.specs.Recertifying.{IsYes}
use Rattle.policy_report.specs.Rereading.{IsReadable, answers, more, blocks_answers, ReportsAreReadAgain}
use Rattle.policy_report.specs.Steps.{Step, step, next_line, goes_on, went_on, begun, is_yes, may_stand, is_of, is_of_policy}
use Rattle.policy_report.proofs.Blocks.{Makes}
use Rattle.policy_report.proofs.BlocksRead.{grows, not_over}
use Rattle.policy_report.proofs.LineWords.{witness_texts}
use Rattle.policy_report.proofs.BlockTexts.{first_words, first_text, are_first_words, blocks_first, blocks_end, witness_size, few_lines}
use Rattle.policy_report.proofs.Ended.{lines_append}
use Rattle.policy_report.proofs.FirstLines.{heading_read, is_its_policy}
use Rattle.policy_report.proofs.Spaced.{joined, words_read}
use Rattle.policy_report.proofs.WitnessesRead.{Begins, begins}

-- what a reader answers, after so many lines, where this may come
abbrev pub answers_at : Network → Document → List Edit → ℕ → Stage → List (List ℕ) → List (Result Got CertFault)
answers_at net doc edits n stage ls = answers net doc edits (record { line = n; stage = stage }) ls

module _ (net : Network) (doc : Document) (edits : List Edit) (valid : IsValid net) (text : Text) where
  -- after the first line of a block
  block_read : (front : List (List ℕ)) (n which : ℕ) (block : Block) (v : verdicts.Verdict) (ls : List (List ℕ)) (rest : List (Result Got CertFault)) →
      Makes net block v front → ((m : ℕ) → answers_at net doc edits m (Between text (which + 1)) ls ≡ rest) →
      ((goes_on n text which block).1 ∷ answers net doc edits (goes_on n text which block).0 (front ++ ls)) ≡ more front ++ (Ok (Verdict which v) ∷ rest)
  block_read [] n which (Whole w) v ls rest (v_is, none) later = ap₂ (λ u r. Ok (Verdict which u) ∷ r) (sym v_is) (later n)
  block_read [] n which (Open draft) v ls rest makes later = absurd (not_over net draft v makes)
  block_read (t ∷ f) n which (Whole w) v ls rest (v_is, none) later = absurd (cc)
  block_read (t ∷ f) n which (Open draft) v ls rest makes later =
      let (block, read, left) = grows net valid draft v t f makes in
      let taken : step net doc edits (record { line = n; stage = Within text which draft }) t ≡ goes_on (next_line n) text which block =
      ap (went_on (next_line n) text which) read in
      ap (λ r. Ok More ∷ r) (ap (λ (s : Step). s.1 ∷ answers net doc edits s.0 (f ++ ls)) taken ∙ block_read f (next_line n) which block v ls rest left later)

-- a list of as many
same_more : {X Y : Type 0} (xs : List X) (ys : List Y) → length xs ≡ length ys → more xs ≡ more ys
same_more [] [] e = refl
same_more [] (y ∷ ys) e = absurd (omega arith)
same_more (x ∷ xs) [] e = absurd (omega arith)
same_more (x ∷ xs) (y ∷ ys) e = ap (λ r. Ok More ∷ r) (same_more xs ys (omega arith))

-- the item after these
pub at_place : {X : Type 0} (done : List X) (x : X) (rest : List X) (k : ℕ) → k ≡ length done → slice_get (done ++ x ∷ rest) k ≡ Some x
at_place done x rest k e = subst (λ (j : ℕ). slice_get (done ++ x ∷ rest) j ≡ Some x) (sym e) (go done)
  where
    go : (done : List _) → slice_get (done ++ x ∷ rest) (length done) ≡ Some x
    go [] = refl
    go (d ∷ done) = go done

-- a line of more words than one is no line of one word
several_words : (ws : List (List ℕ)) (text : List ℕ) → line_words (joined ws) ≡ ws → 1 < length ws → line_words text ≡ text ∷ [] → bytes_eq (joined ws) text ≡ false
several_words ws text words several one =
    false_from_ne_true _ (λ e.
    let same = (bytes_eq-Decides _ text).0 e in
    let size : length ws ≡ length (text ∷ []) = ap length (sym words ∙ ap line_words same ∙ one) in
    absurd (omega arith))

-- the verdict may stand in the text
abbrev pub Stands : Text → verdicts.Verdict → Type 0
Stands texts.Report v = Unit {0}
Stands texts.Repair v = IsYes v

-- then its block may
whole_stands : (w : verdicts.Verdict) → IsYes w → is_yes (Whole w) ≡ true
whole_stands (shows.Closed sides) h = refl
whole_stands (shows.Paths paths) h = refl
whole_stands (shows.Walk class path) h = absurd h
whole_stands (shows.Denied class) h = absurd h
whole_stands (shows.Cut links side) h = absurd h
whole_stands (shows.Refused packet link) h = absurd h

block_stands : (net : Network) (text : Text) (block : Block) (v : verdicts.Verdict) (front : List (List ℕ)) → Makes net block v front → Stands text v → may_stand text block ≡ true
block_stands net texts.Report block v front makes stands = refl
block_stands net texts.Repair (Whole w) v front makes stands = whole_stands w (subst IsYes makes.0 stands)
block_stands net texts.Repair (Open (drafts.Sides left sides)) v front makes stands = refl
block_stands net texts.Repair (Open (drafts.Paths left paths)) v front makes stands = refl
block_stands net texts.Repair (Open drafts.Walk) v front makes stands = absurd (subst IsYes makes.2 stands)
block_stands net texts.Repair (Open drafts.Denied) v front makes stands = absurd (subst IsYes makes.1 stands)
block_stands net texts.Repair (Open drafts.Cut) v front makes stands = absurd (subst IsYes makes.2 stands)
block_stands net texts.Repair (Open (drafts.Side links)) v front makes stands = absurd (subst IsYes makes.1 stands)
block_stands net texts.Repair (Open drafts.Refused) v front makes stands = absurd (subst IsYes makes.2 stands)

-- and no other block does
pub stands_from : (net : Network) (text : Text) (block : Block) (v : verdicts.Verdict) (front : List (List ℕ)) → Makes net block v front → may_stand text block ≡ true → Stands text v
stands_from net texts.Report block v front makes may = tt
stands_from net texts.Repair (Whole (shows.Closed sides)) v front makes may = subst IsYes (sym makes.0) tt
stands_from net texts.Repair (Whole (shows.Paths paths)) v front makes may = subst IsYes (sym makes.0) tt
stands_from net texts.Repair (Whole (shows.Walk class path)) v front makes may = absurd (false≢true may)
stands_from net texts.Repair (Whole (shows.Denied class)) v front makes may = absurd (false≢true may)
stands_from net texts.Repair (Whole (shows.Cut links side)) v front makes may = absurd (false≢true may)
stands_from net texts.Repair (Whole (shows.Refused packet link)) v front makes may = absurd (false≢true may)
stands_from net texts.Repair (Open (drafts.Sides left sides)) v front makes may = subst IsYes (sym makes.1) tt
stands_from net texts.Repair (Open (drafts.Paths left paths)) v front makes may = subst IsYes (sym makes.1) tt
stands_from net texts.Repair (Open drafts.Walk) v front makes may = absurd (false≢true may)
stands_from net texts.Repair (Open drafts.Denied) v front makes may = absurd (false≢true may)
stands_from net texts.Repair (Open drafts.Cut) v front makes may = absurd (false≢true may)
stands_from net texts.Repair (Open (drafts.Side links)) v front makes may = absurd (false≢true may)
stands_from net texts.Repair (Open drafts.Refused) v front makes may = absurd (false≢true may)

module _ (net : Network) (doc : Document) (edits : List Edit) (valid : IsValid net) (text : Text) where
  -- the first line of a block
  first_read : (n which : ℕ) (policy : Policy) (v : verdicts.Verdict) (begun_by : Begins net (asked_by policy.kind) v) →
      slice_get doc.policies which ≡ Some policy → which + 1 ≤ 4294967295 → length (witness_lines net v) ≤ 4294967295 → Stands text v →
      step net doc edits (record { line = n; stage = Between text which }) (first_text net (which + 1) policy v) ≡ goes_on (next_line n) text which begun_by.block
  first_read n which policy v begun_by place small few stands =
      let ws : List (List ℕ) = first_words net (which + 1) policy v in
      let words : line_words (joined ws) ≡ ws = words_read ws (omega arith) (are_first_words net (which + 1) policy v small few) in
      let heading : Heading = record { number = which + 1; asked = asked_by policy.kind; block = begun_by.block } in
      let read : heading_of (line_words (joined ws)) ≡ Some heading =
      ap heading_of words ∙ heading_read (which + 1) (length (witness_lines net v)) policy.kind (answer_word v) begun_by.block small few begun_by.read in
      let its : is_of doc.policies which heading ≡ true = ap (λ o. is_of_policy o which heading) place ∙ is_its_policy policy which begun_by.block in
      cond-false (bytes_eq (joined ws) (codes "end")) _ _ (several_words ws (codes "end") words (omega arith) refl) ∙
      cond-false (bytes_eq (joined ws) (codes "log")) _ _ (several_words ws (codes "log") words (omega arith) refl) ∙
      ap (begun doc (next_line n) text which) read ∙
      cond-true (is_of doc.policies which heading) _ _ its ∙
      cond-true (may_stand text begun_by.block) _ _ (block_stands net text begun_by.block v (witness_texts net v) begun_by.makes stands)

  -- the blocks from this place on, and the lines after them
  pub blocks_read : (after : List (List ℕ)) (tail : List (Result Got CertFault)) →
      ((m which : ℕ) → length doc.policies ≤ which → answers_at net doc edits m (Between text which) after ≡ tail) →
      (done rest : List Policy) (vs : List verdicts.Verdict) (which n : ℕ) →
      doc.policies ≡ done ++ rest → which ≡ length done → length doc.policies ≤ 4294967295 → AllZip (IsReadable net) rest vs → All (Stands text) vs →
      answers_at net doc edits n (Between text which) (lines (blocks_text (which + 1) net rest vs) ++ after) ≡ blocks_answers net which vs tail
  blocks_read after tail closes done [] [] which n all place few readable stand =
      closes n which (omega (arith, ap length all, length-append done []))
  blocks_read after tail closes done [] (v ∷ vs) which n all place few readable stand = absurd readable
  blocks_read after tail closes done (policy ∷ rest) [] which n all place few readable stand = absurd readable
  blocks_read after tail closes done (policy ∷ rest) (v ∷ vs) which n all place few readable stand =
      let first = readable.0 in
      let within : which + 1 ≤ 4294967295 = omega (arith, ap length all, length-append done (policy ∷ rest)) in
      let small = few_lines net v first.told in
      let begun_by = begins net policy.kind v first.kind first.told in
      let later_lines : List (List ℕ) = lines (blocks_text (which + 1 + 1) net rest vs) ++ after in
      let texts = blocks_first net valid (which + 1) policy rest v vs within small first.told after in
      let at : slice_get doc.policies which ≡ Some policy = ap (λ ps. slice_get ps which) all ∙ at_place done policy rest which place in
      let later : (m : ℕ) → answers_at net doc edits m (Between text (which + 1)) later_lines ≡ blocks_answers net (which + 1) vs tail =
      λ m. blocks_read after tail closes (done ++ policy ∷ []) rest vs (which + 1) m
      (all ∙ sym (append_assoc done (policy ∷ []) rest)) (omega (arith, length-append done (policy ∷ []))) few readable.1 (All-tail (Stands text) v vs stand) in
      ap (answers_at net doc edits n (Between text which)) texts ∙
      ap (λ (s : Step). s.1 ∷ answers net doc edits s.0 (witness_texts net v ++ later_lines))
      (first_read n which policy v begun_by at within small (All-head (Stands text) v vs stand)) ∙
      block_read net doc edits valid text (witness_texts net v) (next_line n) which begun_by.block v later_lines
      (blocks_answers net (which + 1) vs tail) begun_by.makes later ∙
      ap (λ r. r ++ (Ok (Verdict which v) ∷ blocks_answers net (which + 1) vs tail)) (same_more (witness_texts net v) (witness_lines net v) (sym (witness_size net v))) ∙
      sym (append_assoc (more (witness_lines net v)) (Ok (Verdict which v) ∷ []) (blocks_answers net (which + 1) vs tail))

-- the end closes a report
report_closes : (net : Network) (doc : Document) (edits : List Edit) (m which : ℕ) → length doc.policies ≤ which →
    answers_at net doc edits m (Between texts.Report which) (codes "end" ∷ []) ≡ Ok End ∷ []
report_closes net doc edits m which over =
    ap (λ (s : Step). s.1 ∷ []) (cond-false (nat_lt which (length doc.policies)) _ _ (le-ltb which (length doc.policies) over))

all_stand : (vs : List verdicts.Verdict) → All (Stands texts.Report) vs
all_stand [] = All-nil (Stands texts.Report)
all_stand (v ∷ vs) = All-cons (Stands texts.Report) v vs tt (all_stand vs)

-- the lines of a report are read again
pub reports_are_read_again : ReportsAreReadAgain
reports_are_read_again net doc edits vs valid few readable =
    let blocks : List ℕ = blocks_text 1 net doc.policies vs in
    let split : lines (report_text net doc vs) ≡ codes "arc-report 1" ∷ (lines blocks ++ codes "end" ∷ []) =
    ap lines (append_assoc (line (codes "arc-report") (codes "1" ∷ [])) blocks (line (codes "end") [])) ∙
    ap (λ ls. codes "arc-report 1" ∷ ls) (lines_append blocks (line (codes "end") []) (blocks_end 1 net doc.policies vs)) in
    ap (answers_at net doc edits 0 Head) split ∙
    ap (λ r. Ok (gots.Head Report) ∷ r)
    (blocks_read net doc edits valid texts.Report (codes "end" ∷ []) (Ok End ∷ []) (report_closes net doc edits) [] doc.policies vs 0 1 refl refl few readable (all_stand vs))
