-- Only the lines of a certificate are taken.
use Rattle.std.proofs.Common.{◌≡◌, ℕ, suc, ◌+◌, ◌≤◌, Bool, true, false, cond, List, [], ◌∷◌, ◌++◌, length, get_or, take, drop}
use Rattle.std.proofs.Common.{map, refl, ap, ap₂, sym, subst, ◌∙◌, arith, append_assoc, length-append, Option, Some, None, Result, Ok, Err, codes, decimal}
use Rattle.std.specs.Prelude.{bytes_eq, option_map}
use Rattle.std.proofs.NetLemmas.Options.{and_then_some}
use Rattle.std.proofs.lemmas.List.{length-take-le}
use Rattle.std.proofs.lemmas.List.Quantifiers.{position-Some}
use Rattle.std.proofs.Math.Seq.{split_at, drop-append_seam}
use Rattle.std.proofs.lemmas.Option.{same_Some, none-some}
use Rattle.std.proofs.lemmas.Slice.Eq.{bytes_eq-Decides}
use Rattle.arc_base.specs.TextLines.{lines}
use Rattle.arc_base.specs.Words.{words}
use Rattle.net_model.specs.declared.policies.Document.{Document}
use Rattle.net_model.specs.declared.rows.Network.{Network}
use Rattle.net_model.specs.Validity.{IsValid}
use Rattle.edit_list.specs.declared.claims.Claim.{Claim}
use Rattle.edit_list.specs.declared.claims.Claim.TheVariants as claims
use Rattle.edit_list.specs.declared.edit_kinds.Edit.{Edit}
use Rattle.edit_list.specs.Prices.{chosen_of}
use Rattle.proof_log.specs.declared.reading.LineKind.{LineKind}
use Rattle.proof_log.specs.Reading.{reading}
use Rattle.policy_report.specs.declared.answers.Answer.{Answer}
use Rattle.policy_report.specs.declared.answers.Answer.TheVariants.{Repaired, NoRepair, Budget}
use Rattle.policy_report.specs.declared.got.CertForm.{CertForm}
use Rattle.policy_report.specs.declared.got.Got.TheVariants.{Head}
use Rattle.policy_report.specs.declared.stages.Stage.TheVariants as stages
use Rattle.policy_report.specs.declared.stages.Text.TheVariants as texts
use Rattle.policy_report.specs.Certificates.{head_line, claim_line, shown_lines}
use Rattle.policy_report.specs.Edits.{edit_text, edit_words, edit_lines, edit_of, edit_from, HasAddresses}
use Rattle.policy_report.specs.Readings.{after_word, count_of, answer_of, answer_shown, line_words}
use Rattle.policy_report.specs.Reports.{blocks_text}
use Rattle.policy_report.specs.Rereading.{answers, IsWhole}
use Rattle.policy_report.specs.Recertifying.{Told, IsCertificateText, IsWholeRepair, OnlyCertificatesAreTaken}
use Rattle.policy_report.specs.Steps.{Standing, Step, next_line, answered, edited, is_edit, logged}
use Rattle.policy_report.proofs.CertificatesRead.{two_words, none_words, front_lines, edits_end, two_are_words, none_are_words}
use Rattle.policy_report.proofs.EditsFound.{has_text}
use Rattle.policy_report.proofs.EditWords.{are_edit_words}
use Rattle.policy_report.proofs.Ended.{lines_append}
use Rattle.policy_report.proofs.FirstLines.{choose, is_text}
use Rattle.policy_report.proofs.Parts.{count_told}
use Rattle.policy_report.proofs.ReportsRead.{answers_at}
use Rattle.policy_report.proofs.ReportsTaken.{IsTaken, if_taken, nothing_after, between_taken}
use Rattle.policy_report.proofs.Spaced.{joined, line_of_words, line_first}
use Rattle.policy_report.proofs.WordBytes.{word}

module _ (net : Network) (doc : Document) (edits : List Edit) where
  -- the lines of a log that are taken: they are read, and the end follows
  record IsLog (ls : List (List ℕ)) : Type 0 where
    pub log : List (List ℕ)
    pub told : List Told
    pub read : map reading log ≡ map Ok told
    pub are : ls ≡ log ++ codes "end" ∷ []

  log_line : (t : List ℕ) (ls : List (List ℕ)) (n : ℕ) → ((m : ℕ) → IsWhole (answers_at net doc edits m stages.Steps ls) → IsLog ls) →
      (r : Result Told LineKind) → reading t ≡ r → IsTaken net doc edits (logged n r) ls → IsLog (t ∷ ls)
  log_line t ls n later (Ok None) e taken =
      let rest = later n taken in
      record { log = t ∷ rest.log; told = None ∷ rest.told; read = ap₂ (λ r rs. r ∷ rs) e rest.read; are = ap (λ r. t ∷ r) rest.are }
  log_line t ls n later (Ok (Some s)) e taken =
      let rest = later n taken in
      record { log = t ∷ rest.log; told = Some s ∷ rest.told; read = ap₂ (λ r rs. r ∷ rs) e rest.read; are = ap (λ r. t ∷ r) rest.are }
  log_line t ls n later (Err kind) e bad = absurd bad

  log_taken : (ls : List (List ℕ)) (n : ℕ) → IsWhole (answers_at net doc edits n stages.Steps ls) → IsLog ls
  log_taken [] n whole = absurd whole
  log_taken (t ∷ ls) n whole =
      if_taken net doc edits (bytes_eq t (codes "end")) _ _ ls whole
      (λ is_end ended.
      let none = nothing_after net doc edits ls (next_line n) ended in
      record { log = []; told = []; read = refl; are = ap₂ (λ u us. u ∷ us) ((bytes_eq-Decides t (codes "end")).0 is_end) none })
      (λ no_end taken. log_line t ls (next_line n) (λ m. log_taken ls m) (reading t) refl taken)

  -- a place among the edits that are left
  record IsFound (rest : List Edit) (place : ℕ) (text : List ℕ) : Type 0 where
    pub front : List Edit
    pub edit : Edit
    pub later : List Edit
    pub split : rest ≡ front ++ edit ∷ later
    pub at : length front ≡ place
    pub told : text ≡ edit_text net edit

  find_in : (rest : List Edit) (place : ℕ) (text : List ℕ) → edit_of net rest text ≡ Some place → IsFound rest place text
  find_in [] place text found = absurd (none-some place found)
  find_in (e ∷ es) place text found =
      let rest : List Edit = e ∷ es in
      let (within, has, before) = position-Some (has_text net text) rest place e found in
      record {
        front = take place rest;
        edit = get_or rest place e;
        later = drop (suc place) rest;
        split = split_at rest place e within;
        at = length-take-le place rest (omega arith);
        told = sym ((bytes_eq-Decides (edit_text net (get_or rest place e)) text).0 has);
      }

  -- flags before which none of these edits is chosen
  abbrev after_falses : List Edit → List Bool → List Bool
  after_falses [] flags = flags
  after_falses (e ∷ front) flags = false ∷ after_falses front flags

  none_chosen : (front rest : List Edit) (flags : List Bool) → chosen_of (front ++ rest) (after_falses front flags) ≡ chosen_of rest flags
  none_chosen [] rest flags = refl
  none_chosen (e ∷ front) rest flags = none_chosen front rest flags

  nothing_chosen : (rest : List Edit) → chosen_of rest (after_falses rest []) ≡ []
  nothing_chosen [] = refl
  nothing_chosen (e ∷ rest) = nothing_chosen rest

  falses_length : (front : List Edit) (flags : List Bool) → length (after_falses front flags) ≡ length front + length flags
  falses_length [] flags = omega arith
  falses_length (e ∷ front) flags = omega (arith, falses_length front flags)

  -- lines of edits that are left, and those after them
  record AreEditLines (rest : List Edit) (ls : List (List ℕ)) : Type 0 where
    pub flags : List Bool
    pub size : length flags ≡ length rest
    pub after : List (List ℕ)
    pub are : ls ≡ lines (edit_lines net (chosen_of rest flags)) ++ after
    pub n : ℕ
    pub whole : IsWhole (answers_at net doc edits n (stages.Between texts.Repair 0) after)

  -- where an edit is found
  found_there : (next place : ℕ) (o : Option ℕ) → option_map (λ k. next + k) o ≡ Some place → (k : ℕ) × (o ≡ Some k) × (next + k ≡ place)
  found_there next place None e = absurd (none-some place e)
  found_there next place (Some k) e = (k, refl, same_Some _ place e)

  module _ (valid : IsValid net) (addresses : HasAddresses net) where
    edit_line_taken : (t : List ℕ) (ls : List (List ℕ)) (done rest : List Edit) (next n : ℕ) → edits ≡ done ++ rest → next ≡ length done →
        (later : (m : ℕ) (ahead left : List Edit) (at : ℕ) → edits ≡ ahead ++ left → at ≡ length ahead → IsWhole (answers_at net doc edits m (stages.Edits at) ls) → AreEditLines left ls) →
        (o : Option ℕ) → edit_from net edits next t ≡ o → IsTaken net doc edits (edited n o) ls → AreEditLines rest (t ∷ ls)
    edit_line_taken t ls done rest next n all at later None e bad = absurd bad
    edit_line_taken t ls done rest next n all at later (Some place) e taken =
        let (k, found, sum) = found_there next place (edit_of net (drop next edits) t) e in
        let left : drop next edits ≡ rest = ap₂ (λ (k : ℕ) (es : List Edit). drop k es) at all ∙ drop-append_seam done rest in
        let there = find_in rest k t (ap (λ es. edit_of net es t) (sym left) ∙ found) in
        let ahead : List Edit = done ++ (there.front ++ there.edit ∷ []) in
        let all_ahead : edits ≡ ahead ++ there.later =
        all ∙ ap (λ es. done ++ es) (there.split ∙ sym (append_assoc there.front (there.edit ∷ []) there.later)) ∙ sym (append_assoc done (there.front ++ there.edit ∷ []) there.later) in
        let place_ahead : place + 1 ≡ length ahead =
        omega (arith, sum, at, there.at, length-append done (there.front ++ there.edit ∷ []), length-append there.front (there.edit ∷ [])) in
        let others = later n ahead there.later (place + 1) all_ahead place_ahead taken in
        let flags : List Bool = after_falses there.front (true ∷ others.flags) in
        let chosen : chosen_of rest flags ≡ there.edit ∷ chosen_of there.later others.flags =
        ap (λ es. chosen_of es flags) there.split ∙ none_chosen there.front (there.edit ∷ there.later) (true ∷ others.flags) in
        let rest_lines : List ℕ = edit_lines net (chosen_of there.later others.flags) in
        let split : lines (edit_lines net (chosen_of rest flags)) ≡ edit_text net there.edit ∷ lines rest_lines =
        ap (λ es. lines (edit_lines net es)) chosen ∙ line_first (codes "edit") (edit_words net there.edit) rest_lines (are_edit_words net valid addresses there.edit) in
        record {
          flags = flags;
          size = omega (arith, falses_length there.front (true ∷ others.flags), others.size, ap length there.split, length-append there.front (there.edit ∷ there.later));
          after = others.after;
          are = ap₂ (λ u us. u ∷ us) there.told others.are ∙ ap (λ ls. ls ++ others.after) (sym split);
          n = others.n;
          whole = others.whole;
        }

    edits_taken : (ls : List (List ℕ)) (done rest : List Edit) (next n : ℕ) → edits ≡ done ++ rest → next ≡ length done →
        IsWhole (answers_at net doc edits n (stages.Edits next) ls) → AreEditLines rest ls
    edits_taken [] done rest next n all at whole = absurd whole
    edits_taken (t ∷ ls) done rest next n all at whole =
        if_taken net doc edits (is_edit (words t)) _ _ ls whole
        (λ is_one taken.
        edit_line_taken t ls done rest next (next_line n) all at (λ m ahead left place all_ahead place_ahead. edits_taken ls ahead left place m all_ahead place_ahead)
        (edit_from net edits next t) refl taken)
        (λ is_none taken.
        record {
          flags = after_falses rest [];
          size = falses_length rest [] ∙ omega arith;
          after = t ∷ ls;
          are = ap (λ es. lines (edit_lines net es) ++ t ∷ ls) (sym (nothing_chosen rest));
          n = n;
          whole = taken;
        })

-- an answer is written so
abbrev IsAnswer : List (List ℕ) → Answer → Type 0
IsAnswer ws (Repaired price bound) = (ws ≡ two_words (codes "repaired") price bound) × (price ≤ 4294967295) × (bound ≤ 4294967295)
IsAnswer ws (NoRepair bound) = (ws ≡ none_words bound) × (bound ≤ 4294967295)
IsAnswer ws Budget = Unit {0}

shown_told : (ws : List (List ℕ)) (answer : Answer) → answer_shown ws ≡ Some answer → IsAnswer (codes "answer" ∷ ws) answer
shown_told [] answer e = absurd (none-some answer e)
shown_told (a ∷ []) answer e = absurd (none-some answer e)
shown_told (a ∷ b ∷ c ∷ d ∷ ws) answer e = absurd (none-some answer e)
shown_told (a ∷ b ∷ []) answer e =
    and_then_some _ (count_of b) answer e λ bound bound_is e₁.
    choose _ _ _ answer e₁
    (λ test same.
    let (second, low) = count_told b bound bound_is in
    subst (IsAnswer (codes "answer" ∷ a ∷ b ∷ [])) (same_Some (NoRepair bound) answer same)
    (ap₂ (λ u v. codes "answer" ∷ u ∷ v ∷ []) (is_text a (codes "none") test) second, low))
    (λ none. absurd (none-some answer none))
shown_told (a ∷ b ∷ c ∷ []) answer e =
    and_then_some _ (count_of b) answer e λ number number_is e₁.
    and_then_some _ (count_of c) answer e₁ λ bound bound_is e₂.
    choose _ _ _ answer e₂
    (λ test same.
    let (second, small) = count_told b number number_is in
    let (third, low) = count_told c bound bound_is in
    subst (IsAnswer (codes "answer" ∷ a ∷ b ∷ c ∷ [])) (same_Some (Repaired number bound) answer same)
    (ap₂ (λ u v. codes "answer" ∷ u ∷ v) (is_text a (codes "repaired") test) (ap₂ (λ v w. v ∷ w ∷ []) second third), small, low))
    λ e₃.
    choose _ _ _ answer e₃ (λ test same. subst (IsAnswer (codes "answer" ∷ a ∷ b ∷ c ∷ [])) (same_Some Budget answer same) tt) λ none. absurd (none-some answer none)

answer_told : (ws : List (List ℕ)) (answer : Answer) → answer_of ws ≡ Some answer → IsAnswer ws answer
answer_told [] answer e = absurd (none-some answer e)
answer_told (w ∷ ws) answer e =
    and_then_some _ (after_word (codes "answer") (w ∷ ws)) answer e λ rest rest_is e₁.
    choose _ _ _ rest rest_is
    (λ test same.
    let told = shown_told rest answer e₁ in
    subst (λ (l : List (List ℕ)). IsAnswer l answer) (ap₂ (λ u us. u ∷ us) (sym (is_text w (codes "answer") test)) (sym (same_Some ws rest same))) told)
    (λ none. absurd (none-some rest none))

module _ (net : Network) (doc : Document) (edits : List Edit) (valid : IsValid net) (addresses : HasAddresses net) (few : length doc.policies ≤ 4294967295) where
  abbrev IsOfSome : List (List ℕ) → Type 0
  IsOfSome ls = (claim : Claim) × (told : List Told) × IsCertificateText net doc edits claim told ls

  repaired_taken : (t : List ℕ) (ls : List (List ℕ)) (price bound : ℕ) → IsAnswer (line_words t) (Repaired price bound) → IsWhole (answers_at net doc edits 2 (stages.Edits 0) ls) →
      IsOfSome (codes "arc-repair 1" ∷ t ∷ ls)
  repaired_taken t ls price bound is whole =
      let shown = edits_taken net doc edits valid addresses ls [] edits 0 2 refl refl whole in
      let blocks = between_taken net doc edits texts.Repair valid few (length shown.after) shown.after (omega arith) [] doc.policies shown.n 0 refl refl shown.whole in
      let (log, m, log_is, log_whole) = blocks.closes in
      let taken = log_taken net doc edits log m log_whole in
      let claim : Claim = claims.Repaired price bound shown.flags blocks.verdicts in
      let edits_text : List ℕ = edit_lines net (chosen_of edits shown.flags) in
      let blocks_lines : List ℕ = blocks_text 1 net doc.policies blocks.verdicts in
      let log_lines : List (List ℕ) = codes "log" ∷ (taken.log ++ codes "end" ∷ []) in
      let front : lines (head_line ++ claim_line claim ++ shown_lines net doc edits claim) ≡
      codes "arc-repair 1" ∷ joined (two_words (codes "repaired") price bound) ∷ (lines edits_text ++ lines blocks_lines) =
      front_lines claim (codes "answer") (codes "repaired" ∷ decimal price ∷ decimal bound ∷ []) (edits_text ++ blocks_lines) refl
      (two_are_words (codes "repaired") price bound (word _ refl, tt) is.1 is.2) ∙
      ap (λ l. codes "arc-repair 1" ∷ joined (two_words (codes "repaired") price bound) ∷ l) (lines_append edits_text blocks_lines (edits_end net (chosen_of edits shown.flags))) in
      let after_is : shown.after ≡ lines blocks_lines ++ log_lines = blocks.are ∙ ap (λ l. lines blocks_lines ++ l) (log_is ∙ ap (λ l. codes "log" ∷ l) taken.are) in
      let rest_is : ls ≡ (lines edits_text ++ lines blocks_lines) ++ log_lines =
      shown.are ∙ ap (λ l. lines edits_text ++ l) after_is ∙ sym (append_assoc (lines edits_text) (lines blocks_lines) log_lines) in (
        claim,
        taken.told,
        record {
          is_told = (is.1, is.2, shown.size, blocks.readable, blocks.stand);
          log = taken.log;
          read = taken.read;
          are = ap₂ (λ u us. codes "arc-repair 1" ∷ u ∷ us) (line_of_words t (two_words (codes "repaired") price bound) is.0) rest_is ∙ ap (λ l. l ++ log_lines) (sym front);
        },
      )

  none_taken : (t : List ℕ) (ls : List (List ℕ)) (bound : ℕ) → IsAnswer (line_words t) (NoRepair bound) → IsWhole (answers_at net doc edits 2 stages.Log ls) →
      IsOfSome (codes "arc-repair 1" ∷ t ∷ ls)
  none_taken t [] bound is whole = absurd whole
  none_taken t (u ∷ ls) bound is whole =
      if_taken net doc edits (bytes_eq u (codes "log")) _ _ ls whole
      (λ is_log taken_it.
      let taken = log_taken net doc edits ls 3 taken_it in
      let claim : Claim = claims.NoRepair bound in
      let log_lines : List (List ℕ) = codes "log" ∷ (taken.log ++ codes "end" ∷ []) in
      let front : lines (head_line ++ claim_line claim ++ []) ≡ codes "arc-repair 1" ∷ joined (none_words bound) ∷ [] =
      front_lines claim (codes "answer") (codes "none" ∷ decimal bound ∷ []) [] refl (none_are_words bound is.1) in (
        claim,
        taken.told,
        record {
          is_told = is.1;
          log = taken.log;
          read = taken.read;
          are = ap₂ (λ v us. codes "arc-repair 1" ∷ v ∷ us) (line_of_words t (none_words bound) is.0)
              (ap₂ (λ v us. v ∷ us) (is_text u (codes "log") is_log) taken.are) ∙ ap (λ l. l ++ log_lines) (sym front);
        },
      ))
      (λ other bad. absurd bad)

  answer_taken : (t : List ℕ) (ls : List (List ℕ)) (o : Option Answer) → answer_of (line_words t) ≡ o → IsTaken net doc edits (answered 2 o) ls → IsOfSome (codes "arc-repair 1" ∷ t ∷ ls)
  answer_taken t ls None e bad = absurd bad
  answer_taken t ls (Some (Repaired price bound)) e taken = repaired_taken t ls price bound (answer_told (line_words t) (Repaired price bound) e) taken
  answer_taken t ls (Some (NoRepair bound)) e taken = none_taken t ls bound (answer_told (line_words t) (NoRepair bound) e) taken
  answer_taken t ls (Some Budget) e bad = absurd bad

  after_head : (ls : List (List ℕ)) → IsWhole (answers_at net doc edits 1 stages.Answer ls) → IsOfSome (codes "arc-repair 1" ∷ ls)
  after_head [] whole = absurd whole
  after_head (t ∷ ls) whole = answer_taken t ls (answer_of (line_words t)) refl whole

-- the head of a repair
repair_head : (net : Network) (doc : Document) (edits : List Edit) {P : Type 0} (is_report is_repair : Bool) (t u : Step) (form : CertForm) (after : Standing) (ls : List (List ℕ)) →
    let taken : Step = cond is_report (after, Ok (Head form)) (cond is_repair t u) in
    IsWholeRepair (taken.1 ∷ answers net doc edits taken.0 ls) →
    (is_repair ≡ true → IsWholeRepair (t.1 ∷ answers net doc edits t.0 ls) → P) → (IsWholeRepair (u.1 ∷ answers net doc edits u.0 ls) → P) → P
repair_head net doc edits true is_repair t u form after ls whole two three = absurd whole
repair_head net doc edits false true t u form after ls whole two three = two refl whole
repair_head net doc edits false false t u form after ls whole two three = three whole

-- only the lines of a certificate are taken
pub only_certificates_are_taken : OnlyCertificatesAreTaken
only_certificates_are_taken net doc edits [] valid addresses few whole = absurd whole
only_certificates_are_taken net doc edits (t ∷ ls) valid addresses few whole =
    repair_head net doc edits (bytes_eq t (codes "arc-report 1")) (bytes_eq t (codes "arc-repair 1")) _ _ _ _ ls whole
    (λ is_head taken.
    let Of : List ℕ → Type 0 = λ u. IsOfSome net doc edits valid addresses few (u ∷ ls) in
    subst Of (sym (is_text t (codes "arc-repair 1") is_head)) (after_head net doc edits valid addresses few ls taken))
    (λ bad. absurd bad)
