-- The block that was begun with an answer, and the lines that made a verdict of it, are those of the verdict.
use Rattle.std.proofs.Common.{◌≡◌, ℕ, ◌≤◌, ◌==◌, if◌then◌else◌, List, [], length, map, ⊎_elim, ap, sym, subst, ◌∙◌, arith, All, Some, None, codes}
use Rattle.std.proofs.lemmas.Bool.{cond-true, cond-false, ne_eqb, eq-eqb, cases_eq, eqb-true}
use Rattle.std.proofs.lemmas.Option.{none-some, same_Some}
use Rattle.std.proofs.lemmas.List.{length-map}
use Rattle.std.proofs.lemmas.List.Elements.{All-nil}
use Rattle.std.proofs.NetLemmas.Options.{cond_some}
use Rattle.net_model.specs.declared.policies.Class.{Class}
use Rattle.net_model.specs.declared.policies.PolicyKind.{PolicyKind}
use Rattle.net_model.specs.declared.policies.PolicyKind.TheVariants as kinds
use Rattle.net_model.specs.declared.rows.Network.{Network}
use Rattle.net_model.specs.declared.verdicts.ClassSide.{ClassSide}
use Rattle.net_model.specs.declared.verdicts.LinkPath.{LinkPath}
use Rattle.net_model.specs.declared.verdicts.Verdict.{Verdict}
use Rattle.net_model.specs.declared.verdicts.Verdict.TheVariants.{Closed, Paths, Walk, Denied, Cut, Refused}
use Rattle.policy_report.specs.declared.drafts.Block.{Block}
use Rattle.policy_report.specs.declared.drafts.Block.TheVariants.{Open, Whole}
use Rattle.policy_report.specs.declared.drafts.Draft.{Draft}
use Rattle.policy_report.specs.declared.drafts.Draft.TheVariants as drafts
use Rattle.policy_report.specs.declared.drafts.Asked.TheVariants as asks
use Rattle.policy_report.specs.Readings.{asked_by, block_of}
use Rattle.policy_report.specs.Reports.{answer_word, witness_lines, closed_line, path_line}
use Rattle.policy_report.specs.Rereading.{MayHaveVerdict, CanBeWritten, AreLinks}
use Rattle.policy_report.proofs.Blocks.{Makes, MakeAll, counted}
use Rattle.policy_report.proofs.FirstLines.{choose, answered}
use Rattle.policy_report.proofs.LineWords.{closed_text, path_text, witness_texts, IsSide}

-- the verdict has this answer with so many lines, and these are they
pub record IsBlock (net : Network) (kind : PolicyKind) (answer : List ℕ) (count : ℕ) (v : Verdict) (front : List (List ℕ)) : Type 0 where
  pub is_answer : MayHaveVerdict kind v
  pub is_told : CanBeWritten net v
  pub answer_is : answer ≡ answer_word v
  pub count_is : count ≡ length (witness_lines net v)
  pub front_is : front ≡ witness_texts net v

module _ (net : Network) (answer : List ℕ) (count : ℕ) (block : Block) (v : Verdict) (front : List (List ℕ)) (few : count ≤ 4294967295) (makes : Makes net block v front) where
  -- these are the lines of the verdict, where the policy is of the kind
  abbrev IsTheBlock : PolicyKind → Verdict → Type 0
  IsTheBlock kind w = IsBlock net kind answer count w front

  is_block : (kind : PolicyKind) (w : Verdict) → v ≡ w → IsTheBlock kind w → IsTheBlock kind v
  is_block kind w same h = subst (IsTheBlock kind) (sym same) h

  makes_of : (c : Block) → c ≡ block → Makes net c v front
  makes_of c same = subst (λ b. Makes net b v front) (sym same) makes

  -- items that are counted
  items_told : (kind : PolicyKind) {X : Type 0} (verdict_of : List X → Verdict) (draft_of : ℕ → List X → Draft) (text : X → List ℕ) (P : X → Type 0) →
      (Makes net (Open (draft_of count [])) v front → MakeAll verdict_of text P count [] v front) →
      ((xs : List X) → All P xs → length xs ≡ count → front ≡ map text xs → IsTheBlock kind (verdict_of xs)) →
      counted verdict_of draft_of count ≡ block → IsTheBlock kind v
  items_told kind verdict_of draft_of text P make has begun =
      ⊎_elim
      (λ none.
      let (v_is, front_is) = makes_of (Whole (verdict_of [])) (sym (cond-true (count == 0) _ _ (eq-eqb count 0 none)) ∙ begun) in
      is_block kind (verdict_of []) v_is (has [] (All-nil P) (sym none) front_is))
      (λ some.
      let (all, v_is, items) = make (makes_of (Open (draft_of count [])) (sym (cond-false (count == 0) _ _ (ne_eqb count 0 some)) ∙ begun)) in
      let size = items.size in
      is_block kind (verdict_of items.more) (v_is ∙ ap verdict_of items.whole) (has items.more items.fit (omega arith) items.told))
      (cases_eq count 0)

  sides_told : (kind : PolicyKind) → ((sides : List ClassSide) → MayHaveVerdict kind (Closed sides)) → answer ≡ codes "yes" → counted Closed drafts.Sides count ≡ block →
      IsTheBlock kind v
  sides_told kind is_yes says_yes begun =
      items_told kind Closed drafts.Sides (closed_text net) (λ s. IsSide net s.side) (λ h. h)
      (λ sides fit size told.
      record {
        is_answer = is_yes sides;
        is_told = (fit, omega arith);
        answer_is = says_yes;
        count_is = omega (arith, length-map sides (closed_line net));
        front_is = told;
      })
      begun

  paths_told : (kind : PolicyKind) → ((paths : List LinkPath) → MayHaveVerdict kind (Paths paths)) → answer ≡ codes "yes" → counted Paths drafts.Paths count ≡ block →
      IsTheBlock kind v
  paths_told kind is_yes says_yes begun =
      items_told kind Paths drafts.Paths path_text (λ p. AreLinks net p.links) (λ h. h)
      (λ paths fit size told.
      record {
        is_answer = is_yes paths;
        is_told = (fit, omega arith);
        answer_is = says_yes;
        count_is = omega (arith, length-map paths path_line);
        front_is = told;
      })
      begun

  walk_told : (kind : PolicyKind) → ((class : Class) (path : LinkPath) → MayHaveVerdict kind (Walk class path)) → answer ≡ codes "no" →
      (if count == 1 then Some (Open drafts.Walk) else None) ≡ Some block → IsTheBlock kind v
  walk_told kind is_no says_no begun =
      let (one, same) = cond_some (count == 1) (Open drafts.Walk) block begun in
      let (class, path, v_is, front_is, fits) = makes_of (Open drafts.Walk) same in
      is_block kind (Walk class path) v_is (record { is_answer = is_no class path; is_told = fits; answer_is = says_no; count_is = eqb-true count 1 one; front_is = front_is })

  denied_told : (k : ℕ) → answer ≡ codes "no" → count ≡ 1 → Open drafts.Denied ≡ block → IsTheBlock (kinds.Reach k) v
  denied_told k says_no one begun =
      let (class, v_is, front_is) = makes_of (Open drafts.Denied) begun in
      is_block (kinds.Reach k) (Denied class) v_is (record { is_answer = tt; is_told = tt; answer_is = says_no; count_is = one; front_is = front_is })

  cut_told : (k : ℕ) → answer ≡ codes "no" → count ≡ 2 → Open drafts.Cut ≡ block → IsTheBlock (kinds.Reach k) v
  cut_told k says_no two begun =
      let (links, side, v_is, front_is, fits, size) = makes_of (Open drafts.Cut) begun in
      is_block (kinds.Reach k) (Cut links side) v_is (record { is_answer = tt; is_told = (fits, size); answer_is = says_no; count_is = two; front_is = front_is })

  refused_told : (k : ℕ) → answer ≡ codes "refused" → count ≡ 1 → Open drafts.Refused ≡ block → IsTheBlock (kinds.Reach k) v
  refused_told k says_refused one begun =
      let (packet, link, v_is, front_is, fits) = makes_of (Open drafts.Refused) begun in
      is_block (kinds.Reach k) (Refused packet link) v_is (record { is_answer = tt; is_told = fits; answer_is = says_refused; count_is = one; front_is = front_is })

  -- the block that was begun so, and the lines that made the verdict, are the verdict's
  pub block_told : (kind : PolicyKind) → block_of (asked_by kind) answer count ≡ Some block → IsTheBlock kind v
  block_told kinds.Blocked begun =
      ⊎_elim (λ said. sides_told kinds.Blocked (λ sides. tt) said.0 said.1)
      (λ rest. ⊎_elim (λ said. walk_told kinds.Blocked (λ class path. tt) said.0 said.1) (λ said. absurd (none-some block said.1)) rest)
      (answered asks.Blocked answer count block begun)
  block_told kinds.Through begun =
      ⊎_elim (λ said. sides_told kinds.Through (λ sides. tt) said.0 said.1)
      (λ rest. ⊎_elim (λ said. walk_told kinds.Through (λ class path. tt) said.0 said.1) (λ said. absurd (none-some block said.1)) rest)
      (answered asks.Through answer count block begun)
  block_told (kinds.Reach k) begun =
      ⊎_elim (λ said. paths_told (kinds.Reach k) (λ paths. tt) said.0 said.1)
      (λ rest.
      ⊎_elim
      (λ said.
      choose (count == 1) (Some (Open drafts.Denied)) _ block said.1 (λ one same. denied_told k said.0 (eqb-true count 1 one) (same_Some _ block same)) λ later.
      let (two, same) = cond_some (count == 2) (Open drafts.Cut) block later in
      cut_told k said.0 (eqb-true count 2 two) same)
      (λ said.
      let (one, same) = cond_some (count == 1) (Open drafts.Refused) block said.1 in
      refused_told k said.0 (eqb-true count 1 one) same)
      rest)
      (answered asks.Reach answer count block begun)
