-- The block that an answer begins, and the lines of its witness make the verdict.
use Rattle.std.proofs.Common.{◌≡◌, ℕ, ◌==◌, List, [], ◌∷◌, length, map, refl, sym, subst, arith, All, Some}
use Rattle.std.proofs.lemmas.Bool.{cond-true, cond-false, ne_eqb, eq-eqb}
use Rattle.std.proofs.lemmas.List.{length-map}
use Rattle.net_model.specs.declared.policies.PolicyKind.{PolicyKind}
use Rattle.net_model.specs.declared.policies.PolicyKind.TheVariants as kinds
use Rattle.net_model.specs.declared.rows.Network.{Network}
use Rattle.net_model.specs.declared.verdicts.ClassSide.{ClassSide}
use Rattle.net_model.specs.declared.verdicts.LinkPath.{LinkPath}
use Rattle.net_model.specs.declared.verdicts.Verdict.{Verdict}
use Rattle.net_model.specs.declared.verdicts.Verdict.TheVariants.{Closed, Paths, Walk, Denied, Cut, Refused}
use Rattle.policy_report.specs.declared.drafts.Asked.{Asked}
use Rattle.policy_report.specs.declared.drafts.Block.{Block}
use Rattle.policy_report.specs.declared.drafts.Block.TheVariants.{Open, Whole}
use Rattle.policy_report.specs.declared.drafts.Draft.{Draft}
use Rattle.policy_report.specs.declared.drafts.Draft.TheVariants as drafts
use Rattle.policy_report.specs.Readings.{asked_by, block_of}
use Rattle.policy_report.specs.Reports.{answer_word, witness_lines, closed_line, path_line}
use Rattle.policy_report.specs.Rereading.{MayHaveVerdict, CanBeWritten, AreLinks}
use Rattle.policy_report.proofs.Blocks.{Makes, MakeAll, counted}
use Rattle.policy_report.proofs.LineWords.{closed_text, path_text, witness_texts, IsSide}

-- the answer begins a block that the lines of the witness make the verdict
pub record Begins (net : Network) (asked : Asked) (v : Verdict) : Type 0 where
  pub block : Block
  pub read : block_of asked (answer_word v) (length (witness_lines net v)) ≡ Some block
  pub makes : Makes net block v (witness_texts net v)

-- items that are counted
items_make : (net : Network) {X : Type 0} (verdict_of : List X → Verdict) (draft_of : ℕ → List X → Draft) (text : X → List ℕ) (P : X → Type 0) →
    ((count : ℕ) (v : Verdict) (front : List (List ℕ)) → MakeAll verdict_of text P count [] v front → Makes net (Open (draft_of count [])) v front) →
    (xs : List X) (count : ℕ) → count ≡ length xs → All P xs → Makes net (counted verdict_of draft_of count) (verdict_of xs) (map text xs)
items_make net verdict_of draft_of text P makes [] count size fit =
    let none : Whole (verdict_of []) ≡ counted verdict_of draft_of count = sym (cond-true (count == 0) _ _ (eq-eqb count 0 size)) in
    subst (λ b. Makes net b (verdict_of []) []) none (refl, refl)
items_make net verdict_of draft_of text P makes (x ∷ xs) count size fit =
    let some : Open (draft_of count []) ≡ counted verdict_of draft_of count = sym (cond-false (count == 0) _ _ (ne_eqb count 0 (λ e. omega arith))) in
    let whole : MakeAll verdict_of text P count [] (verdict_of (x ∷ xs)) (map text (x ∷ xs)) =
    (x ∷ xs, refl, record { more = x ∷ xs; whole = refl; size = omega arith; told = refl; fit = fit }) in
    subst (λ b. Makes net b (verdict_of (x ∷ xs)) (map text (x ∷ xs))) some (makes count (verdict_of (x ∷ xs)) (map text (x ∷ xs)) whole)

module _ (net : Network) where
  sides_make : (sides : List ClassSide) → All (λ s. IsSide net s.side) sides →
      Makes net (counted Closed drafts.Sides (length (map (closed_line net) sides))) (Closed sides) (map (closed_text net) sides)
  sides_make sides fit = items_make net Closed drafts.Sides (closed_text net) (λ s. IsSide net s.side) (λ count v front h. h) sides _ (length-map sides (closed_line net)) fit

  paths_make : (paths : List LinkPath) → All (λ p. AreLinks net p.links) paths →
      Makes net (counted Paths drafts.Paths (length (map path_line paths))) (Paths paths) (map path_text paths)
  paths_make paths fit = items_make net Paths drafts.Paths path_text (λ p. AreLinks net p.links) (λ count v front h. h) paths _ (length-map paths path_line) fit

  pub begins : (kind : PolicyKind) (v : Verdict) → MayHaveVerdict kind v → CanBeWritten net v → Begins net (asked_by kind) v
  begins kinds.Blocked (Closed sides) is told = record { block = counted Closed drafts.Sides (length (map (closed_line net) sides)); read = refl; makes = sides_make sides told.0 }
  begins kinds.Blocked (Walk class path) is told = record { block = Open drafts.Walk; read = refl; makes = (class, path, refl, refl, told) }
  begins kinds.Blocked (Paths paths) is told = absurd is
  begins kinds.Blocked (Denied class) is told = absurd is
  begins kinds.Blocked (Cut links side) is told = absurd is
  begins kinds.Blocked (Refused packet link) is told = absurd is
  begins kinds.Through (Closed sides) is told = record { block = counted Closed drafts.Sides (length (map (closed_line net) sides)); read = refl; makes = sides_make sides told.0 }
  begins kinds.Through (Walk class path) is told = record { block = Open drafts.Walk; read = refl; makes = (class, path, refl, refl, told) }
  begins kinds.Through (Paths paths) is told = absurd is
  begins kinds.Through (Denied class) is told = absurd is
  begins kinds.Through (Cut links side) is told = absurd is
  begins kinds.Through (Refused packet link) is told = absurd is
  begins (kinds.Reach k) (Closed sides) is told = absurd is
  begins (kinds.Reach k) (Walk class path) is told = absurd is
  begins (kinds.Reach k) (Paths paths) is told = record { block = counted Paths drafts.Paths (length (map path_line paths)); read = refl; makes = paths_make paths told.0 }
  begins (kinds.Reach k) (Denied class) is told = record { block = Open drafts.Denied; read = refl; makes = (class, refl, refl) }
  begins (kinds.Reach k) (Cut links side) is told = record { block = Open drafts.Cut; read = refl; makes = (links, side, refl, refl, told.0, told.1) }
  begins (kinds.Reach k) (Refused packet link) is told = record { block = Open drafts.Refused; read = refl; makes = (packet, link, refl, refl, told) }
