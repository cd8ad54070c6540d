-- A line that is read is a line of the lines that make the verdict.
use Rattle.std.proofs.Common.{◌≡◌, ℕ, ◌-◌, nat_le, List, [], ◌∷◌, ◌++◌, ⊎_elim, ap₂, sym, subst, ◌∙◌, le-leb, Some}
use Rattle.std.proofs.lemmas.Bool.{cond-true, cond-false, cases_lt, lt-leb}
use Rattle.std.proofs.lemmas.Option.{same_Some}
use Rattle.net_model.specs.declared.rows.Network.{Network}
use Rattle.net_model.specs.declared.verdicts.Verdict.{Verdict}
use Rattle.net_model.specs.declared.verdicts.Verdict.TheVariants as verdicts
use Rattle.policy_report.specs.declared.drafts.Block.{Block}
use Rattle.policy_report.specs.declared.drafts.Block.TheVariants.{Open}
use Rattle.policy_report.specs.declared.drafts.Draft.{Draft}
use Rattle.policy_report.specs.declared.drafts.Draft.TheVariants as drafts
use Rattle.policy_report.specs.Readings.{line_words, closed_of, path_of, walk_of, denied_of, cut_of, side_line_of, refused_of}
use Rattle.policy_report.specs.Rereading.{AreLinks}
use Rattle.policy_report.specs.Steps.{grown}
use Rattle.policy_report.proofs.Blocks.{Makes, MakeAll, with_item, added_some}
use Rattle.policy_report.proofs.Counted.{Items, last_item, next_item}
use Rattle.policy_report.proofs.LineWords.{closed_text, path_text, closed_words, path_words, walk_words, denied_words, cut_words, side_line_words, refused_words, IsSide}
use Rattle.policy_report.proofs.Spaced.{line_of_words}
use Rattle.policy_report.proofs.Spelled.{closed_told, path_told, walk_told, denied_told, cut_told, side_line_told, refused_told}

-- an item that is read stands before those that are left
item_told : (net : Network) (v : Verdict) {X : Type 0} (verdict_of : List X → Verdict) (draft_of : ℕ → List X → Draft) (text : X → List ℕ) (P : X → Type 0) →
    ((left : ℕ) (done : List X) (f : List (List ℕ)) → Makes net (Open (draft_of left done)) v f → MakeAll verdict_of text P left done v f) →
    (left : ℕ) (done : List X) (x : X) (t : List ℕ) (block : Block) (f : List (List ℕ)) →
    t ≡ text x → P x → block ≡ with_item verdict_of draft_of left done x → Makes net block v f →
    MakeAll verdict_of text P left done v (t ∷ f)
item_told net v verdict_of draft_of text P make left done x t block f told fits block_is makes =
    ⊎_elim
    (λ several.
    let rest = subst (λ b. Makes net b v f) (block_is ∙ cond-false (nat_le left 1) _ _ (lt-leb left 1 several)) makes in
    let (all, v_is, items) = make (left - 1) (done ++ x ∷ []) f rest in
    (all, v_is, next_item text P left done all x t f several told fits items))
    (λ one.
    let (v_is, none) = subst (λ b. Makes net b v f) (block_is ∙ cond-true (nat_le left 1) _ _ (le-leb left 1 one)) makes in
    let Last : List (List ℕ) → Type 0 = λ rest. Items text P left done (done ++ x ∷ []) (t ∷ rest) in
    (done ++ x ∷ [], v_is, subst Last (sym none) (last_item text P left done x t one told fits)))
    (cases_lt 1 left)

module _ (net : Network) where
  pub grown_told : (draft : Draft) (t : List ℕ) (block : Block) (v : Verdict) (f : List (List ℕ)) →
      grown net draft (line_words t) ≡ Some block → Makes net block v f → Makes net (Open draft) v (t ∷ f)
  grown_told (drafts.Sides left sides) t block v f e makes =
      added_some _ (closed_of net (line_words t)) block e λ shown shown_is block_is.
      let (told, size) = closed_told net (line_words t) shown shown_is in
      item_told net v verdicts.Closed drafts.Sides (closed_text net) (λ s. IsSide net s.side) (λ left sides f h. h) left sides shown t block f
      (line_of_words t (closed_words net shown) told) size (sym (same_Some _ block block_is)) makes
  grown_told (drafts.Paths left paths) t block v f e makes =
      added_some _ (path_of net (line_words t)) block e λ path path_is block_is.
      let (told, fits) = path_told net (line_words t) path path_is in
      item_told net v verdicts.Paths drafts.Paths path_text (λ p. AreLinks net p.links) (λ left paths f h. h) left paths path t block f
      (line_of_words t (path_words path) told) fits (sym (same_Some _ block block_is)) makes
  grown_told drafts.Walk t block v f e makes =
      added_some _ (walk_of net (line_words t)) block e λ walk walk_is block_is.
      let (told, fits) = walk_told net (line_words t) walk walk_is in
      let (v_is, none) = subst (λ b. Makes net b v f) (sym (same_Some _ block block_is)) makes in
      (walk.0, walk.1, v_is, ap₂ (λ u us. u ∷ us) (line_of_words t (walk_words walk.0 walk.1) told) none, fits)
  grown_told drafts.Denied t block v f e makes =
      added_some _ (denied_of (line_words t)) block e λ class class_is block_is.
      let (v_is, none) = subst (λ b. Makes net b v f) (sym (same_Some _ block block_is)) makes in
      (class, v_is, ap₂ (λ u us. u ∷ us) (line_of_words t (denied_words class) (denied_told (line_words t) class class_is)) none)
  grown_told drafts.Cut t block v f e makes =
      added_some _ (cut_of net (line_words t)) block e λ links links_is block_is.
      let (told, fits) = cut_told net (line_words t) links links_is in
      let (side, v_is, rest, size) = subst (λ b. Makes net b v f) (sym (same_Some _ block block_is)) makes in
      (links, side, v_is, ap₂ (λ u us. u ∷ us) (line_of_words t (cut_words links) told) rest, fits, size)
  grown_told (drafts.Side links) t block v f e makes =
      added_some _ (side_line_of net (line_words t)) block e λ side side_is block_is.
      let (told, size) = side_line_told net (line_words t) side side_is in
      let (v_is, none) = subst (λ b. Makes net b v f) (sym (same_Some _ block block_is)) makes in
      (side, v_is, ap₂ (λ u us. u ∷ us) (line_of_words t (side_line_words net side) told) none, size)
  grown_told drafts.Refused t block v f e makes =
      added_some _ (refused_of net (line_words t)) block e λ r r_is block_is.
      let (told, fits) = refused_told net (line_words t) r r_is in
      let (v_is, none) = subst (λ b. Makes net b v f) (sym (same_Some _ block block_is)) makes in
      (r.0, r.1, v_is, ap₂ (λ u us. u ∷ us) (line_of_words t (refused_words r.0 r.1) told) none, fits)
