-- A line of the lines that make a verdict is read as it is.
use Rattle.std.proofs.Common.{◌≡◌, ℕ, ◌-◌, nat_le, List, [], ◌∷◌, ◌++◌, ap, ◌∙◌, arith, le-leb, Some, inl, inr}
use Rattle.std.proofs.lemmas.Bool.{cond-true, cond-false, lt-leb}
use Rattle.arc_base.specs.declared.place.Link.{Link}
use Rattle.net_model.specs.declared.lists.Packet.{Packet}
use Rattle.net_model.specs.declared.policies.Class.{Class}
use Rattle.net_model.specs.declared.rows.Network.{Network}
use Rattle.net_model.specs.declared.verdicts.LinkPath.{LinkPath}
use Rattle.net_model.specs.declared.verdicts.Verdict.{Verdict}
use Rattle.net_model.specs.declared.verdicts.Verdict.TheVariants as verdicts
use Rattle.net_model.specs.Validity.{IsValid}
use Rattle.policy_report.specs.declared.drafts.Block.{Block}
use Rattle.policy_report.specs.declared.drafts.Block.TheVariants.{Open, Whole}
use Rattle.policy_report.specs.declared.drafts.Draft.{Draft}
use Rattle.policy_report.specs.declared.drafts.Draft.TheVariants as drafts
use Rattle.policy_report.specs.Readings.{line_words}
use Rattle.policy_report.specs.Rereading.{AreLinks}
use Rattle.policy_report.specs.Steps.{grown, with_side, with_path}
use Rattle.policy_report.proofs.Blocks.{Makes, MakeAll, with_item, added}
use Rattle.policy_report.proofs.Counted.{first_item, no_items}
use Rattle.policy_report.proofs.LineWords.{closed_text, path_text, closed_words, path_words, walk_words, denied_words, cut_words, side_line_words}
use Rattle.policy_report.proofs.LineWords.{refused_words, IsSide, are_closed_words, are_path_words, are_walk_words, are_denied_words, are_cut_words, are_side_line_words, are_refused_words}
use Rattle.policy_report.proofs.Spaced.{words_read, heads}
use Rattle.policy_report.proofs.Spelled.{closed_read, path_read, walk_read, denied_read, cut_read, side_line_read, refused_read}

-- the line is read as a part of the draft, and what it makes is left to the other lines
abbrev pub Grows : Network → Draft → Verdict → List ℕ → List (List ℕ) → Type 0
Grows net draft v t f = (block : Block) × (grown net draft (line_words t) ≡ Some block) × Makes net block v f

-- a line of an item is read as that item
items_grow : (net : Network) (v : Verdict) {X : Type 0} (verdict_of : List X → Verdict) (draft_of : ℕ → List X → Draft) (text : X → List ℕ) (P : X → Type 0) →
    ((left : ℕ) (done : List X) (f : List (List ℕ)) → MakeAll verdict_of text P left done v f → Makes net (Open (draft_of left done)) v f) →
    (left : ℕ) (done : List X) (t : List ℕ) (f : List (List ℕ)) → MakeAll verdict_of text P left done v (t ∷ f) →
    ((x : X) → t ≡ text x → P x → grown net (draft_of left done) (line_words t) ≡ Some (with_item verdict_of draft_of left done x)) → Grows net (draft_of left done) v t f
items_grow net v verdict_of draft_of text P makes left done t f (all, v_is, items) reads =
    let first = first_item text P left done all t f items in
    let x = first.item in
    let read = reads x first.told first.fits in
    elim first.rest [
      | inl (one, whole, none) ↦
          (Whole (verdict_of (done ++ x ∷ [])), read ∙ ap Some (cond-true (nat_le left 1) _ _ (le-leb left 1 one)), (v_is ∙ ap verdict_of whole, none))
      | inr (several, rest) ↦
          (Open (draft_of (left - 1) (done ++ x ∷ [])), read ∙ ap Some (cond-false (nat_le left 1) _ _ (lt-leb left 1 several)), makes (left - 1) (done ++ x ∷ []) f (all, v_is, rest))
    ]

-- no block that goes on is at its end
pub not_over : (net : Network) (draft : Draft) (v : Verdict) → Makes net (Open draft) v [] → ⊥
not_over net (drafts.Sides left sides) v (all, v_is, items) = no_items (closed_text net) (λ s. IsSide net s.side) left sides all items
not_over net (drafts.Paths left paths) v (all, v_is, items) = no_items path_text (λ p. AreLinks net p.links) left paths all items
not_over net drafts.Walk v (class, path, v_is, none, fits) = cc
not_over net drafts.Denied v (class, v_is, none) = cc
not_over net drafts.Cut v (links, side, v_is, none, fits, size) = cc
not_over net (drafts.Side links) v (side, v_is, none, size) = cc
not_over net drafts.Refused v (packet, link, v_is, none, fits) = cc

module _ (net : Network) (valid : IsValid net) where
  -- a line of the lines that make the verdict is read
  pub grows : (draft : Draft) (v : Verdict) (t : List ℕ) (f : List (List ℕ)) → Makes net (Open draft) v (t ∷ f) → Grows net draft v t f
  grows (drafts.Sides left sides) v t f makes =
      items_grow net v verdicts.Closed drafts.Sides (closed_text net) (λ s. IsSide net s.side) (λ left sides f h. h) left sides t f makes λ shown told size.
      let words : line_words t ≡ closed_words net shown = ap line_words told ∙ words_read (closed_words net shown) (omega arith) (are_closed_words net valid shown) in
      ap (grown net (drafts.Sides left sides)) words ∙ ap (λ o. added o (λ s. Some (with_side left sides s))) (closed_read net valid shown size)
  grows (drafts.Paths left paths) v t f makes =
      items_grow net v verdicts.Paths drafts.Paths path_text (λ p. AreLinks net p.links) (λ left paths f h. h) left paths t f makes λ path told fits.
      let words : line_words t ≡ path_words path = ap line_words told ∙ words_read (path_words path) (omega arith) (are_path_words net valid path fits) in
      ap (grown net (drafts.Paths left paths)) words ∙ ap (λ o. added o (λ p. Some (with_path left paths p))) (path_read net valid path fits)
  grows drafts.Walk v t f (class, path, v_is, front, fits) =
      let (here, rest) = heads t _ f _ front in
      let words : line_words t ≡ walk_words class path = ap line_words here ∙ words_read (walk_words class path) (omega arith) (are_walk_words net valid class path fits) in (
        Whole (verdicts.Walk class path),
        ap (grown net drafts.Walk) words ∙ ap (λ o. added o (λ (w : Class × LinkPath). Some (Whole (verdicts.Walk w.0 w.1)))) (walk_read net valid class path fits),
        (v_is, rest),
      )
  grows drafts.Denied v t f (class, v_is, front) =
      let (here, rest) = heads t _ f _ front in
      let words : line_words t ≡ denied_words class = ap line_words here ∙ words_read (denied_words class) (omega arith) (are_denied_words class) in (
        Whole (verdicts.Denied class),
        ap (grown net drafts.Denied) words ∙ ap (λ o. added o (λ c. Some (Whole (verdicts.Denied c)))) (denied_read class),
        (v_is, rest),
      )
  grows drafts.Cut v t f (links, side, v_is, front, fits, size) =
      let (here, rest) = heads t _ f _ front in
      let words : line_words t ≡ cut_words links = ap line_words here ∙ words_read (cut_words links) (omega arith) (are_cut_words net valid links fits) in (
        Open (drafts.Side links),
        ap (grown net drafts.Cut) words ∙ ap (λ o. added o (λ ls. Some (Open (drafts.Side ls)))) (cut_read net valid links fits),
        (side, v_is, rest, size),
      )
  grows (drafts.Side links) v t f (side, v_is, front, size) =
      let (here, rest) = heads t _ f _ front in
      let words : line_words t ≡ side_line_words net side = ap line_words here ∙ words_read (side_line_words net side) (omega arith) (are_side_line_words net valid side) in (
        Whole (verdicts.Cut links side),
        ap (grown net (drafts.Side links)) words ∙ ap (λ o. added o (λ s. Some (Whole (verdicts.Cut links s)))) (side_line_read net valid side size),
        (v_is, rest),
      )
  grows drafts.Refused v t f (packet, link, v_is, front, fits) =
      let (here, rest) = heads t _ f _ front in
      let words : line_words t ≡ refused_words packet link = ap line_words here ∙ words_read (refused_words packet link) (omega arith) (are_refused_words net valid packet link fits) in (
        Whole (verdicts.Refused packet link),
        ap (grown net drafts.Refused) words ∙ ap (λ o. added o (λ (r : Packet × Link). Some (Whole (verdicts.Refused r.0 r.1))))
            (refused_read net valid packet link fits),
        (v_is, rest),
      )
