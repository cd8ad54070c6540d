use Rattle.std.proofs.Common.{◌≡◌, [], ◌∷◌, List, ℕ, Bool, false, length, take, get_or, refl, sym, ◌∙◌, ap, subst, arith, rules}
use Rattle.std.specs.Prelude.{replicate}
use Rattle.std.proofs.lemmas.Bool.{MatchBool-at_true, MatchBool-at_false}
use Rattle.std.proofs.lemmas.List.{length-replicate, get_or-replicate}
use Rattle.std.proofs.lemmas.Map.Iter.{rest_more, rest_all}
use Rattle.bstr.proofs.lemmas.LengthLemmas.{length-lines}
use Rattle.edit_reader.specs.EditFiles.{line_texts, AreEditLines, AreMarked, chosen_by}
use Rattle.edit_reader.specs.Places.{FindsEdits}
use Rattle.edit_reader.proofs.Marked.{none_marked}
use Rattle.edit_reader.proofs.Placed.{are_below}
use Rattle.edit_reader.proofs.LinesRead.{MovesOn, moved, all_taken}
use Rattle.edit_reader.proofs.reading.named_edits.Goals as goal

pub mark-requires : goal.mark-requires
mark-requires c =
    are_below c.args.net.now c.args.edits.now c.in_ok-places.places (length c.loop-line.chosen.items) c.loop-line.invariant.whole
    (c.in_ok-places.ensures c.args.net.now c.args.edits.now (c.slice.ensures.items ∙ c.in_ok-texts.ensures))

pub loop-line-init : goal.loop-line-init
loop-line-init c =
    let edits = c.args.edits.now in
    let made : c.in_ok-chosen.chosen.items ≡ replicate (length edits) false = search rules in
    let long : length c.in_ok-chosen.chosen.items ≡ length edits = ap length made ∙ length-replicate (length edits) false in
    record {
      left = sym (c.into_iter-line-iterator.ensures.into_iter_gives ∙ c.lines-line-items.ensures.value);
      marked = none_marked c.args.net.now edits c.in_ok-chosen.chosen.items long (λ k within. ap (λ (fs : List Bool). get_or fs k false) made ∙ get_or-replicate (length edits) k false false within);
      whole = long;
      few = omega (arith, length-lines c.args.text.now, ap length c.into_iter-line-iterator.ensures.into_iter_gives, ap length c.lines-line-items.ensures.value);
    }

pub returns-then-not-mark-clause-answer : goal.returns-then-not-mark-clause-answer
returns-then-not-mark-clause-answer c =
    let net = c.args.net.now in
    let edits = c.args.edits.now in
    let texts : List (List ℕ) = line_texts c.args.text.now in
    let finds : FindsEdits net edits c.in_ok-places.places = c.in_ok-places.ensures net edits (c.slice.ensures.items ∙ c.in_ok-texts.ensures) in
    let line : List ℕ = c.in-Some.line.now in
    let rest : List (List ℕ) = c.next.new.self in
    let left : c.loop-line.line-iterator ≡ line ∷ rest = rest_more (λ x. x.now) c.loop-line.line-iterator rest c.next.result c.in-Some.line c.in-Some.is c.next.ensures.steps in
    let next : MovesOn texts c.loop-line.number line rest = moved texts c.loop-line.number line rest (c.loop-line.invariant.left ∙ left) in
    record {
      place = c.loop-line.number;
      within = next.within;
      number_is = refl;
      right_before = c.loop-line.invariant.marked.lines;
      wrong = subst (λ (ls : List (List ℕ)). AreEditLines net edits ls → ⊥) (sym next.taken)
          (MatchBool-at_false _ _ c.if-not-mark.true (c.mark.ensures.marked net edits (take c.loop-line.number texts) finds c.loop-line.invariant.marked));
    }

pub loop-line-preserved : goal.loop-line-preserved
loop-line-preserved c =
    let net = c.args.net.now in
    let edits = c.args.edits.now in
    let texts : List (List ℕ) = line_texts c.args.text.now in
    let finds : FindsEdits net edits c.in_ok-places.places = c.in_ok-places.ensures net edits (c.slice.ensures.items ∙ c.in_ok-texts.ensures) in
    let line : List ℕ = c.in-Some.line.now in
    let rest : List (List ℕ) = c.next.new.self in
    let left : c.loop-line.line-iterator ≡ line ∷ rest = rest_more (λ x. x.now) c.loop-line.line-iterator rest c.next.result c.in-Some.line c.in-Some.is c.next.ensures.steps in
    let next : MovesOn texts c.loop-line.number line rest = moved texts c.loop-line.number line rest (c.loop-line.invariant.left ∙ left) in
    record {
      left = next.dropped;
      marked = subst (λ (ls : List (List ℕ)). AreMarked net edits ls c.mark.new.chosen.items) (sym next.taken)
          (MatchBool-at_true _ _ c.if-not-mark.false (c.mark.ensures.marked net edits (take c.loop-line.number texts) finds c.loop-line.invariant.marked));
      whole = c.mark.ensures.whole ∙ c.loop-line.invariant.whole;
      few = omega (arith, ap length left, c.loop-line.invariant.few);
    }

pub returns-clause-answer : goal.returns-clause-answer
returns-clause-answer c =
    let net = c.args.net.now in
    let edits = c.args.edits.now in
    let texts : List (List ℕ) = line_texts c.args.text.now in
    let none : c.loop-line.line-iterator ≡ [] = rest_all (λ x. x.now) c.loop-line.line-iterator c.next.new.self c.next.result c.in-None.is c.next.ensures.steps in
    let all : take c.loop-line.number texts ≡ texts = all_taken texts c.loop-line.number (c.loop-line.invariant.left ∙ none) in (
      subst (λ (ls : List (List ℕ)). AreEditLines net edits ls) all c.loop-line.invariant.marked.lines,
      c.in_ok-of.ensures.ok ∙ c.loop-line.invariant.marked.chosen ∙ ap (chosen_by net edits) all,
    )

pub returns-clause-flags : goal.returns-clause-flags
returns-clause-flags c = ap length c.in_ok-of.ensures.ok ∙ c.loop-line.invariant.whole
