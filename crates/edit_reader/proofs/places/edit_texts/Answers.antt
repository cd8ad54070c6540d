use Rattle.std.proofs.Common.{◌<◌, ◌∙◌, [], ◌∷◌, ◌++◌, List, ℕ, length, length-append, map, take, ap, sym, arith}
use Rattle.std.proofs.lemmas.List.{take_all}
use Rattle.policy_report.specs.Edits.{edit_text}
use Rattle.edit_reader.proofs.Placed.{texts_more}
use Rattle.edit_reader.proofs.places.edit_texts.Goals as goal

pub loop-at-preserved : goal.loop-at-preserved
loop-at-preserved c =
    let text : List ℕ = c.in_ok-edit_text.field-0.items in
    let within : c.loop-at.at < length c.args.edits.now = omega arith in
    record {
      made =
          c.in_ok-push.ensures.ok ∙ ap (λ (ts : List (List ℕ)). ts ++ c.of.result ∷ []) c.loop-at.invariant.made
          ∙ ap (λ (t : List ℕ). map (edit_text c.args.net.now) (take c.loop-at.at c.args.edits.now) ++ t ∷ []) c.of.ensures
          ∙ sym (texts_more c.args.net.now c.args.edits.now c.loop-at.at text within c.in_ok-edit_text.ensures);
      long = omega (arith, c.loop-at.invariant.long, ap length c.in_ok-push.ensures.ok, length-append c.loop-at.texts (c.of.result ∷ []));
    }

pub returns : goal.returns
returns c = c.loop-at.invariant.made ∙ ap (map (edit_text c.args.net.now)) (take_all c.loop-at.at c.args.edits.now (omega arith))
