use Rattle.std.proofs.Common.{◌∙◌, Option, List, ℕ, ap, sym, arith}
use Rattle.std.specs.Prelude.{bytes_eq}
use Rattle.std.specs.List.{position}
use Rattle.std.specs.Option.{option_or}
use Rattle.std.proofs.lemmas.List.{take_all}
use Rattle.edit_reader.specs.Places.{place_of}
use Rattle.edit_reader.proofs.Placed.{at_place, finds_edits, position_more}
use Rattle.edit_reader.proofs.places.TextPlaces.of.Goals as goal

pub loop-place-preserved : goal.loop-place-preserved
loop-place-preserved c = λ text.
    let here : List ℕ = c.index-texts-place.result in
    let place : ℕ = c.loop-place.place in
    c.in_ok-note.ensures text ∙
    ap (λ (t : List ℕ). option_or (place_of c.loop-place.found text) (at_place (bytes_eq t text) place)) c.bytes.ensures ∙
    ap (λ (o : Option ℕ). option_or o (at_place (bytes_eq here text) place)) (c.loop-place.invariant text) ∙
    sym (position_more (λ t. bytes_eq t text) c.args.texts.now place here (omega arith) c.index-texts-place.is)

pub returns : goal.returns
returns c net edits are =
    finds_edits net edits c.args.texts.now c.loop-place.found are
    (λ text. c.loop-place.invariant text ∙ ap (position (λ t. bytes_eq t text)) (take_all c.loop-place.place c.args.texts.now (omega arith)))
