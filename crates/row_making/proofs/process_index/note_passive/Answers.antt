use Rattle.std.proofs.Common.{◌≡◌, ◌∙◌, sym, ap, Some}
use Rattle.std.specs.Prelude.{bytes_eq, ℕ, List, Option}
use Rattle.std.specs.Option.{option_or, option_copied}
use denote.Ref.{Bor}
use Rattle.indexmap.specs.IndexMap.{get_by}
use Rattle.std.proofs.lemmas.Map.Text.{hash_map_updates_str}
use Rattle.row_making.specs.Indexes.{by_face, said_of}
use Rattle.row_making.proofs.IndexLines.{named_first}
use Rattle.row_making.proofs.process_index.note_passive.Goals as goal

pub returns-in_ok-insert-in-Some : goal.returns-in_ok-insert-in-Some
returns-in_ok-insert-in-Some c = λ name.
    let face : option_copied c.args.face ≡ Some c.bytes.result.now = ap (λ o. option_copied o) c.in-Some.is ∙ ap Some (sym c.bytes.ensures) in
    ap (λ o. option_or o c.args.passive.now.all) (hash_map_updates_str c.bytes.result.now c.args.passive.now.named c.insert.new.self (Some c.args.on) c.in_ok-insert-in-Some.ensures.updates name) ∙
    named_first (bytes_eq c.bytes.result.now name) c.args.on (get_by (λ (k : Bor (List ℕ)). bytes_eq name k.now) c.args.passive.now.named) c.args.passive.now.all ∙
    ap (λ (f : Option (List ℕ)). option_or (by_face name c.args.on f) (said_of c.args.passive.now name)) (sym face)
