use Rattle.std.proofs.Common.{◌∙◌, Some, false, true, sym}
use Rattle.std.specs.Prelude.{bytes_eq}
use Rattle.std.proofs.lemmas.Map.Text.{hash_map_updates_str}
use Rattle.edit_reader.specs.Places.{place_of}
use Rattle.edit_reader.proofs.Placed.{alike, kept, put}
use Rattle.edit_reader.proofs.places.TextPlaces.note.Goals as goal

pub returns-then-contains_key : goal.returns-then-contains_key
returns-then-contains_key c = λ other.
    kept (place_of c.args.self.now other) (bytes_eq c.args.text.now other) c.args.place
    (λ same. alike c.args.self.now c.args.text.now other true (sym c.contains_key.ensures ∙ c.if-contains_key.true) same)

pub returns : goal.returns
returns c = λ other.
    hash_map_updates_str c.args.text.now c.args.self.now.places c.insert.new.self (Some c.args.place) c.in_ok-insert.ensures.updates other ∙
    put (place_of c.args.self.now other) (bytes_eq c.args.text.now other) c.args.place
    (λ same. alike c.args.self.now c.args.text.now other false (sym c.contains_key.ensures ∙ c.if-contains_key.false) same)
