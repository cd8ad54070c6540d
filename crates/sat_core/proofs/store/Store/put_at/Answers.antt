use Rattle.std.proofs.Common.{List, set, Option, Some, ap, ◌∙◌}
use Rattle.std.proofs.lemmas.List.{map-set}
use Rattle.clause_pool.specs.declared.place.Place.{Place}
use Rattle.sat_core.specs.declared.rows.Row.TheVariants.{Watched}
use Rattle.sat_core.specs.Stores.{Stored, place_in}
use Rattle.sat_core.proofs.store.Store.put_at.Goals as goal

pub returns : goal.returns
returns c =
    let s = c.self.inside in
    ap (λ (ps : List (Option Place)). let t : Stored = record { clauses = s.added.clauses; places = ps } in t) (map-set place_in s.rows.items c.args.at (Watched c.id-id.result c.args.place))
    ∙ ap (λ (t : Stored). let u : Stored = record t { places = set t.places c.args.at (Some c.args.place) } in u) c.self.view_is
