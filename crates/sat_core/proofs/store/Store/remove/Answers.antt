use Rattle.std.proofs.Common.{◌≡◌, ◌<◌, List, length, map, Option, None, ap, ◌∙◌, arith}
use Rattle.std.specs.List.{swap_remove}
use Rattle.clause_pool.specs.declared.place.Place.{Place}
use Rattle.sat_core.specs.declared.numbered.Numbered.{Numbered}
use Rattle.sat_core.specs.declared.rows.Row.{Row}
use Rattle.sat_core.specs.Stores.{Stored, place_in, without_row}
use Rattle.sat_core.proofs.Removed.{map_removed}
use Rattle.sat_core.proofs.store.Store.remove.Goals as goal

pub returns : goal.returns
returns c =
    let s = c.self.inside in
    let inside : c.args.held.0 < length s.rows.items = omega (arith, c.requires, ap (λ (t : Stored). length t.clauses) c.self.view_is, c.self.invariant.size) in
    let places : map place_in c.swap_remove.new.self.items ≡ swap_remove (map place_in s.rows.items) c.args.held.0 None =
    ap (λ (rs : List Row). map place_in rs) c.swap_remove.ensures.items ∙ map_removed c.swap_remove.result s.rows.items c.args.held.0 inside place_in None in
    ap (λ (ps : List (Option Place)). let t : Stored = record { clauses = c.without-self-inside.result.clauses; places = ps } in t) places
    ∙ ap (λ (cs : List Numbered). let t : Stored = record { clauses = cs; places = swap_remove (map place_in s.rows.items) c.args.held.0 None } in t) c.without-self-inside.ensures
    ∙ ap (λ (t : Stored). without_row t c.args.held.0) c.self.view_is
