use Rattle.std.proofs.Common.{◌<◌, length, Some, sym, ap, ◌∙◌, arith}
use Rattle.sat_core.specs.declared.rows.Row.{Row}
use Rattle.sat_core.specs.Trails.{id_at}
use Rattle.sat_core.specs.Stores.{Stored}
use Rattle.sat_core.proofs.Listed.{id_in, id-of, row-at}
use Rattle.sat_core.proofs.store.Store.id.Goals as goal

pub returns-in-Watched : goal.returns-in-Watched
returns-in-Watched c =
    let s = c.self.inside in
    let within : c.args.held.0 < length s.rows.items = omega (arith, c.requires, ap (λ (t : Stored). length t.clauses) c.self.view_is, c.self.invariant.size) in
    ap (λ (t : Stored). id_at t.clauses c.args.held) (sym c.self.view_is)
    ∙ id-of s c.args.held.0 c.index.result.now c.self.invariant (row-at s.rows.items c.args.held.0 c.index.result.now _ within c.index.ensures)
    ∙ ap (λ (r : Row). Some (id_in r)) c.in-Watched.is

pub returns-in-Beside : goal.returns-in-Beside
returns-in-Beside c =
    let s = c.self.inside in
    let within : c.args.held.0 < length s.rows.items = omega (arith, c.requires, ap (λ (t : Stored). length t.clauses) c.self.view_is, c.self.invariant.size) in
    ap (λ (t : Stored). id_at t.clauses c.args.held) (sym c.self.view_is)
    ∙ id-of s c.args.held.0 c.index.result.now c.self.invariant (row-at s.rows.items c.args.held.0 c.index.result.now _ within c.index.ensures)
    ∙ ap (λ (r : Row). Some (id_in r)) c.in-Beside.is
