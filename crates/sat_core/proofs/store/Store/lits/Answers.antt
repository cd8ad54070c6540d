use Rattle.std.proofs.Common.{◌≡◌, ◌<◌, length, List, Option, Some, is_some, option_map, sym, ap, ◌∙◌, subst, arith}
use Rattle.cnf_types.specs.declared.literal.Lit.{Lit}
use Rattle.clause_pool.specs.Pools.{Entry, clause_at as clause_in}
use Rattle.clause_pool.proofs.Sound.{at-some, and-some, some-and}
use Rattle.sat_core.specs.declared.numbered.Numbered.{Numbered}
use Rattle.sat_core.specs.declared.rows.Row.{Row}
use Rattle.sat_core.specs.Trails.{clause_at}
use Rattle.sat_core.specs.Stores.{Stored, shown}
use Rattle.sat_core.specs.Placed.{AreAlike}
use Rattle.sat_core.proofs.Listed.{clause-of, place-is, row-at}
use Rattle.sat_core.proofs.Alike.{alike-self, placed-lits}
use Rattle.sat_core.proofs.store.Store.lits.Goals as goal

pub lits-requires : goal.lits-requires
lits-requires c =
    let f = and-some (clause_in c.args.pool.now c.in-Watched.place) (λ (e : Entry). e.id ≡ c.args.held.0)
    (c.requires.placed.live c.args.held.0 c.in-Watched.place
    (place-is c.self.inside c.args.self.now c.args.held.0 c.index.result.now _ _ c.in-Watched.place c.self.view_is
    (omega (arith, c.requires.place, ap (λ (t : Stored). length t.clauses) c.self.view_is, c.self.invariant.size)) c.index.ensures c.in-Watched.is)) in
    ap is_some f.is

pub returns-in-Watched : goal.returns-in-Watched
returns-in-Watched c =
    placed-lits c.args.self.now.clauses c.args.self.now.places c.args.pool.now c.args.held c.in-Watched.place c.lits.result.now c.requires.linked
    c.requires.placed (place-is c.self.inside c.args.self.now c.args.held.0 c.index.result.now _ _ c.in-Watched.place c.self.view_is
    (omega (arith, c.requires.place, ap (λ (t : Stored). length t.clauses) c.self.view_is, c.self.invariant.size)) c.index.ensures c.in-Watched.is)
    (λ e is. at-some (clause_in c.args.pool.now c.in-Watched.place) e (λ (x : Entry). c.lits.result.now ≡ x.lits) is c.lits.ensures.lits)

pub returns-in-Beside : goal.returns-in-Beside
returns-in-Beside c =
    let s = c.self.inside in
    let within : c.args.held.0 < length s.rows.items = omega (arith, c.requires.place, ap (λ (t : Stored). length t.clauses) c.self.view_is, c.self.invariant.size) in
    let (n, there, shows) = clause-of s c.args.held.0 c.index.result.now c.self.invariant (row-at s.rows.items c.args.held.0 c.index.result.now _ within c.index.ensures) in
    let own : c.in-Beside.clause ≡ n = ap (λ (r : Row). shown r n.lits) (sym c.in-Beside.is) ∙ shows in
    let at : clause_at c.args.self.now.clauses c.args.held ≡ Some n.lits =
    ap (λ (t : Stored). clause_at t.clauses c.args.held) (sym c.self.view_is) ∙ ap (λ (o : Option Numbered). option_map (λ (m : Numbered). m.lits) o) there in
    some-and (clause_at c.args.self.now.clauses c.args.held) n.lits (λ (lits : List Lit). AreAlike lits c.slice.result.now) at
    (subst (λ (ls : List Lit). AreAlike n.lits ls) (sym (c.slice.ensures.items ∙ ap (λ (m : Numbered). m.lits) own)) (alike-self n.lits))
