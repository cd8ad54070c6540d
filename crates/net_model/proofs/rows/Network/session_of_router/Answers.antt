use Rattle.std.proofs.Common.{rules, ◌≤◌, ◌-◌, ◌==◌, List, take, drop, ap, ◌∙◌}
use Rattle.std.specs.List.{find}
use Rattle.net_model.specs.declared.rows.SessionRow.{SessionRow}
use Rattle.net_model.specs.Tables.{router_at}
use Rattle.net_model.proofs.SessionsFound.{points_in_order, found_by_router}
use Rattle.net_model.proofs.rows.Network.session_of_router.Goals as goal

-- src/sessions.rt:62:18
pub slice_bounds-first_at-count : goal.slice_bounds-first_at-count
slice_bounds-first_at-count c =
    points_in_order (λ (s : SessionRow). router_at c.args.self.now s.face) c.args.self.now.sessions _ _ _
    c.sessions_before-start.ensures.within c.sessions_before-start.ensures.point c.sessions_before-end.ensures.point

pub slice_bounds-first_at-start : goal.slice_bounds-first_at-start
slice_bounds-first_at-start c =
    let le : c.sessions_before-start.result ≤ c.sessions_before-end.result =
    points_in_order (λ (s : SessionRow). router_at c.args.self.now s.face) c.args.self.now.sessions _ _ _
    c.sessions_before-start.ensures.within c.sessions_before-start.ensures.point c.sessions_before-end.ensures.point in
    search rules

pub returns : goal.returns
returns c =
    let le : c.sessions_before-start.result ≤ c.sessions_before-end.result =
    points_in_order (λ (s : SessionRow). router_at c.args.self.now s.face) c.args.self.now.sessions _ _ _
    c.sessions_before-start.ensures.within c.sessions_before-start.ensures.point c.sessions_before-end.ensures.point in
    c.first_at.ensures ∙
    ap (λ (xs : List SessionRow). find (λ s. s.face.0 == c.args.face.0)
    (take (c.sessions_before-end.result - c.sessions_before-start.result) (drop c.sessions_before-start.result xs))) c.slice.ensures.items ∙
    found_by_router c.args.self.now c.args.face _ _ _ (c.from-router.ensures ∙ c.router_at.ensures) le c.sessions_before-end.ensures.within
    c.sessions_before-start.ensures.point c.sessions_before-end.ensures.point
