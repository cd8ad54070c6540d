use Rattle.std.proofs.Common.{◌≡◌, ◌≤◌, ℕ, List, Some, length, ap, sym, ◌∙◌, subst, arith}
use Rattle.std.specs.Prelude.{slice_get, map}
use Rattle.std.proofs.lemmas.Option.{slice_get-get_or}
use Rattle.ios_config.specs.declared.settings.Config.{Config}
use Rattle.net_model.specs.declared.rows.Protocol.{Protocol}
use Rattle.net_model.specs.declared.rows.SessionRow.{SessionRow}
use Rattle.arc_base.specs.Lists.{AreDistinct}
use Rattle.net_rules.specs.Lists.{keys_at, route_list_key}
use Rattle.net_rules.specs.Ordered.{AreInOrder}
use Rattle.net_rules.specs.Rows.{IsSession, IsSessionBefore, AreSessions}
use Rattle.row_making.specs.Sessions.{AreFilesOf, AreSessionsTo}
use Rattle.row_making.proofs.SessionSteps.{no_sessions, all_sessions}
use Rattle.row_making.proofs.sessions.session_rows.Goals as goal

pub loop-router-init : goal.loop-router-init
loop-router-init c = λ files.
    subst (λ (l : List SessionRow). AreSessionsTo c.args.configs.now c.args.net.now.links (keys_at c.args.lists.now.keys) 0 0 l) (sym c.new-sessions.ensures.items)
    (no_sessions c.args.configs.now c.args.net.now.links (keys_at c.args.lists.now.keys))

pub loop-router-preserved : goal.loop-router-preserved
loop-router-preserved c = λ files.
    let items : List Config = c.slice-config-items.result.now in
    let at : slice_get c.args.configs.now c.loop-router.router ≡ Some c.config-item.result =
    subst (λ (l : List Config). slice_get l c.loop-router.router ≡ Some c.config-item.result) c.slice-config-items.ensures.items
    (slice_get-get_or items c.loop-router.router c.config-item.result c.loop-router-test.true ∙ ap Some (sym c.config-item.is)) in
    c.in_ok-add_sessions.ensures c.args.configs.now files at (c.loop-router.invariant files)

pub returns : goal.returns
returns c = λ doc free base.
    let keys : List (ℕ × List ℕ) = keys_at c.args.lists.now.keys in
    let files : AreFilesOf c.args.configs.now c.args.net.now keys = record {
      doc = doc;
      free = free;
      base = base;
      keys = c.requires.lists;
      distinct = subst (λ (l : List (ℕ × List ℕ)). AreDistinct l) (sym c.requires.lists) c.requires.distinct;
    } in
    let long : length c.args.configs.now ≤ c.loop-router.router = omega (arith, c.loop-router-test.false, ap length c.slice-config-items.ensures.items) in
    let all = all_sessions c.args.configs.now c.args.net.now.links keys c.loop-router.router c.loop-router.sessions.items long (c.loop-router.invariant files) in
    subst (λ (protocol : Protocol). AreSessions protocol c.args.configs.now c.args.net.now.links (map route_list_key c.args.net.now.route_lists) c.in_ok-rows.rows) (sym c.in-Bgp.is)
    (subst (λ (rows : List SessionRow). AreInOrder (IsSessionBefore c.args.configs.now c.args.net.now.links (map route_list_key c.args.net.now.route_lists))
    (IsSession c.args.configs.now c.args.net.now.links (map route_list_key c.args.net.now.route_lists)) rows)
    (sym c.in_ok-rows.ensures.ok)
    (subst (λ (l : List (ℕ × List ℕ)). AreInOrder (IsSessionBefore c.args.configs.now c.args.net.now.links l) (IsSession c.args.configs.now c.args.net.now.links l) c.loop-router.sessions.items)
    c.requires.lists all))
