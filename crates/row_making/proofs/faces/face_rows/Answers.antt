use Rattle.std.proofs.Common.{◌≡◌, ◌<◌, List, length, take, get_or, ap, sym, ◌∙◌, subst, arith}
use Rattle.std.specs.List.{AllZip}
use Rattle.net_rules.specs.Names.{names_at}
use Rattle.net_rules.specs.Sites.{Site, sites}
use Rattle.net_rules.specs.Lists.{keys_at}
use Rattle.net_rules.specs.Rows.{IsFaceRow}
use Rattle.net_rules.proofs.NameLists.{sites-more}
use Rattle.row_making.proofs.faces.face_rows.Goals as goal

pub loop-router-preserved : goal.loop-router-preserved
loop-router-preserved c =
    let within : c.loop-router.router < length c.args.configs.now = omega (arith, ap (λ l. length l) c.slice-config-items.ensures.items, c.loop-router-test.true) in
    let read : c.config-item.result ≡ get_or c.args.configs.now c.loop-router.router c.config-item.result =
    c.config-item.is ∙ ap (λ l. get_or l c.loop-router.router c.config-item.result) c.slice-config-items.ensures.items in
    subst (λ (l : List Site). AllZip (IsFaceRow c.args.around.now.protocol (names_at c.args.around.now.ends.now.keys) (keys_at c.args.around.now.lists.now.keys)) l c.add_face_rows.new.rows.items)
    (sym (sites-more c.args.configs.now c.loop-router.router c.config-item.result within read))
    (c.in_ok-add_face_rows.ensures (sites (take c.loop-router.router c.args.configs.now)) c.loop-router.invariant)
