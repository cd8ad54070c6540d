use Rattle.std.proofs.Common.{sym, ◌∙◌}
use Rattle.std.specs.Prelude.{All}
use Rattle.std.proofs.lemmas.Bool.{false≢true}
use Rattle.std.proofs.lemmas.List.{get_or_default}
use Rattle.std.proofs.lemmas.List.Elements.{All-contains}
use Rattle.arc_base.specs.declared.place.Link.{Link}
use Rattle.arc_base.specs.declared.prefix.Prefix.{Prefix}
use Rattle.net_model.specs.declared.rows.Network.{Network}
use Rattle.std.proofs.Common.{Bool, List, get_or}
use Rattle.witness_check.specs.Cuts.{LeavesOver, IsCut}
use Rattle.witness_check.proofs.cases.Case.is_cut.Goals as goal

-- an arc of the link leaves the side
abbrev Leaving : Network → Prefix → List Bool → Link → Type 0
Leaving net to side l = LeavesOver net to side l.0

each_of : (net : Network) (to : Prefix) (side : List Bool) (links : List Link) → IsCut net to side links → All (Leaving net to side) links
each_of net to side links cut k d less =
    let leaving = (cut (get_or links k d)).0 (k, less, get_or_default links k (get_or links k d) d less) in
    record { arc = leaving.0; over = leaving.1; leaving = leaving.2 }

pub returns-then-each_leaves_side : goal.returns-then-each_leaves_side
returns-then-each_leaves_side c = (
  λ t l. (
    λ at. let leaving : Leaving c.args.self.now.net.now c.args.self.now.to c.args.side.now l =
        All-contains (Leaving c.args.self.now.net.now c.args.self.now.to c.args.side.now) c.args.links.now l (c.each_leaves_side.ensures.0 c.if-each_leaves_side.true) at in
        (leaving.arc, leaving.over, leaving.leaving),
    λ leaving. c.cuts_all.ensures.0 t l (record { arc = leaving.0; over = leaving.1; leaving = leaving.2 }),
  ),
  λ cut. c.cuts_all.ensures.1 (λ l leaving. (cut l).1 (leaving.arc, leaving.over, leaving.leaving)),
)

pub returns-else-each_leaves_side : goal.returns-else-each_leaves_side
returns-else-each_leaves_side c = (
  λ t. absurd (false≢true (sym c.if-each_leaves_side.false ∙ t)),
  λ cut. c.each_leaves_side.ensures.1 (each_of c.args.self.now.net.now c.args.self.now.to c.args.side.now c.args.links.now cut),
)
