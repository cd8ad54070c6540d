use Rattle.std.proofs.Common.{◌≡◌, ℕ, Some, refl, sym, ap, subst}
use Rattle.std.specs.Prelude.{slice_get}
use Rattle.arc_base.specs.declared.place.Face.{Face}
use Rattle.net_model.specs.Routing.{Arc}
use Rattle.route_trace.proofs.steps.step_at.Goals as goal

pub returns-clause-found : goal.returns-clause-found
returns-clause-found c =
    let arc : Arc = record {
      link = c.args.link.0;
      from_a = c.args.from_a;
      row = c.in_ok-row.row.now;
      tail = c.in_ok-tail.tail.now;
      head = c.in_ok-head.head.now;
    } in
    record {
      arc = record {
        link = c.args.link.0;
        from_a = c.args.from_a;
        row = c.in_ok-row.row.now;
        tail = c.in_ok-tail.tail.now;
        head = c.in_ok-head.head.now;
      };
      is_arc = record {
        link = sym c.in_ok-row.ensures.item;
        tail = subst (λ (f : Face). slice_get c.args.net.now.faces f.0 ≡ Some c.in_ok-tail.tail.now) c.tail.ensures (sym c.in_ok-tail.ensures.item);
        head = subst (λ (f : Face). slice_get c.args.net.now.faces f.0 ≡ Some c.in_ok-head.head.now) c.head.ensures (sym c.in_ok-head.ensures.item);
      };
      link_is = refl;
      direction = refl;
      step_is = ap (λ (n : ℕ). record { link = c.args.link; tail = c.in_ok-tail.tail.now.router; head = c.in_ok-head.head.now.router; cost = n }) (c.cost.ensures arc refl);
    }
