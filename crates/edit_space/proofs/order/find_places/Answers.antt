use Rattle.std.proofs.Common.{◌≡◌, ◌∙◌, ℕ, List, length, set, sym, ap, subst, arith, length-set}
use Rattle.edit_space.specs.declared.order.Keyed.{Keyed}
use Rattle.edit_space.specs.declared.order.Places.{Places}
use Rattle.edit_list.specs.declared.sites.Site.{Site}
use Rattle.edit_list.specs.declared.sites.Site.TheVariants.{Bound, New}
use Rattle.edit_space.specs.Working.{IsWithin}
use Rattle.edit_space.proofs.PlacesFound.{Puts, puts_bound, puts_new, told_more, within_at}
use Rattle.edit_space.proofs.order.find_places.Goals as goal
use Rattle.edit_space.proofs.order.find_places.Goals.{in-Bound, in-New}

pub loop-place-preserved : goal.loop-place-preserved
loop-place-preserved c =
    let lists : List Keyed = c.args.lists.now in
    let i : ℕ = c.loop-place.place in
    let list : Keyed = c.index-lists-place.result in
    let now : Places = c.loop-place.places in
    let next : Places = c.match-list.places in
    let within : IsWithin c.args.bound c.args.faces list.site = within_at c.args.bound c.args.faces lists i list c.requires.within c.loop-place-test.true c.index-lists-place.is in
    elim c.match-list.branch [
      | in-Bound w ↦
          let site : list.site ≡ Bound w.in-Bound.id = w.in-Bound.is in
          let put : next.bound.items ≡ set now.bound.items w.in-Bound.id.0 i = ap (λ (p : Places). p.bound.items) w.places-is ∙ w.put.ensures in
          let kept : next.new.items ≡ now.new.items = ap (λ (p : Places). p.new.items) w.places-is in
          let inside : IsWithin c.args.bound c.args.faces (Bound w.in-Bound.id) = subst (IsWithin c.args.bound c.args.faces) site within in
          let puts : Puts (Bound w.in-Bound.id) i now next = puts_bound w.in-Bound.id i now next (omega (arith, inside, c.loop-place.invariant.bound)) put kept in
          record {
            told = told_more lists i list now next c.requires.apart c.loop-place-test.true c.index-lists-place.is (subst (λ (s : Site). Puts s i now next) (sym site) puts) c.loop-place.invariant.told;
            bound = omega (arith, ap length put, length-set now.bound.items w.in-Bound.id.0 i, c.loop-place.invariant.bound);
            new = omega (arith, ap length kept, c.loop-place.invariant.new);
          }
      | in-New w ↦
          let site : list.site ≡ New w.in-New.face = w.in-New.is in
          let put : next.new.items ≡ set now.new.items w.in-New.face.0 i = ap (λ (p : Places). p.new.items) w.places-is ∙ w.put-in-New.ensures in
          let kept : next.bound.items ≡ now.bound.items = ap (λ (p : Places). p.bound.items) w.places-is in
          let inside : IsWithin c.args.bound c.args.faces (New w.in-New.face) = subst (IsWithin c.args.bound c.args.faces) site within in
          let puts : Puts (New w.in-New.face) i now next = puts_new w.in-New.face i now next (omega (arith, inside, c.loop-place.invariant.new)) put kept in
          record {
            told = told_more lists i list now next c.requires.apart c.loop-place-test.true c.index-lists-place.is (subst (λ (s : Site). Puts s i now next) (sym site) puts) c.loop-place.invariant.told;
            bound = omega (arith, ap length kept, c.loop-place.invariant.bound);
            new = omega (arith, ap length put, length-set now.new.items w.in-New.face.0 i, c.loop-place.invariant.new);
          }
    ]
