use Rattle.std.proofs.Common.{◌≡◌, List, length, refl, ap, ◌∙◌, sym, arith}
use Rattle.std.proofs.lemmas.List.{with_items_is}
use Rattle.std.specs.Vec.{with_items}
use Rattle.sat_core.specs.declared.assigned.Assigned.{Assigned}
use Rattle.sat_core.specs.Assignments.{Assignment}
use Rattle.sat_core.specs.Forgotten.{moved_entries}
use Rattle.sat_core.proofs.Moved.{kept-renamed, length-moved}
use Rattle.sat_core.proofs.trail.Trail.rename.Goals as goal

items-are : (c : goal.After-self-1) → (with_items c.self.inside.entries c.rename.new.entries).items ≡ moved_entries c.args.last c.args.at c.self.inside.entries.items
items-are c =
    let t = c.self.inside in
    let is : c.rename.new.entries ≡ moved_entries c.args.last c.args.at t.entries.items =
    c.rename.ensures ∙ ap (λ (xs : List Assigned). moved_entries c.args.last c.args.at xs) c.deref_mut.ensures.value in
    with_items_is t.entries c.rename.new.entries (ap length is ∙ length-moved c.args.last c.args.at t.entries.items ∙ sym t.entries.ok.0) ∙ is

pub invariant_of-self : goal.invariant_of-self
invariant_of-self c = kept-renamed c.self.inside _ c.args.last c.args.at c.self.invariant refl (items-are c) refl refl refl (omega arith) refl (omega arith)

pub returns : goal.returns
returns c =
    let t = c.self.inside in
    ap (λ (xs : List Assigned). let a : Assignment = record { vars = t.vars; entries = xs; level = t.level } in a) (items-are c)
    ∙ ap (λ (a : Assignment). let b : Assignment = record a { entries = moved_entries c.args.last c.args.at a.entries } in b) c.self.view_is
