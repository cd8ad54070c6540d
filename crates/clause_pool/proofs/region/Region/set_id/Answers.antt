use Rattle.std.proofs.Common.{List, set, refl, sym, ap, ◌∙◌, arith, length, length-set}
use Rattle.std.proofs.lemmas.List.{with_items_is}
use Rattle.std.specs.Vec.{with_items}
use Rattle.cnf_types.specs.declared.literal.Lit.{Lit}
use Rattle.clause_pool.specs.Maps.{changed}
use Rattle.clause_pool.specs.Renumbered.{with_id}
use Rattle.clause_pool.specs.Regions.{number}
use Rattle.clause_pool.proofs.Regions.{Kept, standing}
use Rattle.clause_pool.proofs.Renumbering.{id-over}
use Rattle.clause_pool.proofs.region.Region.set_id.Goals as goal

pub offset_bounds-words-place : goal.offset_bounds-words-place
offset_bounds-words-place c =
    let t = standing c.self.inside c.args.self.now c.args.place c.self.invariant c.self.view_is c.requires in
    omega (arith, t.within, ap length c.as_mut_slice-words.ensures.value, c.as_mut_slice-words.type_inv.1)

pub bounds-words-place : goal.bounds-words-place
bounds-words-place c =
    let t = standing c.self.inside c.args.self.now c.args.place c.self.invariant c.self.view_is c.requires in
    omega (arith, t.within, ap length c.as_mut_slice-words.ensures.value)

kept : (c : goal.After-self-1) →
    Kept (record { words = with_items c.self.inside.words (set c.as_mut_slice-words.result.now c.args.place (number c.args.id)); room = c.self.inside.room })
    (record { end = c.args.self.now.end; room = c.args.self.now.room; live = changed c.args.self.now.live c.args.place (with_id c.args.id) })
kept c =
    let r = c.self.inside in
    let t = standing r c.args.self.now c.args.place c.self.invariant c.self.view_is c.requires in
    let same = c.as_mut_slice-words.ensures.value in
    let ws : List Lit = set c.as_mut_slice-words.result.now c.args.place (number c.args.id) in
    id-over r (record { words = with_items r.words ws; room = r.room }) c.args.self.now c.args.place c.args.id c.self.invariant c.self.view_is t
    (with_items_is r.words ws (length-set c.as_mut_slice-words.result.now c.args.place (number c.args.id) ∙ ap length same ∙ sym r.words.ok.0)
    ∙ ap (λ (xs : List Lit). set xs c.args.place (number c.args.id)) same)
    refl (omega arith)

pub invariant_of-self : goal.invariant_of-self
invariant_of-self c = (kept c).spelled

pub returns : goal.returns
returns c = (kept c).view
