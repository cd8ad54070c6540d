use Rattle.std.proofs.Common.{◌∙◌, List, ap, ap₂, map, take}
use Rattle.std.proofs.lemmas.List.{with_items_is}
use Rattle.cnf_types.specs.declared.literal.Lit.{Lit}
use Rattle.proof_check.specs.declared.tables.Place.{Place}
use Rattle.proof_check.specs.Places.{clause_at}
use Rattle.proof_check.proofs.Places.{clause_cut, same_clauses}
use Rattle.proof_check.proofs.tables.compact.Goals as goal

pub returns-clause-clauses : goal.returns-clause-clauses
returns-clause-clauses c =
    let slid = c.slide-end.ensures in
    let end = c.slide-end.result in
    let lits = c.slide-end.new.lits in
    let places = c.slide-end.new.places in
    let places_are = with_items_is c.args.places.now places (slid.len ∙ c.deref_mut-2.ensures.len) in
    let lits_are = c.truncate.ensures.items ∙ ap (take end) (with_items_is c.args.lits.now lits (c.slide-end.auto.lits ∙ c.deref_mut.ensures.len)) in
    ap₂ (λ (ls : List Lit) (ps : List Place). map (clause_at ls) ps) lits_are places_are
    ∙ same_clauses (clause_at (take end lits)) (clause_at lits) end places slid.within (λ p h. clause_cut lits end p slid.end h)
    ∙ slid.clauses
    ∙ ap₂ (λ (ls : List Lit) (ps : List Place). map (clause_at ls) ps) c.deref_mut.ensures.value c.deref_mut-2.ensures.value
