use Rattle.std.proofs.Common.{◌≡◌, IsTrue, List, Option, Some, IfSome, is_some, refl, sym, ap, ◌∙◌, subst}
use Rattle.cnf_types.specs.declared.literal.Lit.{Lit}
use Rattle.cnf_types.specs.Literals.{negated}
use Rattle.clause_pool.specs.Pools.{Entry, IsWatch, clause_at}
use Rattle.clause_pool.proofs.Sound.{at-some, some-and}
use Rattle.sat_core.specs.Trails.{IsUnset, is_on}
use Rattle.sat_core.specs.Watches.{other_watch, IsFree, IsSpent}
use Rattle.sat_core.proofs.Walks.{known}
use Rattle.sat_core.proofs.visiting.visit.Goals as goal

if-found : (o : Option Entry) (x : Entry) (P : Entry → Type 0) → o ≡ Some x → P x → IfSome o P
if-found o x P e h = subst (λ (p : Option Entry). IfSome p P) (sym e) h

pub lits-lits-requires : goal.lits-lits-requires
lits-lits-requires c =
    let e = known c.args.pool.now c.args.lit c.args.p c.args.before c.requires.sound c.requires.before in
    ap is_some e.is

pub move_watch-requires-clause-live : goal.move_watch-requires-clause-live
move_watch-requires-clause-live c =
    let e = known c.args.pool.now c.args.lit c.args.p c.args.before c.requires.sound c.requires.before in
    ap is_some e.is

pub move_watch-requires-clause-from : goal.move_watch-requires-clause-from
move_watch-requires-clause-from c =
    let e = known c.args.pool.now c.args.lit c.args.p c.args.before c.requires.sound c.requires.before in
    if-found (clause_at c.args.pool.now c.args.p) e.value (λ (x : Entry). IsWatch x.lits c.args.lit) e.is e.holds

pub returns-then-is_true-clause-seen : goal.returns-then-is_true-clause-seen
returns-then-is_true-clause-seen c =
    let e = known c.args.pool.now c.args.lit c.args.p c.args.before c.requires.sound c.requires.before in
    let lits : c.lits-lits.result.now ≡ e.value.lits = at-some (clause_at c.args.pool.now c.args.p) e.value (λ (x : Entry). c.lits-lits.result.now ≡ x.lits) e.is c.lits-lits.ensures.lits in
    let other : c.other_of-other.result ≡ other_watch e.value.lits c.args.lit = c.other_of-other.ensures ∙ ap (λ (ls : List Lit). other_watch ls c.args.lit) lits in (
      refl,
      some-and (clause_at c.args.pool.now c.args.p) e.value (λ (x : Entry). IsTrue (is_on c.args.trail.now.entries (other_watch x.lits c.args.lit))) e.is
          (ap (λ (l : Lit). is_on c.args.trail.now.entries l) (sym other) ∙ sym c.is_true.ensures ∙ c.if-is_true.true),
    )

pub returns-in-Some-clause-seen : goal.returns-in-Some-clause-seen
returns-in-Some-clause-seen c =
    let e = known c.args.pool.now c.args.lit c.args.p c.args.before c.requires.sound c.requires.before in
    let lits : c.lits-lits.result.now ≡ e.value.lits = at-some (clause_at c.args.pool.now c.args.p) e.value (λ (x : Entry). c.lits-lits.result.now ≡ x.lits) e.is c.lits-lits.ensures.lits in
    let other : c.other_of-other.result ≡ other_watch e.value.lits c.args.lit = c.other_of-other.ensures ∙ ap (λ (ls : List Lit). other_watch ls c.args.lit) lits in
    let free : IsFree c.args.trail.now.entries c.lits-lits.result.now c.other_of-other.result c.in-Some.place = c.in-Some.ensures in (
      c.in-Some.place,
      c.move_watch.ensures.new,
      some-and (clause_at c.args.pool.now c.args.p) e.value (λ (x : Entry). IsFree c.args.trail.now.entries x.lits (other_watch x.lits c.args.lit) c.in-Some.place) e.is
          (subst (λ (l : Lit). IsFree c.args.trail.now.entries e.value.lits l c.in-Some.place) other
          (subst (λ (ls : List Lit). IsFree c.args.trail.now.entries ls c.other_of-other.result c.in-Some.place) lits free)),
    )

pub returns-then-is_true-2-clause-seen : goal.returns-then-is_true-2-clause-seen
returns-then-is_true-2-clause-seen c =
    let e = known c.args.pool.now c.args.lit c.args.p c.args.before c.requires.sound c.requires.before in
    let lits : c.lits-lits.result.now ≡ e.value.lits = at-some (clause_at c.args.pool.now c.args.p) e.value (λ (x : Entry). c.lits-lits.result.now ≡ x.lits) e.is c.lits-lits.ensures.lits in
    let other : c.other_of-other.result ≡ other_watch e.value.lits c.args.lit = c.other_of-other.ensures ∙ ap (λ (ls : List Lit). other_watch ls c.args.lit) lits in
    let spent : IsSpent c.args.trail.now.entries e.value.lits c.other_of-other.result =
    subst (λ (ls : List Lit). IsSpent c.args.trail.now.entries ls c.other_of-other.result) lits c.in-None.ensures in (
      refl,
      some-and (clause_at c.args.pool.now c.args.p) e.value
          (λ (x : Entry). IsTrue (is_on c.args.trail.now.entries (negated (other_watch x.lits c.args.lit))) × IsSpent c.args.trail.now.entries x.lits (other_watch x.lits c.args.lit)) e.is (
            ap (λ (l : Lit). is_on c.args.trail.now.entries (negated l)) (sym other) ∙ ap (λ (l : Lit). is_on c.args.trail.now.entries l) (sym c.negated.ensures)
                ∙ sym c.is_true-in-None.ensures ∙ c.if-is_true-2.true,
            subst (λ (l : Lit). IsSpent c.args.trail.now.entries e.value.lits l) other spent,
          ),
    )

pub returns-else-is_true-2-clause-seen : goal.returns-else-is_true-2-clause-seen
returns-else-is_true-2-clause-seen c =
    let e = known c.args.pool.now c.args.lit c.args.p c.args.before c.requires.sound c.requires.before in
    let lits : c.lits-lits.result.now ≡ e.value.lits = at-some (clause_at c.args.pool.now c.args.p) e.value (λ (x : Entry). c.lits-lits.result.now ≡ x.lits) e.is c.lits-lits.ensures.lits in
    let other : c.other_of-other.result ≡ other_watch e.value.lits c.args.lit = c.other_of-other.ensures ∙ ap (λ (ls : List Lit). other_watch ls c.args.lit) lits in
    let spent : IsSpent c.args.trail.now.entries e.value.lits c.other_of-other.result =
    subst (λ (ls : List Lit). IsSpent c.args.trail.now.entries ls c.other_of-other.result) lits c.in-None.ensures in (
      refl,
      some-and (clause_at c.args.pool.now c.args.p) e.value
          (λ (x : Entry). (c.other_of-other.result ≡ other_watch x.lits c.args.lit) × IsUnset
          (is_on c.args.trail.now.entries) c.other_of-other.result × IsSpent c.args.trail.now.entries x.lits c.other_of-other.result) e.is (
            other,
            record {
              not_true = sym c.is_true.ensures ∙ c.if-is_true.false;
              not_false = ap (λ (l : Lit). is_on c.args.trail.now.entries l) (sym c.negated.ensures) ∙ sym c.is_true-in-None.ensures ∙ c.if-is_true-2.false;
            },
            spent,
          ),
    )
