-- A block, and a clause, that is given another id.
use Rattle.std.proofs.Common.{◌≡◌, ◌≢◌, ℕ, ◌≤◌, ◌⊎◌, inl, inr, List, set, Contains, Some, IfSome, vec_capacity, refl, sym, ap, ◌∙◌, subst, arith}
use Rattle.std.proofs.lemmas.Bool.{cases_eq}
use Rattle.std.proofs.lemmas.Option.{same_Some}
use Rattle.std.specs.FinMap.{insert}
use Rattle.cnf_types.specs.declared.literal.Lit.{Lit}
use Rattle.clause_pool.specs.declared.place.Place.{Place}
use Rattle.clause_pool.specs.declared.pool.Pool.TheInside.{Inside as PoolInside}
use Rattle.clause_pool.specs.declared.region.Region.TheInside.{Inside}
use Rattle.clause_pool.specs.Maps.{changed}
use Rattle.clause_pool.specs.Blocks.{Block, Blocks}
use Rattle.clause_pool.specs.Renumbered.{with_id, with_id_at}
use Rattle.clause_pool.specs.Regions.{number, spelling, blocks, IsSpelled}
use Rattle.clause_pool.specs.Pools.{Entry, State, IsClause, IsWatch, IsSound, IsFreshId, lit_at, chain, clause_at}
use Rattle.clause_pool.specs.Linked.{entry_of, clauses_of, state, IsKept}
use Rattle.clause_pool.proofs.Places.{same-place}
use Rattle.clause_pool.proofs.Spelled.{words}
use Rattle.clause_pool.proofs.Regions.{Kept, Standing, alive, over, set-in, differs-changed}
use Rattle.clause_pool.proofs.Maps.{get-changed_same, get-changed_other, changed-is, clauses-inserted}
use Rattle.clause_pool.proofs.Links.{block-at}
use Rattle.clause_pool.proofs.Relinked.{change-linked}
use Rattle.clause_pool.proofs.Sound.{if-some, at-some, and-some, some-and}
use Rattle.clause_pool.proofs.Kept.{At, same-state}
use Rattle.clause_pool.proofs.Putting.{Becomes, becomes, lits-apart, put-at}

pub id-over : (r new : Inside) (v : Blocks) (p id : ℕ) → IsSpelled r → blocks r ≡ v → Standing r v.live p → new.words.items ≡ set r.words.items p (number id) →
    new.room ≡ r.room → vec_capacity r.words ≤ vec_capacity new.words →
    Kept new (record { end = v.end; room = v.room; live = changed v.live p (with_id id) })
id-over r new v p id s view t items room cap =
    over r new v p (changed v.live p (with_id id)) (alive (with_id id t.block)) s view t refl
    (items ∙ ap (λ (xs : List Lit). set xs p (number id)) t.is ∙ set-in (words t.before) (spelling (alive t.block)) (words t.after) p 0 p (number id) t.at (omega arith) (omega arith))
    room cap (differs-changed v.live p (with_id id) t.block t.seen)

-- a clause under another id
pub id-sound : (s : State) (p : Place) (c : Entry) (id : ℕ) → IsSound s → clause_at s p ≡ Some c → IsFreshId s id → IsSound (with_id_at s p id)
id-sound s p c id h is fresh =
    let new = with_id_at s p id in
    let d : Entry = record { id = id; lits = c.lits } in
    let g : Entry → Entry = λ x. record { id = id; lits = x.lits } in
    let here : clause_at new p ≡ Some d = get-changed_same s.clauses p g c is in
    let there : (q : Place) → (q ≡ p → ⊥) → clause_at new q ≡ clause_at s q = λ q o. get-changed_other s.clauses p q g o in
    -- the clause before the change that stands where one stands now
    let before : (q : Place) (x : Entry) → clause_at new q ≡ Some x →
    (y : Entry) × (clause_at s q ≡ Some y) × (x.lits ≡ y.lits) × (((q ≡ p) × (x.id ≡ id)) ⊎ ((q ≡ p → ⊥) × (x.id ≡ y.id))) = λ q x e. elim (cases_eq q.0 p.0) [
      | inl at ↦
          let q_is : q ≡ p = same-place q p at in
          let x_is : d ≡ x = same_Some d x (sym here ∙ ap (clause_at new) (sym q_is) ∙ e) in
          (c, ap (clause_at s) q_is ∙ is, ap (λ (z : Entry). z.lits) (sym x_is), inl (q_is, ap (λ (z : Entry). z.id) (sym x_is)))
      | inr o ↦ let q_is : q ≡ p → ⊥ = λ f. o (ap (λ (r : Place). r.0) f) in (x, sym (there q q_is) ∙ e, refl, inr (q_is, refl))
    ] in
    record {
      size = h.size;
      small = h.small;
      clauses = λ q. if-some (clause_at new q) _ (λ x e.
          let u = before q x e in
          subst (λ (ls : List Lit). IsClause s.vars ls) (sym u.2) (at-some (clause_at s q) u.0 (λ (z : Entry). IsClause s.vars z.lits) u.1 (h.clauses q)));
      ids = λ q r differ. if-some (clause_at new q) _ (λ x e. if-some (clause_at new r) _ (λ x' e'.
          let u = before q x e in
          let v = before r x' e' in
          λ same. elim u.3 [
            | inl (q_is, x_id) ↦ elim v.3 [
              | inl (r_is, _) ↦ differ (q_is ∙ sym r_is)
              | inr (_, y_id) ↦ at-some (clause_at s r) v.0 (λ (z : Entry). z.id ≢ id) v.1 (fresh r) (sym y_id ∙ sym same ∙ x_id)
            ]
            | inr (_, x_id) ↦ elim v.3 [
              | inl (_, y_id) ↦ at-some (clause_at s q) u.0 (λ (z : Entry). z.id ≢ id) u.1 (fresh q) (sym x_id ∙ same ∙ y_id)
              | inr (_, y_id) ↦ at-some (clause_at s r) v.0 (λ (y : Entry). u.0.id ≢ y.id) v.1
                  (at-some (clause_at s q) u.0 (λ (z : Entry). IfSome (clause_at s r) (λ (y : Entry). z.id ≢ y.id)) u.1 (h.ids q r differ)) (sym x_id ∙ same ∙ y_id)
            ]
          ]));
      watched = λ q. if-some (clause_at new q) _ (λ x e.
          let u = before q x e in
          subst (λ (ls : List Lit). Contains (chain s (lit_at ls 0)) q × Contains (chain s (lit_at ls 1)) q) (sym u.2)
          (at-some (clause_at s q) u.0 (λ (y : Entry). Contains (chain s (lit_at y.lits 0)) q × Contains (chain s (lit_at y.lits 1)) q) u.1 (h.watched q)));
      watches = λ q l m.
          let k = and-some (clause_at s q) (λ (x : Entry). IsWatch x.lits l) (h.watches q l m) in
          elim (cases_eq q.0 p.0) [
            | inl at ↦
                let q_is : q ≡ p = same-place q p at in
                let k_is : k.value ≡ c = same_Some k.value c (sym k.is ∙ ap (clause_at s) q_is ∙ is) in
                some-and (clause_at new q) d (λ (x : Entry). IsWatch x.lits l) (ap (clause_at new) q_is ∙ here) (subst (λ (x : Entry). IsWatch x.lits l) k_is k.holds)
            | inr o ↦ some-and (clause_at new q) k.value (λ (x : Entry). IsWatch x.lits l) (there q (λ f. o (ap (λ (r : Place). r.0) f)) ∙ k.is) k.holds
          ];
      once = h.once;
    }

-- a clause is given another id
pub renumbered-whole : (a : PoolInside) (s : State) (p : Place) (t : At a.region.live s p) (id : ℕ) (r : Blocks) → IsKept a → state a ≡ s → IsFreshId s id →
    r ≡ record { end = a.region.end; room = a.region.room; live = changed a.region.live p.0 (with_id id) } →
    Becomes (record { vars = a.vars; region = r; heads = a.heads }) (with_id_at s p id)
renumbered-whole a s p t id r k view fresh is =
    let heads = a.heads.items in
    let b = t.block in
    let g : Entry → Entry = λ c. record { id = id; lits = c.lits } in
    let sound : IsSound s = subst (λ (u : State). IsSound u) view k.sound in
    let clause : IsClause s.vars b.lits = at-some (clause_at s p) (entry_of b) (λ (c : Entry). IsClause s.vars c.lits) t.entry (sound.clauses p) in
    let l = change-linked a.region r heads p b (with_id id) k.linked is t.seen (lits-apart s.vars b.lits clause) (λ code h.
    let w = block-at a.region.live code p (k.linked.chains.watched code p h) in
    let same : w.block ≡ b = same_Some w.block b (sym w.seen ∙ t.seen) in
    (refl, subst (λ (c : Block). IsWatch c.lits (record { code = code })) same w.watch)) in
    let clauses : clauses_of r.live ≡ changed s.clauses p g =
    ap (λ (v : Blocks). clauses_of v.live) is ∙ ap (λ m. clauses_of m) (changed-is a.region.live p.0 (with_id id) b t.seen) ∙ clauses-inserted a.region.live p (with_id id b)
    ∙ ap (λ (u : State). insert u.clauses p (g (entry_of b))) view ∙ sym (put-at s p (entry_of b) g t.entry) in
    becomes _ _ l.linked
    (same-state a.vars _ _ _ _ _ _ (ap (λ (v : Blocks). v.room) is) clauses l.is
    ∙ ap (λ (u : State). let w : State = record { vars = u.vars; spare = u.spare; clauses = changed s.clauses p g; chains = u.chains } in w) view)
    (id-sound s p (entry_of b) id sound t.entry fresh)
