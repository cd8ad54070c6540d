-- The steps by router, as they are gone through.
use Rattle.std.proofs.Common.{◌≡◌, ℕ, ◌+◌, ◌<◌, inl, inr, Bool, true, false, Some, List, [], ◌∷◌, ◌++◌, length, take, get_or, set, cond, sym, ◌∙◌, ap, arith}
use Rattle.std.specs.Prelude.{slice_get, Vec, ◌==◌}
use Rattle.std.specs.declared.alloc.Global.{Global}
use Rattle.std.proofs.lemmas.Bool.{cases_eq, eq-eqb, ne_eqb}
use Rattle.std.proofs.lemmas.List.{length-set, get_or-set_same, get_or-set_other, append-nil}
use Rattle.std.proofs.lemmas.List.Elements.{filter_more}
use Rattle.std.proofs.lemmas.Option.{slice_get-get_or, get_or_from_slice_get, slice_get_within}
use Rattle.route_trace.specs.declared.steps.Step.{Step}
use Rattle.route_trace.specs.declared.steps.End.{End}
use Rattle.route_trace.specs.Steps.{end_router, steps_at, AreGroups}

-- one step more is put into the group of its router
pub groups_more : (end : End) (xs : List Step) (i : ℕ) (z : Step) (routers at : ℕ) (groups : List (Vec Step Global)) (old new : Vec Step Global) → i < length xs →
    at ≡ (end_router end (get_or xs i z)).0 → at < routers → old ≡ get_or groups at old → new.items ≡ old.items ++ (get_or xs i z ∷ []) →
    AreGroups end (take i xs) routers groups → AreGroups end (take (i + 1) xs) routers (set groups at new)
groups_more end xs i z routers at groups old new within at_is inside read grown before =
    let room : at < length groups = omega (arith, before.whole, inside) in
    record {
      whole = length-set groups at new ∙ before.whole;
      each = λ router group got.
          let more : steps_at end (take (i + 1) xs) router ≡
          steps_at end (take i xs) router ++ cond ((end_router end (get_or xs i z)).0 == router) (get_or xs i z ∷ []) [] =
          filter_more (λ s. (end_router end s).0 == router) xs i z within in
          elim (cases_eq router at) [
            | inl same ↦
                let is_new : group ≡ new =
                sym (get_or_from_slice_get (set groups at new) router group group got) ∙ ap (λ (r : ℕ). get_or (set groups at new) r group) same
                ∙ get_or-set_same groups at new group room in
                let old_there : slice_get groups at ≡ Some old = slice_get-get_or groups at old room ∙ ap Some (sym read) in
                let passes : ((end_router end (get_or xs i z)).0 == router) ≡ true = eq-eqb (end_router end (get_or xs i z)).0 router (sym at_is ∙ sym same) in
                ap (λ (v : Vec Step Global). v.items) is_new ∙ grown
                ∙ ap (λ (ys : List Step). ys ++ (get_or xs i z ∷ [])) (before.each at old old_there ∙ ap (steps_at end (take i xs)) (sym same))
                ∙ ap (λ (b : Bool). steps_at end (take i xs) router ++ cond b (get_or xs i z ∷ []) []) (sym passes) ∙ sym more
            | inr other ↦
                let size : router < length groups = omega (arith, length-set groups at new, slice_get_within (set groups at new) router group got) in
                let kept : get_or groups router group ≡ group =
                sym (get_or-set_other groups at router new group other) ∙ get_or_from_slice_get (set groups at new) router group group got in
                let there : slice_get groups router ≡ Some group = slice_get-get_or groups router group size ∙ ap Some kept in
                let fails : ((end_router end (get_or xs i z)).0 == router) ≡ false =
                ne_eqb (end_router end (get_or xs i z)).0 router (λ e. other (sym e ∙ sym at_is)) in
                before.each router group there ∙ sym (append-nil (steps_at end (take i xs) router))
                ∙ ap (λ (b : Bool). steps_at end (take i xs) router ++ cond b (get_or xs i z ∷ []) []) (sym fails) ∙ sym more
          ];
    }

-- a group that was read has the steps of its router
pub group_read : (end : End) (steps : List Step) (routers at : ℕ) (groups : List (Vec Step Global)) (group : Vec Step Global) (xs : List Step) →
    AreGroups end steps routers groups → at < routers → group ≡ get_or groups at group → xs ≡ group.items → xs ≡ steps_at end steps at
group_read end steps routers at groups group xs are inside read is =
    let room : at < length groups = omega (arith, are.whole, inside) in
    let there : slice_get groups at ≡ Some group = slice_get-get_or groups at group room ∙ ap Some (sym read) in
    is ∙ are.each at group there
