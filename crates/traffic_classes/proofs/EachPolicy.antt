-- Each policy's classes are among those of all policies, and so no more.
use Rattle.std.proofs.Common.{◌≡◌, List, [], ◌∷◌, ◌++◌, length, if◌then◌else◌, refl, ◌∙◌, ap, arith}
use Rattle.std.specs.Prelude.{Contains, fold}
use Rattle.std.proofs.lemmas.Map.Made.{is_member-Decides}
use Rattle.net_model.specs.declared.policies.Class.{Class}
use Rattle.traffic_classes.specs.AllClasses.{with_class}
use Rattle.traffic_classes.specs.Laws.{EachHasNoMoreClasses}
use Rattle.arc_base.proofs.Items.{Contains-head, Contains-tail}
use Rattle.traffic_classes.proofs.Sameness.{is_same-Decides}
use Rattle.traffic_classes.proofs.Unions.{is_found, counted}

-- a list that has a class stays as it is with it
known_class : (ys : List Class) (c : Class) → Contains ys c → with_class ys c ≡ ys
known_class ys c there = ap (λ b. if b then ys else ys ++ c ∷ []) ((is_member-Decides is_same-Decides ys c).1 there)

all_known : (ys xs : List Class) → ((c : Class) → Contains xs c → Contains ys c) → fold with_class ys xs ≡ ys
all_known ys [] there = refl
all_known ys (c ∷ cs) there =
    ap (λ (l : List Class). fold with_class l cs) (known_class ys c (there c (Contains-head c cs))) ∙ all_known ys cs (λ d later. there d (Contains-tail c d cs later))

pub no_more : EachHasNoMoreClasses
no_more net policies policy xs ys one are all =
    let there : (c : Class) → Contains xs c → Contains ys c =
    λ c h. is_found net policies policies ys all c (record { policy = policy; one = one; classes = xs; are = are; there = h }) in
    omega (arith, counted net policies policies policy ys xs (λ p k. k) one all are, ap (λ (l : List Class). length l) (all_known ys xs there))
