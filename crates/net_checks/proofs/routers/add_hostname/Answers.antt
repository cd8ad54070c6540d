use Rattle.std.proofs.Common.{◌≡◌, ℕ, ◌++◌, [], ◌∷◌, List, Option, refl, sym, subst, nat_eq}
use Rattle.std.specs.Prelude.{map, Contains, IsSomeAnd, MatchOption}
use Rattle.std.specs.Cmp.Lexicographic.{pointwise}
use Rattle.std.proofs.lemmas.Slice.Eq.{bytes_eq-Decides}
use denote.Ref.{Bor}
use Rattle.ios_config.specs.declared.settings.Setting.{Setting}
use Rattle.net_rules.proofs.Cases.{at_true, at_false}
use Rattle.net_rules.proofs.Keys.{inserted}
use Rattle.net_checks.proofs.routers.add_hostname.Goals as goal

abbrev text : Bor (List ℕ) → List ℕ
text key = key.now

pub returns-then-new : goal.returns-then-new
returns-then-new c =
    let old : List (List ℕ) = map text c.args.names.now.keys in
    let next : List (List ℕ) = map text c.insert_full.new.self.keys in
    let said = inserted (λ (x : Bor (List ℕ)) (y : Bor (List ℕ)). pointwise nat_eq x.now y.now) text (λ x y. bytes_eq-Decides x.now y.now)
    c.args.names.now.keys c.insert_full.new.self.keys c.bytes.result c.in_ok-_place-in-Some.new c.in_ok-_place-in-Some.ensures.added c.in_ok-_place-in-Some.ensures.keys in
    subst (λ (o : Option Setting). IsSomeAnd o (λ s. (¬ Contains old s.name) × (next ≡ old ++ s.name ∷ []))) (sym c.in-Some.is)
    (subst (λ (n : List ℕ). (¬ Contains old n) × (next ≡ old ++ n ∷ [])) c.bytes.ensures (at_true _ _ _ c.if-new.true said))

pub returns-else-new : goal.returns-else-new
returns-else-new c =
    let old : List (List ℕ) = map text c.args.names.now.keys in
    let said = inserted (λ (x : Bor (List ℕ)) (y : Bor (List ℕ)). pointwise nat_eq x.now y.now) text (λ x y. bytes_eq-Decides x.now y.now)
    c.args.names.now.keys c.insert_full.new.self.keys c.bytes.result c.in_ok-_place-in-Some.new c.in_ok-_place-in-Some.ensures.added c.in_ok-_place-in-Some.ensures.keys in
    subst (λ (o : Option Setting). MatchOption o (c.in-Some.given.line ≡ 0) (λ s. (c.in-Some.given.line ≡ s.line) × Contains old s.name)) (sym c.in-Some.is)
    (refl, subst (λ (n : List ℕ). Contains old n) c.bytes.ensures (at_false _ _ _ c.if-new.false said))
