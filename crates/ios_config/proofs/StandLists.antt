-- What stands already, as the commands of a file come one by one.
use Rattle.std.proofs.Common.{◌≡◌, ℕ, ◌+◌, ◌<◌, ◌⊎◌, inl, inr, ◌||◌, Bool, true, false, List, [], ◌∷◌, ◌++◌}
use Rattle.std.proofs.Common.{map, length, get_or, take, drop, Some, None, refl, sym, ◌∙◌, ap, subst, arith, Decides, if◌then◌else◌}
use Rattle.std.specs.Prelude.{Contains, Any, ◌↔◌}
use Rattle.std.specs.List.{list_any}
use Rattle.std.proofs.lemmas.Bool.{false≢true}
use Rattle.std.proofs.lemmas.List.{take-append-drop, drop_more, take_more, map-append, get_or_default}
use Rattle.std.proofs.lemmas.List.Elements.{Contains-append_right, Contains-append_cases, Contains-push, Contains-append_left}
use Rattle.std.proofs.lemmas.List.Quantifiers.{all_pairs_push}
use Rattle.indexmap.specs.IndexSet.{insert_key}
use Rattle.ios_config.specs.declared.commands.FileCommand.{FileCommand}
use Rattle.ios_config.specs.Twice.{Stand, stand_of, excluded, Clash, StandOnce, IsFirstDuplicate}
use Rattle.ios_config.proofs.Falls.{any_to, any_from}

module _ {K X : Type 0} (eq : K → K → Bool) (seen : K → X) (same : (x y : K) → Decides (eq x y) (seen x ≡ seen y)) where
  -- the test of an index finds what the key refers to
  pub any_seen : (ks : List K) (k : K) → Decides (list_any (eq k) ks) (Contains (map seen ks) (seen k))
  any_seen [] k = (λ t. absurd (false≢true t), λ (h : Contains [] (seen k)). absurd (omega (arith, h.1)))
  any_seen (x ∷ xs) k = by (eq k x) refl (any_seen xs k)
    where
      only : Contains (seen x ∷ []) (seen k) → seen x ≡ seen k
      only h = let z : h.0 ≡ 0 = omega (arith, h.1) in ap (λ n. get_or (seen x ∷ []) n (seen k)) (sym z) ∙ h.2

      by : (b : Bool) → eq k x ≡ b → Decides (list_any (eq k) xs) (Contains (map seen xs) (seen k)) → Decides (list_any (eq k) (x ∷ xs)) (Contains (map seen (x ∷ xs)) (seen k))
      by true e rest = (
        λ _. (0, omega arith, sym ((same k x).0 e)),
        λ _. ap (λ c. c || list_any (eq k) xs) e,
      )
      by false e rest = (
        λ t. Contains-append_right (seen x ∷ []) (map seen xs) (seen k) (rest.0 (sym (ap (λ c. c || list_any (eq k) xs) e) ∙ t)),
        λ h. elim (Contains-append_cases (seen x ∷ []) (map seen xs) (seen k) h) [
          | inl first ↦ absurd (false≢true (sym e ∙ (same k x).1 (sym (only first))))
          | inr later ↦ ap (λ c. c || list_any (eq k) xs) e ∙ rest.1 later
        ],
      )

  -- what stands after an insertion
  pub inserted : (ks ls : List K) (k : K) (s : X) → ls ≡ insert_key eq ks k → Contains (map seen ls) s ↔ (Contains (map seen ks) s ⊎ (seen k ≡ s))
  inserted ks ls k s is = subst (λ (l : List K). Contains (map seen l) s ↔ (Contains (map seen ks) s ⊎ (seen k ≡ s))) (sym is) (by (list_any (eq k) ks) refl)
    where
      by : (b : Bool) → list_any (eq k) ks ≡ b → Contains (map seen (if b then ks else ks ++ k ∷ [])) s ↔ (Contains (map seen ks) s ⊎ (seen k ≡ s))
      by true e = (λ h. inl h, λ h. elim h [ inl there ↦ there | inr here ↦ subst (Contains (map seen ks)) here ((any_seen ks k).0 e) ])
      by false e =
          let whole : map seen (ks ++ k ∷ []) ≡ map seen ks ++ seen k ∷ [] = map-append seen ks (k ∷ []) in (
            λ h. elim (Contains-append_cases (map seen ks) (seen k ∷ []) s (subst (λ (l : List X). Contains l s) whole h)) [
              | inl there ↦ inl there
              | inr here ↦ inr (only here)
            ],
            λ h. subst (λ (l : List X). Contains l s) (sym whole) (elim h [
              | inl there ↦ Contains-append_left (map seen ks) (seen k ∷ []) s there
              | inr here ↦ subst (Contains (map seen ks ++ seen k ∷ [])) here (Contains-push (map seen ks) (seen k))
            ]),
          )
        where
          only : Contains (seen k ∷ []) s → seen k ≡ s
          only h = let z : h.0 ≡ 0 = omega (arith, h.1) in ap (λ n. get_or (seen k ∷ []) n s) (sym z) ∙ h.2

-- what stands in these names is what the commands make stand
pub record Stands (names : List Stand) (before : List FileCommand) : Type 0 where
  pub exactly : (s : Stand) → Contains names s ↔ Any (λ b. stand_of b.command ≡ Some s) before

module _ (cs : List FileCommand) (i : ℕ) (c : FileCommand) (names : List Stand) (h : i < length cs) (is : c ≡ get_or cs i c) (stands : Stands names (take i cs)) where
  -- what may not stand already stands
  clashes : Any (λ s. Contains names s) (excluded c.command) → Any (λ b. Clash b.command c.command) (take i cs)
  clashes any =
      let earlier = (stands.exactly any.1).0 any.4 in
      (earlier.0, earlier.1, earlier.2, earlier.3, (any.0, any.1, any.2, any.3, earlier.4))

  no_clash : (Any (λ s. Contains names s) (excluded c.command) → ⊥) → (k : ℕ) (d : FileCommand) → k < length (take i cs) → ¬ Clash (get_or (take i cs) k d).command c.command
  no_clash none k d l clash =
      none (clash.0, clash.1, clash.2, clash.3, (stands.exactly clash.1).1 (k, get_or (take i cs) k d, l, get_or_default (take i cs) k (get_or (take i cs) k d) d l, clash.4))

  -- the first command that clashes with an earlier one
  pub first_clash : StandOnce (take i cs) → Any (λ s. Contains names s) (excluded c.command) → IsFirstDuplicate cs c.line
  first_clash once any = record {
    before = take i cs;
    command = c;
    after = drop (i + 1) cs;
    split = sym (take-append-drop i cs) ∙ ap (λ l. take i cs ++ l) (drop_more cs i c h ∙ ap (λ d. d ∷ drop (i + 1) cs) (sym is));
    is_line = refl;
    again = clashes any;
    once = once;
  }

  -- one more command that clashes with none
  pub once_more : StandOnce (take i cs) → (Any (λ s. Contains names s) (excluded c.command) → ⊥) → StandOnce (take (i + 1) cs)
  once_more once none =
      subst StandOnce (sym (take_more cs i c h ∙ ap (λ d. take i cs ++ d ∷ []) (sym is)))
      (all_pairs_push (λ (b d : FileCommand). ¬ Clash b.command d.command) (take i cs) c once (no_clash none))

  -- what stands with it
  pub stands_more : (next : List Stand) (s : Stand) → stand_of c.command ≡ Some s → ((t : Stand) → Contains next t ↔ (Contains names t ⊎ (s ≡ t))) → Stands next (take (i + 1) cs)
  stands_more next s says grown = record {
    exactly = λ t. (
      λ there. any_from (λ (b : FileCommand). stand_of b.command ≡ Some t) cs i c h is (elim ((grown t).0 there) [
        | inl old ↦ inl ((stands.exactly t).0 old)
        | inr new ↦ inr (says ∙ ap Some new)
      ]),
      λ any. (grown t).1 (elim (any_to (λ (b : FileCommand). stand_of b.command ≡ Some t) cs i c h is any) [
        | inl old ↦ inl ((stands.exactly t).1 old)
        | inr new ↦ let e : Some s ≡ Some t = sym says ∙ new in let k : s ≡ t = cc in inr k
      ]),
    );
  }

  -- a command that makes nothing stand
  pub stands_same : stand_of c.command ≡ None → Stands names (take (i + 1) cs)
  stands_same says = record {
    exactly = λ t. (
      λ there. any_from (λ (b : FileCommand). stand_of b.command ≡ Some t) cs i c h is (inl ((stands.exactly t).0 there)),
      λ any. elim (any_to (λ (b : FileCommand). stand_of b.command ≡ Some t) cs i c h is any) [
        | inl old ↦ (stands.exactly t).1 old
        | inr new ↦ let e : None ≡ Some t = sym says ∙ new in let k : ⊥ = cc in absurd k
      ],
    );
  }
