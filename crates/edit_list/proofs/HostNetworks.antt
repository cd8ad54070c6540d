-- The destinations of policies, one policy after another.
use Rattle.std.proofs.Common.{◌≡◌, ℕ, ◌+◌, ◌<◌, ◌≤◌, Bool, true, false, List, [], ◌∷◌, ◌++◌, length, get_or, take, refl, sym, ◌∙◌, ap, subst, arith, if◌then◌else◌}
use Rattle.std.specs.List.{AllZip, list_any}
use Rattle.std.proofs.lemmas.List.{take_more, length-append}
use Rattle.std.proofs.lemmas.List.Sums.{fold_push}
use Rattle.arc_base.specs.declared.prefix.Prefix.{Prefix}
use Rattle.arc_base.proofs.Zips.{AllZip-append}
use Rattle.net_model.specs.declared.policies.Policy.{Policy}
use Rattle.net_model.specs.declared.rows.Network.{Network}
use Rattle.edit_list.specs.EditLists.{LiesInHost, is_same, with_prefix, AreDestinations}

-- one policy more
pub destinations_more : (net : Network) (policies : List Policy) (i : ℕ) (policy : Policy) (host : Prefix) (now next : List Prefix) → i < length policies → policy ≡ get_or policies i policy →
    LiesInHost net policy.to host → next ≡ with_prefix now host → AreDestinations net (take i policies) now → AreDestinations net (take (i + 1) policies) next
destinations_more net policies i policy host now next within is lies grown was =
    let more : take (i + 1) policies ≡ take i policies ++ policy ∷ [] = take_more policies i policy within ∙ ap (λ p. take i policies ++ p ∷ []) (sym is) in
    let R : Policy → Prefix → Type 0 = λ p h. LiesInHost net p.to h in
    record {
      hosts = was.hosts ++ host ∷ [];
      are = subst (λ (l : List Policy). AllZip R l (was.hosts ++ host ∷ [])) (sym more) (AllZip-append R (take i policies) was.hosts (policy ∷ []) (host ∷ []) was.are (lies, tt));
      once = grown ∙ ap (λ l. with_prefix l host) was.once ∙ sym (fold_push with_prefix [] was.hosts host);
    }

pub few_more : (now next : List Prefix) (host : Prefix) (i : ℕ) → next ≡ with_prefix now host → length now ≤ i → length next ≤ i + 1
few_more now next host i grown few = by (list_any (is_same host) now) refl
  where
    by : (b : Bool) → list_any (is_same host) now ≡ b → length next ≤ i + 1
    by true e = omega (arith, ap length (grown ∙ ap (λ t. if t then now else now ++ host ∷ []) e), few)
    by false e = omega (arith, ap length (grown ∙ ap (λ t. if t then now else now ++ host ∷ []) e), length-append now (host ∷ []), few)
