-- The connected subnets of interfaces as they are gathered.
use Rattle.std.proofs.Common.{◌≡◌, ◌≤◌, ℕ, ◌⊎◌, inl, inr, Option, Some, None, List, [], sym, subst, ◌↔◌}
use Rattle.std.specs.Prelude.{IfSome, option_map, option_and_then}
use Rattle.std.proofs.lemmas.Option.{none-some, same_Some}
use Rattle.arc_base.specs.declared.prefix.Prefix.{Prefix}
use Rattle.arc_base.proofs.Items.{Contains-none}
use Rattle.ios_config.specs.declared.settings.FaceText.{FaceText}
use Rattle.ios_config.specs.declared.settings.Given.{Given}
use Rattle.net_rules.specs.Settings.{address_of, value}
use Rattle.net_rules.specs.Forms.{IsWellFormedFace}
use Rattle.net_rules.specs.Rows.{IsSubnet}
use Rattle.net_rules.specs.Prefixes.{HasPrefix}
use Rattle.net_rules.specs.Peers.{IsConnectedAt, IsConnected}
use Rattle.net_rules.proofs.Gathered.{gathered_none}
use Rattle.net_rules.proofs.SameRows.{one_subnet}

-- the mask of an interface has at most 32 ones
pub mask_of : (face : FaceText) (address : Option (ℕ × ℕ)) → address ≡ address_of face → IsWellFormedFace face → IfSome address (λ (a : ℕ × ℕ). a.1 ≤ 32)
mask_of face address at well = subst (λ (o : Option (ℕ × ℕ)). IfSome o (λ (a : ℕ × ℕ). a.1 ≤ 32)) (sym at) (by face.addr face.mask_len well.mask_high)
  where
    by : (a : Option (Given ℕ)) (m : Option (Given ℕ)) → IfSome m (λ g. g.value ≤ 32) →
        IfSome (option_and_then (λ (x : ℕ). option_map (λ (y : ℕ). (x, y)) (value m)) (value a)) (λ (p : ℕ × ℕ). p.1 ≤ 32)
    by None m h = tt
    by (Some a) None h = tt
    by (Some a) (Some m) h = h

-- the subnet of one more interface
pub subnet_added : (face : FaceText) (old new : List (ℕ × ℕ)) (address : Option (ℕ × ℕ)) (found : Option Prefix) (subnet : Prefix) → address ≡ address_of face →
    IsSubnet address found → found ≡ Some subnet →
    ((q : Prefix) → HasPrefix new q ↔ (HasPrefix old q ⊎ (subnet ≡ q))) → (q : Prefix) → HasPrefix new q ↔ (HasPrefix old q ⊎ IsConnectedAt face q)
subnet_added face old new address found subnet at is some grown q = (λ h. to ((grown q).0 h), λ h. (grown q).1 (from h))
  where
    own : IsConnectedAt face subnet
    own = subst (λ (a : Option (ℕ × ℕ)). IsSubnet a (Some subnet)) at (subst (λ (o : Option Prefix). IsSubnet address o) some is)

    to : HasPrefix old q ⊎ (subnet ≡ q) → HasPrefix old q ⊎ IsConnectedAt face q
    to (inl h) = inl h
    to (inr e) = inr (subst (λ (p : Prefix). IsConnectedAt face p) e own)

    from : HasPrefix old q ⊎ IsConnectedAt face q → HasPrefix old q ⊎ (subnet ≡ q)
    from (inl h) = inl h
    from (inr h) = inr (same_Some subnet q (one_subnet (address_of face) (Some subnet) (Some q) own h))

-- an interface that has none
pub no_subnet : (face : FaceText) (old : List (ℕ × ℕ)) (address : Option (ℕ × ℕ)) (found : Option Prefix) → address ≡ address_of face → IsSubnet address found → found ≡ None →
    (q : Prefix) → HasPrefix old q ↔ (HasPrefix old q ⊎ IsConnectedAt face q)
no_subnet face old address found at is none q = (λ h. inl h, λ h. from h)
  where
    own : IsSubnet (address_of face) None
    own = subst (λ (a : Option (ℕ × ℕ)). IsSubnet a None) at (subst (λ (o : Option Prefix). IsSubnet address o) none is)

    from : HasPrefix old q ⊎ IsConnectedAt face q → HasPrefix old q
    from (inl h) = h
    from (inr h) = absurd (none-some q (one_subnet (address_of face) None (Some q) own h))

-- before any interface
pub no_subnets : (keys : List (ℕ × ℕ)) → keys ≡ [] → (p : Prefix) → HasPrefix keys p ↔ IsConnected [] p
no_subnets keys is p = gathered_none (λ (face : FaceText). IsConnectedAt face p) (HasPrefix keys p) (λ h. Contains-none (p.addr, p.len) (subst (λ (l : List (ℕ × ℕ)). HasPrefix l p) is h))
