-- The routers and names of lists that stand in order are different.
use Rattle.std.proofs.Common.{◌≢◌, ℕ, List, ap, ◌≡◌, inl, inr, [], ◌∷◌, refl, sym, ◌∙◌, subst, arith}
use Rattle.std.specs.Prelude.{map}
use Rattle.net_model.specs.declared.lists.PacketList.{PacketList}
use Rattle.net_model.specs.declared.lists.RouteList.{RouteList}
use Rattle.ios_config.specs.declared.settings.Config.{Config}
use Rattle.arc_base.specs.Lists.{AreDistinct}
use Rattle.net_rules.specs.Lists.{ArePacketLists, AreRouteLists, packet_list_key, route_list_key}
use Rattle.arc_base.proofs.Items.{AllPairs-map}
use Rattle.std.specs.Cmp.Lexicographic.{slice_cmp}
use Rattle.std.specs.Ordering.{nat_cmp, ordering_then}
use Rattle.std.specs.declared.cmp.Ordering.{Ordering}
use Rattle.std.specs.declared.cmp.Ordering.TheVariants.{Less, Equal}
use Rattle.arc_base.specs.NameForms.{IsNameBefore}
use Rattle.net_rules.specs.Ordered.{IsPairBefore}

-- no name comes before itself
compare_same : (n : ℕ) → nat_cmp n n ≡ Equal
compare_same n = grind arith

not_before_itself : (name : List ℕ) → slice_cmp nat_cmp name name ≡ Equal
not_before_itself [] = refl
not_before_itself (n ∷ name) = ap (λ (o : Ordering). ordering_then o (slice_cmp nat_cmp name name)) (compare_same n) ∙ not_before_itself name

equal_is_no_less : Equal ≡ Less → ⊥
equal_is_no_less e = subst (λ (o : Ordering). IsEqual o) e tt
  where
    IsEqual : Ordering → Type 0
    IsEqual Less = ⊥
    IsEqual other = Unit {0}

pub names_differ : (x y : ℕ × List ℕ) → IsPairBefore IsNameBefore x y → x.0 ≡ y.0 → x.1 ≢ y.1
names_differ x y (inl lower) router name = omega (arith, lower, router)
names_differ x y (inr (same, before)) router name =
    equal_is_no_less (sym (not_before_itself x.1) ∙ subst (λ (n : List ℕ). slice_cmp nat_cmp x.1 n ≡ Less) (sym name) before)

pub packet_keys_differ : (configs : List Config) (rows : List PacketList) → ArePacketLists configs rows → AreDistinct (map packet_list_key rows)
packet_keys_differ configs rows are =
    AllPairs-map (λ (x : ℕ × List ℕ) (y : ℕ × List ℕ). x ≢ y) packet_list_key rows
    (λ i j d l m e. names_differ _ _ (are.order i j d l m) (ap (λ (k : ℕ × List ℕ). k.0) e) (ap (λ (k : ℕ × List ℕ). k.1) e))

pub route_keys_differ : (configs : List Config) (rows : List RouteList) → AreRouteLists configs rows → AreDistinct (map route_list_key rows)
route_keys_differ configs rows are =
    AllPairs-map (λ (x : ℕ × List ℕ) (y : ℕ × List ℕ). x ≢ y) route_list_key rows
    (λ i j d l m e. names_differ _ _ (are.order i j d l m) (ap (λ (k : ℕ × List ℕ). k.0) e) (ap (λ (k : ℕ × List ℕ). k.1) e))
