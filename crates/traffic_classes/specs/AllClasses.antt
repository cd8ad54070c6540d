-- The classes of several policies together, each of them once.
use Rattle.std.specs.Prelude.{◌≡◌, ℕ, ◌+◌, ◌<◌, ◌≤◌, ◌&&◌, ◌++◌, nat_eq, not, Bool, List, [], ◌∷◌}
use Rattle.std.specs.Prelude.{fold, length, map, take, if◌then◌else◌}
use Rattle.std.specs.List.{flat_map, list_any, AllZip}
use Rattle.arc_base.specs.declared.limits.TheConstants.{CLASS_LIMIT}
use Rattle.arc_base.specs.Addresses.{inside}
use Rattle.net_model.specs.Services.{is_service_inside}
use Rattle.net_model.specs.declared.policies.Class.{Class}
use Rattle.net_model.specs.declared.policies.Policy.{Policy}
use Rattle.net_model.specs.declared.rows.Network.{Network}
use Rattle.traffic_classes.specs.declared.found.Found.{Found}
use Rattle.traffic_classes.specs.Classes.{AreClasses, told}

-- the six numbers that make a class
abbrev pub Key : Type 0
Key = ℕ × ℕ × ℕ × ℕ × ℕ × ℕ

-- the numbers of the class
abbrev pub key_of : Class → Key
key_of class = (
  class.from.addr,
  class.from.len,
  class.to.addr,
  class.to.len,
  class.service.low,
  class.service.high,
)

-- whether the two have the same numbers
abbrev pub same_class_key : Key → Key → Bool
same_class_key k l =
    ((((nat_eq k.0 l.0 && nat_eq k.1 l.1) && nat_eq k.2 l.2) && nat_eq k.3 l.3) &&
    nat_eq k.4 l.4) && nat_eq k.5 l.5

-- whether the two classes are the same
abbrev pub is_same_class : Class → Class → Bool
is_same_class c d = same_class_key (key_of c) (key_of d)

-- the list with the class at its end, where it is not there yet
abbrev pub with_class : List Class → Class → List Class
with_class classes class =
    if list_any (is_same_class class) classes then classes else classes ++ class ∷ []

-- each of the classes once, at its first occurrence
abbrev pub each_once : List Class → List Class
each_once classes = fold with_class [] classes

-- the list has the classes of some of the policies: each once, in the order in which they first
-- occur in the policies' lists, one after another
pub record AreAllClasses (net : Network) (policies some : List Policy)
    (classes : List Class) : Type 0 where
  pub lists : List (List Class)
  pub are : AllZip (AreClasses net policies) some lists
  pub once : classes ≡ each_once (flat_map (λ l. l) lists)

-- some of the policies have this many different classes, as a fault gives it
pub record HaveClasses (net : Network) (policies some : List Policy) (count : ℕ) : Type 0 where
  pub classes : List Class
  pub are : AreAllClasses net policies some classes
  pub counted : told (length classes) ≡ count

-- up to the first policy with which there are more than CLASS_LIMIT different classes there are
-- this many
pub record FirstHaveMore (net : Network) (policies : List Policy) (count : ℕ) : Type 0 where
  pub place : ℕ
  pub within : place < length policies
  pub few : ℕ
  pub before : HaveClasses net policies (take place policies) few
  pub before_few : few ≤ CLASS_LIMIT
  pub with_it : HaveClasses net policies (take (place + 1) policies) count

-- whether the class does not lie in the policy
abbrev pub lies_off : Policy → Class → Bool
lies_off policy class =
    not (inside class.from policy.from && inside class.to policy.to &&
    is_service_inside class.service policy.service)

-- the set has the numbers of the classes found, in the same order
abbrev pub IsIndexed : Found → Type 0
IsIndexed found = found.keys.keys ≡ map key_of found.classes.items
