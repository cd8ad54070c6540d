-- Laws of leaves and classes, in the words of prefixes and packets.
use Rattle.std.specs.Prelude.{◌≡◌, ◌≤◌, ◌⊎◌, List, Contains, length}
use Rattle.arc_base.specs.declared.prefix.Prefix.{Prefix}
use Rattle.net_model.specs.declared.policies.Class.{Class}
use Rattle.net_model.specs.declared.policies.Policy.{Policy}
use Rattle.net_model.specs.declared.rows.Network.{Network}
use Rattle.net_model.specs.Packets.{ShareNoPacket, subject}
use Rattle.traffic_classes.specs.Leaves.{AreLeaves}
use Rattle.traffic_classes.specs.Classes.{AreClasses}
use Rattle.traffic_classes.specs.AllClasses.{AreAllClasses}
use Rattle.traffic_classes.specs.Parts.{MakeUp, TellApart}

-- a prefix has one list of leaves
abbrev pub HasOneListOfLeaves : Type 0
HasOneListOfLeaves =
    (marks : List Prefix) (whole : Prefix) →
    ((leaves : List Prefix) × AreLeaves marks whole leaves) ×
    ((xs ys : List Prefix) → AreLeaves marks whole xs → AreLeaves marks whole ys → xs ≡ ys)

-- a policy has one list of classes
abbrev pub HasOneListOfClasses : Type 0
HasOneListOfClasses =
    (net : Network) (policies : List Policy) (policy : Policy) →
    ((classes : List Class) × AreClasses net policies policy classes) ×
    ((xs ys : List Class) → AreClasses net policies policy xs →
    AreClasses net policies policy ys → xs ≡ ys)

-- the classes of one of the policies make up the policy's packets
abbrev pub ClassesMakeUp : Type 0
ClassesMakeUp = (net : Network) (policies : List Policy) (policy : Policy) (classes : List Class) →
    AreClasses net policies policy classes → MakeUp net (subject policy) classes

-- two classes of two of the policies are equal or disjoint
abbrev pub ClassesAreEqualOrDisjoint : Type 0
ClassesAreEqualOrDisjoint =
    (net : Network) (policies : List Policy) (policy other : Policy) (xs ys : List Class) →
    Contains policies policy →
    Contains policies other → AreClasses net policies policy xs → AreClasses net policies other ys →
    (c d : Class) → Contains xs c → Contains ys d → (c ≡ d) ⊎ ShareNoPacket c d

-- policies have one list of all their classes
abbrev pub HaveOneListOfClasses : Type 0
HaveOneListOfClasses =
    (net : Network) (policies some : List Policy) →
    ((classes : List Class) × AreAllClasses net policies some classes) ×
    ((xs ys : List Class) → AreAllClasses net policies some xs →
    AreAllClasses net policies some ys → xs ≡ ys)

-- the classes of all policies tell the policies' packets apart
abbrev pub AllClassesTellApart : Type 0
AllClassesTellApart = (net : Network) (policies : List Policy) (classes : List Class) →
    AreAllClasses net policies policies classes → TellApart net policies classes

-- one of the policies has no more classes than all of them together
abbrev pub EachHasNoMoreClasses : Type 0
EachHasNoMoreClasses =
    (net : Network) (policies : List Policy) (policy : Policy) (xs ys : List Class) →
    Contains policies policy → AreClasses net policies policy xs →
    AreAllClasses net policies policies ys → length xs ≤ length ys
