-- Laws of what edits keep: the ends of classes, the host networks of prefixes, and the traffic
-- classes of the policies.
use Rattle.std.specs.Prelude.{◌↔◌, Bool, List, All}
use Rattle.arc_base.specs.declared.prefix.Prefix.{Prefix}
use Rattle.net_model.specs.declared.policies.Class.{Class}
use Rattle.net_model.specs.declared.policies.Document.{Document}
use Rattle.net_model.specs.declared.policies.Policy.{Policy}
use Rattle.net_model.specs.declared.rows.Network.{Network}
use Rattle.net_model.specs.Forwarding.{HasEnds}
use Rattle.net_model.specs.Witnesses.{IsUniformFor}
use Rattle.traffic_classes.specs.AllClasses.{AreAllClasses}
use Rattle.traffic_classes.specs.Classes.{AreClasses}
use Rattle.edit_list.specs.declared.edit_kinds.Edit.{Edit}
use Rattle.edit_list.specs.EditLists.{AreEdits, LiesInHost}
use Rattle.edit_list.specs.Prices.{chosen_of}
use Rattle.edit_list.specs.After.{IsAfter}

-- after any edits the same host networks hold a prefix
abbrev pub HostsStay : Type 0
HostsStay =
    (net after : Network) (chosen : List Edit) → IsAfter net chosen after →
    (prefix host : Prefix) → LiesInHost net prefix host ↔ LiesInHost after prefix host

-- and a class that goes from one host network to another still does
abbrev pub EndsStay : Type 0
EndsStay =
    (net after : Network) (chosen : List Edit) → IsAfter net chosen after →
    (class : Class) → HasEnds net class → HasEnds after class

-- after some of the edits for the document the policies have the same classes
abbrev pub ClassesStay : Type 0
ClassesStay =
    (net after : Network) (doc : Document) (list : List Edit) (flags : List Bool) →
    AreEdits net doc list → IsAfter net (chosen_of list flags) after →
    (policy : Policy) (classes : List Class) →
    AreClasses net doc.policies policy classes ↔ AreClasses after doc.policies policy classes

-- and the same classes in all
abbrev pub AllClassesStay : Type 0
AllClassesStay =
    (net after : Network) (doc : Document) (list : List Edit) (flags : List Bool) →
    AreEdits net doc list → IsAfter net (chosen_of list flags) after →
    (some : List Policy) (classes : List Class) →
    AreAllClasses net doc.policies some classes ↔ AreAllClasses after doc.policies some classes

-- so each packet list is uniform, after the edits too, on each class of the document
abbrev pub ListsStayUniform : Type 0
ListsStayUniform =
    (net after : Network) (doc : Document) (list : List Edit) (flags : List Bool) →
    AreEdits net doc list → IsAfter net (chosen_of list flags) after →
    (classes : List Class) → AreAllClasses net doc.policies doc.policies classes →
    All (IsUniformFor after) classes
