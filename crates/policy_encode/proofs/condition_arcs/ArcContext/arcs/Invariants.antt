use Rattle.std.proofs.Common.{◌≡◌, List, take}
use Rattle.std.specs.List.{flat_map}
use Rattle.edit_list.specs.declared.edit_kinds.Edit.{Edit}
use Rattle.arc_base.specs.Numbered.{placed}
use Rattle.policy_encode.specs.Questions.{link_arcs}
use Rattle.policy_encode.specs.Finding.{IsIndexOf}
use Rattle.policy_encode.proofs.condition_arcs.ArcContext.arcs.Given as goal

abbrev pub invariant-loop-place : goal.invariant-loop-place
invariant-loop-place l = (list : List Edit) → IsIndexOf list l.self.index.now →
    l.arcs ≡ flat_map (link_arcs l.self.net.now list l.self.to l.self.classes.now) (take l.place (placed l.self.net.now.links))
