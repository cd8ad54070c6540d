use Rattle.std.proofs.Common.{List, ◌++◌, map, ap, ◌∙◌}
use Rattle.std.specs.List.{flat_map}
use Rattle.arc_base.specs.declared.prefix.Prefix.{Prefix}
use Rattle.net_model.specs.declared.lists.PacketEntry.{PacketEntry}
use Rattle.net_model.specs.declared.lists.PacketList.{PacketList}
use Rattle.net_model.specs.declared.policies.Policy.{Policy}
use Rattle.net_model.specs.declared.services.Service.{Service}
use Rattle.traffic_classes.specs.Classes.{marks_of}
use Rattle.arc_base.proofs.Items.{pieces_more, pieces_all}
use Rattle.traffic_classes.proofs.gathering.Gathered.of.Goals as goal

abbrev froms : PacketList → List Prefix
froms l = map (λ (e : PacketEntry). e.from) l.entries

abbrev tos : PacketList → List Prefix
tos l = map (λ (e : PacketEntry). e.to) l.entries

abbrev of_services : PacketList → List Service
of_services l = flat_map (λ (e : PacketEntry). marks_of e.service) l.entries

pub loop-list-preserved : goal.loop-list-preserved
loop-list-preserved c = record {
  sources = pieces_more froms c.loop-list.marks.sources.items c.add_entries.new.self.sources.items c.slice-list-items.result.now c.loop-list.list-index c.list-item.result
      c.loop-list-test.true c.list-item.is c.loop-list.invariant.sources
      (c.in_ok-add_entries.ensures.sources ∙ ap (λ (es : List PacketEntry). c.loop-list.marks.sources.items ++ map (λ (e : PacketEntry). e.from) es) c.slice.ensures.items);
  destinations = pieces_more tos c.loop-list.marks.destinations.items c.add_entries.new.self.destinations.items c.slice-list-items.result.now c.loop-list.list-index c.list-item.result
      c.loop-list-test.true c.list-item.is c.loop-list.invariant.destinations
      (c.in_ok-add_entries.ensures.destinations ∙ ap (λ (es : List PacketEntry). c.loop-list.marks.destinations.items ++ map (λ (e : PacketEntry). e.to) es) c.slice.ensures.items);
  services = pieces_more of_services c.loop-list.marks.services.items c.add_entries.new.self.services.items c.slice-list-items.result.now c.loop-list.list-index c.list-item.result
      c.loop-list-test.true c.list-item.is c.loop-list.invariant.services
      (c.in_ok-add_entries.ensures.services ∙ ap (λ (es : List PacketEntry). c.loop-list.marks.services.items ++ flat_map (λ (e : PacketEntry). marks_of e.service) es) c.slice.ensures.items);
}

pub returns-clause-sources : goal.returns-clause-sources
returns-clause-sources c =
    c.in_ok-add_policies.ensures.sources
    ∙ ap (λ (ps : List Policy). c.loop-list.marks.sources.items ++ map (λ (p : Policy). p.from) ps) c.slice-2.ensures.items
    ∙ ap (λ (xs : List Prefix). xs ++ map (λ (p : Policy). p.from) c.args.policies.now)
    (pieces_all froms c.loop-list.marks.sources.items c.slice-list-items.result.now c.loop-list.list-index c.loop-list-test.false c.loop-list.invariant.sources
    ∙ ap (flat_map froms) c.slice-list-items.ensures.items)

pub returns-clause-destinations : goal.returns-clause-destinations
returns-clause-destinations c =
    c.in_ok-add_policies.ensures.destinations
    ∙ ap (λ (ps : List Policy). c.loop-list.marks.destinations.items ++ map (λ (p : Policy). p.to) ps) c.slice-2.ensures.items
    ∙ ap (λ (xs : List Prefix). xs ++ map (λ (p : Policy). p.to) c.args.policies.now)
    (pieces_all tos c.loop-list.marks.destinations.items c.slice-list-items.result.now c.loop-list.list-index c.loop-list-test.false c.loop-list.invariant.destinations
    ∙ ap (flat_map tos) c.slice-list-items.ensures.items)

pub returns-clause-services : goal.returns-clause-services
returns-clause-services c =
    c.in_ok-add_policies.ensures.services
    ∙ ap (λ (ps : List Policy). c.loop-list.marks.services.items ++ flat_map (λ (p : Policy). marks_of p.service) ps) c.slice-2.ensures.items
    ∙ ap (λ (xs : List Service). xs ++ flat_map (λ (p : Policy). marks_of p.service) c.args.policies.now)
    (pieces_all of_services c.loop-list.marks.services.items c.slice-list-items.result.now c.loop-list.list-index c.loop-list-test.false c.loop-list.invariant.services
    ∙ ap (flat_map of_services) c.slice-list-items.ensures.items)
