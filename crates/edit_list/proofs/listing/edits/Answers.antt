use Rattle.std.proofs.Common.{◌≡◌, ℕ, ◌∙◌, ◌^◌, ◌++◌, ◌≤◌, List, length, map, ap, refl, arith}
use Rattle.std.specs.List.{flat_map}
use Rattle.std.proofs.lemmas.Nat.{mul-le}
use Rattle.net_model.specs.declared.policies.Class.{Class}
use Rattle.net_model.specs.declared.policies.Document.{Document}
use Rattle.net_model.specs.declared.rows.Network.{Network}
use Rattle.arc_base.specs.declared.prefix.Prefix.{Prefix}
use Rattle.traffic_classes.specs.AllClasses.{AreAllClasses}
use Rattle.traffic_classes.proofs.Unions.{have_one_list}
use Rattle.edit_list.specs.declared.edit_kinds.Edit.{Edit}
use Rattle.edit_list.specs.declared.sites.Site.{Site}
use Rattle.edit_list.specs.EditLists.{all_edits, link_edits, route_edit, packet_edit, writable_classes, DocumentHasFewClasses}
use Rattle.edit_list.specs.Sites.{route_sites}
use Rattle.edit_list.proofs.Counts.{counted_all, few_writable, have_hosts}
use Rattle.edit_list.proofs.listing.edits.Goals as goal

pub destinations-requires : goal.destinations-requires
destinations-requires c = record { hosts = have_hosts c.args.net.now c.args.doc.now.policies c.requires.ends }

pub overflow_mul-count : goal.overflow_mul-count
overflow_mul-count c =
    omega (
      arith,
      mul-le c.len-2.result c.len-3.result (2 ^ 33) 256
          (omega (arith, c.len-2.ensures, c.in_ok-routes.routes.ok.0, c.in_ok-routes.ensures.few))
          (omega (arith, c.len-3.ensures, c.in_ok-destinations.destinations.ok.0, c.in_ok-destinations.ensures.few, c.requires.few)),
    )

pub overflow_add-count : goal.overflow_add-count
overflow_add-count c =
    omega (
      arith,
      mul-le c.len-2.result c.len-3.result (2 ^ 33) 256 (omega (arith, c.len-2.ensures, c.in_ok-routes.routes.ok.0, c.in_ok-routes.ensures.few))
          (omega (arith, c.len-3.ensures, c.in_ok-destinations.destinations.ok.0, c.in_ok-destinations.ensures.few, c.requires.few)),
      c.len.ensures,
      c.in_ok-list.list.small,
    )

-- so many classes can be written
written : (classes slice writable : List Class) (len : ℕ) → len ≡ length writable → writable ≡ writable_classes slice → slice ≡ classes → len ≡ length (writable_classes classes)
written classes slice writable len counted are same = counted ∙ ap length are ∙ ap (λ (l : List Class). length (writable_classes l)) same

few_written : (classes slice writable : List Class) (len : ℕ) → len ≡ length writable → writable ≡ writable_classes slice → slice ≡ classes → length classes ≤ 4096 → len ≤ 4096
few_written classes slice writable len counted are same few = omega (arith, written classes slice writable len counted are same, few_writable classes, few)

pub overflow_mul-count-2 : goal.overflow_mul-count-2
overflow_mul-count-2 c =
    omega (
      arith,
      mul-le c.len-4.result c.len-5.result (2 ^ 33) 4096 (omega (arith, c.len-4.ensures, c.in_ok-packets.packets.ok.0, c.in_ok-packets.ensures.few))
          (few_written c.in_ok-classes.classes c.slice.result.now c.in_ok-writable.writable.items c.len-5.result
          (c.len-5.ensures ∙ c.in_ok-writable.writable.ok.0) c.in_ok-writable.ensures c.slice.ensures.items c.in_ok-classes.ensures.few),
    )

pub overflow_add-count-2 : goal.overflow_add-count-2
overflow_add-count-2 c =
    omega (
      arith,
      mul-le c.len-2.result c.len-3.result (2 ^ 33) 256 (omega (arith, c.len-2.ensures, c.in_ok-routes.routes.ok.0, c.in_ok-routes.ensures.few))
          (omega (arith, c.len-3.ensures, c.in_ok-destinations.destinations.ok.0, c.in_ok-destinations.ensures.few, c.requires.few)),
      mul-le c.len-4.result c.len-5.result (2 ^ 33) 4096 (omega (arith, c.len-4.ensures, c.in_ok-packets.packets.ok.0, c.in_ok-packets.ensures.few))
          (few_written c.in_ok-classes.classes c.slice.result.now c.in_ok-writable.writable.items c.len-5.result
          (c.len-5.ensures ∙ c.in_ok-writable.writable.ok.0) c.in_ok-writable.ensures c.slice.ensures.items c.in_ok-classes.ensures.few),
      c.len.ensures,
      c.in_ok-list.list.small,
    )

-- the classes are few, whoever lists them
few_of_one : (net : Network) (doc : Document) (classes : List Class) → AreAllClasses net doc.policies doc.policies classes → length classes ≤ 4096 → DocumentHasFewClasses net doc
few_of_one net doc classes are few = λ other others. omega (arith, ap length ((have_one_list net doc.policies doc.policies).1 other classes others are), few)

pub returns-then-count-gt-EDIT_LIMIT-clause-limit : goal.returns-then-count-gt-EDIT_LIMIT-clause-limit
returns-then-count-gt-EDIT_LIMIT-clause-limit c =
    let net : Network = c.args.net.now in
    let destinations : List Prefix = c.in_ok-destinations.destinations.items in
    let classes : List Class = c.in_ok-classes.classes in (
      few_of_one net c.args.doc.now classes c.in_ok-classes.ensures.classes c.in_ok-classes.ensures.few,
      record {
        list = all_edits net destinations classes;
        are = record { destinations = destinations; classes = classes; destinations_are = c.in_ok-destinations.ensures.are; classes_are = c.in_ok-classes.ensures.classes; all = refl };
        counted =
            counted_all net destinations classes c.len.result c.len-2.result c.len-3.result c.len-4.result c.len-5.result (c.len.ensures ∙ c.in_ok-list.list.ok.0 ∙ ap length c.in_ok-list.ensures)
            (c.len-2.ensures ∙ c.in_ok-routes.routes.ok.0 ∙ ap length c.in_ok-routes.ensures.sites) (c.len-3.ensures ∙ c.in_ok-destinations.destinations.ok.0)
            (c.len-4.ensures ∙ c.in_ok-packets.packets.ok.0 ∙ ap length c.in_ok-packets.ensures.sites)
            (written classes c.slice.result.now c.in_ok-writable.writable.items c.len-5.result (c.len-5.ensures ∙ c.in_ok-writable.writable.ok.0) c.in_ok-writable.ensures c.slice.ensures.items);
      },
      c.if-count-gt-EDIT_LIMIT.true,
    )

is_all : (c : goal.After-drop-classes-inside-2) → c.in_ok-of.field-0 ≡ all_edits c.args.net.now c.in_ok-destinations.destinations.items c.in_ok-classes.classes
is_all c =
    let net : Network = c.args.net.now in
    let routes : List Prefix → List Site → List Edit = λ prefixes sites. flat_map (λ (site : Site). map (route_edit site) prefixes) sites in
    let packets : List Class → List Site → List Edit = λ classes sites. flat_map (λ (site : Site). map (packet_edit site) classes) sites in
    let after_routes : c.add_route_edits.new.list.items ≡ flat_map (link_edits net) net.links ++ routes c.in_ok-destinations.destinations.items (route_sites net) =
    c.in_ok-add_route_edits.ensures ∙ ap (λ l. l ++ routes c.deref-2.result.now c.deref.result.now) c.in_ok-list.ensures ∙
    ap (λ ps. flat_map (link_edits net) net.links ++ routes ps c.deref.result.now) c.deref-2.ensures.value ∙
    ap (λ ss. flat_map (link_edits net) net.links ++ routes c.in_ok-destinations.destinations.items ss) (c.deref.ensures.value ∙ c.in_ok-routes.ensures.sites) in
    let front : List Edit = flat_map (link_edits net) net.links ++ routes c.in_ok-destinations.destinations.items (route_sites net) in
    c.in_ok-of.ensures.ok ∙ c.in_ok-add_packet_edits.ensures ∙ ap (λ l. l ++ packets c.deref-4.result.now c.deref-3.result.now) after_routes ∙
    ap (λ cs. front ++ packets cs c.deref-3.result.now) (c.deref-4.ensures.value ∙ c.in_ok-writable.ensures ∙ ap writable_classes c.slice.ensures.items) ∙
    ap (λ ss. front ++ packets (writable_classes c.in_ok-classes.classes) ss) (c.deref-3.ensures.value ∙ c.in_ok-packets.ensures.sites)

pub returns-clause-edits : goal.returns-clause-edits
returns-clause-edits c = record {
  destinations = c.in_ok-destinations.destinations.items;
  classes = c.in_ok-classes.classes;
  destinations_are = c.in_ok-destinations.ensures.are;
  classes_are = c.in_ok-classes.ensures.classes;
  all = is_all c;
}

pub returns-clause-few : goal.returns-clause-few
returns-clause-few c =
    omega (
      arith,
      ap length (is_all c),
      counted_all c.args.net.now c.in_ok-destinations.destinations.items c.in_ok-classes.classes c.len.result c.len-2.result c.len-3.result c.len-4.result c.len-5.result
          (c.len.ensures ∙ c.in_ok-list.list.ok.0 ∙ ap length c.in_ok-list.ensures)
          (c.len-2.ensures ∙ c.in_ok-routes.routes.ok.0 ∙ ap length c.in_ok-routes.ensures.sites) (c.len-3.ensures ∙ c.in_ok-destinations.destinations.ok.0)
          (c.len-4.ensures ∙ c.in_ok-packets.packets.ok.0 ∙ ap length c.in_ok-packets.ensures.sites)
          (written c.in_ok-classes.classes c.slice.result.now c.in_ok-writable.writable.items c.len-5.result
          (c.len-5.ensures ∙ c.in_ok-writable.writable.ok.0) c.in_ok-writable.ensures c.slice.ensures.items),
      c.if-count-gt-EDIT_LIMIT.false,
    )

pub returns-clause-few_classes : goal.returns-clause-few_classes
returns-clause-few_classes c = few_of_one c.args.net.now c.args.doc.now c.in_ok-classes.classes c.in_ok-classes.ensures.classes c.in_ok-classes.ensures.few
