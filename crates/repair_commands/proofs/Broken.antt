-- A network of files that meets the document is mended by choosing no edits.
use Rattle.std.proofs.Common.{ℕ, false, List, [], ◌∷◌, sym, subst}
use Rattle.std.specs.Prelude.{All, AllPairs}
use Rattle.std.specs.List.{AllZip}
use Rattle.std.proofs.lemmas.List.{length-map}
use Rattle.std.proofs.lemmas.List.Elements.{All-cons, All-nil}
use Rattle.ios_config.specs.declared.settings.Config.{Config}
use Rattle.net_model.specs.declared.policies.Document.{Document}
use Rattle.net_model.specs.declared.rows.Network.{Network}
use Rattle.net_model.specs.declared.rows.Protocol.{Protocol}
use Rattle.net_model.specs.declared.rows.RouterRow.{RouterRow}
use Rattle.net_model.specs.Policies.{MeetsDocument}
use Rattle.net_model.specs.Validity.{IsValid}
use Rattle.net_build.specs.Networks.{IsNetworkWithin}
use Rattle.net_rules.specs.Rows.{IsRouterRow}
use Rattle.edit_list.specs.declared.edit_kinds.Edit.{Edit}
use Rattle.edit_list.specs.After.{IsAfter}
use Rattle.arc_base.specs.NameForms.{IsNameBefore}
use Rattle.edit_list.specs.Prices.{none_of}
use Rattle.network_edit_laws.proofs.NoEdits.{none_change}
use Rattle.arc_repair.specs.Repairs.{Mends}
use Rattle.arc_repair.proofs.Untouched.{none_chosen}

abbrev HasNamesInOrder : RouterRow → Type 0
HasNamesInOrder router = AllPairs IsNameBefore router.names

names_in_order : (protocol : Protocol) (configs : List Config) (rows : List RouterRow) → AllZip (IsRouterRow protocol) configs rows → All HasNamesInOrder rows
names_in_order protocol [] [] are = All-nil HasNamesInOrder
names_in_order protocol [] (row ∷ rows) are = absurd are
names_in_order protocol (config ∷ configs) [] are = absurd are
names_in_order protocol (config ∷ configs) (row ∷ rows) are = All-cons HasNamesInOrder row rows are.0.names.order (names_in_order protocol configs rows are.1)

pub met_by_none : (down : List ℕ) (most : ℕ) (doc : Document) (files : List (List ℕ)) (net : Network) (list : List Edit) → IsNetworkWithin down most doc files net → IsValid net → MeetsDocument net doc
    → Mends net doc list (none_of list)
met_by_none down most doc files net list is valid meets =
    let base = is.rows.base in
    let P : List Edit → Type 0 = λ chosen. IsAfter net chosen net in
    record {
      one_each = length-map list (λ (edit : Edit). false);
      after = net;
      is_after = subst P (sym (none_chosen list)) (none_change net valid (names_in_order net.protocol is.configs net.routers base.routers) base.packet_lists.order base.route_lists.order);
      meets = meets;
    }
