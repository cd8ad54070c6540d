-- The edits of a network for a document are fitting: new lists are made where none is bound, and the sources of classes lie in host networks.
use Rattle.std.proofs.Common.{Bool, Option, Some, None, List, sym, ◌∙◌, ap}
use Rattle.std.specs.Prelude.{All, Contains, IsSomeAnd}
use Rattle.std.proofs.lemmas.List.Elements.{All-contains}
use Rattle.std.proofs.lemmas.Option.{same_Some}
use Rattle.arc_base.specs.Addresses.{IsInside}
use Rattle.arc_base.specs.declared.place.Face.{Face}
use Rattle.arc_base.specs.declared.prefix.Prefix.{Prefix}
use Rattle.arc_base.proofs.Items.{from_filter}
use Rattle.net_model.specs.declared.policies.Class.{Class}
use Rattle.net_model.specs.declared.policies.Document.{Document}
use Rattle.net_model.specs.declared.policies.Policy.{Policy}
use Rattle.net_model.specs.declared.rows.FaceRow.{FaceRow}
use Rattle.net_model.specs.declared.rows.SessionRow.{SessionRow}
use Rattle.net_model.specs.declared.rows.Network.{Network}
use Rattle.net_model.specs.Forwarding.{HasHost, HasEnds}
use Rattle.net_model.specs.Packets.{LiesIn, subject}
use Rattle.net_model.specs.Validity.{IsValid}
use Rattle.traffic_classes.specs.AllClasses.{AreAllClasses}
use Rattle.traffic_classes.proofs.MakingUp.{classes_make_up}
use Rattle.traffic_classes.proofs.Unions.{tell_apart}
use Rattle.edit_list.specs.declared.edit_kinds.Edit.{Edit}
use Rattle.edit_list.specs.declared.edit_kinds.Edit.TheVariants as edits
use Rattle.edit_list.specs.EditLists.{writable_classes, AreEdits}
use Rattle.edit_list.specs.Writable.{is_writable}
use Rattle.edit_list.specs.Prices.{chosen_of}
use Rattle.edit_list.proofs.Apart.{one_session}
use Rattle.edit_list.proofs.EditsFrom.{IsFrom, edits_from}
use Rattle.network_edit_laws.proofs.Listed.{chosen_listed}
use Rattle.settings_edit_laws.specs.Premises.{IsFitting, AreFitting}

of_writable : (classes : List Class) (class : Class) → Contains (writable_classes classes) class → Contains classes class
of_writable classes class there = (from_filter (λ class. is_writable class.service) classes class there).0

module _ (net : Network) (valid : IsValid net) where
  module _ (doc : Document) (ends : All (λ policy. HasEnds net (subject policy)) doc.policies) where
    -- the source of a class lies in a host network
    class_host : (classes : List Class) → AreAllClasses net doc.policies doc.policies classes → (class : Class) → Contains classes class → HasHost net class.from
    class_host classes are class there =
        let k = ((tell_apart net doc.policies classes are).each class).0 there in
        let part : LiesIn class (subject k.policy) = All-contains (λ (c : Class). LiesIn c (subject k.policy)) k.classes class
        (classes_make_up net doc.policies k.policy k.classes k.are).parts k.there in
        let e = All-contains (λ (policy : Policy). HasEnds net (subject policy)) doc.policies k.policy ends k.one in
        (e.ends.source, record { is_face = e.are_ends.source; lies = deeper class.from k.policy.from part.0 e.ends.source.host e.are_ends.from })
      where
        deeper : (p q : Prefix) → IsInside p q → (o : Option Prefix) → IsSomeAnd o (IsInside q) → IsSomeAnd o (IsInside p)
        deeper p q inside None h = h
        deeper p q inside (Some host) h = λ a held. h a (inside a held)

    fits : (classes : List Class) → AreAllClasses net doc.policies doc.policies classes → (destinations : List Prefix) (e : Edit) → IsFrom net destinations classes e → IsFitting net e
    fits classes are destinations (edits.RouteNew face prefix) from = λ session in_net same.
        let one = one_session net valid session from.0.session in_net from.0.one (ap (λ (f : Face). f.0) (same ∙ sym from.0.at)) in
        ap (λ (s : SessionRow). s.bound) one ∙ from.0.free
    fits classes are destinations (edits.PacketList list class) from = class_host classes are class (of_writable classes class from.1)
    fits classes are destinations (edits.PacketNew face class) from = (
      class_host classes are class (of_writable classes class from.1),
      λ row at. ap (λ (r : FaceRow). r.bound_in) (same_Some row from.0.row (sym at ∙ from.0.at)) ∙ from.0.free,
    )
    fits classes are destinations other from = tt

    pub edits_fit : (list : List Edit) (flags : List Bool) → AreEdits net doc list → AreFitting net (chosen_of list flags)
    edits_fit list flags are e there = fits are.classes are.classes_are are.destinations e (edits_from net doc list are e (chosen_listed list flags e there))
