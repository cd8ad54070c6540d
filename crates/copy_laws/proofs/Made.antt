-- A copy whose lists are made of the routers' permits more packets as they are, or fewer.
use Rattle.std.proofs.Common.{◌≡◌, ℕ, true, Option, Some, None, List, ap, sym, ◌∙◌, subst, IsTrue}
use Rattle.std.specs.Prelude.{IsSomeAnd, map, slice_get}
use Rattle.std.specs.Option.{option_map}
use Rattle.std.proofs.lemmas.Option.{slice_get-map}
use Rattle.arc_base.specs.declared.place.ListId.{ListId}
use Rattle.net_model.specs.declared.lists.PacketList.{PacketList}
use Rattle.net_model.specs.declared.rows.Network.{Network}
use Rattle.net_model.specs.Lists.{permits}
use Rattle.net_model.specs.Forwarding.{ListPermits}
use Rattle.copy_laws.specs.Passing.{RealPacket}
use Rattle.copy_laws.specs.Entries.{CloseList, close_permits, plain, acting, acting_list, with_lists}
use Rattle.copy_laws.specs.Entries.{HasWider, HasNarrower, WiderListsPermitMore, NarrowerListsPermitFewer, WiderListsKeepBarred, NarrowerListsKeepReach}
use Rattle.copy_laws.proofs.Listless.{of_some}
use Rattle.copy_laws.proofs.Changed.{more_pass, fewer_pass, plain_is_model, acting_decides}
use Rattle.copy_laws.proofs.Passed.{more_really, fewer_really}

-- the packet list permits the packet
abbrev Says : RealPacket → PacketList → Type 0
Says x l = IsTrue (permits l.entries x.seen)

-- what stands at the place of a list
there : (x : RealPacket) (lists : List CloseList) (k : ℕ) (list : CloseList) → slice_get lists k ≡ Some list →
    slice_get (map (acting_list x) lists) k ≡ Some (acting_list x list)
there x lists k list at = slice_get-map (acting_list x) lists k ∙ ap (option_map (acting_list x)) at

-- the list at a place says what its entries say
says_it : (o : Option PacketList) (l : PacketList) (x : RealPacket) → o ≡ Some l → IsSomeAnd o (Says x) → IsTrue (permits l.entries x.seen)
says_it o l x at h = subst (λ (z : Option PacketList). IsSomeAnd z (Says x)) at h

wider : (net copy : Network) (lists : List CloseList) (x : RealPacket) (was now : Option ListId) → HasWider lists copy was now →
    ListPermits (with_lists net lists x) was x.seen → ListPermits copy now x.seen
wider net copy lists x was None has permitted = tt
wider net copy lists x None (Some id) has permitted = absurd has
wider net copy lists x (Some old) (Some id) has permitted =
    let here : IsTrue (permits (acting has.list.entries x) x.seen) =
    says_it (slice_get (map (acting_list x) lists) old.0) (acting_list x has.list) x (there x lists old.0 has.list has.list_is) permitted in
    let close : close_permits has.list.entries x ≡ true = acting_decides has.list.entries x ∙ here in
    let made : close_permits (map plain has.made.entries) x ≡ true = more_pass has.list.entries (map plain has.made.entries) has.changes x close in
    of_some (Says x) (slice_get copy.packet_lists id.0) has.made has.made_is (sym (plain_is_model has.made.entries x) ∙ made)

narrower : (net copy : Network) (lists : List CloseList) (x : RealPacket) (was now : Option ListId) → HasNarrower lists copy was now →
    ListPermits copy now x.seen → ListPermits (with_lists net lists x) was x.seen
narrower net copy lists x None now has permitted = tt
narrower net copy lists x (Some old) None has permitted = absurd has
narrower net copy lists x (Some old) (Some id) has permitted =
    let here : IsTrue (permits has.made.entries x.seen) = says_it (slice_get copy.packet_lists id.0) has.made x has.made_is permitted in
    let close : close_permits has.list.entries x ≡ true =
    fewer_pass has.list.entries (map plain has.made.entries) has.changes x (plain_is_model has.made.entries x ∙ here) in
    of_some (Says x) (slice_get (map (acting_list x) lists) old.0) (acting_list x has.list) (there x lists old.0 has.list has.list_is)
    (sym (acting_decides has.list.entries x) ∙ close)

pub wider_permit : WiderListsPermitMore
wider_permit net copy lists alike each x = (
  alike,
  record {
    inbound = λ place f g at_f at_g. wider net copy lists x f.list_in g.list_in (each place f g at_f at_g).0;
    outbound = λ place f g at_f at_g. wider net copy lists x f.list_out g.list_out (each place f g at_f at_g).1;
  },
)

pub narrower_permit : NarrowerListsPermitFewer
narrower_permit net copy lists alike each x = (
  sym alike,
  record {
    inbound = λ place g f at_g at_f. narrower net copy lists x f.list_in g.list_in (each place f g at_f at_g).0;
    outbound = λ place g f at_g at_f. narrower net copy lists x f.list_out g.list_out (each place f g at_f at_g).1;
  },
)

pub wider_keep : WiderListsKeepBarred
wider_keep net copy lists alike each = more_really (with_lists net lists) copy (wider_permit net copy lists alike each)

pub narrower_keep : NarrowerListsKeepReach
narrower_keep net copy lists alike each = fewer_really (with_lists net lists) copy (narrower_permit net copy lists alike each)
