-- The test of two edits decides whether they are the same.
use Rattle.std.proofs.Common.{◌≡◌, ℕ, ◌&&◌, Bool, true, false, nat_eq, refl, sym, ◌∙◌}
use Rattle.std.proofs.lemmas.Bool.{and_parts, eqb-true, eq-eqb}
use Rattle.arc_base.specs.declared.prefix.Prefix.{Prefix}
use Rattle.arc_base.proofs.SamePrefix.{same_prefix}
use Rattle.traffic_classes.specs.AllClasses.{Key as EntryKey, same_class_key as same_entry}
use Rattle.traffic_classes.proofs.Sameness.{is_same-Decides}
use Rattle.edit_list.specs.declared.edit_kinds.Edit.{Edit}
use Rattle.edit_list.specs.declared.edit_kinds.Edit.TheVariants.{Session, RouteList, RouteNew, PacketList, PacketNew}
use Rattle.policy_encode.specs.Turning.{NumbersOfEdit, key_of, same_edit_key, is_same_edit}

-- the numbers of an edit's entry, as those of a class stand
abbrev entry_of : NumbersOfEdit → EntryKey
entry_of k = (k.2, k.3, k.4, k.5, k.6, k.7)

record Parts (k l : NumbersOfEdit) : Type 0 where
  kind : k.0 ≡ l.0
  place : k.1 ≡ l.1
  entry : same_entry (entry_of k) (entry_of l) ≡ true

grouped : (x a b c d e f : Bool) → ((((((x && a) && b) && c) && d) && e) && f) ≡ (x && (((((a && b) && c) && d) && e) && f))
grouped true a b c d e f = refl
grouped false a b c d e f = refl

parts_of : (k l : NumbersOfEdit) → same_edit_key k l ≡ true → Parts k l
parts_of k l t =
    let first = nat_eq k.0 l.0 && nat_eq k.1 l.1 in
    let two = and_parts first (same_entry (entry_of k) (entry_of l))
    (sym (grouped first (nat_eq k.2 l.2) (nat_eq k.3 l.3) (nat_eq k.4 l.4) (nat_eq k.5 l.5) (nat_eq k.6 l.6) (nat_eq k.7 l.7)) ∙ t) in
    let front = and_parts (nat_eq k.0 l.0) (nat_eq k.1 l.1) two.0 in
    record { kind = eqb-true k.0 l.0 front.0; place = eqb-true k.1 l.1 front.1; entry = two.1 }

same_itself : (k : NumbersOfEdit) → same_edit_key k k ≡ true
same_itself k =
    let q : (n : ℕ) → nat_eq n n ≡ true = λ n. eq-eqb n n refl in
    rw (q k.0) (rw (q k.1) (rw (q k.2) (rw (q k.3) (rw (q k.4) (rw (q k.5) (rw (q k.6) (q k.7)))))))

pub is_same_itself : (e : Edit) → is_same_edit e e ≡ true
is_same_itself e = same_itself (key_of e)

-- an entry for a prefix ends in numbers that are always the same
front_true : (b : Bool) → ((((b && true) && true) && true) && true) ≡ true → b ≡ true
front_true true t = refl
front_true false t = t

by_prefix : (u v : Prefix) → ((((((nat_eq u.addr v.addr && nat_eq u.len v.len) && true) && true) && true) && true) ≡ true) → u ≡ v
by_prefix u v t =
    let h = and_parts (nat_eq u.addr v.addr) (nat_eq u.len v.len) (front_true (nat_eq u.addr v.addr && nat_eq u.len v.len) t) in
    same_prefix u v (eqb-true u.addr v.addr h.0) (eqb-true u.len v.len h.1)

by_parts : (e f : Edit) → Parts (key_of e) (key_of f) → e ≡ f
by_parts (Session x) (Session y) p = let q = p.place in λ i. Session (record { 0 = q i })
by_parts (RouteList x u) (RouteList y v) p = let q = p.place in let r = by_prefix u v p.entry in λ i. RouteList (record { 0 = q i }) (r i)
by_parts (RouteNew x u) (RouteNew y v) p = let q = p.place in let r = by_prefix u v p.entry in λ i. RouteNew (record { 0 = q i }) (r i)
by_parts (PacketList x u) (PacketList y v) p = let q = p.place in let r = (is_same-Decides u v).0 p.entry in λ i. PacketList (record { 0 = q i }) (r i)
by_parts (PacketNew x u) (PacketNew y v) p = let q = p.place in let r = (is_same-Decides u v).0 p.entry in λ i. PacketNew (record { 0 = q i }) (r i)
by_parts _ _ p = absurd (cc p.kind)

pub is_same_true : (e f : Edit) → is_same_edit e f ≡ true → e ≡ f
is_same_true e f t = by_parts e f (parts_of (key_of e) (key_of f) t)
