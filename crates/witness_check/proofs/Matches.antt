-- Which entries of a list count for the packets of a class.
use Rattle.std.proofs.Common.{◌≡◌, ℕ, zero, suc, ◌+◌, ◌<◌, ◌≤◌, inl, inr, Bool, true, false, Option, Some, None, List, [], ◌∷◌, length, get_or, drop, refl, sym, ◌∙◌, ap, arith}
use mathlib.Core.Bool.{beq, not}
use Rattle.std.specs.Prelude.{◌↔◌, ◌&&◌, IsTrue, cond, position, nat_lt, find}
use Rattle.std.specs.List.{position_or_len}
use Rattle.std.specs.Option.{option_map_or}
use Rattle.std.proofs.lemmas.Bool.{false≢true, and_parts, and_from, cases_Bool, ltb-false, false_from_ne_true}
use Rattle.std.proofs.lemmas.List.{at_drop_more, drop_all}
use Rattle.std.proofs.lemmas.List.Sums.{fails_before_first}
use Rattle.std.proofs.lemmas.List.Quantifiers.{position-Some}
use Rattle.std.proofs.lemmas.Option.{none-some}
use Rattle.arc_base.specs.Addresses.{holds}
use Rattle.net_model.specs.declared.lists.Packet.{Packet}
use Rattle.net_model.specs.declared.lists.PacketEntry.{PacketEntry}
use Rattle.net_model.specs.declared.policies.Class.{Class}
use Rattle.net_model.specs.Lists.{matches, permits}
use Rattle.net_model.specs.Packets.{IsOfClass, LiesIn, first_packet}
use Rattle.net_model.specs.Services.{serves}
use Rattle.witness_check.specs.Boxes.{classes_meet, entry_class, splits, MakeUp}
use Rattle.witness_check.specs.Answers.{EachGets, NoneGets}
use Rattle.net_model.proofs.Packets.{first_is_of}
use Rattle.witness_check.proofs.Nesting.{classes_apart, class_within}

pub hit : (p : Packet) (e : PacketEntry) (es : List PacketEntry) → matches p e ≡ true → permits (e ∷ es) p ≡ e.permit
hit p e es h = ap (λ (b : Bool). option_map_or (λ (x : PacketEntry). x.permit) (cond b (Some e) (find (matches p) es)) false) h

pub miss : (p : Packet) (e : PacketEntry) (es : List PacketEntry) → matches p e ≡ false → permits (e ∷ es) p ≡ permits es p
miss p e es h = ap (λ (b : Bool). option_map_or (λ (x : PacketEntry). x.permit) (cond b (Some e) (find (matches p) es)) false) h

match_parts : (p : Packet) (e : PacketEntry) → matches p e ≡ true → IsOfClass (entry_class e) p
match_parts p e h =
    let outer = and_parts (holds e.from p.from && holds e.to p.to) (serves e.service p.service) h in
    let inner = and_parts (holds e.from p.from) (holds e.to p.to) outer.0 in
    (inner.0, inner.1, outer.1)

match_from : (p : Packet) (e : PacketEntry) → IsOfClass (entry_class e) p → matches p e ≡ true
match_from p e at =
    and_from (holds e.from p.from && holds e.to p.to) (serves e.service p.service) (and_from (holds e.from p.from) (holds e.to p.to) at.0 at.1) at.2

-- an entry that shares no packet with the class matches none of it
pub apart_misses : (class : Class) (e : PacketEntry) → classes_meet class (entry_class e) ≡ false → (p : Packet) → IsOfClass class p → matches p e ≡ false
apart_misses class e off p at =
    false_from_ne_true (matches p e) (λ h. classes_apart class (entry_class e) off p at (match_parts p e h))

-- an entry in which the class lies matches all of it
pub whole_hits : (class : Class) (e : PacketEntry) → classes_meet class (entry_class e) ≡ true → splits class (entry_class e) ≡ false → (p : Packet) → IsOfClass class p → matches p e ≡ true
whole_hits class e meet short p at =
    let inside : LiesIn class (entry_class e) = class_within class (entry_class e) meet short in
    match_from p e (inside.0 p.from at.0, inside.1 p.to at.1, inside.2 p.service at.2)

-- entries that match nothing can be left out at the front
skip : (p : Packet) (xs : List PacketEntry) (i : ℕ) → i ≤ length xs → ((k : ℕ) (d : PacketEntry) → k < i → matches p (get_or xs k d) ≡ false) → permits xs p ≡ permits (drop i xs) p
skip p xs zero few off = refl
skip p [] (suc i) few off = refl
skip p (x ∷ xs) (suc i) few off = miss p x xs (off 0 x (omega arith)) ∙ skip p xs i (omega arith) (λ k d l. off (suc k) d (omega arith))

some_none : (k : ℕ) → ◌≡◌ {A = Option ℕ} (Some k) None → ⊥
some_none k e = none-some k (sym e)

default_entry : Class → PacketEntry
default_entry class = record { permit = false; from = class.from; to = class.to; service = class.service }

abbrev Met : Class → PacketEntry → Bool
Met class e = classes_meet class (entry_class e)

-- where no entry shares a packet with the class, the list denies it
pub none_met : (class : Class) (xs : List PacketEntry) → position (λ e. classes_meet class (entry_class e)) xs ≡ None → EachGets xs false class
none_met class xs none p at =
    let past : length xs ≤ position_or_len (Met class) xs =
    elim (cases_Bool (nat_lt (position_or_len (Met class) xs) (length xs))) [
      | inl t ↦ absurd (some_none (position_or_len (Met class) xs) (sym (ap (λ (b : Bool). cond b (Some (position_or_len (Met class) xs)) None) t) ∙ none))
      | inr f ↦ ltb-false _ _ f
    ] in
    skip p xs (length xs) (omega arith) (λ k d l. apart_misses class (get_or xs k d) (fails_before_first (Met class) xs k d (omega (arith, past))) p at)
    ∙ ap (λ (ys : List PacketEntry). permits ys p) (drop_all (length xs) xs (omega arith))

-- the first entry that shares a packet with the class
pub record IsFirstMet (class : Class) (xs : List PacketEntry) (place : ℕ) : Type 0 where
  pub inside : place < length xs
  pub meets : (d : PacketEntry) → classes_meet class (entry_class (get_or xs place d)) ≡ true
  pub rest : (p : Packet) → IsOfClass class p → permits xs p ≡ permits (drop place xs) p

pub first_met_is : (class : Class) (xs : List PacketEntry) (place : ℕ) → position (λ e. classes_meet class (entry_class e)) xs ≡ Some place → IsFirstMet class xs place
first_met_is class xs place found =
    let within : place < length xs = (position-Some (Met class) xs place (default_entry class) found).0 in
    record {
      inside = within;
      meets = λ d. (position-Some (Met class) xs place d found).1;
      rest = λ p at. skip p xs place (omega arith) (λ k d l. apart_misses class (get_or xs k d) ((position-Some (Met class) xs place d found).2 k l) p at);
    }

-- what is left of the list where an entry was read
pub at_item : (xs : List PacketEntry) (i : ℕ) (e : PacketEntry) → i < length xs → e ≡ get_or xs i e → (p : Packet) → permits (drop i xs) p ≡ permits (e ∷ drop (i + 1) xs) p
at_item xs i e within read p =
    at_drop_more (λ (ys : List PacketEntry). permits ys p) xs i e within ∙ ap (λ (x : PacketEntry). permits (x ∷ drop (i + 1) xs) p) (sym read)

-- an entry that shares no packet with the class is passed by
pub passed_by : (class : Class) (xs : List PacketEntry) (i : ℕ) (e : PacketEntry) → i < length xs → e ≡ get_or xs i e → classes_meet class (entry_class e) ≡ false →
    (p : Packet) → IsOfClass class p → permits (drop i xs) p ≡ permits (drop (i + 1) xs) p
passed_by class xs i e within read off p at = at_item xs i e within read p ∙ miss p e (drop (i + 1) xs) (apart_misses class e off p at)

-- an entry in which the class lies decides
pub decided : (class : Class) (xs : List PacketEntry) (i : ℕ) (e : PacketEntry) → i < length xs → e ≡ get_or xs i e → classes_meet class (entry_class e) ≡ true →
    splits class (entry_class e) ≡ false → (p : Packet) → IsOfClass class p → permits (drop i xs) p ≡ e.permit
decided class xs i e within read meet short p at = at_item xs i e within read p ∙ hit p e (drop (i + 1) xs) (whole_hits class e meet short p at)

pub same_answer : (a b : Bool) → beq a b ≡ true → a ≡ b
same_answer true true h = refl
same_answer true false h = absurd (false≢true h)
same_answer false true h = absurd (false≢true h)
same_answer false false h = refl

pub other_answer : (a b : Bool) → beq a b ≡ false → a ≡ b → ⊥
other_answer true true h e = false≢true (sym h)
other_answer true false h e = false≢true (sym e)
other_answer false true h e = false≢true e
other_answer false false h e = false≢true (sym h)

-- the first entry that shares a packet with the class, where the class lies in it, decides
pub first_decides : (class : Class) (xs : List PacketEntry) (place : ℕ) (e : PacketEntry) → position (λ e. classes_meet class (entry_class e)) xs ≡ Some place →
    e ≡ get_or xs place e → splits class (entry_class e) ≡ false → (p : Packet) → IsOfClass class p → permits xs p ≡ e.permit
first_decides class xs place e found read short p at =
    let first : IsFirstMet class xs place = first_met_is class xs place found in
    first.rest p at ∙ decided class xs place e first.inside read (ap (λ (x : PacketEntry). classes_meet class (entry_class x)) read ∙ first.meets e) short p at

-- a class has a packet, so it cannot be that each gets the answer and none does
pub each_not_none : (xs : List PacketEntry) (answer : Bool) (class : Class) → EachGets xs answer class → NoneGets xs answer class → ⊥
each_not_none xs answer class each none = none (first_packet class) (first_is_of class) (each (first_packet class) (first_is_of class))

-- what was asked of the two halves of a class, one after the other, is answered for the whole
module _ (class c d : Class) (parts : MakeUp class c d) (P Q : Packet → Type 0) (there : (p : Packet) → IsOfClass class p → P p → Q p)
    (back : (p : Packet) → IsOfClass class p → Q p → P p) where
  pub halves_then : (r s : Bool) → r ≡ true → (IsTrue r ↔ ((p : Packet) → IsOfClass c p → Q p)) → (IsTrue s ↔ ((p : Packet) → IsOfClass d p → Q p)) →
      IsTrue s ↔ ((p : Packet) → IsOfClass class p → P p)
  halves_then r s is in_c in_d = (
    λ h p at. elim (parts.0 p at) [ inl x ↦ back p at (in_c.0 is p x) | inr x ↦ back p at (in_d.0 h p x) ],
    λ all. in_d.1 (λ p at. there p (parts.2 p at) (all p (parts.2 p at))),
  )

  pub halves_else : (r : Bool) → r ≡ false → (IsTrue r ↔ ((p : Packet) → IsOfClass c p → Q p)) → IsTrue r ↔ ((p : Packet) → IsOfClass class p → P p)
  halves_else r off in_c = (λ h. absurd (false≢true (sym off ∙ h)), λ all. in_c.1 (λ p at. there p (parts.1 p at) (all p (parts.1 p at))))

pub not_both : (x a : Bool) → x ≡ a → x ≡ not a → ⊥
not_both true true e h = false≢true (sym h)
not_both true false e h = false≢true (sym e)
not_both false true e h = false≢true e
not_both false false e h = false≢true h
