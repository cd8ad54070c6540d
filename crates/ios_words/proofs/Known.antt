-- What is known of the values that a row's words give.
use Rattle.std.proofs.Common.{◌≡◌, ℕ, ◌+◌, ◌-◌, ◌^◌, ◌≤◌, ◌⊎◌, inl, inr, max, Bool, true, false, cond, ◌&&◌, ◌||◌, ◌==◌, List}
use Rattle.std.proofs.Common.{[], ◌∷◌, Option, Some, None, Result, Ok, Err, refl, sym, ap, subst, true≢false, IsTrue, not, codes, nat_le, ◌<◌, arith}
use Rattle.std.proofs.lemmas.Bool.{and_parts, leb-true}
use Rattle.std.proofs.lemmas.List.Quantifiers.{position-Some}
use Rattle.std.specs.Int.{w32, from_be_bytes}
use Rattle.std.specs.Str.{bytes_eq}
use Rattle.arc_base.specs.Cuts.{cut_at}
use Rattle.arc_base.specs.PrefixText.{number_of, address_of}
use Rattle.arc_base.proofs.NumberTexts.{number_of-some}
use Rattle.arc_base.proofs.AddressTexts.{address_of-some}
use Rattle.ios_words.specs.declared.kinds.Flaw.{Flaw}
use Rattle.ios_words.specs.declared.kinds.Flaw.TheVariants.{Amiss}
use Rattle.ios_words.specs.declared.kinds.WordFault.{WordFault}
use Rattle.ios_words.specs.declared.rows.Form.{Form}
use Rattle.ios_words.specs.declared.rows.Form.TheVariants.{Name, FaceName, Number, Address, Host, Network, Mask, Wildcard, Area, ListNumber, Order, Route, AtLeast, AtMost, Port, FirstPort, LastPort}
use Rattle.ios_words.specs.declared.rows.Form.TheVariants as forms
use Rattle.ios_words.specs.Forms.{IsFrom, IsStandard, IsExtended, IsListNumber, AreLengths, IsOrder}
use Rattle.ios_words.specs.Names.{is_face_name}
use Rattle.arc_base.specs.NameForms.{is_name}
use Rattle.ios_words.specs.Prefixes.{holding, whole}
use Rattle.ios_words.specs.Numbers.{is_from, ranged, number_in, length_from, mask_of_address, mask_length, mask_ones, masks, wildcard_length, area_of, is_standard, is_extended, list_kind}
use Rattle.std.specs.Option.{option_or}
use Rattle.ios_words.specs.Readings.{State, begins, begins_entry, after_word, next_word, place, this_word, permits, verdict, passed, then_do, stands_alone}
use Rattle.ios_words.specs.Readings.{alone, any, width, side, as_source, ports, step, read_parts, finish_words, finish, start, read}
use Rattle.ios_words.specs.Rows.{Piece, Word, Verdict, Place, Bracket, Flag, EntryNumber, Protocol, Source, Destination, Ports, Anything, Rule}
use Rattle.ios_words.specs.ServiceRanges.{services_of}
use Rattle.ios_words.specs.Services.{protocol, port, has_ports}
use Rattle.ios_words.specs.Values.{Values, with_value, with_result, port_in, with_ports, tested, both, route_parts, route_of, class_prefix, values_with, no_values}

-- what is known: that the text is a name, an interface's or the number of a list; the range of the number; the least length of a mask;
-- that the lengths of a route are in order; the greatest number of an entry
pub record Known : Type 0 where
  pub name : Bool
  pub face : Bool
  pub listed : Bool
  pub numbered : Bool
  pub low : ℕ
  pub high : ℕ
  pub measured : Bool
  pub least : ℕ
  pub routed : Bool
  pub order : ℕ

-- nothing is known
abbrev pub nothing : Known
nothing = record { name = false; face = false; listed = false; numbered = false; low = 0; high = 0; measured = false; least = 0; routed = false; order = 0 }

-- what is known where the prefix may change, and the length with it
abbrev pub loose : Known → Known
loose k = record k { measured = false; routed = false }

-- what is known where only the prefix may change
abbrev pub unrouted : Known → Known
unrouted k = record k { routed = false }

-- what is known after a word of the form
abbrev pub learn_form : Form → Known → Known
learn_form Name k = record k { name = true; face = false; listed = false }
learn_form FaceName k = record k { name = false; face = true; listed = false }
learn_form (Number low high) k = record k { numbered = true; low = low; high = high }
learn_form Address k = k
learn_form Host k = unrouted k
learn_form Network k = unrouted k
learn_form (Mask least) k = record k { measured = true; least = least; routed = false }
learn_form Wildcard k = loose k
learn_form Area k = k
learn_form ListNumber k = record k { name = false; face = false; listed = true }
learn_form (Order high) k = record k { order = high }
learn_form Route k = record k { routed = true }
learn_form AtLeast k = k
learn_form AtMost k = k
learn_form forms.Protocol k = k
learn_form Port k = k
learn_form FirstPort k = k
learn_form LastPort k = k

-- what is known whether a word of the form stands or not
abbrev pub learn_either : Form → Known → Known
learn_either (Order high) k = record k { order = max k.order high }
learn_either AtLeast k = k
learn_either AtMost k = k
learn_either _ k = record nothing { order = k.order }

-- what is known after a part of a row
abbrev pub learn : Piece → Known → Known
learn (Word word) k = k
learn Verdict k = k
learn (Place form) k = learn_form form k
learn (Bracket word form) k = learn_either form k
learn (Flag word) k = k
learn EntryNumber k = learn_either (Order 2147483647) k
learn Protocol k = k
learn Source k = loose k
learn Destination k = loose k
learn Ports k = k
learn Anything k = k

-- what is known after these parts
abbrev pub learn_parts : List Piece → Known → Known
learn_parts [] k = k
learn_parts (piece ∷ pieces) k = learn_parts pieces (learn piece k)

-- what is known is true of the values
pub record Holds (k : Known) (v : Values) : Type 0 where
  pub name : k.name ≡ true → IsTrue (is_name v.text)
  pub face : k.face ≡ true → IsTrue (is_face_name v.text)
  pub listed : k.listed ≡ true → IsListNumber v.text
  pub number : k.numbered ≡ true → (k.low ≤ v.number) × (v.number ≤ k.high)
  pub length : k.measured ≡ true → (k.least ≤ v.length) × (v.length ≤ 32)
  pub routed : k.routed ≡ true → AreLengths v.to v.low v.high
  pub order : IsOrder k.order v.order
  pub address : v.address < 2 ^ 32
  pub area : v.area < 2 ^ 32

-- one result is one value
one_value : (a b : Values) (r : Result Values Flaw) → r ≡ Ok a → r ≡ Ok b → a ≡ b
one_value a b r one two = cc

no_value : (flaw : Flaw) (b : Values) (r : Result Values Flaw) → r ≡ Err flaw → r ≡ Ok b → ⊥
no_value flaw b r one two = cc

one_state : (a b : State) (r : Result State WordFault) → r ≡ Ok a → r ≡ Ok b → a ≡ b
one_state a b r one two = cc

no_state : (fault : WordFault) (b : State) (r : Result State WordFault) → r ≡ Err fault → r ≡ Ok b → ⊥
no_state fault b r one two = cc

same_number : (a b : ℕ) → Some a ≡ Some b → a ≡ b
same_number a b e = cc

same_pair : (a b : ℕ × ℕ) → Some a ≡ Some b → a ≡ b
same_pair a b e = cc

same_word : (a b : List ℕ) → Some a ≡ Some b → a ≡ b
same_word a b e = cc

with-value : {A : Type 0} (P : Values → Type 0) (set : A → Values) (o : Option A) (v : Values) → ((a : A) → o ≡ Some a → P (set a)) → with_value set o ≡ Ok v → P v
with-value P set None v h e = absurd (no_value Amiss v (with_value set None) refl e)
with-value P set (Some a) v h e = subst P (one_value (set a) v (with_value set (Some a)) refl e) (h a refl)

with-result : {A : Type 0} (P : Values → Type 0) (set : A → Values) (o : Result A Flaw) (v : Values) → ((a : A) → o ≡ Ok a → P (set a)) → with_result set o ≡ Ok v → P v
with-result P set (Err flaw) v h e = absurd (no_value flaw v (with_result set (Err flaw)) refl e)
with-result P set (Ok a) v h e = subst P (one_value (set a) v (with_result set (Ok a)) refl e) (h a refl)

tested-some : (b : Bool) (w t : List ℕ) → tested b w ≡ Some t → (w ≡ t) × (b ≡ true)
tested-some true w t e = (same_word w t e, refl)
tested-some false w t e = absurd (cc)

from-step : (low high m n : ℕ) (b : Bool) → is_from low high m ≡ b → cond b (Some m) None ≡ Some n → (low ≤ n) × (n ≤ high)
from-step low high m n true is e =
    let parts = and_parts _ _ is in
    let P : ℕ → Type 0 = λ x. (low ≤ x) × (x ≤ high) in
    subst P (same_number m n e) (leb-true _ _ parts.0, leb-true _ _ parts.1)
from-step low high m n false is e = absurd (cc)

ranged-some : (low high : ℕ) (o : Option ℕ) (n : ℕ) → ranged low high o ≡ Some n → (low ≤ n) × (n ≤ high)
ranged-some low high None n e = absurd (cc)
ranged-some low high (Some m) n e = from-step low high m n (is_from low high m) refl e

ones-few : (addr ones : ℕ) → mask_ones addr ≡ Some ones → ones ≤ 32
unfolding masks
ones-few addr ones e = let found = position-Some (λ m. m == addr) masks ones 0 e in let low : ones < 33 = found.0 in omega arith

one_length : (a b : ℕ) (r : Result ℕ Flaw) → r ≡ Ok a → r ≡ Ok b → a ≡ b
one_length a b r one two = cc

length-step : (least ones n : ℕ) → ones ≤ 32 → (b : Bool) → nat_le least ones ≡ b → cond b (Ok ones) (Err Amiss) ≡ Ok n → (least ≤ n) × (n ≤ 32)
length-step least ones n few true is e = let P : ℕ → Type 0 = λ x. (least ≤ x) × (x ≤ 32) in subst P (one_length ones n (Ok ones) refl e) (leb-true _ _ is, few)
length-step least ones n few false is e = absurd (cc)

from-some : (least addr n : ℕ) (o : Option ℕ) → mask_ones addr ≡ o → length_from least o ≡ Ok n → (least ≤ n) × (n ≤ 32)
from-some least addr n None is e = absurd (cc)
from-some least addr n (Some ones) is e = length-step least ones n (ones-few addr ones is) (nat_le least ones) refl e

mask-some : (least n : ℕ) (o : Option ℕ) → mask_of_address least o ≡ Ok n → (least ≤ n) × (n ≤ 32)
mask-some least n None e = absurd (cc)
mask-some least n (Some addr) e = from-some least addr n (mask_ones addr) refl e

-- a number that passes the test of a range is in it
from-test : (low high n : ℕ) → is_from low high n ≡ true → IsFrom low high n
from-test low high n e = let parts = and_parts _ _ e in (leb-true _ _ parts.0, leb-true _ _ parts.1)

two-ranges : (low high from to n : ℕ) (b : Bool) → is_from low high n ≡ b → (b || is_from from to n) ≡ true → IsFrom low high n ⊎ IsFrom from to n
two-ranges low high from to n true is e = inl (from-test low high n is)
two-ranges low high from to n false is e = inr (from-test from to n e)

kind-step : (n : ℕ) (extended b c : Bool) → is_standard n ≡ b → is_extended n ≡ c → cond b (Some false) (cond c (Some true) None) ≡ Some extended → IsStandard n ⊎ IsExtended n
kind-step n extended true c is other e = inl (two-ranges 1 99 1300 1999 n (is_from 1 99 n) refl is)
kind-step n extended false true no' is e = inr (two-ranges 100 199 2000 2699 n (is_from 100 199 n) refl is)
kind-step n extended false false no' other e = absurd (cc)

-- a word of a list's number is one
kind-some : (w : List ℕ) (extended : Bool) (o : Option ℕ) → number_of w ≡ o → list_kind o ≡ Some extended → IsListNumber w
kind-some w extended None is e = absurd (cc)
kind-some w extended (Some n) is e = record { number = n; written = (number_of-some w n is).1; ranged = kind-step n extended (is_standard n) (is_extended n) refl refl e }

-- the length of a route is at most 32
both-some : (a b : Option ℕ) (r : ℕ × ℕ) → both a b ≡ Some r → b ≡ Some r.1
both-some None b r e = absurd (cc)
both-some (Some x) None r e = absurd (cc)
both-some (Some x) (Some y) r e = ap (λ (p : ℕ × ℕ). Some p.1) (same_pair (x, y) r e)

parts-some : (o : Option (List ℕ × List ℕ)) (r : ℕ × ℕ) → route_parts o ≡ Some r → r.1 ≤ 32
parts-some None r e = absurd (cc)
parts-some (Some parts) r e = (ranged-some 0 32 (number_of parts.1) r.1 (both-some (address_of parts.0) (number_in 0 32 parts.1) r e)).1

-- four bytes make an address of 32 bits
four_bytes : (a b c d : ℕ) → (a < 256) × (b < 256) × (c < 256) × (d < 256) → from_be_bytes w32 (a ∷ b ∷ c ∷ d ∷ []) < 2 ^ 32
four_bytes a b c d fit = omega (arith, fit.0, fit.1, fit.2, fit.3)

address-small : (w : List ℕ) (a : ℕ) → address_of w ≡ Some a → a < 2 ^ 32
address-small w a e =
    let (octets, dotted, is) = address_of-some w a e in
    subst (λ (n : ℕ). n < 2 ^ 32) is (subst (λ (bytes : List ℕ). from_be_bytes w32 bytes < 2 ^ 32) (sym dotted.value) (four_bytes dotted.a dotted.b dotted.c dotted.d dotted.fit))

area-small : (w : List ℕ) (a : ℕ) (o : Option ℕ) → number_in 0 (2 ^ 32 - 1) w ≡ o → option_or o (address_of w) ≡ Some a → a < 2 ^ 32
area-small w a None is e = address-small w a e
area-small w a (Some n) is e = let most : n ≤ 2 ^ 32 - 1 = (ranged-some 0 (2 ^ 32 - 1) (number_of w) n is).1 in subst (λ (m : ℕ). m < 2 ^ 32) (same_number n a e) (omega arith)

-- a route has its own length
own-length : (addr len : ℕ) → len ≤ 32 → AreLengths (holding addr len) len len
unfolding holding
own-length addr len few = record { least = omega arith; ordered = omega arith; most = few }

-- what holds of values holds of those that agree in the other fields
kept : (k : Known) (v u : Values) → Holds k v → u.text ≡ v.text → u.number ≡ v.number → u.length ≡ v.length → u.order ≡ v.order →
    (k.routed ≡ true → AreLengths u.to u.low u.high) → u.address < 2 ^ 32 → u.area < 2 ^ 32 → Holds k u
kept k v u h t n l o routed address area = record {
  name = λ is. subst (λ x. IsTrue (is_name x)) (sym t) (h.name is);
  face = λ is. subst (λ x. IsTrue (is_face_name x)) (sym t) (h.face is);
  listed = λ is. subst (λ x. IsListNumber x) (sym t) (h.listed is);
  number = λ is. subst (λ x. (k.low ≤ x) × (x ≤ k.high)) (sym n) (h.number is);
  length = λ is. subst (λ x. (k.least ≤ x) × (x ≤ 32)) (sym l) (h.length is);
  routed = routed;
  order = subst (λ x. IsOrder k.order x) (sym o) h.order;
  address = address;
  area = area;
}

never : {A : Type 0} → false ≡ true → A
never e = absurd (true≢false (sym e))

-- less is known
weaker : (k : Known) (v : Values) → Holds k v → Holds (loose k) v
weaker k v h = record { name = h.name; face = h.face; listed = h.listed; number = h.number; length = λ no'. never no'; routed = λ no'. never no'; order = h.order; address = h.address; area = h.area }

less_routed : (k : Known) (v : Values) → Holds k v → Holds (unrouted k) v
less_routed k v h = record { name = h.name; face = h.face; listed = h.listed; number = h.number; length = h.length; routed = λ no'. never no'; order = h.order; address = h.address; area = h.area }

ordered_only : (k : Known) (v : Values) → IsOrder k.order v.order → v.address < 2 ^ 32 → v.area < 2 ^ 32 → Holds (record nothing { order = k.order }) v
ordered_only k v order address area =
    record {
      name = λ no'. never no';
      face = λ no'. never no';
      listed = λ no'. never no';
      number = λ no'. never no';
      length = λ no'. never no';
      routed = λ no'. never no';
      order =
          order;
      address = address;
      area = area;
    }

wider : (o : Option ℕ) (m n : ℕ) → m ≤ n → IsOrder m o → IsOrder n o
wider None m n few is = tt
wider (Some x) m n few is = (is.0, (let most = is.1 in omega arith))

-- with what a word of the form gives, what is learnt of it holds
form-holds : (form : Form) (k : Known) (v u : Values) (w : List ℕ) → Holds k v → values_with form v w ≡ Ok u → Holds (learn_form form k) u
form-holds Name k v u w h e = with-value (Holds (learn_form Name k)) (λ t. record v { text = t }) (tested (is_name w) w) u
    (λ t is. let both = tested-some (is_name w) w t is in record {
      name = λ _. subst (λ x. IsTrue (is_name x)) both.0 both.1;
      face = λ no'. never no';
      listed = λ no'. never no';
      number = h.number;
      length = h.length;
      routed = h.routed;
      order = h.order;
      address = h.address;
      area = h.area;
    }) e
form-holds FaceName k v u w h e = with-value (Holds (learn_form FaceName k)) (λ t. record v { text = t }) (tested (is_face_name w) w) u
    (λ t is. let both = tested-some (is_face_name w) w t is in record {
      name = λ no'. never no';
      face = λ _. subst (λ x. IsTrue (is_face_name x)) both.0 both.1;
      listed = λ no'. never no';
      number = h.number;
      length = h.length;
      routed = h.routed;
      order = h.order;
      address = h.address;
      area = h.area;
    }) e
form-holds (Number low high) k v u w h e = with-value (Holds (learn_form (Number low high) k)) (λ n. record v { number = n }) (number_in low high w) u
    (λ n is. record {
      name = h.name;
      face = h.face;
      listed = h.listed;
      number = λ _. ranged-some low high (number_of w) n is;
      length = h.length;
      routed = h.routed;
      order =
          h.order;
      address = h.address;
      area = h.area;
    }) e
form-holds Address k v u w h e = with-value (Holds k) (λ a. record v { address = a }) (address_of w) u (λ a is. kept k v _ h refl refl refl refl h.routed (address-small w a is) h.area) e
form-holds Host k v u w h e = with-value (Holds (unrouted k)) (λ a. record v { address = a; to = holding a 32 }) (address_of w) u
    (λ a is. kept (unrouted k) v _ (less_routed k v h) refl refl refl refl (λ no'. never no') (address-small w a is) h.area) e
form-holds Network k v u w h e = with-value (Holds (unrouted k)) (λ p. record v { to = p }) (class_prefix (address_of w)) u
    (λ a is. kept (unrouted k) v _ (less_routed k v h) refl refl refl refl (λ no'. never no') h.address h.area) e
form-holds (Mask least) k v u w h e = with-result (Holds (learn_form (Mask least) k)) (λ l. record v { length = l; to = holding v.address l }) (mask_length least w) u
    (λ l is. record {
      name = h.name;
      face = h.face;
      listed = h.listed;
      number = h.number;
      length = λ _. mask-some least l (address_of w) is;
      routed = λ no'. never no';
      order =
          h.order;
      address = h.address;
      area = h.area;
    }) e
form-holds Wildcard k v u w h e = with-result (Holds (loose k)) (λ l. record v { length = l; to = holding v.address l }) (wildcard_length w) u
    (λ l is. record { name = h.name; face = h.face; listed = h.listed; number = h.number; length = λ no'. never no'; routed = λ no'. never no'; order = h.order; address = h.address; area = h.area }) e
form-holds Area k v u w h e = with-value (Holds k) (λ a. record v { area = a }) (area_of w) u
    (λ a is. kept k v _ h refl refl refl refl h.routed h.address (area-small w a (number_in 0 (2 ^ 32 - 1) w) refl is)) e
form-holds ListNumber k v u w h e = with-value (Holds (learn_form ListNumber k)) (λ extended. record v { text = w; extended = extended }) (list_kind (number_of w)) u
    (λ a is. record {
      name = λ no'. never no';
      face = λ no'. never no';
      listed = λ _. kind-some w a (number_of w) refl is;
      number = h.number;
      length = h.length;
      routed =
          h.routed;
      order = h.order;
      address = h.address;
      area = h.area;
    }) e
form-holds (Order high) k v u w h e = with-value (Holds (learn_form (Order high) k)) (λ n. record v { order = Some n }) (number_in 1 high w) u
    (λ n is. record {
      name = h.name;
      face = h.face;
      listed = h.listed;
      number = h.number;
      length = h.length;
      routed = h.routed;
      order = ranged-some 1 high (number_of w) n is;
      address =
          h.address;
      area = h.area;
    }) e
form-holds Route k v u w h e = with-value (Holds (learn_form Route k)) (λ r. record v { to = holding r.0 r.1; low = r.1; high = r.1 }) (route_of w) u
    (λ r is. record {
      name = h.name;
      face = h.face;
      listed = h.listed;
      number = h.number;
      length = h.length;
      routed = λ _. own-length r.0 r.1 (parts-some (cut_at 47 w) r is);
      order =
          h.order;
      address = h.address;
      area = h.area;
    }) e
form-holds AtLeast k v u w h e = with-value (Holds k) (λ n. record v { low = n; high = 32 }) (number_in v.to.len 32 w) u
    (λ n is. let range = ranged-some v.to.len 32 (number_of w) n is in kept k v _ h refl refl refl refl (λ _. record { least = range.0; ordered = range.1; most = omega arith }) h.address h.area) e
form-holds AtMost k v u w h e = with-value (Holds k) (λ n. record v { high = n }) (number_in v.low 32 w) u
    (λ n is. let range = ranged-some v.low 32 (number_of w) n is in kept k v _ h refl refl refl refl
    (λ was. record { least = (h.routed was).least; ordered = range.0; most = range.1 }) h.address h.area) e
form-holds forms.Protocol k v u w h e = with-value (Holds k) (λ s. record v { services = s }) (services_of w) u (λ s is. kept k v _ h refl refl refl refl h.routed h.address h.area) e
form-holds Port k v u w h e = with-value (Holds k) (λ n. with_ports v n n) (port_in v w) u (λ n is. kept k v _ h refl refl refl refl h.routed h.address h.area) e
form-holds FirstPort k v u w h e = with-value (Holds k) (λ n. with_ports v n 65535) (port_in v w) u (λ n is. kept k v _ h refl refl refl refl h.routed h.address h.area) e
form-holds LastPort k v u w h e = with-value (Holds k) (λ n. with_ports v (port v.services.low) n) (ranged (port v.services.low) 65535 (port_in v w)) u
    (λ n is. kept k v _ h refl refl refl refl h.routed h.address h.area) e

-- what holds after the next word
after-holds : (P : Values → Type 0) (place : ℕ) (words : List (List ℕ)) (r : Result Values Flaw) (s : State) → ((v : Values) → r ≡ Ok v → P v) → after_word place words r ≡ Ok s → P s.values
after-holds P place words (Ok v) s h e = let P' : State → Type 0 =
    λ x. P x.values in subst P' (one_state (record { taken = place; words = words; values = v }) s (after_word place words (Ok v)) refl e) (h v refl)
after-holds P place words (Err flaw) s h e = absurd (no_state _ s (after_word place words (Err flaw)) refl e)

next-holds : (P : Values → Type 0) (give : List ℕ → Result Values Flaw) (taken : ℕ) (words : List (List ℕ)) (s : State) →
    ((w : List ℕ) (v : Values) → give w ≡ Ok v → P v) → next_word give taken words ≡ Ok s → P s.values
next-holds P give taken [] s h e = absurd (no_state _ s (next_word give taken []) refl e)
next-holds P give taken (w ∷ words) s h e = after-holds P (taken + 1) words (give w) s (h w) e

place-holds : (form : Form) (k : Known) (s t : State) → Holds k s.values → place form s ≡ Ok t → Holds (learn_form form k) t.values
place-holds form k s t h e = next-holds (Holds (learn_form form k)) (values_with form s.values) s.taken s.words t (λ w v. form-holds form k s.values v w h) e

-- either way
if-value : (P : Values → Type 0) (b : Bool) (x y : Result Values Flaw) (v : Values) → (x ≡ Ok v → P v) → (y ≡ Ok v → P v) → cond b x y ≡ Ok v → P v
if-value P true x y v p q e = p e
if-value P false x y v p q e = q e

if-state : (P : State → Type 0) (b : Bool) (x y : Result State WordFault) (t : State) → (x ≡ Ok t → P t) → (y ≡ Ok t → P t) → cond b x y ≡ Ok t → P t
if-state P true x y t p q e = p e
if-state P false x y t p q e = q e

ok-value : (P : Values → Type 0) (a v : Values) (r : Result Values Flaw) → r ≡ Ok a → P a → r ≡ Ok v → P v
ok-value P a v r is h e = subst P (one_value a v r is e) h

ok-state : (P : State → Type 0) (a t : State) (r : Result State WordFault) → r ≡ Ok a → P a → r ≡ Ok t → P t
ok-state P a t r is h e = subst P (one_state a t r is e) h

this-holds : (word : List ℕ) (k : Known) (s t : State) → Holds k s.values → this_word word s ≡ Ok t → Holds k t.values
this-holds word k s t h e = next-holds (Holds k) (λ w. cond (bytes_eq w word) (Ok s.values) (Err Amiss)) s.taken s.words t
    (λ w v. if-value (Holds k) (bytes_eq w word) (Ok s.values) (Err Amiss) v (ok-value (Holds k) s.values v (Ok s.values) refl h) (λ e'. absurd (no_value Amiss v (Err Amiss) refl e'))) e

verdict-holds : (k : Known) (s t : State) → Holds k s.values → verdict s ≡ Ok t → Holds k t.values
verdict-holds k s t h e = next-holds (Holds k) (permits s.values) s.taken s.words t
    (λ w v. if-value (Holds k) (bytes_eq w (codes "permit")) _ _ v (ok-value (Holds k) (record s.values { permit = true }) v _ refl (kept k s.values _ h refl refl refl refl h.routed h.address h.area))
    (if-value (Holds k) (bytes_eq w (codes "deny")) _ _ v
    (ok-value (Holds k) (record s.values { permit = false }) v _ refl (kept k s.values _ h refl refl refl refl h.routed h.address h.area)) (λ e'. absurd (no_value Amiss v (Err Amiss) refl e')))) e

width-holds : (extended : Bool) (k : Known) (s t : State) → Holds k s.values → width extended s ≡ Ok t → Holds (loose k) t.values
width-holds extended k s t h e = if-state (λ x. Holds (loose k) x.values) (not extended && stands_alone s.words) _ _ t
    (ok-state (λ x. Holds (loose k) x.values) (alone s) t _ refl (kept (loose k) s.values _ (weaker k s.values h) refl refl refl refl (λ no'. never no') h.address h.area))
    (place-holds Wildcard k s t h) e

then-holds : (P : State → Type 0) (next : State → Result State WordFault) (r : Result State WordFault) (t : State) → ((s : State) → r ≡ Ok s → next s ≡ Ok t → P t) → then_do next r ≡ Ok t → P t
then-holds P next (Ok s) t h e = h s refl e
then-holds P next (Err fault) t h e = absurd (no_state fault t (then_do next (Err fault)) refl e)

side-holds : (extended : Bool) (k : Known) (s t : State) → Holds k s.values → side extended s ≡ Ok t → Holds (loose k) t.values
side-holds extended k s t h e =
    let P : State → Type 0 = λ x. Holds (loose k) x.values in
    if-state P (begins (codes "any") s.words) _ _ t (ok-state P (any s) t _ refl (kept (loose k) s.values _ (weaker k s.values h) refl refl refl refl (λ no'. never no') h.address h.area))
    (if-state P (begins (codes "host") s.words) _ _ t (λ e'. weaker (unrouted k) t.values (place-holds Host k (passed s) t h e'))
    (then-holds P (width extended) (place Address s) t (λ m at. width-holds extended k m t (place-holds Address k s m h at)))) e

-- whether the word stands or not
either-there : (form : Form) (k : Known) (v : Values) → Holds (learn_form form k) v → Holds (learn_either form k) v
either-there (Order high) k v h =
    record {
      name = h.name;
      face = h.face;
      listed = h.listed;
      number = h.number;
      length = h.length;
      routed = h.routed;
      order =
          wider v.order high (max k.order high) (omega arith) h.order;
      address = h.address;
      area = h.area;
    }
either-there AtLeast k v h = h
either-there AtMost k v h = h
either-there _ k v h = ordered_only k v h.order h.address h.area

either-not : (form : Form) (k : Known) (v : Values) → Holds k v → Holds (learn_either form k) v
either-not (Order high) k v h =
    record {
      name = h.name;
      face = h.face;
      listed = h.listed;
      number = h.number;
      length = h.length;
      routed = h.routed;
      order =
          wider v.order k.order (max k.order high) (omega arith) h.order;
      address = h.address;
      area = h.area;
    }
either-not AtLeast k v h = h
either-not AtMost k v h = h
either-not _ k v h = ordered_only k v h.order h.address h.area

ports-hold : (k : Known) (s t : State) → Holds k s.values → ports s ≡ Ok t → Holds k t.values
ports-hold k s t h e =
    let P : State → Type 0 = λ x. Holds k x.values in
    if-state P (begins (codes "eq") s.words) _ _ t (λ e'. place-holds Port k (passed s) t h e')
    (if-state P (begins (codes "range") s.words) _ _ t
    (then-holds P (place LastPort) (place FirstPort (passed s)) t (λ m at. place-holds LastPort k m t (place-holds FirstPort k (passed s) m h at)))
    (ok-state P s t _ refl h)) e

step-holds : (piece : Piece) (k : Known) (s t : State) → Holds k s.values → step piece s ≡ Ok t → Holds (learn piece k) t.values
step-holds (Word word) k s t h e = this-holds word k s t h e
step-holds Verdict k s t h e = verdict-holds k s t h e
step-holds (Place form) k s t h e = place-holds form k s t h e
step-holds (Bracket word form) k s t h e = if-state (λ x. Holds (learn_either form k) x.values) (begins word s.words) _ _ t
    (λ e'. either-there form k t.values (place-holds form k (passed s) t h e'))
    (ok-state (λ x. Holds (learn_either form k) x.values) s t _ refl (either-not form k s.values h)) e
step-holds (Flag word) k s t h e = if-state (λ x. Holds k x.values) (begins word s.words) _ _ t (ok-state (λ x. Holds k x.values) (passed s) t _ refl h)
    (ok-state (λ x. Holds k x.values) s t _ refl h) e
step-holds EntryNumber k s t h e = if-state (λ x. Holds (learn_either (Order 2147483647) k) x.values) (begins_entry s.words) _ _ t
    (ok-state (λ x. Holds (learn_either (Order 2147483647) k) x.values) s t _ refl (either-not (Order 2147483647) k s.values h))
    (λ e'. either-there (Order 2147483647) k t.values (place-holds (Order 2147483647) k s t h e')) e
step-holds Protocol k s t h e = if-state (λ x. Holds k x.values) s.values.extended _ _ t (place-holds forms.Protocol k s t h) (ok-state (λ x. Holds k x.values) s t _ refl h) e
step-holds Source k s t h e = then-holds (λ x. Holds (loose k) x.values) as_source (side s.values.extended s) t
    (λ m at. ok-state (λ x. Holds (loose k) x.values) (record m { values = record m.values { from = m.values.to; to = whole } }) t _ refl
    (let held = side-holds s.values.extended k s m h at in kept (loose k) m.values _ held refl refl refl refl (λ no'. never no') held.address held.area)) e
step-holds Destination k s t h e = if-state (λ x. Holds (loose k) x.values) s.values.extended _ _ t (side-holds true k s t h)
    (ok-state (λ x. Holds (loose k) x.values) s t _ refl (weaker k s.values h)) e
step-holds Ports k s t h e = if-state (λ x. Holds k x.values) (has_ports (protocol s.values.services.low)) _ _ t (ports-hold k s t h) (ok-state (λ x. Holds k x.values) s t _ refl h) e
step-holds Anything k s t h e = ok-state (λ x. Holds k x.values) (record s { words = [] }) t _ refl h e

parts-hold : (pieces : List Piece) (k : Known) (s t : State) → Holds k s.values → read_parts pieces s ≡ Ok t → Holds (learn_parts pieces k) t.values
parts-hold [] k s t h e = ok-state (λ x. Holds k x.values) s t _ refl h e
parts-hold (piece ∷ pieces) k s t h e = then-holds (λ x. Holds (learn_parts pieces (learn piece k)) x.values) (read_parts pieces) (step piece s) t
    (λ m at. parts-hold pieces (learn piece k) m t (step-holds piece k s m h at)) e

one_whole : (a b : Values) (r : Result Values WordFault) → r ≡ Ok a → r ≡ Ok b → a ≡ b
one_whole a b r one two = cc

-- what holds of a whole line
words-hold : (P : Values → Type 0) (s : State) (words : List (List ℕ)) (v : Values) → P s.values → finish_words s words ≡ Ok v → P v
words-hold P s [] v h e = subst P (one_whole s.values v (finish_words s []) refl e) h
words-hold P s (word ∷ words) v h e = absurd (cc)

finish-holds : (P : Values → Type 0) (r : Result State WordFault) (v : Values) → ((s : State) → r ≡ Ok s → P s.values) → finish r ≡ Ok v → P v
finish-holds P (Ok s) v h e = words-hold P s s.words v (h s refl) e
finish-holds P (Err fault) v h e = absurd (cc)

pub read-holds : (extended : Bool) (words : List (List ℕ)) (rule : Rule) (v : Values) → read extended words rule ≡ Ok v → Holds (learn_parts rule.pieces nothing) v
read-holds extended words rule v e = finish-holds (Holds (learn_parts rule.pieces nothing)) (read_parts rule.pieces (start extended words)) v
    (λ s. parts-hold rule.pieces nothing (start extended words) s (ordered_only nothing (no_values extended) tt (omega arith) (omega arith))) e
