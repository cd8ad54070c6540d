-- The words of parts of lines are plain.
use Rattle.std.proofs.Common.{◌≡◌, ℕ, ◌-◌, ◌/◌, ◌%◌, ◌^◌, ◌<◌, ◌≤◌, ◌==◌, Bool, true, false, cond, List, [], ◌∷◌, ◌++◌, decimal, Option, Some, None, refl, arith}
use Rattle.std.proofs.lemmas.Bool.{ne_eqb}
use Rattle.std.proofs.lemmas.Str.Parse.{digit_from_value}
use Rattle.std.proofs.Math.Nat.{mod-lt, div-le_self}
use Rattle.std.specs.List.{find}
use Rattle.std.specs.Option.{option_map_or}
use Rattle.std.specs.Str.Parse.{AllDigits}
use Rattle.arc_base.specs.declared.prefix.Prefix.{Prefix}
use Rattle.ios_lines.specs.Kinds.{is_mark}
use Rattle.ios_lines.specs.Written.{is_plain, ArePlain}
use Rattle.ios_words.specs.declared.commands.PacketText.{PacketText}
use Rattle.ios_words.specs.Printed.{verdict_word, side_words, packet_words}
use Rattle.ios_words.specs.Services.{protocol, port, protocol_names, protocol_text, protocol_word, port_words, are_all, are_all_ports}
use Rattle.ios_words.proofs.PlainSteps.{wildcard-small}
use Rattle.ios_words.proofs.PlainWords.{decimal-plain, address-plain}
use Rattle.ios_words.proofs.PrintedServices.{found-both}

-- plain words after others
pub plain-append : (xs ys : List (List ℕ)) → ArePlain xs → ArePlain ys → ArePlain (xs ++ ys)
plain-append [] ys one two = two
plain-append (x ∷ xs) ys one two = (one.0, plain-append xs ys one.1 two)

pub choice : {A : Type 0} → (P : A → Type 0) (b : Bool) (x y : A) → P x → P y → P (cond b x y)
choice P true x y one two = one
choice P false x y one two = two

pub side-plain : (p : Prefix) → ArePlain (side_words p)
side-plain p =
    let address = address-plain p.addr p.in_range in
    choice ArePlain (p.len == 0) _ _ (refl, tt) (choice ArePlain (p.len == 32) _ _ (refl, (address, tt)) (address, (address-plain (2 ^ (32 - p.len) - 1) (wildcard-small p.len), tt)))

pub verdict-plain : (permit : Bool) → is_plain (verdict_word permit) ≡ true
verdict-plain true = refl
verdict-plain false = refl

-- the names of protocols are plain
abbrev is_named_plain : ℕ × List ℕ → Bool
is_named_plain row = is_plain row.1

pub protocol-plain : (n : ℕ) → n < 2 ^ 64 → is_plain (protocol_text n) ≡ true
protocol-plain n small = by (find (λ row. row.0 == n) protocol_names) refl
  where
    by : (o : Option (ℕ × List ℕ)) → find (λ row. row.0 == n) protocol_names ≡ o → is_plain (option_map_or (λ row. row.1) o (decimal n)) ≡ true
    by (Some row) is = (found-both (λ row. row.0 == n) is_named_plain protocol_names row is refl).1
    by None is = decimal-plain n small

service-plain : (e : PacketText) → is_plain (protocol_word e.low e.high) ≡ true
service-plain e =
    let few : e.high < 2 ^ 24 = e.in_range in
    let ordered : e.low ≤ e.high = e.ordered in
    let less : e.low / 65536 ≤ e.low = div-le_self e.low 65536 in
    choice (λ w. is_plain w ≡ true) (are_all e.low e.high) _ _ refl (protocol-plain (protocol e.low) (omega (arith, few, ordered, less)))

port-plain : (n : ℕ) → is_plain (decimal (port n)) ≡ true
port-plain n = let few : n % 65536 < 65536 = mod-lt n (omega arith) in decimal-plain (n % 65536) (omega (arith, few))

ports-plain : (e : PacketText) → ArePlain (port_words e.low e.high)
ports-plain e = choice ArePlain (are_all_ports e.low e.high) _ _ tt (choice ArePlain (e.low == e.high) _ _ (refl, (port-plain e.low, tt)) (refl, (port-plain e.low, (port-plain e.high, tt))))

pub packet-plain : (e : PacketText) → ArePlain (packet_words e)
packet-plain e = (
  verdict-plain e.permit,
  (
    service-plain e,
    plain-append (side_words e.from ++ side_words e.to) (port_words e.low e.high)
        (plain-append (side_words e.from) (side_words e.to) (side-plain e.from) (side-plain e.to)) (ports-plain e),
  ),
)

pub verdict-mark : (permit : Bool) → is_mark (verdict_word permit) ≡ false
verdict-mark true = refl
verdict-mark false = refl

pub digits-mark : (ds : List ℕ) → AllDigits 10 ds → is_mark ds ≡ false
digits-mark [] digits = refl
digits-mark (d ∷ ds) digits = let low = (digit_from_value d digits.0).0 in ne_eqb d 33 (omega (arith, low))
