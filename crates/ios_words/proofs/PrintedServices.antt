-- The services of an entry that the program writes are read as its services.
use Rattle.std.proofs.Common.{◌≡◌, ℕ, ◌+◌, ◌*◌, ◌%◌, ◌^◌, ◌<◌, ◌≤◌, ◌==◌, ◌&&◌, ◌||◌, not, nat_le, nat_lt, Bool, true, false}
use Rattle.std.proofs.Common.{cond, List, [], ◌∷◌, Option, Some, None, Ok, refl, sym, ap, subst, ◌∙◌, arith, codes, decimal, ⊎_elim}
use Rattle.std.proofs.lemmas.Bool.{cases_Bool, and_parts, and_from, cond-true, cond-false, eqb-true, leb-true, le-leb, ltb-true}
use Rattle.std.proofs.lemmas.Nat.{div-add-mod'}
use Rattle.std.proofs.lemmas.Option.{none-some, same_Some}
use Rattle.std.proofs.Math.Nat.{mod-lt}
use Rattle.std.specs.List.{find, list_all}
use Rattle.std.specs.Option.{option_map, option_map_or, option_or}
use Rattle.std.specs.Str.{bytes_eq}
use Rattle.ios_words.specs.declared.commands.PacketText.{PacketText}
use Rattle.ios_words.specs.declared.rows.Form.TheVariants.{Port, FirstPort, LastPort}
use Rattle.ios_words.specs.declared.services.Services.{Services}
use Rattle.ios_words.specs.Numbers.{ranged, is_from, number_in}
use Rattle.ios_words.specs.Readings.{State, after_word, then_do, place, ports, step}
use Rattle.ios_words.specs.Rows.{Protocol, Ports}
use Rattle.ios_words.specs.ServiceRanges.{all, of_ports, of_protocol, services_of}
use Rattle.ios_words.specs.Services.{protocol, port, protocol_names, protocol_text, tcp_ports, udp_ports, port_names}
use Rattle.ios_words.specs.Services.{number_named, port_of, has_ports, are_all, are_all_ports, IsWritable, protocol_word, port_words}
use Rattle.ios_words.specs.Values.{Values, with_value, with_ports}
use Rattle.ios_words.proofs.PrintedSteps.{at, decimal-word, ranged-decimal}
use Rattle.ios_words.proofs.ServicesBetween.{is-between, protocol-of, port-of}

-- what is found passes the test, and any that all pass
pub found-both : {X : Type 0} (p q : X → Bool) (xs : List X) (x : X) → find p xs ≡ Some x → list_all q xs ≡ true → (p x ≡ true) × (q x ≡ true)
found-both p q [] x is every = absurd (none-some x is)
found-both p q (y ∷ xs) x is every = ⊎_elim
    (λ here. let same = same_Some y x (sym (cond-true (p y) (Some y) (find p xs) here) ∙ is) in subst (λ z. (p z ≡ true) × (q z ≡ true)) same (here, (and_parts _ _ every).0))
    (λ other. found-both p q xs x (sym (cond-false (p y) (Some y) (find p xs) other) ∙ is) (and_parts _ _ every).1)
    (cases_Bool (p y))

some-one : (n : ℕ) (o : Option ℕ) → option_map_or (λ k. k == n) o false ≡ true → o ≡ Some n
some-one n None is = absurd cc
some-one n (Some k) is = ap Some (eqb-true k n is)

-- no name is a number
abbrev begins_high : List ℕ → Bool
begins_high [] = false
begins_high (c ∷ cs) = nat_lt 57 c

abbrev is_named_high : ℕ × List ℕ → Bool
is_named_high row = begins_high row.1

high-word : (n : ℕ) (w : List ℕ) → n < 2 ^ 64 → begins_high w ≡ true → bytes_eq (decimal n) w ≡ false
high-word n [] small high = absurd cc
high-word n (c ∷ cs) small high = decimal-word n c cs small (ltb-true _ _ high)

no-name : (rows : List (ℕ × List ℕ)) (n : ℕ) → n < 2 ^ 64 → list_all is_named_high rows ≡ true → number_named rows (decimal n) ≡ None
no-name [] n small high = refl
no-name (row ∷ rows) n small high =
    let parts = and_parts _ _ high in
    ap (λ b. option_map (λ (r : ℕ × List ℕ). r.0) (cond b (Some row) (find (λ (r : ℕ × List ℕ). bytes_eq (decimal n) r.1) rows))) (high-word n row.1 small parts.0) ∙ no-name rows n small parts.1

ports-high : (number : ℕ) → list_all is_named_high (port_names number) ≡ true
ports-high number = by (number == 6) (number == 17)
  where
    by : (b c : Bool) → list_all is_named_high (cond b tcp_ports (cond c udp_ports [])) ≡ true
    by true c = refl
    by false true = refl
    by false false = refl

-- a name is read as its number, and is not the word for all
abbrev reads_back : ℕ × List ℕ → Bool
reads_back row = not (bytes_eq row.1 (codes "ip")) && option_map_or (λ k. k == row.0) (number_named protocol_names row.1) false

not-true : (b : Bool) → not b ≡ true → b ≡ false
not-true true is = absurd cc
not-true false is = refl

protocol_text-read : (n : ℕ) → 1 ≤ n → n ≤ 255 → services_of (protocol_text n) ≡ Some (of_protocol n)
protocol_text-read n some few = by (find (λ row. row.0 == n) protocol_names) refl
  where
    by : (o : Option (ℕ × List ℕ)) → find (λ row. row.0 == n) protocol_names ≡ o → services_of (option_map_or (λ row. row.1) o (decimal n)) ≡ Some (of_protocol n)
    by (Some row) is =
        let both = found-both (λ row. row.0 == n) reads_back protocol_names row is refl in
        let parts = and_parts _ _ both.1 in
        let number : number_named protocol_names row.1 ≡ Some n = some-one row.0 (number_named protocol_names row.1) parts.1 ∙ ap Some (eqb-true row.0 n both.0) in
        cond-false (bytes_eq row.1 (codes "ip")) _ _ (not-true _ parts.0) ∙ ap (λ o. option_map of_protocol (option_or o (number_in 1 255 row.1))) number
    by None is =
        let small : n < 2 ^ 64 = omega arith in
        cond-false (bytes_eq (decimal n) (codes "ip")) _ _ (decimal-word n 105 (codes "p") small (omega arith))
        ∙ ap (λ o. option_map of_protocol (option_or o (number_in 1 255 (decimal n)))) (no-name protocol_names n small refl)
        ∙ ap (option_map of_protocol) (ranged-decimal 1 255 n some few small)

port-read : (number p : ℕ) → p ≤ 65535 → port_of number (decimal p) ≡ Some p
port-read number p most =
    let small : p < 2 ^ 64 = omega arith in
    ap (λ o. option_or o (number_in 0 65535 (decimal p))) (no-name (port_names number) p small (ports-high number)) ∙ ranged-decimal 0 65535 p (omega arith) most small

-- a port, and the first and the last of some, where the protocol is known
one-read : (taken n p : ℕ) (v : Values) → protocol v.services.low ≡ n → p ≤ 65535 → place Port (at taken (decimal p ∷ []) v) ≡ Ok (at (taken + 1) [] (record v { services = of_ports n p p }))
one-read taken n p v is most =
    ap (λ o. after_word (taken + 1) [] (with_value (λ m. with_ports v m m) o)) (port-read (protocol v.services.low) p most)
    ∙ ap (λ m. Ok (at (taken + 1) [] (record v { services = of_ports m p p }))) is

first-read : (taken n p : ℕ) (rest : List (List ℕ)) (v : Values) → protocol v.services.low ≡ n → p ≤ 65535 →
    place FirstPort (at taken (decimal p ∷ rest) v) ≡ Ok (at (taken + 1) rest (record v { services = of_ports n p 65535 }))
first-read taken n p rest v is most =
    ap (λ o. after_word (taken + 1) rest (with_value (λ m. with_ports v m 65535) o)) (port-read (protocol v.services.low) p most)
    ∙ ap (λ m. Ok (at (taken + 1) rest (record v { services = of_ports m p 65535 }))) is

last-read : (taken n p q : ℕ) (v : Values) → protocol v.services.low ≡ n → port v.services.low ≡ p → p ≤ q → q ≤ 65535 →
    place LastPort (at taken (decimal q ∷ []) v) ≡ Ok (at (taken + 1) [] (record v { services = of_ports n p q }))
last-read taken n p q v is first ordered most =
    let inside : is_from (port v.services.low) 65535 q ≡ true = ap (λ m. is_from m 65535 q) first ∙ and_from _ _ (le-leb p q ordered) (le-leb q 65535 most) in
    let read : ranged (port v.services.low) 65535 (port_of (protocol v.services.low) (decimal q)) ≡ Some q =
    ap (ranged (port v.services.low) 65535) (port-read (protocol v.services.low) q most) ∙ cond-true (is_from (port v.services.low) 65535 q) (Some q) None inside in
    ap (λ o. after_word (taken + 1) [] (with_value (λ m. with_ports v (port v.services.low) m) o)) read
    ∙ (λ i. Ok (at (taken + 1) [] (record v { services = of_ports (is i) (first i) q })))

-- the services of an entry, and those of the word of its protocol
abbrev pub services_in : PacketText → Services
services_in e = record { low = e.low; high = e.high; ordered = e.ordered; in_range = e.in_range }

abbrev pub first_services : PacketText → Services
first_services e = cond (are_all e.low e.high) all (of_protocol (protocol e.low))

-- what an entry that is not for all services has
record OneProtocol (e : PacketText) : Type 0 where
  some : 1 ≤ protocol e.low
  few : protocol e.low ≤ 255
  same : protocol e.low ≡ protocol e.high
  or_ports : (are_all_ports e.low e.high || has_ports (protocol e.low)) ≡ true

one-protocol : (e : PacketText) → IsWritable e → are_all e.low e.high ≡ false → OneProtocol e
one-protocol e writable other =
    let rest = sym (ap (λ b.
    b || (protocol e.low == protocol e.high && nat_le 1 (protocol e.low) && nat_le (protocol e.low) 255 && (are_all_ports e.low e.high || has_ports (protocol e.low)))) other) ∙ writable in
    let last = and_parts _ _ rest in
    let most = and_parts _ _ last.0 in
    let first = and_parts _ _ most.0 in
    record { some = leb-true _ _ first.1; few = leb-true _ _ most.1; same = eqb-true _ _ first.0; or_ports = last.1 }

word-read : (e : PacketText) → IsWritable e → services_of (protocol_word e.low e.high) ≡ Some (first_services e)
word-read e writable = by (are_all e.low e.high) refl
  where
    by : (b : Bool) → are_all e.low e.high ≡ b → services_of (cond b (codes "ip") (protocol_text (protocol e.low))) ≡ Some (cond b all (of_protocol (protocol e.low)))
    by true is = refl
    by false is = let one = one-protocol e writable is in protocol_text-read (protocol e.low) one.some one.few

pub protocol-step : (e : PacketText) → IsWritable e → (taken : ℕ) (rest : List (List ℕ)) (v : Values) →
    step Protocol (at taken (protocol_word e.low e.high ∷ rest) (record v { extended = true })) ≡ Ok (at (taken + 1) rest (record v { extended = true; services = first_services e }))
protocol-step e writable taken rest v = ap (λ o. after_word (taken + 1) rest (with_value (λ s. record v { extended = true; services = s }) o)) (word-read e writable)

-- the words of ports are read whole, and give these services after those
pub record PortsRead (words : List (List ℕ)) (s t : Services) (taken : ℕ) (v : Values) : Type 0 where
  pub after : ℕ
  pub read : step Ports (at taken words (record v { services = s })) ≡ Ok (at after [] (record v { services = t }))

none-read : (s t : Services) (taken : ℕ) (v : Values) → s ≡ t → PortsRead [] s t taken v
none-read s t taken v same = record { after = taken; read = by (has_ports (protocol s.low)) ∙ ap (λ r. Ok (at taken [] (record v { services = r }))) same }
  where
    by : (b : Bool) → cond b (ports (at taken [] (record v { services = s }))) (Ok (at taken [] (record v { services = s }))) ≡ Ok (at taken [] (record v { services = s }))
    by true = refl
    by false = refl

-- the parts of a service
service-parts : (n : ℕ) → protocol n * 65536 + port n ≡ n
service-parts n = div-add-mod' n 65536

port-few : (n : ℕ) → port n ≤ 65535
port-few n = let low : n % 65536 < 65536 = mod-lt n (omega arith) in omega (arith, low)

-- an entry's services are the ports of one protocol
entry-ports : (e : PacketText) → protocol e.low ≡ protocol e.high → of_ports (protocol e.low) (port e.low) (port e.high) ≡ services_in e
entry-ports e same =
    let high : e.high ≡ protocol e.low * 65536 + port e.high = sym (ap (λ n. n * 65536 + port e.high) same ∙ service-parts e.high) in
    sym (is-between (services_in e) (protocol e.low * 65536 + port e.low) (protocol e.low * 65536 + port e.high) (sym (service-parts e.low)) high)

port-order : (e : PacketText) → protocol e.low ≡ protocol e.high → port e.low ≤ port e.high
port-order e same =
    let ordered : e.low ≤ e.high = e.ordered in
    let low = service-parts e.low in
    let high = service-parts e.high in
    let base : protocol e.low * 65536 ≡ protocol e.high * 65536 = ap (λ n. n * 65536) same in
    omega (arith, ordered, low, high, base)

-- the word of a protocol that has ports leaves the protocol to the ports
own-protocol : (e : PacketText) → OneProtocol e → protocol (of_protocol (protocol e.low)).low ≡ protocol e.low
own-protocol e one = protocol-of (protocol e.low) 0 65535 one.few (omega arith) (omega arith)

ports-there : (e : PacketText) → OneProtocol e → has_ports (protocol e.low) ≡ true → (s : State) → s.values.services ≡ of_protocol (protocol e.low) → step Ports s ≡ ports s
ports-there e one has s is = cond-true (has_ports (protocol s.values.services.low)) (ports s) (Ok s) (ap (λ (r : Services). has_ports (protocol r.low)) is ∙ ap has_ports (own-protocol e one) ∙ has)

eq-read : (e : PacketText) → OneProtocol e → has_ports (protocol e.low) ≡ true → e.low ≡ e.high → (taken : ℕ) (v : Values) →
    PortsRead (codes "eq" ∷ decimal (port e.low) ∷ []) (of_protocol (protocol e.low)) (services_in e) taken v
eq-read e one has alone taken v =
    let start = record v { services = of_protocol (protocol e.low) } in
    let same : of_ports (protocol e.low) (port e.low) (port e.low) ≡ services_in e = ap (λ m. of_ports (protocol e.low) (port e.low) (port m)) alone ∙ entry-ports e one.same in
    record {
      after = taken + 1 + 1;
      read = ports-there e one has (at taken (codes "eq" ∷ decimal (port e.low) ∷ []) start) refl
          ∙ one-read (taken + 1) (protocol e.low) (port e.low) start (own-protocol e one) (port-few e.low)
          ∙ ap (λ r. Ok (at (taken + 1 + 1) [] (record v { services = r }))) same;
    }

range-read : (e : PacketText) → OneProtocol e → has_ports (protocol e.low) ≡ true → (taken : ℕ) (v : Values) →
    PortsRead (codes "range" ∷ decimal (port e.low) ∷ decimal (port e.high) ∷ []) (of_protocol (protocol e.low)) (services_in e) taken v
range-read e one has taken v =
    let start = record v { services = of_protocol (protocol e.low) } in
    let mid = record v { services = of_ports (protocol e.low) (port e.low) 65535 } in
    record {
      after = taken + 1 + 1 + 1;
      read = ports-there e one has (at taken (codes "range" ∷ decimal (port e.low) ∷ decimal (port e.high) ∷ []) start) refl
          ∙ ap (then_do (place LastPort)) (first-read (taken + 1) (protocol e.low) (port e.low) (decimal (port e.high) ∷ []) start (own-protocol e one) (port-few e.low))
          ∙ last-read (taken + 1 + 1) (protocol e.low) (port e.low) (port e.high) mid (protocol-of (protocol e.low) (port e.low) 65535 one.few (port-few e.low) (omega arith))
          (port-of (protocol e.low) (port e.low) 65535 one.few (port-few e.low) (omega arith)) (port-order e one.same) (port-few e.high)
          ∙ ap (λ r. Ok (at (taken + 1 + 1 + 1) [] (record v { services = r }))) (entry-ports e one.same);
    }

all-ports-same : (e : PacketText) → OneProtocol e → are_all_ports e.low e.high ≡ true → of_protocol (protocol e.low) ≡ services_in e
all-ports-same e one every =
    let ends = and_parts _ _ every in
    let first : port e.low ≡ 0 = eqb-true _ _ ends.0 in
    let last : port e.high ≡ 65535 = eqb-true _ _ ends.1 in
    (λ i. of_ports (protocol e.low) (sym first i) (sym last i)) ∙ entry-ports e one.same

or-right : (a b : Bool) → a ≡ false → (a || b) ≡ true → b ≡ true
or-right true b no' is = absurd cc
or-right false b no' is = is

some-ports : (e : PacketText) → OneProtocol e → (taken : ℕ) (v : Values) → PortsRead (port_words e.low e.high) (of_protocol (protocol e.low)) (services_in e) taken v
some-ports e one taken v = by (are_all_ports e.low e.high) (e.low == e.high) refl refl
  where
    by : (b c : Bool) → are_all_ports e.low e.high ≡ b → (e.low == e.high) ≡ c →
        PortsRead (cond b [] (cond c (codes "eq" ∷ decimal (port e.low) ∷ []) (codes "range" ∷ decimal (port e.low) ∷ decimal (port e.high) ∷ []))) (of_protocol (protocol e.low))
        (services_in e) taken v
    by true c is other = none-read _ _ taken v (all-ports-same e one is)
    by false true is alone = eq-read e one (or-right _ _ is one.or_ports) (eqb-true _ _ alone) taken v
    by false false is other = range-read e one (or-right _ _ is one.or_ports) taken v

pub ports-read : (e : PacketText) → IsWritable e → (taken : ℕ) (v : Values) → PortsRead (port_words e.low e.high) (first_services e) (services_in e) taken v
ports-read e writable taken v = by (are_all e.low e.high) refl
  where
    by : (b : Bool) → are_all e.low e.high ≡ b → PortsRead (port_words e.low e.high) (cond b all (of_protocol (protocol e.low))) (services_in e) taken v
    by true is =
        let ends = and_parts _ _ is in
        let low : e.low ≡ 0 = eqb-true _ _ ends.0 in
        let high : e.high ≡ 16777215 = eqb-true _ _ ends.1 in
        let words : port_words e.low e.high ≡ [] = λ i. port_words (low i) (high i) in
        subst (λ ws. PortsRead ws all (services_in e) taken v) (sym words) (none-read all (services_in e) taken v (sym (is-between (services_in e) 0 16777215 low high)))
    by false is = some-ports e (one-protocol e writable is) taken v
