-- The plain line of each command has the command's words and kind, and is read as the command.
use Rattle.std.proofs.Common.{◌≡◌, ◌≢◌, ℕ, ◌^◌, ◌<◌, ◌≤◌, Bool, true, false, cond, ◌==◌, ◌-◌, ◌||◌, ◌⊎◌, inl}
use Rattle.std.proofs.Common.{inr, List, [], ◌∷◌, ◌++◌, Option, Some, None, refl, sym, ap, subst, ◌∙◌, arith, codes, decimal}
use Rattle.std.proofs.lemmas.Bool.{and_from, and_parts, eqb-true, le-leb}
use Rattle.std.proofs.lemmas.Fmt.{decimal_is_IsNumeral}
use Rattle.std.proofs.lemmas.Slice.Eq.{bytes_eq-Decides}
use Rattle.std.specs.Str.{bytes_eq}
use Rattle.arc_base.specs.declared.prefix.Prefix.{Prefix}
use Rattle.arc_base.specs.PrefixText.{address_text, number_of}
use Rattle.arc_base.proofs.NumberTexts.{number_of-decimal}
use Rattle.ios_lines.specs.Kinds.{IsInner, IsSingle, is_mark, kind, words_kind}
use Rattle.ios_lines.specs.Written.{ArePlain, IsWritten, is_plain, spaced}
use Rattle.ios_lines.proofs.WrittenLines.{indented-inner, indented-written, top-kinds, top-written}
use Rattle.ios_words.specs.declared.commands.Command.{Command}
use Rattle.ios_words.specs.declared.commands.Command.TheVariants as commands
use Rattle.ios_words.specs.declared.commands.PacketText.{PacketText}
use Rattle.ios_words.specs.declared.commands.RouteText.{RouteText}
use Rattle.ios_words.specs.declared.kinds.BlockKind.{BlockKind}
use Rattle.ios_words.specs.declared.kinds.BlockKind.TheVariants as blocks
use Rattle.ios_words.specs.Forms.{AreLengths, IsExtended, IsFrom, IsListNumber, IsOrder, IsStandard}
use Rattle.ios_words.specs.Commands.{is_extended_block, ReadBy}
use Rattle.ios_words.specs.Language.{rows}
use Rattle.arc_base.specs.NameForms.{is_name}
use Rattle.ios_words.specs.Numbers.{is_extended, is_from, is_standard, list_kind, mask}
use Rattle.ios_words.specs.Printed.{all_routes, entry_words, length_words, packet_words, route_text, route_words, sequence_words, side_words, top_line, verdict_word, IsClosingLine}
use Rattle.ios_words.specs.Prefixes.{holding, whole}
use Rattle.ios_words.specs.ServiceRanges.{all}
use Rattle.ios_words.proofs.PlainWords.{address-plain, decimal-plain, face-plain, list_number-plain, name-plain, prefix-plain}
use Rattle.ios_words.proofs.PrintedServices.{services_in}
use Rattle.ios_words.proofs.ServicesBetween.{is-between}
use Rattle.ios_words.proofs.Printed.{entry-read, list_line-read}
use Rattle.ios_words.proofs.PlainParts.{digits-mark, packet-plain, plain-append, side-plain, verdict-mark, verdict-plain}
use Rattle.ios_words.specs.Plain.{plain_line, plain_words, FitsIn, HasKind, IsReadBack, PlainLinesAreRead}
use Rattle.ios_words.proofs.ListReads.{list-line-read, prefix-line-read, standard-read, standard_text}
use Rattle.ios_words.proofs.PlainReads.{address, area, bandwidth, bgp-id, cost, covers, group, hostname, interface, list-head, neighbor-down}
use Rattle.ios_words.proofs.PlainReads.{neighbor-list, no-address, ospf-id, passive-default, passive-named, point, reference, remote-as, router-bgp, router-ospf, shutdown, tells}
use Rattle.ios_words.proofs.PlainSteps.{mask-small, wildcard-small}
use Rattle.ios_words.proofs.PrintedSides.{whole-prefix}

-- a number in its range is a plain word
few : (low high n : ℕ) → IsFrom low high n → high < 2 ^ 64 → is_plain (decimal n) ≡ true
few low high n h top = let most = h.1 in decimal-plain n (omega (arith, most))

standard-plain : (permit : Bool) (from : Prefix) → ArePlain (verdict_word permit ∷ side_words from)
standard-plain permit from = (verdict-plain permit, side-plain from)

-- the plain words of a line in a block, of which the first is no mark
inner : (word : List ℕ) (ws : List (List ℕ)) → ArePlain (word ∷ ws) → is_mark word ≡ false → IsWritten (spaced (word ∷ ws)) (word ∷ ws) × IsInner (spaced (word ∷ ws))
inner word ws plain unmarked = (indented-written (word ∷ ws) plain, indented-inner word ws plain unmarked)

-- and those of a top line
top : (word : List ℕ) (ws : List (List ℕ)) → is_plain word ≡ true → ArePlain ws → IsWritten (word ++ spaced ws) (word ∷ ws) × (kind (word ++ spaced ws) ≡ words_kind false (word ∷ ws))
top word ws first rest = (top-written word ws first rest, top-kinds word ws first rest)

read-as : (within : BlockKind) (command : Command) → IsWritten (plain_line within command) (plain_words within command) × HasKind within command (plain_line within command) →
    ReadBy (is_extended_block within) (plain_words within command) (rows within) command → IsReadBack within command
read-as within command line reads = record { written = line.0; kind = line.1; reads = reads }

-- a name that is not a word fails the test of it
other-name : (name word : List ℕ) → name ≢ word → bytes_eq name word ≡ false
other-name name word other = by (bytes_eq name word) refl
  where
    by : (b : Bool) → bytes_eq name word ≡ b → bytes_eq name word ≡ false
    by true e = absurd (other ((bytes_eq-Decides name word).0 e))
    by false e = e

-- the number of a list tells its kind
from-test : (low high n : ℕ) → IsFrom low high n → is_from low high n ≡ true
from-test low high n h = and_from _ _ (le-leb low n h.0) (le-leb n high h.1)

either-left : (a b : Bool) → a ≡ true → (a || b) ≡ true
either-left true b e = refl
either-left false b e = absurd cc

either-right : (a b : Bool) → b ≡ true → (a || b) ≡ true
either-right true b e = refl
either-right false b e = e

standard-test : (n : ℕ) → IsStandard n → is_standard n ≡ true
standard-test n (inl h) = either-left (is_from 1 99 n) (is_from 1300 1999 n) (from-test 1 99 n h)
standard-test n (inr h) = either-right (is_from 1 99 n) (is_from 1300 1999 n) (from-test 1300 1999 n h)

extended-test : (n : ℕ) → IsExtended n → is_extended n ≡ true
extended-test n (inl h) = either-left (is_from 100 199 n) (is_from 2000 2699 n) (from-test 100 199 n h)
extended-test n (inr h) = either-right (is_from 100 199 n) (is_from 2000 2699 n) (from-test 2000 2699 n h)

some-kind : (a b : Bool) → (a ≡ true) ⊎ (b ≡ true) → cond a (Some false) (cond b (Some true) None) ≡ None → ⊥
some-kind true b h e = absurd cc
some-kind false true h e = absurd cc
some-kind false false (inl h) e = absurd cc
some-kind false false (inr h) e = absurd cc

list-small : (n : ℕ) → IsStandard n ⊎ IsExtended n → n < 2 ^ 64
list-small n (inl (inl h)) = let most = h.1 in omega (arith, most)
list-small n (inl (inr h)) = let most = h.1 in omega (arith, most)
list-small n (inr (inl h)) = let most = h.1 in omega (arith, most)
list-small n (inr (inr h)) = let most = h.1 in omega (arith, most)

has-kind : (n : ℕ) → IsStandard n ⊎ IsExtended n → list_kind (Some n) ≡ None → ⊥
has-kind n (inl h) = some-kind (is_standard n) (is_extended n) (inl (standard-test n h))
has-kind n (inr h) = some-kind (is_standard n) (is_extended n) (inr (extended-test n h))

listed-kind : (text : List ℕ) → IsListNumber text → list_kind (number_of text) ≡ None → ⊥
listed-kind text h none =
    let here : number_of text ≡ Some h.number = ap number_of h.written ∙ number_of-decimal h.number (list-small h.number h.ranged) in
    has-kind h.number h.ranged (ap list_kind (sym here) ∙ none)

-- what an entry of a standard list says is all that it is
standard-is : (e : PacketText) → FitsIn (Some false) e → standard_text e.permit e.from ≡ e
standard-is e fits =
    let ends = and_parts _ _ fits.1 in
    let to : whole ≡ e.to = whole-prefix e.to fits.0 in
    let services : all ≡ services_in e = sym (is-between (services_in e) 0 16777215 (eqb-true _ _ ends.0) (eqb-true _ _ ends.1)) in
    λ i. record { permit = e.permit; from = e.from; to = to i; low = (services i).low; high = (services i).high; ordered = (services i).ordered; in_range = (services i).in_range }

-- an entry of a numbered list, as a line
record ListRead (text : List ℕ) (e : PacketText) (words : List (List ℕ)) : Type 0 where
  written : IsWritten (top_line (codes "access-list" ∷ text ∷ words)) (codes "access-list" ∷ text ∷ words)
  kind : IsSingle (top_line (codes "access-list" ∷ text ∷ words))
  reads : ReadBy false (codes "access-list" ∷ text ∷ words) (rows blocks.Top) (commands.ListLine text e)

extended-list : (text : List ℕ) (e : PacketText) → FitsIn (Some true) e → list_kind (number_of text) ≡ Some true → ListRead text e (entry_words (Some true) e)
extended-list text e fits is =
    let words = text ∷ packet_words e in
    let rest : ArePlain words = (list_number-plain text is, packet-plain e) in
    record {
      written = top-written (codes "access-list") words refl rest;
      kind = top-kinds (codes "access-list") words refl rest;
      reads = list_line-read text e fits is;
    }

list-reads : (text : List ℕ) (e : PacketText) (o : Option Bool) → list_kind (number_of text) ≡ o → FitsIn o e → IsListNumber text → ListRead text e (entry_words o e)
list-reads text e (Some true) is fits h = extended-list text e fits is
list-reads text e (Some false) is fits h =
    let words = text ∷ entry_words (Some false) e in
    let rest : ArePlain words = (ap is_plain h.written ∙ decimal-plain h.number (list-small h.number h.ranged), standard-plain e.permit e.from) in
    record {
      written = top-written (codes "access-list") words refl rest;
      kind = top-kinds (codes "access-list") words refl rest;
      reads = subst (λ x. ReadBy false (codes "access-list" ∷ words) (rows blocks.Top) (commands.ListLine text x)) (standard-is e fits) (list-line-read text e.permit e.from is);
    }
list-reads text e None is fits h = absurd (listed-kind text h is)

list-line : (text : List ℕ) (e : PacketText) → FitsIn (list_kind (number_of text)) e → IsListNumber text → IsReadBack blocks.Top (commands.ListLine text e)
list-line text e fits h = let line = list-reads text e (list_kind (number_of text)) refl fits h in record { written = line.written; kind = line.kind; reads = line.reads }

pub listed-line : (text : List ℕ) (e : PacketText) → FitsIn (Some true) e → list_kind (number_of text) ≡ Some true → IsReadBack blocks.Top (commands.ListLine text e)
listed-line text e fits is =
    let line = subst (λ o. ListRead text e (entry_words o e)) (sym is) (extended-list text e fits is) in
    record { written = line.written; kind = line.kind; reads = line.reads }

-- an entry of a prefix list
sequence-plain : (order : Option ℕ) → IsOrder 4294967294 order → ArePlain (sequence_words order)
sequence-plain None ranged = tt
sequence-plain (Some n) ranged = (refl, (few 1 4294967294 n ranged (omega arith), tt))

lengths-plain : (len low high : ℕ) → low ≤ 32 → high ≤ 32 → ArePlain (length_words len low high)
lengths-plain len low high few most = by (low == len) (high == len) (high == 32)
  where
    greatest : is_plain (decimal high) ≡ true
    greatest = decimal-plain high (omega (arith, most))

    by : (a b c : Bool) → ArePlain (cond a (cond b [] (codes "le" ∷ decimal high ∷ [])) (codes "ge" ∷ decimal low ∷ cond c [] (codes "le" ∷ decimal high ∷ [])))
    by true true c = tt
    by true false c = (refl, (greatest, tt))
    by false b true = (refl, (decimal-plain low (omega (arith, few)), tt))
    by false b false = (refl, (decimal-plain low (omega (arith, few)), (refl, (greatest, tt))))

route-plain : (e : RouteText) → AreLengths e.prefix e.low e.high → ArePlain (route_words e)
route-plain e h =
    let ordered = h.ordered in let most = h.most in
    (verdict-plain e.permit, (prefix-plain e.prefix, lengths-plain e.prefix.len e.low e.high (omega (arith, ordered, most)) most))

prefix-line : (name : List ℕ) (order : Option ℕ) (e : RouteText) → name ≢ codes "sequence-number" → is_name name ≡ true → IsOrder 4294967294 order →
    AreLengths e.prefix e.low e.high → IsReadBack blocks.Top (commands.PrefixLine name order e)
prefix-line name order e other is ranged lengths =
    let words = codes "prefix-list" ∷ name ∷ sequence_words order ++ route_words e in
    let rest : ArePlain words = (refl, (name-plain name is, plain-append (sequence_words order) (route_words e) (sequence-plain order ranged) (route-plain e lengths))) in
    record {
      written = top-written (codes "ip") words refl rest;
      kind = top-kinds (codes "ip") words refl rest;
      reads = prefix-line-read name order e is (other-name name (codes "sequence-number") other) ranged lengths;
    }

-- an entry of an extended list's block
extended-line : (order : Option ℕ) (e : PacketText) → FitsIn (Some true) e → IsOrder 2147483647 order → IsReadBack blocks.Extended (commands.Entry order e)
extended-line None e fits ranged =
    let line = inner (verdict_word e.permit) _ (packet-plain e) (verdict-mark e.permit) in
    record { written = line.0; kind = line.1; reads = entry-read None e fits ranged }
extended-line (Some n) e fits ranged =
    let small : n < 2 ^ 64 = let most = ranged.1 in omega (arith, most) in
    let line = inner (decimal n) (packet_words e) (decimal-plain n small, packet-plain e) (digits-mark (decimal n) (decimal_is_IsNumeral n small).0.1) in
    record { written = line.0; kind = line.1; reads = entry-read (Some n) e fits ranged }

-- an entry of a standard list's block
standard-line : (order : Option ℕ) (e : PacketText) → FitsIn (Some false) e → IsOrder 2147483647 order → IsReadBack blocks.Standard (commands.Entry order e)
standard-line None e fits ranged =
    let line = inner (verdict_word e.permit) (side_words e.from) (standard-plain e.permit e.from) (verdict-mark e.permit) in
    record {
      written = line.0;
      kind = line.1;
      reads = subst (λ x. ReadBy false (verdict_word e.permit ∷ side_words e.from) (rows blocks.Standard) (commands.Entry None x)) (standard-is e fits) (standard-read None e.permit e.from ranged);
    }
standard-line (Some n) e fits ranged =
    let small : n < 2 ^ 64 = let most = ranged.1 in omega (arith, most) in
    let line = inner (decimal n) (verdict_word e.permit ∷ side_words e.from) (decimal-plain n small, standard-plain e.permit e.from) (digits-mark (decimal n) (decimal_is_IsNumeral n small).0.1) in
    record {
      written = line.0;
      kind = line.1;
      reads = subst (λ x. ReadBy false (decimal n ∷ verdict_word e.permit ∷ side_words e.from) (rows blocks.Standard) (commands.Entry (Some n) x)) (standard-is e fits)
          (standard-read (Some n) e.permit e.from ranged);
    }

pub read-plain : PlainLinesAreRead
read-plain blocks.Top (commands.Hostname name) stands form fit = read-as blocks.Top (commands.Hostname name) (top (codes "hostname") (name ∷ []) refl (name-plain name form, tt)) (hostname name form)
read-plain blocks.Top (commands.Interface name) stands form fit =
    read-as blocks.Top (commands.Interface name) (top (codes "interface") (name ∷ []) refl (face-plain name form, tt)) (interface name form)
read-plain blocks.Top (commands.RouterOspf n) stands form fit =
    read-as blocks.Top (commands.RouterOspf n) (top (codes "router") (codes "ospf" ∷ decimal n ∷ []) refl (refl, (few 1 65535 n form (omega arith), tt))) (router-ospf n form)
read-plain blocks.Top (commands.RouterBgp n) stands form fit =
    read-as blocks.Top (commands.RouterBgp n) (top (codes "router") (codes "bgp" ∷ decimal n ∷ []) refl (refl, (few 1 4294967295 n form (omega arith), tt))) (router-bgp n form)
read-plain blocks.Top (commands.ListBlock true name) stands form fit =
    read-as blocks.Top (commands.ListBlock true name) (top (codes "ip") (codes "access-list" ∷ codes "extended" ∷ name ∷ []) refl (refl, (refl, (name-plain name form, tt)))) (list-head true name form)
read-plain blocks.Top (commands.ListBlock false name) stands form fit =
    read-as blocks.Top (commands.ListBlock false name) (top (codes "ip") (codes "access-list" ∷ codes "standard" ∷ name ∷ []) refl (refl, (refl, (name-plain name form, tt))))
    (list-head false name form)
read-plain blocks.Top (commands.ListLine text e) stands form fit = list-line text e stands form
read-plain blocks.Top (commands.PrefixLine name order e) stands form fit = prefix-line name order e stands form.0 form.1 form.2
read-plain blocks.Interface (commands.Address addr len) stands form fit =
    read-as blocks.Interface (commands.Address addr len)
    (inner (codes "ip") (codes "address" ∷ address_text addr ∷ address_text (mask len) ∷ [])
    (refl, (refl, (address-plain addr fit, (address-plain (mask len) (mask-small len), tt)))) refl) (address addr len fit form)
read-plain blocks.Interface commands.NoAddress stands form fit =
    read-as blocks.Interface commands.NoAddress (inner (codes "no") (codes "ip" ∷ codes "address" ∷ []) (refl, (refl, (refl, tt))) refl) (no-address)
read-plain blocks.Interface (commands.Shutdown true) stands form fit = read-as blocks.Interface (commands.Shutdown true) (inner (codes "shutdown") ([]) (refl, tt) refl) (shutdown true)
read-plain blocks.Interface (commands.Shutdown false) stands form fit =
    read-as blocks.Interface (commands.Shutdown false) (inner (codes "no") (codes "shutdown" ∷ []) (refl, (refl, tt)) refl) (shutdown false)
read-plain blocks.Interface (commands.Bandwidth n) stands form fit =
    read-as blocks.Interface (commands.Bandwidth n) (inner (codes "bandwidth") (decimal n ∷ []) (refl, (few 1 100000000 n form (omega arith), tt)) refl) (bandwidth n form)
read-plain blocks.Interface (commands.Cost n) stands form fit =
    read-as blocks.Interface (commands.Cost n) (inner (codes "ip") (codes "ospf" ∷ codes "cost" ∷ decimal n ∷ []) (refl, (refl, (refl, (few 1 65535 n form (omega arith), tt)))) refl) (cost n form)
read-plain blocks.Interface (commands.Area a) stands form fit =
    read-as blocks.Interface (commands.Area a)
    (inner (codes "ip") (codes "ospf" ∷ decimal a.process ∷ codes "area" ∷ decimal a.area ∷ [])
    (refl, (refl, (few 1 65535 a.process form (omega arith), (refl, (decimal-plain a.area (omega (arith, fit)), tt))))) refl) (area a form fit)
read-plain blocks.Interface (commands.Point true) stands form fit =
    read-as blocks.Interface (commands.Point true) (inner (codes "ip") (codes "ospf" ∷ codes "network" ∷ codes "point-to-point" ∷ []) (refl, (refl, (refl, (refl, tt)))) refl) (point true)
read-plain blocks.Interface (commands.Point false) stands form fit =
    read-as blocks.Interface (commands.Point false) (inner (codes "ip") (codes "ospf" ∷ codes "network" ∷ codes "broadcast" ∷ []) (refl, (refl, (refl, (refl, tt)))) refl) (point false)
read-plain blocks.Interface (commands.Group name true) stands form fit =
    read-as blocks.Interface (commands.Group name true) (inner (codes "ip") (codes "access-group" ∷ name ∷ codes "in" ∷ []) (refl, (refl, (name-plain name form, (refl, tt)))) refl)
    (group name true form)
read-plain blocks.Interface (commands.Group name false) stands form fit =
    read-as blocks.Interface (commands.Group name false) (inner (codes "ip") (codes "access-group" ∷ name ∷ codes "out" ∷ []) (refl, (refl, (name-plain name form, (refl, tt)))) refl)
    (group name false form)
read-plain blocks.Ospf (commands.Covers p n) stands form fit =
    read-as blocks.Ospf (commands.Covers p n)
    (inner (codes "network") (address_text p.addr ∷ address_text (2 ^ (32 - p.len) - 1) ∷ codes "area" ∷ decimal n ∷ [])
    (refl, (address-plain p.addr p.in_range, (address-plain (2 ^ (32 - p.len) - 1) (wildcard-small p.len), (refl, (decimal-plain n (omega (arith, fit)), tt))))) refl) (covers p n fit)
read-plain blocks.Ospf (commands.Passive true (Some name)) stands form fit =
    read-as blocks.Ospf (commands.Passive true (Some name)) (inner (codes "passive-interface") (name ∷ []) (refl, (face-plain name form, tt)) refl) (passive-named true name form)
read-plain blocks.Ospf (commands.Passive false (Some name)) stands form fit =
    read-as blocks.Ospf (commands.Passive false (Some name)) (inner (codes "no") (codes "passive-interface" ∷ name ∷ []) (refl, (refl, (face-plain name form, tt))) refl)
    (passive-named false name form)
read-plain blocks.Ospf (commands.Passive true None) stands form fit =
    read-as blocks.Ospf (commands.Passive true None) (inner (codes "passive-interface") (codes "default" ∷ []) (refl, (refl, tt)) refl) (passive-default true)
read-plain blocks.Ospf (commands.Passive false None) stands form fit =
    read-as blocks.Ospf (commands.Passive false None) (inner (codes "no") (codes "passive-interface" ∷ codes "default" ∷ []) (refl, (refl, (refl, tt))) refl) (passive-default false)
read-plain blocks.Ospf (commands.Reference n) stands form fit =
    read-as blocks.Ospf (commands.Reference n) (inner (codes "auto-cost") (codes "reference-bandwidth" ∷ decimal n ∷ []) (refl, (refl, (few 1 4294967 n form (omega arith), tt))) refl)
    (reference n form)
read-plain blocks.Ospf (commands.RouterId addr) stands form fit =
    read-as blocks.Ospf (commands.RouterId addr) (inner (codes "router-id") (address_text addr ∷ []) (refl, (address-plain addr fit, tt)) refl) (ospf-id addr fit)
read-plain blocks.Bgp (commands.RemoteAs addr n) stands form fit =
    read-as blocks.Bgp (commands.RemoteAs addr n)
    (inner (codes "neighbor") (address_text addr ∷ codes "remote-as" ∷ decimal n ∷ []) (refl, (address-plain addr fit, (refl, (few 1 4294967295 n form (omega arith), tt)))) refl)
    (remote-as addr n fit form)
read-plain blocks.Bgp (commands.NeighborDown addr true) stands form fit =
    read-as blocks.Bgp (commands.NeighborDown addr true) (inner (codes "neighbor") (address_text addr ∷ codes "shutdown" ∷ []) (refl, (address-plain addr fit, (refl, tt))) refl)
    (neighbor-down addr true fit)
read-plain blocks.Bgp (commands.NeighborDown addr false) stands form fit =
    read-as blocks.Bgp (commands.NeighborDown addr false)
    (inner (codes "no") (codes "neighbor" ∷ address_text addr ∷ codes "shutdown" ∷ []) (refl, (refl, (address-plain addr fit, (refl, tt)))) refl) (neighbor-down addr false fit)
read-plain blocks.Bgp (commands.NeighborList addr name) stands form fit =
    read-as blocks.Bgp (commands.NeighborList addr name)
    (inner (codes "neighbor") (address_text addr ∷ codes "prefix-list" ∷ name ∷ codes "in" ∷ []) (refl, (address-plain addr fit, (refl, (name-plain name form, (refl, tt))))) refl)
    (neighbor-list addr name fit form)
read-plain blocks.Bgp (commands.Tells p) stands form fit = read-as blocks.Bgp (commands.Tells p)
    (inner (codes "network") (address_text p.addr ∷ codes "mask" ∷ address_text (mask p.len) ∷ [])
    (refl, (address-plain p.addr p.in_range, (refl, (address-plain (mask p.len) (mask-small p.len), tt)))) refl) (tells p)
read-plain blocks.Bgp (commands.RouterId addr) stands form fit =
    read-as blocks.Bgp (commands.RouterId addr) (inner (codes "bgp") (codes "router-id" ∷ address_text addr ∷ []) (refl, (refl, (address-plain addr fit, tt))) refl) (bgp-id addr fit)
read-plain blocks.Extended (commands.Entry order e) stands form fit = extended-line order e stands form
read-plain blocks.Standard (commands.Entry order e) stands form fit = standard-line order e stands form
read-plain _ _ stands form fit = absurd stands

-- an entry of one prefix alone, and that of all prefixes
pub route-line : (name : List ℕ) (order : Option ℕ) (permit : Bool) (p : Prefix) → is_name name ≡ true → name ≢ codes "sequence-number" →
    IsOrder 4294967294 order → IsReadBack blocks.Top (commands.PrefixLine name order (route_text permit p))
route-line name order permit p is other ranged =
    let most : p.len ≤ 32 = p.length in
    prefix-line name order (route_text permit p) other is ranged (record { least = omega arith; ordered = omega arith; most = most })

all-length : whole.len ≡ 0
unfolding holding
all-length = refl

pub all-routes-line : (name : List ℕ) (order : Option ℕ) → is_name name ≡ true → name ≢ codes "sequence-number" → IsOrder 4294967294 order →
    IsReadBack blocks.Top (commands.PrefixLine name order all_routes)
all-routes-line name order is other ranged = prefix-line name order all_routes other is ranged (record { least = omega (arith, all-length); ordered = omega arith; most = omega arith })

pub closing-line : IsClosingLine (codes "!")
closing-line = record { written = top-written (codes "!") [] refl tt; kind = top-kinds (codes "!") [] refl tt }
