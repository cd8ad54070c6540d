-- What a line reads as has its forms and ranges.
use Rattle.std.proofs.Common.{◌≡◌, ℕ, ◌≤◌, Bool, true, false, ◌&&◌, ◌==◌, List, [], ◌∷◌, Some, IsTrue, refl, sym, subst, ◌∙◌, find}
use Rattle.std.proofs.lemmas.Bool.{and_parts, eqb-true, cond-true, cond-false}
use Rattle.std.specs.List.{list_all}
use Rattle.ios_words.specs.declared.kinds.BlockKind.{BlockKind}
use Rattle.ios_words.specs.declared.kinds.BlockKind.TheVariants as blocks
use Rattle.ios_words.specs.declared.rows.Meaning.{Meaning}
use Rattle.ios_words.specs.declared.rows.Meaning.TheVariants.{Hostname, Interface, RouterOspf, RouterBgp, ExtendedList, StandardList, ListLine, PrefixLine, Address, NoAddress, Shutdown}
use Rattle.ios_words.specs.declared.rows.Meaning.TheVariants.{NoShutdown, Bandwidth, Cost, Area, PointToPoint}
use Rattle.ios_words.specs.declared.rows.Meaning.TheVariants.{Broadcast, GroupIn, GroupOut, Covers, Passive, NoPassive, PassiveByDefault, NoPassiveByDefault, Reference, RouterId, RemoteAs}
use Rattle.ios_words.specs.declared.rows.Meaning.TheVariants.{NeighborDown, NoNeighborDown, NeighborList, Tells, Entry, Inert}
use Rattle.ios_words.specs.Commands.{completes, is_extended_block, line_words}
use Rattle.ios_words.specs.Forms.{IsFrom, IsOrder, AreLengths, IsInForm, CommandsAreInForm, AddressesFit, AllAddressesFit}
use Rattle.ios_words.specs.Language.{rows}
use Rattle.ios_words.specs.Meanings.{give}
use Rattle.arc_base.specs.NameForms.{is_name}
use Rattle.ios_words.specs.Rows.{Rule}
use Rattle.ios_words.specs.Values.{Values}
use Rattle.ios_words.proofs.Known.{Known, nothing, learn_parts, Holds, read-holds}

-- whether the number is known to be from the first to the second
abbrev is_ranged : ℕ → ℕ → Known → Bool
is_ranged low high k = k.numbered && ((k.low == low) && (k.high == high))

-- whether what is known is what a command of this meaning asks
abbrev fits : Meaning → Known → Bool
fits Hostname k = k.name
fits Interface k = k.face
fits RouterOspf k = is_ranged 1 65535 k
fits RouterBgp k = is_ranged 1 4294967295 k
fits ExtendedList k = k.name
fits StandardList k = k.name
fits ListLine k = k.listed
fits PrefixLine k = k.name && (k.routed && (k.order == 4294967294))
fits Address k = k.measured && (k.least == 1)
fits NoAddress k = true
fits Shutdown k = true
fits NoShutdown k = true
fits Bandwidth k = is_ranged 1 100000000 k
fits Cost k = is_ranged 1 65535 k
fits Area k = is_ranged 1 65535 k
fits PointToPoint k = true
fits Broadcast k = true
fits GroupIn k = k.name
fits GroupOut k = k.name
fits Covers k = true
fits Passive k = k.face
fits NoPassive k = k.face
fits PassiveByDefault k = true
fits NoPassiveByDefault k = true
fits Reference k = is_ranged 1 4294967 k
fits RouterId k = true
fits RemoteAs k = is_ranged 1 4294967295 k
fits NeighborDown k = true
fits NoNeighborDown k = true
fits NeighborList k = k.name
fits Tells k = true
fits Entry k = k.order == 2147483647
fits Inert k = true

-- whether the row gives what its meaning asks
abbrev rule_fits : Rule → Bool
rule_fits rule = fits rule.meaning (learn_parts rule.pieces nothing)

all_fit : (within : BlockKind) → list_all rule_fits (rows within) ≡ true
all_fit blocks.Top = refl
all_fit blocks.Interface = refl
all_fit blocks.Ospf = refl
all_fit blocks.Bgp = refl
all_fit blocks.Extended = refl
all_fit blocks.Standard = refl
all_fit blocks.Inert = refl

in_range : (low high : ℕ) (k : Known) (v : Values) → Holds k v → is_ranged low high k ≡ true → IsFrom low high v.number
in_range low high k v h e =
    let parts = and_parts _ _ e in
    let ends = and_parts _ _ parts.1 in
    let P : ℕ → ℕ → Type 0 = λ a b. (a ≤ v.number) × (v.number ≤ b) in
    subst (λ (b : ℕ). P low b) (eqb-true _ _ ends.1) (subst (λ (a : ℕ). P a k.high) (eqb-true _ _ ends.0) (h.number parts.0))

long_enough : (k : Known) (v : Values) → Holds k v → (k.measured && (k.least == 1)) ≡ true → IsFrom 1 32 v.length
long_enough k v h e =
    let parts = and_parts _ _ e in
    subst (λ (a : ℕ). (a ≤ v.length) × (v.length ≤ 32)) (eqb-true _ _ parts.1) (h.length parts.0)

in_order : (high : ℕ) (k : Known) (v : Values) → Holds k v → (k.order == high) ≡ true → IsOrder high v.order
in_order high k v h e = subst (λ (n : ℕ). IsOrder n v.order) (eqb-true _ _ e) h.order

prefix_line : (k : Known) (v : Values) → Holds k v → (k.name && (k.routed && (k.order == 4294967294))) ≡ true → IsTrue (is_name v.text) × IsOrder 4294967294 v.order × AreLengths v.to v.low v.high
prefix_line k v h e =
    let parts = and_parts _ _ e in
    let rest = and_parts _ _ parts.1 in
    (h.name parts.0, in_order 4294967294 k v h rest.1, h.routed rest.0)

given : (meaning : Meaning) (k : Known) (v : Values) → Holds k v → fits meaning k ≡ true → IsInForm (give meaning v)
given Hostname k v h e = h.name e
given Interface k v h e = h.face e
given RouterOspf k v h e = in_range 1 65535 k v h e
given RouterBgp k v h e = in_range 1 4294967295 k v h e
given ExtendedList k v h e = h.name e
given StandardList k v h e = h.name e
given ListLine k v h e = h.listed e
given PrefixLine k v h e = prefix_line k v h e
given Address k v h e = long_enough k v h e
given NoAddress k v h e = tt
given Shutdown k v h e = tt
given NoShutdown k v h e = tt
given Bandwidth k v h e = in_range 1 100000000 k v h e
given Cost k v h e = in_range 1 65535 k v h e
given Area k v h e = in_range 1 65535 k v h e
given PointToPoint k v h e = tt
given Broadcast k v h e = tt
given GroupIn k v h e = h.name e
given GroupOut k v h e = h.name e
given Covers k v h e = tt
given Passive k v h e = h.face e
given NoPassive k v h e = h.face e
given PassiveByDefault k v h e = tt
given NoPassiveByDefault k v h e = tt
given Reference k v h e = in_range 1 4294967 k v h e
given RouterId k v h e = tt
given RemoteAs k v h e = in_range 1 4294967295 k v h e
given NeighborDown k v h e = tt
given NoNeighborDown k v h e = tt
given NeighborList k v h e = h.name e
given Tells k v h e = tt
given Entry k v h e = in_order 2147483647 k v h e
given Inert k v h e = tt

found_step : (p q : Rule → Bool) (x : Rule) (xs : List Rule) (y : Rule) → q x ≡ true → find p (x ∷ xs) ≡ Some y → (find p xs ≡ Some y → q y ≡ true) → (b : Bool) → p x ≡ b → q y ≡ true
found_step p q x xs y here e later true is = let same : Some x ≡ Some y = sym (cond-true _ _ _ is) ∙ e in let at : x ≡ y = cc in subst (λ z. q z ≡ true) at here
found_step p q x xs y here e later false is = later (sym (cond-false _ _ _ is) ∙ e)

found_passes : (p q : Rule → Bool) (xs : List Rule) (y : Rule) → list_all q xs ≡ true → find p xs ≡ Some y → q y ≡ true
found_passes p q [] y all e = absurd (cc)
found_passes p q (x ∷ xs) y all e = found_step p q x xs y (and_parts _ _ all).0 e (found_passes p q xs y (and_parts _ _ all).1) (p x) refl

pub in_form : CommandsAreInForm
in_form text line within command reads =
    let sound : rule_fits reads.rule ≡ true = found_passes (completes (is_extended_block within) (line_words text line)) rule_fits (rows within) reads.rule (all_fit within) reads.first in
    subst IsInForm (sym reads.gives)
    (given reads.rule.meaning (learn_parts reads.rule.pieces nothing) reads.values (read-holds (is_extended_block within) (line_words text line) reads.rule reads.values reads.complete) sound)

addressed : (meaning : Meaning) (k : Known) (v : Values) → Holds k v → AddressesFit (give meaning v)
addressed Address k v h = h.address
addressed Area k v h = h.area
addressed Covers k v h = h.area
addressed RouterId k v h = h.address
addressed RemoteAs k v h = h.address
addressed NeighborDown k v h = h.address
addressed NoNeighborDown k v h = h.address
addressed NeighborList k v h = h.address
addressed _ k v h = tt

pub addresses_fit : AllAddressesFit
addresses_fit text line within command reads =
    subst AddressesFit (sym reads.gives) (addressed reads.rule.meaning (learn_parts reads.rule.pieces nothing) reads.values
    (read-holds (is_extended_block within) (line_words text line) reads.rule reads.values reads.complete))
