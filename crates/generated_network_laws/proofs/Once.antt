-- Nothing stands twice in a generated file.
use Rattle.std.proofs.Common.{◌≡◌, ◌≢◌, ℕ, zero, suc, ◌+◌, ◌*◌, ◌^◌, ◌<◌, ◌≤◌, true, false, Some, None, List, [], ◌∷◌, ◌++◌, length, codes, decimal, filter, refl, sym, subst, ◌∙◌, arith, ⊎_elim}
use Rattle.std.specs.Prelude.{Any}
use Rattle.std.specs.List.{AllByRecursion, range_with_len}
use Rattle.std.proofs.lemmas.Bool.{cases_Bool, cond-true, cond-false}
use Rattle.std.proofs.lemmas.Fmt.{decimal_injective}
use Rattle.std.proofs.lemmas.List.{append_cancel_left}
use Rattle.std.proofs.lemmas.List.Elements.{All-from_recursion}
use Rattle.std.proofs.lemmas.List.Kept.{AllPairs-cons}
use Rattle.arc_base.proofs.Items as items
use Rattle.ios_words.specs.declared.commands.Command.{Command}
use Rattle.ios_words.specs.declared.commands.Command.TheVariants as commands
use Rattle.ios_words.specs.Prefixes.{whole}
use Rattle.ios_config.specs.declared.commands.FileCommand.{FileCommand}
use Rattle.ios_config.specs.Inserted.{command_at}
use Rattle.ios_config.specs.Twice.{Stand, Interface, Ospf, stand_of, excluded, Clash, StandOnce}
use Rattle.net_gen.specs.Plans.{numbers, link_count, has_end, port}
use Rattle.net_gen.specs.RouterFiles.{host_name, face_name, address}
use Rattle.generated_network_laws.proofs.Files.{end_of, link_commands, last_commands, end_commands, name_command, host_commands, file_commands}
use Rattle.generated_network_laws.proofs.Items.{only, none}
use Rattle.generated_network_laws.proofs.Plans.{port-some, port-few, port-rises}

-- names with different numbers differ
pub face-name-one : (k l : ℕ) → k < 2 ^ 64 → l < 2 ^ 64 → face_name k ≡ face_name l → k ≡ l
face-name-one k l low few same = decimal_injective k l low few (append_cancel_left (codes "GigabitEthernet0/") (decimal k) (decimal l) same)

pub host-name-one : (k l : ℕ) → k < 2 ^ 64 → l < 2 ^ 64 → host_name k ≡ host_name l → k ≡ l
host-name-one k l low few same = decimal_injective k l low few (append_cancel_left (codes "r") (decimal k) (decimal l) same)

-- the interfaces over links have greater and greater numbers, all above this one
abbrev pub PortsRise : ℕ → ℕ → ℕ → List ℕ → Type 0
PortsRise n router p [] = Unit {0}
PortsRise n router p (link ∷ links) = (p < port n router link) × (port n router link < 64) × PortsRise n router (port n router link) links

-- a number that is above another and small
abbrev pub IsAbove : ℕ → ℕ → ℕ → ℕ → Type 0
IsAbove n router p link = (p < port n router link) × (port n router link < 64)

pub all-above : (n router p q : ℕ) (links : List ℕ) → p ≤ q → PortsRise n router q links → AllByRecursion (IsAbove n router p) links
all-above n router p q [] low rise = tt
all-above n router p q (link ∷ links) low rise = let first = rise.0 in ((omega arith, rise.1), all-above n router p (port n router link) links (omega arith) rise.2)

rise-from : (n router p a m : ℕ) → a + m ≤ 64 →
    ((link : ℕ) → a ≤ link → link < a + m → has_end n router link ≡ true → (p < port n router link) × (port n router link < 64)) → PortsRise n router p (filter (has_end n router) (range_with_len a m))
rise-from n router p a zero few above = tt
rise-from n router p a (suc m) few above =
    ⊎_elim
    (λ (yes : has_end n router a ≡ true).
    let here = above a (omega arith) (omega arith) yes in
    subst (PortsRise n router p) (sym (cond-true (has_end n router a) (a ∷ rest) rest yes)) (
      here.0,
      here.1,
      rise-from n router (port n router a) (a + 1) m (omega arith)
          (λ link low high has. (port-rises n router a link (omega arith) has, (above link (omega arith) (omega arith) has).1)),
    ))
    (λ (no : has_end n router a ≡ false).
    subst (PortsRise n router p) (sym (cond-false (has_end n router a) (a ∷ rest) rest no))
    (rise-from n router p (a + 1) m (omega arith) (λ link low high has. above link (omega arith) (omega arith) has)))
    (cases_Bool (has_end n router a))
  where
    rest : List ℕ
    rest = filter (has_end n router) (range_with_len (a + 1) m)

-- a command that makes nothing stand, or one that excludes nothing
silent : (earlier later : Command) → stand_of earlier ≡ None → ¬ Clash earlier later
silent earlier later empty (k, stand, l, e, is) = let clash : Some stand ≡ None = sym is ∙ empty in absurd cc

open-to : (earlier later : Command) → excluded later ≡ [] → ¬ Clash earlier later
open-to earlier later empty clash = none (λ stand. stand_of earlier ≡ Some stand) (subst (Any (λ stand. stand_of earlier ≡ Some stand)) empty clash)

only-one : (earlier later : Command) (stand : Stand) → excluded later ≡ stand ∷ [] → (stand_of earlier ≡ Some stand → ⊥) → ¬ Clash earlier later
only-one earlier later stand is other clash =
    other (only (λ s. stand_of earlier ≡ Some s) stand (subst (Any (λ s. stand_of earlier ≡ Some s)) is clash))

faces-apart : (x y : List ℕ) → x ≢ y → ¬ Clash (commands.Interface x) (commands.Interface y)
faces-apart x y other = only-one (commands.Interface x) (commands.Interface y) (Interface y) refl (λ (same : Some (Interface x) ≡ Some (Interface y)). other cc)

abbrev IsFree : ℕ → FileCommand → Type 0
IsFree p d = ¬ Clash (commands.Interface (face_name p)) d.command

last-free : (p end : ℕ) → AllByRecursion (IsFree p) (last_commands end)
last-free p end = (
  only-one (commands.Interface (face_name p)) (commands.RouterOspf 1) (Ospf 1) refl (λ (same : Some (Interface (face_name p)) ≡ Some (Ospf 1)). absurd cc),
  (open-to (commands.Interface (face_name p)) (commands.Covers whole 0) refl, (open-to (commands.Interface (face_name p)) commands.Inert refl, tt)),
)

links-free : (n router p at end : ℕ) (links : List ℕ) → p < 64 → AllByRecursion (IsAbove n router p) links → AllByRecursion (IsFree p) (link_commands n router at links ++ last_commands end)
links-free n router p at end [] few above = last-free p end
links-free n router p at end (link ∷ links) few above =
    let high = above.0.0 in
    let small = above.0.1 in (
      faces-apart (face_name p) (face_name (port n router link)) (λ same. let one = face-name-one p (port n router link) (omega arith) (omega arith) same in omega arith),
      (open-to (commands.Interface (face_name p)) (commands.Address (address 0 link (end_of n router link)) 30) refl, links-free n router p (at + 3) end links few above.1),
    )

abbrev Apart : FileCommand → FileCommand → Type 0
Apart b c = ¬ Clash b.command c.command

more-apart : (c : FileCommand) (cs : List FileCommand) → AllByRecursion (Apart c) cs → StandOnce cs → StandOnce (c ∷ cs)
more-apart c cs all once = AllPairs-cons Apart c cs (All-from_recursion (Apart c) cs all) once

all-of : {X : Type 0} (P : X → Type 0) → ((x : X) → P x) → (xs : List X) → AllByRecursion P xs
all-of P each [] = tt
all-of P each (x ∷ xs) = (each x, all-of P each xs)

silent-apart : (c : FileCommand) (cs : List FileCommand) → stand_of c.command ≡ None → StandOnce cs → StandOnce (c ∷ cs)
silent-apart c cs empty once = more-apart c cs (all-of (Apart c) (λ d. silent c.command d.command empty) cs) once

last-once : (end : ℕ) → StandOnce (last_commands end)
last-once end =
    more-apart (command_at (end + 1) (end + 1) (commands.RouterOspf 1)) (command_at (end + 2) (end + 1) (commands.Covers whole 0) ∷ end_commands end)
    (open-to (commands.RouterOspf 1) (commands.Covers whole 0) refl, (open-to (commands.RouterOspf 1) commands.Inert refl, tt))
    (silent-apart (command_at (end + 2) (end + 1) (commands.Covers whole 0)) (end_commands end) refl
    (silent-apart (command_at (end + 4) (end + 4) commands.Inert) [] refl (items.AllPairs-none Apart)))

links-once : (n router p at end : ℕ) (links : List ℕ) → PortsRise n router p links → StandOnce (link_commands n router at links ++ last_commands end)
links-once n router p at end [] rise = last-once end
links-once n router p at end (link ∷ links) rise =
    let q = port n router link in
    let rest = link_commands n router (at + 3) links ++ last_commands end in
    let address_command = command_at (at + 2) (at + 1) (commands.Address (address 0 link (end_of n router link)) 30) in
    more-apart (command_at (at + 1) (at + 1) (commands.Interface (face_name q))) (address_command ∷ rest)
    (open-to (commands.Interface (face_name q)) address_command.command refl, links-free n router q (at + 3) end links rise.1 (all-above n router q q links (omega arith) rise.2))
    (silent-apart address_command rest refl (links-once n router q (at + 3) end links rise.2))

-- nothing stands twice
pub stands-once : (n router : ℕ) (links : List ℕ) → PortsRise n router 0 links → StandOnce (file_commands n router links)
stands-once n router links rise =
    let end = 5 + 3 * length links in
    let rest = link_commands n router 5 links ++ last_commands end in
    let address_command = command_at 4 3 (commands.Address (address router 0 1) 24) in
    silent-apart (name_command router) (host_commands router ++ rest) refl
    (more-apart (command_at 3 3 (commands.Interface (face_name 0))) (address_command ∷ rest)
    (open-to (commands.Interface (face_name 0)) address_command.command refl, links-free n router 0 5 end links (omega arith) (all-above n router 0 0 links (omega arith) rise))
    (silent-apart address_command rest refl (links-once n router 0 5 end links rise)))

-- the interfaces over a router's links have greater and greater numbers
pub ports-rise : (n router : ℕ) → n ≤ 40 → PortsRise n router 0 (filter (has_end n router) (numbers (link_count n)))
ports-rise n router few =
    rise-from n router 0 1 (link_count n) (omega arith)
    (λ link low high has. let some = port-some n router link low has in let most = port-few n router link in (omega arith, omega arith))
