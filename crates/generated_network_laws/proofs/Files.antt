-- The commands of a generated file, line by line.
use Rattle.std.proofs.Common.{◌≡◌, ℕ, suc, ◌+◌, ◌*◌, ◌^◌, ◌<◌, ◌≤◌, ◌==◌, List}
use Rattle.std.proofs.Common.{[], ◌∷◌, ◌++◌, length, codes, refl, sym, ap, subst, ◌∙◌, arith, if◌then◌else◌, append-nil, append_assoc}
use Rattle.std.specs.List.{AllByRecursion, flat_map}
use Rattle.std.proofs.lemmas.List.{length_push}
use Rattle.std.proofs.lemmas.List.Elements.{Contains-push}
use Rattle.ios_words.specs.declared.commands.Command.TheVariants as commands
use Rattle.ios_words.specs.declared.kinds.BlockKind.TheVariants as blocks
use Rattle.ios_words.specs.Prefixes.{whole}
use Rattle.ios_words.proofs.PlainLines.{closing-line}
use Rattle.ios_config.specs.declared.commands.FileCommand.{FileCommand}
use Rattle.ios_config.specs.Inserted.{command_at}
use Rattle.net_gen.proofs.Lengths.{end_small}
use Rattle.net_gen.specs.Plans.{a_router, port}
use Rattle.net_gen.specs.RouterFiles.{host_name, face_name, address, name_line, face_line, address_line, process_line, covers_line, face_lines, name_lines, host_lines, link_lines, process_lines}
use Rattle.generated_network_laws.proofs.LineReads.{name-read, face-read, address-read, process-read, covers-read, end-read}
use Rattle.generated_network_laws.proofs.AddedLines.{AreRead, head-more, single-more, closing-more, inner-more}
use Rattle.generated_network_laws.proofs.Texts.{IsPlain}

-- the commands of an interface, whose lines come after so many others
abbrev pub face_commands : ℕ → List ℕ → ℕ → ℕ → List FileCommand
face_commands at name addr len = command_at (at + 1) (at + 1) (commands.Interface name) ∷ command_at (at + 2) (at + 1) (commands.Address addr len) ∷ []

-- the last byte of the router's address on the link
abbrev pub end_of : ℕ → ℕ → ℕ → ℕ
end_of n router link = if a_router n link == router then 1 else 2

abbrev pub link_face_commands : ℕ → ℕ → ℕ → ℕ → List FileCommand
link_face_commands n router at link = face_commands at (face_name (port n router link)) (address 0 link (end_of n router link)) 30

-- the commands of the interfaces over these links
abbrev pub link_commands : ℕ → ℕ → ℕ → List ℕ → List FileCommand
link_commands n router at [] = []
link_commands n router at (link ∷ links) = link_face_commands n router at link ++ link_commands n router (at + 3) links

-- the commands of the process, and that of the last line
abbrev pub process_commands : ℕ → List FileCommand
process_commands at = command_at (at + 1) (at + 1) (commands.RouterOspf 1) ∷ command_at (at + 2) (at + 1) (commands.Covers whole 0) ∷ []

abbrev pub end_commands : ℕ → List FileCommand
end_commands at = command_at (at + 4) (at + 4) commands.Inert ∷ []

abbrev pub last_commands : ℕ → List FileCommand
last_commands at = process_commands at ++ end_commands at

-- the commands of a file whose router has these links
abbrev pub name_command : ℕ → FileCommand
name_command router = command_at 1 0 (commands.Hostname (host_name router))

abbrev pub host_commands : ℕ → List FileCommand
host_commands router = face_commands 2 (face_name 0) (address router 0 1) 24

abbrev pub file_commands : ℕ → ℕ → List ℕ → List FileCommand
file_commands n router links = name_command router ∷ host_commands router ++ (link_commands n router 5 links ++ last_commands (5 + 3 * length links))

-- lines and commands, said in another way
same-read : (lines ls : List (List ℕ)) (cs ds : List FileCommand) (block : ℕ) → lines ≡ ls → cs ≡ ds → AreRead lines cs block → AreRead ls ds block
same-read lines ls cs ds block one two r = subst (λ l. AreRead l ds block) one (subst (λ d. AreRead lines d block) two r)

mark-plain : IsPlain (codes "!")
mark-plain = record { free = closing-line.written.free; no_return = closing-line.written.no_return }

push-three : {X : Type 0} (xs : List X) (a b c : X) → ((xs ++ a ∷ []) ++ b ∷ []) ++ c ∷ [] ≡ xs ++ a ∷ b ∷ c ∷ []
push-three xs a b c = simp append_assoc

push-two : {X : Type 0} (xs : List X) (a b : X) → (xs ++ a ∷ []) ++ b ∷ [] ≡ xs ++ a ∷ b ∷ []
push-two xs a b = simp append_assoc

module _ (lines : List (List ℕ)) (cs : List FileCommand) (block : ℕ) (r : AreRead lines cs block) where
  -- the lines of an interface
  face-more : (number addr len : ℕ) → number < 64 → addr < 2 ^ 32 → 1 ≤ len → len ≤ 32 →
      AreRead (lines ++ face_lines number addr len) (cs ++ face_commands (length lines) (face_name number) addr len) 0
  face-more number addr len few small some most =
      let at = length lines in
      let head = command_at (at + 1) (at + 1) (commands.Interface (face_name number)) in
      let one = head-more lines cs block r (face_line number) (commands.Interface (face_name number)) (face-read number few) in
      let two = inner-more (lines ++ face_line number ∷ []) (cs ++ head ∷ []) (at + 1) one (address_line addr len) blocks.Interface (commands.Address addr len) head
      (address-read addr len small some most)
      (λ (none : at + 1 ≡ 0). absurd (omega arith)) (Contains-push cs head) refl refl (λ (other : blocks.Interface ≡ blocks.Inert). absurd cc) in
      let next = command_at (length (lines ++ face_line number ∷ []) + 1) (at + 1) (commands.Address addr len) in
      let three = closing-more ((lines ++ face_line number ∷ []) ++ address_line addr len ∷ []) ((cs ++ head ∷ []) ++ next ∷ []) (at + 1) two (codes "!") mark-plain closing-line.kind in
      let place : length (lines ++ face_line number ∷ []) + 1 ≡ at + 2 = let long = length_push lines (face_line number) in omega arith in
      same-read _ (lines ++ face_lines number addr len) _ (cs ++ face_commands at (face_name number) addr len) 0
      (push-three lines (face_line number) (address_line addr len) (codes "!"))
      (push-two cs head next ∙ ap (λ (k : ℕ). cs ++ head ∷ command_at k (at + 1) (commands.Address addr len) ∷ []) place) three

  -- the lines of the process, and the last line
  last-more : AreRead (lines ++ process_lines) (cs ++ last_commands (length lines)) (length lines + 4)
  last-more =
      let at = length lines in
      let head = command_at (at + 1) (at + 1) (commands.RouterOspf 1) in
      let l1 = lines ++ process_line ∷ [] in
      let one = head-more lines cs block r process_line (commands.RouterOspf 1) process-read in
      let two = inner-more l1 (cs ++ head ∷ []) (at + 1) one covers_line blocks.Ospf (commands.Covers whole 0) head covers-read
      (λ (none : at + 1 ≡ 0). absurd (omega arith)) (Contains-push cs head) refl refl (λ (other : blocks.Ospf ≡ blocks.Inert). absurd cc) in
      let covers = command_at (length l1 + 1) (at + 1) (commands.Covers whole 0) in
      let l2 = l1 ++ covers_line ∷ [] in
      let c2 = (cs ++ head ∷ []) ++ covers ∷ [] in
      let three = closing-more l2 c2 (at + 1) two (codes "!") mark-plain closing-line.kind in
      let l3 = l2 ++ codes "!" ∷ [] in
      let four = head-more l3 c2 0 three (codes "end") commands.Inert end-read in
      let long1 : length l1 ≡ at + 1 = length_push lines process_line in
      let long2 : length l2 ≡ length l1 + 1 = length_push l1 covers_line in
      let long3 : length l3 ≡ length l2 + 1 = length_push l2 (codes "!") in
      let place : length l1 + 1 ≡ at + 2 = omega arith in
      let last : length l3 + 1 ≡ at + 4 = omega arith in
      subst (λ (k : ℕ). AreRead (lines ++ process_lines) (cs ++ last_commands at) k) last
      (same-read (l3 ++ codes "end" ∷ []) (lines ++ process_lines) (c2 ++ command_at (length l3 + 1) (length l3 + 1) commands.Inert ∷ []) (cs ++ last_commands at) (length l3 + 1)
      (push-four lines process_line covers_line (codes "!") (codes "end"))
      (push-three cs head covers (command_at (length l3 + 1) (length l3 + 1) commands.Inert)
      ∙ ap (λ (k : ℕ). cs ++ head ∷ command_at k (at + 1) (commands.Covers whole 0) ∷ command_at (length l3 + 1) (length l3 + 1) commands.Inert ∷ []) place
      ∙ ap (λ (k : ℕ). cs ++ head ∷ command_at (at + 2) (at + 1) (commands.Covers whole 0) ∷ command_at k k commands.Inert ∷ []) last) four)
    where
      push-four : {X : Type 0} (xs : List X) (a b c d : X) → (((xs ++ a ∷ []) ++ b ∷ []) ++ c ∷ []) ++ d ∷ [] ≡ xs ++ a ∷ b ∷ c ∷ d ∷ []
      push-four xs a b c d = simp append_assoc

-- the number of a link and that of the interface over it are small
abbrev pub IsSmall : ℕ → ℕ → ℕ → Type 0
IsSmall n router link = (link < 256) × (port n router link < 64)

-- the lines of the interfaces over links
links-more : (n router : ℕ) (links : List ℕ) → AllByRecursion (IsSmall n router) links → (lines : List (List ℕ)) (cs : List FileCommand) → AreRead lines cs 0 →
    AreRead (lines ++ flat_map (link_lines n router) links) (cs ++ link_commands n router (length lines) links) 0
links-more n router [] small lines cs r = same-read lines (lines ++ []) cs (cs ++ []) 0 (sym (append-nil lines)) (sym (append-nil cs)) r
links-more n router (link ∷ links) small lines cs r =
    let end = end_of n router link in
    let at = length lines in
    let one = face-more lines cs 0 r (port n router link) (address 0 link end) 30 small.0.1 (end_small link small.0.0 (a_router n link == router)) (omega arith) (omega arith) in
    let more = lines ++ link_lines n router link in
    let rest = links-more n router links small.1 more (cs ++ link_face_commands n router at link) one in
    let long : length more ≡ at + 3 = three lines (face_line (port n router link)) (address_line (address 0 link end) 30) (codes "!") in
    same-read _ (lines ++ flat_map (link_lines n router) (link ∷ links)) _ (cs ++ link_commands n router at (link ∷ links)) 0
    (append_assoc lines (link_lines n router link) (flat_map (link_lines n router) links))
    (append_assoc cs (link_face_commands n router at link) (link_commands n router (length more) links)
    ∙ ap (λ (k : ℕ). cs ++ (link_face_commands n router at link ++ link_commands n router k links)) long) rest
  where
    three : {X : Type 0} (xs : List X) (a b c : X) → length (xs ++ a ∷ b ∷ c ∷ []) ≡ length xs + 3
    three [] a b c = refl
    three (x ∷ xs) a b c = let deeper = three xs a b c in omega arith

length-links : (n router : ℕ) (links : List ℕ) → length (flat_map (link_lines n router) links) ≡ 3 * length links
length-links n router [] = refl
length-links n router (link ∷ links) = let deeper = length-links n router links in omega arith

nothing-read : AreRead [] [] 0
nothing-read = record {
  are = record { no_orphan = λ place orphan. let low : place < 0 = orphan.within in omega arith; reads = tt };
  banner = refl;
  inside = refl;
  low = tt;
  plain = tt;
}

-- the lines of a file have these commands
pub file-read : (n router : ℕ) (links : List ℕ) → router < 64 → AllByRecursion (IsSmall n router) links →
    AreRead (name_lines router ++ (host_lines router ++ (flat_map (link_lines n router) links ++ process_lines))) (file_commands n router links) (5 + 3 * length links + 4)
file-read n router links few small =
    let one = single-more [] [] 0 nothing-read (name_line router) (commands.Hostname (host_name router)) (name-read router few) in
    let two = closing-more (name_line router ∷ []) (name_command router ∷ []) 0 one (codes "!") mark-plain closing-line.kind in
    let first = name_lines router in
    let three = face-more first (name_command router ∷ []) 0 two 0 (address router 0 1) 24 (omega arith) (omega (arith, few)) (omega arith) (omega arith) in
    let hosts = first ++ host_lines router in
    let c3 = name_command router ∷ host_commands router in
    let four = links-more n router links small hosts c3 three in
    let inner = flat_map (link_lines n router) links in
    let l4 = hosts ++ inner in
    let c4 = c3 ++ link_commands n router 5 links in
    let five = last-more l4 c4 0 four in
    let long : length l4 ≡ 5 + 3 * length links = ap (λ (k : ℕ). suc (suc (suc (suc (suc k))))) (length-links n router links) ∙ omega arith in
    subst (λ (k : ℕ). AreRead (first ++ (host_lines router ++ (inner ++ process_lines))) (file_commands n router links) (k + 4)) long
    (same-read (l4 ++ process_lines) (first ++ (host_lines router ++ (inner ++ process_lines))) (c4 ++ last_commands (length l4)) (file_commands n router links) (length l4 + 4)
    (append_assoc hosts inner process_lines ∙ append_assoc first (host_lines router) (inner ++ process_lines))
    (append_assoc c3 (link_commands n router 5 links) (last_commands (length l4)) ∙ ap (λ (k : ℕ). c3 ++ (link_commands n router 5 links ++ last_commands k)) long) five)
