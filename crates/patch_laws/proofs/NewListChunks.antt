-- The lines of new lists may be put before a top line, and are read as the entries of these lists.
use Rattle.std.proofs.Common.{◌≡◌, ◌≢◌, ℕ, ◌+◌, ◌*◌, ◌<◌, ◌≤◌, inr, true, false, Some, None, List, [], ◌∷◌, ◌++◌, length, map, refl, sym, ap, subst, ◌∙◌, arith, append_assoc, append-nil}
use Rattle.std.proofs.Common.{Contains, IsTrue}
use Rattle.std.specs.Prelude.{codes}
use Rattle.std.specs.List.{AllByRecursion, enumerate_from, flat_map}
use Rattle.std.proofs.lemmas.Bool.{ne_eqb}
use Rattle.std.proofs.lemmas.List.{map-append}
use Rattle.std.proofs.lemmas.List.Concat.{flat_map-append}
use Rattle.arc_base.specs.declared.prefix.Prefix.{Prefix}
use Rattle.arc_base.proofs.Items.{Contains-head, Contains-tail}
use Rattle.net_model.specs.declared.lists.PacketEntry.{PacketEntry}
use Rattle.net_model.specs.declared.policies.Class.{Class}
use Rattle.arc_base.specs.NameForms.{is_name}
use Rattle.arc_base.proofs.Zips.{AllByRecursion-append}
use Rattle.ios_words.specs.declared.commands.Command.{Command}
use Rattle.ios_words.specs.declared.commands.Command.TheVariants as commands
use Rattle.ios_words.specs.declared.kinds.BlockKind.TheVariants as kinds
use Rattle.ios_words.proofs.PlainLines.{all-routes-line, closing-line, read-plain, route-line}
use Rattle.ios_config.specs.declared.commands.FileCommand.{FileCommand}
use Rattle.ios_config.specs.Groups.{Block, is_same, part_in, part_of}
use Rattle.net_rules.specs.Lists.{packet_text}
use Rattle.edit_list.specs.After.{class_entry, every_packet}
use Rattle.edit_list.specs.Changes.{new_prefixes, new_classes}
use Rattle.edit_list.specs.Writable.{is_writable}
use Rattle.edit_list.specs.declared.edit_kinds.Edit.{Edit}
use Rattle.edit_list.specs.declared.list_kinds.NewList.{NewList}
use Rattle.edit_list.specs.declared.list_kinds.NewList.TheVariants.{Route, Packet}
use Rattle.line_patcher.specs.NewListLines.{deny_prefix, new_entries, new_entry, new_list_commands, new_route_commands, permit_all}
use Rattle.line_patcher.specs.Written.{line_of}
use Rattle.line_edit_laws.specs.Sites as edits
use Rattle.line_edit_laws.specs.Sites.{Written, Chunk, Single, NewBlock, bytes_of, chunk_lines, chunk_commands, in_block, AreChunks, IsSingleLine, IsBlockLine}
use Rattle.patch_laws.specs.NewListSites.{new_chunks, list_chunks, IsNewName}
use Rattle.patch_laws.specs.Written.{written_of}
use Rattle.patch_laws.specs.Laws.{NewListsAreChunks, NewListsHaveTheirLines}
use Rattle.patch_laws.proofs.PlainWritten.{plain-entry, plain-reads, plain-single}

-- an entry of a new route list
prefix-single : (name : List ℕ) → IsTrue (is_name name) → name ≢ codes "sequence-number" → (entry : ℕ × Prefix) → 1 ≤ entry.0 → entry.0 ≤ 16384 → IsSingleLine (written_of (deny_prefix name entry))
prefix-single name is other entry low high =
    let line = route-line name (Some (5 * entry.0)) false entry.1 is other ((omega arith), (omega arith)) in
    plain-single name (deny_prefix name entry) line line.kind (inr refl)

all-single : (name : List ℕ) → IsTrue (is_name name) → name ≢ codes "sequence-number" → (number : ℕ) → 1 ≤ number → number ≤ 100000 → IsSingleLine (written_of (permit_all name number))
all-single name is other number low high =
    let line = all-routes-line name (Some number) is other ((omega arith), (omega arith)) in
    plain-single name (permit_all name number) line line.kind (inr refl)

-- the lines of a new packet list
entry-block-line : (entry : PacketEntry) → IsTrue (is_writable entry.service) → IsBlockLine kinds.Extended (written_of (new_entry entry))
entry-block-line entry writable = plain-entry None (packet_text entry) (read-plain kinds.Extended (commands.Entry None (packet_text entry)) writable tt tt)

packet-lines : (classes : List Class) → ((class : Class) → Contains classes class → IsTrue (is_writable class.service)) →
    AllByRecursion (IsBlockLine kinds.Extended) (map written_of (new_entries classes))
packet-lines [] writable = (entry-block-line every_packet refl, tt)
packet-lines (class ∷ classes) writable =
    (entry-block-line (class_entry false class) (writable class (Contains-head class classes)), packet-lines classes (λ c there. writable c (Contains-tail class c classes there)))

-- and they are of its block
packet-parts : (key : ℕ) (classes : List Class) → AllByRecursion (λ (w : Written). part_in key w.command ≡ Block key) (map written_of (new_entries classes))
packet-parts key [] = (refl, tt)
packet-parts key (class ∷ classes) = (refl, packet-parts key classes)

-- the blocks of new lists are of later numbers
route-clear : (j : ℕ) (ws : List Written) → AllByRecursion (λ (w : Written). is_same (Block j) (part_in 0 w.command) ≡ false) ws →
    AllByRecursion (λ (v : FileCommand). is_same (Block j) (part_of v) ≡ false) (flat_map chunk_commands (map Single ws))
route-clear j [] all = tt
route-clear j (w ∷ ws) all = (all.0, route-clear j ws all.1)

route-parts : (j : ℕ) (name : List ℕ) (entries : List (ℕ × Prefix)) (last : ℕ) →
    AllByRecursion (λ (w : Written). is_same (Block j) (part_in 0 w.command) ≡ false) (map written_of (map (deny_prefix name) entries ++ permit_all name last ∷ []))
route-parts j name [] last = (refl, tt)
route-parts j name (e ∷ entries) last = (refl, route-parts j name entries last)

block-clear : (j key : ℕ) → j ≢ key → (ws : List Written) → AllByRecursion (λ (w : Written). part_in key w.command ≡ Block key) ws →
    AllByRecursion (λ (v : FileCommand). is_same (Block j) (part_of v) ≡ false) (map (in_block key) ws)
block-clear j key other [] all = tt
block-clear j key other (w ∷ ws) all = (ap (is_same (Block j)) all.0 ∙ ne_eqb j key other, block-clear j key other ws all.1)

one-clear : (chosen : List Edit) (j key : ℕ) → j ≢ key → (list : NewList) (name : List ℕ) →
    AllByRecursion (λ (v : FileCommand). is_same (Block j) (part_of v) ≡ false) (flat_map chunk_commands (new_chunks chosen key list name))
one-clear chosen j key other (Route face) name = route-clear j (map written_of (new_route_commands name (new_prefixes chosen face.0)))
    (route-parts j name (enumerate_from 1 (new_prefixes chosen face.0)) (5 * (length (new_prefixes chosen face.0) + 1)))
one-clear chosen j key other (Packet face) name =
    subst (AllByRecursion (λ (v : FileCommand). is_same (Block j) (part_of v) ≡ false))
    (sym (append-nil (chunk_commands (NewBlock key (written_of (commands.ListBlock true name)) (map written_of (new_entries (new_classes chosen face.0))) (line_of commands.Inert)))))
    (ne_eqb j key other, block-clear j key other (map written_of (new_entries (new_classes chosen face.0))) (packet-parts key (new_classes chosen face.0)))

lists-clear : (chosen : List Edit) (j key : ℕ) → j < key → (ns : List (NewList × List ℕ)) →
    AllByRecursion (λ (v : FileCommand). is_same (Block j) (part_of v) ≡ false) (flat_map chunk_commands (list_chunks chosen key ns))
lists-clear chosen j key low [] = tt
lists-clear chosen j key low (n ∷ ns) =
    subst (AllByRecursion (λ (v : FileCommand). is_same (Block j) (part_of v) ≡ false)) (sym (flat_map-append chunk_commands (new_chunks chosen key n.0 n.1) (list_chunks chosen (key + 1) ns)))
    (AllByRecursion-append (λ (v : FileCommand). is_same (Block j) (part_of v) ≡ false) (flat_map chunk_commands (new_chunks chosen key n.0 n.1))
    (flat_map chunk_commands (list_chunks chosen (key + 1) ns))
    (one-clear chosen j key (λ same. omega arith) n.0 n.1) (lists-clear chosen j (key + 1) (omega arith) ns))

-- the chunks may be put there
pub chunks-append : (number : ℕ) (later : List FileCommand) (xs ys : List Chunk) → AreChunks number (flat_map chunk_commands ys ++ later) xs → AreChunks number later ys →
    AreChunks number later (xs ++ ys)
chunks-append number later [] ys one two = two
chunks-append number later (x ∷ xs) ys one two = (
  subst (λ (vs : List FileCommand). edits.IsChunk number vs x)
      (sym (append_assoc (flat_map chunk_commands xs) (flat_map chunk_commands ys) later) ∙ ap (λ (vs : List FileCommand). vs ++ later) (sym (flat_map-append chunk_commands xs ys))) one.0,
  chunks-append number later xs ys one.1 two,
)

pub single-chunks : (number : ℕ) (later : List FileCommand) (ws : List Written) → AllByRecursion IsSingleLine ws → AreChunks number later (map Single ws)
single-chunks number later [] all = tt
single-chunks number later (w ∷ ws) all = (all.0, single-chunks number later ws all.1)

route-singles : (name : List ℕ) → IsTrue (is_name name) → name ≢ codes "sequence-number" → (k : ℕ) (prefixes : List Prefix) (last : ℕ) → 1 ≤ k → k + length prefixes ≤ 16385 →
    1 ≤ last → last ≤ 100000 →
    AllByRecursion IsSingleLine (map written_of (map (deny_prefix name) (enumerate_from k prefixes) ++ permit_all name last ∷ []))
route-singles name is other k [] last low high some few = (all-single name is other last some few, tt)
route-singles name is other k (p ∷ prefixes) last low high some few =
    (prefix-single name is other (k, p) low (omega arith), route-singles name is other (k + 1) prefixes last (omega arith) (omega arith) some few)

one-chunk : (chosen : List Edit) (number key : ℕ) (later : List FileCommand) (list : NewList) (name : List ℕ) → IsNewName chosen (list, name) → number < key →
    AllByRecursion (λ (v : FileCommand). is_same (Block key) (part_of v) ≡ false) later →
    AreChunks number later (new_chunks chosen key list name)
one-chunk chosen number key later (Route face) name is high fresh =
    let few = is.few face.0 in
    single-chunks number later (map written_of (new_route_commands name (new_prefixes chosen face.0)))
    (route-singles name is.name is.other 1 (new_prefixes chosen face.0) (5 * (length (new_prefixes chosen face.0) + 1)) (omega arith) (omega arith) (omega arith) (omega arith))
one-chunk chosen number key later (Packet face) name is high fresh =
    let head = read-plain kinds.Top (commands.ListBlock true name) tt is.name tt in (
      record {
        heads = head.kind;
        reads = plain-reads kinds.Top (commands.ListBlock true name) head;
        within = kinds.Extended;
        opens = refl;
        known = λ same. (let clash : kinds.Extended ≡ kinds.Inert = same in absurd cc);
        lines = packet-lines (new_classes chosen face.0) (is.writable face.0);
        closes = closing-line.kind;
        high = high;
        fresh = fresh;
      },
      tt,
    )

pub new-chunks-good : NewListsAreChunks
new-chunks-good chosen number key later [] all high clear = tt
new-chunks-good chosen number key later (n ∷ ns) all high clear =
    let rest = flat_map chunk_commands (list_chunks chosen (key + 1) ns) in
    chunks-append number later (new_chunks chosen key n.0 n.1) (list_chunks chosen (key + 1) ns)
    (one-chunk chosen number key (rest ++ later) n.0 n.1 all.0 high
    (AllByRecursion-append (λ (v : FileCommand). is_same (Block key) (part_of v) ≡ false) rest later (lists-clear chosen key (key + 1) (omega arith) ns) (clear key (omega arith))))
    (new-chunks-good chosen number (key + 1) later ns all.1 (omega arith) (λ j low. clear j (omega arith)))

-- their lines are those of the new lists
pub written-lines : (cs : List Command) → bytes_of (map written_of cs) ≡ map line_of cs
written-lines [] = refl
written-lines (c ∷ cs) = ap (λ ls. line_of c ∷ ls) (written-lines cs)

single-lines : (cs : List Command) → flat_map chunk_lines (map Single (map written_of cs)) ≡ map line_of cs
single-lines [] = refl
single-lines (c ∷ cs) = ap (λ ls. line_of c ∷ ls) (single-lines cs)

one-lines : (chosen : List Edit) (key : ℕ) (list : NewList) (name : List ℕ) → flat_map chunk_lines (new_chunks chosen key list name) ≡ map line_of (new_list_commands chosen list name)
one-lines chosen key (Route face) name = single-lines (new_route_commands name (new_prefixes chosen face.0))
one-lines chosen key (Packet face) name =
    let entries = new_entries (new_classes chosen face.0) in
    append-nil (chunk_lines (NewBlock key (written_of (commands.ListBlock true name)) (map written_of entries) (line_of commands.Inert))) ∙
    ap (λ ls. line_of (commands.ListBlock true name) ∷ (ls ++ line_of commands.Inert ∷ [])) (written-lines entries)
    ∙ ap (λ ls. line_of (commands.ListBlock true name) ∷ ls) (sym (map-append line_of entries (commands.Inert ∷ [])))

pub new-chunk-lines : NewListsHaveTheirLines
new-chunk-lines chosen key [] = refl
new-chunk-lines chosen key (n ∷ ns) =
    let more = flat_map (λ (l : NewList × List ℕ). new_list_commands chosen l.0 l.1) ns in
    flat_map-append chunk_lines (new_chunks chosen key n.0 n.1) (list_chunks chosen (key + 1) ns) ∙
    (let one = one-lines chosen key n.0 n.1 in let rest = new-chunk-lines chosen (key + 1) ns in λ i. one i ++ rest i) ∙ sym (map-append line_of (new_list_commands chosen n.0 n.1) more)
