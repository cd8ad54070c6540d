-- The lines of a generated file, each read as its command.
use Rattle.std.proofs.Common.{◌≡◌, ℕ, ◌+◌, ◌^◌, ◌<◌, ◌≤◌, zero, suc, Bool, true, false, List, [], ◌∷◌, length, get_or, codes, refl, sym, subst, arith}
use Rattle.std.proofs.lemmas.Bool.{and_parts}
use Rattle.std.proofs.lemmas.List.FromFn.{get_or-range_with_len}
use Rattle.std.specs.Fmt.{digits}
use Rattle.std.specs.List.{list_all, range_with_len}
use Rattle.ios_lines.specs.Kinds.{IsInner, IsHead, IsSingle}
use Rattle.arc_base.specs.Words.{words}
use Rattle.ios_lines.specs.Written.{IsWritten}
use Rattle.ios_lines.proofs.WrittenLines.{top-written, top-kinds}
use Rattle.ios_words.specs.declared.commands.Command.{Command}
use Rattle.ios_words.specs.declared.commands.Command.TheVariants as commands
use Rattle.ios_words.specs.declared.kinds.BlockKind.{BlockKind}
use Rattle.ios_words.specs.declared.kinds.BlockKind.TheVariants as blocks
use Rattle.ios_words.specs.Commands.{is_extended_block, ReadBy}
use Rattle.ios_words.specs.Language.{rows}
use Rattle.ios_words.specs.Names.{is_face_name}
use Rattle.arc_base.specs.NameForms.{is_name}
use Rattle.ios_words.specs.Plain.{plain_line, IsReadBack}
use Rattle.ios_words.specs.Prefixes.{whole}
use Rattle.ios_words.specs.Values.{no_values}
use Rattle.ios_words.proofs.PlainLines.{read-plain}
use Rattle.ios_words.proofs.Printed.{reads-at}
use Rattle.net_gen.specs.RouterFiles.{host_name, face_name, name_line, face_line, address_line, process_line, covers_line}
use Rattle.generated_network_laws.proofs.Texts.{IsPlain}

-- a line of this kind, in a block of that one, is read as the command
pub record IsLine (within : BlockKind) (Is : List ℕ → Type 0) (line : List ℕ) (command : Command) : Type 0 where
  pub plain : IsPlain line
  pub kind : Is line
  pub reads : ReadBy (is_extended_block within) (words line) (rows within) command

abbrev pub IsTop : (List ℕ → Type 0) → List ℕ → Command → Type 0
IsTop Is line command = IsLine blocks.Top Is line command

abbrev pub IsWithin : BlockKind → List ℕ → Command → Type 0
IsWithin within line command = IsLine within IsInner line command

line-is : (within : BlockKind) (Is : List ℕ → Type 0) (line : List ℕ) (ws : List (List ℕ)) (command : Command) → IsWritten line ws → Is line →
    ReadBy (is_extended_block within) ws (rows within) command → IsLine within Is line command
line-is within Is line ws command written kind reads = record {
  plain = record { free = written.free; no_return = written.no_return };
  kind = kind;
  reads = subst (λ w. ReadBy (is_extended_block within) w (rows within) command) (sym written.words) reads;
}

-- the plain line of a command is such a line
plain-is : (within : BlockKind) (Is : List ℕ → Type 0) (command : Command) → (r : IsReadBack within command) → Is (plain_line within command) → IsLine within Is (plain_line within command) command
plain-is within Is command r kind = line-is within Is (plain_line within command) _ command r.written kind r.reads

-- names with small numbers are names
each-at : (p : ℕ → Bool) (xs : List ℕ) (k : ℕ) → list_all p xs ≡ true → k < length xs → p (get_or xs k 0) ≡ true
each-at p [] k all low = absurd (omega arith)
each-at p (x ∷ xs) zero all low = (and_parts _ _ all).0
each-at p (x ∷ xs) (suc k) all low = each-at p xs k (and_parts _ _ all).1 (omega arith)

all-names : list_all (λ k. is_name (host_name k)) (range_with_len 0 64) ≡ true
unfolding digits
all-names = refl

all-face-names : list_all (λ k. is_face_name (face_name k)) (range_with_len 0 64) ≡ true
unfolding digits
all-face-names = refl

pub host-name : (k : ℕ) → k < 64 → is_name (host_name k) ≡ true
host-name k low =
    let place : get_or (range_with_len 0 64) k 0 ≡ 0 + k = get_or-range_with_len 0 64 k 0 low in
    let there : get_or (range_with_len 0 64) k 0 ≡ k = omega arith in
    subst (λ n. is_name (host_name n) ≡ true) there (each-at (λ n. is_name (host_name n)) (range_with_len 0 64) k all-names (omega arith))

pub face-name : (k : ℕ) → k < 64 → is_face_name (face_name k) ≡ true
face-name k low =
    let place : get_or (range_with_len 0 64) k 0 ≡ 0 + k = get_or-range_with_len 0 64 k 0 low in
    let there : get_or (range_with_len 0 64) k 0 ≡ k = omega arith in
    subst (λ n. is_face_name (face_name n) ≡ true) there (each-at (λ n. is_face_name (face_name n)) (range_with_len 0 64) k all-face-names (omega arith))

-- the line that names a router, the one that opens an interface, and the one that gives it its address
pub name-read : (router : ℕ) → router < 64 → IsTop IsSingle (name_line router) (commands.Hostname (host_name router))
name-read router low =
    let read = read-plain blocks.Top (commands.Hostname (host_name router)) tt (host-name router low) tt in
    plain-is blocks.Top IsSingle (commands.Hostname (host_name router)) read read.kind

pub face-read : (number : ℕ) → number < 64 → IsTop IsHead (face_line number) (commands.Interface (face_name number))
face-read number low =
    let read = read-plain blocks.Top (commands.Interface (face_name number)) tt (face-name number low) tt in
    plain-is blocks.Top IsHead (commands.Interface (face_name number)) read read.kind

pub address-read : (addr len : ℕ) → addr < 2 ^ 32 → 1 ≤ len → len ≤ 32 → IsWithin blocks.Interface (address_line addr len) (commands.Address addr len)
address-read addr len small some few =
    let read = read-plain blocks.Interface (commands.Address addr len) tt (some, few) small in
    plain-is blocks.Interface IsInner (commands.Address addr len) read read.kind

-- the lines of the process, and the last one
pub process-read : IsTop IsHead process_line (commands.RouterOspf 1)
process-read =
    let read = read-plain blocks.Top (commands.RouterOspf 1) tt (omega arith, omega arith) tt in
    plain-is blocks.Top IsHead (commands.RouterOspf 1) read read.kind

pub covers-read : IsWithin blocks.Ospf covers_line (commands.Covers whole 0)
covers-read =
    let read = read-plain blocks.Ospf (commands.Covers whole 0) tt tt (omega arith) in
    plain-is blocks.Ospf IsInner (commands.Covers whole 0) read read.kind

pub end-read : IsTop IsHead (codes "end") commands.Inert
end-read =
    line-is blocks.Top IsHead (codes "end") (codes "end" ∷ []) commands.Inert (top-written (codes "end") [] refl tt) (top-kinds (codes "end") [] refl tt)
    (reads-at false (codes "end" ∷ []) (rows blocks.Top) 71 _ _ (no_values false) commands.Inert refl refl refl refl refl)
