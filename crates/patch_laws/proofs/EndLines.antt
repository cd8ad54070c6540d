-- The lines that edits put at the ends of processes and interfaces are read as their commands, and set what the edits add.
use Rattle.std.proofs.Common.{◌≡◌, ℕ, zero, suc, ◌-◌, ◌^◌, ◌<◌, ◌==◌, Bool, true, false, not, Option, Some, None, List, [], ◌∷◌, ◌++◌, length, map, refl, sym, ◌∙◌, ap, subst, arith, IsTrue}
use Rattle.std.specs.Prelude.{Contains, slice_get, option_map, option_and_then}
use Rattle.std.specs.Option.{option_map_or, option_or}
use Rattle.std.specs.List.{AllByRecursion, filter_map, cons_option}
use Rattle.std.proofs.lemmas.Option.{none-some, same_Some}
use Rattle.std.proofs.lemmas.List.{map-append}
use Rattle.arc_base.specs.declared.place.Face.{Face}
use Rattle.arc_base.proofs.Items.{Contains-head, Contains-tail, Contains-none}
use Rattle.net_model.specs.declared.rows.FaceRow.{FaceRow}
use Rattle.net_model.specs.declared.rows.SessionRow.{SessionRow}
use Rattle.net_model.specs.declared.rows.Network.{Network}
use Rattle.net_model.specs.declared.rows.Protocol.{Protocol}
use Rattle.net_model.specs.declared.rows.Protocol.TheVariants.{Ospf, Bgp}
use Rattle.net_model.specs.Routing.{session_at}
use Rattle.net_model.specs.Validity.{FitsProtocol}
use Rattle.arc_base.specs.NameForms.{is_name}
use Rattle.arc_base.proofs.Zips.{AllByRecursion-append}
use Rattle.ios_words.specs.Plain.{plain_line}
use Rattle.ios_words.specs.declared.commands.Command.{Command}
use Rattle.ios_words.specs.declared.commands.Command.TheVariants as commands
use Rattle.ios_words.specs.declared.kinds.BlockKind.TheVariants as kinds
use Rattle.ios_words.proofs.PlainLines.{read-plain}
use Rattle.ios_config.specs.declared.commands.FileCommand.{FileCommand}
use Rattle.ios_config.specs.declared.settings.FaceText.{FaceText}
use Rattle.ios_config.specs.declared.settings.ProcessKind.{ProcessKind}
use Rattle.ios_config.specs.declared.settings.ProcessText.{ProcessText}
use Rattle.ios_config.specs.Bare.{bare}
use Rattle.ios_config.specs.Effects.{face_bound}
use Rattle.ios_config.specs.Texts.{given, last_line, face_text, process_by, process_text}
use Rattle.ios_config.specs.Texts as faces
use Rattle.ios_config.proofs.EffectsOnGroups.{last-binding}
use Rattle.edit_list.specs.declared.list_kinds.NewList.{NewList}
use Rattle.edit_list.specs.declared.list_kinds.NewList.TheVariants as lists
use Rattle.line_patcher.specs.Additions.{process_commands}
use Rattle.line_patcher.specs.NewListLines.{filter_command, filter_commands}
use Rattle.line_patcher.specs.SessionLines.{session_command, session_commands, turned_faces, turning_command}
use Rattle.settings_edit_laws.specs.Additions.{new_inbound}
use Rattle.edit_list.specs.NewLists.{named_lists}
use Rattle.settings_edit_laws.specs.Plain.{said}
use Rattle.settings_edit_laws.specs.Premises.{IsWritable}
use Rattle.settings_edit_laws.specs.SettingsAfter.{face_with, process_with}
use Rattle.settings_edit_laws.proofs.SessionFacts.{find_in}
use Rattle.patch_laws.specs.EndLines.{IsProcessLine, ProcessLinesAreRead, GroupLinesAreFit, ProcessesGrow, FacesGrow}
use Rattle.patch_laws.proofs.PlainWritten.{plain-fit}
use Rattle.patch_laws.proofs.SessionReads.{inner_is}

-- each thing that is picked
picked-all : {E X : Type 0} (P : X → Type 0) (f : E → Option X) (es : List E) → ((e : E) (x : X) → Contains es e → f e ≡ Some x → P x) → AllByRecursion P (filter_map f es)
picked-all P f [] each = tt
picked-all {E} {X} P f (e ∷ es) each = by (f e) refl (picked-all P f es (λ y x there. each y x (Contains-tail e y es there)))
  where
    by : (o : Option X) → f e ≡ o → AllByRecursion P (filter_map f es) → AllByRecursion P (cons_option o (filter_map f es))
    by None is rest = rest
    by (Some x) is rest = (each e x (Contains-head e es) is, rest)

module _ (net : Network) (writable : IsWritable net) (fits : FitsProtocol net.protocol net) (block : ℕ) where
  abbrev IsLine : Command → Type 0
  IsLine command = IsProcessLine net.protocol block command

  -- the lines that turn sessions
  passive-line : (place : ℕ) (row : FaceRow) → slice_get net.faces place ≡ Some row → (b : Bool) → IsProcessLine Ospf block (commands.Passive b (Some row.name))
  passive-line place row at b =
      let line = read-plain kinds.Ospf (commands.Passive b (Some row.name)) tt (writable.faces place row at) tt in
      let inner = inner_is kinds.Ospf block (commands.Passive b (Some row.name)) line line.kind refl (record { stands = refl; excludes = refl; unnamed = refl }) in
      record { line = inner.0; quiet = inner.1; fit = plain-fit kinds.Ospf (commands.Passive b (Some row.name)) line (some b) }
    where
      some : (b : Bool) → 0 < length (plain_line kinds.Ospf (commands.Passive b (Some row.name)))
      some true = omega arith
      some false = omega arith

  down-line : (s : SessionRow) → Contains net.sessions s → (b : Bool) → IsProcessLine Bgp block (commands.NeighborDown s.peer b)
  down-line s there b =
      let line = read-plain kinds.Bgp (commands.NeighborDown s.peer b) tt tt (writable.peers s there) in
      let inner = inner_is kinds.Bgp block (commands.NeighborDown s.peer b) line line.kind refl (record { stands = refl; excludes = refl; unnamed = refl }) in
      record { line = inner.0; quiet = inner.1; fit = plain-fit kinds.Bgp (commands.NeighborDown s.peer b) line (some b) }
    where
      some : (b : Bool) → 0 < length (plain_line kinds.Bgp (commands.NeighborDown s.peer b))
      some true = omega arith
      some false = omega arith

  turning-line : (place : ℕ) (row : FaceRow) → slice_get net.faces place ≡ Some row → (p : Protocol) (o : Option SessionRow) → session_at net (record { 0 = place }) ≡ o → (command : Command) →
      turning_command p row o ≡ Some command → IsProcessLine p block command
  turning-line place row at Ospf o is command e = subst (IsProcessLine Ospf block) (same_Some (commands.Passive (not row.passive) (Some row.name)) command e)
      (passive-line place row at (not row.passive))
  turning-line place row at Bgp None is command e = absurd (none-some command e)
  turning-line place row at Bgp (Some s) is command e =
      subst (IsProcessLine Bgp block) (same_Some (commands.NeighborDown s.peer (not s.down)) command e)
      (down-line s (find_in (λ (t : SessionRow). t.face.0 == place) net.sessions s is).0 (not s.down))

  session-line : (place : ℕ) (command : Command) → session_command net place ≡ Some command → IsLine command
  session-line place command = by (slice_get net.faces place) refl
    where
      by : (o : Option FaceRow) → slice_get net.faces place ≡ o → option_and_then
          (λ (row : FaceRow). turning_command net.protocol row (session_at net (record { 0 = place }))) o ≡ Some command → IsLine command
      by None at e = absurd (none-some command e)
      by (Some row) at e = turning-line place row at net.protocol (session_at net (record { 0 = place })) refl command e

  -- where there is a session, the network runs eBGP
  runs-bgp : (face : Face) (s : SessionRow) → session_at net face ≡ Some s → net.protocol ≡ Bgp
  runs-bgp face s at = by net.protocol fits
    where
      by : (p : Protocol) → FitsProtocol p net → p ≡ Bgp
      by Ospf none = absurd (Contains-none s (subst (λ (l : List SessionRow). Contains l s) none (find_in (λ (t : SessionRow). t.face.0 == face.0) net.sessions s at).0))
      by Bgp some = refl

  -- a line that binds a new route list
  filter-line : (list : NewList) (name : List ℕ) (command : Command) → IsTrue (is_name name) → filter_command net list name ≡ Some command → IsLine command
  filter-line (lists.Packet face) name command is e = absurd (none-some command e)
  filter-line (lists.Route face) name command is e = by (session_at net face) refl e
    where
      by : (o : Option SessionRow) → session_at net face ≡ o → option_map (λ (s : SessionRow). commands.NeighborList s.peer name) o ≡ Some command → IsLine command
      by None at e = absurd (none-some command e)
      by (Some s) at e =
          let small : s.peer < 2 ^ 32 = writable.peers s (find_in (λ (t : SessionRow). t.face.0 == face.0) net.sessions s at).0 in
          let line = read-plain kinds.Bgp (commands.NeighborList s.peer name) tt is small in
          let inner = inner_is kinds.Bgp block (commands.NeighborList s.peer name) line line.kind refl (record { stands = refl; excludes = refl; unnamed = refl }) in
          let whole : IsProcessLine Bgp block (commands.NeighborList s.peer name) =
          record { line = inner.0; quiet = inner.1; fit = plain-fit kinds.Bgp (commands.NeighborList s.peer name) line (omega arith) } in
          subst (λ (q : Protocol). IsProcessLine q block command) (sym (runs-bgp face s at)) (subst (IsProcessLine Bgp block) (same_Some (commands.NeighborList s.peer name) command e) whole)

pub process-lines-read : ProcessLinesAreRead
process-lines-read net chosen router block writable fits named =
    AllByRecursion-append (IsProcessLine net.protocol block) (session_commands net chosen router) (filter_commands net chosen router)
    (picked-all (IsProcessLine net.protocol block) (session_command net) (turned_faces net chosen router) (λ place command there e. session-line net writable fits block place command e))
    (picked-all (IsProcessLine net.protocol block) (λ (l : NewList × List ℕ). filter_command net l.0 l.1) (named_lists net chosen router)
    (λ l command there e. filter-line net writable fits block l.0 l.1 command (named l there) e))

-- a line that binds a new packet list
pub group-lines-fit : GroupLinesAreFit
group-lines-fit name block is =
    let line = read-plain kinds.Interface (commands.Group name true) tt is tt in (
      inner_is kinds.Interface block (commands.Group name true) line line.kind refl (record { stands = refl; excludes = refl; unnamed = refl }),
      plain-fit kinds.Interface (commands.Group name true) line (omega arith),
    )

-- the last line of bare commands
last-zero : (cs : List FileCommand) (k : ℕ) → option_map_or (λ (c : FileCommand). c.line) (slice_get (map bare cs) k) 0 ≡ 0
last-zero [] k = refl
last-zero (c ∷ cs) zero = refl
last-zero (c ∷ cs) (suc k) = last-zero cs k

abbrev bare_of : Command → FileCommand
bare_of command = record { line = 0; block = 0; command = command }

bares-of : (cs : List Command) → map bare (map bare_of cs) ≡ map bare_of cs
bares-of [] = refl
bares-of (c ∷ cs) = ap (λ l. bare_of c ∷ l) (bares-of cs)

givens-of : (cs : List Command) → map given (map bare_of cs) ≡ map said cs
givens-of [] = refl
givens-of (c ∷ cs) = ap (λ l. said c ∷ l) (givens-of cs)

grown-process : (kind : ProcessKind) (number : ℕ) (head : FileCommand) (rest : List FileCommand) (cs : List Command) →
    process_text kind number (bare head) (map bare rest ++ map bare_of cs) ≡ record (process_text kind number (bare head) (map bare rest)) { lines = map given (map bare rest) ++ map said cs }
grown-process kind number head rest cs =
    let whole : bare head ∷ (map bare rest ++ map bare_of cs) ≡ map bare (head ∷ (rest ++ map bare_of cs)) =
    ap (λ l. bare head ∷ l) (ap (λ l. map bare rest ++ l) (sym (bares-of cs)) ∙ sym (map-append bare rest (map bare_of cs))) in
    let last : last_line (bare head ∷ (map bare rest ++ map bare_of cs)) ≡ last_line (map bare (head ∷ rest)) =
    ap last_line whole ∙ last-zero (head ∷ (rest ++ map bare_of cs)) (length (map bare (head ∷ (rest ++ map bare_of cs))) - 1) ∙ sym (last-zero (head ∷ rest) (length (map bare (head ∷ rest)) - 1)) in
    let lines : map given (map bare rest ++ map bare_of cs) ≡ map given (map bare rest) ++ map said cs =
    map-append given (map bare rest) (map bare_of cs) ∙ ap (λ l. map given (map bare rest) ++ l) (givens-of cs) in
    λ i. record { kind = kind; number = number; head = 0; last = last i; lines = lines i }

pub processes-grow : ProcessesGrow
processes-grow net chosen router head rest = by head.command
  where
    by : (command : Command) → process_by command (bare head) (map bare rest ++ map bare_of (process_commands net chosen router)) ≡ map (process_with net chosen router)
        (process_by command (bare head) (map bare rest))
    by (commands.RouterOspf number) = ap (λ (p : ProcessText). p ∷ []) (grown-process _ number head rest (process_commands net chosen router))
    by (commands.RouterBgp number) = ap (λ (p : ProcessText). p ∷ []) (grown-process _ number head rest (process_commands net chosen router))
    by _ = refl

pub faces-grow : FacesGrow
faces-grow net chosen router head rest face name is bound =
    last-binding (bare head) (map bare rest) 0 0 name ∙ by head.command is
  where
    same : face_bound name 0 (face_text face 0 (map bare (head ∷ rest))) ≡ face_with net chosen router (face_text face 0 (map bare (head ∷ rest)))
    same =
        let f = face_text face 0 (map bare (head ∷ rest)) in
        let last : 0 ≡ f.last = sym (last-zero (head ∷ rest) (length (map bare (head ∷ rest)) - 1)) in
        let list : Some (said name) ≡ option_or (option_map said (new_inbound net chosen router face)) f.list_in = ap (λ (o : Option (List ℕ)). option_or (option_map said o) f.list_in) (sym bound) in
        λ i. record {
          name = face;
          head = 0;
          last = last i;
          addr = f.addr;
          mask_len = f.mask_len;
          shut = f.shut;
          bandwidth = f.bandwidth;
          cost = f.cost;
          area = f.area;
          point = f.point;
          list_in = list i;
          list_out = f.list_out;
        }

    by : (command : Command) → command ≡ commands.Interface face →
        map (face_bound name 0) (faces.face_by command 0 (map bare (head ∷ rest))) ≡ map (face_with net chosen router) (faces.face_by command 0 (map bare (head ∷ rest)))
    by command e = subst (λ (c : Command). map (face_bound name 0) (faces.face_by c 0 (map bare (head ∷ rest))) ≡ map (face_with net chosen router)
        (faces.face_by c 0 (map bare (head ∷ rest)))) (sym e) (ap (λ (f : FaceText). f ∷ []) same)
