-- The interfaces of a file grow by the bindings of new packet lists.
use Rattle.std.proofs.Common.{◌≡◌, ◌≢◌, ℕ, ◌≤◌, ◌==◌, ◌⊎◌, inl, inr, Bool, true, false, if◌then◌else◌, Option, Some, None, List, [], ◌∷◌, ◌++◌, map, refl, sym, ap, subst, ◌∙◌, arith, ⊎_elim}
use Rattle.std.proofs.Common.{Contains, append-nil}
use Rattle.std.specs.Prelude.{AllPairs, bytes_eq, option_map, option_and_then, slice_get}
use Rattle.std.specs.Option.{option_or}
use Rattle.std.specs.List.{cons_option, filter_map, flat_map, zip}
use Rattle.std.proofs.lemmas.Bool.{cases_Bool, eq-eqb, ne_eqb, false≢true}
use Rattle.std.proofs.lemmas.Option.{same_Some, none-some}
use Rattle.std.proofs.lemmas.Slice.Eq.{bytes_eq-Decides}
use Rattle.arc_base.specs.declared.place.Face.{Face}
use Rattle.arc_base.proofs.Items.{Contains-cases, Contains-none, Contains-head, Contains-tail, Contains-filter, Contains-piece, AllPairs-append, AllPairs-among, AllPairs-first}
use Rattle.arc_base.proofs.Items.{AllPairs-none, AllPairs-rest, AllPairs-single, from_map}
use Rattle.net_model.specs.declared.rows.FaceRow.{FaceRow}
use Rattle.net_model.specs.declared.rows.Network.{Network}
use Rattle.net_model.proofs.Readings.{item_at_place}
use Rattle.ios_lines.specs.declared.line.Lines.{Lines}
use Rattle.ios_lines.specs.Texts.{text_lines}
use Rattle.ios_words.specs.declared.commands.Command.{Command}
use Rattle.ios_words.specs.declared.commands.Command.TheVariants as commands
use Rattle.ios_words.specs.declared.kinds.BlockKind.TheVariants as kinds
use Rattle.ios_config.specs.declared.commands.FileCommand.{FileCommand}
use Rattle.ios_config.specs.declared.settings.FaceText.{FaceText}
use Rattle.ios_config.specs.Bare.{bare}
use Rattle.ios_config.specs.Commands.{opened_by}
use Rattle.ios_config.specs.Groups.{Part, Block, is_same, part_of, distinct, members, groups}
use Rattle.ios_config.specs.ProcessLines.{HasProcess}
use Rattle.ios_config.specs.Texts.{config_of, is_entry, face_by, face_of, face_text}
use Rattle.ios_config.specs.Twice.{Stand, stand_of, excluded, Clash}
use Rattle.ios_config.specs.Twice as stands
use Rattle.ios_config.proofs.HeadsFirst.{part-block}
use Rattle.ios_config.proofs.JoinedParts.{is-self}
use Rattle.ios_config.proofs.LinesBefore.{Rising}
use Rattle.ios_config.proofs.ProcessBlocks.{rising-filter}
use Rattle.net_build.specs.declared.built.FacePlace.{FacePlace}
use Rattle.net_build.specs.declared.built.Places.{Places}
use Rattle.edit_list.specs.declared.edit_kinds.Edit.{Edit}
use Rattle.edit_list.specs.declared.list_kinds.NewList.{NewList}
use Rattle.edit_list.specs.declared.list_kinds.NewList.TheVariants.{Route, Packet}
use Rattle.edit_list.specs.NewLists.{new_lists, new_lists_of, new_names_of, named_lists}
use Rattle.arc_base.specs.Numbered.{if_number, of_number}
use Rattle.edit_list.proofs.NewListFacts.{new_lists_apart, pairs_picked}
use Rattle.line_patcher.specs.declared.additions.NewNumber.{NewNumber}
use Rattle.line_patcher.specs.Additions.{all_at, numbers_at, process_commands}
use Rattle.line_patcher.specs.NewListLines.{face_places, group_command}
use Rattle.settings_edit_laws.specs.Additions.{list_for, new_inbound}
use Rattle.settings_edit_laws.specs.Plain.{said}
use Rattle.settings_edit_laws.specs.SettingsAfter.{face_with}
use Rattle.settings_edit_laws.proofs.NewNames.{numbered, zip_places}
use Rattle.settings_edit_laws.proofs.Pairs.{any_of}
use Rattle.settings_edit_laws.proofs.SessionFacts.{one_face}
use Rattle.line_edit_laws.specs.Sites.{Written}
use Rattle.patch_laws.specs.EditFiles.{IsEditedFile, HasFace}
use Rattle.patch_laws.specs.EditSites.{with_number}
use Rattle.patch_laws.specs.EndLines.{unplaced}
use Rattle.patch_laws.specs.FaceBlocks.{HasFaceBlock}
use Rattle.patch_laws.specs.ListsGrow.{list_begun}
use Rattle.patch_laws.proofs.EditBlocks.{plainly, plainly-written, ends-grown, known-group, members-of, grown-first, bare-plain}
use Rattle.patch_laws.proofs.EditGrow.{own, grow_at, after_at}
use Rattle.patch_laws.proofs.EditLists.{none-at, none-in, of-append}
use Rattle.patch_laws.proofs.EditOnce.{Apart}
use Rattle.patch_laws.proofs.EditParts.{EndAt, OfProcess, OfFace, end-at, block-own}
use Rattle.patch_laws.proofs.EditBusy.{last-line, process-here}
use Rattle.patch_laws.proofs.EndLines.{faces-grow}
use Rattle.patch_laws.proofs.FaceBlocks.{face-blocks}
use Rattle.patch_laws.proofs.FileParts.{group-of, rising, one-line}
use Rattle.settings_edit_laws.proofs.Pairs.{picked_twice}

-- whether a command heads an interface
abbrev heads_face : Command → Bool
heads_face (commands.Interface name) = true
heads_face _ = false

no-face : (command : Command) (head : ℕ) (block : List FileCommand) → heads_face command ≡ false → face_by command head block ≡ []
no-face (commands.Interface name) head block is = absurd cc
no-face _ head block is = refl

number-heads : (command : Command) (new : List NewNumber) → heads_face (with_number command new) ≡ heads_face command
number-heads command [] = refl
number-heads (commands.Entry order entry) (new ∷ more) = refl
number-heads (commands.PrefixLine name order entry) (new ∷ more) = refl
number-heads _ (new ∷ more) = refl

entry-heads : (command : Command) → is_entry command ≡ true → heads_face command ≡ false
entry-heads (commands.Entry order entry) is = refl
entry-heads (commands.ListLine name entry) is = refl
entry-heads (commands.PrefixLine name order entry) is = refl
entry-heads (commands.Interface name) is = absurd cc
entry-heads _ is = refl

face-name : (command : Command) → heads_face command ≡ true → (name : List ℕ) × (command ≡ commands.Interface name)
face-name (commands.Interface name) is = (name, refl)
face-name _ is = absurd cc

same-name : (a b : List ℕ) → commands.Interface a ≡ commands.Interface b → a ≡ b
same-name a b e = cc

-- two commands that clash are the same
pub same-stand : (cs : List FileCommand) (x y : FileCommand) → AllPairs Apart cs → Contains cs x → Contains cs y → Clash x.command y.command → Clash y.command x.command → x ≡ y
same-stand [] x y once in_x in_y one two = absurd (Contains-none x in_x)
same-stand (c ∷ cs) x y once in_x in_y one two = by (Contains-cases c x cs in_x) (Contains-cases c y cs in_y) (same-stand cs x y (AllPairs-rest Apart c cs once))
  where
    by : (c ≡ x) ⊎ Contains cs x → (c ≡ y) ⊎ Contains cs y → (Contains cs x → Contains cs y → Clash x.command y.command → Clash y.command x.command → x ≡ y) → x ≡ y
    by (inl a) (inl b) deeper = sym a ∙ b
    by (inl a) (inr b) deeper = absurd (AllPairs-first Apart c y cs once b (subst (λ (z : FileCommand). Clash z.command y.command) (sym a) one))
    by (inr a) (inl b) deeper = absurd (AllPairs-first Apart c x cs once a (subst (λ (z : FileCommand). Clash z.command x.command) (sym b) two))
    by (inr a) (inr b) deeper = deeper a b one two

face-clash : (u v : Command) (name : List ℕ) → u ≡ commands.Interface name → v ≡ commands.Interface name → Clash u v
face-clash u v name one two =
    any_of (λ (s : Stand). stand_of u ≡ Some s) (excluded v) (stands.Interface name)
    (subst (λ (c : Command). Contains (excluded c) (stands.Interface name)) (sym two) (Contains-head (stands.Interface name) [])) (ap stand_of one)

picks-alike : {E X Y Z : Type 0} (k : E → Option X) (l : E → Option Y) (u : X → Z) (v : Y → Z) (es : List E) → ((e : E) → Contains es e → option_map u (k e) ≡ option_map v (l e)) →
    map u (filter_map k es) ≡ map v (filter_map l es)
picks-alike k l u v [] each = refl
picks-alike {E} {X} {Y} {Z} k l u v (e ∷ es) each = by (k e) (l e) (each e (Contains-head e es)) (picks-alike k l u v es (λ x there. each x (Contains-tail e x es there)))
  where
    by : (a : Option X) (b : Option Y) → option_map u a ≡ option_map v b → map u (filter_map k es) ≡ map v (filter_map l es) →
        map u (cons_option a (filter_map k es)) ≡ map v (cons_option b (filter_map l es))
    by None None same rest = rest
    by None (Some y) same rest = absurd (none-some (v y) same)
    by (Some x) None same rest = absurd (none-some (u x) (sym same))
    by (Some x) (Some y) same rest = let one = same_Some (u x) (v y) same in λ i. one i ∷ rest i

zip-apart : {X Y : Type 0} (xs : List X) (ys : List Y) → AllPairs (λ a b. a ≢ b) xs → AllPairs (λ a b. a.0 ≢ b.0) (zip xs ys)
zip-apart [] ys all = AllPairs-none (λ a b. a.0 ≢ b.0)
zip-apart (x ∷ xs) [] all = AllPairs-none (λ a b. a.0 ≢ b.0)
zip-apart {X} {Y} (x ∷ xs) (y ∷ ys) all =
    AllPairs-append (λ (a : X × Y) (b : X × Y). a.0 ≢ b.0) ((x, y) ∷ []) (zip xs ys) (AllPairs-single (λ (a : X × Y) (b : X × Y). a.0 ≢ b.0) (x, y))
    (zip-apart xs ys (AllPairs-rest (λ (a : X) (b : X). a ≢ b) x xs all))
    (λ a b one two. ⊎_elim
    (λ (here : (x, y) ≡ a).
    let (k, at, other) = zip_places xs ys b two in
    λ (same : a.0 ≡ b.0). AllPairs-first (λ (c : X) (d : X). c ≢ d) x b.0 xs all (item_at_place xs k b.0 at) (ap (λ (p : X × Y). p.0) here ∙ same))
    (λ none. absurd (Contains-none a none))
    (Contains-cases (x, y) a [] one))

-- where no list is bound the interface stays
face-stays : (net : Network) (chosen : List Edit) (router : ℕ) (command : Command) (name : List ℕ) (block : List FileCommand) → command ≡ commands.Interface name →
    new_inbound net chosen router name ≡ None →
    face_by command 0 block ≡ map (face_with net chosen router) (face_by command 0 block)
face-stays net chosen router command name block is none =
    subst (λ (c : Command). face_by c 0 block ≡ map (face_with net chosen router) (face_by c 0 block)) (sym is)
    (let t = face_text name 0 block in sym (ap (λ (o : Option (List ℕ)). record t { list_in = option_or (option_map said o) t.list_in } ∷ []) none))

module _ (net : Network) (places : List Places) (chosen : List Edit) (router : ℕ) (text : List ℕ) (lines : Lines) (cs : List FileCommand)
    (f : IsEditedFile net places chosen router text lines cs) where
  abbrev grown_at : FileCommand → List FileCommand
  grown_at c = grow_at net places chosen router text lines cs c

  abbrev own_at : Places
  own_at = own net places chosen router text lines cs

  abbrev ends_at : FileCommand → List Written
  ends_at c = after_at net places chosen router text lines cs c

  abbrev up : Rising 1 cs
  up = rising (text_lines text) cs f.stand

  -- no two new packet lists are of one interface
  lists-apart : AllPairs (λ (a : NewList × List ℕ) (b : NewList × List ℕ). a.0 ≢ b.0) (named_lists net chosen router)
  lists-apart =
      zip-apart (new_lists_of net chosen router) (new_names_of net chosen router)
      (pairs_picked (λ (x : ℕ × NewList) (y : ℕ × NewList). x.1 ≢ y.1) (λ (x : NewList) (y : NewList). x ≢ y) (if_number router) (new_lists net chosen)
      (λ x z y w differ e g same. differ ((numbered router x y e).1 ∙ same ∙ sym (numbered router z w g).1)) (new_lists_apart net f.valid chosen))

  module _ (name : List ℕ) where
    abbrev bound : NewList × List ℕ → Option (List ℕ)
    bound l = list_for net name l.1 l.0

    bound-row : (face : Face) (n x : List ℕ) (h : HasFace net places router cs face.0) → list_for net name n (Packet face) ≡ Some x → (h.row.name ≡ name)
    bound-row face n x h is = by (bytes_eq h.row.name name) refl (sym (ap (option_and_then (λ (row : FaceRow). if bytes_eq row.name name then Some n else None)) h.at) ∙ is)
      where
        by : (b : Bool) → bytes_eq h.row.name name ≡ b → (if b then Some n else None) ≡ Some x → h.row.name ≡ name
        by true e same = (bytes_eq-Decides h.row.name name).0 e
        by false e same = absurd (none-some x same)

    one-bound : (a b : NewList × List ℕ) → Contains (named_lists net chosen router) a → Contains (named_lists net chosen router) b → a.0 ≢ b.0 → (x y : List ℕ) → bound a ≡ Some x →
        bound b ≡ Some y → ⊥
    one-bound (Route face, n) b in_a in_b differ x y one two = none-some x one
    one-bound (Packet face, n) (Route other, m) in_a in_b differ x y one two = none-some y two
    one-bound (Packet face, n) (Packet other, m) in_a in_b differ x y one two =
        let h = f.faces face n in_a in
        let k = f.faces other m in_b in
        let same : face.0 ≡ other.0 = one_face net f.valid face.0 other.0 h.row k.row h.at k.at (h.own ∙ sym k.own) (bound-row face n x h one ∙ sym (bound-row other m y k two)) in
        differ (λ i. Packet (record { 0 = same i }))

    none-twice : AllPairs (λ (x : List ℕ) (y : List ℕ). ⊥) (filter_map bound (named_lists net chosen router))
    none-twice =
        pairs_picked (λ (a : NewList × List ℕ) (b : NewList × List ℕ). (x y : List ℕ) → bound a ≡ Some x → bound b ≡ Some y → ⊥) (λ (x : List ℕ) (y : List ℕ). ⊥) bound
        (named_lists net chosen router) (λ a b x y never one two. never x y one two)
        (AllPairs-among (λ (a : NewList × List ℕ) (b : NewList × List ℕ). a.0 ≢ b.0)
        (λ (a : NewList × List ℕ) (b : NewList × List ℕ). (x y : List ℕ) → bound a ≡ Some x → bound b ≡ Some y → ⊥) (named_lists net chosen router) one-bound lists-apart)

  module _ (q : Part) (first : FileCommand) (rest : List FileCommand) (is : members cs q ≡ first ∷ rest) (name : List ℕ) (heads : first.command ≡ commands.Interface name) where
    first-there : Contains (members cs q) first
    first-there = subst (λ (l : List FileCommand). Contains l first) (sym is) (Contains-head first rest)

    abbrev shown : FaceText
    shown = face_text name first.line (first ∷ rest)

    shown-there : Contains (config_of cs).faces shown
    shown-there =
        let (among, part) = members-of cs q first first-there in
        let g = group-of cs first q among part in
        let there : Contains (groups cs) (first ∷ rest) = subst (λ (l : List FileCommand). Contains (groups cs) l) (sym g.is ∙ is) g.there in
        Contains-piece face_of (groups cs) (first ∷ rest) shown there (subst (λ (c : Command). Contains (face_by c first.line (first ∷ rest)) shown) (sym heads) (Contains-head shown []))

    abbrev b : HasFaceBlock cs shown
    b = face-blocks (text_lines text) cs shown f.stand shown-there

    first-head : first ≡ b.head
    first-head = one-line 1 cs first b.head up (members-of cs q first first-there).0 b.block.among b.head_line

    block-is : (c : FileCommand) → Contains cs c → c.block ≡ b.head.line → part_of c ≡ Block b.head.line
    block-is c has block = block-own net places chosen router text lines cs f c has (λ none. b.block.some (b.block.own ∙ sym block ∙ none)) ∙ ap Block block

    part-is : q ≡ Block b.head.line
    part-is = sym (members-of cs q first first-there).1 ∙ ap part_of first-head ∙ block-is b.head b.block.among b.block.own

    mine : (c : FileCommand) → Contains (members cs q) c → c.block ≡ b.head.line
    mine c there = part-block c.block b.head.line c.command ((members-of cs q c there).1 ∙ part-is)

    last-there : Contains (members cs q) b.last
    last-there = Contains-filter (λ (d : FileCommand). is_same q (part_of d)) cs b.last b.block.last_among
        (ap (is_same q) (block-is b.last b.block.last_among b.block.last_block ∙ sym part-is) ∙ is-self q)

    not-process : (c : FileCommand) → Contains (members cs q) c → (p : HasProcess cs f.process) → c ≡ p.last → ⊥
    not-process c there p last =
        let block : c.block ≡ p.head.line = ap (λ (x : FileCommand). x.block) last ∙ p.block.last_block in
        let same : p.head ≡ b.head = one-line 1 cs p.head b.head up p.block.among b.block.among (sym block ∙ mine c there) in
        let opens : kinds.Interface ≡ p.within = ap opened_by (sym b.name) ∙ ap (λ (x : FileCommand). opened_by x.command) (sym same) ∙ p.block.opens in
        ⊎_elim
        (λ ospf. (let clash : kinds.Interface ≡ kinds.Ospf = opens ∙ ospf.0 in absurd cc))
        (λ bgp. (let clash : kinds.Interface ≡ kinds.Bgp = opens ∙ bgp.0 in absurd cc))
        p.kind

    -- blocks of one head end with one command
    one-last : (other : FaceText) (e : HasFaceBlock cs other) → e.head ≡ b.head → e.last ≡ b.last
    one-last other e same =
        let head : e.head.line ≡ b.head.line = ap (λ (x : FileCommand). x.line) same in
        let one : b.last.line ≤ e.last.line = e.block.latest b.last b.block.last_among (block-is b.last b.block.last_among b.block.last_block ∙ ap Block (sym head)) in
        let two : e.last.line ≤ b.last.line = b.block.latest e.last e.block.last_among (block-is e.last e.block.last_among (e.block.last_block ∙ head)) in
        one-line 1 cs e.last b.last up e.block.last_among b.block.last_among (omega (arith, one, two))

    other-ends : (c : FileCommand) → Contains (members cs q) c → c.line ≢ b.last.line → ends_at c ≡ []
    other-ends c there other = none-in (ends_at c) (λ w in_ends. at-end w (end-at net places chosen router text lines cs f c w (members-of cs q c there).0 in_ends))
      where
        at-end : (w : Written) → EndAt net places chosen router cs f.process c w → ⊥
        at-end w (OfProcess p last line) = not-process c there p last
        at-end w (OfFace e) =
            let block : c.block ≡ e.block.head.line = ap (λ (x : FileCommand). x.block) e.last ∙ e.block.block.last_block in
            let same : e.block.head ≡ b.head = one-line 1 cs e.block.head b.head up e.block.block.among b.block.among (sym block ∙ mine c there) in
            other (ap (λ (x : FileCommand). x.line) (e.last ∙ one-last e.has.face e.block same))

    abbrev binding : List ℕ → FileCommand
    binding n = unplaced (commands.Group n true)

    abbrev wrote : NewList × List ℕ → Option (ℕ × Command)
    wrote named = group_command (face_places places) named.0 named.1

    -- a binding stands after this interface where it is one of it
    last-is-named : (h-face : FaceText) (e : HasFaceBlock cs h-face) (row : List ℕ) → h-face.name ≡ row → (h-face.last == b.last.line) ≡ bytes_eq row name
    last-is-named h-face e row named = ⊎_elim
        (λ (same : bytes_eq row name ≡ true).
        let whole : h-face.name ≡ name = named ∙ (bytes_eq-Decides row name).0 same in
        let one : e.head.command ≡ commands.Interface name = e.name ∙ ap (λ (n : List ℕ). commands.Interface n) whole in
        let head : e.head ≡ b.head = same-stand cs e.head b.head f.once e.block.among b.block.among (face-clash e.head.command b.head.command name one b.name)
        (face-clash b.head.command e.head.command name b.name one) in
        eq-eqb h-face.last b.last.line (e.last_line ∙ ap (λ (x : FileCommand). x.line) (one-last h-face e head)) ∙ sym same)
        (λ (other : bytes_eq row name ≡ false).
        ne_eqb h-face.last b.last.line (λ same.
        let last : e.last ≡ b.last = one-line 1 cs e.last b.last up e.block.last_among b.block.last_among (sym e.last_line ∙ same) in
        let block : e.head.line ≡ b.head.line = sym e.block.last_block ∙ ap (λ (x : FileCommand). x.block) last ∙ b.block.last_block in
        let head : e.head ≡ b.head = one-line 1 cs e.head b.head up e.block.among b.block.among block in
        let whole : h-face.name ≡ name = same-name h-face.name name (sym e.name ∙ ap (λ (x : FileCommand). x.command) head ∙ b.name) in
        false≢true (sym other ∙ (bytes_eq-Decides row name).1 (sym named ∙ whole))) ∙ sym other)
        (cases_Bool (bytes_eq row name))

    bound-here : (named : NewList × List ℕ) → Contains (named_lists net chosen router) named →
        option_map unplaced (option_and_then (if_number b.last.line) (wrote named)) ≡ option_map binding (bound name named)
    bound-here (Route face, n) there = refl
    bound-here (Packet face, n) there =
        let h = f.faces face n there in
        let e = face-blocks (text_lines text) cs h.face f.stand h.among in
        let w : Command = commands.Group n true in
        ap (λ (o : Option FacePlace). option_map unplaced (option_and_then (if_number b.last.line) (option_map (λ (place : FacePlace). (place.last, w)) o))) h.place_is ∙
        ap (λ (c : Bool). option_map unplaced (if c then Some w else None)) (last-is-named h.face e h.row.name h.name) ∙ by (bytes_eq h.row.name name) ∙
        ap (λ (o : Option FaceRow). option_map binding (option_and_then (λ (row : FaceRow). if bytes_eq row.name name then Some n else None) o)) (sym h.at)
      where
        by : (c : Bool) → option_map unplaced (if c then Some (commands.Group n true) else None) ≡ option_map binding (if c then Some n else None)
        by true = refl
        by false = refl

    last-ends : map plainly (ends_at b.last) ≡ map binding (filter_map (bound name) (named_lists net chosen router))
    last-ends =
        let n = b.last.line in
        let process_at = all_at own_at.process_last (process_commands net chosen router) in
        let p = process-here net places chosen router text lines cs f in
        let none : of_number n process_at ≡ [] = none-at n process_at (λ item there same.
        (let (k, among, made) = from_map (λ (x : Command). (own_at.process_last, x)) (process_commands net chosen router) item there in
        let line : p.last.line ≡ n = sym (last-line net places chosen router text lines cs f) ∙ ap (λ (x : ℕ × Command). x.0) made ∙ same in
        not-process b.last last-there p (one-line 1 cs b.last p.last up b.block.last_among p.block.last_among (sym line)))) in
        plainly-written (of_number n (process_at ++ filter_map wrote (named_lists net chosen router))) ∙
        ap (map unplaced)
        (of-append n process_at (filter_map wrote (named_lists net chosen router)) ∙ ap (λ (l : List Command). l ++ of_number n (filter_map wrote (named_lists net chosen router))) none ∙
        picked_twice (if_number n) wrote (λ (named : NewList × List ℕ). option_and_then (if_number n) (wrote named)) (λ named. refl) (named_lists net chosen router)) ∙
        picks-alike (λ (named : NewList × List ℕ). option_and_then (if_number n) (wrote named)) (bound name) unplaced binding (named_lists net chosen router) bound-here

    no-list : list_begun first.command ≡ None
    no-list = ap list_begun heads

    face-shape : map bare (flat_map grown_at (members cs q)) ≡ map bare (members cs q) ++ map binding (filter_map (bound name) (named_lists net chosen router))
    face-shape =
        ends-grown 1 (members cs q) b.last grown_at (map binding (filter_map (bound name) (named_lists net chosen router)))
        (rising-filter (λ (d : FileCommand). is_same q (part_of d)) 1 cs up) last-there
        (λ d there. b.block.latest d (members-of cs q d there).0 ((members-of cs q d there).1 ∙ part-is))
        (λ c there other. bare-plain net places chosen router text lines cs f q first rest is no-list c there ∙ ap (λ (l : List Written). bare c ∷ map plainly l) (other-ends c there other))
        (bare-plain net places chosen router text lines cs f q first rest is no-list b.last last-there ∙ ap (λ (l : List FileCommand). bare b.last ∷ l) last-ends)

    pub face-grows : face_of (map bare (flat_map grown_at (members cs q))) ≡ map (face_with net chosen router) (face_of (map bare (members cs q)))
    face-grows = by (filter_map (bound name) (named_lists net chosen router)) refl (none-twice name)
      where
        by : (ns : List (List ℕ)) → filter_map (bound name) (named_lists net chosen router) ≡ ns → AllPairs (λ (x : List ℕ) (y : List ℕ). ⊥) (filter_map (bound name) (named_lists net chosen router)) →
            face_of (map bare (flat_map grown_at (members cs q))) ≡ map (face_with net chosen router) (face_of (map bare (members cs q)))
        by [] e once =
            ap face_of (face-shape ∙ (λ i. map bare (is i) ++ map binding (e i)) ∙ append-nil (map bare (first ∷ rest))) ∙
            face-stays net chosen router first.command name (map bare (first ∷ rest)) heads (ap (λ (l : List (List ℕ)). slice_get l 0) e)
            ∙ ap (λ (l : List FileCommand). map (face_with net chosen router) (face_of (map bare l))) (sym is)
        by (n ∷ []) e once =
            ap face_of (face-shape ∙ (λ i. map bare (is i) ++ map binding (e i))) ∙ faces-grow net chosen router first rest name n heads (ap (λ (l : List (List ℕ)). slice_get l 0) e) ∙
            ap (λ (l : List FileCommand). map (face_with net chosen router) (face_of (map bare l))) (sym is)
        by (n ∷ m ∷ ns) e once = absurd (AllPairs-first (λ (x : List ℕ) (y : List ℕ). ⊥) n m (m ∷ ns) (subst (AllPairs (λ (x : List ℕ) (y : List ℕ). ⊥)) e once) (Contains-head m ns))

  pub faces : (q : Part) → Contains (distinct (map part_of cs)) q → face_of (map bare (flat_map grown_at (members cs q))) ≡ map (face_with net chosen router) (face_of (map bare (members cs q)))
  faces q known =
      let g = known-group cs q known in
      ⊎_elim
      (λ (heads : heads_face g.first.command ≡ true). (let (name, is) = face-name g.first.command heads in face-grows q g.first g.rest g.is name is))
      (λ (other : heads_face g.first.command ≡ false).
      let n = grown-first net places chosen router text lines cs f g.first g.among in
      let quiet : heads_face n.first.command ≡ false = ⊎_elim
      (λ entry. entry-heads n.first.command entry.0)
      (λ new. ap heads_face new ∙ number-heads g.first.command (of_number g.first.line (numbers_at net own_at chosen router)) ∙ other)
      n.says in
      ap (λ (l : List FileCommand). face_of (map bare (flat_map grown_at l))) g.is ∙ ap (λ (l : List FileCommand). face_of (map bare (l ++ flat_map grown_at g.rest))) n.is ∙
      no-face n.first.command 0 (map bare (n.first ∷ (n.rest ++ flat_map grown_at g.rest))) quiet ∙
      ap (map (face_with net chosen router)) (sym (no-face g.first.command 0 (map bare (g.first ∷ g.rest)) other))
      ∙ ap (λ (l : List FileCommand). map (face_with net chosen router) (face_of (map bare l))) (sym g.is))
      (cases_Bool (heads_face g.first.command))
