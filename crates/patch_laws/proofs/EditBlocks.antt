-- The process and the interfaces of a file grow by what edits put at their ends.
use Rattle.std.proofs.Common.{◌≡◌, ◌≢◌, ℕ, ◌+◌, ◌≤◌, ◌⊎◌, inl, inr, Bool, true, false, Some, None, List, [], ◌∷◌, ◌++◌, map, refl, sym, ap, subst, ◌∙◌, arith, ⊎_elim, Contains, append-nil}
use Rattle.std.specs.List.{flat_map}
use Rattle.std.proofs.lemmas.Bool.{cases_Bool}
use Rattle.std.proofs.lemmas.Option.{none-some}
use Rattle.std.proofs.lemmas.List.{map-append}
use Rattle.arc_base.proofs.Items.{Contains-cases, Contains-none, Contains-head, Contains-tail, Contains-filter, Contains-piece, from_filter, from_map}
use Rattle.net_model.specs.declared.rows.Network.{Network}
use Rattle.ios_lines.specs.declared.line.Lines.{Lines}
use Rattle.ios_lines.specs.Texts.{text_lines}
use Rattle.ios_words.specs.declared.commands.Command.{Command}
use Rattle.ios_words.specs.declared.commands.Command.TheVariants as commands
use Rattle.ios_config.specs.declared.commands.FileCommand.{FileCommand}
use Rattle.ios_config.specs.declared.settings.ProcessText.{ProcessText}
use Rattle.ios_config.specs.Bare.{bare}
use Rattle.ios_config.specs.Groups.{Part, Block, is_same, part_in, part_of, distinct, members, groups}
use Rattle.ios_config.specs.ProcessLines.{HasProcess}
use Rattle.ios_config.specs.Texts.{is_entry, process_by, process_of}
use Rattle.ios_config.proofs.HeadsFirst.{part-block}
use Rattle.ios_config.proofs.JoinedParts.{is-self}
use Rattle.ios_config.proofs.LinesBefore.{Rising}
use Rattle.ios_config.proofs.PartLists.{is_same-Decides}
use Rattle.ios_config.proofs.ProcessBlocks.{rising-filter}
use Rattle.net_build.specs.declared.built.Places.{Places}
use Rattle.edit_list.specs.declared.edit_kinds.Edit.{Edit}
use Rattle.arc_base.specs.Numbered.{of_number}
use Rattle.line_patcher.specs.declared.additions.NewNumber.{NewNumber}
use Rattle.line_patcher.specs.Additions.{all_at, numbers_at, process_commands}
use Rattle.line_patcher.specs.NewListLines.{group_commands}
use Rattle.settings_edit_laws.specs.SettingsAfter.{process_with}
use Rattle.line_edit_laws.specs.Sites.{Written, in_block, says_other}
use Rattle.line_edit_laws.proofs.Grown.{from-distinct}
use Rattle.patch_laws.specs.EditFiles.{IsEditedFile}
use Rattle.patch_laws.specs.EditSites.{entries_at, with_number}
use Rattle.patch_laws.specs.EndLines.{unplaced}
use Rattle.patch_laws.specs.Written.{written_of}
use Rattle.patch_laws.specs.ListsGrow.{list_begun}
use Rattle.patch_laws.proofs.EditGrow.{own, grow_at, after_at, new_at, grow-is}
use Rattle.patch_laws.proofs.EditLists.{list-group, none-at, none-in, of-append}
use Rattle.patch_laws.proofs.EditParts.{entry-at, EndAt, OfProcess, OfFace, FaceEnd, end-at, face-end, block-own, number-at}
use Rattle.patch_laws.proofs.EditBusy.{AtFace, face-line, last-line, process-here}
use Rattle.patch_laws.proofs.EndLines.{processes-grow}
use Rattle.patch_laws.proofs.RowLines.{of-number-here}
use Rattle.patch_laws.proofs.FileParts.{GroupOf, group-of, rising, one-line}

-- a written line's command without numbers
abbrev pub plainly : Written → FileCommand
plainly w = unplaced w.command

pub plainly-written : (commands : List Command) → map plainly (map written_of commands) ≡ map unplaced commands
plainly-written [] = refl
plainly-written (command ∷ commands) = ap (λ (l : List FileCommand). unplaced command ∷ l) (plainly-written commands)

pub bare-written : (block : ℕ) (ws : List Written) → map bare (map (in_block block) ws) ≡ map plainly ws
bare-written block [] = refl
bare-written block (w ∷ ws) = ap (λ (l : List FileCommand). plainly w ∷ l) (bare-written block ws)

-- commands of which only the last one grows
pub ends-grown : (n : ℕ) (g : List FileCommand) (last : FileCommand) (h : FileCommand → List FileCommand) (tail : List FileCommand) → Rising n g → Contains g last →
    ((d : FileCommand) → Contains g d → d.line ≤ last.line) →
    ((c : FileCommand) → Contains g c → c.line ≢ last.line → map bare (h c) ≡ bare c ∷ []) → map bare (h last) ≡ bare last ∷ tail → map bare (flat_map h g) ≡ map bare g ++ tail
ends-grown n [] last h tail up has latest others end = absurd (Contains-none last has)
ends-grown n (c ∷ []) last h tail up has latest others end =
    let same : c ≡ last = ⊎_elim (λ (here : c ≡ last). here) (λ none. absurd (Contains-none last none)) (Contains-cases c last [] has) in
    map-append bare (h c) [] ∙ append-nil (map bare (h c)) ∙ ap (λ (x : FileCommand). map bare (h x)) same ∙ end ∙ ap (λ (x : FileCommand). bare x ∷ tail) (sym same)
ends-grown n (c ∷ d ∷ g) last h tail up has latest others end =
    let next : c.line + 1 ≤ d.line = up.1.0 in
    let low : d.line ≤ last.line = latest d (Contains-tail c d (d ∷ g) (Contains-head d g)) in
    let deeper : Contains (d ∷ g) last = ⊎_elim (λ (here : c ≡ last). absurd (let at : c.line ≡ last.line = ap (λ (x : FileCommand). x.line) here in omega (arith, next, low, at)))
    (λ later. later) (Contains-cases c last (d ∷ g) has) in
    let rest = ends-grown (c.line + 1) (d ∷ g) last h tail up.1 deeper (λ x there. latest x (Contains-tail c x (d ∷ g) there))
    (λ x there other. others x (Contains-tail c x (d ∷ g) there) other) end in
    let one : map bare (h c) ≡ bare c ∷ [] = others c (Contains-head c (d ∷ g)) (λ same. omega (arith, next, low, same)) in
    map-append bare (h c) (flat_map h (d ∷ g)) ∙ (λ i. one i ++ rest i)

-- whether a command heads a process
abbrev heads_process : Command → Bool
heads_process (commands.RouterOspf number) = true
heads_process (commands.RouterBgp number) = true
heads_process _ = false

no-process : (command : Command) (head : FileCommand) (rest : List FileCommand) → heads_process command ≡ false → process_by command head rest ≡ []
no-process (commands.RouterOspf number) head rest is = absurd cc
no-process (commands.RouterBgp number) head rest is = absurd cc
no-process _ head rest is = refl

number-heads : (command : Command) (new : List NewNumber) → heads_process (with_number command new) ≡ heads_process command
number-heads command [] = refl
number-heads (commands.Entry order entry) (new ∷ more) = refl
number-heads (commands.PrefixLine name order entry) (new ∷ more) = refl
number-heads _ (new ∷ more) = refl

entry-heads : (command : Command) → is_entry command ≡ true → heads_process command ≡ false
entry-heads (commands.Entry order entry) is = refl
entry-heads (commands.ListLine name entry) is = refl
entry-heads (commands.PrefixLine name order entry) is = refl
entry-heads (commands.RouterOspf number) is = absurd cc
entry-heads (commands.RouterBgp number) is = absurd cc
entry-heads _ is = refl

no-begun : (command : Command) → heads_process command ≡ true → list_begun command ≡ None
no-begun (commands.RouterOspf number) is = refl
no-begun (commands.RouterBgp number) is = refl
no-begun _ is = absurd cc

heads-made : (command : Command) (head : FileCommand) (rest : List FileCommand) → heads_process command ≡ true → (p : ProcessText) × Contains (process_by command head rest) p × (p.head ≡ head.line)
heads-made (commands.RouterOspf number) head rest is = (_, Contains-head _ [], refl)
heads-made (commands.RouterBgp number) head rest is = (_, Contains-head _ [], refl)
heads-made _ head rest is = absurd cc

pub known-group : (cs : List FileCommand) (q : Part) → Contains (distinct (map part_of cs)) q → GroupOf cs q
known-group cs q known =
    let (c, has, same) = from_map part_of cs q (from-distinct (map part_of cs) q known) in
    group-of cs c q has same

pub heads-same : (x y : FileCommand) (xs ys : List FileCommand) → x ∷ xs ≡ y ∷ ys → x ≡ y
heads-same x y xs ys e = cc

pub members-of : (cs : List FileCommand) (q : Part) (c : FileCommand) → Contains (members cs q) c → Contains cs c × (part_of c ≡ q)
members-of cs q c there =
    let (among, same) = from_filter (λ (d : FileCommand). is_same q (part_of d)) cs c there in
    (among, sym ((is_same-Decides q (part_of c)).0 same))

module _ (net : Network) (places : List Places) (chosen : List Edit) (router : ℕ) (text : List ℕ) (lines : Lines) (cs : List FileCommand)
    (f : IsEditedFile net places chosen router text lines cs) where
  abbrev grown_at : FileCommand → List FileCommand
  grown_at c = grow_at net places chosen router text lines cs c

  abbrev own_at : Places
  own_at = own net places chosen router text lines cs

  abbrev ends_at : FileCommand → List Written
  ends_at c = after_at net places chosen router text lines cs c

  -- what stands first for a command
  pub record GrownFirst (c : FileCommand) : Type 0 where
    pub first : FileCommand
    pub rest : List FileCommand
    pub is : grown_at c ≡ first ∷ rest
    pub block : ℕ
    pub says : ((is_entry first.command ≡ true) × (is_entry c.command ≡ true) × (part_in block first.command ≡ part_in block c.command)) ⊎ (first.command ≡ new_at net places
        chosen router text lines cs c)

  pub grown-first : (c : FileCommand) → Contains cs c → GrownFirst c
  grown-first c has = by (entries_at net own_at chosen router c) refl
    where
      by : (ws : List Written) → entries_at net own_at chosen router c ≡ ws → GrownFirst c
      by [] is = record {
        first = says_other c (new_at net places chosen router text lines cs c);
        rest = map (in_block c.block) (ends_at c);
        is = grow-is net places chosen router text lines cs c
            ∙ ap (λ (l : List Written). map (in_block c.block) l ++ (says_other c (new_at net places chosen router text lines cs c) ∷ map (in_block c.block) (ends_at c))) is;
        block = c.block;
        says = inr refl;
      }
      by (w ∷ ws) is = record {
        first = in_block c.block w;
        rest = map (in_block c.block) ws ++ (says_other c (new_at net places chosen router text lines cs c) ∷ map (in_block c.block) (ends_at c));
        is = grow-is net places chosen router text lines cs c
            ∙ ap (λ (l : List Written). map (in_block c.block) l ++ (says_other c (new_at net places chosen router text lines cs c) ∷ map (in_block c.block) (ends_at c))) is;
        block = c.block;
        says = (let e = entry-at net places chosen router text lines cs f c w has (subst (λ (l : List Written). Contains l w) (sym is) (Contains-head w ws)) in inl (e.is, e.entry, e.part));
      }

  module _ (q : Part) (first : FileCommand) (rest : List FileCommand) (is : members cs q ≡ first ∷ rest) where
    first-there : Contains (members cs q) first
    first-there = subst (λ (l : List FileCommand). Contains l first) (sym is) (Contains-head first rest)

    same-first : (p : Part) (c d : FileCommand) (more : List FileCommand) → part_of c ≡ p → part_of c ≡ q → members cs p ≡ d ∷ more → first ≡ d
    same-first p c d more one two other = heads-same first d rest more (sym is ∙ ap (members cs) (sym two ∙ one) ∙ other)

    module _ (none : list_begun first.command ≡ None) where
      no-list : (c : FileCommand) → part_of c ≡ q → (p : Part) (d : FileCommand) (more : List FileCommand) → part_of c ≡ p → members cs p ≡ d ∷ more → (x : _) → list_begun d.command ≡ Some x → ⊥
      no-list c two p d more one other x begun = none-some x (sym none ∙ ap (λ (y : FileCommand). list_begun y.command) (same-first p c d more one two other) ∙ begun)

      no-entries : (c : FileCommand) → Contains (members cs q) c → entries_at net own_at chosen router c ≡ []
      no-entries c there = by (entries_at net own_at chosen router c) refl
        where
          by : (ws : List Written) → entries_at net own_at chosen router c ≡ ws → ws ≡ []
          by [] e = refl
          by (w ∷ ws) e =
              let (among, part) = members-of cs q c there in
              let x = entry-at net places chosen router text lines cs f c w among (subst (λ (l : List Written). Contains l w) (sym e) (Contains-head w ws)) in
              absurd (no-list c part x.group.part x.group.first x.group.rest x.own x.group.is _ x.group.begun)

      no-numbers : (c : FileCommand) → Contains (members cs q) c → of_number c.line (numbers_at net own_at chosen router) ≡ []
      no-numbers c there = by (of_number c.line (numbers_at net own_at chosen router)) refl
        where
          by : (ns : List NewNumber) → of_number c.line (numbers_at net own_at chosen router) ≡ ns → ns ≡ []
          by [] e = refl
          by (n ∷ ns) e =
              let (among, part) = members-of cs q c there in
              let x = number-at net places chosen router text lines cs f c n among (subst (λ (l : List NewNumber). Contains l n) (sym e) (Contains-head n ns)) in
              let g = list-group cs x.list x.among in
              absurd (no-list c part g.part g.first g.rest x.own g.is _ g.begun)

      -- a command that is of no list grows at its end alone
      pub bare-plain : (c : FileCommand) → Contains (members cs q) c → map bare (grown_at c) ≡ bare c ∷ map plainly (ends_at c)
      bare-plain c there =
          let tail = says_other c (new_at net places chosen router text lines cs c) ∷ map (in_block c.block) (ends_at c) in
          let whole : grown_at c ≡ tail = grow-is net places chosen router text lines cs c ∙ ap (λ (l : List Written). map (in_block c.block) l ++ tail) (no-entries c there) in
          let command : new_at net places chosen router text lines cs c ≡ c.command = ap (with_number c.command) (no-numbers c there) in
          ap (map bare) whole ∙ (let ends = bare-written c.block (ends_at c) in λ i. record { line = 0; block = 0; command = command i } ∷ ends i)

    -- the group of the process
    module _ (heads : heads_process first.command ≡ true) where
      abbrev h : HasProcess cs f.process
      h = process-here net places chosen router text lines cs f

      first-head : first ≡ h.head
      first-head =
          let (among, part) = members-of cs q first first-there in
          let g = group-of cs first q among part in
          let there : Contains (groups cs) (first ∷ rest) = subst (λ (l : List FileCommand). Contains (groups cs) l) (sym g.is ∙ is) g.there in
          let (p, in_p, head) = heads-made first.command first rest heads in
          let in_config : Contains (f.process ∷ []) p = subst (λ (ps : List ProcessText). Contains ps p) f.one (Contains-piece process_of (groups cs) (first ∷ rest) p there in_p) in
          let same : f.process ≡ p = ⊎_elim (λ (here : f.process ≡ p). here) (λ none. absurd (Contains-none p none)) (Contains-cases f.process p [] in_config) in
          one-line 1 cs first h.head (rising (text_lines text) cs f.stand) among h.block.among (sym head ∙ ap (λ (x : ProcessText). x.head) (sym same) ∙ h.head_line)

      block-is : (c : FileCommand) → Contains cs c → c.block ≡ h.head.line → part_of c ≡ Block h.head.line
      block-is c has block = block-own net places chosen router text lines cs f c has (λ none. h.block.some (h.block.own ∙ sym block ∙ none)) ∙ ap Block block

      part-is : q ≡ Block h.head.line
      part-is = sym (members-of cs q first first-there).1 ∙ ap part_of first-head ∙ block-is h.head h.block.among h.block.own

      not-face : (c : FileCommand) (w : Written) → Contains (members cs q) c → FaceEnd net places chosen router cs c w → ⊥
      not-face c w there e =
          let block : c.block ≡ e.block.head.line = ap (λ (x : FileCommand). x.block) e.last ∙ e.block.block.last_block in
          let mine : c.block ≡ h.head.line = part-block c.block h.head.line c.command ((members-of cs q c there).1 ∙ part-is) in
          let same : e.block.head ≡ h.head = one-line 1 cs e.block.head h.head (rising (text_lines text) cs f.stand) e.block.block.among h.block.among (sym block ∙ mine) in
          let clash : true ≡ false = sym heads ∙ ap (λ (x : FileCommand). heads_process x.command) (first-head ∙ sym same) ∙ ap heads_process e.block.name in
          absurd cc

      other-ends : (c : FileCommand) → Contains (members cs q) c → c.line ≢ h.last.line → ends_at c ≡ []
      other-ends c there other = none-in (ends_at c) (λ w in_ends. at-end w (end-at net places chosen router text lines cs f c w (members-of cs q c there).0 in_ends))
        where
          at-end : (w : Written) → EndAt net places chosen router cs f.process c w → ⊥
          at-end w (OfProcess p last line) = other (ap (λ (x : FileCommand). x.line) last ∙ latest-same p)
            where
              latest-same : (p : HasProcess cs f.process) → p.last.line ≡ h.last.line
              latest-same p = sym p.last_line ∙ h.last_line
          at-end w (OfFace e) = not-face c w there e

      last-there : Contains (members cs q) h.last
      last-there = Contains-filter (λ (d : FileCommand). is_same q (part_of d)) cs h.last h.block.last_among
          (ap (is_same q) (block-is h.last h.block.last_among h.block.last_block ∙ sym part-is) ∙ is-self q)

      last-ends : ends_at h.last ≡ map written_of (process_commands net chosen router)
      last-ends =
          let groups_at = group_commands net places chosen router in
          let process_at = all_at own_at.process_last (process_commands net chosen router) in
          let last = last-line net places chosen router text lines cs f in
          let none : of_number h.last.line groups_at ≡ [] = none-at h.last.line groups_at (λ item there same.
          (let a = subst (λ (n : ℕ). AtFace net places chosen router text lines cs f (n, item.1)) same (face-line net places chosen router text lines cs f item there) in
          not-face h.last (written_of item.1) last-there (face-end net places chosen router text lines cs f h.last item.1 h.block.last_among a))) in
          ap (map written_of)
          (of-append h.last.line process_at groups_at ∙ (let same = sym last in λ i. of_number (same i) process_at ++ none i) ∙ append-nil (of_number own_at.process_last process_at) ∙
          of-number-here own_at.process_last own_at.process_last (process_commands net chosen router) refl)

      pub process-shape : map bare (flat_map grown_at (members cs q)) ≡ map bare (members cs q) ++ map unplaced (process_commands net chosen router)
      process-shape =
          let none = no-begun first.command heads in
          ends-grown 1 (members cs q) h.last grown_at (map unplaced (process_commands net chosen router))
          (rising-filter (λ (d : FileCommand). is_same q (part_of d)) 1 cs (rising (text_lines text) cs f.stand)) last-there
          (λ d there. h.block.latest d (members-of cs q d there).0 ((members-of cs q d there).1 ∙ part-is))
          (λ c there other. bare-plain none c there ∙ ap (λ (l : List Written). bare c ∷ map plainly l) (other-ends c there other))
          (bare-plain none h.last last-there ∙ ap (λ (l : List Written). bare h.last ∷ map plainly l) last-ends ∙
          ap (λ (l : List FileCommand). bare h.last ∷ l) (plainly-written (process_commands net chosen router)))

  pub processes : (q : Part) → Contains (distinct (map part_of cs)) q →
      process_of (map bare (flat_map grown_at (members cs q))) ≡ map (process_with net chosen router) (process_of (map bare (members cs q)))
  processes q known =
      let g = known-group cs q known in
      ⊎_elim
      (λ (heads : heads_process g.first.command ≡ true).
      ap process_of (process-shape q g.first g.rest g.is heads) ∙ ap (λ (l : List FileCommand). process_of (map bare l ++ map unplaced (process_commands net chosen router))) g.is ∙
      processes-grow net chosen router g.first g.rest ∙ ap (λ (l : List FileCommand). map (process_with net chosen router) (process_of (map bare l))) (sym g.is))
      (λ (other : heads_process g.first.command ≡ false).
      let n = grown-first g.first g.among in
      let quiet : heads_process n.first.command ≡ false = ⊎_elim
      (λ entry. entry-heads n.first.command entry.0)
      (λ new. ap heads_process new ∙ number-heads g.first.command (of_number g.first.line (numbers_at net own_at chosen router)) ∙ other)
      n.says in
      ap (λ (l : List FileCommand). process_of (map bare (flat_map grown_at l))) g.is ∙ ap (λ (l : List FileCommand). process_of (map bare (l ++ flat_map grown_at g.rest))) n.is ∙
      no-process n.first.command (bare n.first) (map bare (n.rest ++ flat_map grown_at g.rest)) quiet ∙
      ap (map (process_with net chosen router)) (sym (no-process g.first.command (bare g.first) (map bare g.rest) other))
      ∙ ap (λ (l : List FileCommand). map (process_with net chosen router) (process_of (map bare l))) (sym g.is))
      (cases_Bool (heads_process g.first.command))
