-- The lists of a file grow by the entries that edits put before their first ones.
use Rattle.std.proofs.Common.{◌≡◌, ◌≢◌, ℕ, ◌+◌, ◌<◌, ◌⊎◌, inl, inr, Bool, true, false, if◌then◌else◌, Option, Some, None, List, [], ◌∷◌, ◌++◌, map, refl, sym, ap, subst, ◌∙◌, arith, ⊎_elim}
use Rattle.std.proofs.Common.{Contains, append_assoc}
use Rattle.std.specs.List.{filter_map, flat_map}
use Rattle.std.proofs.lemmas.Bool.{false≢true}
use Rattle.std.proofs.lemmas.Option.{none-some}
use Rattle.std.proofs.lemmas.List.{map-append}
use Rattle.std.proofs.lemmas.List.Elements.{filter_map-append}
use Rattle.arc_base.proofs.Items.{Contains-cases, Contains-none, Contains-head, Contains-tail}
use Rattle.net_model.specs.declared.rows.Network.{Network}
use Rattle.ios_lines.specs.declared.line.Lines.{Lines}
use Rattle.ios_lines.specs.Texts.{text_lines}
use Rattle.ios_words.specs.declared.commands.Command.{Command}
use Rattle.ios_words.specs.declared.commands.Command.TheVariants as commands
use Rattle.ios_words.specs.declared.kinds.BlockKind.{BlockKind}
use Rattle.ios_words.specs.declared.kinds.BlockKind.TheVariants as kinds
use Rattle.ios_config.specs.declared.commands.FileCommand.{FileCommand}
use Rattle.ios_config.specs.declared.settings.Given.{Given}
use Rattle.ios_config.specs.declared.settings.ListForm.{ListForm}
use Rattle.ios_config.specs.declared.settings.ListKind.{ListKind}
use Rattle.ios_config.specs.declared.settings.ListText.{ListText}
use Rattle.ios_config.specs.Bare.{bare}
use Rattle.ios_config.specs.Commands.{opened_by}
use Rattle.ios_config.specs.Groups.{Part, Block, part_in, part_of, members}
use Rattle.ios_config.specs.Texts.{entries, given, is_entry, list_of, list_text}
use Rattle.ios_config.proofs.HeadsFirst.{head-first}
use Rattle.ios_config.proofs.LinesBefore.{Rising, rising-low}
use Rattle.net_build.specs.declared.built.Places.{Places}
use Rattle.edit_list.specs.declared.edit_kinds.Edit.{Edit}
use Rattle.arc_base.specs.Numbered.{of_number}
use Rattle.line_patcher.specs.declared.additions.NewNumber.{NewNumber}
use Rattle.line_patcher.specs.Additions.{numbers_at}
use Rattle.settings_edit_laws.specs.Additions.{front_lines}
use Rattle.settings_edit_laws.specs.Plain.{said, plain_entry, plain_list}
use Rattle.settings_edit_laws.specs.SettingsAfter.{list_with}
use Rattle.line_edit_laws.specs.Sites.{Written, in_block, says_other}
use Rattle.patch_laws.specs.EditFiles.{IsEditedFile}
use Rattle.patch_laws.specs.EditSites.{entries_at, with_number}
use Rattle.patch_laws.specs.ListsGrow.{list_begun}
use Rattle.patch_laws.proofs.EditBlocks.{plainly, bare-written, heads-same, members-of, grown-first, bare-plain}
use Rattle.patch_laws.proofs.EditGrow.{own, grow_at, after_at, new_at, grow-is}
use Rattle.patch_laws.proofs.EditLists.{none-in}
use Rattle.patch_laws.proofs.EditParts.{EndAt, OfProcess, OfFace, end-at, block-own}
use Rattle.patch_laws.proofs.ListsGrow.{made, by-head, lists-grow}

-- the entries of commands without numbers
abbrev pub shown : List FileCommand → List (Given Command)
shown cs = map plain_entry (entries (map bare cs))

-- those of written lines
abbrev pub written : List Written → List (Given Command)
written ws = map plain_entry (entries (map plainly ws))

shown-append : (xs ys : List FileCommand) → shown (xs ++ ys) ≡ shown xs ++ shown ys
shown-append xs ys =
    let pick : FileCommand → Option (Given Command) = λ c. if is_entry c.command then Some (given c) else None in
    ap (λ (l : List FileCommand). map plain_entry (entries l)) (map-append bare xs ys) ∙ ap (map plain_entry) (filter_map-append pick (map bare xs) (map bare ys))
    ∙ map-append plain_entry (entries (map bare xs)) (entries (map bare ys))

-- one command
abbrev alone : Command → List (Given Command)
alone k = map plain_entry (entries (record { line = 0; block = 0; command = k } ∷ []))

number-alone : (k : Command) (new : List NewNumber) → alone (with_number k new) ≡ alone k
number-alone k [] = refl
number-alone (commands.Entry order entry) (n ∷ more) = refl
number-alone (commands.PrefixLine name order entry) (n ∷ more) = refl
number-alone _ (n ∷ more) = refl

no-entry : (k : Command) → is_entry k ≡ false → alone k ≡ []
no-entry k none = ap (λ (b : Bool). map plain_entry (filter_map (λ (x : Option (Given Command)). x) ((if b then Some (record { value = k; line = 0 }) else None) ∷ []))) none

number-begun : (k : Command) (new : List NewNumber) → list_begun (with_number k new) ≡ list_begun k
number-begun k [] = refl
number-begun (commands.Entry order entry) (n ∷ more) = refl
number-begun (commands.PrefixLine name order entry) (n ∷ more) = refl
number-begun _ (n ∷ more) = refl

-- an entry of the part of an entry that begins a list begins it too
begun-entry : (b : ℕ) (u c : Command) (x : List ℕ × ListKind × ListForm) → is_entry u ≡ true → is_entry c ≡ true → part_in b u ≡ part_in b c → list_begun c ≡ Some x → list_begun u ≡ list_begun c
begun-entry b (commands.ListLine name entry) (commands.ListLine other more) x is_u is_c same begun = let names : name ≡ other = cc in ap (λ (n : List ℕ). list_begun (commands.ListLine n more)) names
begun-entry b (commands.PrefixLine name order entry) (commands.PrefixLine other number more) x is_u is_c same begun = let names : name ≡ other =
    cc in ap (λ (n : List ℕ). list_begun (commands.PrefixLine n number more)) names
begun-entry b (commands.Entry order entry) (commands.ListLine other more) x is_u is_c same begun = absurd cc
begun-entry b (commands.Entry order entry) (commands.PrefixLine other number more) x is_u is_c same begun = absurd cc
begun-entry b (commands.ListLine name entry) (commands.PrefixLine other number more) x is_u is_c same begun = absurd cc
begun-entry b (commands.PrefixLine name order entry) (commands.ListLine other more) x is_u is_c same begun = absurd cc
begun-entry b u (commands.Entry order entry) x is_u is_c same begun = absurd (none-some x begun)
begun-entry b (commands.ListLine name entry) _ x is_u is_c same begun = absurd (false≢true is_c)
begun-entry b (commands.PrefixLine name order entry) _ x is_u is_c same begun = absurd (false≢true is_c)
begun-entry b (commands.Entry order entry) _ x is_u is_c same begun = absurd (false≢true is_c)
begun-entry b _ c x is_u is_c same begun = absurd (false≢true is_u)

opens-none : (command : Command) (within : BlockKind) → opened_by command ≡ within → (within ≡ kinds.Ospf) ⊎ (within ≡ kinds.Bgp) → list_begun command ≡ None
opens-none (commands.ListBlock true name) within opens (inl is) = absurd (let e : kinds.Extended ≡ kinds.Ospf = opens ∙ is in cc)
opens-none (commands.ListBlock true name) within opens (inr is) = absurd (let e : kinds.Extended ≡ kinds.Bgp = opens ∙ is in cc)
opens-none (commands.ListBlock false name) within opens (inl is) = absurd (let e : kinds.Standard ≡ kinds.Ospf = opens ∙ is in cc)
opens-none (commands.ListBlock false name) within opens (inr is) = absurd (let e : kinds.Standard ≡ kinds.Bgp = opens ∙ is in cc)
opens-none (commands.ListLine name entry) within opens (inl is) = absurd (let e : kinds.Inert ≡ kinds.Ospf = opens ∙ is in cc)
opens-none (commands.ListLine name entry) within opens (inr is) = absurd (let e : kinds.Inert ≡ kinds.Bgp = opens ∙ is in cc)
opens-none (commands.PrefixLine name order entry) within opens (inl is) = absurd (let e : kinds.Inert ≡ kinds.Ospf = opens ∙ is in cc)
opens-none (commands.PrefixLine name order entry) within opens (inr is) = absurd (let e : kinds.Inert ≡ kinds.Bgp = opens ∙ is in cc)
opens-none _ within opens is = refl

module _ (h : FileCommand → List FileCommand) (new : FileCommand → List Written) where
  -- commands of which each shows its new entries before itself
  pub rest-plain : (g : List FileCommand) → ((c : FileCommand) → Contains g c → shown (h c) ≡ written (new c) ++ shown (c ∷ [])) → ((c : FileCommand) → Contains g c → new c ≡ []) →
      shown (flat_map h g) ≡ shown g
  rest-plain [] each none = refl
  rest-plain (c ∷ g) each none =
      let one : shown (h c) ≡ shown (c ∷ []) = each c (Contains-head c g) ∙ ap (λ (ws : List Written). written ws ++ shown (c ∷ [])) (none c (Contains-head c g)) in
      let rest = rest-plain g (λ d there. each d (Contains-tail c d g there)) (λ d there. none d (Contains-tail c d g there)) in
      shown-append (h c) (flat_map h g) ∙ (λ i. one i ++ rest i) ∙ sym (shown-append (c ∷ []) g)

  pub front-grows : (n : ℕ) (g : List FileCommand) (first : FileCommand) → Rising n g → Contains g first →
      ((c : FileCommand) → Contains g c → shown (h c) ≡ written (new c) ++ shown (c ∷ [])) → ((c : FileCommand) → Contains g c → c.line ≢ first.line → new c ≡ []) →
      ((c : FileCommand) → Contains g c → c.line < first.line → is_entry c.command ≡ false) → shown (flat_map h g) ≡ written (new first) ++ shown g
  front-grows n [] first up has each none before = absurd (Contains-none first has)
  front-grows n (c ∷ g) first up has each none before =
      by (Contains-cases c first g has)
      (λ later. front-grows (c.line + 1) g first up.1 later (λ d there. each d (Contains-tail c d g there)) (λ d there. none d (Contains-tail c d g there))
      (λ d there. before d (Contains-tail c d g there)))
    where
      by : (c ≡ first) ⊎ Contains g first → (Contains g first → shown (flat_map h g) ≡ written (new first) ++ shown g) → shown (flat_map h (c ∷ g)) ≡ written (new first) ++ shown (c ∷ g)
      by (inl here) deeper =
          let one : shown (h c) ≡ written (new first) ++ shown (c ∷ []) = each c (Contains-head c g) ∙ ap (λ (d : FileCommand). written (new d) ++ shown (c ∷ [])) here in
          let rest = rest-plain g (λ d there. each d (Contains-tail c d g there))
          (λ d there. none d (Contains-tail c d g there)
          (λ same. (let over = rising-low (c.line + 1) g d up.1 there in let at : c.line ≡ first.line = ap (λ (x : FileCommand). x.line) here in omega (arith, over, at, same)))) in
          shown-append (h c) (flat_map h g) ∙ (λ i. one i ++ rest i) ∙ append_assoc (written (new first)) (shown (c ∷ [])) (shown g)
          ∙ ap (λ (l : List (Given Command)). written (new first) ++ l) (sym (shown-append (c ∷ []) g))
      by (inr later) deeper =
          let over = rising-low (c.line + 1) g first up.1 later in
          let quiet : shown (c ∷ []) ≡ [] = no-entry c.command (before c (Contains-head c g) (omega (arith, over))) in
          let one : shown (h c) ≡ [] = each c (Contains-head c g) ∙ ap (λ (ws : List Written). written ws ++ shown (c ∷ [])) (none c (Contains-head c g) (λ same. omega (arith, over, same))) ∙ quiet in
          shown-append (h c) (flat_map h g) ∙ ap (λ (l : List (Given Command)). l ++ shown (flat_map h g)) one ∙ deeper later ∙
          ap (λ (l : List (Given Command)). written (new first) ++ l) (sym (shown-append (c ∷ []) g ∙ ap (λ (l : List (Given Command)). l ++ shown g) quiet))

module _ (net : Network) (places : List Places) (chosen : List Edit) (router : ℕ) (text : List ℕ) (lines : Lines) (cs : List FileCommand)
    (f : IsEditedFile net places chosen router text lines cs) where
  abbrev grown_at : FileCommand → List FileCommand
  grown_at c = grow_at net places chosen router text lines cs c

  abbrev own_at : Places
  own_at = own net places chosen router text lines cs

  abbrev ends_at : FileCommand → List Written
  ends_at c = after_at net places chosen router text lines cs c

  abbrev new_entries : FileCommand → List Written
  new_entries c = entries_at net own_at chosen router c

  module _ (q : Part) (first : FileCommand) (rest : List FileCommand) (is : members cs q ≡ first ∷ rest) (x : List ℕ × ListKind × ListForm) (begun : list_begun first.command ≡ Some x) where
    pub no-ends : (c : FileCommand) → Contains (members cs q) c → ends_at c ≡ []
    no-ends c there = none-in (ends_at c) (λ w in_ends. at-end w (end-at net places chosen router text lines cs f c w (members-of cs q c there).0 in_ends))
      where
        of-head : (head : FileCommand) → Contains cs head → head.block ≡ head.line → head.block ≢ 0 → c.block ≡ head.line → list_begun head.command ≡ None → ⊥
        of-head head among own_head some block none =
            let part_head : part_of head ≡ Block head.line = block-own net places chosen router text lines cs f head among some ∙ ap Block own_head in
            let part_c : part_of c ≡ Block head.line = block-own net places chosen router text lines cs f c (members-of cs q c there).0
            (λ zero_block. some (own_head ∙ sym block ∙ zero_block)) ∙ ap Block block in
            let group = head-first (text_lines text) cs head f.stand among part_head in
            let same : first ≡ head = heads-same first head rest group.0 (sym is ∙ ap (members cs) (sym (members-of cs q c there).1 ∙ part_c) ∙ group.1) in
            none-some x (sym none ∙ ap (λ (y : FileCommand). list_begun y.command) (sym same) ∙ begun)

        at-end : (w : Written) → EndAt net places chosen router cs f.process c w → ⊥
        at-end w (OfProcess p last line) =
            of-head p.head p.block.among p.block.own p.block.some (ap (λ (y : FileCommand). y.block) last ∙ p.block.last_block)
            (opens-none p.head.command p.within p.block.opens (⊎_elim (λ ospf. inl ospf.0) (λ bgp. inr bgp.0) p.kind))
        at-end w (OfFace e) =
            of-head e.block.head e.block.block.among e.block.block.own e.block.block.some (ap (λ (y : FileCommand). y.block) e.last ∙ e.block.block.last_block) (ap list_begun e.block.name)

    -- each command shows its new entries before itself
    pub shows : (c : FileCommand) → Contains (members cs q) c → shown (grown_at c) ≡ written (new_entries c) ++ shown (c ∷ [])
    shows c there =
        let m = says_other c (new_at net places chosen router text lines cs c) in
        let front = map (in_block c.block) (new_entries c) in
        let whole : grown_at c ≡ front ++ m ∷ [] = grow-is net places chosen router text lines cs c ∙ ap (λ (l : List Written). front ++ (m ∷ map (in_block c.block) l)) (no-ends c there) in
        ap shown whole ∙ shown-append front (m ∷ []) ∙
        (let one = ap (λ (l : List FileCommand). map plain_entry (entries l)) (bare-written c.block (new_entries c)) in let two =
        number-alone c.command (of_number c.line (numbers_at net own_at chosen router)) in λ i. one i ++ two i)

    -- the list of the group
    abbrev pub plain : ListText
    plain = plain_list (list_text x.0 x.1 x.2 (map bare (first ∷ rest)))

    -- with the entries of the edits before its own it is the list after the edits
    pub list-grows : shown (flat_map grown_at (members cs q)) ≡ map said (front_lines net chosen router plain plain.kind) ++ shown (members cs q) →
        map plain_list (list_of (map bare (flat_map grown_at (members cs q)))) ≡ map (list_with net chosen router) (map plain_list (list_of (map bare (members cs q))))
    list-grows front =
        let among = (members-of cs q first (subst (λ (l : List FileCommand). Contains l first) (sym is) (Contains-head first rest))).0 in
        let n = grown-first net places chosen router text lines cs f first among in
        let whole : flat_map grown_at (members cs q) ≡ n.first ∷ (n.rest ++ flat_map grown_at rest) = ap (flat_map grown_at) is ∙ ap (λ (l : List FileCommand). l ++ flat_map grown_at rest) n.is in
        let was : map plain_list (list_of (map bare (first ∷ rest))) ≡ plain ∷ [] =
        ap (map plain_list) (by-head first.command (map bare (first ∷ rest)) ∙ ap (λ o. made o (map bare (first ∷ rest))) begun) in
        let same_begun : list_begun n.first.command ≡ list_begun first.command = ⊎_elim
        (λ entry. begun-entry n.block n.first.command first.command x entry.0 entry.1 entry.2 begun)
        (λ new. ap list_begun new ∙ number-begun first.command (of_number first.line (numbers_at net own_at chosen router)))
        n.says in
        ap (λ (l : List FileCommand). map plain_list (list_of (map bare l))) whole ∙
        lists-grow net chosen router (bare first) (bare n.first) (map bare rest) (map bare (n.rest ++ flat_map grown_at rest)) plain was same_begun
        (sym (ap shown whole) ∙ front ∙ ap (λ (l : List FileCommand). map said (front_lines net chosen router plain plain.kind) ++ shown l) is) ∙
        ap (map (list_with net chosen router)) (sym was) ∙ ap (λ (l : List FileCommand). map (list_with net chosen router) (map plain_list (list_of (map bare l)))) (sym is)

  -- a group that is no list stays none
  pub no-list-grows : (q : Part) (first : FileCommand) (rest : List FileCommand) → members cs q ≡ first ∷ rest → list_begun first.command ≡ None →
      map plain_list (list_of (map bare (flat_map grown_at (members cs q)))) ≡ map (list_with net chosen router) (map plain_list (list_of (map bare (members cs q))))
  no-list-grows q first rest is none =
      let there = subst (λ (l : List FileCommand). Contains l first) (sym is) (Contains-head first rest) in
      let one = bare-plain net places chosen router text lines cs f q first rest is none first there in
      let whole : map bare (flat_map grown_at (members cs q)) ≡ bare first ∷ (map plainly (ends_at first) ++ map bare (flat_map grown_at rest)) =
      ap (λ (l : List FileCommand). map bare (flat_map grown_at l)) is ∙ map-append bare (grown_at first) (flat_map grown_at rest)
      ∙ ap (λ (l : List FileCommand). l ++ map bare (flat_map grown_at rest)) one in
      let empty = λ (l : List FileCommand). by-head first.command l ∙ ap (λ o. made o l) none in
      ap (λ (l : List FileCommand). map plain_list (list_of l)) whole ∙ ap (map plain_list) (empty (bare first ∷ (map plainly (ends_at first) ++ map bare (flat_map grown_at rest)))) ∙
      ap (λ (l : List ListText). map (list_with net chosen router) (map plain_list l)) (sym (empty (map bare (first ∷ rest))))
      ∙ ap (λ (l : List FileCommand). map (list_with net chosen router) (map plain_list (list_of (map bare l)))) (sym is)
