-- The commands of a file by their lines and their parts.
use Rattle.std.proofs.Common.{◌≡◌, ◌≢◌, ℕ, ◌+◌, ◌⊎◌, inl, inr, not, true, false, Some, List, [], ◌∷◌, map, refl, sym, ap, subst, ◌∙◌, arith, ⊎_elim, Contains}
use Rattle.std.proofs.lemmas.Bool.{cases_Bool}
use Rattle.std.proofs.lemmas.Option.{same_Some, none-some}
use Rattle.arc_base.proofs.Items.{Contains-cases, Contains-none, Contains-head, Contains-tail, Contains-filter, Contains-map, Contains-piece, from_filter}
use Rattle.ios_words.specs.Laws.{heads_block}
use Rattle.ios_words.specs.declared.commands.Command.{Command}
use Rattle.ios_words.specs.declared.commands.Command.TheVariants as commands
use Rattle.ios_config.specs.declared.commands.FileCommand.{FileCommand}
use Rattle.ios_config.specs.declared.settings.ListForm.{ListForm}
use Rattle.ios_config.specs.declared.settings.ListForm.TheVariants as forms
use Rattle.ios_config.specs.declared.settings.ListKind.{ListKind}
use Rattle.ios_config.specs.declared.settings.ListKind.TheVariants.{Prefix}
use Rattle.ios_config.specs.declared.settings.ListText.{ListText}
use Rattle.ios_config.specs.Groups.{Part, Block, Lines, PrefixLines, is_same, part_in, part_of, distinct, members, groups}
use Rattle.ios_config.specs.LineLists.{marks_in, AreCommandsIn}
use Rattle.ios_config.specs.Texts.{config_of, kind_of_number, list_by, list_of, list_text}
use Rattle.ios_config.proofs.HeadsFirst.{head-first}
use Rattle.ios_config.proofs.JoinedParts.{is-self}
use Rattle.ios_config.proofs.LinesBefore.{Rising, rising-from, rising-low}
use Rattle.ios_config.proofs.OwnBlocks.{own-block}
use Rattle.ios_config.proofs.PartLists.{is_same-Decides, others}
use Rattle.patch_laws.specs.ListsGrow.{list_begun}
use Rattle.patch_laws.proofs.ListsGrow.{made, by-head}

pub rising : (lines : List (List ℕ)) (cs : List FileCommand) → AreCommandsIn lines cs → Rising 1 cs
rising lines cs are = rising-from (marks_in lines) 1 (marks_in lines) cs are.reads

-- no two commands are of one line
pub one-line : (n : ℕ) (cs : List FileCommand) (c d : FileCommand) → Rising n cs → Contains cs c → Contains cs d → c.line ≡ d.line → c ≡ d
one-line n [] c d up has_c has_d same = absurd (Contains-none c has_c)
one-line n (x ∷ cs) c d up has_c has_d same = by (Contains-cases x c cs has_c) (Contains-cases x d cs has_d) (one-line (x.line + 1) cs c d up.1)
  where
    by : (x ≡ c) ⊎ Contains cs c → (x ≡ d) ⊎ Contains cs d → (Contains cs c → Contains cs d → c.line ≡ d.line → c ≡ d) → c ≡ d
    by (inl here) (inl there) deeper = sym here ∙ there
    by (inl here) (inr later) deeper = let over = rising-low (x.line + 1) cs d up.1 later in let at : x.line ≡ c.line = ap (λ (y : FileCommand). y.line) here in absurd (omega (arith, over, at, same))
    by (inr later) (inl here) deeper = let over = rising-low (x.line + 1) cs c up.1 later in let at : x.line ≡ d.line = ap (λ (y : FileCommand). y.line) here in absurd (omega (arith, over, at, same))
    by (inr one) (inr two) deeper = deeper one two same

-- a part is among the distinct ones
pub in-distinct : (ps : List Part) (p : Part) → Contains ps p → Contains (distinct ps) p
in-distinct [] p there = there
in-distinct (q ∷ ps) p there = ⊎_elim
    (λ (here : q ≡ p). subst (λ (r : Part). Contains (q ∷ others q (distinct ps)) r) here (Contains-head q (others q (distinct ps))))
    (λ later. ⊎_elim
    (λ (same : is_same q p ≡ true). subst (λ (r : Part). Contains (q ∷ others q (distinct ps)) r) ((is_same-Decides q p).0 same) (Contains-head q (others q (distinct ps))))
    (λ (other : is_same q p ≡ false). Contains-tail q p (others q (distinct ps)) (Contains-filter (λ (r : Part). not (is_same q r)) (distinct ps) p (in-distinct ps p later) (ap not other)))
    (cases_Bool (is_same q p)))
    (Contains-cases q p ps there)

-- the group of a part that some command has
pub record GroupOf (cs : List FileCommand) (p : Part) : Type 0 where
  pub first : FileCommand
  pub rest : List FileCommand
  pub is : members cs p ≡ first ∷ rest
  pub among : Contains cs first
  pub own : part_of first ≡ p
  pub there : Contains (groups cs) (first ∷ rest)

pub group-of : (cs : List FileCommand) (c : FileCommand) (p : Part) → Contains cs c → part_of c ≡ p → GroupOf cs p
group-of cs c p has own = by (members cs p) refl
  where
    mine : Contains (members cs p) c
    mine = Contains-filter (λ (d : FileCommand). is_same p (part_of d)) cs c has (ap (is_same p) own ∙ is-self p)

    part : Contains (distinct (map part_of cs)) p
    part = in-distinct (map part_of cs) p (subst (λ (q : Part). Contains (map part_of cs) q) own (Contains-map part_of cs c has))

    by : (g : List FileCommand) → members cs p ≡ g → GroupOf cs p
    by [] is = absurd (Contains-none c (subst (λ (l : List FileCommand). Contains l c) is mine))
    by (x ∷ rest) is =
        let (among, same) = from_filter (λ (d : FileCommand). is_same p (part_of d)) cs x (subst (λ (l : List FileCommand). Contains l x) (sym is) (Contains-head x rest)) in
        record {
          first = x;
          rest = rest;
          is = is;
          among = among;
          own = sym ((is_same-Decides p (part_of x)).0 same);
          there = subst (λ (l : List FileCommand). Contains (groups cs) l) is (Contains-map (members cs) (distinct (map part_of cs)) p part);
        }

-- the lists that stand as lines
pub lines-command : (block : ℕ) (command : Command) (name : List ℕ) → part_in block command ≡ Lines name → (k : ListKind) × (f : ListForm) × (list_begun command ≡ Some (name, k, f))
lines-command block (commands.ListLine other entry) name is = (_, _, (let same : other ≡ name = cc in λ i. Some (same i, kind_of_number other, forms.Lines)))
lines-command block (commands.PrefixLine other number entry) name is = absurd cc
lines-command block _ name is = absurd cc

pub prefix-command : (block : ℕ) (command : Command) (name : List ℕ) → part_in block command ≡ PrefixLines name → (k : ListKind) × (f : ListForm) × (list_begun command ≡ Some (name, k, f))
prefix-command block (commands.PrefixLine other number entry) name is = (_, _, (let same : other ≡ name = cc in λ i. Some (same i, Prefix, forms.PrefixLines)))
prefix-command block (commands.ListLine other entry) name is = absurd cc
prefix-command block _ name is = absurd cc

-- the file has a list of this name
pub record Listed (cs : List FileCommand) (name : List ℕ) : Type 0 where
  pub list : ListText
  pub among : Contains (config_of cs).lists list
  pub name_is : list.name ≡ name

group-listed : (cs : List FileCommand) (first : FileCommand) (rest : List FileCommand) (name : List ℕ) (k : ListKind) (f : ListForm) → Contains (groups cs) (first ∷ rest) →
    list_begun first.command ≡ Some (name, k, f) → Listed cs name
group-listed cs first rest name k f there begun =
    let list = list_text name k f (first ∷ rest) in
    let made_is : list_by first.command (first ∷ rest) ≡ list ∷ [] = by-head first.command (first ∷ rest) ∙ ap (λ o. made o (first ∷ rest)) begun in
    record {
      list = list;
      among = Contains-piece list_of (groups cs) (first ∷ rest) list there (subst (λ (ls : List ListText). Contains ls list) (sym made_is) (Contains-head list []));
      name_is = refl;
    }

pub listed : (lines : List (List ℕ)) (cs : List FileCommand) (c : FileCommand) (name : List ℕ) (k : ListKind) (f : ListForm) → AreCommandsIn lines cs → Contains cs c →
    list_begun c.command ≡ Some (name, k, f) → Listed cs name
listed lines cs c name k f are has = by c.command refl
  where
    from : (p : Part) → part_of c ≡ p → ((first : FileCommand) → part_of first ≡ p → (j : ListKind) × (e : ListForm) × (list_begun first.command ≡ Some (name, j, e))) → Listed cs name
    from p own says =
        let g = group-of cs c p has own in
        let s = says g.first g.own in
        group-listed cs g.first g.rest name s.0 s.1 g.there s.2

    by : (command : Command) → c.command ≡ command → list_begun command ≡ Some (name, k, f) → Listed cs name
    by (commands.ListBlock extended other) is begun =
        let own : c.block ≡ c.line = own-block lines cs c are has (ap heads_block is) in
        let part : part_of c ≡ Block c.line = ap (part_in c.block) is ∙ ap Block own in
        let h = head-first lines cs c are has part in
        let g = group-of cs c (Block c.line) has part in
        group-listed cs c h.0 name k f (subst (λ (l : List FileCommand). Contains (groups cs) l) (sym g.is ∙ h.1) g.there) (ap list_begun is ∙ begun)
    by (commands.ListLine other entry) is begun =
        let same : other ≡ name = ap (λ (t : List ℕ × ListKind × ListForm). t.0) (same_Some _ _ begun) in
        from (Lines name) (ap (part_in c.block) is ∙ ap Lines same) (λ first own. lines-command first.block first.command name own)
    by (commands.PrefixLine other number entry) is begun =
        let same : other ≡ name = ap (λ (t : List ℕ × ListKind × ListForm). t.0) (same_Some _ _ begun) in
        from (PrefixLines name) (ap (part_in c.block) is ∙ ap PrefixLines same) (λ first own. prefix-command first.block first.command name own)
    by _ is begun = absurd (none-some _ begun)

-- a command of a block is of that block's part, where the lines of lists stand in none
pub block-part : (block : ℕ) (command : Command) → ((name : List ℕ) → (part_in block command ≡ Lines name) ⊎ (part_in block command ≡ PrefixLines name) → block ≡ 0) → block ≢ 0 →
    part_in block command ≡ Block block
block-part block (commands.ListLine name entry) tops some = absurd (some (tops name (inl refl)))
block-part block (commands.PrefixLine name number entry) tops some = absurd (some (tops name (inr refl)))
block-part block _ tops some = refl
