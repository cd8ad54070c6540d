-- The entries of edited lists that have numbers, and their rows with other numbers.
use Rattle.std.proofs.Common.{◌≡◌, ◌≢◌, ℕ, zero, suc, ◌+◌, true, false, Option, Some, None, List, [], ◌∷◌, refl, sym, ap, subst, ◌∙◌, arith, Contains}
use Rattle.std.specs.Prelude.{slice_get, is_some}
use Rattle.std.proofs.lemmas.Bool.{false≢true}
use Rattle.std.proofs.lemmas.Option.{none-some, same_Some}
use Rattle.arc_base.proofs.Items.{Contains-head, from_filter}
use Rattle.net_model.proofs.Readings.{place_of_item}
use Rattle.ios_lines.specs.Texts.{part}
use Rattle.ios_words.specs.declared.commands.Command.{Command}
use Rattle.ios_words.specs.declared.commands.Command.TheVariants as commands
use Rattle.ios_words.specs.declared.commands.PacketText.{PacketText}
use Rattle.ios_words.specs.declared.commands.RouteText.{RouteText}
use Rattle.ios_words.specs.declared.kinds.BlockKind.TheVariants as kinds
use Rattle.ios_config.specs.declared.commands.FileCommand.{FileCommand}
use Rattle.ios_config.specs.declared.settings.Given.{Given}
use Rattle.ios_config.specs.declared.settings.ListForm.TheVariants as forms
use Rattle.ios_config.specs.declared.settings.ListKind.{ListKind}
use Rattle.ios_config.specs.declared.settings.ListKind.TheVariants.{Extended, Standard}
use Rattle.ios_config.specs.declared.settings.ListText.{ListText}
use Rattle.ios_config.specs.Commands.{opened_by}
use Rattle.ios_config.specs.Groups as groups
use Rattle.ios_config.specs.Groups.{Part, Block, is_same, part_in, part_of}
use Rattle.ios_config.specs.LineLists.{AreCommandsIn}
use Rattle.ios_config.specs.Rising.{FallsAt, NumbersRise, rises}
use Rattle.ios_config.specs.Texts.{config_of, entries, entry_number, is_entry, is_numbered}
use Rattle.ios_config.proofs.HeadsFirst.{part-block}
use Rattle.ios_config.proofs.JoinedParts.{is-self}
use Rattle.ios_config.proofs.LineLists.{command-spot}
use Rattle.ios_words.specs.Laws.{heads_block}
use Rattle.ios_config.proofs.OwnBlocks.{own-block}
use Rattle.ios_config.proofs.PartLists.{is_same-Decides}
use Rattle.settings_edit_laws.proofs.Pairs.{any_of}
use Rattle.line_edit_laws.specs.Sites.{IsOfBlock}
use Rattle.patch_laws.specs.ListsGrow.{list_begun}
use Rattle.patch_laws.proofs.EditLists.{ListGroup, list-group, entry-command}
use Rattle.patch_laws.proofs.EditRows.{one-command}

-- the commands that begin lists of each form
pub block-begun : (command : Command) (name : List ℕ) → list_begun command ≡ Some (name, Extended, forms.Block) → command ≡ commands.ListBlock true name
block-begun (commands.ListBlock true n) name e = ap (λ (x : List ℕ). commands.ListBlock true x) (ap (λ (x : List ℕ × ListKind × _). x.0) (same_Some _ _ e))
block-begun (commands.ListBlock false n) name e = let clash : Standard ≡ Extended = ap (λ (x : List ℕ × ListKind × _). x.1) (same_Some _ _ e) in absurd cc
block-begun (commands.ListLine n entry) name e = let clash : forms.Lines ≡ forms.Block = ap (λ (x : List ℕ × ListKind × _). x.2) (same_Some _ _ e) in absurd cc
block-begun (commands.PrefixLine n order entry) name e = let clash : forms.PrefixLines ≡ forms.Block = ap (λ (x : List ℕ × ListKind × _). x.2) (same_Some _ _ e) in absurd cc
block-begun _ name e = absurd (none-some _ e)

pub lines-begun : (command : Command) (name : List ℕ) (kind : ListKind) → list_begun command ≡ Some (name, kind, forms.Lines) → (entry : PacketText) × (command ≡ commands.ListLine name entry)
lines-begun (commands.ListBlock b n) name kind e = let clash : forms.Block ≡ forms.Lines = ap (λ (x : List ℕ × ListKind × _). x.2) (same_Some _ _ e) in absurd cc
lines-begun (commands.ListLine n entry) name kind e = (entry, ap (λ (x : List ℕ). commands.ListLine x entry) (ap (λ (x : List ℕ × ListKind × _). x.0) (same_Some _ _ e)))
lines-begun (commands.PrefixLine n order entry) name kind e = let clash : forms.PrefixLines ≡ forms.Lines = ap (λ (x : List ℕ × ListKind × _). x.2) (same_Some _ _ e) in absurd cc
lines-begun _ name kind e = absurd (none-some _ e)

pub prefixes-begun : (command : Command) (name : List ℕ) (kind : ListKind) → list_begun command ≡ Some (name, kind, forms.PrefixLines) →
    (order : Option ℕ) × (entry : RouteText) × (command ≡ commands.PrefixLine name order entry)
prefixes-begun (commands.ListBlock b n) name kind e = let clash : forms.Block ≡ forms.PrefixLines = ap (λ (x : List ℕ × ListKind × _). x.2) (same_Some _ _ e) in absurd cc
prefixes-begun (commands.ListLine n entry) name kind e = let clash : forms.Lines ≡ forms.PrefixLines = ap (λ (x : List ℕ × ListKind × _). x.2) (same_Some _ _ e) in absurd cc
prefixes-begun (commands.PrefixLine n order entry) name kind e = (order, entry, ap (λ (x : List ℕ). commands.PrefixLine x order entry) (ap (λ (x : List ℕ × ListKind × _). x.0) (same_Some _ _ e)))
prefixes-begun _ name kind e = absurd (none-some _ e)

not-lines : (b : ℕ) (name : List ℕ) → groups.Lines name ≡ Block b → ⊥
not-lines b name e = false≢true (subst (λ (q : Part). is_same (groups.Lines name) q ≡ true) e (is-self (groups.Lines name)))

not-prefixes : (b : ℕ) (name : List ℕ) → groups.PrefixLines name ≡ Block b → ⊥
not-prefixes b name e = false≢true (subst (λ (q : Part). is_same (groups.PrefixLines name) q ≡ true) e (is-self (groups.PrefixLines name)))

-- an entry of a part
pub block-entry : (block b : ℕ) (command : Command) → is_entry command ≡ true → part_in block command ≡ Block b → (order : Option ℕ) × (entry : PacketText) × (command ≡ commands.Entry order entry)
block-entry block b (commands.Entry order entry) is part = (order, entry, refl)
block-entry block b (commands.ListLine name entry) is part = absurd (not-lines b name part)
block-entry block b (commands.PrefixLine name order entry) is part = absurd (not-prefixes b name part)
block-entry block b _ is part = absurd (false≢true is)

same-prefixes : (x y : List ℕ) → groups.PrefixLines x ≡ groups.PrefixLines y → x ≡ y
same-prefixes x y e = cc

same-lines : (x y : List ℕ) → groups.Lines x ≡ groups.Lines y → x ≡ y
same-lines x y e = cc

pub prefix-entry : (block : ℕ) (name : List ℕ) (command : Command) → part_in block command ≡ groups.PrefixLines name →
    (order : Option ℕ) × (entry : RouteText) × (command ≡ commands.PrefixLine name order entry)
prefix-entry block name (commands.PrefixLine other order entry) part = (order, entry, ap (λ (x : List ℕ). commands.PrefixLine x order entry) (same-prefixes other name part))
prefix-entry block name (commands.ListLine other entry) part = absurd (false≢true (subst (λ (q : Part). is_same (groups.Lines other) q ≡ true) part (is-self (groups.Lines other))))
prefix-entry block name _ part = absurd (not-prefixes block name (sym part))

pub line-entry : (block : ℕ) (name : List ℕ) (command : Command) → part_in block command ≡ groups.Lines name → (entry : PacketText) × (command ≡ commands.ListLine name entry)
line-entry block name (commands.ListLine other entry) part = (entry, ap (λ (x : List ℕ). commands.ListLine x entry) (same-lines other name part))
line-entry block name (commands.PrefixLine other order entry) part = absurd (false≢true (subst (λ (q : Part). is_same (groups.PrefixLines other) q ≡ true) part (is-self (groups.PrefixLines other))))
line-entry block name _ part = absurd (not-lines block name (sym part))

-- in a list whose numbers rise, all entries have one or none has
pub numbered-alike : (es : List (Given Command)) → ((line : ℕ) → ¬ FallsAt es line) → (k : ℕ) (g : Given Command) → slice_get es k ≡ Some g → is_some (entry_number g.value) ≡ is_numbered es
numbered-alike [] rise k g at = absurd (none-some g at)
numbered-alike (e ∷ es) rise zero g at = ap (λ (x : Given Command). is_some (entry_number x.value)) (sym (same_Some e g at))
numbered-alike (e ∷ es) rise (suc k) g at = next (before (e ∷ es) k g at) (λ h here. numbered-alike (e ∷ es) rise k h here)
  where
    before : (xs : List (Given Command)) (k : ℕ) (g : Given Command) → slice_get xs (suc k) ≡ Some g → (h : Given Command) × (slice_get xs k ≡ Some h)
    before [] k g at = absurd (none-some g at)
    before (x ∷ xs) zero g at = (x, refl)
    before (x ∷ xs) (suc k) g at = before xs k g at

    falling : (h : Given Command) → slice_get (e ∷ es) k ≡ Some h → rises (entry_number h.value) (entry_number g.value) ≡ false → ⊥
    falling h here falls =
        let step : k + 1 ≡ suc k = omega arith in
        rise g.line (record { place = k; earlier = h; at_place = here; later = g; at_next = ap (slice_get (e ∷ es)) step ∙ at; falls = falls; is_line = refl })

    by : (h : Given Command) → slice_get (e ∷ es) k ≡ Some h → (a b : Option ℕ) → entry_number h.value ≡ a → entry_number g.value ≡ b → is_some b ≡ is_some a
    by h here None None one two = refl
    by h here (Some m) (Some n) one two = refl
    by h here None (Some n) one two = absurd (falling h here (λ i. rises (one i) (two i)))
    by h here (Some m) None one two = absurd (falling h here (λ i. rises (one i) (two i)))

    next : (h : Given Command) × (slice_get (e ∷ es) k ≡ Some h) → ((h : Given Command) → slice_get (e ∷ es) k ≡ Some h → is_some (entry_number h.value) ≡ is_numbered (e ∷ es)) →
        is_some (entry_number g.value) ≡ is_numbered (e ∷ es)
    next (h, here) earlier = by h here (entry_number h.value) (entry_number g.value) refl refl ∙ earlier h here

pub all-numbered : (es : List (Given Command)) → ((line : ℕ) → ¬ FallsAt es line) → is_numbered es ≡ true → (k : ℕ) (g : Given Command) → slice_get es k ≡ Some g →
    (n : ℕ) × (entry_number g.value ≡ Some n)
all-numbered es rise is k g at = number (entry_number g.value) (numbered-alike es rise k g at ∙ is)
  where
    number : (o : Option ℕ) → is_some o ≡ true → (n : ℕ) × (o ≡ Some n)
    number None none = absurd (false≢true none)
    number (Some n) some = (n, refl)

pub rise-in : (lists : List ListText) (list : ListText) → NumbersRise lists → Contains lists list → (line : ℕ) → ¬ FallsAt list.entries line
rise-in lists list rise there line falls = rise line (any_of (λ (l : ListText). FallsAt l.entries line) lists list there falls)

module _ (lines : List (List ℕ)) (cs : List FileCommand) (stand : AreCommandsIn lines cs) (list : ListText) (there : Contains (config_of cs).lists list) where
  abbrev pub h : ListGroup cs list
  h = list-group cs list there

  pub first-of : Contains cs h.first × (h.part ≡ part_of h.first)
  first-of =
      let (among, same) = from_filter (λ (d : FileCommand). is_same h.part (part_of d)) cs h.first (subst (λ (ds : List FileCommand). Contains ds h.first) (sym h.is) (Contains-head h.first h.rest)) in
      (among, (is_same-Decides h.part (part_of h.first)).0 same)

  -- an entry of an extended list that stands as a block
  pub record BlockEntry (c : FileCommand) : Type 0 where
    pub order : Option ℕ
    pub entry : PacketText
    pub says : c.command ≡ commands.Entry order entry
    pub of : IsOfBlock cs c kinds.Extended
    pub no_head : c.block ≢ c.line
    pub head_line : c.block ≡ h.first.line
    pub head : h.first.command ≡ commands.ListBlock true list.name

  pub block-entry-of : (c : FileCommand) (g : Given Command) → Contains cs c → Contains list.entries g → c.line ≡ g.line → list.kind ≡ Extended → list.form ≡ forms.Block → BlockEntry c
  block-entry-of c g among has line kind form =
      let e = entry-command cs list h g has in
      let same : e.command ≡ c = one-command lines cs e.command c stand e.among among (e.line ∙ sym line) in
      let begun : list_begun h.first.command ≡ Some (list.name, Extended, forms.Block) = h.begun ∙ (λ i. Some (list.name, kind i, form i)) in
      let head : h.first.command ≡ commands.ListBlock true list.name = block-begun h.first.command list.name begun in
      let own : h.first.block ≡ h.first.line = own-block lines cs h.first stand first-of.0 (ap heads_block head) in
      let part : part_of c ≡ Block h.first.line = ap part_of (sym same) ∙ e.own ∙ first-of.1 ∙ ap (part_in h.first.block) head ∙ ap Block own in
      let (order, entry, says) = block-entry c.block h.first.line c.command (ap (λ (d : FileCommand). is_entry d.command) (sym same) ∙ e.entry) part in
      let in_block : c.block ≡ h.first.line = part-block c.block h.first.line c.command part in
      record {
        order = order;
        entry = entry;
        says = says;
        of = record {
          head = h.first;
          among = first-of.0;
          number = sym in_block;
          some = λ none. let row = (command-spot lines cs h.first stand first-of.0).line in absurd (omega arith);
          opens = ap opened_by head;
          known = λ same. (let clash : kinds.Extended ≡ kinds.Inert = same in absurd cc);
        };
        no_head = λ itself.
            let one : c ≡ h.first = one-command lines cs c h.first stand among first-of.0 (sym itself ∙ in_block) in
            entry-no-head order entry list.name (sym says ∙ ap (λ (d : FileCommand). d.command) one ∙ head);
        head_line = in_block;
        head = head;
      }
    where
      entry-no-head : (order : Option ℕ) (entry : PacketText) (name : List ℕ) → commands.Entry order entry ≡ commands.ListBlock true name → ⊥
      entry-no-head order entry name e = cc

  -- one of a list that stands as lines
  pub line-entry-of : (c : FileCommand) (g : Given Command) → Contains cs c → Contains list.entries g → c.line ≡ g.line → list.form ≡ forms.Lines → (part_of c ≡ groups.Lines list.name)
  line-entry-of c g among has line form =
      let e = entry-command cs list h g has in
      let same : e.command ≡ c = one-command lines cs e.command c stand e.among among (e.line ∙ sym line) in
      let (entry, is) = lines-begun h.first.command list.name list.kind (h.begun ∙ (λ i. Some (list.name, list.kind, form i))) in
      ap part_of (sym same) ∙ e.own ∙ first-of.1 ∙ ap (part_in h.first.block) is

  pub prefix-entry-of : (c : FileCommand) (g : Given Command) → Contains cs c → Contains list.entries g → c.line ≡ g.line → list.form ≡ forms.PrefixLines → (part_of c ≡ groups.PrefixLines list.name)
  prefix-entry-of c g among has line form =
      let e = entry-command cs list h g has in
      let same : e.command ≡ c = one-command lines cs e.command c stand e.among among (e.line ∙ sym line) in
      let (order, entry, is) = prefixes-begun h.first.command list.name list.kind (h.begun ∙ (λ i. Some (list.name, list.kind, form i))) in
      ap part_of (sym same) ∙ e.own ∙ first-of.1 ∙ ap (part_in h.first.block) is

  -- a list that stands as lines of a packet list has no numbers
  pub lines-unnumbered : list.form ≡ forms.Lines → list.numbered ≡ false
  lines-unnumbered form =
      let (entry, is) = lines-begun h.first.command list.name list.kind (h.begun ∙ (λ i. Some (list.name, list.kind, form i))) in
      h.numbered_is ∙ by h.first.command entry is
    where
      by : (command : Command) (entry : PacketText) → command ≡ commands.ListLine list.name entry →
          is_numbered (entries (record { line = h.first.line; block = h.first.block; command = command } ∷ h.rest)) ≡ false
      by command entry is = ap (λ (k : Command). is_numbered (entries (record { line = h.first.line; block = h.first.block; command = k } ∷ h.rest))) is

  -- the numbers of its entries
  pub number-of : (NumbersRise (config_of cs).lists) → list.numbered ≡ true → (g : Given Command) → Contains list.entries g → (n : ℕ) × (entry_number g.value ≡ Some n)
  number-of rise is g has =
      let (k, at) = place_of_item list.entries g has in
      all-numbered list.entries (rise-in (config_of cs).lists list rise there) (ap is_numbered h.entries_are ∙ sym h.numbered_is ∙ is) k g at
