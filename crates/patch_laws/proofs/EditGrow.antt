-- What edits put at the commands of a file are commands of their parts, but for new lists, which stand before the head of the process.
use Rattle.std.proofs.Common.{◌≡◌, ◌≢◌, ℕ, ◌+◌, ◌≤◌, ◌==◌, ◌⊎◌, inl, inr, if◌then◌else◌, Bool, true, false, List, [], ◌∷◌, ◌++◌, length, map, refl, sym, ap, subst, ◌∙◌, arith, ⊎_elim}
use Rattle.std.proofs.Common.{Contains, append_assoc}
use Rattle.std.specs.List.{AllByRecursion, flat_map}
use Rattle.std.proofs.lemmas.Bool.{cases_Bool, eqb-true, eq-eqb, ne_eqb}
use Rattle.std.proofs.lemmas.List.{length-map}
use Rattle.std.proofs.lemmas.List.Concat.{flat_map-append}
use Rattle.std.proofs.lemmas.List.Elements.{Contains-append_cases, Contains-append_left, Contains-append_right}
use Rattle.arc_base.proofs.Items.{Contains-cases, Contains-none, Contains-head, Contains-tail}
use Rattle.arc_base.proofs.Zips.{AllByRecursion-append}
use Rattle.net_model.specs.declared.rows.Network.{Network}
use Rattle.ios_lines.specs.declared.line.Line.{Line}
use Rattle.ios_lines.specs.declared.line.Lines.{Lines}
use Rattle.ios_lines.specs.Texts.{part, text_lines}
use Rattle.ios_words.specs.declared.commands.Command.{Command}
use Rattle.ios_words.specs.declared.commands.Command.TheVariants as commands
use Rattle.ios_config.specs.declared.commands.FileCommand.{FileCommand}
use Rattle.ios_config.specs.Groups.{is_same, part_in, part_of}
use Rattle.ios_config.specs.Groups as groups
use Rattle.ios_config.specs.Texts.{config_of}
use Rattle.ios_config.proofs.HeadsFirst.{part-block, block-low}
use Rattle.ios_config.proofs.LineLists.{command-spot}
use Rattle.ios_config.proofs.LinesBefore.{Rising, rising-low}
use Rattle.ios_config.proofs.PartLists.{is_same-Decides}
use Rattle.net_build.specs.declared.built.Places.{Places}
use Rattle.net_build.specs.Places.{places_of}
use Rattle.edit_list.specs.declared.edit_kinds.Edit.{Edit}
use Rattle.edit_list.specs.declared.list_kinds.NewList.{NewList}
use Rattle.edit_list.specs.declared.list_kinds.NewList.TheVariants.{Route, Packet}
use Rattle.arc_base.specs.Numbered.{of_number}
use Rattle.line_patcher.specs.declared.additions.NewNumber.{NewNumber}
use Rattle.line_patcher.specs.Additions.{numbers_at}
use Rattle.edit_list.specs.NewLists.{named_lists}
use Rattle.line_edit_laws.specs.Grown.{IsGrown, AreFreshParts}
use Rattle.line_edit_laws.specs.Sites.{Site, Written, Single, chunk_commands, in_block, says_other, own_commands, site_commands, new_commands}
use Rattle.patch_laws.specs.EditFiles.{IsEditedFile}
use Rattle.patch_laws.specs.EditSites.{added, ends_at, entries_at, grow, new_key, new_tops, put, singles, with_number}
use Rattle.patch_laws.specs.NewListSites.{list_chunks, new_chunks}
use Rattle.patch_laws.proofs.EditParts.{entry-at, end-at, end-part}
use Rattle.patch_laws.proofs.EditBusy.{process-here, process-line}
use Rattle.patch_laws.proofs.EditEntries.{all-from, all-in}
use Rattle.patch_laws.proofs.FileParts.{rising, prefix-command, listed}
use Rattle.patch_laws.proofs.NewListGroups.{part_for, segment-of, single-commands}

with-number-part : (block : ℕ) (command : Command) (new : List NewNumber) → part_in block (with_number command new) ≡ part_in block command
with-number-part block command [] = refl
with-number-part block (commands.Entry order entry) (new ∷ more) = refl
with-number-part block (commands.PrefixLine name order entry) (new ∷ more) = refl
with-number-part block _ (new ∷ more) = refl

-- commands with one of them
pub record SplitAt (cs : List FileCommand) (h : FileCommand) : Type 0 where
  pub front : List FileCommand
  pub back : List FileCommand
  pub parts : cs ≡ front ++ h ∷ back
  pub front_other : (c : FileCommand) → Contains front c → c.line ≢ h.line
  pub back_other : (c : FileCommand) → Contains back c → c.line ≢ h.line

pub split-at : (n : ℕ) (cs : List FileCommand) (h : FileCommand) → Rising n cs → Contains cs h → SplitAt cs h
split-at n [] h up has = absurd (Contains-none h has)
split-at n (x ∷ cs) h up has = by (Contains-cases x h cs has) (split-at (x.line + 1) cs h up.1)
  where
    by : (x ≡ h) ⊎ Contains cs h → (Contains cs h → SplitAt cs h) → SplitAt (x ∷ cs) h
    by (inl here) deeper = record {
      front = [];
      back = cs;
      parts = ap (λ (y : FileCommand). y ∷ cs) here;
      front_other = λ c none. absurd (Contains-none c none);
      back_other = λ c later same. (let over = rising-low (x.line + 1) cs c up.1 later in let at : x.line ≡ h.line = ap (λ (y : FileCommand). y.line) here in omega (arith, over, at, same));
    }
    by (inr later) deeper =
        let rest = deeper later in
        record {
          front = x ∷ rest.front;
          back = rest.back;
          parts = ap (λ (l : List FileCommand). x ∷ l) rest.parts;
          front_other = λ c there same. ⊎_elim
              (λ (here : x ≡ c). let over = rising-low (x.line + 1) cs h up.1 later in let at : x.line ≡ c.line = ap (λ (y : FileCommand). y.line) here in omega (arith, over, at, same))
              (λ more. rest.front_other c more same)
              (Contains-cases x c rest.front there);
          back_other = rest.back_other;
        }

-- the parts of the commands of new lists
pub record AddedPart (key : ℕ) (ns : List (NewList × List ℕ)) (t : FileCommand) : Type 0 where
  pub named : NewList × List ℕ
  pub among : Contains ns named
  pub number : ℕ
  pub high : key ≤ number
  pub part : part_of t ≡ part_for number named.0 named.1

pub added-part : (chosen : List Edit) (key : ℕ) (ns : List (NewList × List ℕ)) (t : FileCommand) → Contains (flat_map chunk_commands (list_chunks chosen key ns)) t → AddedPart key ns t
added-part chosen key [] t there = absurd (Contains-none t there)
added-part chosen key (n ∷ ns) t there =
    by (Contains-append_cases (flat_map chunk_commands (new_chunks chosen key n.0 n.1)) (flat_map chunk_commands (list_chunks chosen (key + 1) ns)) t
    (subst (λ (l : List FileCommand). Contains l t) (flat_map-append chunk_commands (new_chunks chosen key n.0 n.1) (list_chunks chosen (key + 1) ns)) there))
    (added-part chosen (key + 1) ns t)
  where
    by : Contains (flat_map chunk_commands (new_chunks chosen key n.0 n.1)) t ⊎ Contains (flat_map chunk_commands (list_chunks chosen (key + 1) ns)) t →
        (Contains (flat_map chunk_commands (list_chunks chosen (key + 1) ns)) t → AddedPart (key + 1) ns t) →
        AddedPart key (n ∷ ns) t
    by (inl early) deeper = record {
      named = n;
      among = Contains-head n ns;
      number = key;
      high = omega arith;
      part = all-in (λ (v : FileCommand). part_of v ≡ part_for key n.0 n.1) (flat_map chunk_commands (new_chunks chosen key n.0 n.1)) t (segment-of chosen key n.0 n.1).own early;
    }
    by (inr late) deeper =
        let a = deeper late in
        record { named = a.named; among = Contains-tail n a.named ns a.among; number = a.number; high = (let high = a.high in omega (arith, high)); part = a.part }

all-mapped : {X Y : Type 0} (P : Y → Type 0) (h : X → Y) (xs : List X) → ((x : X) → Contains xs x → P (h x)) → AllByRecursion P (map h xs)
all-mapped P h [] each = tt
all-mapped P h (x ∷ xs) each = (each x (Contains-head x xs), all-mapped P h xs (λ y there. each y (Contains-tail x y xs there)))

not-empty : {X : Type 0} (xs : List X) (x : X) (ys : List X) → xs ++ x ∷ ys ≡ [] → ⊥
not-empty [] x ys e = absurd cc
not-empty (a ∷ xs) x ys e = absurd cc

module _ (net : Network) (places : List Places) (chosen : List Edit) (router : ℕ) (text : List ℕ) (lines : Lines) (cs : List FileCommand) where
  abbrev pub own : Places
  own = places_of (config_of cs)

  abbrev pub put_at : FileCommand → Site
  put_at c = put net places own chosen router text lines (new_key lines) c

  abbrev pub grow_at : FileCommand → List FileCommand
  grow_at c = grow net places own chosen router text lines (new_key lines) c

  abbrev pub more_at : List FileCommand
  more_at = added net chosen router (new_key lines)

  abbrev pub new_at : FileCommand → Command
  new_at c = with_number c.command (of_number c.line (numbers_at net own chosen router))

  abbrev pub after_at : FileCommand → List Written
  after_at c = ends_at net places own chosen router c

  -- what stands for a command, all as commands of its block
  pub grow-is : (c : FileCommand) → grow_at c ≡ map (in_block c.block) (entries_at net own chosen router c) ++ (says_other c (new_at c) ∷ map (in_block c.block) (after_at c))
  grow-is c = by (c.block == 0) refl
    where
      es : List Written
      es = entries_at net own chosen router c

      tail : List FileCommand
      tail = says_other c (new_at c) ∷ map (in_block c.block) (after_at c)

      by : (b : Bool) → (c.block == 0) ≡ b → flat_map chunk_commands (map Single (if b then es else [])) ++ (map (in_block c.block) (if b then [] else es) ++ tail) ≡ map (in_block c.block) es ++ tail
      by true is = let block : 0 ≡ c.block = sym (eqb-true c.block 0 is) in ap (λ (l : List FileCommand). l ++ tail) (single-commands es ∙ ap (λ (n : ℕ). map (in_block n) es) block)
      by false is = refl

  -- the commands of a site are those of new lists and those that stand for the command
  site-is : (c : FileCommand) → site_commands c (put_at c) ≡ flat_map chunk_commands (new_tops net own chosen router (new_key lines) c) ++ grow_at c
  site-is c =
      let tops = new_tops net own chosen router (new_key lines) c in
      let mine = map Single (singles net own chosen router c) in
      ap (λ (l : List FileCommand). l ++ own_commands c (put_at c)) (flat_map-append chunk_commands tops mine)
      ∙ append_assoc (flat_map chunk_commands tops) (flat_map chunk_commands mine) (own_commands c (put_at c))

  other-site : (c : FileCommand) → c.line ≢ own.process → site_commands c (put_at c) ≡ grow_at c
  other-site c other =
      site-is c ∙ ap (λ (b : Bool). flat_map chunk_commands (if b then list_chunks chosen (new_key lines) (named_lists net chosen router) else []) ++ grow_at c)
      (ne_eqb own.process c.line (λ same. other (sym same)))

  head-site : (c : FileCommand) → c.line ≡ own.process → site_commands c (put_at c) ≡ more_at ++ grow_at c
  head-site c same =
      site-is c ∙ ap (λ (b : Bool). flat_map chunk_commands (if b then list_chunks chosen (new_key lines) (named_lists net chosen router) else []) ++ grow_at c) (eq-eqb own.process c.line (sym same))

  other-sites : (ds : List FileCommand) → ((c : FileCommand) → Contains ds c → c.line ≢ own.process) → new_commands put_at ds ≡ flat_map grow_at ds
  other-sites [] other = refl
  other-sites (d ∷ ds) other = (let one = other-site d (other d (Contains-head d ds)) in let rest = other-sites ds (λ c there. other c (Contains-tail d c ds there)) in λ i. one i ++ rest i)

  module _ (f : IsEditedFile net places chosen router text lines cs) where
    abbrev pub head_at : FileCommand
    head_at = (process-here net places chosen router text lines cs f).head

    pub split : SplitAt cs head_at
    split = split-at 1 cs head_at (rising (text_lines text) cs f.stand) (process-here net places chosen router text lines cs f).block.among

    head-line : head_at.line ≡ own.process
    head-line = sym (process-line net places chosen router text lines cs f)

    abbrev pub back_at : List FileCommand
    back_at = head_at ∷ split.back

    pub grown-is : new_commands put_at cs ≡ flat_map grow_at split.front ++ (more_at ++ flat_map grow_at back_at)
    grown-is =
        ap (new_commands put_at) split.parts ∙ flat_map-append (λ (c : FileCommand). site_commands c (put_at c)) split.front back_at ∙
        (let front = other-sites split.front (λ c there same. split.front_other c there (same ∙ sym head-line)) in
        let head = head-site head_at head-line in
        let back = other-sites split.back (λ c there same. split.back_other c there (same ∙ sym head-line)) in
        λ i. front i ++ (head i ++ back i)) ∙
        ap (λ (l : List FileCommand). flat_map grow_at split.front ++ l) (append_assoc more_at (grow_at head_at) (flat_map grow_at split.back))

    pub is-grown : (c : FileCommand) → Contains cs c → IsGrown grow_at c
    is-grown c has = record {
      own = subst (AllByRecursion (λ (v : FileCommand). part_of v ≡ part_of c)) (sym (grow-is c))
          (AllByRecursion-append (λ (v : FileCommand). part_of v ≡ part_of c) (map (in_block c.block) (entries_at net own chosen router c))
          (says_other c (new_at c) ∷ map (in_block c.block) (after_at c))
          (all-mapped (λ (v : FileCommand). part_of v ≡ part_of c) (in_block c.block) (entries_at net own chosen router c)
          (λ w there. (entry-at net places chosen router text lines cs f c w has there).part)) (
            with-number-part c.block c.command (of_number c.line (numbers_at net own chosen router)),
            all-mapped (λ (v : FileCommand). part_of v ≡ part_of c) (in_block c.block) (after_at c)
                (λ w there. end-part net places chosen router text lines cs f c w has (end-at net places chosen router text lines cs f c w has there)),
          ));
      some = λ none. not-empty (map (in_block c.block) (entries_at net own chosen router c)) (says_other c (new_at c)) (map (in_block c.block) (after_at c)) (sym (grow-is c) ∙ none);
    }

    pub all-grown : (ds : List FileCommand) → ((c : FileCommand) → Contains ds c → Contains cs c) → AllByRecursion (IsGrown grow_at) ds
    all-grown ds within = all-from (IsGrown grow_at) ds (λ c there. is-grown c (within c there))

    pub in-front : (c : FileCommand) → Contains split.front c → Contains cs c
    in-front c there = subst (λ (l : List FileCommand). Contains l c) (sym split.parts) (Contains-append_left split.front back_at c there)

    pub in-back : (c : FileCommand) → Contains back_at c → Contains cs c
    in-back c there = subst (λ (l : List FileCommand). Contains l c) (sym split.parts) (Contains-append_right split.front back_at c there)

    low-line : (c : FileCommand) → Contains cs c → c.line ≤ length lines.rows
    low-line c has =
        let spot = command-spot (text_lines text) cs c f.stand has in
        let within = spot.told.within in
        let line = spot.line in
        let size : length (text_lines text) ≡ length lines.rows = sym (ap length f.are.texts) ∙ length-map lines.rows (λ (l : Line). part text l.span) in
        omega (arith, within, line, size)

    other-part : (t c : FileCommand) → AddedPart (new_key lines) (named_lists net chosen router) t → Contains cs c → part_of t ≡ part_of c → ⊥
    other-part t c a has same = by a.named.0 refl
      where
        by : (list : NewList) → a.named.0 ≡ list → ⊥
        by (Route face) is =
            let own_part : part_of c ≡ groups.PrefixLines a.named.1 = sym same ∙ a.part ∙ ap (λ (l : NewList). part_for a.number l a.named.1) is in
            let begun = prefix-command c.block c.command a.named.1 own_part in
            let l = listed (text_lines text) cs c a.named.1 begun.0 begun.1 f.stand has begun.2 in
            f.free a.named a.among l.list l.among l.name_is
        by (Packet face) is =
            let own_part : part_of c ≡ groups.Block a.number = sym same ∙ a.part ∙ ap (λ (l : NewList). part_for a.number l a.named.1) is in
            let block = part-block c.block a.number c.command own_part in
            let low = block-low (text_lines text) cs c f.stand has in
            let line = low-line c has in
            let high = a.high in
            omega (arith, block, low, line, high)

    pub are-fresh : AreFreshParts (split.front ++ back_at) more_at
    are-fresh t c in_added in_cs =
        let a = added-part chosen (new_key lines) (named_lists net chosen router) t in_added in
        let has = subst (λ (l : List FileCommand). Contains l c) (sym split.parts) in_cs in
        ⊎_elim
        (λ (same : is_same (part_of t) (part_of c) ≡ true). absurd (other-part t c a has ((is_same-Decides (part_of t) (part_of c)).0 same)))
        (λ (other : is_same (part_of t) (part_of c) ≡ false). other)
        (cases_Bool (is_same (part_of t) (part_of c)))
