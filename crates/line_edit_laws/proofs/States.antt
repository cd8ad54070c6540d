-- A file whose first lines are old and whose others are edited: one edit more, from the last line to the first.
use Rattle.std.proofs.Common.{◌≡◌, ◌≢◌, ℕ, ◌+◌, ◌<◌, ◌≤◌, ◌⊎◌, inl, inr, nat_le, Bool, true, false, None, List, []}
use Rattle.std.proofs.Common.{◌∷◌, ◌++◌, length, length-append, take, map, refl, sym, ap, subst, ◌∙◌, arith, ⊎_elim, append_assoc, Contains, IsTrue}
use Rattle.std.specs.List.{AllZip, AllByRecursion}
use Rattle.std.proofs.lemmas.Bool.{cases_Bool, cases_lt, cond-true, cond-false, leb-true, le-leb, ne_eqb}
use Rattle.std.proofs.lemmas.List.{map-append}
use Rattle.std.proofs.Math.Seq.{take-append_seam, drop-append_seam}
use Rattle.std.proofs.lemmas.List.Elements as elements
use Rattle.arc_base.proofs.Items as items
use Rattle.arc_base.proofs.Items.{Contains-cases, Contains-none}
use Rattle.ios_lines.specs.Kinds.{kind, kind_at, closes, open_banner, IsInner, IsHead, IsSingle, IsClosing}
use Rattle.ios_lines.specs.Views.{open_block}
use Rattle.arc_base.specs.Words.{words}
use Rattle.ios_lines.specs.Changes.{inserted, moved, MayStandAt}
use Rattle.ios_lines.proofs.ChangedTexts.{inner-may, top-may}
use Rattle.ios_lines.proofs.Insertions.{moved-low, moved-high}
use Rattle.ios_lines.proofs.Orphans.{banner-inserted}
use Rattle.ios_lines.proofs.ViewRows.{kind-next}
use Rattle.ios_words.specs.declared.kinds.BlockKind.{BlockKind}
use Rattle.ios_words.specs.declared.kinds.BlockKind.TheVariants as kinds
use Rattle.ios_words.specs.Commands.{is_extended_block, ReadBy}
use Rattle.ios_words.specs.Language.{rows}
use Rattle.ios_config.specs.declared.commands.FileCommand.{FileCommand}
use Rattle.ios_config.specs.Commands.{opened_by}
use Rattle.ios_config.specs.Groups.{Part, Block, Lines, PrefixLines, is_same, part_in, part_of}
use Rattle.ios_config.specs.Inserted.{Opened, command_at, command_moved, with_command}
use Rattle.ios_config.specs.Joined.{part_moved}
use Rattle.ios_config.specs.LineLists.{AreCommandsIn}
use Rattle.ios_config.proofs.JoinedParts.{part-moved, same-moved, is-self, other-way}
use Rattle.ios_config.proofs.LineLists.{inner-in, head-in, single-in, closing-in}
use Rattle.ios_config.proofs.PartLists.{is_same-Decides}
use Rattle.line_edit_laws.specs.Sites.{Written, in_block}
use Rattle.line_edit_laws.proofs.Alike.{IsAlike}

-- the old commands of these first lines
abbrev pub AreLow : ℕ → List FileCommand → Type 0
AreLow n cs = AllByRecursion (λ (c : FileCommand). (c.line ≤ n) × (c.block ≤ n)) cs

abbrev pub AreHigh : ℕ → List FileCommand → Type 0
AreHigh n cs = AllByRecursion (λ (c : FileCommand). n < c.line) cs

-- The first lines are old ones with their old commands, and the others have commands that are alike to these. One block has a new number of its own.
pub record State (most key own : ℕ) (first : List (List ℕ)) (front : List FileCommand) (others : List (List ℕ)) (alike : List FileCommand) : Type 0 where
  pub back : List FileCommand
  pub are : AreCommandsIn (first ++ others) (front ++ back)
  pub low : AreLow (length first) front
  pub high : AreHigh (length first) back
  pub rename : Part → Part
  pub same : (p q : Part) → is_same (rename p) (rename q) ≡ is_same p q
  pub fixed : (k : ℕ) → k ≤ most → rename (Block k) ≡ Block k
  pub keyed : rename (Block key) ≡ Block own
  pub lists : (name : List ℕ) → rename (Lines name) ≡ Lines name
  pub prefixes : (name : List ℕ) → rename (PrefixLines name) ≡ PrefixLines name
  pub all : AllZip (IsAlike rename) alike back
  pub outside : open_banner (first ++ others) ≡ None

-- one command more between low ones and high ones
pub with-between : (place : ℕ) (c : FileCommand) (front back : List FileCommand) → AreLow place front → AreHigh place back →
    with_command place c (front ++ back) ≡ front ++ c ∷ map (command_moved place) back
with-between place c [] [] low high = refl
with-between place c [] (d ∷ back) low high = cond-false _ _ _
    (⊎_elim (λ below. let under = leb-true d.line place below in let over = high.0 in absurd (omega arith)) (λ other. other) (cases_Bool (nat_le d.line place)))
with-between place c (d ∷ front) back low high =
    let line = moved-low place d.line low.0.0 in
    let block = moved-low place d.block low.0.1 in
    cond-true _ _ _ (le-leb d.line place low.0.0) ∙
    (λ i. record { line = line i; block = block i; command = d.command } ∷ with-between place c front back low.1 high i)

pub low-moved : (place : ℕ) (front : List FileCommand) → AreLow place front → map (command_moved place) front ≡ front
low-moved place [] low = refl
low-moved place (d ∷ front) low =
    let line = moved-low place d.line low.0.0 in
    let block = moved-low place d.block low.0.1 in
    let rest = low-moved place front low.1 in
    λ i. record { line = line i; block = block i; command = d.command } ∷ rest i

high-moved : (place : ℕ) (back : List FileCommand) → AreHigh place back → AreHigh (place + 1) (map (command_moved place) back)
high-moved place [] high = tt
high-moved place (d ∷ back) high = ((let up = moved-high place d.line high.0 in let low = high.0 in omega arith), high-moved place back high.1)

pub high-less : (n m : ℕ) (back : List FileCommand) → m ≤ n → AreHigh n back → AreHigh m back
high-less n m [] less high = tt
high-less n m (d ∷ back) less high = ((let up = high.0 in omega arith), high-less n m back less high.1)

pub low-more : (n m : ℕ) (front : List FileCommand) → n ≤ m → AreLow n front → AreLow m front
low-more n m [] less low = tt
low-more n m (d ∷ front) less low = (((let up = low.0.0 in omega arith), (let up = low.0.1 in omega arith)), low-more n m front less low.1)

-- commands that are alike still are where they are moved
zip-moved : (place : ℕ) (rename after : Part → Part) (vs cs : List FileCommand) →
    ((v : FileCommand) → Contains vs v → after (part_of v) ≡ part_moved place (rename (part_of v))) → AllZip (IsAlike rename) vs cs → AllZip (IsAlike after) vs (map (command_moved place) cs)
zip-moved place rename after [] [] each all = tt
zip-moved place rename after (v ∷ vs) (c ∷ cs) each all = (
  (all.0.0, part-moved place c ∙ ap (part_moved place) all.0.1 ∙ sym (each v (items.Contains-head v vs))),
  zip-moved place rename after vs cs (λ x there. each x (items.Contains-tail v x vs there)) all.1,
)
zip-moved place rename after vs cs each all = absurd all

-- a new head's number is that of no moved one
never-new : (place : ℕ) (p : Part) → is_same (Block (place + 1)) (part_moved place p) ≡ false
never-new place (Block k) = ne_eqb (place + 1) (moved place k) (λ same. ⊎_elim
    (λ high. let up = moved-high place k high in omega arith)
    (λ low. let down = moved-low place k low in omega arith)
    (cases_lt place k))
never-new place other = refl

low-kept : (place k : ℕ) → k ≤ place → part_moved place (Block k) ≡ Block k
low-kept place k low = ap Block (moved-low place k low)

-- a line between lines
pub inserted-here : (first others : List (List ℕ)) (line : List ℕ) → inserted (length first) line (first ++ others) ≡ first ++ line ∷ others
inserted-here first others line = λ i. take-append_seam first others i ++ line ∷ drop-append_seam first others i

-- the line after the first ones closes a block, if there is one
abbrev pub Closes : List (List ℕ) → Type 0
Closes [] = Unit {0}
Closes (x ∷ xs) = IsTrue (closes (kind x))

module _ (most key own : ℕ) (first : List (List ℕ)) (front : List FileCommand) (others : List (List ℕ)) (alike : List FileCommand) (s : State most key own first front others alike)
    (few : most ≤ length first) (own_low : own ≤ length first) where
  abbrev pub p : ℕ
  p = length first

  abbrev pub kept : Part → Part
  kept q = part_moved p (s.rename q)

  prefix : take p (first ++ others) ≡ first
  prefix = take-append_seam first others

  within : p ≤ length (first ++ others)
  within = let long = length-append first others in omega arith

  pub kept-fixed : (k : ℕ) → k ≤ most → kept (Block k) ≡ Block k
  kept-fixed k low = ap (part_moved p) (s.fixed k low) ∙ low-kept p k (omega arith)

  pub kept-key : kept (Block key) ≡ Block own
  kept-key = ap (part_moved p) s.keyed ∙ low-kept p own own_low

  -- one line more at this place
  put : (line : List ℕ) → MayStandAt (first ++ others) p line → (c v : FileCommand) → c.line ≡ p + 1 → AreCommandsIn (inserted p line (first ++ others)) (with_command p c (front ++ s.back)) →
      c.command ≡ v.command → part_of c ≡ kept (part_of v) → State most key own first front (line ∷ others) (v ∷ alike)
  put line may c v number are says part = record {
    back = c ∷ map (command_moved p) s.back;
    are = subst (λ (ls : List (List ℕ)). AreCommandsIn ls (front ++ c ∷ map (command_moved p) s.back)) (inserted-here first others line)
        (subst (AreCommandsIn (inserted p line (first ++ others))) (with-between p c front s.back s.low s.high) are);
    low = s.low;
    high = ((omega arith), high-less (p + 1) p (map (command_moved p) s.back) (omega arith) (high-moved p s.back s.high));
    rename = kept;
    same = λ q r. same-moved p (s.rename q) (s.rename r) ∙ s.same q r;
    fixed = kept-fixed;
    keyed = kept-key;
    lists = λ name. ap (part_moved p) (s.lists name);
    prefixes = λ name. ap (part_moved p) (s.prefixes name);
    all = ((says, part), zip-moved p s.rename kept alike s.back (λ x there. refl) s.all);
    outside = ap open_banner (sym (inserted-here first others line)) ∙ banner-inserted (first ++ others) p line may ∙ s.outside;
  }

  -- a line of the block that is open after the first lines, which is that of a number here
  pub put-inner : (w : Written) (block here : ℕ) (within_kind : BlockKind) (head : FileCommand) → open_banner first ≡ None → open_block first ≡ block →
      block ≢ 0 → Contains front head → head.line ≡ block → opened_by head.command ≡ within_kind → within_kind ≢ kinds.Inert →
      IsInner w.line → ReadBy (is_extended_block within_kind) (words w.line) (rows within_kind) w.command → part_in block w.command ≡ Block block →
      part_in here w.command ≡ Block here → kept (Block here) ≡ Block block →
      State most key own first front (w.line ∷ others) (in_block here w ∷ alike)
  put-inner w block here within_kind head banner is_open some among number opens known inner reads part part_here told =
      let banner_here : open_banner (take p (first ++ others)) ≡ None = ap open_banner prefix ∙ banner in
      let open_here : open_block (take p (first ++ others)) ≡ block = ap open_block prefix ∙ is_open in
      let may : MayStandAt (first ++ others) p w.line = inner-may (first ++ others) p w.line within banner_here (λ none. some (sym open_here ∙ none)) inner in
      let opened : Opened (front ++ s.back) (open_block (take p (first ++ others))) within_kind =
      record { head = head; among = elements.Contains-append_left front s.back head among; line = number ∙ sym open_here; opens = opens; known = known } in
      let are = inner-in (first ++ others) (front ++ s.back) p w.line within_kind w.command s.are may inner opened reads in
      put w.line may (command_at (p + 1) block w.command) (in_block here w) refl
      (subst (λ (b : ℕ). AreCommandsIn (inserted p w.line (first ++ others)) (with_command p (command_at (p + 1) b w.command) (front ++ s.back))) open_here are)
      refl (part ∙ sym told ∙ ap kept (sym part_here))

  closing : (xs : List (List ℕ)) → open_banner first ≡ None → Closes xs → p < length (first ++ xs) → IsTrue (closes (kind_at (first ++ xs) p))
  closing [] banner closes_it low = let long = length-append first [] in absurd (omega arith)
  closing (x ∷ xs) banner closes_it low =
      ap closes (kind-next (first ++ x ∷ xs) p x xs None (drop-append_seam first (x ∷ xs)) (sym (ap open_banner (take-append_seam first (x ∷ xs)) ∙ banner))) ∙ closes_it

  top-here : (line : List ℕ) → open_banner first ≡ None → Closes others → IsHead line ⊎ (IsSingle line ⊎ IsClosing line) → MayStandAt (first ++ others) p line
  top-here line banner closes_it is = top-may (first ++ others) p line within (ap open_banner prefix ∙ banner) (closing others banner closes_it) is

  list-kept : (q : Part) (name : List ℕ) → (q ≡ Lines name) ⊎ (q ≡ PrefixLines name) → kept q ≡ q
  list-kept q name (inl is) = ap kept is ∙ ap (part_moved p) (s.lists name) ∙ sym is
  list-kept q name (inr is) = ap kept is ∙ ap (part_moved p) (s.prefixes name) ∙ sym is

  -- a line of a list that stands as lines
  pub put-single : (w : Written) (name : List ℕ) → open_banner first ≡ None → Closes others → IsSingle w.line →
      ReadBy false (words w.line) (rows kinds.Top) w.command → (part_in 0 w.command ≡ Lines name) ⊎ (part_in 0 w.command ≡ PrefixLines name) →
      State most key own first front (w.line ∷ others) (in_block 0 w ∷ alike)
  put-single w name banner closes_it single reads part =
      let may = top-here w.line banner closes_it (inr (inl single)) in
      put w.line may (command_at (p + 1) 0 w.command) (in_block 0 w) refl (single-in (first ++ others) (front ++ s.back) p w.line w.command s.are may single reads) refl
      (sym (list-kept (part_in 0 w.command) name part))

  -- a line that only closes a block
  pub put-closing : (line : List ℕ) → open_banner first ≡ None → Closes others → IsClosing line → State most key own first front (line ∷ others) alike
  put-closing line banner closes_it closing_line =
      let may = top-here line banner closes_it (inr (inr closing_line)) in
      let are = closing-in (first ++ others) (front ++ s.back) p line s.are may closing_line in
      record {
        back = map (command_moved p) s.back;
        are = subst (λ (ls : List (List ℕ)). AreCommandsIn ls (front ++ map (command_moved p) s.back)) (inserted-here first others line)
            (subst (AreCommandsIn (inserted p line (first ++ others))) (map-append (command_moved p) front s.back
            ∙ ap (λ (l : List FileCommand). l ++ map (command_moved p) s.back) (low-moved p front s.low)) are);
        low = s.low;
        high = high-less (p + 1) p (map (command_moved p) s.back) (omega arith) (high-moved p s.back s.high);
        rename = kept;
        same = λ q r. same-moved p (s.rename q) (s.rename r) ∙ s.same q r;
        fixed = kept-fixed;
        keyed = kept-key;
        lists = λ name. ap (part_moved p) (s.lists name);
        prefixes = λ name. ap (part_moved p) (s.prefixes name);
        all = zip-moved p s.rename kept alike s.back (λ x there. refl) s.all;
        outside = ap open_banner (sym (inserted-here first others line)) ∙ banner-inserted (first ++ others) p line may ∙ s.outside;
      }

  -- the head of a new block, which is that of a new number here; it is then one of the first lines
  abbrev by_key : ℕ → Part → Bool → Part
  by_key new q true = Block (p + 1)
  by_key new q false = kept q

  abbrev renamed : ℕ → Part → Part
  renamed new q = by_key new q (is_same (Block new) q)

  sames : (new : ℕ) (q r : Part) (a b : Bool) → is_same (Block new) q ≡ a → is_same (Block new) r ≡ b → is_same (by_key new q a) (by_key new r b) ≡ is_same q r
  sames new q r true true one two =
      let q_is : Block new ≡ q = (is_same-Decides (Block new) q).0 one in
      let r_is : Block new ≡ r = (is_same-Decides (Block new) r).0 two in
      is-self (Block (p + 1)) ∙ sym (is-self (Block new)) ∙ (λ i. is_same (q_is i) (r_is i))
  sames new q r true false one two =
      let q_is : Block new ≡ q = (is_same-Decides (Block new) q).0 one in
      never-new p (s.rename r) ∙ sym two ∙ ap (λ (x : Part). is_same x r) q_is
  sames new q r false true one two =
      let r_is : Block new ≡ r = (is_same-Decides (Block new) r).0 two in
      other-way (kept q) (Block (p + 1)) (never-new p (s.rename q)) ∙ sym (other-way q (Block new) one) ∙ ap (is_same q) r_is
  sames new q r false false one two = same-moved p (s.rename q) (s.rename r) ∙ s.same q r

  pub put-head : (w : Written) (new : ℕ) (within_kind : BlockKind) → open_banner first ≡ None → Closes others → IsHead w.line →
      ReadBy false (words w.line) (rows kinds.Top) w.command → part_in (p + 1) w.command ≡ Block (p + 1) → most < new →
      AllByRecursion (λ (v : FileCommand). is_same (Block new) (part_of v) ≡ false) alike →
      State most new (p + 1) (first ++ w.line ∷ []) (front ++ command_at (p + 1) (p + 1) w.command ∷ []) others alike
  put-head w new within_kind banner closes_it head reads part high fresh =
      let may = top-here w.line banner closes_it (inl head) in
      let c : FileCommand = command_at (p + 1) (p + 1) w.command in
      let are = head-in (first ++ others) (front ++ s.back) p w.line w.command s.are may head reads in
      let more : length (first ++ w.line ∷ []) ≡ p + 1 = length-append first (w.line ∷ []) in
      record {
        back = map (command_moved p) s.back;
        are = subst (λ (ls : List (List ℕ)). AreCommandsIn ls ((front ++ c ∷ []) ++ map (command_moved p) s.back)) (inserted-here first others w.line ∙ sym (append_assoc first (w.line ∷ []) others))
            (subst (AreCommandsIn (inserted p w.line (first ++ others))) (with-between p c front s.back s.low s.high ∙ sym (append_assoc front (c ∷ []) (map (command_moved p) s.back))) are);
        low = subst (λ (n : ℕ). AreLow n (front ++ c ∷ [])) (sym more) (low-append front (low-more p (p + 1) front (omega arith) s.low));
        high = subst (λ (n : ℕ). AreHigh n (map (command_moved p) s.back)) (sym more) (high-moved p s.back s.high);
        rename = renamed new;
        same = λ q r. sames new q r (is_same (Block new) q) (is_same (Block new) r) refl refl;
        fixed = λ k low. ap (by_key new (Block k)) (ne_eqb new k (λ same. omega arith)) ∙ kept-fixed k low;
        keyed = ap (by_key new (Block new)) (is-self (Block new));
        lists = λ name. ap (part_moved p) (s.lists name);
        prefixes = λ name. ap (part_moved p) (s.prefixes name);
        all = zip-moved p s.rename (renamed new) alike s.back (λ v there. ap (by_key new (part_of v)) (fresh-one alike v fresh there)) s.all;
        outside = ap open_banner (append_assoc first (w.line ∷ []) others ∙ sym (inserted-here first others w.line)) ∙ banner-inserted (first ++ others) p w.line may ∙ s.outside;
      }
    where
      low-append : (cs : List FileCommand) → AreLow (length first + 1) cs → AreLow (length first + 1) (cs ++ command_at (length first + 1) (length first + 1) w.command ∷ [])
      low-append [] low = ((omega arith, omega arith), tt)
      low-append (d ∷ cs) low = (low.0, low-append cs low.1)

      fresh-one : (vs : List FileCommand) (v : FileCommand) → AllByRecursion (λ (x : FileCommand). is_same (Block new) (part_of x) ≡ false) vs → Contains vs v → is_same (Block new) (part_of v) ≡ false
      fresh-one [] v all there = absurd (Contains-none v there)
      fresh-one (x ∷ vs) v all there = ⊎_elim (λ (here : x ≡ v). ap (λ (y : FileCommand). is_same (Block new) (part_of y)) (sym here) ∙ all.0) (λ later. fresh-one vs v all.1 later)
          (Contains-cases x v vs there)
