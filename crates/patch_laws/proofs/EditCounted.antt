-- Numbers of entries that are the multiples of a step, one after the other.
use Rattle.std.proofs.Common.{◌≡◌, ◌≢◌, ℕ, suc, ◌+◌, ◌*◌, ◌<◌, ◌⊎◌, inl, inr, Bool, true, false, if◌then◌else◌, Option, Some, None, List, [], ◌∷◌, ◌++◌, length, map, refl, sym, ap, subst}
use Rattle.std.proofs.Common.{◌∙◌, arith, Contains, append_assoc}
use Rattle.std.specs.Prelude.{slice_get}
use Rattle.std.specs.List.{cons_option, enumerate_from, filter_map, flat_map}
use Rattle.std.proofs.lemmas.Bool.{lt-ltb, false≢true, eq-eqb, ne_eqb}
use Rattle.std.proofs.lemmas.Option.{none-some}
use Rattle.std.proofs.lemmas.List.Elements.{filter_map-append}
use Rattle.arc_base.specs.declared.prefix.Prefix.{Prefix}
use Rattle.arc_base.proofs.Items.{Contains-cases, Contains-none, Contains-head, Contains-tail}
use Rattle.net_model.specs.declared.lists.PacketList.{PacketList}
use Rattle.net_model.specs.declared.lists.RouteList.{RouteList}
use Rattle.net_model.specs.declared.policies.Class.{Class}
use Rattle.ios_words.specs.declared.commands.Command.{Command}
use Rattle.ios_words.specs.declared.commands.Command.TheVariants as commands
use Rattle.ios_config.specs.declared.commands.FileCommand.{FileCommand}
use Rattle.ios_config.specs.declared.settings.Given.{Given}
use Rattle.ios_config.specs.declared.settings.ListForm.TheVariants as forms
use Rattle.ios_config.specs.Rising.{FallsAt, rises}
use Rattle.ios_config.specs.Texts.{entries, entry_number, given, is_entry}
use Rattle.ios_config.proofs.LinesBefore.{Rising, rising-low}
use Rattle.net_build.specs.declared.built.ListPlace.{ListPlace}
use Rattle.edit_list.specs.After.{opposite_packet_entry}
use Rattle.arc_base.specs.Numbered.{of_number}
use Rattle.line_patcher.specs.declared.additions.NewNumber.{NewNumber}
use Rattle.line_patcher.specs.EntryLines.{new_number}
use Rattle.line_edit_laws.specs.Sites.{Written, in_block}
use Rattle.patch_laws.specs.EditSites.{with_number}
use Rattle.line_patcher.specs.EntryLines.{class_commands, packet_command, prefix_command}
use Rattle.patch_laws.specs.Written.{written_of}
use Rattle.patch_laws.proofs.EditRising.{Rises, numbers_of}

-- the number of a command that is an entry
abbrev number_of : FileCommand → Option (Option ℕ)
number_of c = if is_entry c.command then Some (entry_number c.command) else None

-- the numbers of the entries among commands
abbrev pub numbers : List FileCommand → List (Option ℕ)
numbers cs = filter_map number_of cs

-- those of one command
abbrev pub alone : Command → List (Option ℕ)
alone k = cons_option (if is_entry k then Some (entry_number k) else None) []

pub numbers-are : (cs : List FileCommand) → numbers_of (entries cs) ≡ numbers cs
numbers-are [] = refl
numbers-are (c ∷ cs) = by (is_entry c.command) (numbers-are cs)
  where
    by : (b : Bool) → numbers_of (entries cs) ≡ numbers cs →
        numbers_of (cons_option (if b then Some (given c) else None) (entries cs)) ≡ cons_option (if b then Some (entry_number c.command) else None) (numbers cs)
    by true rest = ap (λ (l : List (Option ℕ)). entry_number c.command ∷ l) rest
    by false rest = rest

pub numbers-append : (xs ys : List FileCommand) → numbers (xs ++ ys) ≡ numbers xs ++ numbers ys
numbers-append xs ys = filter_map-append number_of xs ys

-- each number may follow the one before where none falls
pub rises-of : (es : List (Given Command)) → ((line : ℕ) → ¬ FallsAt es line) → Rises (numbers_of es)
rises-of [] never = tt
rises-of (e ∷ []) never = tt
rises-of (e ∷ g ∷ es) never = (
  by (rises (entry_number e.value) (entry_number g.value)) refl,
  rises-of (g ∷ es) (λ line falls.
      never line (record {
        place = suc falls.place;
        earlier = falls.earlier;
        at_place = falls.at_place;
        later = falls.later;
        at_next = (let step : suc falls.place + 1 ≡ suc (falls.place + 1) = omega arith in ap (slice_get (e ∷ g ∷ es)) step ∙ falls.at_next);
        falls = falls.falls;
        is_line = falls.is_line;
      })),
)
  where
    by : (b : Bool) → rises (entry_number e.value) (entry_number g.value) ≡ b → b ≡ true
    by true is = refl
    by false is = absurd (never g.line (record { place = 0; earlier = e; at_place = refl; later = g; at_next = refl; falls = is; is_line = refl }))

-- the multiples of the step from this one on
abbrev pub Counts : ℕ → ℕ → List (Option ℕ) → Type 0
Counts step a [] = Unit {0}
Counts step a (x ∷ xs) = (x ≡ Some (step * a)) × Counts step (a + 1) xs

pub counts-rise : (step a : ℕ) (xs : List (Option ℕ)) → ((k : ℕ) → step * k < step * (k + 1)) → Counts step a xs → Rises xs
counts-rise step a [] up all = tt
counts-rise step a (x ∷ []) up all = tt
counts-rise step a (x ∷ y ∷ xs) up all = ((λ i. rises (all.0 i) (all.1.0 i)) ∙ lt-ltb (step * a) (step * (a + 1)) (up a), counts-rise step (a + 1) (y ∷ xs) up all.1)

pub counts-append : (step a b : ℕ) (xs ys : List (Option ℕ)) → b ≡ a + length xs → Counts step a xs → Counts step b ys → Counts step a (xs ++ ys)
counts-append step a b [] ys is one two = let same : b ≡ a = omega (arith, is) in subst (λ (k : ℕ). Counts step k ys) same two
counts-append step a b (x ∷ xs) ys is one two = (one.0, counts-append step (a + 1) b xs ys (omega (arith, is)) one.1 two)

-- commands that each grow by numbers before their own
module _ (h : FileCommand → List FileCommand) (new own : FileCommand → List (Option ℕ)) where
  rest-numbers : (g : List FileCommand) → ((c : FileCommand) → Contains g c → numbers (h c) ≡ new c ++ own c) → ((c : FileCommand) → Contains g c → new c ≡ []) →
      numbers (flat_map h g) ≡ flat_map own g
  rest-numbers [] each none = refl
  rest-numbers (c ∷ g) each none =
      let one : numbers (h c) ≡ own c = each c (Contains-head c g) ∙ ap (λ (l : List (Option ℕ)). l ++ own c) (none c (Contains-head c g)) in
      let rest = rest-numbers g (λ d there. each d (Contains-tail c d g there)) (λ d there. none d (Contains-tail c d g there)) in
      numbers-append (h c) (flat_map h g) ∙ (λ i. one i ++ rest i)

  pub front-numbers : (n : ℕ) (g : List FileCommand) (first : FileCommand) → Rising n g → Contains g first → ((c : FileCommand) → Contains g c → numbers (h c) ≡ new c ++ own c) →
      ((c : FileCommand) → Contains g c → c.line ≢ first.line → new c ≡ []) →
      ((c : FileCommand) → Contains g c → c.line < first.line → own c ≡ []) → numbers (flat_map h g) ≡ new first ++ flat_map own g
  front-numbers n [] first up has each none before = absurd (Contains-none first has)
  front-numbers n (c ∷ g) first up has each none before =
      by (Contains-cases c first g has)
      (λ later. front-numbers (c.line + 1) g first up.1 later (λ d there. each d (Contains-tail c d g there)) (λ d there. none d (Contains-tail c d g there))
      (λ d there. before d (Contains-tail c d g there)))
    where
      by : (c ≡ first) ⊎ Contains g first → (Contains g first → numbers (flat_map h g) ≡ new first ++ flat_map own g) → numbers (flat_map h (c ∷ g)) ≡ new first ++ flat_map own (c ∷ g)
      by (inl here) deeper =
          let one : numbers (h c) ≡ new first ++ own c = each c (Contains-head c g) ∙ ap (λ (d : FileCommand). new d ++ own c) here in
          let rest = rest-numbers g (λ d there. each d (Contains-tail c d g there))
          (λ d there. none d (Contains-tail c d g there)
          (λ same. (let over = rising-low (c.line + 1) g d up.1 there in let at : c.line ≡ first.line = ap (λ (x : FileCommand). x.line) here in omega (arith, over, at, same)))) in
          numbers-append (h c) (flat_map h g) ∙ (λ i. one i ++ rest i) ∙ append_assoc (new first) (own c) (flat_map own g)
      by (inr later) deeper =
          let over = rising-low (c.line + 1) g first up.1 later in
          let quiet : own c ≡ [] = before c (Contains-head c g) (omega (arith, over)) in
          let one : numbers (h c) ≡ [] = each c (Contains-head c g) ∙ ap (λ (l : List (Option ℕ)). l ++ own c) (none c (Contains-head c g) (λ same. omega (arith, over, same))) ∙ quiet in
          numbers-append (h c) (flat_map h g) ∙ ap (λ (l : List (Option ℕ)). l ++ numbers (flat_map h g)) one ∙ deeper later
          ∙ ap (λ (l : List (Option ℕ)). new first ++ (l ++ flat_map own g)) (sym quiet)

-- a command that is no entry is none with another number
pub entry-with : (k : Command) (new : List NewNumber) → is_entry (with_number k new) ≡ is_entry k
entry-with k [] = refl
entry-with (commands.Entry order entry) (n ∷ more) = refl
entry-with (commands.PrefixLine name order entry) (n ∷ more) = refl
entry-with _ (n ∷ more) = refl

pub none-alone : (k : Command) (new : List NewNumber) → is_entry k ≡ false → alone (with_number k new) ≡ []
none-alone k new is = ap (λ (b : Bool). cons_option (if b then Some (entry_number (with_number k new)) else None) []) (entry-with k new ∙ is)

-- an entry that has a number has the new one
some-alone : (k : Command) (m : ℕ) (new : NewNumber) (more : List NewNumber) → is_entry k ≡ true → entry_number k ≡ Some m → alone (with_number k (new ∷ more)) ≡ Some new.number ∷ []
some-alone (commands.Entry order entry) m new more is has = refl
some-alone (commands.PrefixLine name order entry) m new more is has = refl
some-alone (commands.ListLine name entry) m new more is has = absurd (none-some m has)
some-alone _ m new more is has = absurd (false≢true is)

-- the new numbers of a list's entries
abbrev pub table : ℕ → ℕ → ℕ → ℕ → List (Given Command) → List (ℕ × NewNumber)
table word step count k es = map (new_number word step count) (enumerate_from k (map (λ (g : Given Command). g.line) es))

module _ (word step count : ℕ) (given_new : FileCommand → List NewNumber) where
  abbrev renewed : FileCommand → List (Option ℕ)
  renewed c = alone (with_number c.command (given_new c))

  -- entries with those numbers count on
  pub renumbered : (n k : ℕ) (g : List FileCommand) → Rising n g →
      ((c : FileCommand) → Contains g c → is_entry c.command ≡ true → given_new c ≡ of_number c.line (table word step count k (entries g))) →
      ((c : FileCommand) → Contains g c → is_entry c.command ≡ true → (m : ℕ) × (entry_number c.command ≡ Some m)) → Counts step (count + k) (flat_map renewed g)
  renumbered n k [] up are has = tt
  renumbered n k (c ∷ g) up are has = by (is_entry c.command) refl (λ from now. renumbered (c.line + 1) from g up.1 now (λ d there is. has d (Contains-tail c d g there) is))
    where
      others : List (ℕ × NewNumber)
      others = table word step count (k + 1) (entries g)

      number : NewNumber
      number = record { word = word; number = step * (count + k) }

      by : (b : Bool) → is_entry c.command ≡ b →
          ((from : ℕ) → ((d : FileCommand) → Contains g d → is_entry d.command ≡ true → given_new d ≡ of_number d.line (table word step count from (entries g))) →
          Counts step (count + from) (flat_map renewed g)) →
          Counts step (count + k) (flat_map renewed (c ∷ g))
      by true entry deeper =
          let here : entries (c ∷ g) ≡ given c ∷ entries g = ap (λ (b : Bool). cons_option (if b then Some (given c) else None) (entries g)) entry in
          let mine : given_new c ≡ number ∷ of_number c.line others =
          are c (Contains-head c g) entry ∙ ap (λ (es : List (Given Command)). of_number c.line (table word step count k es)) here
          ∙ ap (λ (b : Bool). cons_option (if b then Some number else None) (of_number c.line others)) (eq-eqb c.line c.line refl) in
          let (m, old) = has c (Contains-head c g) entry in
          let one : renewed c ≡ Some (step * (count + k)) ∷ [] = ap (λ (ns : List NewNumber). alone (with_number c.command ns)) mine
          ∙ some-alone c.command m number (of_number c.line others) entry old in
          let rest = deeper (k + 1) (λ d there is. are d (Contains-tail c d g there) is ∙ ap (λ (es : List (Given Command)). of_number d.line (table word step count k es)) here ∙
          ap (λ (b : Bool). cons_option (if b then Some number else None) (of_number d.line others))
          (ne_eqb c.line d.line (λ same. (let over = rising-low (c.line + 1) g d up.1 there in omega (arith, over, same))))) in
          let next : count + (k + 1) ≡ count + k + 1 = omega arith in
          subst (λ (l : List (Option ℕ)). Counts step (count + k) (l ++ flat_map renewed g)) (sym one) (refl, subst (λ (a : ℕ). Counts step a (flat_map renewed g)) next rest)
      by false none deeper =
          let here : entries (c ∷ g) ≡ entries g = ap (λ (b : Bool). cons_option (if b then Some (given c) else None) (entries g)) none in
          subst (λ (l : List (Option ℕ)). Counts step (count + k) (l ++ flat_map renewed g)) (sym (none-alone c.command (given_new c) none))
          (deeper k (λ d there is. are d (Contains-tail c d g there) is ∙ ap (λ (es : List (Given Command)). of_number d.line (table word step count k es)) here))

  -- without new numbers they are as they were
  pub unchanged : (g : List FileCommand) → ((c : FileCommand) → Contains g c → is_entry c.command ≡ true → given_new c ≡ []) → flat_map renewed g ≡ numbers g
  unchanged [] none = refl
  unchanged (c ∷ g) none =
      (let one : renewed c ≡ alone c.command = by (is_entry c.command) refl in let rest =
      unchanged g (λ d there is. none d (Contains-tail c d g there) is) in (λ i. one i ++ rest i) ∙ sym (numbers-append (c ∷ []) g))
    where
      by : (b : Bool) → is_entry c.command ≡ b → renewed c ≡ alone c.command
      by true entry = ap (λ (ns : List NewNumber). alone (with_number c.command ns)) (none c (Contains-head c g) entry)
      by false quiet = none-alone c.command (given_new c) quiet ∙ sym (none-alone c.command [] quiet)

-- new entries of packet lists have the numbers of their places
packets-count : (b k : ℕ) (row : PacketList) (classes : List Class) →
    (let new : List Written =
    map written_of (map (λ (e : ℕ × Class). packet_command forms.Block row.name (if true then Some (10 * e.0) else None) (opposite_packet_entry row.entries e.1)) (enumerate_from k classes)) in
    Counts 10 k (numbers (map (in_block b) new)) × (length (numbers (map (in_block b) new)) ≡ length classes))
packets-count b k row [] = (tt, refl)
packets-count b k row (c ∷ classes) = let (all, long) = packets-count b (k + 1) row classes in ((refl, all), ap suc long)

pub classes-count : (b : ℕ) (place : ListPlace) (row : PacketList) (classes : List Class) → place.form ≡ forms.Block → place.numbered ≡ true →
    Counts 10 1 (numbers (map (in_block b) (map written_of (class_commands place row classes)))) × (length
    (numbers (map (in_block b) (map written_of (class_commands place row classes)))) ≡ length classes)
classes-count b place row classes form numbered =
    let same : map written_of (class_commands place row classes) ≡ map written_of
    (map (λ (e : ℕ × Class). packet_command forms.Block row.name (if true then Some (10 * e.0) else None) (opposite_packet_entry row.entries e.1)) (enumerate_from 1 classes)) =
    λ i. map written_of (map (λ (e : ℕ × Class). packet_command (form i) row.name (if numbered i then Some (10 * e.0) else None) (opposite_packet_entry row.entries e.1)) (enumerate_from 1 classes)) in
    subst (λ (ws : List Written). Counts 10 1 (numbers (map (in_block b) ws)) × (length (numbers (map (in_block b) ws)) ≡ length classes)) (sym same) (packets-count b 1 row classes)

-- and those of route lists
pub prefixes-count : (b k : ℕ) (place : ListPlace) (row : RouteList) (prefixes : List Prefix) → place.numbered ≡ true →
    Counts 5 k (numbers (map (in_block b) (map written_of (map (prefix_command place row) (enumerate_from k prefixes))))) × (length
    (numbers (map (in_block b) (map written_of (map (prefix_command place row) (enumerate_from k prefixes))))) ≡ length prefixes)
prefixes-count b k place row [] numbered = (tt, refl)
prefixes-count b k place row (p ∷ prefixes) numbered =
    let (all, long) = prefixes-count b (k + 1) place row prefixes numbered in ((ap (λ (o : Bool). if o then Some (5 * k) else None) numbered, all), ap suc long)
