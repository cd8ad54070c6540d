-- The numbers of all entries rise where those of each group do that stood in the file: new lists are numbered by their places.
use Rattle.std.proofs.Common.{◌≡◌, ℕ, zero, suc, ◌+◌, ◌*◌, true, Option, Some, List, [], ◌∷◌, ◌++◌, length, map, refl, sym, ap, subst, ◌∙◌, arith, ⊎_elim, Contains, append-nil}
use Rattle.std.specs.Prelude.{slice_get}
use Rattle.std.specs.List.{enumerate_from, flat_map}
use Rattle.std.proofs.lemmas.Bool.{lt-ltb, true≢false}
use Rattle.std.proofs.lemmas.Option.{none-some, same_Some}
use Rattle.std.proofs.lemmas.List.Elements.{Contains-append_cases, Contains-append_left, Contains-append_right}
use Rattle.arc_base.specs.declared.prefix.Prefix.{Prefix}
use Rattle.arc_base.proofs.Items.{Contains-cases, Contains-none, from_map, from_piece}
use Rattle.net_model.specs.declared.policies.Class.{Class}
use Rattle.ios_words.specs.declared.commands.Command.{Command}
use Rattle.ios_words.specs.declared.commands.Command.TheVariants as commands
use Rattle.ios_config.specs.declared.commands.FileCommand.{FileCommand}
use Rattle.ios_config.specs.declared.settings.Given.{Given}
use Rattle.ios_config.specs.declared.settings.ListText.{ListText}
use Rattle.ios_config.specs.Groups.{Part, part_of, members, distinct, groups}
use Rattle.ios_config.specs.Rising.{FallsAt, NumbersRise, rises}
use Rattle.ios_config.specs.Texts.{config_of, entries, entry_number, list_of}
use Rattle.edit_list.specs.declared.edit_kinds.Edit.{Edit}
use Rattle.edit_list.specs.declared.list_kinds.NewList.{NewList}
use Rattle.edit_list.specs.declared.list_kinds.NewList.TheVariants.{Route, Packet}
use Rattle.edit_list.specs.Changes.{new_prefixes, new_classes}
use Rattle.settings_edit_laws.proofs.Pairs.{of_any}
use Rattle.line_edit_laws.specs.Grown.{HasGrownGroups}
use Rattle.line_edit_laws.specs.Sites.{chunk_commands, in_block}
use Rattle.line_patcher.specs.NewListLines.{deny_prefix, new_entries, new_route_commands, permit_all}
use Rattle.patch_laws.specs.NewListSites.{AreDifferent, list_chunks, new_chunks}
use Rattle.patch_laws.specs.Written.{written_of}
use Rattle.patch_laws.proofs.EditLists.{list-entries-are}
use Rattle.patch_laws.proofs.NewListGroups.{Seg, are-segs, segment-members, segment-parts, segs, segs-together, single-commands, together}

-- each number may follow the one before it
abbrev pub Rises : List (Option ℕ) → Type 0
Rises [] = Unit {0}
Rises (x ∷ []) = Unit {0}
Rises (x ∷ y ∷ more) = (rises x y ≡ true) × Rises (y ∷ more)

abbrev pub numbers_of : List (Given Command) → List (Option ℕ)
numbers_of es = map (λ g. entry_number g.value) es

rises-at : (es : List (Given Command)) (place : ℕ) (g h : Given Command) → Rises (numbers_of es) → slice_get es place ≡ Some g → slice_get es (suc place) ≡ Some h →
    rises (entry_number g.value) (entry_number h.value) ≡ true
rises-at [] place g h all one two = absurd (none-some g one)
rises-at (x ∷ []) zero g h all one two = absurd (none-some h two)
rises-at (x ∷ []) (suc place) g h all one two = absurd (none-some g one)
rises-at (x ∷ y ∷ es) zero g h all one two =
    (let first = same_Some x g one in let second = same_Some y h two in λ i. rises (entry_number (sym first i).value) (entry_number (sym second i).value)) ∙ all.0
rises-at (x ∷ y ∷ es) (suc place) g h all one two = rises-at (y ∷ es) place g h all.1 one two

pub no-fall : (es : List (Given Command)) → Rises (numbers_of es) → (line : ℕ) → ¬ FallsAt es line
no-fall es all line falls =
    let step : suc falls.place ≡ falls.place + 1 = omega arith in
    true≢false (sym (rises-at es falls.place falls.earlier falls.later all falls.at_place (ap (slice_get es) step ∙ falls.at_next)) ∙ falls.falls)

-- the entries of a new route list
routes-rise : (name : List ℕ) (k : ℕ) (prefixes : List Prefix) (last : ℕ) → last ≡ 5 * (k + length prefixes) →
    Rises (numbers_of (entries (map (in_block 0) (map written_of (map (deny_prefix name) (enumerate_from k prefixes) ++ permit_all name last ∷ [])))))
routes-rise name k [] last is = tt
routes-rise name k (p ∷ []) last is = (lt-ltb (5 * k) last (omega arith), tt)
routes-rise name k (p ∷ q ∷ prefixes) last is = (lt-ltb (5 * k) (5 * (k + 1)) (omega arith), routes-rise name (k + 1) (q ∷ prefixes) last (is ∙ omega arith))

-- and of a new packet list
packets-rise : (key : ℕ) (classes : List Class) → Rises (numbers_of (entries (map (in_block key) (map written_of (new_entries classes)))))
packets-rise key [] = tt
packets-rise key (c ∷ []) = (refl, tt)
packets-rise key (c ∷ d ∷ classes) = (refl, packets-rise key (d ∷ classes))

new-rise : (chosen : List Edit) (key : ℕ) (list : NewList) (name : List ℕ) → Rises (numbers_of (entries (flat_map chunk_commands (new_chunks chosen key list name))))
new-rise chosen key (Route face) name =
    subst (λ (vs : List FileCommand). Rises (numbers_of (entries vs))) (sym (single-commands (map written_of (new_route_commands name (new_prefixes chosen face.0)))))
    (routes-rise name 1 (new_prefixes chosen face.0) (5 * (length (new_prefixes chosen face.0) + 1)) (omega arith))
new-rise chosen key (Packet face) name =
    let block : List FileCommand = in_block key (written_of (commands.ListBlock true name)) ∷ map (in_block key) (map written_of (new_entries (new_classes chosen face.0))) in
    subst (λ (vs : List FileCommand). Rises (numbers_of (entries vs))) {x = block} (sym (append-nil block)) (packets-rise key (new_classes chosen face.0))

segs-rise : (chosen : List Edit) (key : ℕ) (ns : List (NewList × List ℕ)) (seg : List FileCommand) → Contains (map (λ (s : Seg). s.1) (segs chosen key ns)) seg → Rises (numbers_of (entries seg))
segs-rise chosen key [] seg there = absurd (Contains-none seg there)
segs-rise chosen key (n ∷ ns) seg there = ⊎_elim
    (λ here. subst (λ (vs : List FileCommand). Rises (numbers_of (entries vs))) here (new-rise chosen key n.0 n.1))
    (λ later. segs-rise chosen (key + 1) ns seg later)
    (Contains-cases (flat_map chunk_commands (new_chunks chosen key n.0 n.1)) seg (map (λ (s : Seg). s.1) (segs chosen (key + 1) ns)) there)

-- the groups of new lists
added-rise : (chosen : List Edit) (key : ℕ) (ns : List (NewList × List ℕ)) → AreDifferent ns → (added : List FileCommand) → added ≡ flat_map chunk_commands (list_chunks chosen key ns) →
    (group : List FileCommand) →
    Contains (map (members added) (distinct (map part_of added))) group → Rises (numbers_of (entries group))
added-rise chosen key ns apart added is group there =
    let ss = segs chosen key ns in
    let all = are-segs chosen key ns apart in
    let whole : added ≡ together ss = is ∙ segs-together chosen key ns in
    let groups_are : map (members added) (distinct (map part_of added)) ≡ map (λ (s : Seg). s.1) ss =
    ap (λ (vs : List FileCommand). map (members vs) (distinct (map part_of vs))) whole ∙ ap (map (members (together ss))) (segment-parts ss all) ∙ segment-members ss all in
    segs-rise chosen key ns group (subst (λ (gs : List (List FileCommand)). Contains gs group) groups_are there)

-- all numbers rise where those of the old groups do
pub all-rise : (chosen : List Edit) (key : ℕ) (ns : List (NewList × List ℕ)) → AreDifferent ns → (grow : FileCommand → List FileCommand) (front back added all : List FileCommand) →
    added ≡ flat_map chunk_commands (list_chunks chosen key ns) →
    HasGrownGroups grow front back added → all ≡ flat_map grow front ++ (added ++ flat_map grow back) →
    ((q : Part) → Contains (distinct (map part_of (front ++ back))) q → (list : ListText) → Contains (list_of (flat_map grow (members (front ++ back) q))) list →
    Rises (numbers_of list.entries)) → NumbersRise (config_of all).lists
all-rise chosen key ns apart grow front back added all is g whole old line falls =
    let (list, in_lists, f) = of_any (λ (l : ListText). FallsAt l.entries line) (config_of all).lists falls in
    let (group, in_groups, in_list) = from_piece list_of (groups all) list in_lists in
    let three = subst (λ (gs : List (List FileCommand)). Contains gs group) (ap groups whole ∙ g.new) in_groups in
    no-fall list.entries (rising list group three in_list) line f
  where
    grown : Part → List FileCommand
    grown q = flat_map grow (members (front ++ back) q)

    of-old : (list : ListText) (ps : List Part) → ((q : Part) → Contains ps q → Contains (distinct (map part_of (front ++ back))) q) → (group : List FileCommand) →
        Contains (list_of group) list → Contains (map grown ps) group → Rises (numbers_of list.entries)
    of-old list ps among group in_list there = let (q, has, same) =
        from_map grown ps group there in old q (among q has) list (subst (λ (vs : List FileCommand). Contains (list_of vs) list) (sym same) in_list)

    of-new : (list : ListText) (group : List FileCommand) → Contains (list_of group) list → Contains (map (members added) (distinct (map part_of added))) group → Rises (numbers_of list.entries)
    of-new list group in_list there = subst (λ (es : List (Given Command)). Rises (numbers_of es)) (sym (list-entries-are group list in_list)) (added-rise chosen key ns apart added is group there)

    rising : (list : ListText) (group : List FileCommand) → Contains (map grown g.before ++ (map (members added) (distinct (map part_of added)) ++ map grown g.after)) group →
        Contains (list_of group) list → Rises (numbers_of list.entries)
    rising list group there in_list = ⊎_elim
        (of-old list g.before (λ q has. subst (λ (l : List Part). Contains l q) (sym g.old) (Contains-append_left g.before g.after q has)) group in_list)
        (λ later. ⊎_elim
        (of-new list group in_list)
        (of-old list g.after (λ q has. subst (λ (l : List Part). Contains l q) (sym g.old) (Contains-append_right g.before g.after q has)) group in_list)
        (Contains-append_cases (map (members added) (distinct (map part_of added))) (map grown g.after) group later))
        (Contains-append_cases (map grown g.before) (map (members added) (distinct (map part_of added)) ++ map grown g.after) group there)
