-- The commands of new lists set these lists, and nothing else.
use Rattle.std.proofs.Common.{◌≡◌, ◌≢◌, ℕ, ◌+◌, ◌*◌, ◌<◌, not, true, false, None, List, [], ◌∷◌, ◌++◌, length, map, refl, sym, ap, subst, ◌∙◌, arith, append-nil, Contains, ⊎_elim}
use Rattle.std.specs.List.{AllByRecursion, enumerate_from, flat_map}
use Rattle.std.proofs.lemmas.Bool.{ne_eqb, cond-true, cond-false, cases_Bool}
use Rattle.std.proofs.lemmas.List.{map-append}
use Rattle.std.proofs.lemmas.List.Concat.{flat_map-append}
use Rattle.std.proofs.lemmas.List.Elements.{filter-append}
use Rattle.std.proofs.lemmas.List.Elements as elements
use Rattle.arc_base.proofs.Items.{Contains-cases, Contains-none}
use Rattle.arc_base.proofs.SamePrefix.{same_prefix}
use Rattle.arc_base.specs.declared.prefix.Prefix.{Prefix}
use Rattle.net_model.specs.declared.policies.Class.{Class}
use Rattle.ios_words.specs.Prefixes.{whole, holding}
use Rattle.ios_words.specs.declared.commands.Command.{Command}
use Rattle.ios_words.specs.declared.commands.Command.TheVariants as commands
use Rattle.ios_config.specs.declared.commands.FileCommand.{FileCommand}
use Rattle.ios_config.specs.declared.settings.Given.{Given}
use Rattle.ios_config.specs.declared.settings.ListForm.TheVariants as forms
use Rattle.ios_config.specs.declared.settings.ListKind.TheVariants as list_kinds
use Rattle.ios_config.specs.Bare.{bare}
use Rattle.ios_config.specs.Groups.{Part, Block, PrefixLines, is_same, part_of, distinct, members}
use Rattle.ios_config.specs.Texts.{face_of, list_of, process_of, entries}
use Rattle.ios_config.proofs.JoinedParts.{is-self, other-way}
use Rattle.ios_config.proofs.PartLists.{others, is_same-Decides}
use Rattle.edit_list.specs.After.{any, exact_entry, class_entry, new_route_entries, new_packet_entries}
use Rattle.edit_list.specs.Changes.{new_prefixes, new_classes}
use Rattle.edit_list.specs.declared.edit_kinds.Edit.{Edit}
use Rattle.edit_list.specs.declared.list_kinds.NewList.{NewList}
use Rattle.edit_list.specs.declared.list_kinds.NewList.TheVariants.{Route, Packet}
use Rattle.line_patcher.specs.EntryLines.{packet_command}
use Rattle.settings_edit_laws.specs.Additions.{route_line}
use Rattle.settings_edit_laws.specs.Plain.{said, plain_entry, plain_list}
use Rattle.settings_edit_laws.specs.SettingsAfter.{new_list_text}
use Rattle.line_edit_laws.specs.Sites.{Written, Single, chunk_commands, in_block}
use Rattle.line_edit_laws.proofs.Grown.{front-fresh}
use Rattle.patch_laws.specs.Grown.{new_groups}
use Rattle.line_patcher.specs.NewListLines.{deny_prefix, new_entries, new_route_commands, permit_all}
use Rattle.patch_laws.specs.NewListSites.{new_chunks, list_chunks, AreDifferent}
use Rattle.patch_laws.specs.Written.{written_of}
use Rattle.patch_laws.specs.Laws.{NewListsSetThemselves}

-- commands of one part
pub record IsSegment (p : Part) (seg : List FileCommand) : Type 0 where
  pub own : AllByRecursion (λ (v : FileCommand). part_of v ≡ p) seg
  pub some : seg ≢ []

abbrev pub Seg : Type 0
Seg = Part × List FileCommand

abbrev pub AreSegments : List Seg → Type 0
AreSegments [] = Unit {0}
AreSegments (s ∷ ss) = IsSegment s.0 s.1 × (AllByRecursion (λ (t : Seg). is_same s.0 t.0 ≡ false) ss) × AreSegments ss

abbrev pub together : List Seg → List FileCommand
together ss = flat_map (λ (s : Seg). s.1) ss

-- their part counts once
one-part : (p : Part) (seg : List FileCommand) → AllByRecursion (λ (v : FileCommand). part_of v ≡ p) seg → seg ≢ [] → distinct (map part_of seg) ≡ p ∷ []
one-part p [] own some = absurd (some refl)
one-part p (v ∷ []) own some = ap (λ (q : Part). q ∷ []) own.0
one-part p (v ∷ w ∷ seg) own some =
    let rest = one-part p (w ∷ seg) own.1 (λ none. absurd (filled w seg none)) in
    ap (λ r. part_of v ∷ others (part_of v) r) rest ∙ (ap (λ (q : Part). q ∷ others q (p ∷ [])) own.0 ∙ ap (λ r. p ∷ r) (cond-false (not (is_same p p)) (p ∷ []) [] (ap not (is-self p))))
  where
    filled : (x : FileCommand) (xs : List FileCommand) → x ∷ xs ≡ [] → ⊥
    filled x xs e = absurd cc

parts-in : (p : Part) (seg : List FileCommand) → AllByRecursion (λ (v : FileCommand). part_of v ≡ p) seg → (q : Part) → Contains (map part_of seg) q → q ≡ p
parts-in p [] own q there = absurd (Contains-none q there)
parts-in p (v ∷ seg) own q there = ⊎_elim (λ (here : part_of v ≡ q). sym here ∙ own.0) (λ later. parts-in p seg own.1 q later) (Contains-cases (part_of v) q (map part_of seg) there)

parts-together : (p : Part) (ss : List Seg) → AreSegments ss → AllByRecursion (λ (t : Seg). is_same p t.0 ≡ false) ss → (q : Part) → Contains (map part_of (together ss)) q → is_same p q ≡ false
parts-together p [] are fresh q there = absurd (Contains-none q there)
parts-together p (s ∷ ss) are fresh q there = ⊎_elim
    (λ early. ap (is_same p) (parts-in s.0 s.1 are.0.own q early) ∙ fresh.0)
    (λ late. parts-together p ss are.2 fresh.1 q late)
    (elements.Contains-append_cases (map part_of s.1) (map part_of (together ss)) q (subst (λ (l : List Part). Contains l q) (map-append part_of s.1 (together ss)) there))

pub segment-parts : (ss : List Seg) → AreSegments ss → distinct (map part_of (together ss)) ≡ map (λ (s : Seg). s.0) ss
segment-parts [] are = refl
segment-parts (s ∷ ss) are =
    ap distinct (map-append part_of s.1 (together ss)) ∙
    front-fresh (map part_of s.1) (map part_of (together ss)) (λ t q there in_rest. ap (λ (r : Part). is_same r q) (parts-in s.0 s.1 are.0.own t there) ∙ parts-together s.0 ss are.2 are.1 q in_rest) ∙
    (let one = one-part s.0 s.1 are.0.own are.0.some in let rest = segment-parts ss are.2 in λ i. one i ++ rest i)

all-mine : (p : Part) (seg : List FileCommand) → AllByRecursion (λ (v : FileCommand). part_of v ≡ p) seg → members seg p ≡ seg
all-mine p [] own = refl
all-mine p (v ∷ seg) own = cond-true (is_same p (part_of v)) (v ∷ members seg p) (members seg p) (ap (is_same p) own.0 ∙ is-self p) ∙ ap (λ r. v ∷ r) (all-mine p seg own.1)

none-mine : (p q : Part) (seg : List FileCommand) → AllByRecursion (λ (v : FileCommand). part_of v ≡ p) seg → is_same q p ≡ false → members seg q ≡ []
none-mine p q [] own apart = refl
none-mine p q (v ∷ seg) own apart = cond-false (is_same q (part_of v)) (v ∷ members seg q) (members seg q) (ap (is_same q) own.0 ∙ apart) ∙ none-mine p q seg own.1 apart

none-together : (p : Part) (ss : List Seg) → AreSegments ss → AllByRecursion (λ (t : Seg). is_same p t.0 ≡ false) ss → members (together ss) p ≡ []
none-together p [] are fresh = refl
none-together p (s ∷ ss) are fresh =
    filter-append (λ d. is_same p (part_of d)) s.1 (together ss) ∙ (let one = none-mine s.0 p s.1 are.0.own fresh.0 in let rest = none-together p ss are.2 fresh.1 in λ i. one i ++ rest i)

later-members : (s : Seg) (rest : List FileCommand) → IsSegment s.0 s.1 → (ts : List Seg) → AllByRecursion (λ (t : Seg). is_same s.0 t.0 ≡ false) ts →
    map (members (s.1 ++ rest)) (map (λ (t : Seg). t.0) ts) ≡ map (members rest) (map (λ (t : Seg). t.0) ts)
later-members s rest is [] fresh = refl
later-members s rest is (t ∷ ts) fresh =
    (let one = filter-append (λ d. is_same t.0 (part_of d)) s.1 rest ∙ ap (λ r. r ++ members rest t.0) (none-mine s.0 t.0 s.1 is.own (other-way t.0 s.0 fresh.0)) in
    let more = later-members s rest is ts fresh.1 in λ i. one i ∷ more i)

pub segment-members : (ss : List Seg) → AreSegments ss → map (members (together ss)) (map (λ (s : Seg). s.0) ss) ≡ map (λ (s : Seg). s.1) ss
segment-members [] are = refl
segment-members (s ∷ ss) are =
    (let one = filter-append (λ d. is_same s.0 (part_of d)) s.1 (together ss)
    ∙ (let mine = all-mine s.0 s.1 are.0.own in let none = none-together s.0 ss are.2 are.1 in λ i. mine i ++ none i) ∙ append-nil s.1 in
    let rest = later-members s (together ss) are.0 ss are.1 ∙ segment-members ss are.2 in λ i. one i ∷ rest i)

segment-groups : (ss : List Seg) → AreSegments ss → new_groups (together ss) ≡ map (map bare) (map (λ (s : Seg). s.1) ss)
segment-groups ss are = ap (λ ps. map (map bare) (map (members (together ss)) ps)) (segment-parts ss are) ∙ ap (map (map bare)) (segment-members ss are)

-- the segments of new lists
abbrev pub part_for : ℕ → NewList → List ℕ → Part
part_for key (Route face) name = PrefixLines name
part_for key (Packet face) name = Block key

abbrev seg_for : List Edit → ℕ → NewList × List ℕ → Seg
seg_for chosen key n = (part_for key n.0 n.1, flat_map chunk_commands (new_chunks chosen key n.0 n.1))

abbrev pub segs : List Edit → ℕ → List (NewList × List ℕ) → List Seg
segs chosen key [] = []
segs chosen key (n ∷ ns) = seg_for chosen key n ∷ segs chosen (key + 1) ns

pub segs-together : (chosen : List Edit) (key : ℕ) (ns : List (NewList × List ℕ)) → flat_map chunk_commands (list_chunks chosen key ns) ≡ together (segs chosen key ns)
segs-together chosen key [] = refl
segs-together chosen key (n ∷ ns) =
    flat_map-append chunk_commands (new_chunks chosen key n.0 n.1) (list_chunks chosen (key + 1) ns)
    ∙ ap (λ r. flat_map chunk_commands (new_chunks chosen key n.0 n.1) ++ r) (segs-together chosen (key + 1) ns)

pub single-commands : (ws : List Written) → flat_map chunk_commands (map Single ws) ≡ map (in_block 0) ws
single-commands [] = refl
single-commands (w ∷ ws) = ap (λ cs. in_block 0 w ∷ cs) (single-commands ws)

-- a new route list
abbrev route_commands : List ℕ → List (ℕ × Prefix) → ℕ → List FileCommand
route_commands name es last = map (in_block 0) (map written_of (map (deny_prefix name) es ++ permit_all name last ∷ []))

route-own : (name : List ℕ) (es : List (ℕ × Prefix)) (last : ℕ) → AllByRecursion (λ (v : FileCommand). part_of v ≡ PrefixLines name) (route_commands name es last)
route-own name [] last = (refl, tt)
route-own name (e ∷ es) last = (refl, route-own name es last)

any-whole : whole ≡ any
unfolding holding
any-whole = same_prefix whole any refl refl

route-entries : (name : List ℕ) (k : ℕ) (prefixes : List Prefix) (last : ℕ) →
    map plain_entry (entries (map bare (route_commands name (enumerate_from k prefixes) last))) ≡ map said (map (route_line name) (new_route_entries prefixes))
route-entries name k [] last = ap (λ (p : Prefix). said (commands.PrefixLine name None (record { permit = true; prefix = p; low = 0; high = 32 })) ∷ []) any-whole
route-entries name k (p ∷ prefixes) last = ap (λ r. said (route_line name (exact_entry false p)) ∷ r) (route-entries name (k + 1) prefixes last)

route-list : (name : List ℕ) (k : ℕ) (prefixes : List Prefix) (last : ℕ) → map plain_list (list_of (map bare (route_commands name (enumerate_from k prefixes) last))) ≡
    record { name = name; kind = list_kinds.Prefix; form = forms.PrefixLines; numbered = false; entries = map said (map (route_line name) (new_route_entries prefixes)) } ∷ []
route-list name k [] last = ap (λ (es : List (Given Command)). record { name = name; kind = list_kinds.Prefix; form = forms.PrefixLines; numbered = false; entries = es } ∷ [])
    (route-entries name k [] last)
route-list name k (p ∷ prefixes) last =
    ap (λ (es : List (Given Command)). record { name = name; kind = list_kinds.Prefix; form = forms.PrefixLines; numbered = false; entries = es } ∷ []) (route-entries name k (p ∷ prefixes) last)

route-none : (name : List ℕ) (k : ℕ) (prefixes : List Prefix) (last : ℕ) →
    (face_of (map bare (route_commands name (enumerate_from k prefixes) last)) ≡ []) × (process_of (map bare (route_commands name (enumerate_from k prefixes) last)) ≡ [])
route-none name k [] last = (refl, refl)
route-none name k (p ∷ prefixes) last = (refl, refl)

-- a new packet list
packet-own : (key : ℕ) (classes : List Class) → AllByRecursion (λ (v : FileCommand). part_of v ≡ Block key) (map (in_block key) (map written_of (new_entries classes)))
packet-own key [] = (refl, tt)
packet-own key (c ∷ classes) = (refl, packet-own key classes)

packet-entries : (name : List ℕ) (key : ℕ) (classes : List Class) →
    map plain_entry (entries (map bare (map (in_block key) (map written_of (new_entries classes))))) ≡ map said (map (packet_command forms.Block name None) (new_packet_entries classes))
packet-entries name key [] = refl
packet-entries name key (c ∷ classes) = ap (λ r. said (packet_command forms.Block name None (class_entry false c)) ∷ r) (packet-entries name key classes)

pub segment-of : (chosen : List Edit) (key : ℕ) (list : NewList) (name : List ℕ) → IsSegment (part_for key list name) (flat_map chunk_commands (new_chunks chosen key list name))
segment-of chosen key (Route face) name =
    let ps = new_prefixes chosen face.0 in
    let last = 5 * (length ps + 1) in
    let is = single-commands (map written_of (new_route_commands name ps)) in
    record {
      own = subst (AllByRecursion (λ (v : FileCommand). part_of v ≡ PrefixLines name)) (sym is) (route-own name (enumerate_from 1 ps) last);
      some = λ none. filled (enumerate_from 1 ps) (sym is ∙ none);
    }
  where
    filled : (es : List (ℕ × Prefix)) → route_commands name es (5 * (length (new_prefixes chosen face.0) + 1)) ≡ [] → ⊥
    filled [] e = absurd cc
    filled (x ∷ es) e = absurd cc
segment-of chosen key (Packet face) name =
    let cs = map (in_block key) (map written_of (new_entries (new_classes chosen face.0))) in
    let is = append-nil (in_block key (written_of (commands.ListBlock true name)) ∷ cs) in
    record {
      own = subst (AllByRecursion (λ (v : FileCommand). part_of v ≡ Block key)) (sym is) (refl, packet-own key (new_classes chosen face.0));
      some = λ none. absurd (filled none);
    }
  where
    filled : in_block key (written_of (commands.ListBlock true name)) ∷ (map (in_block key) (map written_of (new_entries (new_classes chosen face.0))) ++ []) ≡ [] → ⊥
    filled e = absurd cc

-- what each sets
one-list : (chosen : List Edit) (key : ℕ) (list : NewList) (name : List ℕ) →
    map plain_list (list_of (map bare (flat_map chunk_commands (new_chunks chosen key list name)))) ≡ new_list_text chosen name list ∷ []
one-list chosen key (Route face) name =
    ap (λ cs. map plain_list (list_of (map bare cs))) (single-commands (map written_of (new_route_commands name (new_prefixes chosen face.0))))
    ∙ route-list name 1 (new_prefixes chosen face.0) (5 * (length (new_prefixes chosen face.0) + 1))
one-list chosen key (Packet face) name =
    ap (λ cs. map plain_list (list_of (map bare cs)))
    (append-nil (in_block key (written_of (commands.ListBlock true name)) ∷ map (in_block key) (map written_of (new_entries (new_classes chosen face.0))))) ∙
    ap (λ (es : List (Given Command)). record { name = name; kind = list_kinds.Extended; form = forms.Block; numbered = false; entries = es } ∷ [])
    (packet-entries name key (new_classes chosen face.0))

one-none : (chosen : List Edit) (key : ℕ) (list : NewList) (name : List ℕ) →
    (face_of (map bare (flat_map chunk_commands (new_chunks chosen key list name))) ≡ []) × (process_of (map bare (flat_map chunk_commands (new_chunks chosen key list name))) ≡ [])
one-none chosen key (Route face) name =
    let ps = new_prefixes chosen face.0 in
    let both = route-none name 1 ps (5 * (length ps + 1)) in
    let is = single-commands (map written_of (new_route_commands name ps)) in
    (ap (λ cs. face_of (map bare cs)) is ∙ both.0, ap (λ cs. process_of (map bare cs)) is ∙ both.1)
one-none chosen key (Packet face) name = (refl, refl)

lists-set : (chosen : List Edit) (key : ℕ) (ns : List (NewList × List ℕ)) →
    map plain_list (flat_map list_of (map (map bare) (map (λ (s : Seg). s.1) (segs chosen key ns)))) ≡ map (λ (n : NewList × List ℕ). new_list_text chosen n.1 n.0) ns
lists-set chosen key [] = refl
lists-set chosen key (n ∷ ns) =
    map-append plain_list (list_of (map bare (flat_map chunk_commands (new_chunks chosen key n.0 n.1)))) (flat_map list_of (map (map bare) (map (λ (s : Seg). s.1) (segs chosen (key + 1) ns)))) ∙
    (let one = one-list chosen key n.0 n.1 in let rest = lists-set chosen (key + 1) ns in λ i. one i ++ rest i)

none-set : (chosen : List Edit) (key : ℕ) (ns : List (NewList × List ℕ)) →
    (flat_map face_of (map (map bare) (map (λ (s : Seg). s.1) (segs chosen key ns))) ≡ []) × (flat_map process_of (map (map bare) (map (λ (s : Seg). s.1) (segs chosen key ns))) ≡ [])
none-set chosen key [] = (refl, refl)
none-set chosen key (n ∷ ns) =
    let one = one-none chosen key n.0 n.1 in
    let rest = none-set chosen (key + 1) ns in
    ((let f = one.0 in let r = rest.0 in λ i. f i ++ r i), (let p = one.1 in let r = rest.1 in λ i. p i ++ r i))

-- different lists are of different parts
part-other : (key j : ℕ) (x y : NewList) (a b : List ℕ) → a ≢ b → key ≢ j → is_same (part_for key x a) (part_for j y b) ≡ false
part-other key j (Route f) (Route g) a b names keys = ⊎_elim
    (λ (same : is_same (PrefixLines a) (PrefixLines b) ≡ true). absurd (names (ap name-of ((is_same-Decides (PrefixLines a) (PrefixLines b)).0 same))))
    (λ (other : is_same (PrefixLines a) (PrefixLines b) ≡ false). other)
    (cases_Bool (is_same (PrefixLines a) (PrefixLines b)))
  where
    name-of : Part → List ℕ
    name-of (PrefixLines n) = n
    name-of _ = []
part-other key j (Route f) (Packet g) a b names keys = refl
part-other key j (Packet f) (Route g) a b names keys = refl
part-other key j (Packet f) (Packet g) a b names keys = ne_eqb key j keys

segs-fresh : (chosen : List Edit) (key j : ℕ) (n : NewList × List ℕ) (ns : List (NewList × List ℕ)) → key < j → AllByRecursion (λ (m : NewList × List ℕ). n.1 ≢ m.1) ns →
    AllByRecursion (λ (t : Seg). is_same (part_for key n.0 n.1) t.0 ≡ false) (segs chosen j ns)
segs-fresh chosen key j n [] low all = tt
segs-fresh chosen key j n (m ∷ ns) low all = (part-other key j n.0 m.0 n.1 m.1 all.0 (λ same. omega arith), segs-fresh chosen key (j + 1) n ns (omega arith) all.1)

pub are-segs : (chosen : List Edit) (key : ℕ) (ns : List (NewList × List ℕ)) → AreDifferent ns → AreSegments (segs chosen key ns)
are-segs chosen key [] all = tt
are-segs chosen key (n ∷ ns) all = (segment-of chosen key n.0 n.1, segs-fresh chosen key (key + 1) n ns (omega arith) all.0, are-segs chosen (key + 1) ns all.1)

pub new-lists-set : NewListsSetThemselves
new-lists-set chosen key ns all =
    let groups_are : new_groups (flat_map chunk_commands (list_chunks chosen key ns)) ≡ map (map bare) (map (λ (s : Seg). s.1) (segs chosen key ns)) =
    ap new_groups (segs-together chosen key ns) ∙ segment-groups (segs chosen key ns) (are-segs chosen key ns all) in
    let none = none-set chosen key ns in
    record {
      lists = ap (λ gs. map plain_list (flat_map list_of gs)) groups_are ∙ lists-set chosen key ns;
      faces = ap (flat_map face_of) groups_are ∙ none.0;
      process = ap (flat_map process_of) groups_are ∙ none.1;
    }
