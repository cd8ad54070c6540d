-- What the commands of a generated file set.
use Rattle.std.proofs.Common.{◌≡◌, ℕ, ◌+◌, ◌*◌, ◌<◌, ◌≤◌, not, Bool, true, false, cond, Some, None, List, [], ◌∷◌, ◌++◌, length, map, filter, refl, sym, ap, ◌∙◌, arith, append-nil, append_assoc}
use Rattle.std.specs.Prelude.{option_map}
use Rattle.std.specs.List.{AllByRecursion, flat_map}
use Rattle.std.proofs.lemmas.Bool.{eq-eqb, ne_eqb, cond-true, cond-false, not_from_false}
use Rattle.std.proofs.lemmas.List.Elements.{filter-append}
use Rattle.ios_words.specs.declared.commands.Command.TheVariants as commands
use Rattle.ios_words.specs.Prefixes.{whole}
use Rattle.ios_config.specs.declared.commands.FileCommand.{FileCommand}
use Rattle.ios_config.specs.declared.settings.Config.{Config}
use Rattle.ios_config.specs.declared.settings.FaceText.{FaceText}
use Rattle.ios_config.specs.declared.settings.Given.{Given}
use Rattle.ios_config.specs.declared.settings.ProcessKind.TheVariants.{Ospf}
use Rattle.ios_config.specs.declared.settings.ProcessText.{ProcessText}
use Rattle.ios_config.specs.Groups.{Part, Block, is_same, part_of, distinct, members, groups}
use Rattle.ios_config.specs.Inserted.{command_at}
use Rattle.ios_config.specs.Texts.{face_of, list_of, process_of, config_of}
use Rattle.ios_config.specs.Updates.{replaced}
use Rattle.ios_config.specs.Values.{Says, last_setting, hostname}
use Rattle.ios_config.proofs.JoinedParts.{distinct-next}
use Rattle.ios_config.proofs.Values.{last_setting-more}
use Rattle.net_gen.specs.Plans.{port}
use Rattle.net_gen.specs.RouterFiles.{host_name, face_name, address}
use Rattle.generated_network_laws.proofs.Files.{end_of, link_face_commands, link_commands, process_commands, end_commands, last_commands, name_command, host_commands, file_commands}
use Rattle.generated_network_laws.proofs.AddedLines.{all-weaker}

-- the part is the block of a later head than this
abbrev pub IsLaterPart : ℕ → Part → Type 0
IsLaterPart b part = (h : ℕ) × (part ≡ Block h) × (b < h)

abbrev pub IsLater : ℕ → FileCommand → Type 0
IsLater b c = IsLaterPart b (part_of c)

all-map : {X Y : Type 0} (P : Y → Type 0) (f : X → Y) (xs : List X) → AllByRecursion (λ x. P (f x)) xs → AllByRecursion P (map f xs)
all-map P f [] all = tt
all-map P f (x ∷ xs) all = (all.0, all-map P f xs all.1)

all-filter : {X : Type 0} (P : X → Type 0) (test : X → Bool) (xs : List X) → AllByRecursion P xs → AllByRecursion P (filter test xs)
all-filter P test [] all = tt
all-filter {X} P test (x ∷ xs) all = by (test x) (all-filter P test xs all.1)
  where
    by : (b : Bool) → AllByRecursion P (filter test xs) → AllByRecursion P (cond b (x ∷ filter test xs) (filter test xs))
    by true rest = (all.0, rest)
    by false rest = rest

filter-all : {X : Type 0} (test : X → Bool) (xs : List X) → AllByRecursion (λ x. test x ≡ true) xs → filter test xs ≡ xs
filter-all test [] all = refl
filter-all test (x ∷ xs) all = cond-true (test x) (x ∷ filter test xs) (filter test xs) all.0 ∙ ap (λ l. x ∷ l) (filter-all test xs all.1)

filter-none : {X : Type 0} (test : X → Bool) (xs : List X) → AllByRecursion (λ x. test x ≡ false) xs → filter test xs ≡ []
filter-none test [] all = refl
filter-none test (x ∷ xs) all = cond-false (test x) (x ∷ filter test xs) (filter test xs) all.0 ∙ filter-none test xs all.1

all-distinct : (P : Part → Type 0) (ps : List Part) → AllByRecursion P ps → AllByRecursion P (distinct ps)
all-distinct P [] all = tt
all-distinct P (p ∷ ps) all = (all.0, all-filter P (λ q. not (is_same p q)) (distinct ps) (all-distinct P ps all.1))

other-part : (b : ℕ) (part : Part) → IsLaterPart b part → is_same (Block b) part ≡ false
other-part b part (h, is, low) = ap (is_same (Block b)) is ∙ ne_eqb b h (omega arith)

other-way : (b : ℕ) (part own : Part) → own ≡ Block b → IsLaterPart b part → is_same part own ≡ false
other-way b part own mine (h, is, low) = ap (is_same part) mine ∙ ap (λ q. is_same q (Block b)) is ∙ ne_eqb h b (omega arith)

-- the parts of later blocks stay, and come after this one
first-part : (b : ℕ) (rest : List FileCommand) → AllByRecursion (IsLater b) rest → distinct (Block b ∷ map part_of rest) ≡ Block b ∷ distinct (map part_of rest)
first-part b rest later =
    let parts : AllByRecursion (IsLaterPart b) (distinct (map part_of rest)) = all-distinct (IsLaterPart b) (map part_of rest) (all-map (IsLaterPart b) part_of rest later) in
    ap (λ l. Block b ∷ l) (filter-all (λ q. not (is_same (Block b) q)) (distinct (map part_of rest))
    (all-weaker (IsLaterPart b) (λ q. not (is_same (Block b) q) ≡ true) (λ q l. not_from_false (is_same (Block b) q) (other-part b q l)) (distinct (map part_of rest)) parts))

members-first : (b : ℕ) (xs rest : List FileCommand) → AllByRecursion (λ c. part_of c ≡ Block b) xs → AllByRecursion (IsLater b) rest → members (xs ++ rest) (Block b) ≡ xs
members-first b xs rest own later =
    let test : FileCommand → Bool = λ c. is_same (Block b) (part_of c) in
    filter-append test xs rest
    ∙ ap (λ l. l ++ filter test rest) (filter-all test xs (all-weaker (λ c. part_of c ≡ Block b) (λ c. test c ≡ true) (λ c is. ap (is_same (Block b)) is ∙ eq-eqb b b refl) xs own))
    ∙ ap (λ l. xs ++ l) (filter-none test rest (all-weaker (IsLater b) (λ c. test c ≡ false) (λ c l. other-part b (part_of c) l) rest later))
    ∙ append-nil xs

members-later : (b : ℕ) (xs rest : List FileCommand) (q : Part) → AllByRecursion (λ c. part_of c ≡ Block b) xs → IsLaterPart b q → members (xs ++ rest) q ≡ members rest q
members-later b xs rest q own later =
    let test : FileCommand → Bool = λ c. is_same q (part_of c) in
    filter-append test xs rest
    ∙ ap (λ l. l ++ filter test rest) (filter-none test xs (all-weaker (λ c. part_of c ≡ Block b) (λ c. test c ≡ false) (λ c is. other-way b q (part_of c) is later) xs own))

map-same : {X Y : Type 0} (f g : X → Y) (xs : List X) → AllByRecursion (λ x. f x ≡ g x) xs → map f xs ≡ map g xs
map-same f g [] all = refl
map-same f g (x ∷ xs) all = ap (λ y. y ∷ map f xs) all.0 ∙ ap (λ l. g x ∷ l) (map-same f g xs all.1)

-- the commands of a block, before those of later ones, are a group of their own
groups-block : (b : ℕ) (xs rest : List FileCommand) → distinct (map part_of (xs ++ rest)) ≡ distinct (Block b ∷ map part_of rest) →
    AllByRecursion (λ c. part_of c ≡ Block b) xs → AllByRecursion (IsLater b) rest →
    groups (xs ++ rest) ≡ xs ∷ groups rest
groups-block b xs rest parts own later =
    let all = xs ++ rest in
    let ps = distinct (map part_of rest) in
    let these : AllByRecursion (IsLaterPart b) ps = all-distinct (IsLaterPart b) (map part_of rest) (all-map (IsLaterPart b) part_of rest later) in
    ap (map (members all)) (parts ∙ first-part b rest later)
    ∙ ap (λ g. g ∷ map (members all) ps) (members-first b xs rest own later)
    ∙ ap (λ gs. xs ∷ gs) (map-same (members all) (members rest) ps (all-weaker (IsLaterPart b) (λ q. members all q ≡ members rest q) (λ q l. members-later b xs rest q own l) ps these))

groups-one : (b : ℕ) (c : FileCommand) (rest : List FileCommand) → part_of c ≡ Block b → AllByRecursion (IsLater b) rest → groups (c ∷ rest) ≡ (c ∷ []) ∷ groups rest
groups-one b c rest is later = groups-block b (c ∷ []) rest (ap (λ p. distinct (p ∷ map part_of rest)) is) (is, tt) later

groups-two : (b : ℕ) (c d : FileCommand) (rest : List FileCommand) → part_of c ≡ Block b → part_of d ≡ Block b → AllByRecursion (IsLater b) rest → groups (c ∷ d ∷ rest) ≡ (c ∷ d ∷ []) ∷ groups rest
groups-two b c d rest is same later =
    groups-block b (c ∷ d ∷ []) rest
    (ap (λ p. distinct (p ∷ part_of d ∷ map part_of rest)) is ∙ ap (λ p. distinct (Block b ∷ p ∷ map part_of rest)) same ∙ distinct-next (Block b) [] (map part_of rest))
    (is, (same, tt)) later

-- the groups of the interfaces over links
link_groups : ℕ → ℕ → ℕ → List ℕ → List (List FileCommand)
link_groups n router at [] = []
link_groups n router at (link ∷ links) = link_face_commands n router at link ∷ link_groups n router (at + 3) links

later-links : (n router b at end : ℕ) (links : List ℕ) → b < at + 1 → at + 3 * length links ≤ end → AllByRecursion (IsLater b) (link_commands n router at links ++ last_commands end)
later-links n router b at end [] low few =
    let at-end : at ≤ end = omega arith in
    ((end + 1, refl, omega arith), ((end + 1, refl, omega arith), ((end + 4, refl, omega arith), tt)))
later-links n router b at end (link ∷ links) low few =
    ((at + 1, refl, low), ((at + 1, refl, low), later-links n router b (at + 3) end links (omega arith) (omega arith)))

groups-links : (n router at end : ℕ) (links : List ℕ) → at + 3 * length links ≤ end →
    groups (link_commands n router at links ++ last_commands end) ≡ link_groups n router at links ++ (process_commands end ∷ end_commands end ∷ [])
unfolding link_groups
groups-links n router at end [] few =
    groups-two (end + 1) (command_at (end + 1) (end + 1) (commands.RouterOspf 1)) (command_at (end + 2) (end + 1) (commands.Covers whole 0)) (end_commands end)
    refl refl ((end + 4, refl, omega arith), tt)
    ∙ ap (λ gs. process_commands end ∷ gs) (groups-one (end + 4) (command_at (end + 4) (end + 4) commands.Inert) [] refl tt)
groups-links n router at end (link ∷ links) few =
    groups-two (at + 1) (command_at (at + 1) (at + 1) (commands.Interface (face_name (port n router link)))) (command_at (at + 2) (at + 1)
    (commands.Address (address 0 link (end_of n router link)) 30))
    (link_commands n router (at + 3) links ++ last_commands end) refl refl (later-links n router (at + 1) (at + 3) end links (omega arith) (omega arith))
    ∙ ap (λ gs. link_face_commands n router at link ∷ gs) (groups-links n router (at + 3) end links (omega arith))

-- an interface that these two lines set
abbrev pub face_at : ℕ → List ℕ → ℕ → ℕ → FaceText
face_at at name addr len = record {
  name = name;
  head = at + 1;
  last = at + 2;
  addr = Some (record { value = addr; line = at + 2 });
  mask_len = Some (record { value = len; line = at + 2 });
  shut = None;
  bandwidth = None;
  cost = None;
  area = None;
  point = None;
  list_in = None;
  list_out = None;
}

-- the router's interface to its host network, and those over links
abbrev pub host_face : ℕ → FaceText
host_face router = face_at 2 (face_name 0) (address router 0 1) 24

abbrev pub link_face : ℕ → ℕ → ℕ → ℕ → FaceText
link_face n router at link = face_at at (face_name (port n router link)) (address 0 link (end_of n router link)) 30

abbrev pub link_faces : ℕ → ℕ → ℕ → List ℕ → List FaceText
link_faces n router at [] = []
link_faces n router at (link ∷ links) = link_face n router at link ∷ link_faces n router (at + 3) links

-- the process
abbrev pub process_at : ℕ → ProcessText
process_at at = record {
  kind = Ospf;
  number = 1;
  head = at + 1;
  last = at + 2;
  lines = record { value = commands.Covers whole 0; line = at + 2 } ∷ [];
}

-- what the file of a router with these links sets
abbrev pub settings : ℕ → ℕ → List ℕ → Config
settings n router links = record {
  hostname = Some (record { name = host_name router; line = 1 });
  faces = host_face router ∷ link_faces n router 5 links;
  lists = [];
  process = process_at (5 + 3 * length links) ∷ [];
}

faces-of : (n router at end : ℕ) (links : List ℕ) → flat_map face_of (link_groups n router at links ++ (process_commands end ∷ end_commands end ∷ [])) ≡ link_faces n router at links
unfolding link_groups
faces-of n router at end [] = refl
faces-of n router at end (link ∷ links) = ap (λ fs. link_face n router at link ∷ fs) (faces-of n router (at + 3) end links)

lists-of : (n router at end : ℕ) (links : List ℕ) → flat_map list_of (link_groups n router at links ++ (process_commands end ∷ end_commands end ∷ [])) ≡ []
unfolding link_groups
lists-of n router at end [] = refl
lists-of n router at end (link ∷ links) = lists-of n router (at + 3) end links

processes-of : (n router at end : ℕ) (links : List ℕ) → flat_map process_of (link_groups n router at links ++ (process_commands end ∷ end_commands end ∷ [])) ≡ process_at end ∷ []
unfolding link_groups
processes-of n router at end [] = refl
processes-of n router at end (link ∷ links) = processes-of n router (at + 3) end links

-- commands that say nothing of a setting leave it
silent-rest : {V : Type 0} (says : Says V) (front rest : List FileCommand) → AllByRecursion (λ c. says c.command ≡ None) rest → last_setting says (front ++ rest) ≡ last_setting says front
silent-rest says front [] silent = ap (last_setting says) (append-nil front)
silent-rest says front (c ∷ rest) silent =
    ap (last_setting says) (sym (append_assoc front (c ∷ []) rest)) ∙ silent-rest says (front ++ c ∷ []) rest silent.1
    ∙ last_setting-more says front c ∙ ap (λ said. replaced c.line said (last_setting says front)) silent.0

no-names : (n router at end : ℕ) (links : List ℕ) → AllByRecursion (λ (c : FileCommand). hostname c.command ≡ None) (link_commands n router at links ++ last_commands end)
no-names n router at end [] = (refl, (refl, (refl, tt)))
no-names n router at end (link ∷ links) = (refl, (refl, no-names n router (at + 3) end links))

-- the file sets just this
pub sets : (n router : ℕ) (links : List ℕ) → config_of (file_commands n router links) ≡ settings n router links
sets n router links =
    let end = 5 + 3 * length links in
    let rest = link_commands n router 5 links ++ last_commands end in
    let inner = host_commands router ++ rest in
    let tail = process_commands end ∷ end_commands end ∷ [] in
    let few : 5 + 3 * length links ≤ end = omega arith in
    let after-host = later-links n router 3 5 end links (omega arith) few in
    let grouped : groups (file_commands n router links) ≡ (name_command router ∷ []) ∷ host_commands router ∷ link_groups n router 5 links ++ tail =
    groups-one 0 (name_command router) inner refl
    ((3, refl, omega arith), ((3, refl, omega arith), all-weaker (IsLater 3) (IsLater 0) (λ c l. (l.0, l.1, let high = l.2 in omega arith)) rest after-host))
    ∙ ap (λ gs. (name_command router ∷ []) ∷ gs)
    (groups-two 3 (command_at 3 3 (commands.Interface (face_name 0))) (command_at 4 3 (commands.Address (address router 0 1) 24)) rest refl refl after-host)
    ∙ ap (λ gs. (name_command router ∷ []) ∷ host_commands router ∷ gs) (groups-links n router 5 end links few) in
    let named : last_setting hostname (file_commands n router links) ≡ Some (record { value = host_name router; line = 1 }) =
    silent-rest hostname (name_command router ∷ []) inner (refl, (refl, no-names n router 5 end links)) in
    let faces : flat_map face_of (groups (file_commands n router links)) ≡ host_face router ∷ link_faces n router 5 links =
    ap (flat_map face_of) grouped ∙ ap (λ fs. host_face router ∷ fs) (faces-of n router 5 end links) in
    let lists : flat_map list_of (groups (file_commands n router links)) ≡ [] = ap (flat_map list_of) grouped ∙ lists-of n router 5 end links in
    let process : flat_map process_of (groups (file_commands n router links)) ≡ process_at end ∷ [] = ap (flat_map process_of) grouped ∙ processes-of n router 5 end links in
    let name : option_map (λ (g : Given (List ℕ)). record { name = g.value; line = g.line }) (last_setting hostname (file_commands n router links)) ≡ Some
    (record { name = host_name router; line = 1 }) = ap (option_map (λ (g : Given (List ℕ)). record { name = g.value; line = g.line })) named in
    same-config (config_of (file_commands n router links)) (settings n router links) name faces lists process
  where
    same-config : (a b : Config) → a.hostname ≡ b.hostname → a.faces ≡ b.faces → a.lists ≡ b.lists → a.process ≡ b.process → a ≡ b
    same-config a b one two three four =
        ap (λ h. let c : Config = record { hostname = h; faces = a.faces; lists = a.lists; process = a.process } in c) one
        ∙ ap (λ h. let c : Config = record { hostname = b.hostname; faces = h; lists = a.lists; process = a.process } in c) two
        ∙ ap (λ h. let c : Config = record { hostname = b.hostname; faces = b.faces; lists = h; process = a.process } in c) three
        ∙ ap (λ h. let c : Config = record { hostname = b.hostname; faces = b.faces; lists = b.lists; process = h } in c) four
