-- What one command more does to the settings of its group.
use Rattle.std.proofs.Common.{◌≡◌, ℕ, ◌+◌, ◌*◌, ◌<◌, true, cond, List, [], ◌∷◌, ◌++◌, map, Option, Some, None, refl, sym, ap, subst, ◌∙◌, arith, ⊎_elim, Contains, true≢false}
use Rattle.std.proofs.lemmas.Bool.{lt-ltb}
use Rattle.std.proofs.lemmas.List.{map-append}
use Rattle.std.proofs.lemmas.List.Elements.{filter_map-append, Contains-append_left, Contains-append_right, Contains-append_cases}
use Rattle.std.proofs.lemmas.Option.{none-some}
use Rattle.std.specs.Prelude.{AllPairs, Any}
use Rattle.std.specs.List.{cons_option}
use Rattle.arc_base.proofs.Items.{AllPairs-append, AllPairs-rest, AllPairs-first, AllPairs-single, AllPairs-map, Contains-cases, Contains-none, Contains-head, Contains-tail, from_map}
use Rattle.ios_words.specs.declared.commands.Command.{Command}
use Rattle.ios_words.specs.declared.commands.Command.TheVariants as commands
use Rattle.ios_config.specs.declared.commands.FileCommand.{FileCommand}
use Rattle.ios_config.specs.declared.settings.FaceText.{FaceText}
use Rattle.ios_config.specs.declared.settings.Given.{Given}
use Rattle.ios_config.specs.declared.settings.ListText.{ListText}
use Rattle.ios_config.specs.declared.settings.ListKind.{ListKind}
use Rattle.ios_config.specs.declared.settings.ListForm.{ListForm}
use Rattle.ios_config.specs.declared.settings.ProcessText.{ProcessText}
use Rattle.ios_config.specs.declared.settings.ProcessKind.{ProcessKind}
use Rattle.ios_config.specs.Effects.{process_with, ALastLineIsTheProcesss, face_bound, ALastBindingIsSet, list_with, AFirstEntryIsTheLists}
use Rattle.ios_config.specs.Effects.{AFirstListLineIsTheLists, AFirstPrefixLineIsTheLists, StillStandsOnce, SilentCommandsClashWithNone, PlacesRise, NoNumbersRise}
use Rattle.ios_config.specs.Inserted.{command_moved}
use Rattle.ios_config.specs.Rising.{rises}
use Rattle.ios_config.specs.Texts.{given, face_text, face_by, entry_number, is_entry, entries, is_numbered, list_text, list_by, process_text, process_by}
use Rattle.ios_config.specs.Twice.{stand_of, Clash}
use Rattle.ios_config.specs.Values.{address, mask_length, shut_down, bandwidth, ospf_cost, ospf_area, point_to_point, inbound, outbound}
use Rattle.ios_config.proofs.Values.{last_setting-more, last_line-more}

-- a process
process-more : (kind : ProcessKind) (number : ℕ) (head : FileCommand) (rest : List FileCommand) (c : FileCommand) →
    process_text kind number head (rest ++ c ∷ []) ≡ process_with c (process_text kind number head rest)
process-more kind number head rest c = λ i. record { kind = kind; number = number; head = head.line; last = last_line-more (head ∷ rest) c i; lines = map-append given rest (c ∷ []) i }

process-by : (command : Command) (head : FileCommand) (rest : List FileCommand) (c : FileCommand) → process_by command head (rest ++ c ∷ []) ≡ map (process_with c) (process_by command head rest)
process-by (commands.RouterOspf number) head rest c = ap (λ (p : ProcessText). p ∷ []) (process-more _ number head rest c)
process-by (commands.RouterBgp number) head rest c = ap (λ (p : ProcessText). p ∷ []) (process-more _ number head rest c)
process-by _ head rest c = refl

pub last-line : ALastLineIsTheProcesss
last-line head rest c = process-by head.command head rest c

-- an interface
face-more : (name : List ℕ) (head : ℕ) (cs : List FileCommand) (line block : ℕ) (list : List ℕ) →
    face_text name head (cs ++ record { line = line; block = block; command = commands.Group list true } ∷ []) ≡ face_bound list line (face_text name head cs)
face-more name head cs line block list =
    let c : FileCommand = record { line = line; block = block; command = commands.Group list true } in
    λ i. record {
      name = name;
      head = head;
      last = last_line-more cs c i;
      addr = last_setting-more address cs c i;
      mask_len = last_setting-more mask_length cs c i;
      shut = last_setting-more shut_down cs c i;
      bandwidth = last_setting-more bandwidth cs c i;
      cost = last_setting-more ospf_cost cs c i;
      area = last_setting-more ospf_area cs c i;
      point = last_setting-more point_to_point cs c i;
      list_in = last_setting-more inbound cs c i;
      list_out = last_setting-more outbound cs c i;
    }

face-by : (command : Command) (head : ℕ) (cs : List FileCommand) (line block : ℕ) (list : List ℕ) →
    face_by command head (cs ++ record { line = line; block = block; command = commands.Group list true } ∷ []) ≡ map (face_bound list line) (face_by command head cs)
face-by (commands.Interface name) head cs line block list = ap (λ (f : FaceText). f ∷ []) (face-more name head cs line block list)
face-by _ head cs line block list = refl

pub last-binding : ALastBindingIsSet
last-binding head rest line block name = face-by head.command head.line (head ∷ rest) line block name

-- a list
abbrev entry_if : FileCommand → Option (Given Command)
entry_if c = cond (is_entry c.command) (Some (given c)) None

entries-first : (front : List FileCommand) (c : FileCommand) (back : List FileCommand) → entries front ≡ [] → is_entry c.command ≡ true →
    entries (front ++ c ∷ back) ≡ given c ∷ entries (front ++ back)
entries-first front c back none is =
    filter_map-append entry_if front (c ∷ back) ∙ ap (λ es. es ++ entries (c ∷ back)) none ∙ ap (λ b. cons_option (cond b (Some (given c)) None) (entries back)) is
    ∙ sym (ap (λ es. given c ∷ es) (filter_map-append entry_if front back ∙ ap (λ es. es ++ entries back) none))

list-first : (name : List ℕ) (kind : ListKind) (form : ListForm) (front : List FileCommand) (c : FileCommand) (back : List FileCommand) → entries front ≡ [] → is_entry c.command ≡ true →
    list_text name kind form (front ++ c ∷ back) ≡ list_with c (list_text name kind form (front ++ back))
list-first name kind form front c back none is =
    λ i. record { name = name; kind = kind; form = form; numbered = is_numbered (entries-first front c back none is i); entries = entries-first front c back none is i }

list-by : (command : Command) (front : List FileCommand) (c : FileCommand) (back : List FileCommand) → entries front ≡ [] → is_entry c.command ≡ true →
    list_by command (front ++ c ∷ back) ≡ map (list_with c) (list_by command (front ++ back))
list-by (commands.ListBlock extended name) front c back none is = ap (λ (l : ListText). l ∷ []) (list-first name _ _ front c back none is)
list-by (commands.ListLine name entry) front c back none is = ap (λ (l : ListText). l ∷ []) (list-first name _ _ front c back none is)
list-by (commands.PrefixLine name number entry) front c back none is = ap (λ (l : ListText). l ∷ []) (list-first name _ _ front c back none is)
list-by _ front c back none is = refl

pub first-entry : AFirstEntryIsTheLists
first-entry head front c back none is = list-by head.command (head ∷ front) c back none is

pub first-list-line : AFirstListLineIsTheLists
first-list-line line block number other name one two rest = refl

pub first-prefix-line : AFirstPrefixLineIsTheLists
first-prefix-line line block number other name m n one two rest = refl

-- nothing stands twice
abbrev Apart : FileCommand → FileCommand → Type 0
Apart b c = ¬ Clash b.command c.command

pairs-inserted : (front : List FileCommand) (c : FileCommand) (back : List FileCommand) → AllPairs Apart (front ++ back) →
    ((d : FileCommand) → Contains front d → Apart d c) → ((d : FileCommand) → Contains back d → Apart c d) → AllPairs Apart (front ++ c ∷ back)
pairs-inserted [] c back all before after = AllPairs-append Apart (c ∷ []) back (AllPairs-single Apart c) all
    (λ x y one two. ⊎_elim (λ here. subst (λ (z : FileCommand). Apart z y) here (after y two)) (λ later. absurd (Contains-none x later)) (Contains-cases c x [] one))
pairs-inserted (b ∷ front) c back all before after =
    AllPairs-append Apart (b ∷ []) (front ++ c ∷ back) (AllPairs-single Apart b) (pairs-inserted front c back (AllPairs-rest Apart b (front ++ back) all)
    (λ d has. before d (Contains-tail b d front has)) after)
    (λ x y one two. ⊎_elim
    (λ here. subst (λ (z : FileCommand). Apart z y) here (⊎_elim
    (λ early. AllPairs-first Apart b y (front ++ back) all (Contains-append_left front back y early))
    (λ late. ⊎_elim
    (λ same. subst (Apart b) same (before b (Contains-head b front)))
    (λ later. AllPairs-first Apart b y (front ++ back) all (Contains-append_right front back y later))
    (Contains-cases c y back late))
    (Contains-append_cases front (c ∷ back) y two)))
    (λ later. absurd (Contains-none x later))
    (Contains-cases b x [] one))

pub still-once : StillStandsOnce
still-once place front c back once before after =
    let front_moved = map (command_moved place) front in
    pairs-inserted front_moved c (map (command_moved place) back)
    (subst (AllPairs Apart) (map-append (command_moved place) front back) (AllPairs-map Apart (command_moved place) (front ++ back) once))
    (λ d has. let found = from_map (command_moved place) front d has in subst (λ (x : FileCommand). Apart x c) found.2 (before found.0 found.1))
    (λ d has. let found = from_map (command_moved place) back d has in subst (λ (x : FileCommand). Apart c x) found.2 (after found.0 found.1))

pub silent : SilentCommandsClashWithNone
silent c d stands excludes = (
  λ clash. let (k, stand, within, is, same) = clash in none-some stand (sym stands ∙ same),
  λ clash. let (k, stand, within, is, same) = subst (λ ss. Any (λ s. stand_of d ≡ Some s) ss) excludes clash in omega (arith, within),
)

-- numbers that rise
pub places-rise : PlacesRise
places-rise step es some numbered line falls =
    let one = numbered falls.place falls.earlier falls.at_place in
    let two = numbered (falls.place + 1) falls.later falls.at_next in
    let less : step * (falls.place + 1) < step * (falls.place + 1 + 1) = mul-lt step (falls.place + 1) some in
    let yes : rises (entry_number falls.earlier.value) (entry_number falls.later.value) ≡ true =
    ap (λ n. rises n (entry_number falls.later.value)) one ∙ ap (rises (Some (step * (falls.place + 1)))) two ∙ lt-ltb _ _ less in
    true≢false (sym yes ∙ falls.falls)
  where
    mul-lt : (m n : ℕ) → 0 < m → m * n < m * (n + 1)
    mul-lt m n some = grind arith

pub no-numbers-rise : NoNumbersRise
no-numbers-rise es none line falls =
    let yes : rises (entry_number falls.earlier.value) (entry_number falls.later.value) ≡ true =
    ap (λ n. rises n (entry_number falls.later.value)) (none falls.place falls.earlier falls.at_place) ∙ ap (rises None) (none (falls.place + 1) falls.later falls.at_next) in
    true≢false (sym yes ∙ falls.falls)
