-- The bare settings of a file are those of its bare groups.
use Rattle.std.proofs.Common.{◌≡◌, ℕ, ◌-◌, Bool, true, false, cond, List, [], ◌∷◌, ◌++◌, length, map, flat_map, reverse, slice_get, Option, Some, None, option_map, option_and_then, refl, sym, ap, ◌∙◌}
use Rattle.std.proofs.lemmas.Simd.{map-map}
use Rattle.std.proofs.lemmas.List.{map-append, length-map}
use Rattle.std.proofs.lemmas.Option.{slice_get-map}
use Rattle.indexmap.proofs.ReorderLemmas.{map-reverse}
use Rattle.std.specs.List.{find, cons_option}
use Rattle.std.specs.Option.{option_map_or, is_some}
use Rattle.ios_words.specs.declared.commands.Command.{Command}
use Rattle.ios_words.specs.declared.commands.Command.TheVariants as commands
use Rattle.ios_config.specs.declared.commands.FileCommand.{FileCommand}
use Rattle.ios_config.specs.declared.settings.FaceText.{FaceText}
use Rattle.ios_config.specs.declared.settings.Given.{Given}
use Rattle.ios_config.specs.declared.settings.ListText.{ListText}
use Rattle.ios_config.specs.declared.settings.ListKind.{ListKind}
use Rattle.ios_config.specs.declared.settings.ListForm.{ListForm}
use Rattle.ios_config.specs.declared.settings.ProcessText.{ProcessText}
use Rattle.ios_config.specs.declared.settings.ProcessKind.{ProcessKind}
use Rattle.ios_config.specs.Bare.{bare, bare_given, bare_option, bare_face, bare_list, bare_process, bare_setting, BareGroupsSetTheSame}
use Rattle.ios_config.specs.Groups.{groups}
use Rattle.ios_config.specs.Texts.{last_line, given, face_text, face_by, face_of, is_entry, entries, is_numbered, list_text, list_by, list_of, process_text, process_by, process_of, router_name}
use Rattle.ios_config.specs.Values.{Says, given_at, last_setting, address, mask_length, shut_down, bandwidth, ospf_cost, ospf_area, point_to_point, inbound, outbound}

-- the last line has no number left
bare-last : (cs : List FileCommand) → last_line (map bare cs) ≡ 0
bare-last cs =
    ap (λ n. option_map_or (λ (c : FileCommand). c.line) (slice_get (map bare cs) (n - 1)) 0) (length-map cs bare)
    ∙ ap (λ (o : Option FileCommand). option_map_or (λ (c : FileCommand). c.line) o 0) (slice_get-map bare cs (length cs - 1))
    ∙ none-left (slice_get cs (length cs - 1))
  where
    none-left : (o : Option FileCommand) → option_map_or (λ (c : FileCommand). c.line) (option_map bare o) 0 ≡ 0
    none-left None = refl
    none-left (Some c) = refl

reverse-map : (f : FileCommand → FileCommand) (cs : List FileCommand) → reverse (map f cs) ≡ map f (reverse cs)
reverse-map f cs = sym (map-reverse f cs)

find-map : (p : FileCommand → Bool) (f : FileCommand → FileCommand) (cs : List FileCommand) → ((c : FileCommand) → p (f c) ≡ p c) → find p (map f cs) ≡ option_map f (find p cs)
find-map p f [] same = refl
find-map p f (c ∷ cs) same = ap (λ b. cond b (Some (f c)) (find p (map f cs))) (same c) ∙ by (p c) (find-map p f cs same)
  where
    by : (b : Bool) → find p (map f cs) ≡ option_map f (find p cs) → cond b (Some (f c)) (find p (map f cs)) ≡ option_map f (cond b (Some c) (find p cs))
    by true rest = refl
    by false rest = rest

bare-said : {V : Type 0} → (line : ℕ) (o : Option (Option V)) → given_at 0 o ≡ bare_option (given_at line o)
bare-said line None = refl
bare-said line (Some None) = refl
bare-said line (Some (Some v)) = refl

bare-found : {V : Type 0} → (says : Says V) (o : Option FileCommand) →
    option_and_then (λ (c : FileCommand). given_at c.line (says c.command)) (option_map bare o) ≡ bare_option (option_and_then (λ (c : FileCommand). given_at c.line (says c.command)) o)
bare-found says None = refl
bare-found says (Some c) = bare-said c.line (says c.command)

pub bare-setting : {V : Type 0} → (says : Says V) (cs : List FileCommand) → last_setting says (map bare cs) ≡ bare_option (last_setting says cs)
bare-setting says cs =
    let test : FileCommand → Bool = λ (c : FileCommand). is_some (says c.command) in
    ap (λ xs. option_and_then (λ (c : FileCommand). given_at c.line (says c.command)) (find test xs)) (reverse-map bare cs)
    ∙ ap (option_and_then (λ (c : FileCommand). given_at c.line (says c.command))) (find-map test bare (reverse cs) (λ c. refl))
    ∙ bare-found says (find test (reverse cs))

-- an interface
face-bare : (name : List ℕ) (head : ℕ) (block : List FileCommand) → bare_face (face_text name head block) ≡ face_text name 0 (map bare block)
face-bare name head block = λ i. record {
  name = name;
  head = 0;
  last = sym (bare-last block) i;
  addr = sym (bare-setting address block) i;
  mask_len = sym (bare-setting mask_length block) i;
  shut = sym (bare-setting shut_down block) i;
  bandwidth = sym (bare-setting bandwidth block) i;
  cost = sym (bare-setting ospf_cost block) i;
  area = sym (bare-setting ospf_area block) i;
  point = sym (bare-setting point_to_point block) i;
  list_in = sym (bare-setting inbound block) i;
  list_out = sym (bare-setting outbound block) i;
}

face-by : (command : Command) (head : ℕ) (block : List FileCommand) → map bare_face (face_by command head block) ≡ face_by command 0 (map bare block)
face-by (commands.Interface name) head block = ap (λ (f : FaceText). f ∷ []) (face-bare name head block)
face-by _ head block = refl

pub faces-bare : (group : List FileCommand) → map bare_face (face_of group) ≡ face_of (map bare group)
faces-bare [] = refl
faces-bare (head ∷ rest) = face-by head.command head.line (head ∷ rest)

-- the entries of a list
entry-step : (c : FileCommand) (b : Bool) (more rest : List (Given Command)) → more ≡ map bare_given rest →
    cons_option (cond b (Some (given (bare c))) None) more ≡ map bare_given (cons_option (cond b (Some (given c)) None) rest)
entry-step c true more rest same = ap (λ es. bare_given (given c) ∷ es) same
entry-step c false more rest same = same

pub entries-bare : (cs : List FileCommand) → entries (map bare cs) ≡ map bare_given (entries cs)
entries-bare [] = refl
entries-bare (c ∷ cs) = entry-step c (is_entry c.command) (entries (map bare cs)) (entries cs) (entries-bare cs)

numbered-bare : (es : List (Given Command)) → is_numbered (map bare_given es) ≡ is_numbered es
numbered-bare [] = refl
numbered-bare (e ∷ es) = refl

list-bare : (name : List ℕ) (kind : ListKind) (form : ListForm) (cs : List FileCommand) → bare_list (list_text name kind form cs) ≡ list_text name kind form (map bare cs)
list-bare name kind form cs = λ i. record {
  name = name;
  kind = kind;
  form = form;
  numbered = sym (ap is_numbered (entries-bare cs) ∙ numbered-bare (entries cs)) i;
  entries = sym (entries-bare cs) i;
}

list-by : (command : Command) (cs : List FileCommand) → map bare_list (list_by command cs) ≡ list_by command (map bare cs)
list-by (commands.ListBlock extended name) cs = ap (λ (l : ListText). l ∷ []) (list-bare name _ _ cs)
list-by (commands.ListLine name entry) cs = ap (λ (l : ListText). l ∷ []) (list-bare name _ _ cs)
list-by (commands.PrefixLine name number entry) cs = ap (λ (l : ListText). l ∷ []) (list-bare name _ _ cs)
list-by _ cs = refl

pub lists-bare : (group : List FileCommand) → map bare_list (list_of group) ≡ list_of (map bare group)
lists-bare [] = refl
lists-bare (first ∷ rest) = list-by first.command (first ∷ rest)

-- a process
process-bare : (kind : ProcessKind) (number : ℕ) (head : FileCommand) (rest : List FileCommand) →
    bare_process (process_text kind number head rest) ≡ process_text kind number (bare head) (map bare rest)
process-bare kind number head rest = λ i. record {
  kind = kind;
  number = number;
  head = 0;
  last = sym (bare-last (head ∷ rest)) i;
  lines = (map-map bare_given given rest ∙ sym (map-map given bare rest)) i;
}

process-by : (command : Command) (head : FileCommand) (rest : List FileCommand) → map bare_process (process_by command head rest) ≡ process_by command (bare head) (map bare rest)
process-by (commands.RouterOspf number) head rest = ap (λ (p : ProcessText). p ∷ []) (process-bare _ number head rest)
process-by (commands.RouterBgp number) head rest = ap (λ (p : ProcessText). p ∷ []) (process-bare _ number head rest)
process-by _ head rest = refl

pub processes-bare : (group : List FileCommand) → map bare_process (process_of group) ≡ process_of (map bare group)
processes-bare [] = refl
processes-bare (head ∷ rest) = process-by head.command head rest

-- what is made of the items of groups
pieces-bare : {A : Type 0} → (f : List FileCommand → List A) (b : A → A) (gs : List (List FileCommand)) →
    ((g : List FileCommand) → map b (f g) ≡ f (map bare g)) → map b (flat_map f gs) ≡ flat_map f (map (map bare) gs)
pieces-bare f b [] same = refl
pieces-bare f b (g ∷ gs) same = map-append b (f g) (flat_map f gs) ∙ ap (λ xs. xs ++ map b (flat_map f gs)) (same g) ∙ ap (λ xs. f (map bare g) ++ xs) (pieces-bare f b gs same)

pub bare-groups-set : BareGroupsSetTheSame
bare-groups-set cs = λ i. record {
  hostname = option_map bare_setting (router_name cs);
  faces = pieces-bare face_of bare_face (groups cs) faces-bare i;
  lists = pieces-bare list_of bare_list (groups cs) lists-bare i;
  process = pieces-bare process_of bare_process (groups cs) processes-bare i;
}
