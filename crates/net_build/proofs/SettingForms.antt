-- Each setting of a router file comes from a command that is in form.
use Rattle.std.proofs.Common.{◌≡◌, ℕ, zero, suc, ◌-◌, ◌≤◌, ◌⊎◌, inl, inr, Bool, true, false, Option, Some, None, List, [], ◌∷◌, length, map, refl, sym, ◌∙◌, ap, subst, arith}
use Rattle.std.specs.Prelude.{Contains, IfSome, IsTrue, option_and_then, is_some, reverse, cond}
use Rattle.std.specs.List.{find}
use Rattle.std.proofs.lemmas.List.{length-reverse, get_or-reverse}
use Rattle.std.proofs.lemmas.Option.{none-some, same_Some}
use Rattle.arc_base.specs.NameForms.{IsName, IsFaceName, is_name}
use Rattle.ios_words.specs.declared.commands.Command.{Command}
use Rattle.ios_words.specs.declared.commands.Command.TheVariants as commands
use Rattle.ios_words.specs.Forms.{IsFrom, IsInForm}
use Rattle.ios_words.specs.Names.{is_face_name}
use Rattle.ios_words.proofs.NameForms.{names_formed}
use Rattle.ios_config.specs.declared.commands.FileCommand.{FileCommand}
use Rattle.ios_config.specs.declared.settings.Given.{Given}
use Rattle.ios_config.specs.declared.settings.ProcessText.{ProcessText}
use Rattle.ios_config.specs.Texts.{given, face_text, face_by, process_by}
use Rattle.ios_config.specs.Values.{Says, given_at, last_setting, hostname, mask_length, bandwidth, ospf_cost, inbound, outbound}
use Rattle.net_rules.specs.Forms.{IsWellFormedFace, BindsName}
use Rattle.arc_base.proofs.Items.{Contains-cases, Contains-none}

-- names that pass their tests have their forms
name_form : (name : List ℕ) → IsTrue (is_name name) → IsName name
name_form name = (names_formed name).0

pub face_name_form : (name : List ℕ) → IsTrue (is_face_name name) → IsFaceName name
face_name_form name = (names_formed name).1

-- the value that a command gives a setting
none_some : {V : Type 0} (v : V) → None ≡ Some (Some v) → ⊥
none_some v e = absurd (cc)

some_none : {V : Type 0} (v : V) → Some None ≡ Some (Some v) → ⊥
some_none v e = absurd (cc)

same_value : {V : Type 0} (u v : V) → Some (Some u) ≡ Some (Some v) → u ≡ v
same_value u v e = cc

abbrev pub SaysOnly : {V : Type 0} → Says V → (V → Type 0) → Type 0
SaysOnly {V} says P = (command : Command) (v : V) → says command ≡ Some (Some v) → IsInForm command → P v

abbrev IsMask : ℕ → Type 0
IsMask n = IsFrom 1 32 n

abbrev IsBandwidth : ℕ → Type 0
IsBandwidth n = 1 ≤ n

abbrev IsCost : ℕ → Type 0
IsCost n = IsFrom 1 65535 n

-- an interface given by a block
pub record IsFaceOf (command : Command) (head : ℕ) (block : List FileCommand) : Type 0 where
  pub name : List ℕ
  pub is_interface : command ≡ commands.Interface name
  pub gives : face_by command head block ≡ face_text name head block ∷ []

only_lines : (process : ProcessText) (rest : List FileCommand) (other : ProcessText) → process.lines ≡ map given rest → Contains (process ∷ []) other → other.lines ≡ map given rest
only_lines process rest other lines there = elim (Contains-cases process other [] there) [
  | inl same ↦ ap (λ (p : ProcessText). p.lines) (sym same) ∙ lines
  | inr none ↦ absurd (Contains-none other none)
]

pub hostname_form : SaysOnly hostname IsName
hostname_form (commands.Hostname name) v is form = subst IsName (same_value name v is) (name_form name form)
hostname_form _ v is form = absurd (none_some v is)

mask_form : SaysOnly mask_length IsMask
mask_form (commands.Address address len) v is form = subst IsMask (same_value len v is) form
mask_form commands.NoAddress v is form = absurd (some_none v is)
mask_form _ v is form = absurd (none_some v is)

bandwidth_form : SaysOnly bandwidth IsBandwidth
bandwidth_form (commands.Bandwidth kilobits) v is form = subst IsBandwidth (same_value kilobits v is) form.0
bandwidth_form _ v is form = absurd (none_some v is)

cost_form : SaysOnly ospf_cost IsCost
cost_form (commands.Cost cost) v is form = subst IsCost (same_value cost v is) form
cost_form _ v is form = absurd (none_some v is)

inbound_form : SaysOnly inbound IsName
inbound_form (commands.Group name true) v is form = subst IsName (same_value name v is) (name_form name form)
inbound_form _ v is form = absurd (none_some v is)

outbound_form : SaysOnly outbound IsName
outbound_form (commands.Group name false) v is form = subst IsName (same_value name v is) (name_form name form)
outbound_form _ v is form = absurd (none_some v is)

-- a block gives one interface or none
pub face_cases : (command : Command) (head : ℕ) (block : List FileCommand) → IsFaceOf command head block ⊎ (face_by command head block ≡ [])
face_cases (commands.Interface name) head block = inl (record { name = name; is_interface = refl; gives = refl })
face_cases _ head block = inr refl

-- the lines of a process are those of its block
pub process_lines : (command : Command) (head : FileCommand) (rest : List FileCommand) (process : ProcessText) → Contains (process_by command head rest) process → process.lines ≡ map given rest
process_lines (commands.RouterOspf number) head rest process there = only_lines _ rest process refl there
process_lines (commands.RouterBgp number) head rest process there = only_lines _ rest process refl there
process_lines _ head rest process there = absurd (Contains-none process there)

pub binds_form : (command : Command) → IsInForm command → BindsName command
binds_form (commands.NeighborList address bound) form = name_form bound form
binds_form _ form = tt

-- what is found in a list is one of its items
found_in : {X : Type 0} (test : X → Bool) (xs : List X) (x : X) → find test xs ≡ Some x → Contains xs x
found_in test [] x e = absurd (none-some x e)
found_in test (y ∷ ys) x e = go (test y) refl (found_in test ys x)
  where
    go : (t : Bool) → test y ≡ t → (find test ys ≡ Some x → Contains ys x) → Contains (y ∷ ys) x
    go true h later = (zero, omega arith, same_Some y x (subst (λ (t : Bool). cond t (Some y) (find test ys) ≡ Some x) h e))
    go false h later = let there = later (subst (λ (t : Bool). cond t (Some y) (find test ys) ≡ Some x) h e) in (suc there.0, omega (arith, there.1), there.2)

reversed_in : {X : Type 0} (xs : List X) (x : X) → Contains (reverse xs) x → Contains xs x
reversed_in xs x (k, within, is) =
    let count = length-reverse xs in
    (length xs - 1 - k, omega (arith, within, count), sym (get_or-reverse xs k x (omega (arith, within, count))) ∙ is)

pub setting_form : {V : Type 0} (says : Says V) (P : V → Type 0) → SaysOnly says P → (cs : List FileCommand) →
    ((c : FileCommand) → Contains cs c → IsInForm c.command) → IfSome (last_setting says cs) (λ g. P g.value)
setting_form {V} says P only cs good = go (find (λ (c : FileCommand). is_some (says c.command)) (reverse cs)) refl
  where
    at : (c : FileCommand) (u : Option (Option V)) → says c.command ≡ u → IsInForm c.command → IfSome (given_at c.line u) (λ g. P g.value)
    at c None e form = tt
    at c (Some None) e form = tt
    at c (Some (Some v)) e form = only c.command v e form

    go : (o : Option FileCommand) → find (λ (c : FileCommand). is_some (says c.command)) (reverse cs) ≡ o →
        IfSome (option_and_then (λ (c : FileCommand). given_at c.line (says c.command)) o) (λ g. P g.value)
    go None e = tt
    go (Some c) e = at c (says c.command) refl (good c (reversed_in cs c (found_in (λ (d : FileCommand). is_some (says d.command)) (reverse cs) c e)))

-- a value in form has each part of the form
first_part : {V : Type 0} (o : Option (Given V)) (P Q : V → Type 0) → IfSome o (λ g. P g.value × Q g.value) → IfSome o (λ g. P g.value)
first_part None P Q is = tt
first_part (Some g) P Q is = is.0

second_part : {V : Type 0} (o : Option (Given V)) (P Q : V → Type 0) → IfSome o (λ g. P g.value × Q g.value) → IfSome o (λ g. Q g.value)
second_part None P Q is = tt
second_part (Some g) P Q is = is.1

pub face_form : (name : List ℕ) (head : ℕ) (block : List FileCommand) → IsFaceName name → ((c : FileCommand) → Contains block c → IsInForm c.command) → IsWellFormedFace (face_text name head block)
face_form name head block named good =
    let mask = setting_form mask_length IsMask mask_form block good in
    let cost = setting_form ospf_cost IsCost cost_form block good in
    record {
      name = named;
      mask_low = first_part (last_setting mask_length block) (λ n. 1 ≤ n) (λ n. n ≤ 32) mask;
      mask_high = second_part (last_setting mask_length block) (λ n. 1 ≤ n) (λ n. n ≤ 32) mask;
      bandwidth = setting_form bandwidth IsBandwidth bandwidth_form block good;
      cost_low = first_part (last_setting ospf_cost block) (λ n. 1 ≤ n) (λ n. n ≤ 65535) cost;
      cost_high = second_part (last_setting ospf_cost block) (λ n. 1 ≤ n) (λ n. n ≤ 65535) cost;
      list_in = setting_form inbound IsName inbound_form block good;
      list_out = setting_form outbound IsName outbound_form block good;
    }
