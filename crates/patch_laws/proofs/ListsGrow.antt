-- A list with the entries of edits before its old ones is the list after the edits.
use Rattle.std.proofs.Common.{◌≡◌, ℕ, false, Option, Some, None, List, [], ◌∷◌, ◌++◌, map, refl, sym, ap, subst, ◌∙◌}
use Rattle.ios_words.specs.declared.commands.Command.{Command}
use Rattle.ios_words.specs.declared.commands.Command.TheVariants as commands
use Rattle.ios_config.specs.declared.commands.FileCommand.{FileCommand}
use Rattle.ios_config.specs.declared.settings.ListForm.{ListForm}
use Rattle.ios_config.specs.declared.settings.ListKind.{ListKind}
use Rattle.ios_config.specs.declared.settings.ListText.{ListText}
use Rattle.ios_config.specs.Texts.{list_text, list_by, entries}
use Rattle.settings_edit_laws.specs.Additions.{front_lines}
use Rattle.settings_edit_laws.specs.Plain.{said, plain_entry, plain_list}
use Rattle.settings_edit_laws.specs.SettingsAfter.{list_with}
use Rattle.patch_laws.specs.ListsGrow.{list_begun, ListsGrow}

-- the list that is begun so
abbrev pub made : Option (List ℕ × ListKind × ListForm) → List FileCommand → List ListText
made None cs = []
made (Some head) cs = list_text head.0 head.1 head.2 cs ∷ []

pub by-head : (command : Command) (cs : List FileCommand) → list_by command cs ≡ made (list_begun command) cs
by-head (commands.ListBlock extended name) cs = refl
by-head (commands.ListLine name entry) cs = refl
by-head (commands.PrefixLine name number entry) cs = refl
by-head _ cs = refl

one-item : (x y : ListText) → x ∷ [] ≡ y ∷ [] → x ≡ y
one-item x y e = cc

no-item : (y : ListText) → [] ≡ y ∷ [] → ⊥
no-item y e = absurd cc

pub lists-grow : ListsGrow
lists-grow net chosen router first next old new list was head entries_are =
    ap (map plain_list) (by-head next.command (next ∷ new) ∙ ap (λ h. made h (next ∷ new)) head) ∙ go (list_begun first.command) (sym (ap (map plain_list) (by-head first.command (first ∷ old))) ∙ was)
  where
    go : (h : Option (List ℕ × ListKind × ListForm)) → map plain_list (made h (first ∷ old)) ≡ list ∷ [] → map plain_list (made h (next ∷ new)) ≡ map (list_with net chosen router) (list ∷ [])
    go None e = absurd (no-item list e)
    go (Some h) e =
        let l : ListText = plain_list (list_text h.0 h.1 h.2 (first ∷ old)) in
        let same : l ≡ list = one-item l list e in
        let es : map plain_entry (entries (next ∷ new)) ≡ map said (front_lines net chosen router l l.kind) ++ l.entries =
        subst (λ (k : ListText). map plain_entry (entries (next ∷ new)) ≡ map said (front_lines net chosen router k k.kind) ++ map plain_entry (entries (first ∷ old))) (sym same) entries_are in
        (λ i. record { name = h.0; kind = h.1; form = h.2; numbered = false; entries = es i } ∷ []) ∙ ap (λ (k : ListText). list_with net chosen router k ∷ []) same
