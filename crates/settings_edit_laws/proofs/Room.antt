-- Where no list of the files has more than 2,048 entries, there is room for all edits.
use Rattle.std.proofs.Common.{◌≡◌, ℕ, ◌+◌, ◌≤◌, ◌⊎◌, inl, inr, Bool, true, false, cond, Option, Some, None, List, [], ◌∷◌, length, refl, sym, ◌∙◌, ap, arith, nat_lt, find}
use Rattle.std.specs.Prelude.{Contains, slice_get}
use Rattle.std.specs.List.{zip}
use Rattle.std.proofs.lemmas.Bool.{cases_lt, false≢true, lt-ltb}
use Rattle.std.proofs.lemmas.Option.{none-some}
use Rattle.arc_base.specs.declared.refusal.Kind.TheVariants as kinds
use Rattle.arc_base.specs.declared.refusal.LimitKind.TheVariants as limits
use Rattle.arc_base.proofs.Items.{Contains-none, Contains-cases}
use Rattle.net_model.proofs.Readings.{place_of_item}
use Rattle.ios_config.specs.declared.settings.Config.{Config}
use Rattle.ios_config.specs.declared.settings.ListText.{ListText}
use Rattle.net_rules.specs.Limits.{RefusesEntries, long_list}
use Rattle.net_rules.specs.Reasons.{NoRefusal}
use Rattle.edit_list.specs.declared.edit_kinds.Edit.{Edit}
use Rattle.edit_list.specs.Prices.{if_chosen, chosen_of}
use Rattle.edit_list.proofs.Counts.{few_picked}
use Rattle.settings_edit_laws.specs.Premises.{HasRoom}

-- what passes the test is found, or something before it
found : {X : Type 0} (p : X → Bool) (xs : List X) (x : X) → Contains xs x → p x ≡ true → find p xs ≡ None → ⊥
found p [] x there pass e = Contains-none x there
found {X} p (y ∷ xs) x there pass e = by (p y) refl (Contains-cases y x xs there) (λ later. found p xs x later pass)
  where
    by : (b : Bool) → p y ≡ b → (y ≡ x) ⊎ Contains xs x → (Contains xs x → find p xs ≡ None → ⊥) → ⊥
    by true f h later = none-some y (sym e ∙ ap (λ c. cond c (Some y) (find p xs)) f)
    by false f (inl same) later = false≢true (sym f ∙ ap p same ∙ pass)
    by false f (inr there) later = later there (sym (ap (λ c. cond c (Some y) (find p xs)) f) ∙ e)

pub few_zipped : {X Y : Type 0} (xs : List X) (ys : List Y) → length (zip xs ys) ≤ length xs
few_zipped (x ∷ xs) (y ∷ ys) = omega (arith, few_zipped xs ys)
few_zipped xs other = omega arith

list_short : (configs : List Config) → NoRefusal (RefusesEntries 2048 configs) → (config : Config) → Contains configs config → (list : ListText) → Contains config.lists list →
    length list.entries ≤ 2048
list_short configs clear config in_files list in_file = elim (cases_lt 2048 (length list.entries)) [
  | inl long ↦ absurd (by (long_list 2048 config) refl (lt-ltb 2048 (length list.entries) long))
  | inr short ↦ short
]
  where
    at : (k : ℕ) × (slice_get configs k ≡ Some config)
    at = place_of_item configs config in_files

    by : (o : Option ListText) → long_list 2048 config ≡ o → nat_lt 2048 (length list.entries) ≡ true → ⊥
    by None e long = found (λ (l : ListText). nat_lt 2048 (length l.entries)) config.lists list in_file long e
    by (Some first) e long =
        clear (record { file = at.0 + 1; number = 0; kind = kinds.Limit limits.Entries (length first.entries) })
        (record { place = at.0; config = config; at_place = at.1; list = first; first = e; told = refl })

pub room_within : (configs : List Config) (list : List Edit) (flags : List Bool) → NoRefusal (RefusesEntries 2048 configs) → length list ≤ 8192 → HasRoom (chosen_of list flags) configs
room_within configs list flags clear few =
    let chosen : length (chosen_of list flags) ≤ 8192 = omega (arith, few_picked if_chosen (zip list flags), few_zipped list flags, few) in
    record {
      old = λ config in_files text in_file. omega (arith, list_short configs clear config in_files text in_file, chosen);
      new = omega (arith, chosen);
    }
