-- The commands of the table are plain, and so are commands of another; and the steps of the loops that build them.
use Rattle.std.proofs.Common.{◌≡◌, ◌∙◌, ◌&&◌, ◌+◌, ◌<◌, ℕ, suc, Bool, true, false, not, List, [], ◌∷◌, length, drop, drop-cons, get_or, add-one, fold, map, refl, sym, ap}
use Rattle.std.proofs.lemmas.Bool.{and_parts, not-true}
use Rattle.clap.specs.Simple.{App, app_of}
use Rattle.clap.specs.Walk.{Text}
use Rattle.clap.specs.declared.builder.command.Command.{Command}
use Rattle.clap.specs.declared.builder.command.Command.TheViews.{out-Command as fields_of}
use Rattle.command_words.specs.Commands.{Form}
use Rattle.command_words.specs.Grammar.{command_app, with_option, with_place}

-- in a plain command no argument is global
third : (a b c rest : Bool) → (a && (b && (not c && rest))) ≡ true → c ≡ false
third a b c rest e = not-true c (and_parts (not c) rest (and_parts b (not c && rest) (and_parts a (b && (not c && rest)) e).1).1).0

pub local : (sub : Command) (a : App) → app_of sub ≡ a → a.top.is_plain ≡ true → (fields_of sub).has_globals ≡ false
local sub a is plain = third _ _ _ _ (ap (λ (x : App). x.top.is_plain) is ∙ plain)

places_plain : (places : List Text) (a : App) → (fold with_place a places).top.is_plain ≡ a.top.is_plain
places_plain [] a = refl
places_plain (place ∷ places) a = places_plain places (with_place a place)

options_plain : (needed : Bool) (options : List Text) (a : App) → (fold (with_option needed) a options).top.is_plain ≡ a.top.is_plain
options_plain needed [] a = refl
options_plain needed (choice ∷ options) a = options_plain needed options (with_option needed a choice)

pub command_plain : (form : Form) → (command_app form).top.is_plain ≡ true
command_plain form = options_plain false form.optional _ ∙ (options_plain true form.needed _ ∙ places_plain form.places _)

-- what is left to be added, after one more item
pub added_one : {A B C : Type 0} (f : A → C → A) (view : B → C) (made more : A) (items : List B) (i : ℕ) (d : B) → i < length items → more ≡ f made (view (get_or items i d))
    → fold f made (map view (drop i items)) ≡ fold f more (map view (drop (i + 1) items))
added_one {A} {B} f view made more items i d below is =
    let rest : drop (suc i) items ≡ drop (i + 1) items = rw add-one refl in
    ap (λ (xs : List B). fold f made (map view xs)) (drop-cons items i d below)
    ∙ (ap (λ (a : A). fold f a (map view (drop (suc i) items))) (sym is) ∙ ap (λ (xs : List B). fold f more (map view xs)) rest)
