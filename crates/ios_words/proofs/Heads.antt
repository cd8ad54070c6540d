-- Only top lines head blocks that are read.
use Rattle.std.proofs.Common.{◌≡◌, ℕ, not, Bool, true, false, List, [], ◌∷◌, Some, refl, sym, ap, subst, ◌∙◌, ⊎_elim, true≢false}
use Rattle.std.proofs.lemmas.Bool.{cases_Bool, cond-true, cond-false, and_parts}
use Rattle.std.proofs.lemmas.Option.{none-some, same_Some}
use Rattle.std.specs.List.{find, list_all}
use Rattle.ios_words.specs.declared.commands.Command.{Command}
use Rattle.ios_words.specs.declared.kinds.BlockKind.TheVariants as kinds
use Rattle.ios_words.specs.declared.rows.Meaning.{Meaning}
use Rattle.ios_words.specs.declared.rows.Meaning.TheVariants as means
use Rattle.ios_words.specs.Commands.{ReadBy}
use Rattle.ios_words.specs.Language.{rows}
use Rattle.ios_words.specs.Laws.{heads_block, HeadsAreTopLines}
use Rattle.ios_words.specs.Meanings.{give}
use Rattle.ios_words.specs.Rows.{Rule}
use Rattle.ios_words.specs.Values.{Values}

-- what passes a test of all is found
pub find-passes : (p q : Rule → Bool) (xs : List Rule) (x : Rule) → find p xs ≡ Some x → list_all q xs ≡ true → q x ≡ true
find-passes p q [] x is all = absurd (none-some x is)
find-passes p q (y ∷ xs) x is all = ⊎_elim
    (λ here. subst (λ (r : Rule). q r ≡ true) (same_Some y x (sym (cond-true (p y) (Some y) (find p xs) here) ∙ is)) (and_parts _ _ all).0)
    (λ other. find-passes p q xs x (sym (cond-false (p y) (Some y) (find p xs) other) ∙ is) (and_parts _ _ all).1)
    (cases_Bool (p y))

-- whether a row of this meaning heads a block that is read
abbrev pub heads : Meaning → Bool
heads means.Interface = true
heads means.RouterOspf = true
heads means.RouterBgp = true
heads means.ExtendedList = true
heads means.StandardList = true
heads _ = false

pub heads-give : (meaning : Meaning) (values : Values) → heads_block (give meaning values) ≡ heads meaning
heads-give means.Interface values = refl
heads-give means.RouterOspf values = refl
heads-give means.RouterBgp values = refl
heads-give means.ExtendedList values = refl
heads-give means.StandardList values = refl
heads-give _ values = refl

abbrev heads_no : Rule → Bool
heads_no r = not (heads r.meaning)

pub inner-none : {A : Type 0} → (extended : Bool) (ws : List (List ℕ)) (rules : List Rule) (command : Command) → ReadBy extended ws rules command →
    list_all heads_no rules ≡ true → heads_block command ≡ true → A
inner-none extended ws rules command reads all heads_it =
    let passes : not (heads reads.rule.meaning) ≡ true = find-passes _ heads_no rules reads.rule reads.first all in
    let is : heads reads.rule.meaning ≡ true = sym (heads-give reads.rule.meaning reads.values) ∙ ap heads_block (sym reads.gives) ∙ heads_it in
    absurd (true≢false (sym passes ∙ ap not is))

pub heads-top : HeadsAreTopLines
heads-top kinds.Top ws command reads is = reads
heads-top kinds.Interface ws command reads is = inner-none false ws (rows kinds.Interface) command reads refl is
heads-top kinds.Ospf ws command reads is = inner-none false ws (rows kinds.Ospf) command reads refl is
heads-top kinds.Bgp ws command reads is = inner-none false ws (rows kinds.Bgp) command reads refl is
heads-top kinds.Extended ws command reads is = inner-none true ws (rows kinds.Extended) command reads refl is
heads-top kinds.Standard ws command reads is = inner-none false ws (rows kinds.Standard) command reads refl is
heads-top kinds.Inert ws command reads is = inner-none false ws (rows kinds.Inert) command reads refl is
