-- A command that is no hostname line leaves the name of the router.
use Rattle.std.proofs.Common.{◌≡◌, ℕ, Bool, false, List, [], ◌∷◌, ◌++◌, map, reverse, Option, Some, None, is_some, refl, sym, ap, ◌∙◌, append_assoc}
use Rattle.std.proofs.lemmas.Bool.{cond-false}
use Rattle.std.proofs.lemmas.List.{map-append, reverse-append}
use Rattle.std.proofs.lemmas.List.Folds.{find-append}
use Rattle.std.proofs.lemmas.Simd.{map-map}
use Rattle.std.specs.Prelude.{option_map, option_and_then}
use Rattle.std.specs.List.{find}
use Rattle.std.specs.Option.{option_or}
use Rattle.ios_config.specs.declared.commands.FileCommand.{FileCommand}
use Rattle.ios_config.specs.declared.settings.Given.{Given}
use Rattle.ios_config.specs.Bare.{bare, bare_option, bare_setting, TheHostnameStays}
use Rattle.ios_config.specs.Inserted.{command_moved}
use Rattle.ios_config.specs.Joined.{between}
use Rattle.ios_config.specs.Values.{Says, given_at, last_setting, hostname}
use Rattle.ios_config.proofs.BareSettings.{bare-setting}

-- a command that says nothing of a value leaves it
pub setting-stays : {V : Type 0} → (says : Says V) (front : List FileCommand) (c : FileCommand) (back : List FileCommand) → says c.command ≡ None →
    last_setting says (front ++ c ∷ back) ≡ last_setting says (front ++ back)
setting-stays {V} says front c back silent =
    let f : FileCommand → Option (Given V) = λ d. given_at d.line (says d.command) in
    let p : FileCommand → Bool = λ d. is_some (says d.command) in
    let none : p c ≡ false = ap is_some silent in
    ap (λ l. option_and_then f (find p l)) (reverse-append front (c ∷ back) ∙ ap (λ r. r ++ reverse front) (reverse-append (c ∷ []) back) ∙ append_assoc (reverse back) (c ∷ []) (reverse front))
    ∙ ap (option_and_then f) (find-append p (reverse back) (c ∷ reverse front) ∙ ap (option_or (find p (reverse back))) (cond-false (p c) (Some c) (find p (reverse front)) none)
    ∙ sym (find-append p (reverse back) (reverse front)))
    ∙ ap (λ l. option_and_then f (find p l)) (sym (reverse-append front back))

pub named : (o : Option (Given (List ℕ))) → option_map bare_setting (option_map (λ (g : Given (List ℕ)). record { name = g.value; line = g.line }) o) ≡ option_map
    (λ (g : Given (List ℕ)). record { name = g.value; line = g.line }) (bare_option o)
named None = refl
named (Some g) = refl

pub hostname-stays : TheHostnameStays
hostname-stays place front c back silent =
    let moved = command_moved place in
    let bares : map bare (between place front c back) ≡ map bare front ++ bare c ∷ map bare back =
    map-append bare (map moved front) (c ∷ map moved back) ∙ ap (λ r. r ++ bare c ∷ map bare (map moved back)) (map-map bare moved front)
    ∙ ap (λ r. map bare front ++ bare c ∷ r) (map-map bare moved back) in
    let same : bare_option (last_setting hostname (between place front c back)) ≡ bare_option (last_setting hostname (front ++ back)) =
    sym (bare-setting hostname (between place front c back)) ∙ ap (last_setting hostname) bares ∙ setting-stays hostname (map bare front) (bare c) (map bare back) silent
    ∙ ap (last_setting hostname) (sym (map-append bare front back)) ∙ bare-setting hostname (front ++ back) in
    named (last_setting hostname (between place front c back)) ∙ ap (option_map (λ (g : Given (List ℕ)). record { name = g.value; line = g.line })) same
    ∙ sym (named (last_setting hostname (front ++ back)))
