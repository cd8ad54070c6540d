-- What one more line at the end of a process changes.
use Rattle.std.proofs.Common.{◌≡◌, ◌==◌, Bool, true, false, cond, List, [], ◌∷◌, ◌++◌, Option, Some, None, unwrap_or, refl, ap, ◌∙◌, append-nil}
use Rattle.std.proofs.lemmas.List.Elements.{filter_map-append}
use Rattle.std.specs.List.{filter_map, last_or, cons_option}
use Rattle.std.specs.Option.{option_or}
use Rattle.std.specs.Str.{bytes_eq}
use Rattle.ios_words.specs.declared.commands.Command.TheVariants as commands
use Rattle.ios_words.specs.declared.commands.Command.{Command}
use Rattle.ios_config.specs.declared.settings.Given.{Given}
use Rattle.net_build.specs.Appends.{line_of, TheLastLineCounts, APassiveLineCounts, ANeighborLineCounts, ABindingLineCounts}
use Rattle.net_rules.specs.Settings.{last_said, says_passive}
use Rattle.net_rules.specs.Neighbors.{says_down, says_filter}

last-of : {X : Type 0} → (o : Option X) (xs : List X) (x : X) → last_or o (xs ++ x ∷ []) ≡ Some x
last-of o [] x = refl
last-of o (y ∷ xs) x = last-of (Some y) xs x

last-more : {X : Type 0} → (xs : List X) (o : Option X) → last_or None (xs ++ cons_option o []) ≡ option_or o (last_or None xs)
last-more xs None = ap (last_or None) (append-nil xs)
last-more xs (Some x) = last-of None xs x

pub last-counts : {X : Type 0} → (says : Command → Option X) → TheLastLineCounts says
last-counts says lines g = ap (last_or None) (filter_map-append (λ (h : Given Command). says h.value) lines (g ∷ []))
    ∙ last-more (filter_map (λ (h : Given Command). says h.value) lines) (says g.value)

-- a value that a test lets through or not
tested : {X : Type 0} → (b : Bool) (x d : X) (before : Option X) → unwrap_or (option_or (cond b (Some x) None) before) d ≡ cond b x (unwrap_or before d)
tested true x d before = refl
tested false x d before = refl

chosen : {X : Type 0} → (b : Bool) (x : X) (before : Option X) → option_or (cond b (Some x) None) before ≡ cond b (Some x) before
chosen true x before = refl
chosen false x before = refl

pub passive-counts : APassiveLineCounts
passive-counts lines line passive face name =
    ap (λ o. unwrap_or o false) (last-counts (says_passive name) lines (line_of line (commands.Passive passive (Some face)))) ∙ tested (bytes_eq face name)
    passive false (last_said (says_passive name) lines)

pub neighbor-counts : ANeighborLineCounts
neighbor-counts lines line peer other down =
    ap (λ o. unwrap_or o false) (last-counts (says_down other) lines (line_of line (commands.NeighborDown peer down))) ∙ tested (peer == other) down false (last_said (says_down other) lines)

pub binding-counts : ABindingLineCounts
binding-counts lines line peer other name =
    last-counts (says_filter other) lines (line_of line (commands.NeighborList peer name)) ∙ chosen (peer == other) name (last_said (says_filter other) lines)
