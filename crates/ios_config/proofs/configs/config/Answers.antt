use Rattle.std.proofs.Common.{◌≡◌, ℕ, List, Option, None, MatchOption, ap, subst, ◌∙◌}
use Rattle.ios_config.specs.declared.commands.FileCommand.{FileCommand}
use Rattle.ios_config.specs.declared.settings.ListText.{ListText}
use Rattle.ios_config.specs.Rising.{NumbersRise, IsFirstNotRising}
use Rattle.ios_config.specs.Texts.{config_of}
use Rattle.ios_config.specs.Twice.{StandOnce, IsFirstDuplicate}
use Rattle.ios_config.proofs.Whole.{refused_falls, is_config}
use Rattle.ios_config.proofs.configs.config.Goals as goal

-- no block or list stands twice, where no duplicate is found
stand_once : (cs items : List FileCommand) (found : Option ℕ) → items ≡ cs → found ≡ None → MatchOption found (StandOnce items) (IsFirstDuplicate items) → StandOnce cs
stand_once cs items found same none said =
    subst StandOnce same (subst (λ (o : Option ℕ). MatchOption o (StandOnce items) (IsFirstDuplicate items)) none said)

pub returns-in-Some-first_not_rising : goal.returns-in-Some-first_not_rising
returns-in-Some-first_not_rising c =
    let cs = c.in_ok-commands.commands.items in
    let config = c.in_ok-config.config in
    let line = c.in-Some-first_not_rising.line in
    let once : StandOnce cs = stand_once cs c.deref.result.now c.in_ok-line.field-0 c.deref.ensures.value c.in-None.is c.in_ok-line.ensures in
    let set : config ≡ config_of cs = c.in_ok-config.ensures ∙ ap config_of c.deref-2.ensures.value in
    let first : IsFirstNotRising config.lists line =
    subst (λ (l : List ListText). IsFirstNotRising l line) c.slice.ensures.items c.in-Some-first_not_rising.ensures in
    refused_falls c.args.text.now c.args.lines.now cs c.in_ok-commands.ensures.ok config line once set first

pub returns : goal.returns
returns c =
    let cs = c.in_ok-commands.commands.items in
    let config = c.in_ok-config.config in
    let once : StandOnce cs = stand_once cs c.deref.result.now c.in_ok-line.field-0 c.deref.ensures.value c.in-None.is c.in_ok-line.ensures in
    let set : config ≡ config_of cs = c.in_ok-config.ensures ∙ ap config_of c.deref-2.ensures.value in
    let rising : NumbersRise config.lists = subst (λ (l : List ListText). NumbersRise l) c.slice.ensures.items c.in-None-first_not_rising.ensures in
    is_config c.args.text.now c.args.lines.now cs c.in_ok-commands.ensures.ok config once set rising
