-- That no gap is left between a network and a first refusal: each definition says that of two
-- things one is there.
use Rattle.std.specs.Prelude.{ℕ, List}
use Rattle.std.specs.List.{AllZip}
use Rattle.arc_base.specs.declared.refusal.Kind.{Kind}
use Rattle.net_doc.specs.declared.fault.Refusal.{Refusal}
use Rattle.net_model.specs.declared.policies.Document.{Document}
use Rattle.net_model.specs.declared.rows.Network.{Network}
use Rattle.ios_config.specs.declared.settings.Config.{Config}
use Rattle.net_build.specs.Networks.{HasBlocks, IsFaulty, IsFirstRefusalWithin, IsNetworkWithin}
use Rattle.net_build.specs.Networks.{HasSettings}
use Rattle.net_rules.specs.Rows.{AreRows}

-- a text that is refused at no line has blocks
abbrev pub TextsHaveBlocks : Type 0
TextsHaveBlocks =
    (text : List ℕ) → ((line : ℕ) (kind : Kind) → ¬ IsFaulty text line kind) → HasBlocks text

-- where each file has settings and these have rows: it cannot be that there is neither their
-- network nor a first refusal
abbrev pub SettingsHaveAnswer : Type 0
SettingsHaveAnswer =
    (down : List ℕ) (most_entries : ℕ) (doc : Document) (files : List (List ℕ))
    (configs : List Config) (net : Network) → AllZip HasSettings files configs →
    AreRows doc configs net
    → ¬ IsNetworkWithin down most_entries doc files net
    → ((r : Refusal) → ¬ IsFirstRefusalWithin down most_entries doc files r) → ⊥
