-- The answers of `config`, from those of its parts.
use Rattle.std.proofs.Common.{◌≡◌, ℕ, List, inl, inr, refl, subst}
use Rattle.std.specs.Prelude.{Err}
use Rattle.arc_base.specs.declared.refusal.Kind.TheVariants.{SequenceNotRising}
use Rattle.ios_lines.specs.declared.line.Lines.{Lines}
use Rattle.ios_config.specs.declared.commands.FileCommand.{FileCommand}
use Rattle.ios_config.specs.declared.settings.Config.{Config}
use Rattle.ios_config.specs.declared.fault.ConfigFault.{ConfigFault}
use Rattle.ios_config.specs.declared.fault.ConfigFault.TheVariants.{Refused, Memory}
use Rattle.ios_config.specs.Commands.{AreCommandsOf, IsFaultOfFile}
use Rattle.ios_config.specs.Configs.{IsConfigOf, IsRefused, Configures}
use Rattle.ios_config.specs.Rising.{NumbersRise, IsFirstNotRising}
use Rattle.ios_config.specs.Texts.{config_of}
use Rattle.ios_config.specs.Twice.{StandOnce}

-- the first line that is no command
pub refused_line : (text : List ℕ) (lines : Lines) (fault : ConfigFault) → IsFaultOfFile text lines fault → Configures text lines (Err fault)
refused_line text lines (Refused line kind) is = inl is
refused_line text lines Memory is = tt

module _ (text : List ℕ) (lines : Lines) (cs : List FileCommand) (read : AreCommandsOf text lines cs) where
  -- the first entry whose number does not rise
  pub refused_falls : (config : Config) (line : ℕ) → StandOnce cs → config ≡ config_of cs →
      IsFirstNotRising config.lists line → IsRefused text lines line SequenceNotRising
  refused_falls config line once set first =
      inr (inr (refl, record { commands = cs; read = read; once = once; falls = subst (λ (c : Config). IsFirstNotRising c.lists line) set first }))

  -- and else the settings
  pub is_config : (config : Config) → StandOnce cs → config ≡ config_of cs → NumbersRise config.lists → IsConfigOf text lines config
  is_config config once set rising = record { commands = cs; read = read; once = once; rising = rising; set = set }
