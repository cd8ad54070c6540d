-- The files of a generated network are router files, and this is what they set.
use Rattle.std.proofs.Common.{◌≡◌, ℕ, ◌+◌, ◌*◌, ◌<◌, ◌≤◌, inl, inr, List, [], ◌∷◌, length, filter, map, refl, sym, ap, subst, ◌∙◌, arith, Contains}
use Rattle.std.specs.List.{AllByRecursion, AllZip}
use Rattle.std.proofs.lemmas.List.Elements.{recursion_from_All}
use Rattle.arc_base.specs.declared.refusal.Kind.{Kind}
use Rattle.arc_base.proofs.Items as items
use Rattle.net_doc.specs.declared.fault.Refusal.{Refusal}
use Rattle.ios_lines.specs.declared.line.Lines.{Lines}
use Rattle.ios_lines.specs.Blocks.{IsOrphan}
use Rattle.ios_lines.specs.Kinds.{open_banner}
use Rattle.ios_lines.specs.Lines.{AreLinesOf, HasOrphanAt, HasOpenBannerAt}
use Rattle.ios_lines.specs.Texts.{text_lines}
use Rattle.ios_lines.proofs.Orphans.{no-first, no-banner-at}
use Rattle.ios_config.specs.declared.commands.FileCommand.{FileCommand}
use Rattle.ios_config.specs.declared.settings.Config.{Config}
use Rattle.ios_config.specs.Configs.{IsConfigOf}
use Rattle.ios_config.specs.Inserted.{AreMarksRead}
use Rattle.ios_config.specs.LineLists.{marks_in}
use Rattle.ios_config.specs.Rising.{FallsAt}
use Rattle.ios_config.proofs.LineLists.{commands-of-lines}
use Rattle.ios_config.proofs.OneAnswer.{refused_alone}
use Rattle.ios_config.proofs.Unique.{config_one}
use Rattle.net_build.specs.Networks.{HasSettings, SaysWrong, IsFaulty, IsFirstFaulty}
use Rattle.net_gen.specs.Plans.{numbers, link_count, has_end}
use Rattle.net_gen.specs.RouterFiles.{router_lines, text_of}
use Rattle.net_gen.specs.Generated.{router_texts}
use Rattle.generated_network_laws.proofs.AddedLines.{AreRead}
use Rattle.generated_network_laws.proofs.Files.{IsSmall, file_commands, file-read}
use Rattle.generated_network_laws.proofs.Items.{none}
use Rattle.generated_network_laws.proofs.Once.{stands-once, ports-rise}
use Rattle.generated_network_laws.proofs.Plans.{in-range, mapped-at, port-few}
use Rattle.generated_network_laws.proofs.Settings.{settings, sets}
use Rattle.generated_network_laws.proofs.Texts.{lines-of}

-- the links that end at a router
abbrev pub links_of : ℕ → ℕ → List ℕ
links_of n router = filter (has_end n router) (numbers (link_count n))

-- what the file of each router sets
abbrev pub settings_of : ℕ → ℕ → Config
settings_of n router = settings n router (links_of n router)

abbrev pub all_settings : ℕ → List Config
all_settings n = map (settings_of n) (numbers n)

links-small : (n router : ℕ) → n ≤ 40 → AllByRecursion (IsSmall n router) (links_of n router)
links-small n router few =
    recursion_from_All (IsSmall n router) (links_of n router) (items.All-from (IsSmall n router) (links_of n router) (λ link there.
    let ranged = in-range 1 (link_count n) link (items.from_filter (has_end n router) (numbers (link_count n)) link there).0 in
    let high : link < 1 + link_count n = ranged.1 in
    let most = port-few n router link in
    (omega arith, omega arith)))

-- why a text is no router file, if it is none, told of what it sets
pub record IsRouterFile (text : List ℕ) (config : Config) : Type 0 where
  pub says : (other : Config) → HasSettings text other → other ≡ config
  pub right : (line : ℕ) (kind : Kind) → IsFaulty text line kind → ⊥

module _ (n router : ℕ) (few : n ≤ 40) (own : router ≤ n) where
  text : List ℕ
  text = text_of (router_lines n router)

  commands : List FileCommand
  commands = file_commands n router (links_of n router)

  read : AreRead (router_lines n router) commands (5 + 3 * length (links_of n router) + 4)
  unfolding commands
  read = file-read n router (links_of n router) (omega arith) (links-small n router few)

  lines-are : text_lines text ≡ router_lines n router
  unfolding text
  lines-are = lines-of (router_lines n router) read.plain

  no-orphan : (number : ℕ) → HasOrphanAt text number → ⊥
  no-orphan number has = no-first text (λ place orphan. read.are.no_orphan place (subst (λ ls. IsOrphan ls place) lines-are orphan)) number has

  no-banner : (number : ℕ) → HasOpenBannerAt text number → ⊥
  no-banner number has = no-banner-at text (ap open_banner lines-are ∙ read.banner) number has

  config-is : (lines : Lines) → AreLinesOf text lines → IsConfigOf text lines (settings_of n router)
  unfolding commands
  config-is lines are =
      let marks : AreMarksRead (marks_in (text_lines text)) commands = subst (λ ls. AreMarksRead (marks_in ls) commands) (sym lines-are) read.are.reads in
      record {
        commands = commands;
        read = (commands-of-lines text lines commands are).1 marks;
        once = stands-once n router (links_of n router) (ports-rise n router few);
        rising = λ line falls. none (λ list. FallsAt list.entries line) falls;
        set = sym (sets n router (links_of n router));
      }

  wrong-none : (line : ℕ) (kind : Kind) → SaysWrong text line kind → ⊥
  wrong-none line kind wrong = refused_alone text wrong.lines (settings_of n router) line kind (config-is wrong.lines wrong.are_lines) wrong.refused

  pub is-file : IsRouterFile (text_of (router_lines n router)) (settings_of n router)
  unfolding text
  is-file = record {
    says = λ other says. config_one text says.lines other (settings_of n router) says.is_config (config-is says.lines says.are_lines);
    right = λ line kind faulty. elim faulty [
      | inl orphan ↦ no-orphan line orphan.1
      | inr (inl banner) ↦ no-banner line banner.1
      | inr (inr wrong) ↦ wrong-none line kind wrong
    ];
  }

said-all : (f : ℕ → List ℕ) (g : ℕ → Config) (xs : List ℕ) (configs : List Config) → ((x : ℕ) → Contains xs x → (c : Config) → HasSettings (f x) c → c ≡ g x) →
    AllZip HasSettings (map f xs) configs → configs ≡ map g xs
said-all f g [] [] each said = refl
said-all f g (x ∷ xs) (c ∷ configs) each said =
    ap (λ d. d ∷ configs) (each x (items.Contains-head x xs) c said.0)
    ∙ ap (λ ds. g x ∷ ds) (said-all f g xs configs (λ y there. each y (items.Contains-tail x y xs there)) said.1)
said-all f g xs configs each said = absurd said

-- the files set this, and none of them is no router file
pub files-say : (n : ℕ) (configs : List Config) → n ≤ 40 → AllZip HasSettings (router_texts n) configs → configs ≡ all_settings n
files-say n configs few said =
    said-all (λ router. text_of (router_lines n router)) (settings_of n) (numbers n) configs
    (λ router there c says. let ranged = in-range 1 n router there in let high : router < 1 + n = ranged.1 in (is-file n router few (omega arith)).says c says) said

pub none-faulty : (n : ℕ) (r : Refusal) → n ≤ 40 → IsFirstFaulty (router_texts n) r → ⊥
none-faulty n r few first =
    let at = mapped-at (λ router. text_of (router_lines n router)) 1 n first.place first.text first.at_place in
    let low : first.place < n = at.0 in
    (is-file n (1 + first.place) few (omega arith)).right r.number r.kind (subst (λ t. IsFaulty t r.number r.kind) (sym at.1) first.faulty)
