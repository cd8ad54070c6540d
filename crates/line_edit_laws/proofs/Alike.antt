-- Commands that are the same but for the numbers of their blocks set the same.
use Rattle.std.proofs.Common.{◌≡◌, ℕ, not, Bool, true, false, cond, List, [], ◌∷◌, map, filter, refl, sym, ap, subst, ◌∙◌}
use Rattle.std.specs.Prelude.{option_map, AllPairs}
use Rattle.std.specs.List.{AllZip}
use Rattle.arc_base.proofs.Items.{AllPairs-map, AllPairs-unmap}
use Rattle.ios_words.specs.declared.commands.Command.{Command}
use Rattle.ios_config.specs.declared.commands.FileCommand.{FileCommand}
use Rattle.ios_config.specs.declared.settings.Given.{Given}
use Rattle.ios_config.specs.Bare.{bare, bare_groups, bare_setting, bare_config, config_from}
use Rattle.ios_config.specs.Groups.{Part, is_same, part_of, distinct, members}
use Rattle.ios_config.specs.Texts.{config_of, router_name}
use Rattle.ios_config.specs.Twice.{Clash, StandOnce}
use Rattle.ios_config.specs.Values.{last_setting, hostname}
use Rattle.ios_config.proofs.BareSettings.{bare-setting, bare-groups-set}
use Rattle.ios_config.proofs.HostnameStays.{named}
use Rattle.ios_config.proofs.PartLists.{others}

-- the commands say the same, and the one's part is the other's under another name
abbrev pub IsAlike : (Part → Part) → FileCommand → FileCommand → Type 0
IsAlike rename v c = (c.command ≡ v.command) × (part_of c ≡ rename (part_of v))

bare-same : (v c : FileCommand) → c.command ≡ v.command → bare c ≡ bare v
bare-same v c e i = record { line = 0; block = 0; command = e i }

pub bares : (rename : Part → Part) (vs cs : List FileCommand) → AllZip (IsAlike rename) vs cs → map bare cs ≡ map bare vs
bares rename [] [] all = refl
bares rename (v ∷ vs) (c ∷ cs) all = let one = bare-same v c all.0.0 in let rest = bares rename vs cs all.1 in λ i. one i ∷ rest i
bares rename vs cs all = absurd all

commands-same : (rename : Part → Part) (vs cs : List FileCommand) → AllZip (IsAlike rename) vs cs → map (λ (c : FileCommand). c.command) cs ≡ map (λ (c : FileCommand). c.command) vs
commands-same rename [] [] all = refl
commands-same rename (v ∷ vs) (c ∷ cs) all = let one = all.0.0 in let rest = commands-same rename vs cs all.1 in λ i. one i ∷ rest i
commands-same rename vs cs all = absurd all

pub once-alike : (rename : Part → Part) (vs cs : List FileCommand) → AllZip (IsAlike rename) vs cs → StandOnce vs → StandOnce cs
once-alike rename vs cs all once =
    let apart : Command → Command → Type 0 = λ b c. ¬ Clash b c in
    AllPairs-unmap apart (λ (c : FileCommand). c.command) cs
    (subst (λ (l : List Command). AllPairs apart l) (sym (commands-same rename vs cs all)) (AllPairs-map apart (λ (c : FileCommand). c.command) vs once))

module _ (rename : Part → Part) (same : (p q : Part) → is_same (rename p) (rename q) ≡ is_same p q) where
  others-step : (p x : Part) (xs : List Part) (b : Bool) → filter (λ q. not (is_same (rename p) q)) (map rename xs) ≡ map rename (others p xs) →
      cond b (rename x ∷ filter (λ q. not (is_same (rename p) q)) (map rename xs)) (filter (λ q. not (is_same (rename p) q)) (map rename xs)) ≡ map rename (cond b (x ∷ others p xs) (others p xs))
  others-step p x xs true rest = ap (λ r. rename x ∷ r) rest
  others-step p x xs false rest = rest

  others-renamed : (p : Part) (xs : List Part) → others (rename p) (map rename xs) ≡ map rename (others p xs)
  others-renamed p [] = refl
  others-renamed p (x ∷ xs) =
      ap (λ b. cond (not b) (rename x ∷ others (rename p) (map rename xs)) (others (rename p) (map rename xs))) (same p x)
      ∙ others-step p x xs (not (is_same p x)) (others-renamed p xs)

  distinct-renamed : (ps : List Part) → distinct (map rename ps) ≡ map rename (distinct ps)
  distinct-renamed [] = refl
  distinct-renamed (p ∷ ps) = ap (λ r. rename p ∷ others (rename p) r) (distinct-renamed ps) ∙ ap (λ r. rename p ∷ r) (others-renamed p (distinct ps))

  parts-renamed : (vs cs : List FileCommand) → AllZip (IsAlike rename) vs cs → map part_of cs ≡ map rename (map part_of vs)
  parts-renamed [] [] all = refl
  parts-renamed (v ∷ vs) (c ∷ cs) all = let one = all.0.1 in let rest = parts-renamed vs cs all.1 in λ i. one i ∷ rest i
  parts-renamed vs cs all = absurd all

  members-step : (p : Part) (v c : FileCommand) (vs cs : List FileCommand) → c.command ≡ v.command → map bare (members cs (rename p)) ≡ map bare (members vs p) → (b : Bool) →
      map bare (cond b (c ∷ members cs (rename p)) (members cs (rename p))) ≡ map bare (cond b (v ∷ members vs p) (members vs p))
  members-step p v c vs cs e rest true = let one = bare-same v c e in λ i. one i ∷ rest i
  members-step p v c vs cs e rest false = rest

  members-alike : (p : Part) (vs cs : List FileCommand) → AllZip (IsAlike rename) vs cs → map bare (members cs (rename p)) ≡ map bare (members vs p)
  members-alike p [] [] all = refl
  members-alike p (v ∷ vs) (c ∷ cs) all =
      ap (λ b. map bare (cond b (c ∷ members cs (rename p)) (members cs (rename p)))) (ap (is_same (rename p)) all.0.1 ∙ same p (part_of v))
      ∙ members-step p v c vs cs all.0.0 (members-alike p vs cs all.1) (is_same p (part_of v))
  members-alike p vs cs all = absurd all

  all-members : (vs cs : List FileCommand) → AllZip (IsAlike rename) vs cs → (ps : List Part) → map (map bare) (map (members cs) (map rename ps)) ≡ map (map bare) (map (members vs) ps)
  all-members vs cs all [] = refl
  all-members vs cs all (p ∷ ps) = let one = members-alike p vs cs all in let rest = all-members vs cs all ps in λ i. one i ∷ rest i

  groups-alike : (vs cs : List FileCommand) → AllZip (IsAlike rename) vs cs → bare_groups cs ≡ bare_groups vs
  groups-alike vs cs all =
      ap (λ ps. map (map bare) (map (members cs) (distinct ps))) (parts-renamed vs cs all)
      ∙ ap (λ ps. map (map bare) (map (members cs) ps)) (distinct-renamed (map part_of vs))
      ∙ all-members vs cs all (distinct (map part_of vs))

  pub config-alike : (vs cs : List FileCommand) → AllZip (IsAlike rename) vs cs → bare_config (config_of cs) ≡ bare_config (config_of vs)
  config-alike vs cs all =
      let name : option_map bare_setting (router_name cs) ≡ option_map bare_setting (router_name vs) =
      named (last_setting hostname cs) ∙
      ap (option_map (λ (g : Given (List ℕ)). record { name = g.value; line = g.line }))
      (sym (bare-setting hostname cs) ∙ ap (last_setting hostname) (bares rename vs cs all) ∙ bare-setting hostname vs) ∙
      sym (named (last_setting hostname vs)) in
      let group : bare_groups cs ≡ bare_groups vs = groups-alike vs cs all in
      bare-groups-set cs ∙ (λ i. config_from (name i) (group i)) ∙ sym (bare-groups-set vs)
