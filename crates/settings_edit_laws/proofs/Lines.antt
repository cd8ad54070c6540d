-- The lines of a process after edits, and what they say.
use Rattle.std.proofs.Common.{◌≡◌, ℕ, ◌⊎◌, inl, inr, not, Option, Some, None, List, [], ◌∷◌, ◌++◌, map, refl, sym, ◌∙◌, ap, subst, unwrap_or}
use Rattle.std.specs.Prelude.{Contains, IsSome, slice_get, option_map, option_and_then}
use Rattle.std.specs.Option.{option_map_or}
use Rattle.std.specs.List.{filter_map, last_or}
use Rattle.std.proofs.lemmas.Option.{none-some, same_Some}
use Rattle.std.proofs.lemmas.List.{map-append}
use Rattle.std.proofs.lemmas.List.Elements.{filter_map-append, Contains-append_cases, Contains-append_left}
use Rattle.net_model.specs.declared.rows.Network.{Network}
use Rattle.net_model.specs.declared.rows.FaceRow.{FaceRow}
use Rattle.net_model.specs.declared.rows.SessionRow.{SessionRow}
use Rattle.net_model.specs.declared.rows.Protocol.{Protocol}
use Rattle.net_model.specs.declared.rows.Protocol.TheVariants.{Ospf, Bgp}
use Rattle.net_model.specs.Routing.{session_at}
use Rattle.ios_words.specs.declared.commands.Command.{Command}
use Rattle.ios_words.specs.declared.commands.Command.TheVariants as commands
use Rattle.ios_config.specs.declared.settings.Config.{Config}
use Rattle.ios_config.specs.declared.settings.Given.{Given}
use Rattle.ios_config.specs.declared.settings.ProcessText.{ProcessText}
use Rattle.ios_config.specs.declared.settings.Setting.{Setting}
use Rattle.ios_config.specs.Bare.{bare_process, bare_given, bare_setting}
use Rattle.net_rules.specs.Settings.{process_of, lines_of, last_said}
use Rattle.net_rules.specs.Sites.{host_name}
use Rattle.edit_list.specs.declared.edit_kinds.Edit.{Edit}
use Rattle.edit_list.specs.declared.edit_kinds.Edit.TheVariants as edits
use Rattle.edit_list.specs.declared.list_kinds.NewList.{NewList}
use Rattle.edit_list.specs.declared.list_kinds.NewList.TheVariants as lists
use Rattle.edit_list.proofs.NewListFacts.{picked_from}
use Rattle.settings_edit_laws.specs.Plain.{said}
use Rattle.line_patcher.specs.Additions.{process_commands}
use Rattle.line_patcher.specs.NewListLines.{filter_command}
use Rattle.edit_list.specs.NewLists.{named_lists}
use Rattle.settings_edit_laws.specs.SettingsAfter.{process_with, AreSettingsAfter}
use Rattle.settings_edit_laws.proofs.Turned.{own_face, session_line, turned_lines, turning_line}
use Rattle.settings_edit_laws.proofs.Pairs.{last_append, picked_of_values, picks_nothing}

-- the commands that edits add to a process: an interface is passive or not, a neighbour is shut down or not, or has a list bound
abbrev pub IsAdded : Command → Type 0
IsAdded (commands.Passive on (Some name)) = Unit {0}
IsAdded (commands.NeighborDown peer down) = Unit {0}
IsAdded (commands.NeighborList peer list) = Unit {0}
IsAdded other = ⊥

-- the commands of lines
abbrev pub commands_of : List (Given Command) → List Command
commands_of lines = map (λ g. g.value) lines

bare_commands : (lines : List (Given Command)) → commands_of (map bare_given lines) ≡ commands_of lines
bare_commands [] = refl
bare_commands (g ∷ lines) = ap (λ l. g.value ∷ l) (bare_commands lines)

said_commands : (cs : List Command) → commands_of (map said cs) ≡ cs
said_commands [] = refl
said_commands (c ∷ cs) = ap (λ l. c ∷ l) (said_commands cs)

module _ (net : Network) (chosen : List Edit) (router : ℕ) where
  session_added : (protocol : Protocol) (place : ℕ) (row : FaceRow) (c : Command) → session_line protocol net place row ≡ Some c → IsAdded c
  session_added Ospf place row c e = subst IsAdded (same_Some (commands.Passive (not row.passive) (Some row.name)) c e) tt
  session_added Bgp place row c e = by (session_at net (record { 0 = place })) e
    where
      by : (o : Option SessionRow) → option_map (λ (s : SessionRow). commands.NeighborDown s.peer (not s.down)) o ≡ Some c → IsAdded c
      by None e = absurd (none-some c e)
      by (Some s) e = subst IsAdded (same_Some (commands.NeighborDown s.peer (not s.down)) c e) tt

  turning_added : (edit : Edit) (c : Command) → turning_line net router edit ≡ Some c → IsAdded c
  turning_added (edits.Session face) c e = by (own_face net router face.0) e
    where
      by : (o : Option FaceRow) → option_and_then (session_line net.protocol net face.0) o ≡ Some c → IsAdded c
      by None e = absurd (none-some c e)
      by (Some row) e = session_added net.protocol face.0 row c e
  turning_added other c e = absurd (none-some c e)

  filter_added : (name : List ℕ) (list : NewList) (c : Command) → filter_command net list name ≡ Some c → IsAdded c
  filter_added name (lists.Route face) c e = by (session_at net face) e
    where
      by : (o : Option SessionRow) → option_map (λ (s : SessionRow). commands.NeighborList s.peer name) o ≡ Some c → IsAdded c
      by None e = absurd (none-some c e)
      by (Some s) e = subst IsAdded (same_Some (commands.NeighborList s.peer name) c e) tt
  filter_added name (lists.Packet face) c e = absurd (none-some c e)

  abbrev pub turning_lines : List Command
  turning_lines = filter_map (turning_line net router) chosen

  abbrev pub filter_lines : List Command
  filter_lines = filter_map (λ (l : NewList × List ℕ). filter_command net l.0 l.1) (named_lists net chosen router)

  pub turning_lines_added : (c : Command) → Contains turning_lines c → IsAdded c
  turning_lines_added c there = let r = picked_from (turning_line net router) chosen c there in turning_added r.0 c r.2

  pub filter_lines_added : (c : Command) → Contains filter_lines c → IsAdded c
  filter_lines_added c there =
      let r = picked_from (λ (l : NewList × List ℕ). filter_command net l.0 l.1) (named_lists net chosen router) c there in
      filter_added r.0.1 r.0.0 c r.2

  -- the process after the edits is the one before with the lines of the edits
  abbrev pub ProcessAfter : Option ProcessText → Option ProcessText → Type 0
  ProcessAfter None None = Unit {0}
  ProcessAfter (Some p) (Some q) = bare_process q ≡ process_with net chosen router (bare_process p)
  ProcessAfter p q = ⊥

  first_of_maps : (ps qs : List ProcessText) → map bare_process qs ≡ map (process_with net chosen router) (map bare_process ps) → ProcessAfter (slice_get ps 0) (slice_get qs 0)
  first_of_maps [] [] e = tt
  first_of_maps [] (q ∷ qs) e = absurd (none-some (bare_process q) (sym (ap (λ (l : List ProcessText). slice_get l 0) e)))
  first_of_maps (p ∷ ps) [] e = absurd (none-some (process_with net chosen router (bare_process p)) (ap (λ (l : List ProcessText). slice_get l 0) e))
  first_of_maps (p ∷ ps) (q ∷ qs) e = same_Some (bare_process q) (process_with net chosen router (bare_process p)) (ap (λ (l : List ProcessText). slice_get l 0) e)

  lines_agree : (o n : Option ProcessText) → ProcessAfter o n → IsSome o →
      commands_of (unwrap_or (option_map (λ (p : ProcessText). p.lines) n) []) ≡ commands_of (unwrap_or (option_map (λ (p : ProcessText). p.lines) o) []) ++ process_commands net chosen router
  lines_agree None None h some = absurd (none_is_none some)
    where
      none_is_none : IsSome {T = ProcessText} None → ⊥
      none_is_none s = cc
  lines_agree (Some p) (Some q) h some =
      sym (bare_commands q.lines) ∙ ap (λ (r : ProcessText). commands_of r.lines) h ∙ map-append (λ (g : Given Command). g.value) (map bare_given p.lines) (map
      said (process_commands net chosen router)) ∙
      ap (λ l. l ++ commands_of (map said (process_commands net chosen router))) (bare_commands p.lines) ∙ ap (λ l. commands_of p.lines ++ l) (said_commands (process_commands net chosen router))
  lines_agree o n h some = absurd h

  module _ (old new : Config) (after : AreSettingsAfter net chosen router old new) where
    pub process_after : ProcessAfter (process_of old) (process_of new)
    process_after = first_of_maps old.process new.process after.process

    pub host_stays : host_name new ≡ host_name old
    host_stays = name_of new.hostname ∙ ap (λ o. option_map_or (λ (s : Setting). s.name) o []) after.hostname ∙ sym (name_of old.hostname)
      where
        name_of : (o : Option Setting) → option_map_or (λ (s : Setting). s.name) o [] ≡ option_map_or (λ (s : Setting). s.name) (option_map bare_setting o) []
        name_of None = refl
        name_of (Some s) = refl

    module _ (has : IsSome (process_of old)) where
      pub commands_after : commands_of (lines_of new) ≡ commands_of (lines_of old) ++ (turning_lines ++ filter_lines)
      commands_after = lines_agree (process_of old) (process_of new) process_after has ∙ ap (λ (l : List Command). commands_of (lines_of old) ++ (l ++ filter_lines)) (turned_lines net router chosen)

      -- what is said is what the old lines say, or what the added ones say after them
      pub said_after : {X : Type 0} (says : Command → Option X) →
          last_said says (lines_of new) ≡ last_or (last_or (last_said says (lines_of old)) (filter_map says turning_lines)) (filter_map says filter_lines)
      said_after {X} says =
          ap (last_or None) (picked_of_values (λ (g : Given Command). g.value) says (lines_of new) ∙ ap (filter_map says) commands_after ∙
          filter_map-append says (commands_of (lines_of old)) (turning_lines ++ filter_lines) ∙
          ap (λ l. filter_map says (commands_of (lines_of old)) ++ l) (filter_map-append says turning_lines filter_lines) ∙
          ap (λ l. l ++ (filter_map says turning_lines ++ filter_map says filter_lines)) (sym (picked_of_values (λ (g : Given Command). g.value) says (lines_of old)))) ∙
          last_append None (filter_map (λ (g : Given Command). says g.value) (lines_of old)) (filter_map says turning_lines ++ filter_map says filter_lines) ∙
          last_append (last_said says (lines_of old)) (filter_map says turning_lines) (filter_map says filter_lines)

      -- what added commands do not speak of stays
      pub same_said : {X : Type 0} (says : Command → Option X) → ((c : Command) → IsAdded c → says c ≡ None) → last_said says (lines_of new) ≡ last_said says (lines_of old)
      same_said says silent =
          said_after says ∙
          ap (λ l. last_or (last_or (last_said says (lines_of old)) (filter_map says turning_lines)) l) (picks_nothing says filter_lines (λ c there. silent c (filter_lines_added c there))) ∙
          ap (λ l. last_or (last_said says (lines_of old)) l) (picks_nothing says turning_lines (λ c there. silent c (turning_lines_added c there)))

      -- a command that is added, or one that there was
      pub command_was : (c : Command) → Contains (commands_of (lines_of new)) c → Contains (commands_of (lines_of old)) c ⊎ IsAdded c
      command_was c there = elim (Contains-append_cases (commands_of (lines_of old)) (turning_lines ++ filter_lines) c (subst (λ l. Contains l c) commands_after there)) [
        | inl old ↦ inl old
        | inr added ↦ inr (elim (Contains-append_cases turning_lines filter_lines c added) [ inl t ↦ turning_lines_added c t | inr f ↦ filter_lines_added c f ])
      ]

      pub command_stays : (c : Command) → Contains (commands_of (lines_of old)) c → Contains (commands_of (lines_of new)) c
      command_stays c there = subst (λ l. Contains l c) (sym commands_after) (Contains-append_left (commands_of (lines_of old)) (turning_lines ++ filter_lines) c there)
