-- A file that no edit touches has its settings after the edits as before them.
use Rattle.std.proofs.Common.{◌≡◌, ℕ, Option, None, List, [], ◌∷◌, ◌++◌, map, refl, sym, ◌∙◌, ap, append-nil}
use Rattle.std.specs.Prelude.{slice_get, option_map}
use Rattle.std.specs.Option.{option_or}
use Rattle.std.specs.List.{filter_map}
use Rattle.arc_base.specs.declared.prefix.Prefix.{Prefix}
use Rattle.net_model.specs.declared.policies.Class.{Class}
use Rattle.net_model.specs.declared.rows.Network.{Network}
use Rattle.ios_words.specs.declared.commands.Command.{Command}
use Rattle.ios_config.specs.declared.settings.Config.{Config}
use Rattle.ios_config.specs.declared.settings.FaceText.{FaceText}
use Rattle.ios_config.specs.declared.settings.ListKind.{ListKind}
use Rattle.ios_config.specs.declared.settings.ListKind.TheVariants as kinds
use Rattle.ios_config.specs.declared.settings.ListText.{ListText}
use Rattle.ios_config.specs.declared.settings.ProcessText.{ProcessText}
use Rattle.ios_config.specs.Bare.{bare_face, bare_process}
use Rattle.net_rules.specs.Lists.{packet_entries, route_entries}
use Rattle.edit_list.specs.declared.edit_kinds.Edit.{Edit}
use Rattle.edit_list.specs.declared.list_kinds.NewList.{NewList}
use Rattle.edit_list.specs.After.{opposite_route_entry, opposite_packet_entry}
use Rattle.line_patcher.specs.EntryLines.{packet_command}
use Rattle.settings_edit_laws.specs.Additions.{list_for, new_inbound, prefix_for, class_for, front_lines, route_line}
use Rattle.edit_list.specs.NewLists.{named_lists}
use Rattle.settings_edit_laws.specs.Plain.{said, plain_list}
use Rattle.settings_edit_laws.specs.SettingsAfter.{face_with, list_with, new_list_text, new_list_texts, process_with, AreSettingsAfter}
use Rattle.settings_edit_laws.specs.Premises.{IsUntouched}

pub map_same : {X : Type 0} (f : X → X) → ((x : X) → f x ≡ x) → (xs : List X) → map f xs ≡ xs
map_same f same [] = refl
map_same f same (x ∷ xs) = λ i. same x i ∷ map_same f same xs i

-- edits that make no new list and put no entry into one
module _ (net : Network) (chosen : List Edit) (router : ℕ) (lists : named_lists net chosen router ≡ []) (prefixes : (name : List ℕ) → filter_map (prefix_for net router name) chosen ≡ [])
    (classes : (name : List ℕ) → filter_map (class_for net router name) chosen ≡ []) where
  pub face_same : (f : FaceText) → face_with net chosen router f ≡ f
  face_same f =
      let none : new_inbound net chosen router f.name ≡ None = ap (λ (ls : List (NewList × List ℕ)). slice_get (filter_map (λ (l : NewList × List ℕ). list_for net f.name l.1 l.0) ls) 0) lists in
      ap (λ (o : Option (List ℕ)). record f { list_in = option_or (option_map said o) f.list_in }) none

  front_none : (l : ListText) (k : ListKind) → front_lines net chosen router l k ≡ []
  front_none l kinds.Prefix = ap (map (λ (p : Prefix). route_line l.name (opposite_route_entry (route_entries l) p))) (prefixes l.name)
  front_none l kinds.Extended = ap (map (λ (c : Class). packet_command l.form l.name None (opposite_packet_entry (packet_entries l) c))) (classes l.name)
  front_none l kinds.Standard = ap (map (λ (c : Class). packet_command l.form l.name None (opposite_packet_entry (packet_entries l) c))) (classes l.name)

  list_same : (l : ListText) → list_with net chosen router l ≡ l
  list_same l = ap (λ (cs : List Command). record l { entries = map said cs ++ l.entries }) (front_none l l.kind)

  no_texts : new_list_texts net chosen router ≡ []
  no_texts = ap (map (λ (l : NewList × List ℕ). new_list_text chosen l.1 l.0)) lists

  -- the lists stay as they are
  pub lists_same : (ls : List ListText) → map (list_with net chosen router) ls ++ (new_list_texts net chosen router ++ []) ≡ ls
  lists_same ls =
      ap (λ (ts : List ListText). map (list_with net chosen router) ls ++ (ts ++ [])) no_texts ∙ append-nil (map (list_with net chosen router) ls) ∙ map_same (list_with net chosen router) list_same ls

module _ (net : Network) (chosen : List Edit) (router : ℕ) (u : IsUntouched net chosen router) where
  process_same : (p : ProcessText) → process_with net chosen router p ≡ p
  process_same p = ap (λ (cs : List Command). record p { lines = p.lines ++ map said cs }) u.lines ∙ (let whole = append-nil p.lines in λ i. record p { lines = whole i })

  pub untouched : (config : Config) → AreSettingsAfter net chosen router config config
  untouched config = record {
    hostname = refl;
    faces = sym (map_same (face_with net chosen router) (face_same net chosen router u.lists u.prefixes u.classes) (map bare_face config.faces));
    front = map plain_list config.lists;
    back = [];
    old_lists = sym (append-nil (map plain_list config.lists));
    new_lists = sym (lists_same net chosen router u.lists u.prefixes u.classes (map plain_list config.lists));
    process = sym (map_same (process_with net chosen router) process_same (map bare_process config.process));
  }
