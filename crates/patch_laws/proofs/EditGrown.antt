-- What edits put at the commands of a file makes them grow as the edits make them, where lists show the entries of the edits and numbers rise.
use Rattle.std.proofs.Common.{◌≡◌, ℕ, Option, Some, None, List, ◌∷◌, ◌++◌, map, refl, subst, Contains}
use Rattle.std.specs.List.{flat_map}
use Rattle.net_model.specs.declared.rows.Network.{Network}
use Rattle.ios_lines.specs.declared.line.Lines.{Lines}
use Rattle.ios_config.specs.declared.commands.FileCommand.{FileCommand}
use Rattle.ios_config.specs.declared.settings.ListForm.{ListForm}
use Rattle.ios_config.specs.declared.settings.ListKind.{ListKind}
use Rattle.ios_config.specs.Bare.{bare}
use Rattle.ios_config.specs.Groups.{Part, part_of, distinct, members}
use Rattle.ios_config.specs.Rising.{NumbersRise}
use Rattle.ios_config.specs.Texts.{config_of, face_of, list_of, process_of}
use Rattle.net_build.specs.declared.built.Places.{Places}
use Rattle.edit_list.specs.declared.edit_kinds.Edit.{Edit}
use Rattle.settings_edit_laws.specs.Additions.{front_lines}
use Rattle.edit_list.specs.NewLists.{named_lists}
use Rattle.settings_edit_laws.specs.Plain.{said, plain_list}
use Rattle.settings_edit_laws.specs.SettingsAfter.{face_with, list_with, process_with}
use Rattle.line_edit_laws.specs.Sites.{new_commands}
use Rattle.patch_laws.specs.EditFiles.{IsEditedFile}
use Rattle.patch_laws.specs.EditSites.{new_key}
use Rattle.patch_laws.specs.EditSiteLaws.{GrowByEdits}
use Rattle.patch_laws.specs.ListsGrow.{list_begun}
use Rattle.patch_laws.proofs.EditBlocks.{known-group, processes}
use Rattle.patch_laws.proofs.EditFaces.{faces}
use Rattle.patch_laws.proofs.EditGrow.{put_at, grow_at, split, back_at, grown-is, all-grown, in-front, in-back, are-fresh}
use Rattle.patch_laws.proofs.EditListGroups.{shown, plain, list-grows, no-list-grows}
use Rattle.patch_laws.proofs.FileParts.{GroupOf}
use Rattle.patch_laws.proofs.EditNames.{name-stays}
use Rattle.patch_laws.proofs.EditOnce.{stands-once}
use Rattle.patch_laws.proofs.NewListGroups.{new-lists-set}

module _ (net : Network) (places : List Places) (chosen : List Edit) (router : ℕ) (text : List ℕ) (lines : Lines) (cs : List FileCommand)
    (f : IsEditedFile net places chosen router text lines cs) where
  abbrev grown_at : FileCommand → List FileCommand
  grown_at c = grow_at net places chosen router text lines cs c

  -- each list shows the entries of the edits before its own
  abbrev pub ListsShow : Type 0
  ListsShow =
      (q : Part) (first : FileCommand) (rest : List FileCommand) (is : members cs q ≡ first ∷ rest) (x : List ℕ × ListKind × ListForm) (begun : list_begun first.command ≡ Some x) →
      shown (flat_map grown_at (members cs q)) ≡ map said (front_lines net chosen router (plain net places chosen router text lines cs f q first rest is x begun) x.1) ++ shown (members cs q)

  lists : ListsShow → (q : Part) → Contains (distinct (map part_of cs)) q →
      map plain_list (list_of (map bare (flat_map grown_at (members cs q)))) ≡ map (list_with net chosen router) (map plain_list (list_of (map bare (members cs q))))
  lists show q known = by (list_begun g.first.command) refl
    where
      g : GroupOf cs q
      g = known-group cs q known

      by : (o : Option (List ℕ × ListKind × ListForm)) → list_begun g.first.command ≡ o →
          map plain_list (list_of (map bare (flat_map grown_at (members cs q)))) ≡ map (list_with net chosen router) (map plain_list (list_of (map bare (members cs q))))
      by None e = no-list-grows net places chosen router text lines cs f q g.first g.rest g.is e
      by (Some x) e = list-grows net places chosen router text lines cs f q g.first g.rest g.is x e (show q g.first g.rest g.is x e)

  pub grow-by : ListsShow → NumbersRise (config_of (new_commands (put_at net places chosen router text lines cs) cs)).lists → GrowByEdits net places chosen router text lines cs
  grow-by show rise =
      let s = split net places chosen router text lines cs f in
      let back = back_at net places chosen router text lines cs f in
      let new = new-lists-set chosen (new_key lines) (named_lists net chosen router) f.different in
      record {
        front = s.front;
        back = back;
        parts = s.parts;
        grown = grown-is net places chosen router text lines cs f;
        front_grown = all-grown net places chosen router text lines cs f s.front (in-front net places chosen router text lines cs f);
        back_grown = all-grown net places chosen router text lines cs f back (in-back net places chosen router text lines cs f);
        fresh = are-fresh net places chosen router text lines cs f;
        edited = record {
          faces = subst (λ (l : List FileCommand). (q : Part) → Contains (distinct (map part_of l)) q →
              face_of (map bare (flat_map grown_at (members l q))) ≡ map (face_with net chosen router) (face_of (map bare (members l q)))) s.parts
              (faces net places chosen router text lines cs f);
          lists = subst (λ (l : List FileCommand). (q : Part) → Contains (distinct (map part_of l)) q →
              map plain_list (list_of (map bare (flat_map grown_at (members l q)))) ≡ map (list_with net chosen router) (map plain_list (list_of (map bare (members l q))))) s.parts
              (lists show);
          process = subst (λ (l : List FileCommand). (q : Part) → Contains (distinct (map part_of l)) q →
              process_of (map bare (flat_map grown_at (members l q))) ≡ map (process_with net chosen router) (process_of (map bare (members l q)))) s.parts
              (processes net places chosen router text lines cs f);
          new_faces = new.faces;
          new_lists = new.lists;
          new_process = new.process;
          hostname = name-stays net places chosen router text lines cs f;
        };
        once = stands-once net places chosen router text lines cs f;
        rising = rise;
      }
