-- Commands that grow as edits make them set the settings after the edits.
use Rattle.std.proofs.Common.{◌≡◌, ℕ, List, [], ◌∷◌, ◌++◌, map, refl, sym, ap, subst, ◌∙◌, Contains}
use Rattle.std.specs.List.{flat_map}
use Rattle.std.specs.Prelude.{false}
use Rattle.std.proofs.lemmas.List.{map-append}
use Rattle.std.proofs.lemmas.List.Concat.{flat_map-append}
use Rattle.std.proofs.lemmas.List.Elements as elements
use Rattle.arc_base.proofs.Items.{Contains-head, Contains-tail}
use Rattle.net_model.specs.declared.rows.Network.{Network}
use Rattle.ios_words.specs.declared.commands.Command.{Command}
use Rattle.ios_config.specs.declared.commands.FileCommand.{FileCommand}
use Rattle.ios_config.specs.declared.settings.Config.{Config}
use Rattle.ios_config.specs.declared.settings.Given.{Given}
use Rattle.ios_config.specs.declared.settings.ListText.{ListText}
use Rattle.ios_config.specs.Bare.{bare, bare_config, bare_given, bare_groups, bare_list}
use Rattle.ios_config.specs.Groups.{Part, part_of, distinct, members}
use Rattle.ios_config.specs.Texts.{config_of, face_of, list_of, process_of}
use Rattle.ios_config.proofs.BareSettings.{bare-groups-set}
use Rattle.edit_list.specs.declared.edit_kinds.Edit.{Edit}
use Rattle.settings_edit_laws.specs.Plain.{plain_entry, plain_list}
use Rattle.settings_edit_laws.specs.SettingsAfter.{AreSettingsAfter, face_with, list_with, process_with}
use Rattle.line_edit_laws.specs.Grown.{HasGrownGroups}
use Rattle.patch_laws.specs.Grown.{new_groups, GrowAsEdited}
use Rattle.patch_laws.specs.Laws.{GrownSettingsAreAfter}

plain-entries : (gs : List (Given Command)) → map plain_entry (map bare_given gs) ≡ map plain_entry gs
plain-entries [] = refl
plain-entries (g ∷ gs) = ap (λ l. plain_entry g ∷ l) (plain-entries gs)

plain-of-bare : (ls : List ListText) → map plain_list (map bare_list ls) ≡ map plain_list ls
plain-of-bare [] = refl
plain-of-bare (l ∷ ls) =
    let head = plain-entries l.entries in
    let tail = plain-of-bare ls in
    λ i. record { name = l.name; kind = l.kind; form = l.form; numbered = false; entries = head i } ∷ tail i

-- what is made of all groups, made of each
plain-pieces : (gs : List (List FileCommand)) → map plain_list (flat_map list_of gs) ≡ flat_map (λ g. map plain_list (list_of g)) gs
plain-pieces [] = refl
plain-pieces (g ∷ gs) = map-append plain_list (list_of g) (flat_map list_of gs) ∙ ap (λ l. map plain_list (list_of g) ++ l) (plain-pieces gs)

module _ {A : Type 0} (f : List FileCommand → List A) (w : A → A) (old new : Part → List FileCommand) where
  -- groups that each set the same with more
  grown-all : (ps : List Part) → ((q : Part) → Contains ps q → f (map bare (new q)) ≡ map w (f (map bare (old q)))) →
      flat_map f (map (map bare) (map new ps)) ≡ map w (flat_map f (map (map bare) (map old ps)))
  grown-all [] each = refl
  grown-all (p ∷ ps) each =
      (let one = each p (Contains-head p ps) in let rest = grown-all ps (λ q there. each q (Contains-tail p q ps there)) in λ i. one i ++ rest i) ∙
      sym (map-append w (f (map bare (old p))) (flat_map f (map (map bare) (map old ps))))

-- the groups in three
three-parts : {A : Type 0} (f : List FileCommand → List A) (xs ys zs : List (List FileCommand)) →
    flat_map f (map (map bare) (xs ++ (ys ++ zs))) ≡ flat_map f (map (map bare) xs) ++ (flat_map f (map (map bare) ys) ++ flat_map f (map (map bare) zs))
three-parts f xs ys zs =
    ap (flat_map f) (map-append (map bare) xs (ys ++ zs) ∙ ap (λ l. map (map bare) xs ++ l) (map-append (map bare) ys zs)) ∙
    flat_map-append f (map (map bare) xs) (map (map bare) ys ++ map (map bare) zs) ∙ ap (λ l. flat_map f (map (map bare) xs) ++ l) (flat_map-append f (map (map bare) ys) (map (map bare) zs))

module _ (net : Network) (chosen : List Edit) (router : ℕ) (grow : FileCommand → List FileCommand) (front back added : List FileCommand) (g : HasGrownGroups grow front back added)
    (e : GrowAsEdited net chosen router grow front back added) where
  abbrev old : List FileCommand
  old = front ++ back

  abbrev new : List FileCommand
  new = flat_map grow front ++ (added ++ flat_map grow back)

  abbrev was : Part → List FileCommand
  was q = members old q

  abbrev now : Part → List FileCommand
  now q = flat_map grow (members old q)

  in-before : (q : Part) → Contains g.before q → Contains (distinct (map part_of old)) q
  in-before q there = subst (λ (l : List Part). Contains l q) (sym g.old) (elements.Contains-append_left g.before g.after q there)

  in-after : (q : Part) → Contains g.after q → Contains (distinct (map part_of old)) q
  in-after q there = subst (λ (l : List Part). Contains l q) (sym g.old) (elements.Contains-append_right g.before g.after q there)

  -- what the old groups make, and the new ones
  made-old : {A : Type 0} (f : List FileCommand → List A) → flat_map f (bare_groups old) ≡ flat_map f (map (map bare) (map was g.before)) ++ flat_map f (map (map bare) (map was g.after))
  made-old f =
      ap (λ ps. flat_map f (map (map bare) (map was ps))) g.old ∙ ap (λ gs. flat_map f (map (map bare) gs)) (map-append was g.before g.after) ∙
      ap (flat_map f) (map-append (map bare) (map was g.before) (map was g.after)) ∙ flat_map-append f (map (map bare) (map was g.before)) (map (map bare) (map was g.after))

  made-new : {A : Type 0} (f : List FileCommand → List A) (w : A → A) → ((q : Part) → Contains (distinct (map part_of old)) q → f (map bare (now q)) ≡ map w (f (map bare (was q)))) →
      flat_map f (bare_groups new) ≡ map w (flat_map f (map (map bare) (map was g.before))) ++ (flat_map f (new_groups added) ++ map w (flat_map f (map (map bare) (map was g.after))))
  made-new f w each =
      ap (λ gs. flat_map f (map (map bare) gs)) g.new ∙ three-parts f (map now g.before) (map (members added) (distinct (map part_of added))) (map now g.after) ∙
      (let one = grown-all f w was now g.before (λ q there. each q (in-before q there)) in let two = grown-all f w was now g.after (λ q there. each q (in-after q there)) in
      λ i. one i ++ (flat_map f (new_groups added) ++ two i))

  -- where no new group makes anything
  made-alike : {A : Type 0} (f : List FileCommand → List A) (w : A → A) → ((q : Part) → Contains (distinct (map part_of old)) q → f (map bare (now q)) ≡ map w (f (map bare (was q)))) →
      flat_map f (new_groups added) ≡ [] →
      flat_map f (bare_groups new) ≡ map w (flat_map f (bare_groups old))
  made-alike f w each none =
      let x = flat_map f (map (map bare) (map was g.before)) in
      let y = flat_map f (map (map bare) (map was g.after)) in
      made-new f w each ∙ ap (λ l. map w x ++ (l ++ map w y)) none ∙ sym (ap (map w) (made-old f) ∙ map-append w x y)

  plain : (cs : List FileCommand) → map plain_list (config_of cs).lists ≡ flat_map (λ h. map plain_list (list_of h)) (bare_groups cs)
  plain cs = sym (plain-of-bare (config_of cs).lists) ∙ ap (λ (c : Config). map plain_list c.lists) (bare-groups-set cs) ∙ plain-pieces (bare_groups cs)

  pub grown-settings : (all : List FileCommand) → bare_config (config_of all) ≡ bare_config (config_of new) → AreSettingsAfter net chosen router (config_of old) (config_of all)
  grown-settings all same = record {
    hostname = ap (λ (c : Config). c.hostname) same ∙ e.hostname;
    faces =
        ap (λ (c : Config). c.faces) (same ∙ bare-groups-set new) ∙ made-alike face_of (face_with net chosen router) e.faces e.new_faces ∙
        ap (map (face_with net chosen router)) (ap (λ (c : Config). c.faces) (sym (bare-groups-set old)));
    front = flat_map (λ h. map plain_list (list_of h)) (map (map bare) (map was g.before));
    back = flat_map (λ h. map plain_list (list_of h)) (map (map bare) (map was g.after));
    old_lists = plain old ∙ made-old (λ h. map plain_list (list_of h));
    new_lists =
        let f = λ (h : List FileCommand). map plain_list (list_of h) in
        sym (plain-of-bare (config_of all).lists) ∙ ap (λ (c : Config). map plain_list c.lists) same ∙ plain-of-bare (config_of new).lists ∙ plain new
        ∙ made-new f (list_with net chosen router) e.lists ∙
        ap (λ l. map (list_with net chosen router) (flat_map f (map (map bare) (map was g.before))) ++ (l ++ map (list_with net chosen router) (flat_map f (map (map bare) (map was g.after)))))
        (sym (plain-pieces (new_groups added)) ∙ e.new_lists);
    process =
        ap (λ (c : Config). c.process) (same ∙ bare-groups-set new) ∙ made-alike process_of (process_with net chosen router) e.process e.new_process ∙
        ap (map (process_with net chosen router)) (ap (λ (c : Config). c.process) (sym (bare-groups-set old)));
  }

pub grown-are-after : GrownSettingsAreAfter
grown-are-after net chosen router grow front back added all g e same = grown-settings net chosen router grow front back added g e all same
