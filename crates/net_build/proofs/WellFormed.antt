-- The settings of a router file are well formed: each comes from a command that is in form, and no interface occurs twice.
use Rattle.std.proofs.Common.{◌≡◌, ℕ, zero, suc, ◌<◌, Option, Some, None, List, [], ◌∷◌, length, get_or, map, refl, sym, ◌∙◌, ap, subst, arith}
use Rattle.std.specs.Prelude.{Contains, IfSome, All, option_map, unwrap_or, slice_get}
use Rattle.std.specs.List.{AllZip}
use Rattle.std.proofs.lemmas.List.{get_or_default}
use Rattle.std.proofs.lemmas.Option.{slice_get-get_or, slice_get_within, get_or_from_slice_get}
use Rattle.arc_base.specs.NameForms.{IsName, IsFaceName}
use Rattle.ios_lines.specs.declared.line.Lines.{Lines}
use Rattle.ios_words.specs.declared.commands.Command.{Command}
use Rattle.ios_words.specs.Forms.{IsInForm}
use Rattle.ios_words.proofs.Formed.{in_form}
use Rattle.ios_config.specs.declared.commands.FileCommand.{FileCommand}
use Rattle.ios_config.specs.declared.settings.Config.{Config}
use Rattle.ios_config.specs.declared.settings.FaceText.{FaceText}
use Rattle.ios_config.specs.declared.settings.Given.{Given}
use Rattle.ios_config.specs.declared.settings.ProcessText.{ProcessText}
use Rattle.ios_config.specs.declared.settings.Setting.{Setting}
use Rattle.ios_config.specs.Commands.{command_lines, IsReadAs}
use Rattle.ios_config.specs.Configs.{IsConfigOf}
use Rattle.ios_config.specs.Groups.{Part, is_same, part_of, distinct, members, groups}
use Rattle.ios_config.specs.Texts.{given, face_text, face_by, face_of, process_by, router_name, config_of}
use Rattle.ios_config.specs.Texts as texts
use Rattle.ios_config.specs.Twice.{StandOnce}
use Rattle.ios_config.specs.Values.{last_setting, hostname}
use Rattle.net_rules.specs.Forms.{IsWellFormedFace, BindsName, IsWellFormed}
use Rattle.ios_config.proofs.PartLists.{distinct_fresh}
use Rattle.arc_base.proofs.Items.{from_filter, from_map, from_piece, Contains-none}
use Rattle.arc_base.proofs.Zips.{AllZip-left}
use Rattle.net_build.proofs.FacesApart.{piece_head, faces_apart}
use Rattle.net_build.proofs.SettingForms.{face_name_form, face_form, binds_form, hostname_form, setting_form, process_lines}

-- the settings of commands that are in form and occur once
abbrev setting : Given (List ℕ) → Setting
setting g = record { name = g.value; line = g.line }

named_form : (o : Option (Given (List ℕ))) → IfSome o (λ g. IsName g.value) → IfSome (option_map setting o) (λ s. IsName s.name)
named_form None is = tt
named_form (Some g) is = is

module _ (cs : List FileCommand) (good : (c : FileCommand) → Contains cs c → IsInForm c.command) where
  member_form : (p : Part) (c : FileCommand) → Contains (members cs p) c → IsInForm c.command
  member_form p c there = good c (from_filter (λ d. is_same p (part_of d)) cs c there).0

  face_at : (k : ℕ) (d : FaceText) → k < length (config_of cs).faces → IsWellFormedFace (get_or (config_of cs).faces k d)
  face_at k d within =
      let face = get_or (config_of cs).faces k d in
      let found = piece_head cs (distinct (map part_of cs)) face (k, within, get_or_default (config_of cs).faces k face d within) in
      let head = found.2 in
      let in_block : (c : FileCommand) → Contains (head.head ∷ head.rest) c → IsInForm c.command = λ c there.
      let P : List FileCommand → Type 0 = λ ds. Contains ds c in
      member_form found.0 c (subst P (sym head.block) there) in
      let named : IsFaceName head.name = face_name_form head.name (subst IsInForm head.is_interface (in_block head.head (zero, omega arith, refl))) in
      subst IsWellFormedFace (sym head.face_is) (face_form head.name head.head.line (head.head ∷ head.rest) named in_block)

  lines_form : (o : Option ProcessText) → slice_get (config_of cs).process 0 ≡ o → All (λ g. BindsName g.value) (unwrap_or (option_map (λ p. p.lines) o) [])
  lines_form None is = λ k d within. absurd (omega (arith, within))
  lines_form (Some process) is =
      let piece = from_piece texts.process_of (groups cs) process (0, slice_get_within (config_of cs).process 0 process is, get_or_from_slice_get (config_of cs).process 0 process process is) in
      let part = from_map (members cs) (distinct (map part_of cs)) piece.0 piece.1 in
      lines_of_block part.0 piece.0 part.2 piece.2
    where
      lines_of_block : (p : Part) (block : List FileCommand) → members cs p ≡ block → Contains (texts.process_of block) process → All (λ g. BindsName g.value) process.lines
      lines_of_block p [] block there = absurd (Contains-none process there)
      lines_of_block p (h ∷ t) block there = λ k d within.
          let lines : process.lines ≡ map given t = process_lines h.command h t process there in
          let g = get_or process.lines k d in
          let P : List (Given Command) → Type 0 = λ ls. Contains ls g in
          let from = from_map given t g (subst P lines (k, within, get_or_default process.lines k g d within)) in
          let Q : List FileCommand → Type 0 = λ ds. Contains ds from.0 in
          let inside : Contains (members cs p) from.0 = subst Q (sym block) (suc from.1.0, omega (arith, from.1.1), from.1.2) in
          let R : Given Command → Type 0 = λ x. BindsName x.value in
          subst R from.2 (binds_form from.0.command (member_form p from.0 inside))

  settings_form : StandOnce cs → IsWellFormed (config_of cs)
  settings_form once = record {
    hostname = named_form (last_setting hostname cs) (setting_form hostname IsName hostname_form cs good);
    faces = face_at;
    faces_differ = faces_apart cs once (distinct (map part_of cs)) (distinct_fresh (map part_of cs));
    lines = lines_form (slice_get (config_of cs).process 0) refl;
  }

zip_right : {A B : Type 0} (R : A → B → Type 0) (xs : List A) (ys : List B) → AllZip R xs ys → (y : B) → Contains ys y → (x : A) × R x y
zip_right R xs ys all y there =
    let found = AllZip-left R xs ys all there.0 y (slice_get-get_or ys there.0 y there.1 ∙ ap Some there.2) in
    (found.0, found.2)

-- the settings of a text are well formed
pub well_formed_config : (text : List ℕ) (lines : Lines) (config : Config) → IsConfigOf text lines config → IsWellFormed config
well_formed_config text lines config is =
    let good : (c : FileCommand) → Contains is.commands c → IsInForm c.command = λ c there.
    let read = zip_right (IsReadAs text lines) (command_lines lines) is.commands is.read c there in
    in_form text read.0.1 read.1.within c.command read.1.reads in
    subst IsWellFormed (sym is.set) (settings_form is.commands good is.once)
