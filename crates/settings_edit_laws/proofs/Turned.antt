-- The commands that turn sessions of a router, by the edits that turn them.
use Rattle.std.proofs.Common.{◌≡◌, ℕ, ◌==◌, Bool, true, false, if◌then◌else◌, Option, Some, None, List, refl, ◌∙◌, ap}
use Rattle.std.specs.Prelude.{slice_get, option_and_then, option_map}
use Rattle.std.specs.List.{filter_map}
use Rattle.arc_base.specs.Numbered.{if_number}
use Rattle.net_model.specs.declared.rows.FaceRow.{FaceRow}
use Rattle.net_model.specs.declared.rows.Network.{Network}
use Rattle.net_model.specs.declared.rows.Protocol.{Protocol}
use Rattle.net_model.specs.Routing.{session_at}
use Rattle.ios_words.specs.declared.commands.Command.{Command}
use Rattle.edit_list.specs.declared.edit_kinds.Edit.{Edit}
use Rattle.edit_list.specs.declared.edit_kinds.Edit.TheVariants as edits
use Rattle.settings_edit_laws.proofs.Pairs.{picked_twice}
use Rattle.line_patcher.specs.SessionLines.{session_command, session_commands, turned_face, turning_command}

-- the interface at the place, if it is one of the router
abbrev pub own_face : Network → ℕ → ℕ → Option FaceRow
own_face net router place = option_and_then (λ (f : FaceRow). if f.router.0 == router then Some f else None) (slice_get net.faces place)

-- the command that turns the session of the interface at the place
abbrev pub session_line : Protocol → Network → ℕ → FaceRow → Option Command
session_line protocol net place face = turning_command protocol face (session_at net (record { 0 = place }))

-- the command that the edit adds to the process of the router, if it turns a session of it
abbrev pub turning_line : Network → ℕ → Edit → Option Command
turning_line net router (edits.Session face) = option_and_then (session_line net.protocol net face.0) (own_face net router face.0)
turning_line net router other = None

module _ (net : Network) (router : ℕ) where
  -- by its place and its router
  abbrev placed_line : Edit → Option Command
  placed_line edit = option_and_then (session_command net) (option_and_then (if_number router) (turned_face net edit))

  same_line : (edit : Edit) → placed_line edit ≡ turning_line net router edit
  same_line (edits.Session face) = by (slice_get net.faces face.0) refl
    where
      inner : (row : FaceRow) → slice_get net.faces face.0 ≡ Some row → (b : Bool) →
          option_and_then (session_command net) (if b then Some face.0 else None) ≡ option_and_then (session_line net.protocol net face.0) (if b then Some row else None)
      inner row at false = refl
      inner row at true = ap (option_and_then (session_line net.protocol net face.0)) at

      by : (o : Option FaceRow) → slice_get net.faces face.0 ≡ o →
          option_and_then (session_command net) (option_and_then (if_number router) (option_map (λ (row : FaceRow). (row.router.0, face.0)) o))
          ≡ option_and_then (session_line net.protocol net face.0) (option_and_then (λ (f : FaceRow). if f.router.0 == router then Some f else None) o)
      by None at = refl
      by (Some row) at = inner row at (row.router.0 == router)
  same_line other = refl

  pub turned_lines : (chosen : List Edit) → session_commands net chosen router ≡ filter_map (turning_line net router) chosen
  turned_lines chosen =
      let of_router : Edit → Option ℕ = λ edit. option_and_then (if_number router) (turned_face net edit) in
      ap (filter_map (session_command net)) (picked_twice (if_number router) (turned_face net) of_router (λ edit. refl) chosen)
      ∙ picked_twice (session_command net) of_router (turning_line net router) same_line chosen
