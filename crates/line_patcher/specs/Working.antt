-- What the functions that make the new files keep.
use Rattle.std.specs.Prelude.{◌≡◌, ℕ, ◌+◌, ◌<◌, ◌≤◌, ◌==◌, ◌&&◌, not, Bool, Option, Some, List}
use Rattle.std.specs.Prelude.{[], ◌++◌, length, map, slice_get, unwrap_or, if◌then◌else◌}
use Rattle.std.specs.Option.{option_map_or}
use Rattle.arc_base.specs.declared.place.Face.{Face}
use Rattle.arc_base.specs.declared.span.Span.{Span}
use Rattle.ios_lines.specs.declared.line.Line.{Line}
use Rattle.ios_lines.specs.declared.line.Lines.{Lines}
use Rattle.ios_lines.specs.Lines.{AreLinesOf}
use Rattle.net_build.specs.declared.built.Built.{Built}
use Rattle.net_build.specs.declared.built.ListPlace.{ListPlace}
use Rattle.edit_list.specs.declared.list_kinds.NewList.{NewList}
use Rattle.edit_list.specs.declared.list_kinds.NewList.TheVariants.{Route, Packet}
use Rattle.edit_list.specs.NewLists.{new_lists, new_lists_of}
use Rattle.arc_base.specs.Numbered.{is_empty, IsTableOf}
use Rattle.edit_space.specs.Working.{AreChanges, AreNewNames}
use Rattle.line_patcher.specs.declared.plans.Plan.{Plan}
use Rattle.line_patcher.specs.declared.texts.Table.{Table}
use Rattle.line_patcher.specs.SessionLines.{turned_faces}
use Rattle.line_patcher.specs.NewListLines.{face_places}
use Rattle.line_patcher.specs.Written.{line_of}
use Rattle.line_patcher.specs.Patches.{end_of, row_bytes, ended, following}

-- the interface of a new list
abbrev pub face_of : NewList → Face
face_of (Route face) = face
face_of (Packet face) = face

-- the plan says what its edits do to each router
pub record IsPlan (built : Built) (plan : Plan) : Type 0 where
  pub changes : AreChanges built.net plan.changes
  pub faces : plan.faces.items ≡ face_places built.places
  pub turned : IsTableOf (length built.net.routers)
      (turned_faces built.net plan.changes.edits.items) plan.turned.items
  pub lists : IsTableOf (length built.net.routers)
      (new_lists_of built.net plan.changes.edits.items) plan.new_lists.items
  pub names : AreNewNames built.net (new_lists built.net plan.changes.edits.items) plan.names.items

-- the network has the router of this place, and the lines and the places of its file
pub record IsFileOf (built : Built) (router : ℕ) (text : List ℕ) : Type 0 where
  pub routed : router < length built.net.routers
  pub placed : router < length built.places
  pub lined : router < length built.lines
  pub lines : (lines : Lines) → slice_get built.lines router ≡ Some lines → AreLinesOf text lines

-- whether a list with its own router is one of this router, to which something is added
abbrev pub is_edited : {X : Type 0} → ℕ → ℕ → List X → Bool
is_edited own router things = not (is_empty things) && (own == router)

-- what a file has at the place of such a list, and else nothing
abbrev pub for_edited : {X Y : Type 0} → ℕ → ℕ → Option ListPlace → (ListPlace → List X → List Y) →
    List X → List Y
for_edited own router place made things =
    if is_edited own router things then option_map_or (λ there. made there things) place [] else []

-- the word of a row lies in it
pub record LiesInRow (row : Line) (word : Span) : Type 0 where
  pub after : row.span.from ≤ word.from
  pub ordered : word.from ≤ word.to
  pub before : word.to ≤ row.span.to

-- the row lies in the text with its end, and its words lie in it
pub record LiesWithin (text : List ℕ) (row : Line) : Type 0 where
  pub ordered : row.span.from ≤ row.span.to
  pub ends : row.span.to + row.end ≤ length text
  pub words : (k : ℕ) (word : Span) → slice_get row.words k ≡ Some word → LiesInRow row word

-- a row with what the table adds at its number
abbrev pub row_around : List ℕ → List ℕ → Table → ℕ → Line → List ℕ
row_around text end table number row =
    ended end (map line_of (unwrap_or (slice_get table.before.items number) [])) ++
    row_bytes text row (unwrap_or (slice_get table.numbers.items number) []) ++
    end_of text row ++
    following end row.end (map line_of (unwrap_or (slice_get table.after.items number) []))
