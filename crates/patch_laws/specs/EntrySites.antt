-- The lines of entries that are added to lists are read as these entries, and entries of other
-- numbers as they were.
use Rattle.std.specs.Prelude.{◌≡◌, ◌≢◌, ℕ, ◌+◌, ◌^◌, ◌<◌, true, false, Option, Some, List, ◌∷◌, map}
use Rattle.std.specs.Prelude.{codes, decimal, slice_get, IsTrue}
use Rattle.arc_base.specs.declared.prefix.Prefix.{Prefix}
use Rattle.arc_base.specs.declared.span.Span.{Span}
use Rattle.arc_base.specs.PrefixText.{number_of}
use Rattle.net_model.specs.declared.lists.PacketEntry.{PacketEntry}
use Rattle.net_model.specs.declared.lists.RouteList.{RouteList}
use Rattle.ios_lines.specs.declared.line.Line.{Line}
use Rattle.ios_lines.specs.declared.line.Lines.{Lines}
use Rattle.ios_lines.specs.ChangeLaws.{CanBeCut}
use Rattle.ios_lines.specs.Ended.{IsFree, HasNoReturn}
use Rattle.ios_lines.specs.Lines.{AreLinesOf}
use Rattle.ios_lines.specs.Rewritten.{rewritten}
use Rattle.ios_lines.specs.Texts.{part}
use Rattle.ios_words.specs.declared.commands.Command.TheVariants as commands
use Rattle.ios_words.specs.declared.commands.PacketText.{PacketText}
use Rattle.ios_words.specs.declared.commands.RouteText.{RouteText}
use Rattle.ios_words.specs.declared.kinds.BlockKind.TheVariants as kinds
use Rattle.ios_words.specs.Commands.{ReadBy}
use Rattle.ios_words.specs.Forms.{IsOrder}
use Rattle.ios_words.specs.Language.{rows}
use Rattle.arc_base.specs.NameForms.{is_name}
use Rattle.ios_words.specs.Numbers.{list_kind}
use Rattle.ios_config.specs.declared.commands.FileCommand.{FileCommand}
use Rattle.ios_config.specs.declared.settings.ListForm.TheVariants as forms
use Rattle.net_build.specs.declared.built.ListPlace.{ListPlace}
use Rattle.edit_list.specs.Writable.{is_writable}
use Rattle.line_patcher.specs.EntryLines.{order_at, packet_command, prefix_command}
use Rattle.line_patcher.specs.Written.{line_of}
use Rattle.line_edit_laws.specs.Sites.{Site, IsSingleLine, IsBlockLine, IsOfBlock, IsRewrittenFor}
use Rattle.patch_laws.specs.Fits.{IsFit}
use Rattle.patch_laws.specs.Written.{written_of}

-- an entry of a packet list that is written as a block is a line of the block, if one entry can say
-- its services
abbrev pub BlockEntriesAreRead : Type 0
BlockEntriesAreRead =
    (name : List ℕ) (order : Option ℕ) (entry : PacketEntry) → IsTrue (is_writable entry.service) →
    IsOrder 2147483647 order →
    IsBlockLine kinds.Extended (written_of (packet_command forms.Block name order entry)) ×
    IsFit (line_of (packet_command forms.Block name order entry))

-- one of a packet list that is written as lines, and one of a route list, are lines of these lists
abbrev pub ListEntriesAreRead : Type 0
ListEntriesAreRead =
    (name : List ℕ) (order : Option ℕ) (entry : PacketEntry) → IsTrue (is_writable entry.service) →
    list_kind (number_of name) ≡ Some true →
    IsSingleLine (written_of (packet_command forms.Lines name order entry)) ×
    IsFit (line_of (packet_command forms.Lines name order entry))

abbrev pub PrefixEntriesAreRead : Type 0
PrefixEntriesAreRead =
    (place : ListPlace) (list : RouteList) (entry : ℕ × Prefix) → IsTrue (is_name list.name) →
    list.name ≢ codes "sequence-number" → IsOrder 4294967294 (order_at place 5 entry.0) →
    IsSingleLine (written_of (prefix_command place list entry)) ×
    IsFit (line_of (prefix_command place list entry))

-- the row of a command in a text of these commands
pub record HasRow (text : List ℕ) (lines : Lines) (c : FileCommand) (row : Line) : Type 0 where
  pub are : AreLinesOf text lines
  pub cut : CanBeCut text
  pub place : ℕ
  pub at : slice_get lines.rows place ≡ Some row
  pub says : row.inert ≡ false
  pub number : c.line ≡ place + 1
  pub block : c.block ≡ row.block
  pub head : row.head ≡ false

-- a row that is written anew for a site
pub record IsRenumbered (text : List ℕ) (cs : List FileCommand) (c : FileCommand) (row : Line)
    (word : ℕ) (number : ℕ) (site : Site) : Type 0 where
  pub span : Span
  pub at : slice_get row.words word ≡ Some span
  pub line : site.line ≡ rewritten text row span (decimal number)
  pub other : IsRewrittenFor cs c (part text row.span) site
  pub free : IsFree site.line
  pub no_return : HasNoReturn (part text row.span) → HasNoReturn site.line

-- an entry of an extended list's block with another number
abbrev pub EntriesAreRenumbered : Type 0
EntriesAreRenumbered =
    (text : List ℕ) (lines : Lines) (cs : List FileCommand) (c : FileCommand)
    (row : Line) (n m : ℕ) (entry : PacketText) (span : Span) (site : Site) →
    HasRow text lines c row →
    IsOfBlock cs c kinds.Extended → c.block ≢ c.line → c.command ≡ commands.Entry (Some n) entry →
    slice_get row.words 0 ≡ Some span → m < 2 ^ 64 → IsOrder 2147483647 (Some m) →
    site.line ≡ rewritten text row span (decimal m) → site.command ≡ commands.Entry (Some m) entry →
    IsRenumbered text cs c row 0 m site

-- the words of a prefix list's line that has a number: it is the fifth
pub record IsSequenced (ws : List (List ℕ)) : Type 0 where
  pub name : List ℕ
  pub word : List ℕ
  pub rest : List (List ℕ)
  pub are : ws ≡ codes "ip" ∷ codes "prefix-list" ∷ name ∷ codes "seq" ∷ word ∷ rest

-- the line of a prefix list with another number
abbrev pub PrefixLinesAreRenumbered : Type 0
PrefixLinesAreRenumbered =
    (text : List ℕ) (lines : Lines) (cs : List FileCommand) (c : FileCommand) (row : Line)
    (list : List ℕ) (n m : ℕ) (entry : RouteText) (span : Span) (site : Site) →
    HasRow text lines c row → c.block ≡ 0 → c.command ≡ commands.PrefixLine list (Some n) entry →
    IsSequenced (map (part text) row.words) → slice_get row.words 4 ≡ Some span → m < 2 ^ 64 →
    IsOrder 4294967294 (Some m) → site.line ≡ rewritten text row span (decimal m) →
    site.command ≡ commands.PrefixLine list (Some m) entry → IsRenumbered text cs c row 4 m site

-- a row has the word that is the number of its entry
abbrev pub NumbersAreWords : Type 0
NumbersAreWords =
    (text : List ℕ) (row : Line) →
    ((n : ℕ) (entry : PacketText) →
    ReadBy true (map (part text) row.words) (rows kinds.Extended) (commands.Entry (Some n) entry) →
    (span : Span) × (slice_get row.words 0 ≡ Some span)) ×
    (IsSequenced (map (part text) row.words) → (span : Span) × (slice_get row.words 4 ≡ Some span))
