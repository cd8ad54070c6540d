-- The texts of edits. A text begins with the word `edit` and says what is turned: the session of a
-- router's interface, or the answer of a list, or of a new list at a neighbour or an interface, for
-- a prefix or a class.
use Rattle.std.specs.Prelude.{◌≡◌, ℕ, ◌+◌, ◌<◌, ◌^◌, ◌↔◌, List, [], ◌∷◌, ◌++◌, All, AllPairs}
use Rattle.std.specs.Prelude.{Option, Some, option_map, IsSomeAnd, bytes_eq, codes, drop, map}
use Rattle.std.specs.Prelude.{slice_get}
use Rattle.std.specs.List.{concat, position}
use Rattle.std.specs.Option.{option_map_or}
use Rattle.arc_base.specs.declared.place.Face.{Face}
use Rattle.arc_base.specs.declared.place.ListId.{ListId}
use Rattle.arc_base.specs.declared.place.Router.{Router}
use Rattle.arc_base.specs.PrefixText.{address_text, prefix_text}
use Rattle.net_model.specs.declared.policies.Document.{Document}
use Rattle.net_model.specs.declared.rows.Network.{Network}
use Rattle.net_model.specs.Routing.{session_at}
use Rattle.net_model.specs.Validity.{IsValid}
use Rattle.edit_list.specs.declared.edit_kinds.Edit.{Edit}
use Rattle.edit_list.specs.declared.edit_kinds.Edit.TheVariants.{Session, RouteList, RouteNew}
use Rattle.edit_list.specs.declared.edit_kinds.Edit.TheVariants.{PacketList, PacketNew}
use Rattle.edit_list.specs.EditLists.{AreEdits}
use Rattle.policy_report.specs.Lines.{after_spaces, line}
use Rattle.policy_report.specs.Reports.{class_words}

-- the name of the router, and no bytes where there is none
abbrev pub router_name : Network → Router → List ℕ
router_name net router = option_map_or (λ r. r.name) (slice_get net.routers router.0) []

-- the name of the interface's router
abbrev pub owner_name : Network → Face → List ℕ
owner_name net face = option_map_or (λ f. router_name net f.router) (slice_get net.faces face.0) []

-- the name of the interface
abbrev pub face_name : Network → Face → List ℕ
face_name net face = option_map_or (λ f. f.name) (slice_get net.faces face.0) []

-- the address of the neighbour of the session at the interface
abbrev pub neighbor_text : Network → Face → List ℕ
neighbor_text net face = option_map_or (λ s. address_text s.peer) (session_at net face) []

-- the name of the route list's router, and its own
abbrev pub route_list_words : Network → ListId → List (List ℕ)
route_list_words net list =
    option_map_or (λ l. router_name net l.router ∷ codes "list" ∷ l.name ∷ [])
    (slice_get net.route_lists list.0) []

-- the name of the packet list's router, and its own
abbrev pub packet_list_words : Network → ListId → List (List ℕ)
packet_list_words net list =
    option_map_or (λ l. router_name net l.router ∷ codes "list" ∷ l.name ∷ [])
    (slice_get net.packet_lists list.0) []

-- what the text of the edit says after its first word
abbrev pub edit_words : Network → Edit → List (List ℕ)
edit_words net (Session face) = codes "session" ∷ owner_name net face ∷ face_name net face ∷ []
edit_words net (RouteList list prefix) =
    codes "route" ∷ (route_list_words net list ++ prefix_text prefix ∷ [])
edit_words net (RouteNew face prefix) =
    codes "route" ∷ owner_name net face ∷ codes "neighbor" ∷ neighbor_text net face ∷
    prefix_text prefix ∷ []
edit_words net (PacketList list class) =
    codes "packet" ∷ (packet_list_words net list ++ class_words class)
edit_words net (PacketNew face class) =
    codes "packet" ∷ owner_name net face ∷ codes "interface" ∷
    face_name net face ∷ class_words class

-- the text of the edit, without a line end
abbrev pub edit_text : Network → Edit → List ℕ
edit_text net edit = codes "edit" ++ after_spaces (edit_words net edit)

-- the lines of edits
abbrev pub edit_lines : Network → List Edit → List ℕ
edit_lines net edits = concat (map (λ edit. line (codes "edit") (edit_words net edit)) edits)

-- the text is that of the edit at this place
abbrev pub IsTextAt : Network → List Edit → ℕ → List ℕ → Type 0
IsTextAt net edits at text = IsSomeAnd (slice_get edits at) (λ edit. text ≡ edit_text net edit)

-- the place of the first edit with this text, if any has it
abbrev pub edit_of : Network → List Edit → List ℕ → Option ℕ
edit_of net edits text = position (λ edit. bytes_eq (edit_text net edit) text) edits

-- the same among the edits from this place on
abbrev pub edit_from : Network → List Edit → ℕ → List ℕ → Option ℕ
edit_from net edits next text =
    option_map (λ place. next + place) (edit_of net (drop next edits) text)

-- no two of the edits have one text
abbrev pub AreToldApart : Network → List Edit → Type 0
AreToldApart net edits = AllPairs (λ edit other. ¬ (edit_text net edit ≡ edit_text net other)) edits

-- a neighbour's address has 32 bits
abbrev pub HasAddresses : Network → Type 0
HasAddresses net = All (λ session. session.peer < 2 ^ 32) net.sessions

-- no two edits of a network have one text
abbrev pub EditsAreToldApart : Type 0
EditsAreToldApart =
    (net : Network) (doc : Document) (edits : List Edit) → IsValid net → HasAddresses net →
    AreEdits net doc edits → AreToldApart net edits

-- an edit is found by its text, and by no other
abbrev pub EditTextsAreExact : Type 0
EditTextsAreExact =
    (net : Network) (edits : List Edit) → AreToldApart net edits →
    (text : List ℕ) (at : ℕ) → (edit_of net edits text ≡ Some at) ↔ IsTextAt net edits at text
