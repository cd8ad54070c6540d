-- The router files of a generated network, as lists of lines.
use Rattle.std.specs.Prelude.{ℕ, ◌+◌, ◌*◌, ◌^◌, ◌==◌, List, [], ◌∷◌, ◌++◌, filter, codes, decimal}
use Rattle.std.specs.Prelude.{if◌then◌else◌}
use Rattle.std.specs.List.{flat_map}
use Rattle.ios_words.specs.declared.commands.Command.TheVariants.{Hostname, Interface, RouterOspf}
use Rattle.ios_words.specs.declared.commands.Command.TheVariants.{Address, Covers}
use Rattle.ios_words.specs.declared.kinds.BlockKind.TheVariants as blocks
use Rattle.ios_words.specs.Plain.{plain_line}
use Rattle.ios_words.specs.Prefixes.{whole}
use Rattle.net_gen.specs.Plans.{numbers, link_count, a_router, has_end, port}

-- the names of a router, of its file, and of one of its interfaces
abbrev pub host_name : ℕ → List ℕ
host_name router = codes "r" ++ decimal router

abbrev pub file_name : ℕ → List ℕ
file_name router = codes "r" ++ decimal router ++ codes ".cfg"

abbrev pub face_name : ℕ → List ℕ
face_name number = codes "GigabitEthernet0/" ++ decimal number

-- the address 10.b.c.d
abbrev pub address : ℕ → ℕ → ℕ → ℕ
address b c d = 10 * 2 ^ 24 + b * 2 ^ 16 + c * 2 ^ 8 + d

-- the line that names the router, the one that opens an interface, and the one that gives it its
-- address
abbrev pub name_line : ℕ → List ℕ
name_line router = plain_line blocks.Top (Hostname (host_name router))

abbrev pub face_line : ℕ → List ℕ
face_line number = plain_line blocks.Top (Interface (face_name number))

abbrev pub address_line : ℕ → ℕ → List ℕ
address_line addr len = plain_line blocks.Interface (Address addr len)

-- the lines of an interface
abbrev pub face_lines : ℕ → ℕ → ℕ → List (List ℕ)
face_lines number addr len = face_line number ∷ address_line addr len ∷ codes "!" ∷ []

-- the first two lines name the router
abbrev pub name_lines : ℕ → List (List ℕ)
name_lines router = name_line router ∷ codes "!" ∷ []

-- the router's host network is 10.ROUTER.0.0/24, and the router has its first address
abbrev pub host_lines : ℕ → List (List ℕ)
host_lines router = face_lines 0 (address router 0 1) 24

-- the subnet of a link is 10.0.LINK.0/30, and its ends a and b have the first two addresses
abbrev pub link_lines : ℕ → ℕ → ℕ → List (List ℕ)
link_lines n router link =
    face_lines (port n router link)
    (address 0 link (if a_router n link == router then 1 else 2)) 30

-- the line that opens the OSPF process, and the one that covers all interfaces
abbrev pub process_line : List ℕ
process_line = plain_line blocks.Top (RouterOspf 1)

abbrev pub covers_line : List ℕ
covers_line = plain_line blocks.Ospf (Covers whole 0)

-- the last lines: one OSPF process, which covers all interfaces
abbrev pub process_lines : List (List ℕ)
process_lines = process_line ∷ covers_line ∷ codes "!" ∷ codes "end" ∷ []

-- the lines of the interfaces over the router's links, in the order of these
abbrev pub links_lines : ℕ → ℕ → List ℕ → List (List ℕ)
links_lines n router links = flat_map (link_lines n router) (filter (has_end n router) links)

-- the lines of a router's file
abbrev pub router_lines : ℕ → ℕ → List (List ℕ)
router_lines n router =
    name_lines router ++
    (host_lines router ++ (links_lines n router (numbers (link_count n)) ++ process_lines))

-- a line with its end
abbrev pub ended : List ℕ → List ℕ
ended line = line ++ codes "\n"

-- the text of lines
abbrev pub text_of : List (List ℕ) → List ℕ
text_of lines = flat_map ended lines
