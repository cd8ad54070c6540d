-- The plain lines of names, interfaces and processes are read as what they say.
use Rattle.std.proofs.Common.{◌≡◌, ℕ, ◌^◌, ◌<◌, Bool, true, false, List, [], ◌∷◌, cond, take, None, Some, Ok, refl, ap, ◌∙◌, arith, codes, decimal}
use Rattle.std.specs.Option.{option_map_or}
use Rattle.arc_base.specs.declared.prefix.Prefix.{Prefix}
use Rattle.arc_base.specs.PrefixText.{address_text}
use Rattle.ios_words.specs.declared.commands.AreaText.{AreaText}
use Rattle.ios_words.specs.declared.commands.Command.{Command}
use Rattle.ios_words.specs.declared.commands.Command.TheVariants as commands
use Rattle.ios_words.specs.declared.kinds.BlockKind.{BlockKind}
use Rattle.ios_words.specs.declared.kinds.BlockKind.TheVariants as blocks
use Rattle.ios_words.specs.Commands.{ReadBy, completes, is_extended_block}
use Rattle.ios_words.specs.Forms.{IsFrom}
use Rattle.ios_words.specs.Language.{rows}
use Rattle.ios_words.specs.Names.{is_face_name}
use Rattle.arc_base.specs.NameForms.{is_name}
use Rattle.ios_words.specs.Numbers.{mask}
use Rattle.ios_words.specs.Prefixes.{holding}
use Rattle.ios_words.specs.Readings.{finish, match_words, matches}
use Rattle.ios_words.specs.Values.{Values, no_values}
use Rattle.ios_words.proofs.Printed.{fails-by, none-split, reads-at}
use Rattle.ios_words.proofs.PrintedSteps.{address-step, at, decimal-word, face-step, holding-prefix, name-step}
use Rattle.ios_words.specs.Plain.{plain_words}
use Rattle.ios_words.specs.Printed.{wildcard_text}
use Rattle.ios_words.proofs.PlainSteps.{area-step, go, mask-step, number-step, parts_after, rule_at, wildcard-step}

-- the command is read from its plain words in a block of this kind
abbrev pub Is : BlockKind → Command → Type 0
Is within command = ReadBy (is_extended_block within) (plain_words within command) (rows within) command

abbrev start : Values
start = no_values false

pub hostname : (name : List ℕ) → is_name name ≡ true → Is blocks.Top (commands.Hostname name)
hostname name is = reads-at false _ (rows blocks.Top) 74 _ _ (record start { text = name }) _ refl refl refl
    (ap finish (go [] (name-step 1 name [] start is))) refl

pub interface : (name : List ℕ) → is_face_name name ≡ true → Is blocks.Top (commands.Interface name)
interface name is = reads-at false _ (rows blocks.Top) 75 _ _ (record start { text = name }) _ refl refl refl
    (ap finish (go [] (face-step 1 name [] start is))) refl

pub router-ospf : (n : ℕ) → IsFrom 1 65535 n → Is blocks.Top (commands.RouterOspf n)
router-ospf n h =
    let most = h.1 in
    reads-at false _ (rows blocks.Top) 76 _ _ (record start { number = n }) _ refl refl refl
    (ap finish (go [] (number-step 1 65535 2 n [] start h.0 h.1 (omega (arith, most))))) refl

pub router-bgp : (n : ℕ) → IsFrom 1 4294967295 n → Is blocks.Top (commands.RouterBgp n)
router-bgp n h =
    let most = h.1 in
    reads-at false _ (rows blocks.Top) 77 _ _ (record start { number = n }) _ refl refl refl
    (ap finish (go [] (number-step 1 4294967295 2 n [] start h.0 h.1 (omega (arith, most))))) refl

pub list-head : (extended : Bool) (name : List ℕ) → is_name name ≡ true → Is blocks.Top (commands.ListBlock extended name)
list-head true name is = reads-at false _ (rows blocks.Top) 78 _ _ (record start { text = name }) _ refl refl refl
    (ap finish (go [] (name-step 3 name [] start is))) refl
list-head false name is = reads-at false _ (rows blocks.Top) 79 _ _ (record start { text = name }) _ refl refl refl
    (ap finish (go [] (name-step 3 name [] start is))) refl

pub address : (addr len : ℕ) → addr < 2 ^ 32 → IsFrom 1 32 len → Is blocks.Interface (commands.Address addr len)
address addr len small h =
    let v = record start { address = addr } in
    reads-at false _ (rows blocks.Interface) 29 _ _ (record v { length = len; to = holding addr len }) _ refl refl refl
    (ap finish (go (parts_after blocks.Interface 29 3) (address-step 2 addr (address_text (mask len) ∷ []) start small)
    ∙ go [] (mask-step 1 3 len [] v h.0 h.1))) refl

pub no-address : Is blocks.Interface commands.NoAddress
no-address = reads-at false _ (rows blocks.Interface) 30 _ _ start _ refl refl refl refl refl

pub shutdown : (down : Bool) → Is blocks.Interface (commands.Shutdown down)
shutdown true = reads-at false _ (rows blocks.Interface) 31 _ _ start _ refl refl refl refl refl
shutdown false = reads-at false _ (rows blocks.Interface) 32 _ _ start _ refl refl refl refl refl

pub bandwidth : (n : ℕ) → IsFrom 1 100000000 n → Is blocks.Interface (commands.Bandwidth n)
bandwidth n h =
    let most = h.1 in
    reads-at false _ (rows blocks.Interface) 33 _ _ (record start { number = n }) _ refl refl refl
    (ap finish (go [] (number-step 1 100000000 1 n [] start h.0 h.1 (omega (arith, most))))) refl

pub cost : (n : ℕ) → IsFrom 1 65535 n → Is blocks.Interface (commands.Cost n)
cost n h =
    let most = h.1 in
    reads-at false _ (rows blocks.Interface) 34 _ _ (record start { number = n }) _ refl refl refl
    (ap finish (go [] (number-step 1 65535 3 n [] start h.0 h.1 (omega (arith, most))))) refl

-- the row of the cost does not match the line of an area, whose third word is a number
no-cost : (n : ℕ) (rest : List (List ℕ)) → n < 2 ^ 64 → matches (codes "ip" ∷ codes "ospf" ∷ decimal n ∷ rest) (rule_at blocks.Interface 34) ≡ false
no-cost n rest small =
    ap (λ b. option_map_or (match_words (parts_after blocks.Interface 34 3)) (cond b (Some rest) None) false) (decimal-word n 99 (codes "ost") small (omega arith))

pub area : (a : AreaText) → IsFrom 1 65535 a.process → a.area < 2 ^ 32 → Is blocks.Interface (commands.Area a)
area a h small =
    let most = h.1 in
    let n = a.process in
    let fits : n < 2 ^ 64 = omega (arith, most) in
    let v = record start { number = n } in
    let lasts = codes "area" ∷ decimal a.area ∷ [] in
    let words = codes "ip" ∷ codes "ospf" ∷ decimal n ∷ lasts in
    reads-at false words (rows blocks.Interface) 35 _ _ (record v { area = a.area }) (commands.Area a) refl
    (none-split (completes false words) (take 34 (rows blocks.Interface)) (rule_at blocks.Interface 34) [] refl (fails-by false words (rule_at blocks.Interface 34) (no-cost n lasts fits)) refl) refl
    (ap finish (go (parts_after blocks.Interface 35 3) (number-step 1 65535 2 n lasts start h.0 h.1 fits)
    ∙ go [] (area-step 4 a.area [] v small))) refl

pub point : (is_point : Bool) → Is blocks.Interface (commands.Point is_point)
point true = reads-at false _ (rows blocks.Interface) 36 _ _ start _ refl refl refl refl refl
point false = reads-at false _ (rows blocks.Interface) 37 _ _ start _ refl refl refl refl refl

pub group : (name : List ℕ) (inbound : Bool) → is_name name ≡ true → Is blocks.Interface (commands.Group name inbound)
group name true is = reads-at false _ (rows blocks.Interface) 38 _ _ (record start { text = name }) _ refl refl refl
    (ap finish (go (parts_after blocks.Interface 38 3) (name-step 2 name (codes "in" ∷ []) start is))) refl
group name false is = reads-at false _ (rows blocks.Interface) 39 _ _ (record start { text = name }) _ refl refl refl
    (ap finish (go (parts_after blocks.Interface 39 3) (name-step 2 name (codes "out" ∷ []) start is))) refl

pub covers : (p : Prefix) (area : ℕ) → area < 2 ^ 32 → Is blocks.Ospf (commands.Covers p area)
covers p n small =
    let v = record start { address = p.addr } in
    let lasts = codes "area" ∷ decimal n ∷ [] in
    let w = record v { length = p.len; to = p } in
    let wide = wildcard-step p 2 lasts v ∙ ap (λ (q : Prefix). Ok (at 3 lasts (record v { length = p.len; to = q }))) (holding-prefix p) in
    reads-at false _ (rows blocks.Ospf) 3 _ _ (record w { area = n }) (commands.Covers p n) refl refl refl
    (ap finish (go (parts_after blocks.Ospf 3 2) (address-step 1 p.addr (wildcard_text p ∷ lasts) start p.in_range)
    ∙ go (parts_after blocks.Ospf 3 3) wide
    ∙ go [] (area-step 4 n [] w small))) refl

pub passive-named : (is_passive : Bool) (name : List ℕ) → is_face_name name ≡ true → Is blocks.Ospf (commands.Passive is_passive (Some name))
passive-named true name is = reads-at false _ (rows blocks.Ospf) 4 _ _ (record start { text = name }) _ refl refl refl
    (ap finish (go [] (face-step 1 name [] start is))) refl
passive-named false name is = reads-at false _ (rows blocks.Ospf) 5 _ _ (record start { text = name }) _ refl refl refl
    (ap finish (go [] (face-step 2 name [] start is))) refl

pub passive-default : (is_passive : Bool) → Is blocks.Ospf (commands.Passive is_passive None)
passive-default true = reads-at false _ (rows blocks.Ospf) 6 _ _ start _ refl refl refl refl refl
passive-default false = reads-at false _ (rows blocks.Ospf) 7 _ _ start _ refl refl refl refl refl

pub reference : (n : ℕ) → IsFrom 1 4294967 n → Is blocks.Ospf (commands.Reference n)
reference n h =
    let most = h.1 in
    reads-at false _ (rows blocks.Ospf) 8 _ _ (record start { number = n }) _ refl refl refl
    (ap finish (go [] (number-step 1 4294967 2 n [] start h.0 h.1 (omega (arith, most))))) refl

pub ospf-id : (addr : ℕ) → addr < 2 ^ 32 → Is blocks.Ospf (commands.RouterId addr)
ospf-id addr small = reads-at false _ (rows blocks.Ospf) 9 _ _ (record start { address = addr }) _ refl refl refl
    (ap finish (go [] (address-step 1 addr [] start small))) refl

pub remote-as : (addr n : ℕ) → addr < 2 ^ 32 → IsFrom 1 4294967295 n → Is blocks.Bgp (commands.RemoteAs addr n)
remote-as addr n small h =
    let most = h.1 in
    let v = record start { address = addr } in
    let lasts = codes "remote-as" ∷ decimal n ∷ [] in
    reads-at false _ (rows blocks.Bgp) 8 _ _ (record v { number = n }) (commands.RemoteAs addr n) refl refl refl
    (ap finish (go (parts_after blocks.Bgp 8 2) (address-step 1 addr lasts start small)
    ∙ go [] (number-step 1 4294967295 3 n [] v h.0 h.1 (omega (arith, most))))) refl

pub neighbor-down : (addr : ℕ) (down : Bool) → addr < 2 ^ 32 → Is blocks.Bgp (commands.NeighborDown addr down)
neighbor-down addr true small = reads-at false _ (rows blocks.Bgp) 9 _ _ (record start { address = addr }) _ refl refl refl
    (ap finish (go (parts_after blocks.Bgp 9 2) (address-step 1 addr (codes "shutdown" ∷ []) start small))) refl
neighbor-down addr false small = reads-at false _ (rows blocks.Bgp) 10 _ _ (record start { address = addr }) _ refl refl refl
    (ap finish (go (parts_after blocks.Bgp 10 3) (address-step 2 addr (codes "shutdown" ∷ []) start small))) refl

pub neighbor-list : (addr : ℕ) (name : List ℕ) → addr < 2 ^ 32 → is_name name ≡ true → Is blocks.Bgp (commands.NeighborList addr name)
neighbor-list addr name small is =
    let v = record start { address = addr } in
    let rest = codes "prefix-list" ∷ name ∷ codes "in" ∷ [] in
    reads-at false _ (rows blocks.Bgp) 11 _ _ (record v { text = name }) (commands.NeighborList addr name) refl refl refl
    (ap finish (go (parts_after blocks.Bgp 11 2) (address-step 1 addr rest start small)
    ∙ go (parts_after blocks.Bgp 11 4) (name-step 3 name (codes "in" ∷ []) v is))) refl

pub tells : (p : Prefix) → Is blocks.Bgp (commands.Tells p)
tells p =
    let v = record start { address = p.addr } in
    let lasts = codes "mask" ∷ address_text (mask p.len) ∷ [] in
    let masked = mask-step 0 3 p.len [] v (omega arith) p.length ∙ ap (λ (q : Prefix). Ok (at 4 [] (record v { length = p.len; to = q }))) (holding-prefix p) in
    reads-at false _ (rows blocks.Bgp) 12 _ _ (record v { length = p.len; to = p }) (commands.Tells p) refl refl refl
    (ap finish (go (parts_after blocks.Bgp 12 2) (address-step 1 p.addr lasts start p.in_range)
    ∙ go [] masked)) refl

pub bgp-id : (addr : ℕ) → addr < 2 ^ 32 → Is blocks.Bgp (commands.RouterId addr)
bgp-id addr small = reads-at false _ (rows blocks.Bgp) 14 _ _ (record start { address = addr }) _ refl refl refl
    (ap finish (go [] (address-step 2 addr [] start small))) refl
