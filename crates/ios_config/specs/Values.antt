-- The value of a setting: what the last command about it gives.
use Rattle.std.specs.Prelude.{ℕ, Bool, true, false, List, find, reverse, Option, Some, None}
use Rattle.std.specs.Prelude.{option_and_then, is_some}
use Rattle.ios_words.specs.declared.commands.AreaText.{AreaText}
use Rattle.ios_words.specs.declared.commands.Command.{Command}
use Rattle.ios_words.specs.declared.commands.Command.TheVariants.{Hostname, Address, NoAddress}
use Rattle.ios_words.specs.declared.commands.Command.TheVariants.{Shutdown, Bandwidth, Cost, Area}
use Rattle.ios_words.specs.declared.commands.Command.TheVariants.{Point, Group}
use Rattle.ios_config.specs.declared.commands.FileCommand.{FileCommand}
use Rattle.ios_config.specs.declared.settings.Given.{Given}

-- What a command says of a setting: nothing (None), that it has no value (Some None), or its value.
abbrev pub Says : Type 0 → Type 0
Says V = Command → Option (Option V)

-- the value that this line sets, if it sets one
abbrev pub given_at : {V : Type 0} → ℕ → Option (Option V) → Option (Given V)
given_at line (Some (Some value)) = Some (record { value = value; line = line })
given_at line (Some None) = None
given_at line None = None

-- the last of the commands that sets or removes the value gives it
abbrev pub last_setting : {V : Type 0} → Says V → List FileCommand → Option (Given V)
last_setting says commands =
    option_and_then (λ c. given_at c.line (says c.command))
    (find (λ c. is_some (says c.command)) (reverse commands))

-- the name of the router
abbrev pub hostname : Says (List ℕ)
hostname (Hostname name) = Some (Some name)
hostname _ = None

-- the address of an interface
abbrev pub address : Says ℕ
address (Address addr len) = Some (Some addr)
address NoAddress = Some None
address _ = None

-- the number of ones of its mask
abbrev pub mask_length : Says ℕ
mask_length (Address addr len) = Some (Some len)
mask_length NoAddress = Some None
mask_length _ = None

-- whether it is shut down
abbrev pub shut_down : Says Bool
shut_down (Shutdown down) = Some (Some down)
shut_down _ = None

-- its bandwidth
abbrev pub bandwidth : Says ℕ
bandwidth (Bandwidth kilobits) = Some (Some kilobits)
bandwidth _ = None

-- its OSPF cost
abbrev pub ospf_cost : Says ℕ
ospf_cost (Cost cost) = Some (Some cost)
ospf_cost _ = None

-- its OSPF process and area
abbrev pub ospf_area : Says AreaText
ospf_area (Area area) = Some (Some area)
ospf_area _ = None

-- whether its OSPF network type is point-to-point
abbrev pub point_to_point : Says Bool
point_to_point (Point point) = Some (Some point)
point_to_point _ = None

-- the list that is bound to it inbound
abbrev pub inbound : Says (List ℕ)
inbound (Group name true) = Some (Some name)
inbound _ = None

-- the list that is bound to it outbound
abbrev pub outbound : Says (List ℕ)
outbound (Group name false) = Some (Some name)
outbound _ = None
