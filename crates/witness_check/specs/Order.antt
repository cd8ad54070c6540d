-- The order in which reports have classes.
use Rattle.std.specs.Prelude.{◌≡◌, ◌≤◌, ◌<◌, ◌+◌, ◌⊎◌}
use Rattle.arc_base.specs.Addresses.{size}
use Rattle.arc_base.specs.declared.prefix.Prefix.{Prefix}
use Rattle.net_model.specs.declared.policies.Class.{Class}

-- each address of the one prefix is below all of the other
abbrev pub IsBelow : Prefix → Prefix → Type 0
IsBelow p q = p.addr + size p ≤ q.addr

-- the one class comes before the other by its destinations, or by its services where these are the
-- same
abbrev pub GoesBefore : Class → Class → Type 0
GoesBefore c d = IsBelow c.to d.to ⊎ ((c.to ≡ d.to) × (c.service.high < d.service.low))

-- the one class comes before the other: by its sources, or by the rest where these are the same
abbrev pub ComesBefore : Class → Class → Type 0
ComesBefore c d = IsBelow c.from d.from ⊎ ((c.from ≡ d.from) × GoesBefore c d)
