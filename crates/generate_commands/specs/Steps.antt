-- What the command makes.
use Rattle.std.specs.Prelude.{ℕ}
use Rattle.net_gen.specs.declared.generating.Generated.{Generated}
use Rattle.generated_network_laws.specs.Laws.{IsGeneratedWithin}

-- the network was generated with some number of routers
abbrev pub IsSomeGenerated : Generated → Type 0
IsSomeGenerated made = (n : ℕ) × IsGeneratedWithin n made
