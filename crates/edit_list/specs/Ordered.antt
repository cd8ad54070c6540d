-- The order of names and of lists.
use Rattle.std.specs.Prelude.{◌≡◌, ℕ, ◌<◌, ◌⊎◌, List, All, AllPairs}
use Rattle.arc_base.specs.NameForms.{IsNameBefore}
use Rattle.net_model.specs.declared.rows.Network.{Network}

-- a list by its router and its name
abbrev pub Key : Type 0
Key = ℕ × List ℕ

-- the list comes before the other: by router, and then in byte order of names
abbrev pub IsKeyBefore : Key → Key → Type 0
IsKeyBefore x y = (x.0 < y.0) ⊎ ((x.0 ≡ y.0) × IsNameBefore x.1 y.1)

-- the names of each router are in byte order, and so are the lists by router and name
pub record IsInOrder (net : Network) : Type 0 where
  pub names : All (λ router. AllPairs IsNameBefore router.names) net.routers
  pub packet_lists :
      AllPairs (λ l m. IsKeyBefore (l.router.0, l.name) (m.router.0, m.name)) net.packet_lists
  pub route_lists :
      AllPairs (λ l m. IsKeyBefore (l.router.0, l.name) (m.router.0, m.name)) net.route_lists
