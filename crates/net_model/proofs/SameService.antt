-- Ranges of services with the same ends are the same.
use Rattle.std.proofs.Common.{◌≡◌, ℕ, ◌^◌, ◌<◌, ◌≤◌, ap, subst, ◌∙◌}
use denote.Struct.Props.{props}
use Rattle.net_model.specs.declared.services.Service.{Service}

-- the facts of a range do not tell it from another
pub same_facts : (s : Service) (o : s.low ≤ s.high) (i : s.high < 2 ^ 24) → s ≡ record { low = s.low; high = s.high; ordered = o; in_range = i }
same_facts s o i =
    let ordered : IsProp (s.low ≤ s.high) = hlevel props in
    let in_range : IsProp (s.high < 2 ^ 24) = hlevel props in
    let F : s.low ≤ s.high → Service = λ z. record { low = s.low; high = s.high; ordered = z; in_range = s.in_range } in
    let G : s.high < 2 ^ 24 → Service = λ z. record { low = s.low; high = s.high; ordered = o; in_range = z } in
    ap F (ordered s.ordered o) ∙ ap G (in_range s.in_range i)

pub same_service : (s t : Service) → s.low ≡ t.low → s.high ≡ t.high → s ≡ t
same_service s t at_low at_high =
    let P : ℕ → Type 0 = λ h. (o : s.low ≤ h) (r : h < 2 ^ 24) → s ≡ record { low = s.low; high = h; ordered = o; in_range = r } in
    let Q : ℕ → Type 0 = λ l. (o : l ≤ t.high) (r : t.high < 2 ^ 24) → s ≡ record { low = l; high = t.high; ordered = o; in_range = r } in
    subst Q at_low (subst P at_high (same_facts s)) t.ordered t.in_range
