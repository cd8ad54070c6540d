-- When a search restarts: after 100 conflicts, and from then on each time after twice as many as
-- the time before.
use Rattle.std.specs.Prelude.{ℕ, ◌-◌, ◌*◌, ◌^◌, nat_le, min, if◌then◌else◌, Bool}
use Rattle.sat_search.specs.declared.restarts.Restarts.{Restarts}

-- 100 conflicts are left to the first restart
abbrev pub at_first : Restarts
at_first = record { left = 100; gap = 100 }

-- the next conflict is the last one before a restart
abbrev pub ends_gap : Restarts → Bool
ends_gap r = nat_le r.left 1

-- twice as many conflicts, as far as 64 bits count
abbrev pub twice : ℕ → ℕ
twice gap = min (gap * 2) (2 ^ 64 - 1)

-- after a conflict one less is left, or a gap begins that is twice the one before
abbrev pub after_conflict : Restarts → Restarts
after_conflict r =
    if ends_gap r then record { left = twice r.gap; gap = twice r.gap }
    else record { left = r.left - 1; gap = r.gap }
