-- Ranges of services with the same ends are the same.
use Rattle.std.proofs.Common.{◌≡◌, ℕ, ◌+◌, ◌*◌, ◌/◌, ◌%◌, ◌^◌, ◌<◌, ◌≤◌, min, sym, ap, subst, ◌∙◌, arith}
use Rattle.std.proofs.Math.Nat.{min-eq_left}
use Rattle.std.proofs.lemmas.Nat.{div-mul-add, div-add-mod'}
use denote.Struct.Props.{props}
use Rattle.ios_words.specs.declared.services.Services.{Services}
use Rattle.ios_words.specs.ServiceRanges.{between, of_ports}
use Rattle.ios_words.specs.Services.{protocol, port}

-- the facts of a range do not tell it from another
same_facts : (s : Services) (o : s.low ≤ s.high) (i : s.high < 2 ^ 24) → s ≡ record { low = s.low; high = s.high; ordered = o; in_range = i }
same_facts s o i =
    let ordered : IsProp (s.low ≤ s.high) = hlevel props in
    let in_range : IsProp (s.high < 2 ^ 24) = hlevel props in
    let F : s.low ≤ s.high → Services = λ z. record { low = s.low; high = s.high; ordered = z; in_range = s.in_range } in
    let G : s.high < 2 ^ 24 → Services = λ z. record { low = s.low; high = s.high; ordered = o; in_range = z } in
    ap F (ordered s.ordered o) ∙ ap G (in_range s.in_range i)

pub same_services : (s t : Services) → s.low ≡ t.low → s.high ≡ t.high → s ≡ t
same_services s t at_low at_high =
    let P : ℕ → Type 0 = λ l. (o : l ≤ s.high) (i : s.high < 2 ^ 24) → s ≡ record { low = l; high = s.high; ordered = o; in_range = i } in
    let Q : ℕ → Type 0 = λ h. (o : t.low ≤ h) (i : h < 2 ^ 24) → s ≡ record { low = t.low; high = h; ordered = o; in_range = i } in
    subst Q at_high (subst P at_low (same_facts s)) t.ordered t.in_range

-- the ends of the range between two services
pub low-between : (low high : ℕ) → low ≤ high → high < 2 ^ 24 → (between low high).low ≡ low
unfolding between
low-between low high ordered few =
    let last : min high 16777215 ≡ high = min-eq_left (omega arith) in
    ap (min low) last ∙ min-eq_left ordered

pub high-between : (low high : ℕ) → high < 2 ^ 24 → (between low high).high ≡ high
unfolding between
high-between low high few = min-eq_left (omega arith)

-- a range with these ends is the one between them
pub is-between : (s : Services) (low high : ℕ) → s.low ≡ low → s.high ≡ high → s ≡ between low high
is-between s low high at_low at_high =
    let ordered : s.low ≤ s.high = s.ordered in
    let few : s.high < 2 ^ 24 = s.in_range in
    same_services s (between low high) (at_low ∙ sym (low-between low high (omega arith) (omega arith))) (at_high ∙ sym (high-between low high (omega arith)))

-- the protocol and the first port of a range of ports
pub protocol-of : (number first last : ℕ) → number ≤ 255 → first ≤ last → last ≤ 65535 → protocol (of_ports number first last).low ≡ number
protocol-of number first last few ordered most =
    ap protocol (low-between (number * 65536 + first) (number * 65536 + last) (omega arith) (omega arith)) ∙ div-mul-add number 65536 first (omega arith)

pub port-of : (number first last : ℕ) → number ≤ 255 → first ≤ last → last ≤ 65535 → port (of_ports number first last).low ≡ first
port-of number first last few ordered most =
    let low = number * 65536 + first in
    let whole : low / 65536 * 65536 + low % 65536 ≡ low = div-add-mod' low 65536 in
    let front : low / 65536 ≡ number = div-mul-add number 65536 first (omega arith) in
    let same : low / 65536 * 65536 ≡ number * 65536 = ap (λ n. n * 65536) front in
    ap port (low-between low (number * 65536 + last) (omega arith) (omega arith)) ∙ omega (arith, whole, same)
