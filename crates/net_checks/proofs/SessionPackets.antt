-- Which services of two addresses a list permits, run by run.
use Rattle.std.proofs.Common.{◌≡◌, ℕ, ◌+◌, ◌<◌, inl, inr, zero, suc, List, ◌∷◌, length, get_or, drop, refl, sym, ap, subst, ◌∙◌, arith, Bool, true, false, IsFalse, Some, cond}
use Rattle.std.specs.Prelude.{Any, Contains, find}
use Rattle.std.specs.Option.{option_map_or}
use Rattle.std.proofs.lemmas.List.{at_drop_more}
use Rattle.net_model.specs.declared.lists.Packet.{Packet}
use Rattle.net_model.specs.declared.lists.PacketEntry.{PacketEntry}
use Rattle.net_model.specs.declared.rows.Protocol.{Protocol}
use Rattle.net_model.specs.declared.rows.Protocol.TheVariants.{Ospf, Bgp}
use Rattle.net_model.specs.declared.services.Service.{Service}
use Rattle.net_model.specs.Lists.{matches, permits}
use Rattle.net_model.specs.Services.{Serves}
use Rattle.net_model.proofs.ServiceRanges.{bounds, serve}
use Rattle.net_rules.specs.Stops.{targets, ospf_services, bgp_service, opener_services, session_services, IsNeeded, Denies}
use Rattle.net_checks.specs.SessionPackets.{DeniesBetween, DeniesAt}

-- the first entry decides where it matches, and the others where it doesn't
first_permits : (e : PacketEntry) (es : List PacketEntry) (p : Packet) (b : Bool) → matches p e ≡ b → permits (e ∷ es) p ≡ cond b e.permit (permits es p)
first_permits e es p true is = ap (λ (b : Bool). option_map_or (λ (x : PacketEntry). x.permit) (cond b (Some e) (find (matches p) es)) false) is
first_permits e es p false is = ap (λ (b : Bool). option_map_or (λ (x : PacketEntry). x.permit) (cond b (Some e) (find (matches p) es)) false) is

module _ (entries : List PacketEntry) (i : ℕ) (d : PacketEntry) (within : i < length entries) (p : Packet) where
  pub at_entry : (b : Bool) → matches p (get_or entries i d) ≡ b → permits (drop i entries) p ≡ cond b (get_or entries i d).permit (permits (drop (i + 1) entries) p)
  at_entry b is = at_drop_more (λ es. permits es p) entries i d within ∙ first_permits (get_or entries i d) (drop (i + 1) entries) p b is

-- what the protocol needs is denied at one of its targets, and what is denied there is needed
module _ (entries : List PacketEntry) (from own : ℕ) where
  denied_at : (protocol : Protocol) (p : Packet) → IsNeeded protocol from own p → IsFalse (permits entries p) → DeniesAt protocol entries from p.to
  denied_at protocol p need denied = by protocol need.service
    where
      here : IsFalse (permits entries (record { from = from; to = p.to; service = p.service }))
      here = subst (λ (f : ℕ). IsFalse (permits entries (record { from = f; to = p.to; service = p.service }))) need.source denied

      between : (range : Service) → Serves range p.service → DeniesBetween entries from p.to range.low range.high
      between range h = let both = bounds range p.service h in record { service = p.service; above = both.0; below = both.1; denied = here }

      by : (q : Protocol) → Any (λ range. Serves range p.service) (session_services q) → DeniesAt q entries from p.to
      by Ospf (zero, w, l, e, h) = between ospf_services (subst (λ (r : Service). Serves r p.service) (sym e) h)
      by Ospf (suc k, w, l, e, h) = absurd (omega (arith, l))
      by Bgp (zero, w, l, e, h) = inl (between bgp_service (subst (λ (r : Service). Serves r p.service) (sym e) h))
      by Bgp (suc zero, w, l, e, h) = inr (between opener_services (subst (λ (r : Service). Serves r p.service) (sym e) h))
      by Bgp (suc (suc k), w, l, e, h) = absurd (omega (arith, l))

  needed_at : (protocol : Protocol) (to : ℕ) → Contains (targets protocol own) to → DeniesAt protocol entries from to → Denies protocol entries from own
  needed_at Ospf to there d = (
    record { from = from; to = to; service = d.service },
    record { source = refl; target = there; service = (0, _, omega arith, refl, serve ospf_services d.service d.above d.below) },
    d.denied,
  )
  needed_at Bgp to there (inl d) = (
    record { from = from; to = to; service = d.service },
    record { source = refl; target = there; service = (0, _, omega arith, refl, serve bgp_service d.service d.above d.below) },
    d.denied,
  )
  needed_at Bgp to there (inr d) = (
    record { from = from; to = to; service = d.service },
    record { source = refl; target = there; service = (1, _, omega arith, refl, serve opener_services d.service d.above d.below) },
    d.denied,
  )

  own_there : (protocol : Protocol) → Contains (targets protocol own) own
  own_there Ospf = (2, omega arith, refl)
  own_there Bgp = (0, omega arith, refl)

  -- the own address is a target of each protocol
  pub needed_at_own : (protocol : Protocol) → DeniesAt protocol entries from own → Denies protocol entries from own
  needed_at_own protocol d = needed_at protocol own (own_there protocol) d

  own_target : (to : ℕ) → Contains (targets Bgp own) to → to ≡ own
  own_target to (zero, l, e) = sym e
  own_target to (suc k, l, e) = absurd (omega (arith, l))

  -- and eBGP has no other
  pub only_own : (protocol : Protocol) → protocol ≡ Bgp → Denies protocol entries from own → DeniesAt protocol entries from own
  only_own protocol is (p, need, denied) =
      let there : Contains (targets Bgp own) p.to = subst (λ (q : Protocol). Contains (targets q own) p.to) is need.target in
      subst (λ (to : ℕ). DeniesAt protocol entries from to) (own_target p.to there) (denied_at protocol p need denied)

  pub needed_at_routers : (protocol : Protocol) → protocol ≡ Ospf → DeniesAt protocol entries from 3758096389 → Denies protocol entries from own
  needed_at_routers protocol is d =
      needed_at protocol 3758096389 (subst (λ (q : Protocol). Contains (targets q own) 3758096389) (sym is) (0, omega arith, refl)) d

  pub needed_at_designated : (protocol : Protocol) → protocol ≡ Ospf → DeniesAt protocol entries from 3758096390 → Denies protocol entries from own
  needed_at_designated protocol is d =
      needed_at protocol 3758096390
      (subst (λ (q : Protocol). Contains (targets q own) 3758096390) (sym is) (1, omega arith, refl)) d

  -- OSPF has three
  pub one_of_three : (protocol : Protocol) → protocol ≡ Ospf → Denies protocol entries from own → ¬ DeniesAt protocol entries from own → ¬ DeniesAt protocol entries from 3758096389 →
      DeniesAt protocol entries from 3758096390
  one_of_three protocol is (p, need, denied) not_own not_routers =
      let there : Contains (targets Ospf own) p.to = subst (λ (q : Protocol). Contains (targets q own) p.to) is need.target in
      by p.to there (denied_at protocol p need denied)
    where
      At : ℕ → Type 0
      At to = DeniesAt protocol entries from to

      by : (to : ℕ) → Contains (targets Ospf own) to → At to → At 3758096390
      by to (zero, l, e) here = absurd (not_routers (subst At (sym e) here))
      by to (suc zero, l, e) here = subst At (sym e) here
      by to (suc (suc zero), l, e) here = absurd (not_own (subst At (sym e) here))
      by to (suc (suc (suc k)), l, e) here = absurd (omega (arith, l))
