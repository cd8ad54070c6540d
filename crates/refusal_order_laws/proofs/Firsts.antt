-- Among refusals that are made one is the first, since files and numbers do not fall for ever.
use Rattle.std.proofs.Common.{◌≡◌, ℕ, zero, suc, ◌<◌, ◌≤◌, List, [], ◌∷◌, refl, ◌∙◌, arith, inl, inr, ⊎_elim}
use Rattle.net_doc.specs.declared.fault.Refusal.{Refusal}
use Rattle.net_build.specs.Order.{AreClear, IsFirstOf, RefusesWithin, Try, tries}
use Rattle.net_rules.specs.Reasons.{NoRefusal, IsEarliest}
use Rattle.arc_base.specs.declared.refusal.Kind.TheVariants as kinds
use Rattle.refusal_order_laws.specs.Gaps.{TextsHaveBlocks, SettingsHaveAnswer}

pub texts-blocks : TextsHaveBlocks
texts-blocks text none = record {
  no_orphan = λ line orphan. none line kinds.OrphanLine (inl (refl, orphan));
  no_open_banner = λ line banner. none line kinds.BadWord (inr (inl (refl, banner, λ other orphan. none other kinds.OrphanLine (inl (refl, orphan)))));
}

-- a reason of whose refusals none is the first makes none
module _ (Reason : Refusal → Type 0) (none : (r : Refusal) → ¬ IsEarliest Reason r) where
  by-number : (file : ℕ) → ((o : Refusal) → o.file < file → Reason o → ⊥) → (number : ℕ) (r : Refusal) → r.file ≡ file → r.number ≤ number → Reason r → ⊥
  by-number file earlier zero r here low made =
      none r (record {
        made = made;
        first = λ other is before. ⊎_elim (λ (l : other.file < r.file). earlier other (omega (arith, l, here)) is)
            (λ (h : (other.file ≡ r.file) × (other.number < r.number)). absurd (let less = h.1 in omega (arith, less, low))) before;
      })
  by-number file earlier (suc number) r here low made =
      none r (record {
        made = made;
        first = λ other is before. ⊎_elim (λ (l : other.file < r.file). earlier other (omega (arith, l, here)) is)
            (λ (h : (other.file ≡ r.file) × (other.number < r.number)). by-number file earlier number other (h.0 ∙ here) (let less = h.1 in omega (arith, less, low)) is) before;
      })

  by-file : (file : ℕ) (r : Refusal) → r.file < file → Reason r → ⊥
  by-file zero r low made = absurd (omega (arith, low))
  by-file (suc file) r low made = by-number r.file (λ o less is. by-file file o (omega (arith, less, low)) is) r.number r refl (omega arith) made

  nothing-made : NoRefusal Reason
  nothing-made r made = by-file (suc r.file) r (omega arith) made

-- whatever refusals some tries make: it cannot be that they are not clear and that none is the first
tries-first : (Makes : Try → Refusal → Type 0) (tries : List Try) → ¬ AreClear Makes tries → ((r : Refusal) → ¬ IsFirstOf Makes tries r) → ⊥
tries-first Makes [] unclear none = unclear tt
tries-first Makes (t ∷ ts) unclear none =
    let clear = nothing-made (Makes t) (λ r is. none r (inl is)) in
    tries-first Makes ts (λ rest. unclear (clear, rest)) (λ r is. none r (inr (clear, is)))

pub settings-answer : SettingsHaveAnswer
settings-answer down most doc files configs net said rows no_network no_refusal =
    tries-first (RefusesWithin down most doc configs) tries
    (λ clear. no_network (record { configs = configs; said = said; rows = rows; clear = clear }))
    (λ r first. no_refusal r (inr (record { configs = configs; said = said; first = first })))
