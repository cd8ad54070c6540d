-- A banner is open from its first line to the next line in which its delimiter stands.
use Rattle.std.proofs.Common.{◌≡◌, ℕ, zero, suc, ◌<◌, ◌≤◌, List, [], ◌∷◌, length, take, get_or, refl, sym, ap, subst, ◌∙◌, arith, ⊎_elim, Option, Some, None}
use Rattle.std.proofs.Math.Seq.{take-suc}
use Rattle.std.proofs.lemmas.Bool.{cases_eq, cases_Bool, cond-true, cond-false}
use Rattle.std.proofs.lemmas.List.Sums.{fold-append}
use Rattle.std.proofs.lemmas.Option.{none-some, same_Some}
use Rattle.ios_lines.specs.declared.banner.Delimiter.{Delimiter}
use Rattle.ios_lines.specs.Banners.{stands}
use Rattle.ios_lines.specs.Kinds.{after_line, kind, opened, open_banner}
use Rattle.ios_lines.specs.Laws.{Begins, BannersEndAtTheirDelimiter}

-- the banner that is open after one more line
open-next : (lines : List (List ℕ)) (place : ℕ) → place < length lines → open_banner (take (suc place) lines) ≡ after_line (open_banner (take place lines)) (get_or lines place [])
open-next lines place low = ap open_banner (take-suc lines place [] low) ∙ fold-append after_line None (take place lines) (get_or lines place [] ∷ [])

-- a banner that is open after a line was open before it and does not end there, or begins there
began : (lines : List (List ℕ)) (place : ℕ) (d : Delimiter) (o : Option Delimiter) → open_banner (take place lines) ≡ o → after_line o (get_or lines place []) ≡ Some d →
    ((e : Delimiter) → open_banner (take place lines) ≡ Some e → (first : ℕ) × Begins lines place e first) → (first : ℕ) × Begins lines (suc place) d first
began lines place d None none begins earlier = (place, record { before = omega arith; alone = none; begins = begins; apart = λ between low high. absurd (omega arith) })
began lines place d (Some e) some after earlier = ⊎_elim
    (λ ends. let gone : None ≡ Some d = sym (cond-true _ _ _ ends) ∙ after in absurd (none-some d gone))
    (λ goes_on.
    let same : e ≡ d = same_Some e d (sym (cond-false _ _ _ goes_on) ∙ after) in
    let deeper = earlier e some in
    let yet : Begins lines place d deeper.0 = subst (λ x. Begins lines place x deeper.0) same deeper.1 in
    let low : deeper.0 < place = yet.before in (
      deeper.0,
      record {
        before = omega arith;
        alone = yet.alone;
        begins = yet.begins;
        apart = λ between more high. ⊎_elim
            (λ last. ap (λ p. stands d (get_or lines p [])) last ∙ ap (λ x. stands x (get_or lines place [])) (sym same) ∙ goes_on)
            (λ other. yet.apart between more (omega arith))
            (cases_eq between place);
      },
    ))
    (cases_Bool (stands e (get_or lines place [])))

begins-before : (lines : List (List ℕ)) (place : ℕ) (d : Delimiter) → place ≤ length lines → open_banner (take place lines) ≡ Some d → (first : ℕ) × Begins lines place d first
begins-before lines zero d within is = absurd (none-some d is)
begins-before lines (suc place) d within is =
    began lines place d (open_banner (take place lines)) refl (sym (open-next lines place (omega arith)) ∙ is) (λ e still. begins-before lines place e (omega arith) still)

stays-open : (lines : List (List ℕ)) (place : ℕ) (d : Delimiter) (first : ℕ) → place ≤ length lines → Begins lines place d first → open_banner (take place lines) ≡ Some d
stays-open lines zero d first within begun = let low : first < 0 = begun.before in absurd (omega arith)
stays-open lines (suc place) d first within begun =
    let low : first < suc place = begun.before in
    let step = open-next lines place (omega arith) in
    ⊎_elim
    (λ here.
    let none : open_banner (take place lines) ≡ None = ap (λ p. open_banner (take p lines)) (sym here) ∙ begun.alone in
    step ∙ ap (λ o. after_line o (get_or lines place [])) none ∙ ap (λ p. opened (kind (get_or lines p [])) (get_or lines p [])) (sym here) ∙ begun.begins)
    (λ earlier.
    let deeper = stays-open lines place d first (omega arith)
    (record { before = omega arith; alone = begun.alone; begins = begun.begins; apart = λ between more high. begun.apart between more (omega arith) }) in
    step ∙ ap (λ o. after_line o (get_or lines place [])) deeper ∙ cond-false _ _ _ (begun.apart place (omega arith) (omega arith)))
    (cases_eq first place)

pub banners-end : BannersEndAtTheirDelimiter
banners-end lines place d within = (begins-before lines place d within, λ begun. stays-open lines place d begun.0 within begun.1)
