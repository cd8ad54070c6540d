use Rattle.std.proofs.Common.{◌≡◌, ◌<◌, ◌≤◌, ◌∷◌, suc, false, ℕ, List, None, sym, ◌∙◌, drop, drop-cons, length, ap, get_or}
use Rattle.std.proofs.lemmas.List.{drop_all}
use Rattle.std.specs.Option.{option_map_or}
use Rattle.ios_words.specs.declared.names.Before.{Before}
use Rattle.ios_words.specs.declared.names.Before.TheVariants.{Start}
use Rattle.ios_words.specs.Names.{is_unit}
use Rattle.ios_words.specs.Units.{complete, next, ends}
use Rattle.ios_words.proofs.Units.{complete-unit}
use Rattle.ios_words.proofs.names.is_unit.Goals as goal

stops : (text : List ℕ) (before : Before) (i : ℕ) → complete Start text ≡ complete before (drop i text) → i < length text → next before (get_or text i 0) ≡ None → false ≡ is_unit text
stops text before i same inside none =
    let none-after : complete before (get_or text i 0 ∷ drop (suc i) text) ≡ false = ap (λ o. option_map_or (λ after. complete after (drop (suc i) text)) o false) none in
    sym (same ∙ ap (complete before) (drop-cons text i 0 inside) ∙ none-after) ∙ complete-unit text

ended : (text : List ℕ) (before : Before) (i : ℕ) → complete Start text ≡ complete before (drop i text) → length text ≤ i → ends before ≡ is_unit text
ended text before i same past = sym (same ∙ ap (complete before) (drop_all i text past)) ∙ complete-unit text

pub returns-in-None : goal.returns-in-None
returns-in-None c = stops c.args.text.now c.loop-byte.before c.loop-byte.byte-index c.loop-byte.invariant c.loop-byte-test.true (sym c.next.ensures ∙ c.in-None.is)

pub returns : goal.returns
returns c = c.ends.ensures ∙ ended c.args.text.now c.loop-byte.before c.loop-byte.byte-index c.loop-byte.invariant c.loop-byte-test.false
