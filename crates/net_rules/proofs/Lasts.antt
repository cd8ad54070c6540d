-- What the last line says, line by line.
use Rattle.std.proofs.Common.{◌≡◌, ℕ, ◌+◌, ◌<◌, Option, Some, None, List, [], ◌∷◌, ◌++◌, length, get_or, take, refl, sym, ◌∙◌, ap}
use Rattle.std.specs.Prelude.{option_map}
use Rattle.std.specs.Option.{option_or}
use Rattle.std.specs.List.{filter_map, last_or, cons_option}
use Rattle.std.proofs.lemmas.List.{take_more, append-nil}
use Rattle.std.proofs.lemmas.List.Elements.{filter_map-append}
use Rattle.ios_words.specs.declared.commands.Command.{Command}
use Rattle.ios_config.specs.declared.settings.Given.{Given}
use Rattle.net_rules.specs.Settings.{last_said}

last_of : {X : Type 0} (o : Option X) (xs : List X) (x : X) → last_or o (xs ++ x ∷ []) ≡ Some x
last_of o [] x = refl
last_of o (y ∷ xs) x = last_of (Some y) xs x

-- one more item, of which something may be picked
pub last_picked : {X Y : Type 0} (h : X → Option Y) (xs : List X) (n : ℕ) (x : X) (before now : Option Y) → n < length xs → x ≡ get_or xs n x →
    before ≡ last_or None (filter_map h (take n xs)) → now ≡ h x → option_or now before ≡ last_or None (filter_map h (take (n + 1) xs))
last_picked {X} {Y} h xs n x before now within is was said =
    ap (λ (o : Option Y). option_or o before) said ∙ by (h x) refl ∙
    sym (ap (λ (l : List X). last_or None (filter_map h l)) (take_more xs n x within ∙ ap (λ (y : X). take n xs ++ y ∷ []) (sym is)) ∙ ap (last_or None) (filter_map-append h (take n xs) (x ∷ [])))
  where
    front : List Y
    front = filter_map h (take n xs)

    by : (o : Option Y) → h x ≡ o → option_or (h x) before ≡ last_or None (front ++ cons_option (h x) [])
    by o e = ap (λ (p : Option Y). option_or p before) e ∙ cases o ∙ sym (ap (λ (p : Option Y). last_or None (front ++ cons_option p [])) e)
      where
        cases : (o : Option Y) → option_or o before ≡ last_or None (front ++ cons_option o [])
        cases None = was ∙ ap (last_or None) (sym (append-nil front))
        cases (Some y) = sym (last_of None front y)

-- one more line
pub last_more : {X : Type 0} (says : Command → Option X) (lines : List (Given Command)) (n : ℕ) (line : Given Command) (before now : Option X) → n < length lines → line ≡ get_or lines n line →
    before ≡ last_said says (take n lines) → now ≡ says line.value → option_or now before ≡ last_said says (take (n + 1) lines)
last_more says lines n line before now within is was said = last_picked (λ (g : Given Command). says g.value) lines n line before now within is was said

-- what is seen of the first that is there
pub map_or : {X Y : Type 0} (f : X → Y) (a b : Option X) → option_map f (option_or a b) ≡ option_or (option_map f a) (option_map f b)
map_or f None b = refl
map_or f (Some x) b = refl
