use Rattle.std.proofs.Common.{◌≡◌, ◌⊎◌, ◌+◌, ◌<◌, ℕ, List, Option, take, length, get_or, subst, sym}
use Rattle.std.proofs.lemmas.List.{take_all}
use Rattle.ios_words.specs.declared.commands.Command.{Command}
use Rattle.ios_config.specs.declared.settings.Given.{Given}
use Rattle.ios_config.specs.declared.settings.ListText.{ListText}
use Rattle.ios_config.specs.Least.{FindsLeast, lesser}
use Rattle.ios_config.specs.Rising.{FallsAt, IsNotRising}
use Rattle.ios_config.proofs.Least.{least_same, least_either}
use Rattle.ios_config.proofs.Falls.{any_to, any_from}
use Rattle.ios_config.proofs.rising.first_not_rising.Goals as goal

-- one more list
more : (xs : List ListText) (i : ℕ) (x : ListText) (a b o : Option ℕ) → i < length xs → x ≡ get_or xs i x → FindsLeast (IsNotRising (take i xs)) a →
    FindsLeast (FallsAt x.entries) b → o ≡ lesser a b → FindsLeast (IsNotRising (take (i + 1) xs)) o
more xs i x a b o h is front here e =
    subst (FindsLeast (IsNotRising (take (i + 1) xs))) (sym e)
    (least_same (λ n. IsNotRising (take i xs) n ⊎ FallsAt x.entries n) (IsNotRising (take (i + 1) xs)) (lesser a b)
    (λ n f. any_from (λ (l : ListText). FallsAt l.entries n) xs i x h is f) (λ n f. any_to (λ (l : ListText). FallsAt l.entries n) xs i x h is f)
    (least_either (IsNotRising (take i xs)) (FallsAt x.entries) a b front here))

pub loop-list-preserved : goal.loop-list-preserved
loop-list-preserved c =
    more c.args.lists.now c.loop-list.list-index c.list-item.result c.loop-list.found c.first_in_list.result c.lesser-found.result c.loop-list-test.true c.list-item.is
    c.loop-list.invariant
    (subst (λ (l : List (Given Command)). FindsLeast (FallsAt l) c.first_in_list.result) c.slice.ensures.items c.first_in_list.ensures) c.lesser-found.ensures

pub returns : goal.returns
returns c = subst (λ (l : List ListText). FindsLeast (IsNotRising l) c.loop-list.found) (take_all c.loop-list.list-index c.args.lists.now c.loop-list-test.false) c.loop-list.invariant
