-- What a fact for each value of a `bool` says at one of them.
use Rattle.std.proofs.Common.{◌≡◌, Bool, true, false, MatchBool, subst, []}

pub at_true : (b : Bool) (P Q : Type 0) → b ≡ true → MatchBool b P Q → P
at_true b P Q e h = subst (λ (v : Bool). MatchBool v P Q) e h

pub at_false : (b : Bool) (P Q : Type 0) → b ≡ false → MatchBool b P Q → Q
at_false b P Q e h = subst (λ (v : Bool). MatchBool v P Q) e h
