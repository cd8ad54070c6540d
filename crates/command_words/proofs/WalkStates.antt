-- The states of the walk of `clap` over words, what is pending in them, and when they end without a fault.
use Rattle.std.proofs.Common.{◌≡◌, ℕ, zero, suc, ◌<◌, ◌||◌, Bool, true, false, List, [], ◌∷◌, length, Option, Some, None, refl, sym, subst, slice_get, option_and_then, fold, arith}
use Rattle.clap.specs.Walk.{Held, Row, Rule, Text, Waiting, Walk, arg_by_id, idle, settled, settled_rows, walked}
use Rattle.clap.specs.Walk.{subcommand_met}
use Rattle.clap.specs.Walk.{option as waits, positional as positional_waits}
use Rattle.clap.specs.Simple.{Shape, new_shape}
use Rattle.clap.specs.Kinds.{Kinds, or_else}
use Rattle.clap.specs.Faults.{settle_fault, turn_fault, walk_fault}
use Rattle.command_words.specs.Words.{Given, option, positional, then_more}
use Rattle.command_words.proofs.Rules.{Judged, added, first_empty, one_text, use_judged}

-- a command without commands of its own, once it is built
abbrev pub leaf : Text → List Rule → Shape
leaf name rules = record (new_shape name) {
  rules = rules;
  no_binary_name = true;
  disable_help_flag = true;
  disable_help_subcommand = true;
  is_built = true;
}

-- ---- what the words give, as rows

abbrev pub absorb : List Text → ℕ → List Given → List Row → Option (List Row)
absorb ids k [] rows = Some rows
absorb ids k (positional word ∷ rest) rows =
    option_and_then (λ id. option_and_then (absorb ids (suc k) rest) (added id word rows)) (slice_get ids k)
absorb ids k (option name word ∷ rest) rows = option_and_then (absorb ids k rest) (added name word rows)

-- the rows that come of what the words give, after these
abbrev pub outcome : List Text → ℕ → Option (List Given) → List Row → Option (List Row)
outcome ids k given rows = option_and_then (λ items. absorb ids k items rows) given

pub or_false : (b : Bool) → (b || false) ≡ b
or_false true = refl
or_false false = refl

pub no_more : {A B : Type 0} (o : Option A) → option_and_then {T = A} {U = B} (λ x. None) o ≡ None
no_more None = refl
no_more (Some x) = refl

pub positional_outcome : (ids : List Text) (k : ℕ) (id word : Text) (given : Option (List Given)) (rows : List Row) → slice_get ids k ≡ Some id
    → outcome ids k (then_more (positional word) given) rows ≡ option_and_then (outcome ids (suc k) given) (added id word rows)
positional_outcome ids k id word None rows e = sym (no_more (added id word rows))
positional_outcome ids k id word (Some items) rows e = rw e refl

pub stray_outcome : (ids : List Text) (k : ℕ) (word : Text) (given : Option (List Given)) (rows : List Row) → slice_get ids k ≡ None
    → outcome ids k (then_more (positional word) given) rows ≡ None
stray_outcome ids k word None rows e = refl
stray_outcome ids k word (Some items) rows e = rw e refl

pub option_outcome : (ids : List Text) (k : ℕ) (name word : Text) (given : Option (List Given)) (rows : List Row)
    → outcome ids k (then_more (option name word) given) rows ≡ option_and_then (outcome ids k given) (added name word rows)
option_outcome ids k name word None rows = sym (no_more (added name word rows))
option_outcome ids k name word (Some items) rows = refl

-- ---- the walk

abbrev pub Pending : Type 0
Pending = Option (Text × List Text)

abbrev pub held_by : List Row → Pending → Held
held_by rows pending = record { rows = rows; pending = pending; skip = 0 }

abbrev pub state : List Row → Pending → Waiting → ℕ → Bool → Walk
state rows pending waiting k trailing = record {
  held = held_by rows pending;
  waiting = waiting;
  position = suc k;
  is_trailing = trailing;
  stopped = None;
}

abbrev pub run : Shape → Walk → List Text → Walk
run s w words = fold (walked s.rules []) w words

-- the fault that comes of these words, but for what is required
abbrev pub fault_from : Shape → Walk → List Text → Kinds
fault_from s w words = or_else (walk_fault s [] w words) (settle_fault s.rules false (run s w words).held)

abbrev pub IsJudged : Shape → Walk → List Text → Option (List Row) → Type 0
IsJudged s w words o = Judged o (fault_from s w words) (settled s.rules (run s w words).held).rows

-- a word is refused
pub refused_word : (s : Shape) (w : Walk) (word : Text) (rest : List Text) → (turn_fault s [] w word ≡ [] → ⊥) → IsJudged s w (word ∷ rest) None
unfolding walk_fault
refused_word s w word rest h = λ e. h (first_empty _ _ (first_empty _ _ e))

-- a word is taken, and the walk goes on
pub taken_word : (s : Shape) (w next : Walk) (word : Text) (rest : List Text) (o : Option (List Row)) → turn_fault s [] w word ≡ [] → walked s.rules [] w word ≡ next
    → IsJudged s next rest o → IsJudged s w (word ∷ rest) o
unfolding walk_fault
taken_word s w next word rest o passes goes h =
    subst (λ (kinds : Kinds). Judged o (or_else (or_else kinds (walk_fault s [] (walked s.rules [] w word) rest))
    (settle_fault s.rules false (run s (walked s.rules [] w word) rest).held)) (settled s.rules (run s (walked s.rules [] w word) rest).held).rows) (sym passes)
    (subst (λ (v : Walk). IsJudged s v rest o) (sym goes) h)

pub as_outcome : (s : Shape) (w : Walk) (words : List Text) (a b : Option (List Row)) → a ≡ b → IsJudged s w words b → IsJudged s w words a
as_outcome s w words a b e h = subst (IsJudged s w words) (sym e) h

-- ---- what is pending

-- nothing waits, or an argument with its value does
pub data Fine : List Rule → Pending → Type 0 where
  nothing : {c : List Rule} → Fine c None
  one : {c : List Rule} (name : Option Text) (place : Option ℕ) (required : Bool) (id word : Text) → arg_by_id c id ≡ Some (one_text name place required id)
      → Fine c (Some (id, word ∷ []))

abbrev pub added_values : Text → List Text → List Row → Option (List Row)
added_values id [] rows = None
added_values id (word ∷ words) rows = added id word rows

-- the rows, once what is pending is among them
abbrev pub flat : List Row → Pending → Option (List Row)
flat rows None = Some rows
flat rows (Some p) = added_values p.0 p.1 rows

pub settle_judged : (c : List Rule) (rows : List Row) (p : Pending) → Fine c p → Judged (flat rows p) (settle_fault c false (held_by rows p)) (settled_rows c p rows)
settle_judged c rows None nothing = (refl, refl)
settle_judged c rows (Some p) (one name place required id word found) = rw found (use_judged name place required id word rows)

-- what is pending is settled, or refused
pub record Settles (c : List Rule) (rows : List Row) (p : Pending) : Type 0 where
  pub all : List Row
  pub flat_is : flat rows p ≡ Some all
  pub passes : settle_fault c false (held_by rows p) ≡ []
  pub rows_are : settled_rows c p rows ≡ all

pub record Sticks (c : List Rule) (rows : List Row) (p : Pending) : Type 0 where
  pub flat_is : flat rows p ≡ None
  pub refuses : settle_fault c false (held_by rows p) ≡ [] → ⊥

pub data Settling : List Rule → List Row → Pending → Type 0 where
  sticks : {c : List Rule} {rows : List Row} {p : Pending} → Sticks c rows p → Settling c rows p
  settles : {c : List Rule} {rows : List Row} {p : Pending} → Settles c rows p → Settling c rows p

pub settling : (c : List Rule) (rows : List Row) (p : Pending) → Fine c p → Settling c rows p
settling c rows p fine = go (flat rows p) refl (settle_judged c rows p fine)
  where
    go : (o : Option (List Row)) → flat rows p ≡ o → Judged o (settle_fault c false (held_by rows p)) (settled_rows c p rows) → Settling c rows p
    go None e h = sticks (record { flat_is = e; refuses = h })
    go (Some all) e h = settles (record { all = all; flat_is = e; passes = h.0; rows_are = h.1 })

pub and_then_some : {A : Type 0} (o : Option A) → option_and_then (λ x. Some x) o ≡ o
and_then_some None = refl
and_then_some (Some x) = refl

pub no_command : (waiting : Waiting) (word : Text) → subcommand_met [] waiting word ≡ None
no_command idle word = refl
no_command (waits id) word = refl
no_command positional_waits word = refl

pub within : (xs : List Text) (k : ℕ) (x : Text) → slice_get xs k ≡ Some x → k < length xs
within [] k x e = absurd (cc)
within (y ∷ ys) zero x e = omega arith
within (y ∷ ys) (suc k) x e = omega (arith, within ys k x e)
