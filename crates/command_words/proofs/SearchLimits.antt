-- The numbers of a command are in their ranges.
use Rattle.std.proofs.Common.{◌≡◌, ◌≤◌, ◌&&◌, ℕ, Bool, true, false, List, [], ◌∷◌, length, Option, Some, None, refl, if◌then◌else◌, codes, option_and_then, nat_le, IfSome}
use Rattle.std.specs.List.{list_all}
use Rattle.std.specs.Str.{is_utf8}
use Rattle.std.proofs.lemmas.Bool.{and_parts, leb-true}
use Rattle.arc_base.specs.PrefixText.{prefix_of}
use Rattle.arc_base.specs.WordNumbers.{is_natural, value_after}
use Rattle.command_words.specs.Commands.{Form, HasLimit, Look, argument_of, command_by, command_in, command_of, form_named, is_whole_command, links_or_none, number_or, options_of}
use Rattle.command_words.specs.Values.{number_within, router_names}
use Rattle.command_words.specs.Words.{Given, arguments_of}
use Rattle.command_words.specs.declared.commands.Command.{Command}
use Rattle.command_words.specs.declared.forms.CommandKind.{CommandKind}
use Rattle.command_words.specs.declared.forms.CommandKind.TheVariants as kinds

abbrev IsWithin : ℕ → ℕ → ℕ → Type 0
IsWithin least most number = (least ≤ number) × (number ≤ most)

in_range : (least most : ℕ) (word : List ℕ) → IfSome (number_within least most word) (IsWithin least most)
in_range least most word = go (is_natural most word) refl
  where
    inside : is_natural most word ≡ true → (b : Bool) → (nat_le (length word) 10 && nat_le least (value_after 0 word)) ≡ b
        → IfSome (if b then Some (value_after 0 word) else None) (IsWithin least most)
    inside good true e = (leb-true _ _ (and_parts _ _ e).1, leb-true _ _ (and_parts _ _ (and_parts _ _ good).1).1)
    inside good false e = tt

    go : (b : Bool) → is_natural most word ≡ b
        → IfSome (option_and_then (λ number. if nat_le (length word) 10 && nat_le least number then Some number else None) (if b then Some (value_after 0 word) else None)) (IsWithin least most)
    go true e = inside e (nat_le (length word) 10 && nat_le least (value_after 0 word)) refl
    go false e = tt

or_in_range : (usual least most : ℕ) (text : Option (List ℕ)) → IsWithin least most usual → IfSome (number_or usual least most text) (IsWithin least most)
or_in_range usual least most None within = within
or_in_range usual least most (Some text) within = in_range least most text

-- ---- each command

abbrev Limited : Option Command → Type 0
Limited command = IfSome command HasLimit

-- what is read last has its limits, where what is read first has its own
after : {A : Type 0} (o : Option A) (P : A → Type 0) (by : A → Option Command) → IfSome o P → ((x : A) → P x → Limited (by x)) → Limited (option_and_then by o)
after None P by all h = tt
after (Some x) P by all h = h x all

-- whatever is read first
next : {A : Type 0} (o : Option A) (by : A → Option Command) → ((x : A) → Limited (by x)) → Limited (option_and_then by o)
next None by h = tt
next (Some x) by h = h x

-- a number is in its range
with_number : (least most : ℕ) (text : Option (List ℕ)) (by : ℕ → Option Command) → ((n : ℕ) → IsWithin least most n → Limited (by n))
    → Limited (option_and_then by (option_and_then (number_within least most) text))
with_number least most None by h = tt
with_number least most (Some text) by h = after (number_within least most text) (IsWithin least most) by (in_range least most text) h

with_usual : (usual least most : ℕ) (text : Option (List ℕ)) (by : ℕ → Option Command) → IsWithin least most usual → ((n : ℕ) → IsWithin least most n → Limited (by n))
    → Limited (option_and_then by (number_or usual least most text))
with_usual usual least most text by within h = after (number_or usual least most text) (IsWithin least most) by (or_in_range usual least most text within) h

usual_price : IsWithin 0 512 32
usual_price = (leb-true 0 32 refl, leb-true 32 512 refl)

usual_conflicts : IsWithin 1 200000 50000
usual_conflicts = (leb-true 1 50000 refl, leb-true 50000 200000 refl)

both : (bound conflicts : ℕ) → IsWithin 0 512 bound → IsWithin 1 200000 conflicts → (bound ≤ 512) × ((1 ≤ conflicts) × (conflicts ≤ 200000))
both bound conflicts within few = (within.1, few)

kind_limited : (kind : CommandKind) (value : Look) → Limited (command_by kind value)
kind_limited kinds.Verify value = next (value (codes "DOC")) _ (λ document. tt)
kind_limited kinds.Trace value =
    next (value (codes "DOC")) _ (λ document. next (option_and_then prefix_of (value (codes "FROM"))) _
    (λ from. next (option_and_then prefix_of (value (codes "TO"))) _ (λ to. next (links_or_none (value (codes "down"))) _ (λ down. tt))))
kind_limited kinds.Repair value =
    next (value (codes "DOC")) _ (λ document. next (value (codes "out")) _
    (λ suffix. next (value (codes "proof")) _ (λ proof. with_usual 32 0 512 (value (codes "max-price")) _ usual_price (λ bound within.
    with_usual 50000 1 200000 (value (codes "conflicts")) _ usual_conflicts (λ conflicts few. both bound conflicts within few)))))
kind_limited kinds.Check value = next (value (codes "DOC")) _ (λ document. next (value (codes "CERT")) _ (λ certificate. tt))
kind_limited kinds.Apply value = next (value (codes "DOC")) _ (λ document. next (value (codes "EDITS")) _ (λ edits. next (value (codes "out")) _ (λ suffix. tt)))
kind_limited kinds.Solve value =
    next (value (codes "CNF")) _ (λ formula. next (value (codes "proof")) _ (λ proof. with_usual 50000 1 200000 (value (codes "conflicts")) _ usual_conflicts (λ conflicts few. few)))
kind_limited kinds.Lrat value = next (value (codes "CNF")) _ (λ formula. next (value (codes "PROOF")) _ (λ proof. tt))
kind_limited kinds.Generate value = with_number 6 40 (value (codes "N")) _ (λ number within. next (value (codes "proof")) _ (λ proof. within))
kind_limited kinds.Nodes value =
    next (value (codes "DOC")) _ (λ document. next (option_and_then prefix_of (value (codes "FROM"))) _
    (λ from. next (option_and_then prefix_of (value (codes "TO"))) _ (λ to. with_number 0 16 (value (codes "K")) _ (λ failures within. within.1))))
kind_limited kinds.Prefers value =
    next (value (codes "DOC")) _ (λ document. next (option_and_then prefix_of (value (codes "FROM"))) _
    (λ from. next (option_and_then prefix_of (value (codes "TO"))) _ (λ to. next (option_and_then router_names (value (codes "ROUTERS"))) _ (λ routers. tt))))
kind_limited kinds.Recheck value = next (value (codes "DOC")) _ (λ document. next (value (codes "REPORT")) _ (λ report. tt))

-- ---- the whole line

either : (b : Bool) (c : Option Command) → Limited c → Limited (if b then c else None)
either true c h = h
either false c h = tt

line_limited : (words : List (List ℕ)) → Limited (command_in words)
line_limited [] = tt
line_limited (name ∷ words) =
    next (form_named name) _ (λ form. next (arguments_of (options_of form) words) _ (λ given.
    either (is_whole_command form given) (command_by form.kind (argument_of form given)) (kind_limited form.kind (argument_of form given))))

pub command_limited : (words : List (List ℕ)) → Limited (command_of words)
command_limited words = either (list_all is_utf8 words) (command_in words) (line_limited words)
