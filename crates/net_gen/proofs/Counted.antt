-- Lists over the numbers from 1 on, with one number more.
use Rattle.std.proofs.Common.{◌≡◌, ℕ, ◌+◌, Bool, true, false, cond, List, [], ◌∷◌, ◌++◌, length, length-append, append_assoc, refl, sym, ◌∙◌, ap, subst, arith}
use Rattle.std.specs.Prelude.{map, filter}
use Rattle.std.specs.List.{flat_map, AllZip}
use Rattle.std.proofs.lemmas.List.{map-id, append-nil}
use Rattle.std.proofs.lemmas.List.Concat.{flat_map-append}
use Rattle.std.proofs.lemmas.List.Elements.{filter-append}
use Rattle.std.proofs.lemmas.List.FromFn.{map-range_with_len_more}
use Rattle.arc_base.proofs.Zips.{AllZip-append}
use Rattle.net_gen.specs.Plans.{numbers, link_count, has_end}
use Rattle.net_model.specs.declared.policies.Policy.{Policy}
use Rattle.net_gen.specs.Generated.{Asked, Asks}
use Rattle.net_gen.specs.RouterFiles.{name_lines, host_lines, link_lines, links_lines, process_lines, router_lines, ended, text_of}

pub map_more : {X : Type 0} (f : ℕ → X) (n : ℕ) → map f (numbers (n + 1)) ≡ map f (numbers n) ++ f (n + 1) ∷ []
map_more f n = map-range_with_len_more f 1 n (n + 1) (omega arith)

pub numbers_more : (n : ℕ) → numbers (n + 1) ≡ numbers n ++ (n + 1) ∷ []
numbers_more n = sym (map-id (numbers (n + 1))) ∙ map_more (λ (x : ℕ). x) n ∙ ap (λ (ys : List ℕ). ys ++ (n + 1) ∷ []) (map-id (numbers n))

kept_one : (b : Bool) (n : ℕ) (ns : List ℕ) → b ≡ true → ns ++ cond b (n ∷ []) [] ≡ ns ++ n ∷ []
kept_one true n ns e = refl
kept_one false n ns e = absurd (cc)

left_one : (b : Bool) (n : ℕ) (ns : List ℕ) → b ≡ false → ns ++ cond b (n ∷ []) [] ≡ ns
left_one true n ns e = absurd (cc)
left_one false n ns e = append-nil ns

pub kept_more : (P : ℕ → Bool) (n : ℕ) → P (n + 1) ≡ true → filter P (numbers (n + 1)) ≡ filter P (numbers n) ++ (n + 1) ∷ []
kept_more P n e = ap (filter P) (numbers_more n) ∙ filter-append P (numbers n) ((n + 1) ∷ []) ∙ kept_one (P (n + 1)) (n + 1) (filter P (numbers n)) e

pub left_more : (P : ℕ → Bool) (n : ℕ) → P (n + 1) ≡ false → filter P (numbers (n + 1)) ≡ filter P (numbers n)
left_more P n e = ap (filter P) (numbers_more n) ∙ filter-append P (numbers n) ((n + 1) ∷ []) ∙ left_one (P (n + 1)) (n + 1) (filter P (numbers n)) e

-- one number more is kept, or left out
pub length_kept : (P : ℕ → Bool) (n : ℕ) → P (n + 1) ≡ true → length (filter P (numbers (n + 1))) ≡ length (filter P (numbers n)) + 1
length_kept P n e = ap length (kept_more P n e) ∙ length-append (filter P (numbers n)) ((n + 1) ∷ [])

pub length_left : (P : ℕ → Bool) (n : ℕ) → P (n + 1) ≡ false → length (filter P (numbers (n + 1))) ≡ length (filter P (numbers n))
length_left P n e = ap length (left_more P n e)

-- the text of the interfaces over one link more
pub text_kept : (n router link : ℕ) → has_end n router (link + 1) ≡ true →
    text_of (links_lines n router (numbers (link + 1))) ≡ text_of (links_lines n router (numbers link)) ++ text_of (link_lines n router (link + 1))
text_kept n router link e =
    let lines : links_lines n router (numbers (link + 1)) ≡ links_lines n router (numbers link) ++ link_lines n router (link + 1) =
    ap (flat_map (link_lines n router)) (kept_more (has_end n router) link e)
    ∙ flat_map-append (link_lines n router) (filter (has_end n router) (numbers link)) ((link + 1) ∷ [])
    ∙ ap (λ (ls : List (List ℕ)). links_lines n router (numbers link) ++ ls) (append-nil (link_lines n router (link + 1))) in
    ap text_of lines ∙ flat_map-append ended (links_lines n router (numbers link)) (link_lines n router (link + 1))

pub text_left : (n router link : ℕ) → has_end n router (link + 1) ≡ false →
    text_of (links_lines n router (numbers (link + 1))) ≡ text_of (links_lines n router (numbers link))
text_left n router link e = ap (λ (ls : List ℕ). text_of (flat_map (link_lines n router) ls)) (left_more (has_end n router) link e)

-- what a loop that goes from 1 on has pushed, one number more
pub pushed_more : {X : Type 0} (f : ℕ → X) (n : ℕ) (items now : List X) (x : X) → now ≡ items ++ x ∷ [] → items ≡ map f (numbers n) → x ≡ f (n + 1) → now ≡ map f (numbers (n + 1))
pushed_more f n items now x pushed before one =
    pushed ∙ ap (λ (ys : List _). ys ++ x ∷ []) before ∙ ap (λ (y : _). map f (numbers n) ++ y ∷ []) one ∙ sym (map_more f n)

pub pushed_long : {X : Type 0} (items now : List X) (x : X) (n : ℕ) → now ≡ items ++ x ∷ [] → length items ≡ n → length now ≡ n + 1
pushed_long items now x n pushed before = omega (arith, ap length pushed, length-append items (x ∷ []), before)

pub asked_more : (asks : ℕ → Asked) (n : ℕ) (items now : List Policy) (p : Policy) → now ≡ items ++ p ∷ [] → AllZip Asks (map asks (numbers n)) items → Asks (asks (n + 1)) p →
    AllZip Asks (map asks (numbers (n + 1))) now
asked_more asks n items now p pushed before one =
    subst (λ (ps : List Policy). AllZip Asks (map asks (numbers (n + 1))) ps) (sym pushed)
    (subst (λ (qs : List Asked). AllZip Asks qs (items ++ p ∷ [])) (sym (map_more asks n))
    (AllZip-append Asks (map asks (numbers n)) items (asks (n + 1) ∷ []) (p ∷ []) before (one, tt)))

-- four parts of a text, one after another
pub four_parts : (first second third fourth a b c d : List ℕ) → first ≡ a → second ≡ first ++ b → third ≡ second ++ c → fourth ≡ third ++ d → fourth ≡ a ++ (b ++ (c ++ d))
four_parts first second third fourth a b c d one two three four =
    four ∙ ap (λ (t : List ℕ). t ++ d) (three ∙ ap (λ (t : List ℕ). t ++ c) (two ∙ ap (λ (t : List ℕ). t ++ b) one))
    ∙ append_assoc (a ++ b) c d ∙ append_assoc a b (c ++ d)

pub text_of-append : (ls ms : List (List ℕ)) → text_of (ls ++ ms) ≡ text_of ls ++ text_of ms
text_of-append ls ms = flat_map-append ended ls ms

pub file_text : (n router : ℕ) → text_of (router_lines n router) ≡
    text_of (name_lines router) ++ (text_of (host_lines router) ++ (text_of (links_lines n router (numbers (link_count n))) ++ text_of process_lines))
file_text n router =
    let links = links_lines n router (numbers (link_count n)) in
    text_of-append (name_lines router) (host_lines router ++ (links ++ process_lines))
    ∙ ap (λ (t : List ℕ). text_of (name_lines router) ++ t) (text_of-append (host_lines router) (links ++ process_lines)
    ∙ ap (λ (t : List ℕ). text_of (host_lines router) ++ t) (text_of-append links process_lines))
