-- What is known of the document and the files that are generated.
use Rattle.std.proofs.Common.{◌≡◌, ◌≢◌, ℕ, zero, suc, ◌+◌, ◌<◌, ◌≤◌, List, [], ◌∷◌, ◌++◌, length, map, length-append, sym, ap, subst, arith}
use Rattle.std.specs.Prelude.{All, AllPairs, codes, decimal}
use Rattle.std.specs.List.{AllZip, range_with_len}
use Rattle.std.proofs.lemmas.Fmt.{decimal_injective}
use Rattle.std.proofs.lemmas.List.{append_cancel_left, append_cancel_right}
use Rattle.std.proofs.lemmas.List.Elements.{All-append, All-cons, All-nil}
use Rattle.std.proofs.lemmas.List.FromFn.{length-map-range_with_len}
use Rattle.std.proofs.lemmas.List.Kept.{AllPairs-cons}
use Rattle.net_model.specs.declared.policies.Policy.{Policy}
use Rattle.net_model.specs.declared.policies.Weights.{Weights}
use Rattle.net_doc.specs.Documents.{IsFileName, IsWeight, IsWellFormed}
use Rattle.net_model.specs.Policies.{HasFewFailures}
use Rattle.net_gen.proofs.Lengths.{three_digits}
use Rattle.net_gen.specs.Plans.{numbers}
use Rattle.net_gen.specs.RouterFiles.{file_name}
use Rattle.net_gen.specs.Generated.{Asked, asked, asked_around, Asks, IsGenerated}
use Rattle.net_gen.specs.declared.generating.Generated.{Generated}
use Rattle.generated_network_laws.specs.Laws.{IsGeneratedWithin}

-- ---- few failures

abbrev AsksFew : Asked → Type 0
AsksFew ask = HasFewFailures ask.kind

around_few : (n a k : ℕ) → All AsksFew (map (asked_around n) (range_with_len a k))
around_few n a zero = All-nil AsksFew
around_few n a (suc k) = All-cons AsksFew (asked_around n a) (map (asked_around n) (range_with_len (a + 1) k)) (omega arith) (around_few n (a + 1) k)

asked_few : (n : ℕ) → All AsksFew (asked n)
asked_few n = All-append AsksFew (map (asked_around n) (numbers n)) (_ ∷ []) (around_few n 1 n) (All-cons AsksFew _ [] tt (All-nil AsksFew))

abbrev HasFew : Policy → Type 0
HasFew policy = HasFewFailures policy.kind

along : (asks : List Asked) (policies : List Policy) → AllZip Asks asks policies → All AsksFew asks → All HasFew policies
along [] [] h few = All-nil HasFew
along [] (policy ∷ policies) h few = absurd h
along (ask ∷ asks) [] h few = absurd h
along (ask ∷ asks) (policy ∷ policies) h few =
    All-cons HasFew policy policies (subst HasFewFailures (sym h.0.kind) (few 0 ask (omega arith)))
    (along asks policies h.1 (λ k d within. few (suc k) d (omega (arith, within))))

-- each policy that is generated allows few failures
pub few_failures : (n : ℕ) (made : Generated) → IsGenerated n made → All HasFew made.doc.policies
few_failures n made is = along (asked n) made.doc.policies is.doc.policies (asked_few n)

-- ---- a well-formed document

is_file_name : (k : ℕ) → k < 1000 → IsFileName (file_name k)
is_file_name k few =
    let whole = length-append (codes "r") (decimal k ++ codes ".cfg") in
    let rest = length-append (decimal k) (codes ".cfg") in
    record {
      some = omega (arith, whole);
      few = omega (arith, three_digits k few, whole, rest);
    }

names_from : (a k : ℕ) → a + k ≤ 1000 → All IsFileName (map file_name (range_with_len a k))
names_from a zero few = All-nil IsFileName
names_from a (suc k) few =
    All-cons IsFileName (file_name a) (map file_name (range_with_len (a + 1) k)) (is_file_name a (omega (arith, few))) (names_from (a + 1) k (omega (arith, few)))

file_name_one : (k l : ℕ) → k < 1000 → l < 1000 → file_name k ≡ file_name l → k ≡ l
file_name_one k l low few same =
    decimal_injective k l (omega (arith, low)) (omega (arith, few))
    (append_cancel_right (decimal k) (decimal l) (codes ".cfg") (append_cancel_left (codes "r") (decimal k ++ codes ".cfg") (decimal l ++ codes ".cfg") same))

others_from : (j a k : ℕ) → j < a → a + k ≤ 1000 → All (λ name. file_name j ≢ name) (map file_name (range_with_len a k))
others_from j a zero below few = All-nil (λ name. file_name j ≢ name)
others_from j a (suc k) below few =
    All-cons (λ name. file_name j ≢ name) (file_name a) (map file_name (range_with_len (a + 1) k))
    (λ same. omega (arith, file_name_one j a (omega (arith, below, few)) (omega (arith, few)) same, below))
    (others_from j (a + 1) k (omega (arith, below)) (omega (arith, few)))

differ_from : (a k : ℕ) → a + k ≤ 1000 → AllPairs (λ r s. r ≢ s) (map file_name (range_with_len a k))
differ_from a zero few = λ i j d low within. absurd (omega (arith, within))
differ_from a (suc k) few =
    AllPairs-cons (λ r s. r ≢ s) (file_name a) (map file_name (range_with_len (a + 1) k)) (others_from a (a + 1) k (omega arith) (omega (arith, few))) (differ_from (a + 1) k (omega (arith, few)))

is_one : (w : ℕ) → w ≡ 1 → IsWeight w
is_one w is = record { low = omega (arith, is); high = omega (arith, is) }

-- the document of 6 to 40 routers is well formed
pub well_formed : (n : ℕ) (made : Generated) → IsGeneratedWithin n made → length made.doc.links ≤ 1024 → length made.doc.policies ≤ 256 → IsWellFormed made.doc
well_formed n made within links policies =
    let is = within.is.doc in
    let long : length (map file_name (numbers n)) ≡ n = length-map-range_with_len file_name 1 n in
    let same : length made.doc.routers ≡ length (map file_name (numbers n)) = ap length is.routers in
    record {
      some_router = omega (arith, long, same, within.some);
      names = subst (All IsFileName) (sym is.routers) (names_from 1 n (omega (arith, within.few)));
      routers_differ = subst (AllPairs (λ r s. r ≢ s)) (sym is.routers) (differ_from 1 n (omega (arith, within.few)));
      few_routers = omega (arith, long, same, within.few);
      few_links = links;
      few_policies = policies;
      few_failures = few_failures n made within.is;
      list = is_one made.doc.weights.list (ap (λ (w : Weights). w.list) is.weights);
      filter = is_one made.doc.weights.filter (ap (λ (w : Weights). w.filter) is.weights);
      session = is_one made.doc.weights.session (ap (λ (w : Weights). w.session) is.weights);
    }
