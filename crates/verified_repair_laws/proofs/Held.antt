-- Repaired files that replaced the old ones are read, and have the repaired network.
use Rattle.std.proofs.Common.{◌≡◌, ℕ, ◌-◌, ◌≤◌, Bool, true, false, if◌then◌else◌, List, [], ◌∷◌, length, map, min, refl, sym, ap, subst, ◌∙◌, arith}
use Rattle.std.specs.Prelude.{All, Option, Some, None, unwrap_or, nat_lt, Ok}
use Rattle.std.specs.List.{AllZip}
use Rattle.std.specs.Option.{option_or}
use Rattle.std.proofs.lemmas.Bool.{ltb-true, ltb-false}
use Rattle.std.proofs.lemmas.List.Elements.{All-head, All-tail}
use Rattle.arc_outside.specs.Files.{Files}
use Rattle.net_doc.specs.Documents.{ReadsDocument}
use Rattle.net_build.specs.Networks.{IsNetworkOf}
use Rattle.network_edit_laws.specs.Kept.{AllClassesStay}
use Rattle.run_files.specs.declared.outcome.FileRefusal.{FileRefusal}
use Rattle.run_files.specs.Limits.{document_limit}
use Rattle.run_files.proofs.OneAnswer.{first_none, second_none}
use Rattle.run_files.specs.Refusals.{bytes_at, first_refusal, read_refusal, refusal_of, refusal_within}
use Rattle.arc_base.specs.declared.refusal.Kind.TheVariants as kinds
use Rattle.run_inputs.specs.Inputs.{contents}
use Rattle.patch_size_laws.specs.Sizes.{AreShort, PatchedFilesAreShort, bytes_of_all}
use Rattle.patch_size_laws.proofs.Keyed.{total, total-sum}
use Rattle.verified_repair_laws.specs.VerifiedRepairs.{RepairedFilesAreVerified}

-- a file that is not refused is within the limit
within_limit : (limit : ℕ) (name : List ℕ) (o : Option (List ℕ)) → refusal_within limit name o ≡ None → length (unwrap_or o []) ≤ limit
within_limit limit name None e = absurd (cc)
within_limit limit name (Some bytes) e = by (nat_lt limit (length bytes)) refl e
  where
    by : (b : Bool) → nat_lt limit (length bytes) ≡ b → (if b then Some (refusal_of name 0 kinds.TooLong) else None) ≡ None → length bytes ≤ limit
    by true is k = absurd (cc)
    by false is k = ltb-false limit (length bytes) is

-- files none of which is refused fit into the room together
all_within : (most room : ℕ) (files : Files) (names : List (List ℕ)) → first_refusal most room files names ≡ None → total length (map (bytes_at files) names) ≤ room
all_within most room files [] e = omega arith
all_within most room files (name ∷ names) e =
    let rest : Option FileRefusal = first_refusal most (room - length (bytes_at files name)) files names in
    let here = within_limit (min most room) name (files name) (first_none (read_refusal (min most room) files name) rest e) in
    let later = all_within most (room - length (bytes_at files name)) files names (second_none (read_refusal (min most room) files name) rest e) in
    omega (arith, here, later)

-- a short text is not refused
short_held : (limit : ℕ) (name text : List ℕ) → length text ≤ limit → refusal_within limit name (Some text) ≡ None
short_held limit name text short = by (nat_lt limit (length text)) refl
  where
    by : (b : Bool) → nat_lt limit (length text) ≡ b → (if b then Some (refusal_of name 0 kinds.TooLong) else None) ≡ None
    by true is = absurd (omega (arith, short, ltb-true limit (length text) is))
    by false is = refl

abbrev Holds : Files → List ℕ → List ℕ → Type 0
Holds files name text = files name ≡ Some text

all_held : (most room : ℕ) (files : Files) (names texts : List (List ℕ)) → AllZip (Holds files) names texts → All (λ text. length text ≤ most) texts →
    total length texts ≤ room → first_refusal most room files names ≡ None
all_held most room files [] [] held short few = refl
all_held most room files [] (t ∷ ts) held short few = absurd held
all_held most room files (n ∷ ns) [] held short few = absurd held
all_held most room files (n ∷ ns) (t ∷ ts) held short few =
    let one : length t ≤ most = All-head (λ text. length text ≤ most) t ts short in
    let bytes : bytes_at files n ≡ t = ap (λ (o : Option (List ℕ)). unwrap_or o []) held.0 in
    let first : read_refusal (min most room) files n ≡ None = ap (refusal_within (min most room) n) held.0 ∙ short_held (min most room) n t (omega (arith, one, few)) in
    let rest : first_refusal most (room - length (bytes_at files n)) files ns ≡ None =
    ap (λ (b : List ℕ). first_refusal most (room - length b) files ns) bytes
    ∙ all_held most (room - length t) files ns ts held.1 (All-tail (λ text. length text ≤ most) t ts short) (omega (arith, few)) in
    ap (λ (o : Option FileRefusal). option_or o (first_refusal most (room - length (bytes_at files n)) files ns)) first ∙ rest

contents_are : (files : Files) (names texts : List (List ℕ)) → AllZip (Holds files) names texts → map (bytes_at files) names ≡ texts
contents_are files [] [] held = refl
contents_are files [] (t ∷ ts) held = absurd held
contents_are files (n ∷ ns) [] held = absurd held
contents_are files (n ∷ ns) (t ∷ ts) held = (let one : bytes_at files n ≡ t = ap (λ (o : Option (List ℕ)). unwrap_or o []) held.0 in let rest = contents_are files ns ts held.1 in λ i. one i ∷ rest i)

pub repaired_files_are_verified : PatchedFilesAreShort → AllClassesStay → RepairedFilesAreVerified
repaired_files_are_verified files_are_short classes_stay words before after later found holds =
    let doc = found.doc in
    let repair = found.repair in
    let input = found.has.input in
    let olds : List (List ℕ) = contents before doc in
    let few : bytes_of_all olds ≤ 16777216 = omega (arith, all_within 1048576 16777216 before doc.routers input.files_are.held, total-sum length olds) in
    let short : AreShort repair.new = files_are_short doc found.built olds repair.new repair.list repair.flags found.editable repair.repairable.edits repair.repairable.limits.edits
    few repair.patched in
    let edits = repair.repairable.edits in
    record {
      doc = doc;
      net = repair.repaired;
      input = record {
        files_are = record {
          document_is = record {
            held = ap (refusal_within document_limit words.document) holds.document_is ∙ input.files_are.document_is.held;
            read = subst (λ (o : Option (List ℕ)). ReadsDocument (unwrap_or o []) (Ok doc)) (sym holds.document_is) input.files_are.document_is.read;
          };
          held = all_held 8388608 67108864 later doc.routers repair.new holds.routers_are short.each (omega (arith, short.all, total-sum length repair.new));
        };
        network = subst (λ (texts : List (List ℕ)). IsNetworkOf doc texts repair.repaired) (sym (contents_are later doc.routers repair.new holds.routers_are)) repair.read_again;
      };
      classes = record {
        classes = edits.classes;
        are = (classes_stay found.built.net repair.repaired doc repair.list repair.flags edits repair.is_after doc.policies edits.classes).0 edits.classes_are;
        few = repair.repairable.limits.classes edits.classes edits.classes_are;
      };
      meets = repair.meets;
    }
