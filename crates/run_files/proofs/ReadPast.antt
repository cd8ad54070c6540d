-- What a read shows of the length of a file that is read past.
use Rattle.std.proofs.Common.{◌≡◌, ℕ, ◌+◌, ◌-◌, ◌<◌, ◌≤◌, List, [], length, Option, Some, None, arith, subst, length-drop}
use Rattle.std.specs.Prelude.{IfSome, IsSomeAnd, Ok, Err, unwrap_or}
use Rattle.arc_outside.specs.declared.fault.Fault.{Fault}
use Rattle.arc_outside.specs.declared.fault.Fault.TheVariants.{Memory, Missing, Failed}
use Rattle.arc_outside.specs.declared.reading.ReadAll.TheVariants.{Fault as fault, TooLong}
use Rattle.arc_outside.specs.Files.{Files}
use Rattle.arc_outside.specs.Reads.{Reads, TookJust}
use Rattle.run_files.specs.ReadingLines.{IsReadPast}
use Rattle.run_files.specs.Refusals.{bytes_at}

further : (file : Option (List ℕ)) (place n : ℕ) (buf : List ℕ) → place ≤ length (unwrap_or file []) → Reads file place (Ok n) buf → place + n ≤ length (unwrap_or file [])
further None place n buf reached read = elim read [ ]
further (Some bytes) place n buf reached read = omega (arith, length-drop place bytes, read.within)

at_end : (file : Option (List ℕ)) (place limit n : ℕ) (buf : List ℕ) → n ≡ 0 → place ≤ limit → place ≤ length (unwrap_or file []) → Reads file place (Ok n) buf → IsReadPast file limit (Ok place)
at_end None place limit n buf none few reached read = elim read [ ]
at_end (Some bytes) place limit n buf none few reached read = (omega (arith, read.end.0 none), few)

took_whole : (file : Option (List ℕ)) (limit n before after : ℕ) → IsReadPast file limit (Ok n) → TookJust n before after → TookJust (length (unwrap_or file [])) before after
took_whole None limit n before after past took = elim past [ ]
took_whole (Some bytes) limit n before after past took = subst (λ (k : ℕ). TookJust k before after) past.0 took

too_many : (file : Option (List ℕ)) (place limit n : ℕ) (buf : List ℕ) → limit - place < n → place ≤ limit → Reads file place (Ok n) buf → IsSomeAnd file (λ bytes. limit < length bytes)
too_many None place limit n buf more few read = elim read [ ]
too_many (Some bytes) place limit n buf more few read = omega (arith, length-drop place bytes, read.within)

not_read : (file : Option (List ℕ)) (place limit : ℕ) (buf : List ℕ) (f : Fault) → Reads file place (Err f) buf → IsReadPast file limit (Err (fault f))
not_read file place limit buf Missing read = read
not_read file place limit buf Failed read = tt
not_read file place limit buf Memory read = tt

-- the same of a store that may tell what it holds
module _ (name : List ℕ) where
  pub told_further : (held before : Option Files) (place n : ℕ) (buf : List ℕ) → before ≡ held → IfSome held (λ f. place ≤ length (bytes_at f name)) →
      IfSome before (λ f. Reads (f name) place (Ok n) buf) → IfSome held (λ f. place + n ≤ length (bytes_at f name))
  told_further None before place n buf same reached read = tt
  told_further (Some f) None place n buf same reached read = cc
  told_further (Some f) (Some b) place n buf same reached read =
      let one : b ≡ f = cc in
      further (f name) place n buf reached (subst (λ (h : Files). Reads (h name) place (Ok n) buf) one read)

  pub told_took : (held : Option Files) (limit n before after : ℕ) → IfSome held (λ f. IsReadPast (f name) limit (Ok n)) → TookJust n before after →
      IfSome held (λ f. TookJust (length (bytes_at f name)) before after)
  told_took None limit n before after past took = tt
  told_took (Some f) limit n before after past took = took_whole (f name) limit n before after past took

  pub told_end : (held before : Option Files) (place limit n : ℕ) (buf : List ℕ) → before ≡ held → n ≡ 0 → place ≤ limit →
      IfSome held (λ f. place ≤ length (bytes_at f name)) → IfSome before (λ f. Reads (f name) place (Ok n) buf) → IfSome held (λ f. IsReadPast (f name) limit (Ok place))
  told_end None before place limit n buf same none few reached read = tt
  told_end (Some f) None place limit n buf same none few reached read = cc
  told_end (Some f) (Some b) place limit n buf same none few reached read =
      let one : b ≡ f = cc in
      at_end (f name) place limit n buf none few reached (subst (λ (h : Files). Reads (h name) place (Ok n) buf) one read)

  pub told_too_many : (held before : Option Files) (place limit n : ℕ) (buf : List ℕ) → before ≡ held → limit - place < n → place ≤ limit →
      IfSome before (λ f. Reads (f name) place (Ok n) buf) → IfSome held (λ f. IsReadPast (f name) limit (Err TooLong))
  told_too_many None before place limit n buf same more few read = tt
  told_too_many (Some f) None place limit n buf same more few read = cc
  told_too_many (Some f) (Some b) place limit n buf same more few read =
      let one : b ≡ f = cc in
      too_many (f name) place limit n buf more few (subst (λ (h : Files). Reads (h name) place (Ok n) buf) one read)

  pub told_fault : (held before : Option Files) (place limit : ℕ) (buf : List ℕ) (e : Fault) → before ≡ held →
      IfSome before (λ f. Reads (f name) place (Err e) buf) → IfSome held (λ f. IsReadPast (f name) limit (Err (fault e)))
  told_fault None before place limit buf e same read = tt
  told_fault (Some f) None place limit buf e same read = cc
  told_fault (Some f) (Some b) place limit buf e same read =
      let one : b ≡ f = cc in
      not_read (f name) place limit buf e (subst (λ (h : Files). Reads (h name) place (Err e) buf) one read)
