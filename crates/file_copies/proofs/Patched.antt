-- Patched files have the network after the edits.
use Rattle.std.proofs.Common.{◌≡◌, ◌+◌, Bool, true, false, Option, Some, None, List, [], ◌∷◌, length, refl, sym, arith}
use Rattle.std.specs.Prelude.{cond, nat_lt, find}
use Rattle.std.proofs.lemmas.Bool.{ltb-true, lt-ltb, false≢true}
use Rattle.std.proofs.lemmas.Option.{none-some}
use Rattle.arc_base.specs.declared.refusal.Kind.TheVariants as kinds
use Rattle.arc_base.specs.declared.refusal.LimitKind.TheVariants as limits
use Rattle.net_doc.specs.declared.fault.Refusal.{Refusal}
use Rattle.net_model.specs.declared.policies.Document.{Document}
use Rattle.ios_config.specs.declared.settings.Config.{Config}
use Rattle.ios_config.specs.declared.settings.ListText.{ListText}
use Rattle.net_rules.specs.Limits.{long_list, RefusesEntries}
use Rattle.net_build.specs.Networks.{IsBuilt}
use Rattle.net_build.specs.Order.{tries, AreClear, Refuses, RefusesWithin}
use Rattle.net_rules.specs.Reasons.{NoRefusal}
use Rattle.settings_edit_laws.proofs.Room.{room_within}
use Rattle.patch_laws.proofs.EditedFiles.{edited_files_have_the_network}
use Rattle.file_copies.specs.Changes.{PatchesHaveTheNetwork}

-- ---- lists that are short for a repair are short

longer : (list : ListText) → nat_lt 16384 (length list.entries) ≡ true → nat_lt 2048 (length list.entries) ≡ true
longer list long = lt-ltb 2048 (length list.entries) (omega (arith, ltb-true 16384 (length list.entries) long))

one_by_both : (p q : Bool) (y x : ListText) (a b : Option ListText) → (p ≡ true → q ≡ true) → (a ≡ Some x → b ≡ None → ⊥) → cond p (Some y) a ≡ Some x → cond q (Some y) b ≡ None → ⊥
one_by_both p true y x a b wider rest found none = none-some y (sym none)
one_by_both true false y x a b wider rest found none = false≢true (wider refl)
one_by_both false false y x a b wider rest found none = rest found none

long_found : (lists : List ListText) (x : ListText) → find (λ (l : ListText). nat_lt 16384 (length l.entries)) lists ≡ Some x → find (λ (l : ListText). nat_lt 2048 (length l.entries)) lists ≡ None → ⊥
long_found [] x found none = none-some x found
long_found (y ∷ lists) x found none =
    one_by_both (nat_lt 16384 (length y.entries)) (nat_lt 2048 (length y.entries)) y x (find (λ (l : ListText). nat_lt 16384 (length l.entries)) lists)
    (find (λ (l : ListText). nat_lt 2048 (length l.entries)) lists) (longer y) (long_found lists x) found none

module _ (configs : List Config) (clear : NoRefusal (RefusesEntries 2048 configs)) where
  long_refused : (r : Refusal) (bad : RefusesEntries 16384 configs r) (o : Option ListText) → long_list 2048 bad.config ≡ o → ⊥
  long_refused r bad None none = long_found bad.config.lists bad.list bad.first none
  long_refused r bad (Some list) first =
      clear (record { file = bad.place + 1; number = 0; kind = kinds.Limit limits.Entries (length list.entries) })
      (record { place = bad.place; config = bad.config; at_place = bad.at_place; list = list; first = first; told = refl })

  short_lists : NoRefusal (RefusesEntries 16384 configs)
  short_lists r bad = long_refused r bad (long_list 2048 bad.config) refl

pub no_long_list : (doc : Document) (configs : List Config) → AreClear (RefusesWithin [] 2048 doc configs) tries → NoRefusal (RefusesEntries 2048 configs)
no_long_list doc configs clear = clear.1.1.1.1.1.1.1.1.1.1.1.1.1.0

pub still_clear : (doc : Document) (configs : List Config) → AreClear (RefusesWithin [] 2048 doc configs) tries → AreClear (Refuses doc configs) tries
still_clear doc configs clear =
    let links = clear.1.1.1.1 in
    let network = links.1.1.1.1 in
    let counts = network.1.1.1.1 in (
      clear.0,
      (
        clear.1.0,
        (
          clear.1.1.0,
          (
            clear.1.1.1.0,
            (
              links.0,
              (
                links.1.0,
                (
                  links.1.1.0,
                  (
                    links.1.1.1.0,
                    (
                      network.0,
                      (
                        network.1.0,
                        (
                          network.1.1.0,
                          (network.1.1.1.0, (counts.0, (short_lists configs counts.1.0, (counts.1.1.0, tt)))),
                        ),
                      ),
                    ),
                  ),
                ),
              ),
            ),
          ),
        ),
      ),
    )

-- ---- the network of patched files

pub patches_have_the_network : PatchesHaveTheNetwork
patches_have_the_network doc built olds new list flags after editable are few patched is =
    let within = editable.is_built.network in
    let was : IsBuilt doc olds built = record {
      network = record { configs = within.configs; said = within.said; rows = within.rows; clear = still_clear doc within.configs within.clear };
      lines = editable.is_built.lines;
      places = editable.is_built.places;
    } in
    edited_files_have_the_network doc olds new built was list flags after editable.fit.valid editable.countable editable.fit.ends are
    (room_within within.configs list flags (no_long_list doc within.configs within.clear) few) patched is
