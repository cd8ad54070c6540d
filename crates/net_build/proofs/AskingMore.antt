-- Extra checks change no network.
use Rattle.std.proofs.Common.{◌≡◌, ℕ, ◌+◌, ◌≤◌, Bool, true, false, Option, Some, None, List, [], ◌∷◌, length, refl, sym, arith}
use Rattle.std.specs.Prelude.{cond, nat_lt, find}
use Rattle.std.proofs.lemmas.Bool.{ltb-true, lt-ltb, false≢true}
use Rattle.std.proofs.lemmas.Option.{none-some}
use Rattle.arc_base.specs.declared.refusal.Kind.TheVariants as kinds
use Rattle.arc_base.specs.declared.refusal.LimitKind.TheVariants as limits
use Rattle.net_doc.specs.declared.fault.Refusal.{Refusal}
use Rattle.net_model.specs.declared.policies.Document.{Document}
use Rattle.net_model.specs.declared.rows.Network.{Network}
use Rattle.ios_config.specs.declared.settings.Config.{Config}
use Rattle.ios_config.specs.declared.settings.ListText.{ListText}
use Rattle.net_build.specs.declared.built.Built.{Built}
use Rattle.net_rules.specs.Limits.{long_list, RefusesEntries}
use Rattle.net_rules.specs.Linking.{first_above, RefusesDownLinks}
use Rattle.net_build.specs.Networks.{IsNetworkOf, IsNetworkWithin, IsBuilt, IsBuiltWithin}
use Rattle.net_build.specs.Order.{tries, Refuses, RefusesWithin, AreClear}
use Rattle.net_rules.specs.Reasons.{NoRefusal}

-- one item, and whether it passes each of two tests
passed_by_both : {X : Type 0} (p q : Bool) (y x : X) (a b : Option X) → (p ≡ true → q ≡ true) → (a ≡ Some x → b ≡ None → ⊥) → cond p (Some y) a ≡ Some x → cond q (Some y) b ≡ None → ⊥
passed_by_both p true y x a b wider rest found none = none-some y (sym none)
passed_by_both true false y x a b wider rest found none = false≢true (wider refl)
passed_by_both false false y x a b wider rest found none = rest found none

-- what passes a test is also found by a wider one
found_by_wider : {X : Type 0} (P Q : X → Bool) → ((x : X) → P x ≡ true → Q x ≡ true) → (xs : List X) (x : X) → find P xs ≡ Some x → find Q xs ≡ None → ⊥
found_by_wider P Q wider [] x found none = none-some x found
found_by_wider P Q wider (y ∷ ys) x found none =
    passed_by_both (P y) (Q y) y x (find P ys) (find Q ys) (wider y) (found_by_wider P Q wider ys x) found none

module _ (most other : ℕ) (fewer : most ≤ other) (configs : List Config) where
  -- a list with more entries than the greater limit has more than the smaller
  longer : (list : ListText) → nat_lt other (length list.entries) ≡ true → nat_lt most (length list.entries) ≡ true
  longer list long = lt-ltb most (length list.entries) (omega (arith, fewer, ltb-true other (length list.entries) long))

  long_refused : (r : Refusal) (bad : RefusesEntries other configs r) (o : Option ListText) → long_list most bad.config ≡ o → NoRefusal (RefusesEntries most configs) → ⊥
  long_refused r bad None none clear = found_by_wider (λ (l : ListText). nat_lt other (length l.entries))
      (λ (l : ListText). nat_lt most (length l.entries)) longer bad.config.lists bad.list bad.first none
  long_refused r bad (Some list) first clear =
      clear (record { file = bad.place + 1; number = 0; kind = kinds.Limit limits.Entries (length list.entries) })
      (record { place = bad.place; config = bad.config; at_place = bad.at_place; list = list; first = first; told = refl })

  -- if no list is too long for the smaller limit, none is for the greater
  short_enough : NoRefusal (RefusesEntries most configs) → NoRefusal (RefusesEntries other configs)
  short_enough clear r bad = long_refused r bad (long_list most bad.config) refl clear

-- no links are to be down
none_down : (doc : Document) → NoRefusal (RefusesDownLinks doc [])
none_down doc r bad = none-some bad.number bad.above

still_clear : (down : List ℕ) (most : ℕ) (doc : Document) (configs : List Config) → most ≤ 16384 → AreClear (RefusesWithin down most doc configs) tries → AreClear (Refuses doc configs) tries
still_clear down most doc configs fewer clear =
    let links = clear.1.1.1.1 in
    let network = links.1.1.1.1 in
    let limits = network.1.1.1.1 in (
      clear.0,
      (
        clear.1.0,
        (
          clear.1.1.0,
          (
            clear.1.1.1.0,
            (
              links.0,
              (
                none_down doc,
                (
                  links.1.1.0,
                  (
                    links.1.1.1.0,
                    (
                      network.0,
                      (
                        network.1.0,
                        (
                          network.1.1.0,
                          (
                            network.1.1.1.0,
                            (limits.0, (short_enough most 16384 fewer configs limits.1.0, (limits.1.1.0, tt))),
                          ),
                        ),
                      ),
                    ),
                  ),
                ),
              ),
            ),
          ),
        ),
      ),
    )

pub changes_no_network : (down : List ℕ) (most : ℕ) (doc : Document) (files : List (List ℕ)) (net : Network) → most ≤ 16384 → IsNetworkWithin down most doc files net → IsNetworkOf doc files net
changes_no_network down most doc files net fewer is = record {
  configs = is.configs;
  said = is.said;
  rows = is.rows;
  clear = still_clear down most doc is.configs fewer is.clear;
}

pub built_the_same : (down : List ℕ) (most : ℕ) (doc : Document) (files : List (List ℕ)) (built : Built) → most ≤ 16384 → IsBuiltWithin down most doc files built → IsBuilt doc files built
built_the_same down most doc files built fewer is = record {
  network = record {
    configs = is.network.configs;
    said = is.network.said;
    rows = is.network.rows;
    clear = still_clear down most doc is.network.configs fewer is.network.clear;
  };
  lines = is.lines;
  places = is.places;
}

-- if no number of a link that is to be down is refused, none is above the number of links
above_or_none : (doc : Document) (down : List ℕ) (o : Option ℕ) → first_above (length doc.links) down ≡ o → NoRefusal (RefusesDownLinks doc down) → o ≡ None
above_or_none doc down None is clear = refl
above_or_none doc down (Some n) is clear =
    absurd (clear (record { file = 0; number = n; kind = kinds.LinkFace }) (record { number = n; above = is; told = refl }))

pub no_number_above : (doc : Document) (down : List ℕ) → NoRefusal (RefusesDownLinks doc down) → first_above (length doc.links) down ≡ None
no_number_above doc down clear = above_or_none doc down (first_above (length doc.links) down) refl clear
