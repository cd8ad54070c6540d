-- The form of names, those of routers and lists and those of interfaces, and their order.
use Rattle.std.specs.Prelude.{◌≡◌, ℕ, ◌≤◌, ◌==◌, ◌&&◌, ◌||◌, ◌⊎◌, ◌++◌, nat_le, Bool, List, [], ◌∷◌}
use Rattle.std.specs.Prelude.{length, map, codes, IsTrue, Contains}
use Rattle.std.specs.Char.{is_ascii_digit}
use Rattle.std.specs.List.{list_all, AllByRecursion}
use Rattle.std.specs.Cmp.Lexicographic.{slice_cmp}
use Rattle.std.specs.Ordering.{nat_cmp}
use Rattle.std.specs.declared.cmp.Ordering.TheVariants.{Less}
use Rattle.arc_base.specs.declared.limits.TheConstants.{NAME_LIMIT}
use denote.Ref.{Bor}

-- whether a byte may occur in a name: a letter, a digit or one of - _ .
abbrev pub is_name_byte : ℕ → Bool
is_name_byte b =
    is_ascii_digit b || (nat_le 65 b && nat_le b 90) || (nat_le 97 b && nat_le b 122) || (b == 45)
    || (b == 95) || (b == 46)

-- whether a word is a name: at least one and at most NAME_LIMIT letters, digits and
-- marks
abbrev pub is_name : List ℕ → Bool
is_name word =
    nat_le 1 (length word) && nat_le (length word) NAME_LIMIT && list_all is_name_byte word

-- the bytes are a name: at least one and at most NAME_LIMIT letters, digits and
-- marks
pub record IsName (name : List ℕ) : Type 0 where
  pub some : 1 ≤ length name
  pub few : length name ≤ NAME_LIMIT
  pub bytes : AllByRecursion (λ b. IsTrue (is_name_byte b)) name

-- the bytes number an interface: decimal numbers joined by slashes
abbrev pub IsUnit : List ℕ → Type 0
IsUnit [] = ⊥
IsUnit (b ∷ []) = IsTrue (is_ascii_digit b)
IsUnit (b ∷ c ∷ bs) = IsTrue (is_ascii_digit b) × (IsUnit (c ∷ bs) ⊎ ((c ≡ 47) × IsUnit bs))

-- the kinds of interface, with which their names begin
abbrev pub face_kinds : List (List ℕ)
face_kinds =
    codes "Ethernet" ∷ codes "FastEthernet" ∷ codes "GigabitEthernet" ∷ codes "TenGigabitEthernet"
    ∷ codes "Serial" ∷ codes "Loopback" ∷ []

-- the bytes are the name of an interface: one of these kinds and its number, at most NAME_LIMIT
-- bytes in all
pub record IsFaceName (name : List ℕ) : Type 0 where
  pub kind : List ℕ
  pub unit : List ℕ
  pub known : Contains face_kinds kind
  pub numbers : IsUnit unit
  pub joined : name ≡ kind ++ unit
  pub few : length name ≤ NAME_LIMIT

-- the name comes before the other in byte order
abbrev pub IsNameBefore : List ℕ → List ℕ → Type 0
IsNameBefore x y = slice_cmp nat_cmp x y ≡ Less

-- the names that a list of references refers to
abbrev pub texts_at : List (Bor (List ℕ)) → List (List ℕ)
texts_at keys = map (λ key. key.now) keys
