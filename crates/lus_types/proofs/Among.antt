-- Membership in lists that grow.
use Rattle.std.proofs.Common.{◌≡◌, Bool, true, false, ◌||◌, cond, List, [], ◌∷◌, ◌++◌, refl, sym, subst, true≢false}
use Rattle.std.specs.Str.{bytes_eq}
use Rattle.std.proofs.lemmas.Slice.Eq.{bytes_eq-Decides}
use Rattle.lus_types.specs.Names.{Name, is_among}
use Rattle.lus_types.specs.NameTables.{among_either}

pub among_append : (x : Name) (xs ys : List Name) → is_among x (xs ++ ys) ≡ among_either x xs ys
among_append x [] ys = refl
among_append x (n ∷ xs) ys = elim (bytes_eq x n) as (λ b. cond b true (is_among x (xs ++ ys)) ≡ cond b true (is_among x xs) || is_among x ys) [
  | true ↦ refl
  | false ↦ among_append x xs ys
]

absorbed : (a b : Bool) → (b ≡ true → a ≡ true) → a ≡ a || b
absorbed true b h = refl
absorbed false true h = h refl
absorbed false false h = refl

-- a name that is there already
pub among_there : (x n : Name) (xs : List Name) → is_among n xs ≡ true → is_among x xs ≡ among_either x xs (n ∷ [])
among_there x n xs h = elim (bytes_eq x n) as (λ b. bytes_eq x n ≡ b → is_among x xs ≡ is_among x xs || cond b true false) [
  | true ↦ λ e. absorbed (is_among x xs) true (λ u. subst (λ m. is_among m xs ≡ true) (sym ((bytes_eq-Decides x n).0 e)) h)
  | false ↦ λ e. absorbed (is_among x xs) false (λ u. absurd (true≢false (sym u)))
] refl

pub or_assoc : (a b c : Bool) → (a || b) || c ≡ a || (b || c)
or_assoc true b c = refl
or_assoc false b c = refl
