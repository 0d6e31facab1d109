-- Where names stand in tables of places.
use Rattle.std.proofs.Common.{Bool, List, Some, [], ap, ap₂, arith, bytes_eq, cond, false, inl, inr, length, map, refl, subst, suc, sym, true, unwrap_or, zip, ℕ, ◌++◌, ◌∙◌, ◌∷◌, ◌≡◌}
use Rattle.std.proofs.lemmas.Bool.Decides.{not_from_Decides}
use Rattle.std.proofs.lemmas.Slice.Eq.{bytes_eq-Decides}
use Rattle.lus_types.proofs.Members.{in_append, in_left, in_right}
use Rattle.lus_types.specs.Calls.{In, here, there}
use Rattle.lus_types.specs.Names.{Name, entry_of}
use Rattle.lus_types.specs.ProgramTypes.{AreDistinct}
use Rattle.lus_types.specs.Programs.{Node, Variable, names, type_in, variables}
use Rattle.op_network.specs.declared.value.Ty.{Ty}
use Rattle.node_expand.specs.Fragments.{Places, place_of}
use Rattle.node_expand.specs.Instances.{places_from}
use Rattle.node_expand.proofs.Lists.{map_same}

-- two names are the same, or they differ, and the test says which
pub data Compared (x y : Name) : Type 0 where
  same_name : x ≡ y → bytes_eq x y ≡ true → Compared x y
  other_name : (x ≡ y → ⊥) → bytes_eq x y ≡ false → Compared x y

pub compared : (x y : Name) → Compared x y
compared x y = step (bytes_eq x y) refl
  where
    step : (b : Bool) → bytes_eq x y ≡ b → Compared x y
    step true h = same_name ((bytes_eq-Decides x y).0 h) h
    step false h = other_name (not_from_Decides (bytes_eq x y) (bytes_eq-Decides x y) h) h

pub distinct_left : (xs ys : List Name) → AreDistinct (xs ++ ys) → AreDistinct xs
distinct_left [] ys h = tt
distinct_left (x ∷ xs) ys h = ((λ i. h.0 (in_left xs ys x i)), distinct_left xs ys h.1)

pub distinct_right : (xs ys : List Name) → AreDistinct (xs ++ ys) → AreDistinct ys
distinct_right [] ys h = h
distinct_right (x ∷ xs) ys h = distinct_right xs ys h.1

pub apart : (xs ys : List Name) (x : Name) → AreDistinct (xs ++ ys) → In x xs → In x ys → ⊥
apart [] ys x h i j = elim i [ ]
apart (y ∷ xs) ys x h here j = h.0 (in_right xs ys x j)
apart (y ∷ xs) ys x h (there i) j = apart xs ys x h.1 i j

pub distinct_append : (xs ys : List Name) → AreDistinct xs → AreDistinct ys → ((x : Name) → In x xs → In x ys → ⊥) → AreDistinct (xs ++ ys)
distinct_append [] ys h k d = k
distinct_append (x ∷ xs) ys h k d = (
  (λ i. elim (in_append xs ys x i) [ inl j ↦ h.0 j | inr j ↦ d x here j ]),
  distinct_append xs ys h.1 k (λ y i j. d y (there i) j),
)

place_head : (x : Name) (a : ℕ) (rest : Places) → place_of ((x, a) ∷ rest) x ≡ a
place_head x a rest = step (compared x x)
  where
    step : Compared x x → place_of ((x, a) ∷ rest) x ≡ a
    step (same_name e h) = ap (λ b. unwrap_or (cond b (Some a) (entry_of rest x)) 0) h
    step (other_name d h) = absurd (d refl)

place_tail : (x y : Name) (a : ℕ) (rest : Places) → (y ≡ x → ⊥) → place_of ((x, a) ∷ rest) y ≡ place_of rest y
place_tail x y a rest d = step (compared y x)
  where
    step : Compared y x → place_of ((x, a) ∷ rest) y ≡ place_of rest y
    step (same_name e h) = absurd (d e)
    step (other_name f h) = ap (λ b. unwrap_or (cond b (Some a) (entry_of rest y)) 0) h

-- the places of distinct names are those that stand beside them
pub places_paired : (xs : List Name) (args : List ℕ) (rest : Places) → AreDistinct xs → length args ≡ length xs
    → map (place_of (zip xs args ++ rest)) xs ≡ args
places_paired [] [] rest d e = refl
places_paired [] (a ∷ args) rest d e = absurd (omega (arith, e))
places_paired (x ∷ xs) [] rest d e = absurd (omega (arith, e))
places_paired (x ∷ xs) (a ∷ args) rest d e =
    ap₂ (λ b l. b ∷ l) (place_head x a (zip xs args ++ rest))
    (map_same _ _ xs (λ y i. place_tail x y a (zip xs args ++ rest) (λ same. d.0 (subst (λ z. In z xs) same i)))
    ∙ places_paired xs args rest d.1 (omega (arith, e)))

-- other names stand behind
pub places_behind : (xs : List Name) (args : List ℕ) (rest : Places) (y : Name) → (In y xs → ⊥)
    → place_of (zip xs args ++ rest) y ≡ place_of rest y
places_behind [] args rest y d = refl
places_behind (x ∷ xs) [] rest y d = refl
places_behind (x ∷ xs) (a ∷ args) rest y d = place_tail x y a (zip xs args ++ rest) (λ same. d (subst (λ z. In y (z ∷ xs)) same here))
    ∙ places_behind xs args rest y (λ i. d (there i))

pub places_length : {A : Type 0} (i : ℕ) (xs : List A) → length (places_from i xs) ≡ length xs
places_length i [] = refl
places_length i (x ∷ xs) = ap suc (places_length (suc i) xs)

pub places_map : {A B : Type 0} (f : A → B) (i : ℕ) (xs : List A) → places_from i (map f xs) ≡ places_from i xs
places_map f i [] = refl
places_map f i (x ∷ xs) = ap (λ l. i ∷ l) (places_map f (suc i) xs)

-- what has a type in a node is one of its variables
typed_variable : (vs : List Variable) (x : Name) (ty : Ty)
    → entry_of (map (λ (v : Variable). (v.name, v.ty)) vs) x ≡ Some ty → In x (names vs)
typed_variable [] x ty e = absurd (cc e)
typed_variable (v ∷ vs) x ty e = step (compared x v.name) (typed_variable vs x ty)
  where
    step : Compared x v.name → (entry_of (map (λ (u : Variable). (u.name, u.ty)) vs) x ≡ Some ty → In x (names vs)) → In x (names (v ∷ vs))
    step (same_name is h) later = subst (λ y. In x (y ∷ names vs)) is here
    step (other_name d h) later = there (later (sym (ap (λ b. cond b (Some v.ty) (entry_of (map (λ (u : Variable). (u.name, u.ty)) vs) x)) h) ∙ e))

pub variable_in : (node : Node) (x : Name) (ty : Ty) → type_in node x ≡ Some ty → In x (names (variables node))
variable_in node x ty e = typed_variable (variables node) x ty e
