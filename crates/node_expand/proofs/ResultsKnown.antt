-- Where the results of a node stand: at the same places of each of its instances, counted from its first edge.
use Rattle.std.proofs.Common.{◌≡◌, ℕ, suc, ◌+◌, ◌<◌, cond, ◌⊎◌, inl, inr, List, [], ◌∷◌, ◌++◌, length, refl, ap, ◌∙◌, subst, arith}
use Rattle.std.specs.Prelude.{Option, Some, None, zip}
use Rattle.std.specs.List.{AllByRecursion}
use Rattle.lus_syntax.specs.declared.ast.Item.{Item}
use Rattle.op_network.specs.declared.value.Ty.{Ty}
use Rattle.lus_types.specs.Calls.{In, here, there}
use Rattle.lus_types.specs.NameTables.{either}
use Rattle.lus_types.specs.Names.{Name, entry_of, left_of, lefts}
use Rattle.lus_types.specs.Programs.{Node, Program}
use Rattle.lus_types.specs.ProgramTypes.{AreDistinct, IsTypedItem}
use Rattle.lus_types.proofs.Members.{in_append}
use Rattle.lus_types.proofs.Tabled.{joined}
use Rattle.node_expand.specs.Counts.{item_size, items_size}
use Rattle.node_expand.specs.Fragments.{Callees}
use Rattle.node_expand.specs.Instances.{item_places, places_from}
use Rattle.node_expand.proofs.Places.{Compared, apart, compared, distinct_right, other_name, same_name}
use Rattle.node_expand.proofs.PlacesKnown.{roots_fit}

-- a name that stands at the same place of each row of places, counted from its first
record StandsAt (xs : List Name) (k : ℕ) (x : Name) : Type 0 where
  place : ℕ
  at : (s : ℕ) → entry_of (zip xs (places_from (s + k) xs)) x ≡ Some (s + place)
  below : place < k + length xs

first_name : (xs : List Name) (y x : Name) (k : ℕ) → x ≡ y → StandsAt (y ∷ xs) k x
first_name xs y x k same = step (compared x y)
  where
    step : Compared x y → StandsAt (y ∷ xs) k x
    step (same_name e h) = record {
      place = k;
      at = λ s. ap (λ b. cond b (Some (s + k)) (entry_of (zip xs (places_from (suc (s + k)) xs)) x)) h;
      below = omega arith;
    }
    step (other_name d h) = absurd (d same)

later_name : (xs : List Name) (y x : Name) (k : ℕ) → StandsAt xs (suc k) x → StandsAt (y ∷ xs) k x
later_name xs y x k it = step (compared x y)
  where
    step : Compared x y → StandsAt (y ∷ xs) k x
    step (same_name e h) = first_name xs y x k e
    step (other_name d h) = record {
      place = it.place;
      at = λ s.
          let next : suc (s + k) ≡ s + suc k = omega arith in
          ap (λ b. cond b (Some (s + k)) (entry_of (zip xs (places_from (suc (s + k)) xs)) x)) h
          ∙ ap (λ n. entry_of (zip xs (places_from n xs)) x) next ∙ it.at s;
      below = let b = it.below in omega (arith, b);
    }

stands : (xs : List Name) (k : ℕ) (x : Name) → In x xs → StandsAt xs k x
stands [] k x i = elim i [ ]
stands (y ∷ xs) k x here = first_name xs x x k refl
stands (y ∷ xs) k x (there i) = later_name xs y x k (stands xs (suc k) x i)

stands_not_by : (xs : List Name) (y x : Name) (k : ℕ) → (In x (y ∷ xs) → ⊥) → entry_of (zip xs (places_from (suc k) xs)) x ≡ None → Compared x y
    → entry_of (zip (y ∷ xs) (places_from k (y ∷ xs))) x ≡ None
stands_not_by xs y x k d rest (same_name e h) = absurd (d (subst (λ z. In x (z ∷ xs)) e here))
stands_not_by xs y x k d rest (other_name f h) = ap (λ b. cond b (Some k) (entry_of (zip xs (places_from (suc k) xs)) x)) h ∙ rest

stands_not : (xs : List Name) (k : ℕ) (x : Name) → (In x xs → ⊥) → entry_of (zip xs (places_from k xs)) x ≡ None
stands_not [] k x d = refl
stands_not (y ∷ xs) k x d = stands_not_by xs y x k d (stands_not xs (suc k) x (λ i. d (there i))) (compared x y)

-- a variable that items define stands at the same place of each instance
pub record Rooted (p : Program) (node : Node) (c : Callees) (items : List Item) (k : ℕ) (x : Name) : Type 0 where
  pub place : ℕ
  pub at : (s : ℕ) → entry_of (item_places p node c (s + k) items) x ≡ Some (s + place)
  pub below : place < k + items_size p node c items

module _ (p : Program) (node : Node) (name_type : Name → Option Ty) (c : Callees) where
  rooted_by : (item : Item) (items : List Item) (k : ℕ) (x : Name) → IsTypedItem name_type p.node item → AreDistinct (left_of item ++ lefts items)
      → (In x (lefts items) → Rooted p node c items (k + item_size p node c item) x) → (In x (left_of item) ⊎ In x (lefts items)) → Rooted p node c (item ∷ items) k x
  rooted_by item items k x typed d rest (inl j) =
      let it = stands (left_of item) k x j in
      record {
        place = it.place;
        at = λ s. joined (zip (left_of item) (places_from (s + k) (left_of item))) (item_places p node c ((s + k) + item_size p node c item) items) x
            ∙ ap (λ o. either o (entry_of (item_places p node c ((s + k) + item_size p node c item) items) x)) (it.at s);
        below = let b = it.below in let f = roots_fit p node name_type c item typed in omega (arith, b, f);
      }
  rooted_by item items k x typed d rest (inr j) =
      let it = rest j in
      record {
        place = it.place;
        at = λ s.
            let next : (s + k) + item_size p node c item ≡ s + (k + item_size p node c item) = omega arith in
            joined (zip (left_of item) (places_from (s + k) (left_of item))) (item_places p node c ((s + k) + item_size p node c item) items) x
            ∙ ap (λ o. either o (entry_of (item_places p node c ((s + k) + item_size p node c item) items) x)) (stands_not (left_of item) (s + k) x (λ here_too. apart (left_of item) (lefts items) x d here_too j))
            ∙ ap (λ n. entry_of (item_places p node c n items) x) next ∙ it.at s;
        below = let b = it.below in omega (arith, b);
      }

  pub rooted : (items : List Item) (k : ℕ) (x : Name) → AllByRecursion (IsTypedItem name_type p.node) items → AreDistinct (lefts items) → In x (lefts items) → Rooted p node c items k x
  rooted [] k x typed d i = elim i [ ]
  rooted (item ∷ items) k x typed d i =
      rooted_by item items k x typed.0 d (rooted items (k + item_size p node c item) x typed.1 (distinct_right (left_of item) (lefts items) d)) (in_append (left_of item) (lefts items) x i)
