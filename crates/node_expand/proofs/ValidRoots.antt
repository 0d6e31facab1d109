-- What the edges of a node's variables have, where the roots of its items have it.
use Rattle.std.proofs.Common.{List, [], ap, ap₂, inl, inr, map, refl, ℕ, ◌++◌, ◌+◌, ◌⊎◌, ◌∙◌, ◌∷◌, ◌≡◌}
use Rattle.lus_syntax.specs.declared.ast.Item.{Item}
use Rattle.lus_types.specs.Calls.{In, here, there}
use Rattle.lus_types.specs.Names.{Name, left_of, lefts}
use Rattle.lus_types.specs.Programs.{Node, Program, names}
use Rattle.lus_types.proofs.Members.{in_append}
use Rattle.node_expand.specs.Counts.{item_size}
use Rattle.node_expand.specs.Fragments.{Callees, place_of}
use Rattle.node_expand.specs.Instances.{item_places, places_from, places_over}
use Rattle.node_expand.proofs.TraceNodes.{found_or_behind}

module _ {A : Type 0} (program : Program) (node : Node) (callees : Callees) (at : ℕ → A) (of : Name → A) where
  -- the roots of these items, the first of which begins at a place
  abbrev pub Rooted : ℕ → List Item → Type 0
  Rooted next [] = Unit {0}
  Rooted next (item ∷ items) = (map at (places_from next (left_of item)) ≡ map of (left_of item)) × Rooted (next + item_size program node callees item) items

  -- a defined variable stands at its root
  pub root_found : (next : ℕ) (items : List Item) → Rooted next items → (x : Name) → In x (lefts items)
      → at (place_of (item_places program node callees next items) x) ≡ of x
  root_found next [] rooted x i = elim i [ ]
  root_found next (item ∷ items) rooted x i =
      step (in_append (left_of item) (lefts items) x i)
      (found_or_behind at of (left_of item) (places_from next (left_of item)) (item_places program node callees (next + item_size program node callees item) items) rooted.0 x)
      (root_found (next + item_size program node callees item) items rooted.1 x)
    where
      step : (In x (left_of item)) ⊎ (In x (lefts items))
          → (at (place_of (item_places program node callees next (item ∷ items)) x) ≡ of x)
          ⊎ ((In x (left_of item) → ⊥) × (place_of (item_places program node callees next (item ∷ items)) x ≡ place_of (item_places program node callees (next + item_size program node callees item) items) x))
          → (In x (lefts items) → at (place_of (item_places program node callees (next + item_size program node callees item) items) x) ≡ of x)
          → at (place_of (item_places program node callees next (item ∷ items)) x) ≡ of x
      step in_x (inl found) later = found
      step (inl j) (inr behind) later = absurd (behind.0 j)
      step (inr j) (inr behind) later = ap at behind.1 ∙ later j

  -- a variable stands at its root, or at the edge of its argument
  pub variable_found : (args : List ℕ) (start : ℕ) → map at args ≡ map of (names node.inputs) → Rooted start node.items
      → (x : Name) → In x (names node.inputs ++ lefts node.items) → at (place_of (places_over program node callees args start) x) ≡ of x
  variable_found args start same_ins rooted x i =
      step (in_append (names node.inputs) (lefts node.items) x i)
      (found_or_behind at of (names node.inputs) args (item_places program node callees start node.items) same_ins x)
    where
      step : (In x (names node.inputs)) ⊎ (In x (lefts node.items))
          → (at (place_of (places_over program node callees args start) x) ≡ of x)
          ⊎ ((In x (names node.inputs) → ⊥) × (place_of (places_over program node callees args start) x ≡ place_of (item_places program node callees start node.items) x))
          → at (place_of (places_over program node callees args start) x) ≡ of x
      step in_x (inl found) = found
      step (inl j) (inr behind) = absurd (behind.0 j)
      step (inr j) (inr behind) = ap at behind.1 ∙ root_found start node.items rooted x j

  pub all_found : (place : Name → ℕ) (xs : List Name) → ((x : Name) → In x xs → at (place x) ≡ of x) → map at (map place xs) ≡ map of xs
  all_found place [] is = refl
  all_found place (x ∷ xs) is = ap₂ (λ a l. a ∷ l) (is x here) (all_found place xs (λ y i. is y (there i)))
