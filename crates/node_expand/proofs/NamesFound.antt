-- What is found in tables of names that entries are added to.
use Rattle.std.proofs.Common.{◌≡◌, true, false, if◌then◌else◌, List, [], ◌∷◌, ◌++◌, Option, Some, None, refl, sym, ap, ◌∙◌, is_some, true≢false}
use Rattle.lus_types.specs.NameTables.{either}
use Rattle.lus_types.specs.Names.{Name, entry_of}
use Rattle.lus_types.proofs.Tabled.{joined, kept}
use Rattle.node_expand.specs.NameTables.{with_name, with_entries}

module _ {A : Type 0} where
  either_assoc : (a b c : Option A) → either (either a b) c ≡ either a (either b c)
  either_assoc None b c = refl
  either_assoc (Some v) b c = refl

  either_none : (a : Option A) → either a None ≡ a
  either_none None = refl
  either_none (Some v) = refl

  pub found_with_name : (table : List (Name × A)) (x : Name) (a : A) (y : Name) → entry_of (with_name table x a) y ≡ either (entry_of table y) (entry_of ((x, a) ∷ []) y)
  found_with_name table x a y = elim (is_some (entry_of table x)) as (λ b. is_some (entry_of table x) ≡ b → entry_of (if b then table else (table ++ (x, a) ∷ [])) y ≡ either (entry_of table y) (entry_of ((x, a) ∷ []) y)) [
    | true ↦ λ h. kept table x y a (λ none. true≢false (sym h ∙ ap is_some none))
    | false ↦ λ h. joined table ((x, a) ∷ []) y
  ] refl

  pub found_with_entries : (table entries : List (Name × A)) (y : Name) → entry_of (with_entries table entries) y ≡ either (entry_of table y) (entry_of entries y)
  found_with_entries table [] y = sym (either_none (entry_of table y))
  found_with_entries table (e ∷ entries) y =
      found_with_entries (with_name table e.0 e.1) entries y
      ∙ ap (λ o. either o (entry_of entries y)) (found_with_name table e.0 e.1 y)
      ∙ either_assoc (entry_of table y) (entry_of (e ∷ []) y) (entry_of entries y)
      ∙ ap (either (entry_of table y)) (sym (joined (e ∷ []) entries y))

  pub found_fresh : (entries : List (Name × A)) (y : Name) → entry_of (with_entries [] entries) y ≡ entry_of entries y
  found_fresh entries y = found_with_entries [] entries y
