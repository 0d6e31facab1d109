-- Tables of roots and inputs, one entry after the other.
use Rattle.std.proofs.Common.{◌≡◌, ℕ, zero, suc, ◌+◌, ◌<◌, get_or, List, [], ◌∷◌, ◌++◌, drop, length, refl, sym, ap, ap₂, ◌∙◌, arith}
use Rattle.std.specs.Prelude.{slice_get, zip}
use Rattle.std.specs.Option.{option_to_list}
use Rattle.lus_syntax.specs.declared.ast.Item.{Item}
use Rattle.lus_types.specs.Names.{Name, left_of}
use Rattle.node_expand.specs.declared.header.Variable.{Variable}
use Rattle.node_expand.specs.declared.outlines.Outline.{Outline}
use Rattle.node_expand.specs.Fragments.{Places}
use Rattle.node_expand.specs.Known.{cut, cut_places, root_places}
use Rattle.node_expand.specs.NameTables.{with_entries, with_name}
use Rattle.node_expand.specs.Outlines.{Measure, item_measure, number_of}
use Rattle.node_expand.specs.Variables.{names_of}

pub entries_append : {A : Type 0} (table xs ys : List (Name × A)) → with_entries table (xs ++ ys) ≡ with_entries (with_entries table xs) ys
entries_append table [] ys = refl
entries_append table (x ∷ xs) ys = entries_append (with_name table x.0 x.1) xs ys

roots_more : (sizes : List Measure) (next : ℕ) (items : List Item) (outlines : List Outline) (i : ℕ) (item : Item) (o : Outline) → i < length items → length outlines ≡ length items
    → item ≡ get_or items i item → o ≡ get_or outlines i o
    → root_places sizes next (drop i items) (drop i outlines)
    ≡ zip (left_of item) (cut_places next (left_of item)) ++ root_places sizes (cut (next + number_of (item_measure sizes o))) (drop (suc i) items) (drop (suc i) outlines)
roots_more sizes next [] outlines i item o less same is at = absurd (omega (arith, less))
roots_more sizes next (x ∷ items) [] i item o less same is at = absurd (omega (arith, same))
roots_more sizes next (x ∷ items) (y ∷ outlines) zero item o less same is at =
    ap₂ (λ (k : Item) (q : Outline). zip (left_of k) (cut_places next (left_of k)) ++ root_places sizes (cut (next + number_of (item_measure sizes q))) items outlines) (sym is) (sym at)
roots_more sizes next (x ∷ items) (y ∷ outlines) (suc i) item o less same is at = roots_more sizes next items outlines i item o (omega (arith, less)) (omega (arith, same)) is at

pub roots_step : (sizes : List Measure) (next behind : ℕ) (items : List Item) (outlines : List Outline) (i : ℕ) (item : Item) (o : Outline) (now new all : Places) → i < length items → length outlines ≡ length items
    → item ≡ get_or items i item → o ≡ get_or outlines i o
    → new ≡ with_entries now (zip (left_of item) (cut_places next (left_of item))) → behind ≡ cut (next + number_of (item_measure sizes o))
    → with_entries now (root_places sizes next (drop i items) (drop i outlines)) ≡ all
    → with_entries new (root_places sizes behind (drop (i + 1) items) (drop (i + 1) outlines)) ≡ all
roots_step sizes next behind items outlines i item o now new all less same is at made b whole =
    let one : i + 1 ≡ suc i = omega arith in
    let rest = root_places sizes (cut (next + number_of (item_measure sizes o))) (drop (suc i) items) (drop (suc i) outlines) in
    (λ j. with_entries (made j) (root_places sizes (b j) (drop (one j) items) (drop (one j) outlines)))
    ∙ sym (entries_append now (zip (left_of item) (cut_places next (left_of item))) rest)
    ∙ ap (with_entries now) (sym (roots_more sizes next items outlines i item o less same is at))
    ∙ whole

drop_nil : {A : Type 0} (i : ℕ) → drop {A = A} i [] ≡ []
drop_nil zero = refl
drop_nil (suc i) = refl

zip_nil : (xs : List Name) → zip {X = ℕ} xs [] ≡ []
zip_nil [] = refl
zip_nil (x ∷ xs) = refl

inputs_more : (inputs : List Variable) (args : List ℕ) (i : ℕ) (v : Variable) → i < length inputs → v ≡ get_or inputs i v
    → zip (names_of (drop i inputs)) (drop i args) ≡ zip (v.name ∷ []) (option_to_list (slice_get args i)) ++ zip (names_of (drop (suc i) inputs)) (drop (suc i) args)
inputs_more [] args i v less is = absurd (omega (arith, less))
inputs_more (x ∷ inputs) [] zero v less is = sym (zip_nil (names_of inputs))
inputs_more (x ∷ inputs) (a ∷ args) zero v less is = ap (λ (w : Variable). (w.name, a) ∷ zip (names_of inputs) args) (sym is)
inputs_more (x ∷ inputs) [] (suc i) v less is = ap (zip (names_of (drop i inputs))) (sym (drop_nil i)) ∙ inputs_more inputs [] i v (omega (arith, less)) is
inputs_more (x ∷ inputs) (a ∷ args) (suc i) v less is = inputs_more inputs args i v (omega (arith, less)) is

pub inputs_step : (inputs : List Variable) (args : List ℕ) (i : ℕ) (v : Variable) (now new all : Places) → i < length inputs → v ≡ get_or inputs i v
    → new ≡ with_entries now (zip (v.name ∷ []) (option_to_list (slice_get args i)))
    → with_entries now (zip (names_of (drop i inputs)) (drop i args)) ≡ all
    → with_entries new (zip (names_of (drop (i + 1) inputs)) (drop (i + 1) args)) ≡ all
inputs_step inputs args i v now new all less is made whole =
    let one : i + 1 ≡ suc i = omega arith in
    (λ j. with_entries (made j) (zip (names_of (drop (one j) inputs)) (drop (one j) args)))
    ∙ sym (entries_append now (zip (v.name ∷ []) (option_to_list (slice_get args i))) (zip (names_of (drop (suc i) inputs)) (drop (suc i) args)))
    ∙ ap (with_entries now) (sym (inputs_more inputs args i v less is))
    ∙ whole
