-- The inputs of a network, and the columns that name them.
use Rattle.std.proofs.Common.{◌≡◌, ◌≢◌, ◌<◌, ◌∙◌, ℕ, suc, true, List, [], ◌∷◌, ◌++◌, length, map, Option, Some, None, Ok, refl, sym, ap, subst, arith}
use Rattle.op_network.specs.declared.edge.Parts.{Parts}
use Rattle.suite_file.specs.Records.{Text}
use Rattle.std.specs.Option.{is_some}
use Rattle.op_network.specs.declared.edge.EdgeId.{EdgeId}
use Rattle.suite_file.specs.Tables.{Numbering, number_of}
use Rattle.op_network.specs.Valid.{op_of, type_of}
use Rattle.op_network.specs.declared.edge.Edge.{Edge}
use Rattle.op_network.specs.declared.edge.Op.{Op}
use Rattle.op_network.specs.declared.edge.Op.TheVariants.{Input}
use Rattle.suite_file.specs.Suites.{name_of, type_at, columns_from, places_from}
use Rattle.suite_file.proofs.Tables.{number_append}
use Rattle.suite_file.proofs.Places.{length_last}
use Rattle.std.proofs.Common.{slice_index_or, AllPairs}
use Rattle.std.specs.Prelude.{slice_get}
use Rattle.std.proofs.lemmas.Option.{slice_get_within, get_or_from_slice_get}
use Rattle.op_network.specs.Valid.{HasType, IsValid, FitsInput}
use Rattle.op_network.specs.declared.value.Value.{Value}
use Rattle.suite_file.proofs.Writable.{Each}
use Rattle.suite_file.proofs.ValuesBack.{other_text, same_text}

-- ---- the cells of a record

pub append_none : {A : Type 0} (a : List A) → a ++ [] ≡ a
append_none [] = refl
append_none (x ∷ a) = ap (λ t. x ∷ t) (append_none a)

pub append_assoc : {A : Type 0} (a b c : List A) → (a ++ b) ++ c ≡ a ++ (b ++ c)
append_assoc [] b c = refl
append_assoc (x ∷ a) b c = ap (λ t. x ∷ t) (append_assoc a b c)

-- each value is of its input's type
abbrev pub AreTyped : Parts → List EdgeId → List Value → Type 0
AreTyped parts [] [] = Unit {0}
AreTyped parts [] (v ∷ values) = ⊥
AreTyped parts (e ∷ inputs) [] = ⊥
AreTyped parts (e ∷ inputs) (v ∷ values) = HasType parts v (type_at parts.edges e.0) × AreTyped parts inputs values

-- ---- the columns

abbrev pub numbered : ℕ → List Text → Numbering
numbered k [] = []
numbered k (name ∷ names) = (name, k) ∷ numbered (suc k) names

-- no name stands twice
abbrev pub Differ : List Text → Type 0
Differ [] = Unit {0}
Differ (x ∷ xs) = Each (λ y. y ≢ x) xs × Differ xs

pub each_map : {A : Type 0} (P Q : A → Type 0) (xs : List A) → ((x : A) → P x → Q x) → Each P xs → Each Q xs
each_map P Q [] f h = h
each_map P Q (x ∷ xs) f h = (f x h.0, each_map P Q xs f h.1)

pub each_both : {A : Type 0} (P Q : A → Type 0) (xs : List A) → Each P xs → Each Q xs → Each (λ x. P x × Q x) xs
each_both P Q [] h k = h
each_both P Q (x ∷ xs) h k = ((h.0, k.0), each_both P Q xs h.1 k.1)

pub new_last : (before : Numbering) (name m : Text) (k : ℕ) → number_of before m ≡ None → m ≢ name → number_of (before ++ (name, k) ∷ []) m ≡ None
new_last before name m k h n = number_append before ((name, k) ∷ []) m ∙ rw (h, other_text m name n) refl

pub columns_back : (inputs before : Numbering) (c : ℕ) (names : List Text) → Each (λ name. is_some (number_of inputs name) ≡ true) names → Each (λ name. number_of before name ≡ None) names → Differ names
    → columns_from inputs before c names ≡ Ok (before ++ numbered (length before) names)
columns_back inputs before c [] h k d = ap (λ t. Ok t) (sym (append_none before))
columns_back inputs before c (name ∷ names) h k d =
    let later = each_map (λ m. (number_of before m ≡ None) × (m ≢ name)) (λ m. number_of (before ++ (name, length before) ∷ []) m ≡ None) names (λ m p. new_last before name m (length before) p.0 p.1) (each_both (λ m. number_of before m ≡ None) (λ m. m ≢ name) names k.1 d.0) in
    let size : length (before ++ (name, length before) ∷ []) ≡ suc (length before) = omega (arith, length_last before (name, length before)) in
    rw (h.0, k.0) (columns_back inputs (before ++ (name, length before) ∷ []) (suc c) names h.1 later d.1
    ∙ ap (λ t. Ok t) (rw size (append_assoc before ((name, length before) ∷ []) (numbered (suc (length before)) names))))

-- what a list of names gives behind others
pub places_back : (columns : Numbering) (before : List ℕ) (names : List Text) (places : List ℕ) → map (number_of columns) names ≡ map (λ k. Some k) places → places_from columns before names ≡ Some (before ++ places)
places_back columns before [] [] h = ap (λ t. Some t) (sym (append_none before))
places_back columns before [] (k ∷ places) h = absurd (cc h)
places_back columns before (x ∷ names) [] h = absurd (cc h)
places_back columns before (x ∷ names) (k ∷ places) h =
    let one : number_of columns x ≡ Some k = cc h in
    let rest : map (number_of columns) names ≡ map (λ k. Some k) places = cc h in
    rw one (places_back columns (before ++ k ∷ []) names places rest ∙ ap (λ t. Some t) (append_assoc before (k ∷ []) places))

skip_first : (x : Text) (k : ℕ) (columns : Numbering) (names : List Text) → Each (λ y. y ≢ x) names → map (number_of ((x, k) ∷ columns)) names ≡ map (number_of columns) names
skip_first x k columns [] h = refl
skip_first x k columns (y ∷ names) h = rw (other_text y x h.0) (ap (λ t. number_of columns y ∷ t) (skip_first x k columns names h.1))

-- ---- what a valid network says of its inputs

each_by_index : {A : Type 0} (P : A → Type 0) (xs : List A) → ((i : ℕ) (x : A) → slice_get xs i ≡ Some x → P x) → Each P xs
each_by_index P [] h = tt
each_by_index P (x ∷ xs) h = (h 0 x refl, each_by_index P xs (λ i y e. h (suc i) y e))

has_edge : (edges : List Edge) (e : ℕ) (op : Op) → op_of edges e ≡ Some op → (edge : Edge) × (slice_get edges e ≡ Some edge)
has_edge edges e op h = go (slice_get edges e) refl
  where
    go : (o : Option Edge) → slice_get edges e ≡ o → (edge : Edge) × (slice_get edges e ≡ Some edge)
    go None k = let bad : None ≡ Some op = rw k at h in absurd (cc bad)
    go (Some edge) k = (edge, k)

-- an edge of the network
abbrev pub IsEdge : Parts → EdgeId → Type 0
IsEdge parts e = (edge : Edge) × (slice_get parts.edges e.0 ≡ Some edge)

pub inputs_are : (parts : Parts) → IsValid parts → Each (IsEdge parts) parts.inputs
inputs_are parts valid = each_by_index (IsEdge parts) parts.inputs (λ i e h. has_edge parts.edges e.0 (Input i) (valid.inputs.numbered i e h))

names_differ : (parts : Parts) (d e : EdgeId) → IsValid parts → IsEdge parts d → IsEdge parts e → d.0 < e.0 → name_of parts.edges e ≢ name_of parts.edges d
names_differ parts d e valid a b lt =
    let first : slice_index_or parts.edges d.0 a.0 ≡ a.0 = get_or_from_slice_get parts.edges d.0 a.0 a.0 a.1 in
    let second : slice_index_or parts.edges e.0 a.0 ≡ b.0 = get_or_from_slice_get parts.edges e.0 b.0 a.0 b.1 in
    let other : a.0.name ≢ b.0.name = subst (λ (x : Edge). x.name ≢ b.0.name) first (subst (λ (y : Edge). (slice_index_or parts.edges d.0 a.0).name ≢ y.name) second (valid.apart d.0 e.0 a.0 lt (slice_get_within parts.edges e.0 b.0 b.1))) in
    rw (a.1, b.1) (λ q. other (sym q))

pub differ_from : (parts : Parts) (inputs : List EdgeId) → IsValid parts → Each (IsEdge parts) inputs → AllPairs (λ (a b : EdgeId). a.0 < b.0) inputs → Differ (map (name_of parts.edges) inputs)
differ_from parts [] valid h order = tt
differ_from parts (d ∷ inputs) valid h order = (
  each_names inputs h.1 (λ j e k. subst (λ (x : EdgeId). d.0 < x.0) (get_or_from_slice_get inputs j e e k) (order 0 (suc j) e (omega arith) (omega (arith, slice_get_within inputs j e k)))),
  differ_from parts inputs valid h.1 (λ i j e lt w. order (suc i) (suc j) e (omega arith) (omega arith)),
)
  where
    each_names : (others : List EdgeId) → Each (IsEdge parts) others → ((j : ℕ) (e : EdgeId) → slice_get others j ≡ Some e → d.0 < e.0) → Each (λ y. y ≢ name_of parts.edges d) (map (name_of parts.edges) others)
    each_names [] k lower = tt
    each_names (e ∷ others) k lower = (names_differ parts d e valid h.0 k.0 (lower 0 e refl), each_names others k.1 (λ j x q. lower (suc j) x q))

pub own_entries : (edges : List Edge) (inputs : List EdgeId) → Differ (map (name_of edges) inputs)
    → map (number_of (map (λ (e : EdgeId). (name_of edges e, e.0)) inputs)) (map (name_of edges) inputs) ≡ map (λ (e : EdgeId). Some e.0) inputs
own_entries edges [] h = refl
own_entries edges (e ∷ inputs) h = rw (same_text (name_of edges e) (name_of edges e) refl)
    (ap (λ t. Some e.0 ∷ t) (skip_first (name_of edges e) e.0 (map (λ (e : EdgeId). (name_of edges e, e.0)) inputs) (map (name_of edges) inputs) h.0 ∙ own_entries edges inputs h.1))

pub each_all : {A : Type 0} (P : A → Type 0) (xs : List A) → ((x : A) → P x) → Each P xs
each_all P [] h = tt
each_all P (x ∷ xs) h = (h x, each_all P xs h)

-- ---- the rows of a test

type_known : (parts : Parts) (e : EdgeId) → IsEdge parts e → type_of parts.edges e ≡ Some (type_at parts.edges e.0)
type_known parts e h = rw h.1 refl

pub typed_from : (parts : Parts) (inputs : List EdgeId) (row : List Value) → Each (IsEdge parts) inputs → length row ≡ length inputs
    → ((i : ℕ) (e : EdgeId) (v : Value) → slice_get inputs i ≡ Some e → slice_get row i ≡ Some v → FitsInput parts e v) → AreTyped parts inputs row
typed_from parts [] [] k size h = tt
typed_from parts [] (v ∷ row) k size h = absurd (omega (arith, size))
typed_from parts (e ∷ inputs) [] k size h = absurd (omega (arith, size))
typed_from parts (e ∷ inputs) (v ∷ row) k size h =
    (h 0 e v refl refl (type_at parts.edges e.0) (type_known parts e k.0), typed_from parts inputs row k.1 (omega (arith, size)) (λ i d w p q. h (suc i) d w p q))
