-- The layout of a header that is taken.
use Rattle.std.proofs.Common.{◌≡◌, ◌∙◌, ℕ, zero, suc, Bool, true, false, cond, List, [], ◌∷◌, ◌++◌, length, map, drop, Option, Some, None, Ok, refl, sym, ap, ap₂, subst}
use Rattle.op_network.specs.declared.edge.Parts.{Parts}
use Rattle.suite_file.specs.Records.{Text}
use Rattle.op_network.specs.declared.edge.EdgeId.{EdgeId}
use Rattle.suite_file.specs.Tables.{Numbering, number_of}
use Rattle.std.specs.Option.{option_map_or}
use Rattle.suite_file.specs.declared.header.Layout.{Layout}
use Rattle.suite_file.specs.Suites.{arranged, name_of, inputs_of, types_of, layout_of, input_names, type_at, columns_from, places_from}
use Rattle.suite_file.proofs.Tables.{number_append}
use Rattle.std.specs.Prelude.{slice_get}
use Rattle.std.specs.Str.{bytes_eq}
use Rattle.std.proofs.lemmas.Slice.Eq.{bytes_eq-Decides}
use Rattle.op_network.specs.Valid.{IsValid}
use Rattle.op_network.specs.declared.value.Ty.{Ty}
use Rattle.op_network.specs.declared.value.Value.{Value}
use Rattle.std.specs.Option.{option_or}
use Rattle.std.specs.Prelude.{option_and_then, Result}
use Rattle.std.proofs.Common.{Err}
use Rattle.std.proofs.lemmas.Option.{slice_get-map}
use Rattle.suite_file.specs.declared.fault.SuiteFault.{SuiteFault}
use Rattle.suite_file.specs.declared.fault.SuiteFault.TheVariants as fault
use Rattle.suite_file.specs.declared.fault.SuiteKind.{SuiteKind}
use Rattle.suite_file.specs.declared.fault.SuiteKind.TheVariants as kind
use Rattle.suite_file.specs.Suites.{and_then, column_fault, type_named, layout_under, is_test}
use Rattle.suite_file.proofs.Inputs.{AreTyped, Differ, append_assoc, append_none, differ_from, inputs_are, own_entries}
use Rattle.suite_file.proofs.ValuesFit.{AreOf, cell_typed}

-- ---- the layout of a header that is taken

-- each column stands at its number
abbrev Placed : Numbering → Type 0
Placed columns = (name : Text) (k : ℕ) → number_of columns name ≡ Some k → slice_get columns k ≡ Some (name, k)

get_front : {A : Type 0} (xs ys : List A) (k : ℕ) (x : A) → slice_get xs k ≡ Some x → slice_get (xs ++ ys) k ≡ Some x
get_front [] ys k x h = absurd (cc h)
get_front (a ∷ xs) ys zero x h = h
get_front (a ∷ xs) ys (suc k) x h = get_front xs ys k x h

get_last : {A : Type 0} (xs : List A) (x : A) → slice_get (xs ++ x ∷ []) (length xs) ≡ Some x
get_last [] x = refl
get_last (a ∷ xs) x = get_last xs x

placed_last : (before : Numbering) (name : Text) → Placed before → Placed (before ++ (name, length before) ∷ [])
placed_last before name h m k e = go (number_of before m) refl (sym (number_append before ((name, length before) ∷ []) m) ∙ e)
  where
    last : (t : Bool) → bytes_eq m name ≡ t → cond t (Some (length before)) None ≡ Some k → slice_get (before ++ (name, length before) ∷ []) k ≡ Some (m, k)
    last true b f =
        let q : length before ≡ k = cc f in
        let same : m ≡ name = (bytes_eq-Decides m name).0 b in
        rw (← q, same) (get_last before (name, length before))
    last false b f = absurd (cc f)

    go : (o : Option ℕ) → number_of before m ≡ o → option_or o (cond (bytes_eq m name) (Some (length before)) None) ≡ Some k → slice_get (before ++ (name, length before) ∷ []) k ≡ Some (m, k)
    go None q f = last (bytes_eq m name) refl f
    go (Some j) q f = let s : j ≡ k = cc f in get_front before ((name, length before) ∷ []) k (m, k) (h m k (q ∙ ap (λ t. Some t) s))

columns_placed : (inputs before : Numbering) (c : ℕ) (names : List Text) (columns : Numbering) → Placed before → columns_from inputs before c names ≡ Ok columns → Placed columns
columns_placed inputs before c [] columns h e = let q : before ≡ columns = cc e in subst Placed q h
columns_placed inputs before c (name ∷ names) columns h e = go (column_fault inputs before name) (columns_placed inputs (before ++ (name, length before) ∷ []) (suc c) names columns (placed_last before name h)) e
  where
    go : (o : Option SuiteKind) → (columns_from inputs (before ++ (name, length before) ∷ []) (suc c) names ≡ Ok columns → Placed columns)
        → option_map_or (λ k. Err (fault.Bad 0 c k)) o (columns_from inputs (before ++ (name, length before) ∷ []) (suc c) names) ≡ Ok columns → Placed columns
    go None more f = more f
    go (Some k) more f = absurd (cc f)

pub places_are : (columns : Numbering) (before : List ℕ) (names : List Text) (places : List ℕ) → places_from columns before names ≡ Some places → (ps : List ℕ) × (places ≡ before ++ ps) × (map (number_of columns) names ≡ map (λ k. Some k) ps)
places_are columns before [] places e = let q : before ≡ places = cc e in ([], sym (append_none before ∙ q), refl)
places_are columns before (name ∷ names) places e = go (number_of columns name) refl (λ p. places_are columns (before ++ p ∷ []) names places) e
  where
    go : (o : Option ℕ) → number_of columns name ≡ o → ((p : ℕ) → places_from columns (before ++ p ∷ []) names ≡ Some places → (ps : List ℕ) × (places ≡ (before ++ p ∷ []) ++ ps) × (map (number_of columns) names ≡ map (λ k. Some k) ps))
        → option_and_then (λ p. places_from columns (before ++ p ∷ []) names) o ≡ Some places → (ps : List ℕ) × (places ≡ before ++ ps) × (number_of columns name ∷ map (number_of columns) names ≡ map (λ k. Some k) ps)
    go None h more f = absurd (cc f)
    go (Some p) h more f = let m = more p f in (p ∷ m.0, m.1 ∙ append_assoc before (p ∷ []) m.0, ap₂ (λ (x : Option ℕ) (y : List (Option ℕ)). x ∷ y) h m.2)

-- the column of each input is of its type
abbrev pub AreLaid : Parts → List Ty → List EdgeId → List ℕ → Type 0
AreLaid parts types [] [] = Unit {0}
AreLaid parts types [] (p ∷ ps) = ⊥
AreLaid parts types (e ∷ inputs) [] = ⊥
AreLaid parts types (e ∷ inputs) (p ∷ ps) = (slice_get types p ≡ Some (type_at parts.edges e.0)) × AreLaid parts types inputs ps

laid : (parts : Parts) (columns : Numbering) (inputs : List EdgeId) (ps : List ℕ) → Placed columns → map (number_of (inputs_of parts)) (map (name_of parts.edges) inputs) ≡ map (λ (e : EdgeId). Some e.0) inputs
    → map (number_of columns) (map (name_of parts.edges) inputs) ≡ map (λ k. Some k) ps → AreLaid parts (types_of parts columns) inputs ps
laid parts columns [] [] h own e = tt
laid parts columns [] (p ∷ ps) h own e = absurd (cc e)
laid parts columns (d ∷ inputs) [] h own e = absurd (cc e)
laid parts columns (d ∷ inputs) (p ∷ ps) h own e =
    let name = name_of parts.edges d in
    let there : number_of columns name ≡ Some p = cc e in
    let more : map (number_of columns) (map (name_of parts.edges) inputs) ≡ map (λ k. Some k) ps = cc e in
    let edge : number_of (inputs_of parts) name ≡ Some d.0 = cc own in
    let others : map (number_of (inputs_of parts)) (map (name_of parts.edges) inputs) ≡ map (λ (e : EdgeId). Some e.0) inputs = cc own in
    let named : type_named parts name ≡ type_at parts.edges d.0 = rw edge refl in
    (slice_get-map (λ (column : Text × ℕ). type_named parts column.0) columns p ∙ rw (h name p there) (ap (λ t. Some t) named), laid parts columns inputs ps h others more)

pub layout_laid : (parts : Parts) (header : List Text) (taken : Layout) → IsValid parts → layout_of parts header ≡ Ok taken → AreLaid parts taken.types parts.inputs taken.places
layout_laid parts header taken valid e = test (is_test header) e
  where
    differ : Differ (input_names parts)
    differ = differ_from parts parts.inputs valid (inputs_are parts valid) valid.inputs.order

    own : map (number_of (inputs_of parts)) (input_names parts) ≡ map (λ (e : EdgeId). Some e.0) parts.inputs
    own = own_entries parts.edges parts.inputs differ

    places : (columns : Numbering) → Placed columns → (o : Option (List ℕ)) → places_from columns [] (input_names parts) ≡ o
        → and_then (λ places. Ok (record { types = types_of parts columns; places = places })) (option_map_or (λ places. Ok places) o (Err (fault.Bad 0 0 kind.MissingColumn))) ≡ Ok taken → AreLaid parts taken.types parts.inputs taken.places
    places columns h None q f = absurd (cc f)
    places columns h (Some ps) q f =
        let is : record { types = types_of parts columns; places = ps } ≡ taken = cc f in
        let p = places_are columns [] (input_names parts) ps q in
        subst (λ (t : Layout). AreLaid parts t.types parts.inputs t.places) is (rw p.1 (laid parts columns parts.inputs p.0 h own p.2))

    columns : (r : Result Numbering SuiteFault) → columns_from (inputs_of parts) [] 1 (drop 1 header) ≡ r → and_then (layout_under parts) r ≡ Ok taken → AreLaid parts taken.types parts.inputs taken.places
    columns (Err x) q f = absurd (cc f)
    columns (Ok cs) q f = places cs (columns_placed (inputs_of parts) [] 1 (drop 1 header) cs (λ name k n. absurd (cc n)) q) (places_from cs [] (input_names parts)) refl f

    test : (t : Bool) → cond t (and_then (layout_under parts) (columns_from (inputs_of parts) [] 1 (drop 1 header))) (Err (fault.Bad 0 0 kind.NoTestColumn)) ≡ Ok taken → AreLaid parts taken.types parts.inputs taken.places
    test true f = columns (columns_from (inputs_of parts) [] 1 (drop 1 header)) refl f
    test false f = absurd (cc f)

pub arranged_typed : (parts : Parts) (types : List Ty) (vs : List Value) (inputs : List EdgeId) (ps : List ℕ) → AreOf parts types vs → AreLaid parts types inputs ps → AreTyped parts inputs (arranged ps vs)
arranged_typed parts types vs [] [] a l = tt
arranged_typed parts types vs [] (p ∷ ps) a l = absurd l
arranged_typed parts types vs (e ∷ inputs) [] a l = absurd l
arranged_typed parts types vs (e ∷ inputs) (p ∷ ps) a l = (cell_typed parts types vs p (type_at parts.edges e.0) a l.0, arranged_typed parts types vs inputs ps a l.1)
