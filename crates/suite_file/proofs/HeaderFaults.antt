-- The first fault of a header.
use Rattle.std.proofs.Common.{◌≡◌, ◌≢◌, ◌<◌, ◌+◌, ◌∙◌, ℕ, zero, suc, Bool, true, false, cond, List, [], ◌∷◌, ◌++◌, length, Option, Some, None, Ok, Err, refl, sym, ap, subst, arith, codes, slice_index_or}
use Rattle.std.specs.Prelude.{Result, option_and_then}
use Rattle.std.specs.List.{Contains}
use Rattle.std.specs.Option.{is_some, option_map_or}
use Rattle.std.specs.Str.{bytes_eq}
use Rattle.std.proofs.lemmas.Bool.{false≢true}
use Rattle.std.proofs.lemmas.Option.{slice_get_within, get_or_from_slice_get}
use Rattle.std.proofs.lemmas.Slice.Eq.{bytes_eq-Decides}
use Rattle.op_network.specs.declared.edge.Parts.{Parts}
use Rattle.suite_file.specs.declared.fault.SuiteFault.{SuiteFault}
use Rattle.suite_file.specs.declared.fault.SuiteFault.TheVariants as fault
use Rattle.suite_file.specs.declared.fault.SuiteKind.{SuiteKind}
use Rattle.suite_file.specs.declared.fault.SuiteKind.TheVariants as kind
use Rattle.suite_file.specs.declared.header.Layout.{Layout}
use Rattle.suite_file.specs.Records.{Text}
use Rattle.suite_file.specs.Refusals.{AreInputs, HeaderFault, IsColumn, Lacks, no_test, unknown, repeated, missing}
use Rattle.suite_file.specs.Suites.{and_then, column_fault, columns_from, input_names, inputs_of, layout_of, layout_under, places_from, types_of}
use Rattle.suite_file.specs.Tables.{Numbering, number_of}
use Rattle.suite_file.proofs.Accepting.{differ_of, known_at, number_at}
use Rattle.suite_file.proofs.Inputs.{Differ, append_assoc, append_none, columns_back, each_all, each_both, each_map, new_last, numbered}
use Rattle.suite_file.proofs.LayoutMeans.{Read, columns_are, known_input, named_here, pairs_apart}
use Rattle.suite_file.proofs.Places.{length_last}
use Rattle.suite_file.proofs.Writable.{Each, all_from, each_from}

-- ---- names and numbers

is_known : (parts : Parts) (name : Text) → Contains (input_names parts) name → is_some (number_of (inputs_of parts) name) ≡ true
is_known parts name h = known_at parts.edges parts.inputs name h.0 h.1 h.2

not_known : (parts : Parts) (name : Text) → Lacks (input_names parts) name → is_some (number_of (inputs_of parts) name) ≡ false
not_known parts name n = go (is_some (number_of (inputs_of parts) name)) refl
  where
    go : (b : Bool) → is_some (number_of (inputs_of parts) name) ≡ b → b ≡ false
    go false e = refl
    go true e = absurd (n (known_input parts.edges parts.inputs name e))

has_number : (names : List Text) (name : Text) → Contains names name → is_some (number_of (numbered 0 names) name) ≡ true
has_number names name h = let p = number_at 0 names name h.0 h.1 h.2 in ap is_some p.1

no_number : (names : List Text) (name : Text) → Lacks names name → number_of (numbered 0 names) name ≡ None
no_number names name n = go (number_of (numbered 0 names) name) refl
  where
    go : (o : Option ℕ) → number_of (numbered 0 names) name ≡ o → o ≡ None
    go None e = refl
    go (Some p) e = let at = named_here names name p e in absurd (n (p, slice_get_within names p name at, get_or_from_slice_get names p name name at))

lacks_from : (names : List Text) (name : Text) → number_of (numbered 0 names) name ≡ None → Lacks names name
lacks_from names name e h = false≢true (sym (ap is_some e) ∙ has_number names name h)

numbered_last : (k : ℕ) (names : List Text) (name : Text) → numbered k (names ++ name ∷ []) ≡ numbered k names ++ (name, k + length names) ∷ []
numbered_last k [] name = let here : k ≡ k + 0 = omega arith in ap (λ n. (name, n) ∷ []) here
numbered_last k (x ∷ names) name =
    let next : suc k + length names ≡ k + suc (length names) = omega arith in
    ap (λ t. (x, k) ∷ t) (numbered_last (suc k) names name ∙ ap (λ n. numbered (suc k) names ++ (name, n) ∷ []) next)

numbered_size : (k : ℕ) (names : List Text) → length (numbered k names) ≡ length names
numbered_size k [] = refl
numbered_size k (x ∷ names) = ap suc (numbered_size (suc k) names)

-- ---- columns that are taken before one at fault

columns_front : (inputs before : Numbering) (c : ℕ) (names rest : List Text) → Each (λ name. is_some (number_of inputs name) ≡ true) names → Each (λ name. number_of before name ≡ None) names → Differ names
    → columns_from inputs before c (names ++ rest) ≡ columns_from inputs (before ++ numbered (length before) names) (c + length names) rest
columns_front inputs before c [] rest h k d =
    let here : c ≡ c + 0 = omega arith in
    ap (λ (b : Numbering). columns_from inputs b c rest) (sym (append_none before)) ∙ ap (λ (n : ℕ). columns_from inputs (before ++ []) n rest) here
columns_front inputs before c (name ∷ names) rest h k d =
    let later = each_map (λ m. (number_of before m ≡ None) × (m ≢ name)) (λ m. number_of (before ++ (name, length before) ∷ []) m ≡ None) names (λ m p. new_last before name m (length before) p.0 p.1) (each_both (λ m. number_of before m ≡ None) (λ m. m ≢ name) names k.1 d.0) in
    let size : length (before ++ (name, length before) ∷ []) ≡ suc (length before) = omega (arith, length_last before (name, length before)) in
    let next : suc c + length names ≡ c + suc (length names) = omega arith in
    rw (h.0, k.0) (columns_front inputs (before ++ (name, length before) ∷ []) (suc c) names rest h.1 later d.1
    ∙ ap (λ (b : Numbering). columns_from inputs b (suc c + length names) rest) (rw size (append_assoc before ((name, length before) ∷ []) (numbered (suc (length before)) names)))
    ∙ ap (λ (n : ℕ). columns_from inputs (before ++ numbered (length before) (name ∷ names)) n rest) next)

column_refused : (parts : Parts) (before : List Text) (name : Text) (later : List Text) (k : SuiteKind) → AreInputs parts before → column_fault (inputs_of parts) (numbered 0 before) name ≡ Some k
    → layout_of parts (codes "test" ∷ (before ++ name ∷ later)) ≡ Err (fault.Bad 0 (suc (length before)) k)
column_refused parts before name later k h e =
    let known = each_map (Contains (input_names parts)) (λ n. is_some (number_of (inputs_of parts) n) ≡ true) before (λ n c. is_known parts n c) (each_from (Contains (input_names parts)) before h.known) in
    let new = each_all (λ n. number_of [] n ≡ None) before (λ n. refl) in
    let place : 1 + length before ≡ suc (length before) = omega arith in
    let refused : columns_from (inputs_of parts) [] 1 (before ++ name ∷ later) ≡ Err (fault.Bad 0 (suc (length before)) k)
    = columns_front (inputs_of parts) [] 1 before (name ∷ later) known new (differ_of before h.once)
    ∙ ap (λ (n : ℕ). columns_from (inputs_of parts) (numbered 0 before) n (name ∷ later)) place ∙ rw e refl in
    rw refused refl

no_place : (columns : Numbering) (before : List ℕ) (names : List Text) (name : Text) (k : ℕ) → k < length names → slice_index_or names k name ≡ name → number_of columns name ≡ None → places_from columns before names ≡ None
no_place columns before [] name k w h e = absurd (omega (arith, w))
no_place columns before (x ∷ names) name zero w h e = let none : number_of columns x ≡ None = ap (number_of columns) h ∙ e in rw none refl
no_place columns before (x ∷ names) name (suc k) w h e = go (number_of columns x) (λ p. no_place columns (before ++ p ∷ []) names name k (omega (arith, w)) h e)
  where
    go : (o : Option ℕ) → ((p : ℕ) → places_from columns (before ++ p ∷ []) names ≡ None) → option_and_then (λ place. places_from columns (before ++ place ∷ []) names) o ≡ None
    go None more = refl
    go (Some p) more = more p

-- a header with a fault is refused for it
pub header_refused : (parts : Parts) (header : List Text) (c : ℕ) (k : SuiteKind) → HeaderFault parts header c k → layout_of parts header ≡ Err (fault.Bad 0 c k)
header_refused parts [] _ _ (no_test n) = refl
header_refused parts (first ∷ names) _ _ (no_test n) = go (bytes_eq first (codes "test")) refl
  where
    go : (b : Bool) → bytes_eq first (codes "test") ≡ b → layout_of parts (first ∷ names) ≡ Err (fault.Bad 0 0 kind.NoTestColumn)
    go true q = absurd (n (ap (λ t. Some t) ((bytes_eq-Decides first (codes "test")).0 q)))
    go false q = rw q refl
header_refused parts header _ _ (unknown before name col n) =
    ap (layout_of parts) col.all ∙ column_refused parts before name col.later kind.UnknownColumn col.inputs (rw (not_known parts name n) refl)
header_refused parts header _ _ (repeated before name col h r) =
    ap (layout_of parts) col.all ∙ column_refused parts before name col.later kind.RepeatedColumn col.inputs (rw (is_known parts name h, has_number before name r) refl)
header_refused parts header _ _ (missing columns name all h i n) =
    let known = each_map (Contains (input_names parts)) (λ m. is_some (number_of (inputs_of parts) m) ≡ true) columns (λ m c. is_known parts m c) (each_from (Contains (input_names parts)) columns h.known) in
    let new = each_all (λ m. number_of [] m ≡ None) columns (λ m. refl) in
    let taken : columns_from (inputs_of parts) [] 1 columns ≡ Ok (numbered 0 columns) = columns_back (inputs_of parts) [] 1 columns known new (differ_of columns h.once) in
    let none : places_from (numbered 0 columns) [] (input_names parts) ≡ None = no_place (numbered 0 columns) [] (input_names parts) name i.0 i.1 i.2 (no_number columns name n) in
    ap (layout_of parts) all ∙ rw (taken, none) refl

-- ---- a header that is refused has a fault

inputs_last : (parts : Parts) (names : List Text) (name : Text) → AreInputs parts names → Contains (input_names parts) name → Lacks names name → AreInputs parts (names ++ name ∷ [])
inputs_last parts names name h k n = record {
  known = all_from (Contains (input_names parts)) (names ++ name ∷ []) (each_last (Contains (input_names parts)) names name (each_from (Contains (input_names parts)) names h.known) k);
  once = pairs_apart (names ++ name ∷ []) (differ_last names (differ_of names h.once) (each_lacks names n));
}
  where
    each_last : (P : Text → Type 0) (xs : List Text) (x : Text) → Each P xs → P x → Each P (xs ++ x ∷ [])
    each_last P [] x h p = (p, tt)
    each_last P (y ∷ xs) x h p = (h.0, each_last P xs x h.1 p)

    each_lacks : (xs : List Text) → Lacks xs name → Each (λ x. name ≢ x) xs
    each_lacks [] n = tt
    each_lacks (x ∷ xs) n = ((λ e. n (0, omega arith, sym e)), each_lacks xs (λ c. n (suc c.0, omega (arith, c.1), c.2)))

    differ_last : (xs : List Text) → Differ xs → Each (λ x. name ≢ x) xs → Differ (xs ++ name ∷ [])
    differ_last [] d e = (tt, tt)
    differ_last (x ∷ xs) d e = (each_last (λ y. y ≢ x) xs name d.0 e.0, differ_last xs d.1 e.1)

-- a fault of a header, with its place and kind
pub record FaultOf (parts : Parts) (header : List Text) (e : SuiteFault) : Type 0 where
  pub column : ℕ
  pub kind_of : SuiteKind
  pub is : fault.Bad 0 column kind_of ≡ e
  pub fault_is : HeaderFault parts header column kind_of

column_at_fault : (parts : Parts) (before names : List Text) (e : SuiteFault) → AreInputs parts before → columns_from (inputs_of parts) (numbered 0 before) (suc (length before)) names ≡ Err e
    → FaultOf parts (codes "test" ∷ (before ++ names)) e
column_at_fault parts before [] e h f = absurd (cc f)
column_at_fault parts before (name ∷ names) e h f =
    go (is_some (number_of (inputs_of parts) name)) (number_of (numbered 0 before) name) refl refl (column_at_fault parts (before ++ name ∷ []) names e) f
  where
    column : IsColumn parts (codes "test" ∷ (before ++ name ∷ names)) before name
    column = record { later = names; all = refl; inputs = h }

    go : (a : Bool) (o : Option ℕ) → is_some (number_of (inputs_of parts) name) ≡ a → number_of (numbered 0 before) name ≡ o
        → (AreInputs parts (before ++ name ∷ []) → columns_from (inputs_of parts) (numbered 0 (before ++ name ∷ [])) (suc (length (before ++ name ∷ []))) names ≡ Err e → FaultOf parts (codes "test" ∷ ((before ++ name ∷ []) ++ names)) e)
        → option_map_or (λ k. Err (fault.Bad 0 (suc (length before)) k)) (cond a (cond (is_some o) (Some kind.RepeatedColumn) None) (Some kind.UnknownColumn))
        (columns_from (inputs_of parts) (numbered 0 before ++ (name, length (numbered 0 before)) ∷ []) (suc (suc (length before))) names) ≡ Err e
        → FaultOf parts (codes "test" ∷ (before ++ name ∷ names)) e
    go false o p q ih f = record {
      column = suc (length before);
      kind_of = kind.UnknownColumn;
      is = cc f;
      fault_is = unknown before name column (λ c. false≢true (sym p ∙ is_known parts name c));
    }
    go true (Some j) p q ih f =
        let at = named_here before name j q in
        record {
          column = suc (length before);
          kind_of = kind.RepeatedColumn;
          is = cc f;
          fault_is = repeated before name column (known_input parts.edges parts.inputs name p) (j, slice_get_within before j name at, get_or_from_slice_get before j name name at);
        }
    go true None p q ih f =
        let more = inputs_last parts before name h (known_input parts.edges parts.inputs name p) (lacks_from before name q) in
        let size : length (numbered 0 before) ≡ 0 + length before = omega (arith, numbered_size 0 before) in
        let table : numbered 0 (before ++ name ∷ []) ≡ numbered 0 before ++ (name, length (numbered 0 before)) ∷ [] = numbered_last 0 before name ∙ ap (λ n. numbered 0 before ++ (name, n) ∷ []) (sym size) in
        let place : suc (length (before ++ name ∷ [])) ≡ suc (suc (length before)) = omega (arith, length_last before name) in
        let m = ih more
        (ap (λ (t : Numbering). columns_from (inputs_of parts) t (suc (length (before ++ name ∷ []))) names) table
        ∙ ap (λ (n : ℕ). columns_from (inputs_of parts) (numbered 0 before ++ (name, length (numbered 0 before)) ∷ []) n names) place ∙ f) in
        subst (λ (t : List Text). FaultOf parts (codes "test" ∷ t) e) (append_assoc before (name ∷ []) names) m

-- the first of some names that has no number
misses : (columns : Numbering) (before : List ℕ) (names : List Text) → places_from columns before names ≡ None → (name : Text) × Contains names name × (number_of columns name ≡ None)
misses columns before [] e = absurd (cc e)
misses columns before (x ∷ names) e = go (number_of columns x) refl (λ p. misses columns (before ++ p ∷ []) names) e
  where
    go : (o : Option ℕ) → number_of columns x ≡ o → ((p : ℕ) → places_from columns (before ++ p ∷ []) names ≡ None → (name : Text) × Contains names name × (number_of columns name ≡ None))
        → option_and_then (λ place. places_from columns (before ++ place ∷ []) names) o ≡ None → (name : Text) × Contains (x ∷ names) name × (number_of columns name ≡ None)
    go None q more f = (x, (0, omega arith, refl), q)
    go (Some p) q more f = let m = more p f in (m.0, (suc m.1.0, omega (arith, m.1.1), m.1.2), m.2)

pub header_at_fault : (parts : Parts) (header : List Text) (e : SuiteFault) → layout_of parts header ≡ Err e → FaultOf parts header e
header_at_fault parts [] e f = record { column = 0; kind_of = kind.NoTestColumn; is = cc f; fault_is = no_test (λ q. absurd (cc q)) }
header_at_fault parts (first ∷ names) e f = test (bytes_eq first (codes "test")) refl f
  where
    places : (columns : Numbering) → Read (inputs_of parts) [] names columns → (o : Option (List ℕ)) → places_from columns [] (input_names parts) ≡ o
        → and_then {B = Layout} (λ places. Ok (record { types = types_of parts columns; places = places })) (option_map_or (λ places. Ok places) o (Err (fault.Bad 0 0 kind.MissingColumn))) ≡ Err e → FaultOf parts (codes "test" ∷ names) e
    places columns r (Some ps) q f = absurd (cc f)
    places columns r None q f =
        let m = misses columns [] (input_names parts) q in
        let none : number_of (numbered 0 names) m.0 ≡ None = ap (λ (c : Numbering). number_of c m.0) (sym r.0) ∙ m.2 in
        let inputs : AreInputs parts names = record {
          known = all_from (Contains (input_names parts)) names (each_map (λ n. is_some (number_of (inputs_of parts) n) ≡ true) (Contains (input_names parts)) names (λ n h. known_input parts.edges parts.inputs n h) r.1);
          once = pairs_apart names r.3;
        } in
        record { column = 0; kind_of = kind.MissingColumn; is = cc f; fault_is = missing names m.0 refl inputs m.1 (lacks_from names m.0 none) }

    columns : (r : Result Numbering SuiteFault) → columns_from (inputs_of parts) [] 1 names ≡ r → and_then (layout_under parts) r ≡ Err e → FaultOf parts (codes "test" ∷ names) e
    columns (Ok cs) q f = places cs (columns_are (inputs_of parts) [] 1 names cs q) (places_from cs [] (input_names parts)) refl f
    columns (Err x) q f = let same : x ≡ e = cc f in column_at_fault parts [] names e (record { known = all_from (Contains (input_names parts)) [] tt; once = pairs_apart [] tt }) (q ∙ ap (λ t. Err t) same)

    test : (t : Bool) → bytes_eq first (codes "test") ≡ t → cond t (and_then (layout_under parts) (columns_from (inputs_of parts) [] 1 names)) (Err (fault.Bad 0 0 kind.NoTestColumn)) ≡ Err e → FaultOf parts (first ∷ names) e
    test true q f = subst (λ t. FaultOf parts (t ∷ names) e) (sym ((bytes_eq-Decides first (codes "test")).0 q)) (columns (columns_from (inputs_of parts) [] 1 names) refl f)
    test false q f = record { column = 0; kind_of = kind.NoTestColumn; is = cc f; fault_is = no_test (λ h. let is : first ≡ codes "test" = cc h in false≢true (sym q ∙ (bytes_eq-Decides first (codes "test")).1 is)) }
