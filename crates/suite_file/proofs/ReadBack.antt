-- What is written is read again.
use Rattle.std.proofs.Common.{zero, suc, drop, ℕ}
use Rattle.std.specs.Prelude.{slice_get}
use Rattle.std.specs.List.{AllZip}
use Rattle.std.proofs.lemmas.List.Elements.{Contains-get_or}
use Rattle.op_network.specs.declared.value.Value.{Value}
use Rattle.suite_file.specs.Meaning.{AreColumns, Gives, IsInstant, all_instants, instants}
use Rattle.suite_file.specs.Suites.{type_at}
use Rattle.suite_file.specs.Written.{instant_record, texts_of, value_text}
use Rattle.suite_file.proofs.Accepting.{accepted}
use Rattle.suite_file.proofs.Inputs.{differ_from}
use Rattle.suite_file.proofs.LayoutMeans.{pairs_apart}
use Rattle.suite_file.proofs.TestRows.{size_map, typed_size}
use Rattle.suite_file.proofs.ValuesBack.{value_back}
use Rattle.std.proofs.Common.{◌≡◌, ◌∙◌, true, List, [], ◌∷◌, ◌++◌, length, map, Some, None, refl, ap, ap₂, subst, arith, codes}
use Rattle.std.specs.List.{flat_map}
use Rattle.csv.specs.Machine.{next_record}
use Rattle.csv.specs.Reading.{strip_bom, default_config}
use Rattle.csv.specs.Writing.{default_writer, row_text, read_back}
use Rattle.csv.specs.declared.parser.State.TheVariants as st
use Rattle.csv.proofs.RoundTrip.{read-write}
use Rattle.csv.proofs.OnLiterals.{csv_on_literals}
use Rattle.op_network.specs.declared.edge.Parts.{Parts}
use Rattle.op_network.specs.declared.test.Test.{Test}
use Rattle.suite_file.specs.Records.{Text, trimmed, suite_records}
use Rattle.suite_file.specs.Reading.{records_behind}
use Rattle.op_network.specs.declared.edge.EdgeId.{EdgeId}
use Rattle.op_network.specs.Valid.{IsName}
use Rattle.op_network.specs.declared.edge.Edge.{Edge}
use Rattle.op_network.specs.Run.{rows}
use Rattle.suite_file.specs.Suites.{is_name, name_of, input_names}
use Rattle.suite_file.specs.Written.{written_records, header_record, text_of, suite_text}
use Rattle.std.proofs.lemmas.Option.{slice_get_within, get_or_from_slice_get}
use Rattle.op_network.specs.Valid.{IsValid}
use Rattle.op_network.specs.declared.value.Value.{Value}
use Rattle.suite_file.specs.Written.{IsReadAgain, test_records}
use Rattle.suite_file.proofs.Writable.{Each, AreWritable, readable}
use Rattle.suite_file.proofs.Behind.{behind_some, behind_none}
use Rattle.suite_file.proofs.Inputs.{AreTyped, IsEdge, inputs_are}
use Rattle.suite_file.proofs.Solid.{kept}
use Rattle.suite_file.proofs.SolidTexts.{name_solid, printed_solid, texts_kept}
use Rattle.suite_file.proofs.TestRows.{lines, rows_typed}

-- ---- records

nothing : next_record default_config st.StartRecord [] [] [] ≡ None
unfolding next_record
nothing = refl

records_back : (rows : List (List Text)) → records_behind st.StartRecord (Some (text_of rows)) ≡ map (map trimmed) (map read_back rows)
records_back [] = behind_none st.StartRecord [] nothing
records_back (r ∷ rows) = behind_some st.StartRecord (row_text default_writer r ++ text_of rows) (read_back r, st.StartRecord, text_of rows) refl (read-write r (text_of rows)) ∙ ap (λ (t : List (List Text)). map trimmed (read_back r) ∷ t) (records_back rows)

-- ---- no byte order mark

no_mark : (names : List Text) (rest : Text) → strip_bom (row_text default_writer (codes "test" ∷ names) ++ rest) ≡ row_text default_writer (codes "test" ∷ names) ++ rest
unfolding csv_on_literals
no_mark names rest = refl

-- ---- the whole text

names_kept : (parts : Parts) (inputs : List EdgeId) → IsValid parts → Each (IsEdge parts) inputs → map trimmed (map (name_of parts.edges) inputs) ≡ map (name_of parts.edges) inputs
names_kept parts [] valid h = refl
names_kept parts (e ∷ inputs) valid h =
    let edge = h.0.0 in
    let named : IsName edge.name = subst (λ (x : Edge). IsName x.name) (get_or_from_slice_get parts.edges e.0 edge edge h.0.1) (valid.names e.0 edge (slice_get_within parts.edges e.0 edge h.0.1)) in
    let is : name_of parts.edges e ≡ edge.name = rw h.0.1 refl in
    let one : trimmed (name_of parts.edges e) ≡ name_of parts.edges e = rw is (kept edge.name (printed_solid edge.name named.printable)) in
    ap₂ (λ (x : Text) (y : List Text). x ∷ y) one (names_kept parts inputs valid h.1)

abbrev cleaned : List (List Text) → List (List Text)
cleaned records = map (map trimmed) (map read_back records)

cleaned_append : (a b : List (List Text)) → cleaned (a ++ b) ≡ cleaned a ++ cleaned b
cleaned_append [] b = refl
cleaned_append (r ∷ a) b = ap (λ t. map trimmed (read_back r) ∷ t) (cleaned_append a b)

lines_kept : (parts : Parts) (name : Text) (rs : List (List Value)) → IsValid parts → is_name name ≡ true → Each (AreTyped parts parts.inputs) rs → cleaned (lines parts name rs) ≡ lines parts name rs
lines_kept parts name [] valid named h = refl
lines_kept parts name (r ∷ rs) valid named h =
    ap₂ (λ (x : List Text) (y : List (List Text)). x ∷ y)
    (ap₂ (λ (x : Text) (y : List Text). x ∷ y) (kept name (name_solid name named)) (texts_kept parts parts.inputs r valid h.0))
    (lines_kept parts name rs valid named h.1)

tests_kept : (parts : Parts) (tests : List Test) → IsValid parts → AreWritable parts tests → cleaned (flat_map (test_records parts) tests) ≡ flat_map (test_records parts) tests
tests_kept parts [] valid w = refl
tests_kept parts (test ∷ tests) valid w =
    cleaned_append (test_records parts test) (flat_map (test_records parts) tests)
    ∙ ap₂ (λ (x y : List (List Text)). x ++ y)
    (lines_kept parts test.name (rows (length parts.inputs) test.instants test.values) valid w.1 (rows_typed parts (rows (length parts.inputs) test.instants test.values) valid w.0.each))
    (tests_kept parts tests valid w.3)

header_kept : (parts : Parts) → IsValid parts → map trimmed (read_back (header_record parts)) ≡ header_record parts
header_kept parts valid = ap (λ (t : List Text). codes "test" ∷ t) (names_kept parts parts.inputs valid (inputs_are parts valid))

records_kept : (parts : Parts) (tests : List Test) → IsValid parts → AreWritable parts tests → suite_records (suite_text parts tests) ≡ written_records parts tests
records_kept parts tests valid w =
    let text = suite_text parts tests in
    let plain : strip_bom text ≡ text = no_mark (input_names parts) (text_of (flat_map (test_records parts) tests)) in
    ap (λ (t : Text). records_behind st.StartRecord (Some t)) (ap strip_bom plain ∙ plain)
    ∙ (records_back (written_records parts tests) ∙ ap₂ (λ (x : List Text) (y : List (List Text)). x ∷ y) (header_kept parts valid) (tests_kept parts tests valid w))

-- ---- the records that are written hold the tests

dropped : {A : Type 0} (xs : List A) (k : ℕ) (y : A) (ys : List A) → drop k xs ≡ y ∷ ys → (slice_get xs k ≡ Some y) × (drop (suc k) xs ≡ ys)
dropped [] zero y ys e = absurd (cc e)
dropped [] (suc k) y ys e = absurd (cc e)
dropped (x ∷ xs) zero y ys e = let q : x ≡ y = cc e in let r : xs ≡ ys = cc e in (ap (λ t. Some t) q, r)
dropped (x ∷ xs) (suc k) y ys e = dropped xs k y ys e

gives_from : (parts : Parts) (names all : List Text) (k : ℕ) (inputs : List EdgeId) (vs : List Value) → IsValid parts → AreTyped parts inputs vs → drop k names ≡ map (name_of parts.edges) inputs
    → drop (suc k) all ≡ texts_of parts inputs vs → AllZip (Gives parts names all) inputs vs
gives_from parts names all k [] [] valid h n t = tt
gives_from parts names all k [] (v ∷ vs) valid h n t = absurd h
gives_from parts names all k (e ∷ inputs) [] valid h n t = absurd h
gives_from parts names all k (e ∷ inputs) (v ∷ vs) valid h n t =
    let name = dropped names k (name_of parts.edges e) (map (name_of parts.edges) inputs) n in
    let text = dropped all (suc k) (value_text parts (type_at parts.edges e.0) v) (texts_of parts inputs vs) t in
    let here : Gives parts names all e v
    = record { column = k; field = value_text parts (type_at parts.edges e.0) v; named = name.0; there = text.0; read = value_back parts (type_at parts.edges e.0) v valid h.0 } in
    (here, gives_from parts names all (suc k) inputs vs valid h.1 name.1 text.1)

instant_written : (parts : Parts) (name : Text) (v : List Value) → IsValid parts → AreTyped parts parts.inputs v → IsInstant parts (input_names parts) (name, v) (instant_record parts name v)
instant_written parts name v valid typed =
    let size = typed_size parts parts.inputs v typed in
    record {
      width = omega (arith, size.1, size_map (name_of parts.edges) parts.inputs);
      name = refl;
      values = gives_from parts (input_names parts) (instant_record parts name v) 0 parts.inputs v valid typed refl refl;
    }

lines_written : (parts : Parts) (name : Text) (rs : List (List Value)) → IsValid parts → Each (AreTyped parts parts.inputs) rs
    → AllZip (IsInstant parts (input_names parts)) (map (λ values. (name, values)) rs) (lines parts name rs)
lines_written parts name [] valid h = tt
lines_written parts name (r ∷ rs) valid h = (instant_written parts name r valid h.0, lines_written parts name rs valid h.1)

zip_join : {A B : Type 0} (R : A → B → Type 0) (xs ys : List A) (zs ws : List B) → AllZip R xs zs → AllZip R ys ws → AllZip R (xs ++ ys) (zs ++ ws)
zip_join R [] ys [] ws a b = b
zip_join R [] ys (z ∷ zs) ws a b = absurd a
zip_join R (x ∷ xs) ys [] ws a b = absurd a
zip_join R (x ∷ xs) ys (z ∷ zs) ws a b = (a.0, zip_join R xs ys zs ws a.1 b)

all_written : (parts : Parts) (tests : List Test) → IsValid parts → AreWritable parts tests
    → AllZip (IsInstant parts (input_names parts)) (all_instants parts tests) (flat_map (test_records parts) tests)
all_written parts [] valid w = tt
all_written parts (test ∷ tests) valid w =
    let these = rows (length parts.inputs) test.instants test.values in
    zip_join (IsInstant parts (input_names parts)) (instants parts test) (all_instants parts tests) (test_records parts test) (flat_map (test_records parts) tests)
    (lines_written parts test.name these valid (rows_typed parts these valid w.0.each)) (all_written parts tests valid w.3)

own_columns : (parts : Parts) → IsValid parts → AreColumns parts (input_names parts)
own_columns parts valid = record {
  known = λ k d within. Contains-get_or (input_names parts) k d within;
  once = pairs_apart (input_names parts) (differ_from parts parts.inputs valid (inputs_are parts valid) valid.inputs.order);
  each = λ k d within. Contains-get_or (input_names parts) k d within;
}

pub read_again : IsReadAgain
read_again parts tests valid suite =
    let w = (readable parts tests suite).0 in
    accepted parts (suite_text parts tests) tests valid suite (record {
      columns = input_names parts;
      body = flat_map (test_records parts) tests;
      header = records_kept parts tests valid w;
      inputs = own_columns parts valid;
      each = all_written parts tests valid w;
    })
