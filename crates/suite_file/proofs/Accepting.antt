-- Records that hold tests are taken as these tests.
use Rattle.std.proofs.Common.{◌≡◌, ◌≢◌, ◌<◌, ◌≤◌, ◌+◌, ◌∙◌, ℕ, zero, suc, Bool, true, false, cond, nat_eq, List, [], ◌∷◌, ◌++◌, length, map, drop, Option, Some, None, Ok, refl, sym, ap, ap₂, subst, arith, codes, AllPairs, slice_index_or}
use Rattle.std.specs.Prelude.{slice_get}
use Rattle.std.specs.List.{AllZip, Contains}
use Rattle.std.specs.Option.{is_some}
use Rattle.std.specs.Str.{bytes_eq}
use Rattle.std.proofs.lemmas.Bool.{eq-eqb}
use Rattle.op_network.specs.Run.{rows}
use Rattle.op_network.specs.Valid.{IsValid, FitsTest}
use Rattle.op_network.specs.declared.edge.Edge.{Edge}
use Rattle.op_network.specs.declared.edge.EdgeId.{EdgeId}
use Rattle.op_network.specs.declared.edge.Parts.{Parts}
use Rattle.op_network.specs.declared.test.Test.{Test}
use Rattle.op_network.specs.declared.value.Ty.{Ty}
use Rattle.op_network.specs.declared.value.Value.{Value}
use Rattle.suite_file.specs.declared.header.Layout.{Layout}
use Rattle.suite_file.specs.Meaning.{AreColumns, Gives, IsAccepted, IsInstant, all_instants, instants}
use Rattle.suite_file.specs.Records.{Text}
use Rattle.suite_file.specs.Suites.{all_tests, arranged, cells_from, columns_from, first_instant, has_ended, input_names, inputs_of, is_full, is_name, layout_of, longer, name_of, places_from, so_far, tests_from, tests_of, type_at, type_named, types_of, with_instant, with_record}
use Rattle.suite_file.specs.Tables.{Numbering, number_of}
use Rattle.suite_file.specs.Values.{value_of}
use Rattle.suite_file.proofs.Digits.{beyond}
use Rattle.suite_file.proofs.Ended.{ended_last}
use Rattle.suite_file.proofs.Places.{length_last}
use Rattle.suite_file.proofs.Writable.{AreWritable, Each, each_from, instants_in, readable}
use Rattle.suite_file.proofs.ValuesBack.{other_text, same_text}
use Rattle.suite_file.proofs.Inputs.{Differ, append_assoc, append_none, columns_back, differ_from, each_all, each_both, each_map, inputs_are, numbered, own_entries, places_back}
use Rattle.suite_file.proofs.TestRows.{begins, fits_below, joined, rows_joined, rows_size, with_rows, with_rows_is}
use Rattle.suite_file.proofs.LayoutFits.{AreLaid, layout_laid}
use Rattle.suite_file.proofs.LayoutMeans.{AreRead, IsLayoutOf, all_given, behind_first, layout_means, layout_size}

-- ---- names and their places

each_at : {A : Type 0} (P : A → Type 0) (xs : List A) (k : ℕ) (y : A) → Each P xs → slice_get xs k ≡ Some y → P y
each_at P [] k y h e = absurd (cc e)
each_at P (x ∷ xs) zero y h e = let q : x ≡ y = cc e in subst P q h.0
each_at P (x ∷ xs) (suc k) y h e = each_at P xs k y h.1 e

pub differ_of : (names : List Text) → AllPairs (λ a b. a ≢ b) names → Differ names
differ_of [] h = tt
differ_of (x ∷ names) h =
    let others : Each (λ y. y ≢ x) names = each_from (λ y. y ≢ x) names (λ k d within e. h 0 (suc k) d (omega arith) (omega (arith, within)) (sym e)) in
    (others, differ_of names (λ i j d before within. h (suc i) (suc j) d (omega (arith, before)) (omega (arith, within))))

one_place : (names : List Text) (c d : ℕ) (n : Text) → Differ names → slice_get names c ≡ Some n → slice_get names d ≡ Some n → c ≡ d
one_place [] c d n h a b = absurd (cc a)
one_place (x ∷ names) zero zero n h a b = refl
one_place (x ∷ names) zero (suc d) n h a b = let q : x ≡ n = cc a in absurd (each_at (λ y. y ≢ x) names d n h.0 b (sym q))
one_place (x ∷ names) (suc c) zero n h a b = let q : x ≡ n = cc b in absurd (each_at (λ y. y ≢ x) names c n h.0 a (sym q))
one_place (x ∷ names) (suc c) (suc d) n h a b = ap suc (one_place names c d n h.1 a b)

-- a record gives an input one value
gives_one : (parts : Parts) (names all : List Text) (e : EdgeId) (v w : Value) → Differ names → Gives parts names all e v → Gives parts names all e w → v ≡ w
gives_one parts names all e v w h a b =
    let same : a.column ≡ b.column = one_place names a.column b.column (name_of parts.edges e) h a.named b.named in
    let field : Some a.field ≡ Some b.field = sym a.there ∙ ap (λ c. slice_get all (suc c)) same ∙ b.there in
    let is : a.field ≡ b.field = cc field in
    let value : Some v ≡ Some w = sym a.read ∙ ap (λ f. value_of parts (type_at parts.edges e.0) f) is ∙ b.read in
    cc value

gives_all : (parts : Parts) (names all : List Text) (inputs : List EdgeId) (vs ws : List Value) → Differ names → AllZip (Gives parts names all) inputs vs → AllZip (Gives parts names all) inputs ws → vs ≡ ws
gives_all parts names all [] [] [] h a b = refl
gives_all parts names all [] [] (w ∷ ws) h a b = absurd b
gives_all parts names all [] (v ∷ vs) ws h a b = absurd a
gives_all parts names all (e ∷ inputs) [] ws h a b = absurd a
gives_all parts names all (e ∷ inputs) (v ∷ vs) [] h a b = absurd b
gives_all parts names all (e ∷ inputs) (v ∷ vs) (w ∷ ws) h a b = ap₂ (λ (x : Value) (y : List Value). x ∷ y) (gives_one parts names all e v w h a.0 b.0) (gives_all parts names all inputs vs ws h a.1 b.1)

-- ---- the header

pub known_at : (edges : List Edge) (inputs : List EdgeId) (name : Text) (k : ℕ) → k < length (map (name_of edges) inputs) → slice_index_or (map (name_of edges) inputs) k name ≡ name
    → is_some (number_of (map (λ (e : EdgeId). (name_of edges e, e.0)) inputs) name) ≡ true
known_at edges [] name k w h = absurd (omega (arith, w))
known_at edges (d ∷ inputs) name zero w h = rw (same_text name (name_of edges d) (sym h)) refl
known_at edges (d ∷ inputs) name (suc k) w h = go (bytes_eq name (name_of edges d)) (known_at edges inputs name k (omega (arith, w)) h)
  where
    go : (b : Bool) → is_some (number_of (map (λ (e : EdgeId). (name_of edges e, e.0)) inputs) name) ≡ true → is_some (cond b (Some d.0) (number_of (map (λ (e : EdgeId). (name_of edges e, e.0)) inputs) name)) ≡ true
    go true m = refl
    go false m = m

pub number_at : (k : ℕ) (names : List Text) (name : Text) (j : ℕ) → j < length names → slice_index_or names j name ≡ name → (p : ℕ) × (number_of (numbered k names) name ≡ Some p)
number_at k [] name j w h = absurd (omega (arith, w))
number_at k (x ∷ names) name zero w h = (k, rw (same_text name x (sym h)) refl)
number_at k (x ∷ names) name (suc j) w h = go (bytes_eq name x) (number_at (suc k) names name j (omega (arith, w)) h)
  where
    go : (b : Bool) → ((p : ℕ) × (number_of (numbered (suc k) names) name ≡ Some p)) → (p : ℕ) × (cond b (Some k) (number_of (numbered (suc k) names) name) ≡ Some p)
    go true m = (k, refl)
    go false m = m

all_placed : (names wanted : List Text) → Each (Contains names) wanted → (ps : List ℕ) × (map (number_of (numbered 0 names)) wanted ≡ map (λ k. Some k) ps)
all_placed names [] h = ([], refl)
all_placed names (x ∷ wanted) h =
    let one = number_at 0 names x h.0.0 h.0.1 h.0.2 in
    let more = all_placed names wanted h.1 in
    (one.0 ∷ more.0, ap₂ (λ (a : Option ℕ) (b : List (Option ℕ)). a ∷ b) one.1 more.1)

pub layout_taken : (parts : Parts) (names : List Text) → AreColumns parts names → (taken : Layout) × (layout_of parts (codes "test" ∷ names) ≡ Ok taken)
layout_taken parts names h =
    let known = each_map (Contains (input_names parts)) (λ n. is_some (number_of (inputs_of parts) n) ≡ true) names (λ n k. known_at parts.edges parts.inputs n k.0 k.1 k.2) (each_from (Contains (input_names parts)) names h.known) in
    let new = each_all (λ n. number_of [] n ≡ None) names (λ n. refl) in
    let columns : columns_from (inputs_of parts) [] 1 names ≡ Ok (numbered 0 names) = columns_back (inputs_of parts) [] 1 names known new (differ_of names h.once) in
    let p = all_placed names (input_names parts) (each_from (Contains names) (input_names parts) h.each) in
    let places : places_from (numbered 0 names) [] (input_names parts) ≡ Some p.0 = places_back (numbered 0 names) [] (input_names parts) p.0 p.1 in
    (record { types = types_of parts (numbered 0 names); places = p.0 }, rw (columns, places) refl)

-- ---- a record

pub cells_exist : (parts : Parts) (before : List Value) (c : ℕ) (types : List Ty) (fields : List Text) → length fields ≡ length types
    → ((k : ℕ) (ty : Ty) (field : Text) → slice_get types k ≡ Some ty → slice_get fields k ≡ Some field → (v : Value) × (value_of parts ty field ≡ Some v))
    → (vs : List Value) × (cells_from parts before c types fields ≡ Ok (before ++ vs)) × AreRead parts types fields vs
cells_exist parts before c [] fields s h = ([], ap (λ t. Ok t) (sym (append_none before)), tt)
cells_exist parts before c (ty ∷ types) [] s h = absurd (omega (arith, s))
cells_exist parts before c (ty ∷ types) (field ∷ fields) s h =
    let v = h 0 ty field refl refl in
    let m = cells_exist parts (before ++ v.0 ∷ []) (suc c) types fields (omega (arith, s)) (λ k t f a b. h (suc k) t f a b) in
    (v.0 ∷ m.0, rw v.1 (m.1 ∙ ap (λ t. Ok t) (append_assoc before (v.0 ∷ []) m.0)), (v.1, m.2))

pub column_type : (parts : Parts) (j : ℕ) (names : List Text) (k : ℕ) (ty : Ty) → slice_get (types_of parts (numbered j names)) k ≡ Some ty → (n : Text) × (slice_get names k ≡ Some n) × (type_named parts n ≡ ty)
column_type parts j [] k ty e = absurd (cc e)
column_type parts j (x ∷ names) zero ty e = (x, refl, cc e)
column_type parts j (x ∷ names) (suc k) ty e = column_type parts (suc j) names k ty e

-- an input of this name, and the value that a record gives it
given_for : (parts : Parts) (names all : List Text) (table : Numbering) (inputs : List EdgeId) (vs : List Value) (n : Text) (k : ℕ) → k < length (map (name_of parts.edges) inputs)
    → slice_index_or (map (name_of parts.edges) inputs) k n ≡ n → map (number_of table) (map (name_of parts.edges) inputs) ≡ map (λ (e : EdgeId). Some e.0) inputs → AllZip (Gives parts names all) inputs vs
    → (e : EdgeId) × (v : Value) × (name_of parts.edges e ≡ n) × (number_of table (name_of parts.edges e) ≡ Some e.0) × Gives parts names all e v
given_for parts names all table [] vs n k w h own z = absurd (omega (arith, w))
given_for parts names all table (d ∷ inputs) [] n k w h own z = absurd z
given_for parts names all table (d ∷ inputs) (v ∷ vs) n zero w h own z = let edge : number_of table (name_of parts.edges d) ≡ Some d.0 = cc own in (d, v, h, edge, z.0)
given_for parts names all table (d ∷ inputs) (v ∷ vs) n (suc k) w h own z =
    let others : map (number_of table) (map (name_of parts.edges) inputs) ≡ map (λ (e : EdgeId). Some e.0) inputs = cc own in
    given_for parts names all table inputs vs n k (omega (arith, w)) h others z.1

-- what is known of the columns
pub record Ground (parts : Parts) (names : List Text) (taken : Layout) : Type 0 where
  pub valid : IsValid parts
  pub columns : AreColumns parts names
  pub layout : IsLayoutOf parts names taken
  pub laid : AreLaid parts taken.types parts.inputs taken.places

-- the field of a column names a value
cell_exists : (parts : Parts) (names : List Text) (taken : Layout) (all : List Text) (vs : List Value) → Ground parts names taken → AllZip (Gives parts names all) parts.inputs vs
    → (k : ℕ) (ty : Ty) (field : Text) → slice_get taken.types k ≡ Some ty → slice_get (drop 1 all) k ≡ Some field → (v : Value) × (value_of parts ty field ≡ Some v)
cell_exists parts names taken all vs g z k ty field a b =
    let t = column_type parts 0 names k ty (subst (λ (ts : List Ty). slice_get ts k ≡ Some ty) g.layout.types a) in
    let differ = differ_from parts parts.inputs g.valid (inputs_are parts g.valid) g.valid.inputs.order in
    let input = each_at (Contains (input_names parts)) names k t.0 (each_from (Contains (input_names parts)) names g.columns.known) t.1 in
    let i = given_for parts names all (inputs_of parts) parts.inputs vs t.0 input.0 input.1 input.2 (own_entries parts.edges parts.inputs differ) z in
    let gives = i.4 in
    let there : slice_get names gives.column ≡ Some t.0 = gives.named ∙ ap (λ n. Some n) i.2 in
    let same : gives.column ≡ k = one_place names gives.column k t.0 (differ_of names g.columns.once) there t.1 in
    let fields : Some gives.field ≡ Some field = sym gives.there ∙ ap (λ c. slice_get all (suc c)) same ∙ behind_first all k ∙ b in
    let is : gives.field ≡ field = cc fields in
    let typed : type_named parts (name_of parts.edges i.0) ≡ type_at parts.edges i.0.0 = rw i.3 refl in
    let type : type_at parts.edges i.0.0 ≡ ty = sym typed ∙ ap (type_named parts) i.2 ∙ t.2 in
    (i.1, subst (λ (x : Ty). value_of parts x field ≡ Some i.1) type (subst (λ f. value_of parts (type_at parts.edges i.0.0) f ≡ Some i.1) is gives.read))

one_taken : (parts : Parts) (names : List Text) (taken : Layout) (row : ℕ) (ended : List Test) (current : Option Test) (name : Text) (v : List Value) (fields : List Text) → Ground parts names taken
    → IsInstant parts names (name, v) fields → is_name name ≡ true → has_ended ended name ≡ false → is_full ended current name ≡ false → row ≤ 7400000
    → with_record parts taken row (so_far ended current) fields ≡ Ok (with_instant ended current name v)
one_taken parts names taken row ended current name v [] g i named fresh room few = let bad : None ≡ Some name = i.name in absurd (cc bad)
one_taken parts names taken row ended current name v (x ∷ rest) g i named fresh room few =
    let first : Some x ≡ Some name = i.name in
    let q : name ≡ x = sym (cc first) in
    let size = layout_size parts names taken g.layout in
    let wide : nat_eq (length (x ∷ rest)) (length taken.types + 1) ≡ true = eq-eqb (length (x ∷ rest)) (length taken.types + 1) (omega (arith, i.width, size)) in
    let cells = cells_exist parts [] 1 taken.types rest (omega (arith, i.width, size)) (cell_exists parts names taken (x ∷ rest) v g i.values) in
    let order : arranged taken.places cells.0 ≡ v
    = gives_all parts names (x ∷ rest) parts.inputs (arranged taken.places cells.0) v (differ_of names g.columns.once)
    (all_given parts names (x ∷ rest) taken.types cells.0 parts.inputs taken.places cells.2 g.laid g.layout.numbers) i.values in
    let named_x : is_name x ≡ true = subst (λ n. is_name n ≡ true) q named in
    let fresh_x : has_ended ended x ≡ false = subst (λ n. has_ended ended n ≡ false) q fresh in
    let room_x : is_full ended current x ≡ false = subst (λ n. is_full ended current n ≡ false) q room in
    let read : cells_from parts [] 1 taken.types rest ≡ Ok cells.0 = cells.1 in
    let done : with_record parts taken row (so_far ended current) (x ∷ rest) ≡ Ok (with_instant ended current x v) = rw (wide, named_x, fresh_x, read, room_x, beyond (suc 7400000) row (omega (arith, few)), order) refl in
    done ∙ ap (λ n. Ok (with_instant ended current n v)) (sym q)

-- ---- tests

pub zip_split : {A B : Type 0} (R : A → B → Type 0) (xs ys : List A) (zs : List B) → AllZip R (xs ++ ys) zs → (front : List B) × (back : List B) × (zs ≡ front ++ back) × AllZip R xs front × AllZip R ys back
zip_split R [] ys zs h = ([], zs, refl, tt, h)
zip_split R (x ∷ xs) ys [] h = absurd h
zip_split R (x ∷ xs) ys (z ∷ zs) h = let m = zip_split R xs ys zs h.1 in (z ∷ m.0, m.1, ap (λ t. z ∷ t) m.2, (h.0, m.3), m.4)

rest_taken : (parts : Parts) (names : List Text) (taken : Layout) (row : ℕ) (ended : List Test) (test : Test) (vs : List (List Value)) (front records : List (List Text)) → Ground parts names taken
    → AllZip (IsInstant parts names) (map (λ values. (test.name, values)) vs) front → is_name test.name ≡ true → has_ended ended test.name ≡ false → row + length vs ≤ 7400001
    → tests_from parts taken row (so_far ended (Some test)) (front ++ records) ≡ tests_from parts taken (row + length vs) (so_far ended (Some (with_rows test vs))) records
rest_taken parts names taken row ended test [] [] records g z named fresh few = let same : row + 0 ≡ row = omega arith in rw same refl
rest_taken parts names taken row ended test [] (f ∷ front) records g z named fresh few = absurd z
rest_taken parts names taken row ended test (v ∷ vs) [] records g z named fresh few = absurd z
rest_taken parts names taken row ended test (v ∷ vs) (f ∷ front) records g z named fresh few =
    let here : bytes_eq test.name test.name ≡ true = same_text test.name test.name refl in
    let room : is_full ended (Some test) test.name ≡ false = rw here refl in
    let first : with_record parts taken row (so_far ended (Some test)) f ≡ Ok (so_far ended (Some (longer test v)))
    = one_taken parts names taken row ended (Some test) test.name v f g z.0 named fresh room (omega (arith, few)) ∙ rw here refl in
    let next : suc row + length vs ≡ row + length (v ∷ vs) = omega arith in
    rw (first, ← next) (rest_taken parts names taken (suc row) ended (longer test v) vs front records g z.1 named fresh (omega (arith, few)))

pub test_taken : (parts : Parts) (names : List Text) (taken : Layout) (row : ℕ) (ended : List Test) (current : Option Test) (test : Test) (front records : List (List Text)) → Ground parts names taken
    → AllZip (IsInstant parts names) (instants parts test) front → FitsTest parts test → is_name test.name ≡ true
    → has_ended (all_tests ended current) test.name ≡ false → length (all_tests ended current) < 210000 → row + test.instants ≤ 7400001
    → tests_from parts taken row (so_far ended current) (front ++ records) ≡ tests_from parts taken (row + test.instants) (so_far (all_tests ended current) (Some test)) records
test_taken parts names taken row ended current test front records g z fits named fresh room few =
    go (rows (length parts.inputs) test.instants test.values) refl front z
  where
    go : (rs : List (List Value)) → rows (length parts.inputs) test.instants test.values ≡ rs → (front : List (List Text)) → AllZip (IsInstant parts names) (map (λ values. (test.name, values)) rs) front
        → tests_from parts taken row (so_far ended current) (front ++ records) ≡ tests_from parts taken (row + test.instants) (so_far (all_tests ended current) (Some test)) records
    go [] e front z = absurd (omega (arith, rows_size (length parts.inputs) test.instants test.values, ap length e, fits.some))
    go (v ∷ vs) e [] z = absurd z
    go (v ∷ vs) e (f ∷ front) z =
        let size : suc (length vs) ≡ test.instants = sym (ap length e) ∙ rows_size (length parts.inputs) test.instants test.values in
        let all : v ++ joined vs ≡ test.values = sym (ap joined e) ∙ rows_joined (length parts.inputs) test.instants test.values fits.size in
        let b = begins ended current test.name v fresh in
        let first : with_record parts taken row (so_far ended current) f ≡ Ok (so_far (all_tests ended current) (Some (first_instant test.name v)))
        = one_taken parts names taken row ended current test.name v f g z.0 named b.1 (fits_below ended current test.name room) (omega (arith, few, size)) ∙ ap (λ t. Ok t) b.0 in
        let one : 1 + length vs ≡ test.instants = omega (arith, size) in
        let whole : with_rows (first_instant test.name v) vs ≡ test = with_rows_is (first_instant test.name v) vs ∙ ap₂ (λ (i : ℕ) (x : List Value). record test { instants = i; values = x }) one all in
        let last : suc row + length vs ≡ row + test.instants = omega (arith, size) in
        rw first (rest_taken parts names taken (suc row) (all_tests ended current) (first_instant test.name v) vs front records g z.1 named fresh (omega (arith, few, size))
        ∙ ap₂ (λ (r : ℕ) (t : Test). tests_from parts taken r (so_far (all_tests ended current) (Some t)) records) last whole)

all_taken : (parts : Parts) (names : List Text) (taken : Layout) (row : ℕ) (ended : List Test) (current : Option Test) (tests : List Test) (body : List (List Text)) → Ground parts names taken
    → AllZip (IsInstant parts names) (all_instants parts tests) body → AreWritable parts tests
    → Each (λ (test : Test). has_ended (all_tests ended current) test.name ≡ false) tests → length (all_tests ended current) + length tests ≤ 210000 → row + instants_in tests ≤ 7400001
    → tests_from parts taken row (so_far ended current) body ≡ Ok (all_tests ended current ++ tests)
all_taken parts names taken row ended current [] [] g z w fresh room few = ap (λ t. Ok t) (sym (append_none (all_tests ended current)))
all_taken parts names taken row ended current [] (f ∷ body) g z w fresh room few = absurd z
all_taken parts names taken row ended current (test ∷ tests) body g z w fresh room few =
    let before = all_tests ended current in
    let later : Each (λ (other : Test). has_ended (before ++ test ∷ []) other.name ≡ false) tests
    = each_map (λ (other : Test). (has_ended before other.name ≡ false) × (other.name ≢ test.name)) (λ (other : Test). has_ended (before ++ test ∷ []) other.name ≡ false) tests
    (λ other p. ended_last before test other.name ∙ rw (p.0, other_text other.name test.name p.1) refl)
    (each_both (λ (other : Test). has_ended before other.name ≡ false) (λ (other : Test). other.name ≢ test.name) tests fresh.1 w.2) in
    let m = zip_split (IsInstant parts names) (instants parts test) (all_instants parts tests) body z in
    ap (λ (r : List (List Text)). tests_from parts taken row (so_far ended current) r) m.2
    ∙ test_taken parts names taken row ended current test m.0 m.1 g m.3 w.0 w.1 fresh.0 (omega (arith, room)) (omega (arith, few))
    ∙ (all_taken parts names taken (row + test.instants) before (Some test) tests m.1 g m.4 w.3 later (omega (arith, room, length_last before test)) (omega (arith, few))
    ∙ ap (λ t. Ok t) (append_assoc before (test ∷ []) tests))

-- ---- the whole

pub accepted : IsAccepted
accepted parts bytes tests valid suite h =
    let within_limits = readable parts tests suite in
    let w = within_limits.0 in let few = within_limits.1 in let short = within_limits.2 in
    let l = layout_taken parts h.columns h.inputs in
    let m = layout_means parts (codes "test" ∷ h.columns) l.0 l.1 in
    let same : m.0 ≡ h.columns = cc (sym m.1) in
    let layout : IsLayoutOf parts h.columns l.0 = subst (λ n. IsLayoutOf parts n l.0) same m.2 in
    let g : Ground parts h.columns l.0 = record { valid = valid; columns = h.inputs; layout = layout; laid = layout_laid parts (codes "test" ∷ h.columns) l.0 valid l.1 } in
    ap (λ (r : List (List Text)). tests_of parts r) h.header
    ∙ rw l.1 (all_taken parts h.columns l.0 1 [] None tests h.body g h.each w (each_all (λ (test : Test). has_ended [] test.name ≡ false) tests (λ test. refl)) (omega (arith, few)) (omega (arith, short)))
