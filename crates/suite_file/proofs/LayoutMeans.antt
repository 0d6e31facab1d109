-- What the header and the cells that are taken mean.
use Rattle.std.proofs.Common.{◌≡◌, ◌≢◌, ◌+◌, ◌∙◌, ℕ, zero, suc, Bool, true, false, cond, List, [], ◌∷◌, ◌++◌, length, map, drop, Option, Some, None, Ok, Err, refl, sym, ap, subst, arith, codes, get_or, AllPairs}
use Rattle.std.specs.Prelude.{Result, slice_get}
use Rattle.std.specs.List.{AllZip, Contains}
use Rattle.std.specs.Option.{is_some, option_map_or, option_or}
use Rattle.std.specs.Str.{bytes_eq}
use Rattle.std.proofs.lemmas.Bool.{false≢true}
use Rattle.std.proofs.lemmas.List.Kept.{AllPairs-cons}
use Rattle.std.proofs.lemmas.Option.{slice_get_within, get_or_from_slice_get}
use Rattle.std.proofs.lemmas.Slice.Eq.{bytes_eq-Decides}
use Rattle.op_network.specs.declared.edge.Edge.{Edge}
use Rattle.op_network.specs.declared.edge.EdgeId.{EdgeId}
use Rattle.op_network.specs.declared.edge.Parts.{Parts}
use Rattle.op_network.specs.declared.value.Ty.{Ty}
use Rattle.op_network.specs.declared.value.Value.{Value}
use Rattle.op_network.specs.declared.value.Value.TheVariants.{Truth}
use Rattle.suite_file.specs.declared.fault.SuiteFault.{SuiteFault}
use Rattle.suite_file.specs.declared.fault.SuiteFault.TheVariants as fault
use Rattle.suite_file.specs.declared.fault.SuiteKind.TheVariants as kind
use Rattle.suite_file.specs.declared.header.Layout.{Layout}
use Rattle.suite_file.specs.Meaning.{AreColumns, Gives}
use Rattle.suite_file.specs.Records.{Text}
use Rattle.suite_file.specs.Suites.{and_then, arranged, cells_from, columns_from, input_names, inputs_of, layout_of, layout_under, name_of, places_from, type_at, types_of}
use Rattle.suite_file.specs.Tables.{Numbering, number_of}
use Rattle.suite_file.specs.Values.{value_of}
use Rattle.suite_file.proofs.Places.{length_last}
use Rattle.suite_file.proofs.Tables.{number_append}
use Rattle.suite_file.proofs.Writable.{Each, all_from}
use Rattle.suite_file.proofs.ValuesBack.{same_text}
use Rattle.suite_file.proofs.Inputs.{Differ, append_assoc, append_none, each_map, numbered}
use Rattle.suite_file.proofs.LayoutFits.{AreLaid, places_are}

-- ---- the columns of a header that is taken

not_first : (before : Numbering) (name m : Text) (k : ℕ) → number_of (before ++ (name, k) ∷ []) m ≡ None → (number_of before m ≡ None) × (m ≢ name)
not_first before name m k h = go (number_of before m) (bytes_eq m name) refl refl (sym (number_append before ((name, k) ∷ []) m) ∙ h)
  where
    go : (o : Option ℕ) (b : Bool) → number_of before m ≡ o → bytes_eq m name ≡ b → option_or o (cond b (Some k) None) ≡ None → (number_of before m ≡ None) × (m ≢ name)
    go None false p q f = (p, λ e. absurd (false≢true (sym q ∙ same_text m name e)))
    go None true p q f = absurd (cc f)
    go (Some j) b p q f = absurd (cc f)

-- what columns that were read are
abbrev pub Read : Numbering → Numbering → List Text → Numbering → Type 0
Read inputs before names columns = (columns ≡ before ++ numbered (length before) names) × Each (λ name. is_some (number_of inputs name) ≡ true) names × Each (λ name. number_of before name ≡ None) names × Differ names

pub columns_are : (inputs before : Numbering) (c : ℕ) (names : List Text) (columns : Numbering) → columns_from inputs before c names ≡ Ok columns → Read inputs before names columns
columns_are inputs before c [] columns e = let q : before ≡ columns = cc e in (sym (append_none before ∙ q), tt, tt, tt)
columns_are inputs before c (name ∷ names) columns e =
    go (is_some (number_of inputs name)) (number_of before name) refl refl (columns_are inputs (before ++ (name, length before) ∷ []) (suc c) names columns) e
  where
    more : is_some (number_of inputs name) ≡ true → number_of before name ≡ None → Read inputs (before ++ (name, length before) ∷ []) names columns → Read inputs before (name ∷ names) columns
    more known new r =
        let size : length (before ++ (name, length before) ∷ []) ≡ suc (length before) = omega (arith, length_last before (name, length before)) in
        let apart = each_map (λ m. number_of (before ++ (name, length before) ∷ []) m ≡ None) (λ m. (number_of before m ≡ None) × (m ≢ name)) names (λ m h. not_first before name m (length before) h) r.2 in
        let old = each_map (λ m. (number_of before m ≡ None) × (m ≢ name)) (λ m. number_of before m ≡ None) names (λ m h. h.0) apart in
        let others = each_map (λ m. (number_of before m ≡ None) × (m ≢ name)) (λ m. m ≢ name) names (λ m h. h.1) apart in
        (r.0 ∙ rw size (append_assoc before ((name, length before) ∷ []) (numbered (suc (length before)) names)), (known, r.1), (new, old), (others, r.3))

    go : (a : Bool) (o : Option ℕ) → is_some (number_of inputs name) ≡ a → number_of before name ≡ o
        → (columns_from inputs (before ++ (name, length before) ∷ []) (suc c) names ≡ Ok columns → Read inputs (before ++ (name, length before) ∷ []) names columns)
        → option_map_or (λ k. Err (fault.Bad 0 c k)) (cond a (cond (is_some o) (Some kind.RepeatedColumn) None) (Some kind.UnknownColumn)) (columns_from inputs (before ++ (name, length before) ∷ []) (suc c) names) ≡ Ok columns
        → Read inputs before (name ∷ names) columns
    go true None p q ih f = more p q (ih f)
    go true (Some k) p q ih f = absurd (cc f)
    go false None p q ih f = absurd (cc f)
    go false (Some k) p q ih f = absurd (cc f)

named_at : (k : ℕ) (names : List Text) (name : Text) (p : ℕ) → number_of (numbered k names) name ≡ Some p → (j : ℕ) × (p ≡ k + j) × (slice_get names j ≡ Some name)
named_at k [] name p e = absurd (cc e)
named_at k (x ∷ names) name p e = go (bytes_eq name x) refl (named_at (suc k) names name p) e
  where
    go : (b : Bool) → bytes_eq name x ≡ b → (number_of (numbered (suc k) names) name ≡ Some p → (j : ℕ) × (p ≡ suc k + j) × (slice_get names j ≡ Some name))
        → cond b (Some k) (number_of (numbered (suc k) names) name) ≡ Some p → (j : ℕ) × (p ≡ k + j) × (slice_get (x ∷ names) j ≡ Some name)
    go true q ih f =
        let here : k ≡ p = cc f in
        let same : name ≡ x = (bytes_eq-Decides name x).0 q in
        (0, omega (arith, here), ap (λ t. Some t) (sym same))
    go false q ih f = let m = ih f in (suc m.0, omega (arith, m.1), m.2)

-- the column of a name stands at its number
pub named_here : (names : List Text) (name : Text) (p : ℕ) → number_of (numbered 0 names) name ≡ Some p → slice_get names p ≡ Some name
named_here names name p e =
    let m = named_at 0 names name p e in
    let same : m.0 ≡ p = omega (arith, m.1) in
    subst (λ j. slice_get names j ≡ Some name) same m.2

pub known_input : (edges : List Edge) (inputs : List EdgeId) (name : Text) → is_some (number_of (map (λ (e : EdgeId). (name_of edges e, e.0)) inputs) name) ≡ true → Contains (map (name_of edges) inputs) name
known_input edges [] name e = absurd (false≢true e)
known_input edges (d ∷ inputs) name e = go (bytes_eq name (name_of edges d)) refl (known_input edges inputs name) e
  where
    go : (b : Bool) → bytes_eq name (name_of edges d) ≡ b → (is_some (number_of (map (λ (e : EdgeId). (name_of edges e, e.0)) inputs) name) ≡ true → Contains (map (name_of edges) inputs) name)
        → is_some (cond b (Some d.0) (number_of (map (λ (e : EdgeId). (name_of edges e, e.0)) inputs) name)) ≡ true → Contains (name_of edges d ∷ map (name_of edges) inputs) name
    go true q ih f = (0, omega arith, sym ((bytes_eq-Decides name (name_of edges d)).0 q))
    go false q ih f = let m = ih f in (suc m.0, omega (arith, m.1), m.2)

each_has : (names wanted : List Text) (ps : List ℕ) → map (number_of (numbered 0 names)) wanted ≡ map (λ k. Some k) ps → Each (Contains names) wanted
each_has names [] ps e = tt
each_has names (x ∷ wanted) [] e = absurd (cc e)
each_has names (x ∷ wanted) (p ∷ ps) e =
    let there : number_of (numbered 0 names) x ≡ Some p = cc e in
    let more : map (number_of (numbered 0 names)) wanted ≡ map (λ k. Some k) ps = cc e in
    let at = named_here names x p there in
    ((p, slice_get_within names p x at, get_or_from_slice_get names p x x at), each_has names wanted ps more)

pub pairs_apart : (names : List Text) → Differ names → AllPairs (λ a b. a ≢ b) names
pairs_apart [] d = λ i j x before within. absurd (omega (arith, within))
pairs_apart (x ∷ names) d = AllPairs-cons (λ a b. a ≢ b) x names (λ k y within e. all_from (λ z. z ≢ x) names d.0 k y within (sym e)) (pairs_apart names d.1)

-- a layout is that of these columns
pub record IsLayoutOf (parts : Parts) (names : List Text) (taken : Layout) : Type 0 where
  pub columns : AreColumns parts names
  pub types : taken.types ≡ types_of parts (numbered 0 names)
  pub numbers : map (number_of (numbered 0 names)) (input_names parts) ≡ map (λ k. Some k) taken.places

pub layout_means : (parts : Parts) (header : List Text) (taken : Layout) → layout_of parts header ≡ Ok taken → (names : List Text) × (header ≡ codes "test" ∷ names) × IsLayoutOf parts names taken
layout_means parts [] taken e = absurd (cc e)
layout_means parts (first ∷ names) taken e = test (bytes_eq first (codes "test")) refl e
  where
    places : (columns : Numbering) → Read (inputs_of parts) [] names columns → (o : Option (List ℕ)) → places_from columns [] (input_names parts) ≡ o
        → and_then (λ places. Ok (record { types = types_of parts columns; places = places })) (option_map_or (λ places. Ok places) o (Err (fault.Bad 0 0 kind.MissingColumn))) ≡ Ok taken → IsLayoutOf parts names taken
    places columns r None q f = absurd (cc f)
    places columns r (Some ps) q f =
        let is : record { types = types_of parts columns; places = ps } ≡ taken = cc f in
        let p = places_are columns [] (input_names parts) ps q in
        let numbers : map (number_of (numbered 0 names)) (input_names parts) ≡ map (λ k. Some k) ps
        = subst (λ (c : Numbering). map (number_of c) (input_names parts) ≡ map (λ k. Some k) ps) r.0 (p.2 ∙ ap (λ (t : List ℕ). map (λ k. Some k) t) (sym p.1)) in
        subst (IsLayoutOf parts names) is (record {
          columns = record {
            known = all_from (Contains (input_names parts)) names (each_map (λ n. is_some (number_of (inputs_of parts) n) ≡ true) (Contains (input_names parts)) names (λ n h. known_input parts.edges parts.inputs n h) r.1);
            once = pairs_apart names r.3;
            each = all_from (Contains names) (input_names parts) (each_has names (input_names parts) ps numbers);
          };
          types = ap (types_of parts) r.0;
          numbers = numbers;
        })

    columns : (r : Result Numbering SuiteFault) → columns_from (inputs_of parts) [] 1 names ≡ r → and_then (layout_under parts) r ≡ Ok taken → IsLayoutOf parts names taken
    columns (Err x) q f = absurd (cc f)
    columns (Ok cs) q f = places cs (columns_are (inputs_of parts) [] 1 names cs q) (places_from cs [] (input_names parts)) refl f

    test : (t : Bool) → bytes_eq first (codes "test") ≡ t → cond t (and_then (layout_under parts) (columns_from (inputs_of parts) [] 1 names)) (Err (fault.Bad 0 0 kind.NoTestColumn)) ≡ Ok taken
        → (ns : List Text) × (first ∷ names ≡ codes "test" ∷ ns) × IsLayoutOf parts ns taken
    test true q f = (names, ap (λ t. t ∷ names) ((bytes_eq-Decides first (codes "test")).0 q), columns (columns_from (inputs_of parts) [] 1 names) refl f)
    test false q f = absurd (cc f)

-- ---- the cells of a record that is taken

-- fields name these values, each of its type
abbrev pub AreRead : Parts → List Ty → List Text → List Value → Type 0
AreRead parts [] fields [] = Unit {0}
AreRead parts [] fields (v ∷ vs) = ⊥
AreRead parts (ty ∷ types) [] vs = ⊥
AreRead parts (ty ∷ types) (field ∷ fields) [] = ⊥
AreRead parts (ty ∷ types) (field ∷ fields) (v ∷ vs) = (value_of parts ty field ≡ Some v) × AreRead parts types fields vs

pub cells_read : (parts : Parts) (before : List Value) (c : ℕ) (types : List Ty) (fields : List Text) (cells : List Value) → cells_from parts before c types fields ≡ Ok cells → (vs : List Value) × (cells ≡ before ++ vs) × AreRead parts types fields vs
cells_read parts before c [] fields cells e = let q : before ≡ cells = cc e in ([], sym (append_none before ∙ q), tt)
cells_read parts before c (ty ∷ types) [] cells e = absurd (cc e)
cells_read parts before c (ty ∷ types) (field ∷ fields) cells e = go (value_of parts ty field) refl (λ v. cells_read parts (before ++ v ∷ []) (suc c) types fields cells) e
  where
    go : (o : Option Value) → value_of parts ty field ≡ o → ((v : Value) → cells_from parts (before ++ v ∷ []) (suc c) types fields ≡ Ok cells → (vs : List Value) × (cells ≡ (before ++ v ∷ []) ++ vs) × AreRead parts types fields vs)
        → option_map_or (λ v. cells_from parts (before ++ v ∷ []) (suc c) types fields) o (Err c) ≡ Ok cells → (vs : List Value) × (cells ≡ before ++ vs) × AreRead parts (ty ∷ types) (field ∷ fields) vs
    go None h more f = absurd (cc f)
    go (Some v) h more f = let m = more v f in (v ∷ m.0, m.1 ∙ append_assoc before (v ∷ []) m.0, (h, m.2))

pub cell_read : (parts : Parts) (types : List Ty) (fields : List Text) (vs : List Value) (k : ℕ) (ty : Ty) → AreRead parts types fields vs → slice_get types k ≡ Some ty
    → (field : Text) × (slice_get fields k ≡ Some field) × (value_of parts ty field ≡ Some (get_or vs k (Truth false)))
cell_read parts [] fields vs k ty h e = absurd (cc e)
cell_read parts (t ∷ types) [] vs k ty h e = absurd h
cell_read parts (t ∷ types) (field ∷ fields) [] k ty h e = absurd h
cell_read parts (t ∷ types) (field ∷ fields) (v ∷ vs) zero ty h e = let q : t ≡ ty = cc e in (field, refl, subst (λ (x : Ty). value_of parts x field ≡ Some v) q h.0)
cell_read parts (t ∷ types) (field ∷ fields) (v ∷ vs) (suc k) ty h e = cell_read parts types fields vs k ty h.1 e

pub behind_first : (all : List Text) (k : ℕ) → slice_get all (suc k) ≡ slice_get (drop 1 all) k
behind_first [] k = refl
behind_first (x ∷ all) k = refl

-- a record gives the inputs the values of their columns
pub all_given : (parts : Parts) (names all : List Text) (types : List Ty) (vs : List Value) (inputs : List EdgeId) (ps : List ℕ) → AreRead parts types (drop 1 all) vs → AreLaid parts types inputs ps
    → map (number_of (numbered 0 names)) (map (name_of parts.edges) inputs) ≡ map (λ k. Some k) ps → AllZip (Gives parts names all) inputs (arranged ps vs)
all_given parts names all types vs [] [] h l m = tt
all_given parts names all types vs [] (p ∷ ps) h l m = absurd l
all_given parts names all types vs (e ∷ inputs) [] h l m = absurd l
all_given parts names all types vs (e ∷ inputs) (p ∷ ps) h l m =
    let there : number_of (numbered 0 names) (name_of parts.edges e) ≡ Some p = cc m in
    let more : map (number_of (numbered 0 names)) (map (name_of parts.edges) inputs) ≡ map (λ k. Some k) ps = cc m in
    let g = cell_read parts types (drop 1 all) vs p (type_at parts.edges e.0) h l.0 in
    (record { column = p; field = g.0; named = named_here names (name_of parts.edges e) p there; there = behind_first all p ∙ g.1; read = g.2 }, all_given parts names all types vs inputs ps h l.1 more)

numbered_size : (k : ℕ) (names : List Text) → length (numbered k names) ≡ length names
numbered_size k [] = refl
numbered_size k (x ∷ names) = ap suc (numbered_size (suc k) names)

types_size : (parts : Parts) (columns : Numbering) → length (types_of parts columns) ≡ length columns
types_size parts [] = refl
types_size parts (x ∷ columns) = ap suc (types_size parts columns)

pub layout_size : (parts : Parts) (names : List Text) (taken : Layout) → IsLayoutOf parts names taken → length taken.types ≡ length names
layout_size parts names taken h = ap length h.types ∙ types_size parts (numbered 0 names) ∙ numbered_size 0 names
