-- The first field of a record that is no value.
use Rattle.std.proofs.Common.{◌≡◌, ◌<◌, ◌+◌, ◌∙◌, ℕ, zero, suc, List, [], ◌∷◌, ◌++◌, length, drop, Option, Some, None, Err, refl, sym, ap, subst, arith, get_or, false}
use Rattle.std.specs.Prelude.{slice_get}
use Rattle.std.specs.Option.{option_map_or}
use Rattle.std.proofs.lemmas.Option.{slice_get-get_or}
use Rattle.op_network.specs.declared.edge.Parts.{Parts}
use Rattle.op_network.specs.declared.value.Ty.{Ty}
use Rattle.op_network.specs.declared.value.Ty.TheVariants as type
use Rattle.op_network.specs.declared.value.Value.{Value}
use Rattle.op_network.specs.declared.value.Value.TheVariants.{Truth}
use Rattle.suite_file.specs.declared.header.Layout.{Layout}
use Rattle.suite_file.specs.Records.{Text}
use Rattle.suite_file.specs.Refusals.{Reads}
use Rattle.suite_file.specs.Suites.{cells_from, type_named, types_of}
use Rattle.suite_file.specs.Values.{value_of}
use Rattle.suite_file.proofs.Accepting.{column_type}
use Rattle.suite_file.proofs.Inputs.{numbered}
use Rattle.suite_file.proofs.LayoutMeans.{AreRead, IsLayoutOf, behind_first, cell_read}

-- the field at a place names this as a value of the type there
pub record CellAt (parts : Parts) (types : List Ty) (fields : List Text) (k : ℕ) (value : Option Value) : Type 0 where
  pub ty : Ty
  pub field : Text
  pub typed : slice_get types k ≡ Some ty
  pub there : slice_get fields k ≡ Some field
  pub read : value_of parts ty field ≡ value

-- ---- a column and a place

pub reads_cell : (parts : Parts) (names : List Text) (taken : Layout) (all : List Text) (k : ℕ) (value : Option Value) → IsLayoutOf parts names taken → CellAt parts taken.types (drop 1 all) k value → Reads parts names all k value
reads_cell parts names taken all k value l c =
    let t = column_type parts 0 names k c.ty (subst (λ (ts : List Ty). slice_get ts k ≡ Some c.ty) l.types c.typed) in
    record { column = t.0; field = c.field; named = t.1; there = behind_first all k ∙ c.there; read = ap (λ (ty : Ty). value_of parts ty c.field) t.2 ∙ c.read }

type_column : (parts : Parts) (j : ℕ) (names : List Text) (k : ℕ) (name : Text) → slice_get names k ≡ Some name → slice_get (types_of parts (numbered j names)) k ≡ Some (type_named parts name)
type_column parts j [] k name e = absurd (cc e)
type_column parts j (x ∷ names) zero name e = let q : x ≡ name = cc e in ap (λ n. Some (type_named parts n)) q
type_column parts j (x ∷ names) (suc k) name e = type_column parts (suc j) names k name e

pub cell_reads : (parts : Parts) (names : List Text) (taken : Layout) (all : List Text) (k : ℕ) (value : Option Value) → IsLayoutOf parts names taken → Reads parts names all k value → CellAt parts taken.types (drop 1 all) k value
cell_reads parts names taken all k value l r = record {
  ty = type_named parts r.column;
  field = r.field;
  typed = ap (λ (ts : List Ty). slice_get ts k) l.types ∙ type_column parts 0 names k r.column r.named;
  there = sym (behind_first all k) ∙ r.there;
  read = r.read;
}

-- ---- the first fault

-- the fields at the first so many places name values
abbrev pub CellsTo : Parts → List Ty → List Text → ℕ → Type 0
CellsTo parts types fields n = (k : ℕ) → k < n → (v : Value) × CellAt parts types fields k (Some v)

no_cells : (parts : Parts) (types : List Ty) (fields : List Text) → CellsTo parts types fields 0
no_cells parts types fields k h = absurd (omega (arith, h))

one_more : (parts : Parts) (ty : Ty) (types : List Ty) (field : Text) (fields : List Text) (v : Value) (n : ℕ) → value_of parts ty field ≡ Some v → CellsTo parts types fields n → CellsTo parts (ty ∷ types) (field ∷ fields) (suc n)
one_more parts ty types field fields v n e h zero w = (v, record { ty = ty; field = field; typed = refl; there = refl; read = e })
one_more parts ty types field fields v n e h (suc k) w = let m = h k (omega (arith, w)) in (m.0, record { ty = m.1.ty; field = m.1.field; typed = m.1.typed; there = m.1.there; read = m.1.read })

-- the first place whose field is no value
pub record StopsAt (parts : Parts) (types : List Ty) (fields : List Text) (c d : ℕ) : Type 0 where
  pub k : ℕ
  pub place : d ≡ c + k
  pub values : CellsTo parts types fields k
  pub none : CellAt parts types fields k None

pub stops : (parts : Parts) (before : List Value) (c : ℕ) (types : List Ty) (fields : List Text) (d : ℕ) → length fields ≡ length types → cells_from parts before c types fields ≡ Err d → StopsAt parts types fields c d
stops parts before c [] fields d s e = absurd (cc e)
stops parts before c (ty ∷ types) [] d s e = absurd (omega (arith, s))
stops parts before c (ty ∷ types) (field ∷ fields) d s e = go (value_of parts ty field) refl (λ v. stops parts (before ++ v ∷ []) (suc c) types fields d (omega (arith, s))) e
  where
    go : (o : Option Value) → value_of parts ty field ≡ o → ((v : Value) → cells_from parts (before ++ v ∷ []) (suc c) types fields ≡ Err d → StopsAt parts types fields (suc c) d)
        → option_map_or (λ v. cells_from parts (before ++ v ∷ []) (suc c) types fields) o (Err c) ≡ Err d → StopsAt parts (ty ∷ types) (field ∷ fields) c d
    go None h more f =
        let q : c ≡ d = cc f in
        record { k = 0; place = omega (arith, q); values = no_cells parts (ty ∷ types) (field ∷ fields); none = record { ty = ty; field = field; typed = refl; there = refl; read = h } }
    go (Some v) h more f =
        let m = more v f in
        record {
          k = suc m.k;
          place = omega (arith, m.place);
          values = one_more parts ty types field fields v m.k h m.values;
          none = record { ty = m.none.ty; field = m.none.field; typed = m.none.typed; there = m.none.there; read = m.none.read };
        }

later_cell : (parts : Parts) (ty : Ty) (types : List Ty) (field : Text) (fields : List Text) (k : ℕ) (o : Option Value) → CellAt parts (ty ∷ types) (field ∷ fields) (suc k) o → CellAt parts types fields k o
later_cell parts ty types field fields k o c = record { ty = c.ty; field = c.field; typed = c.typed; there = c.there; read = c.read }

first_cell : (parts : Parts) (ty : Ty) (types : List Ty) (field : Text) (fields : List Text) (o : Option Value) → CellAt parts (ty ∷ types) (field ∷ fields) 0 o → value_of parts ty field ≡ o
first_cell parts ty types field fields o c =
    let t : ty ≡ c.ty = cc (c.typed) in
    let f : field ≡ c.field = cc (c.there) in
    ap (λ (x : Ty). value_of parts x field) t ∙ ap (value_of parts c.ty) f ∙ c.read

pub stopped : (parts : Parts) (before : List Value) (c : ℕ) (types : List Ty) (fields : List Text) (k : ℕ) → CellsTo parts types fields k → CellAt parts types fields k None → cells_from parts before c types fields ≡ Err (c + k)
stopped parts before c [] fields k h n = let bad : None ≡ Some n.ty = n.typed in absurd (cc bad)
stopped parts before c (ty ∷ types) [] k h n = let bad : None ≡ Some n.field = n.there in absurd (cc bad)
stopped parts before c (ty ∷ types) (field ∷ fields) zero h n =
    let none : value_of parts ty field ≡ None = first_cell parts ty types field fields None n in
    let here : c ≡ c + 0 = omega arith in
    rw none (ap (λ d. Err d) here)
stopped parts before c (ty ∷ types) (field ∷ fields) (suc k) h n =
    let first = h 0 (omega arith) in
    let value : value_of parts ty field ≡ Some first.0 = first_cell parts ty types field fields (Some first.0) first.1 in
    let later : CellsTo parts types fields k = λ j w. let m = h (suc j) (omega (arith, w)) in (m.0, later_cell parts ty types field fields j (Some m.0) m.1) in
    let next : suc c + k ≡ c + suc k = omega arith in
    rw value (stopped parts (before ++ first.0 ∷ []) (suc c) types fields k later (later_cell parts ty types field fields k None n) ∙ ap (λ d. Err d) next)

-- all fields name values
pub all_cells : (parts : Parts) (types : List Ty) (fields : List Text) (vs : List Value) → AreRead parts types fields vs → CellsTo parts types fields (length types)
all_cells parts types fields vs h k w =
    let ty = get_or types k type.Truth in
    let typed : slice_get types k ≡ Some ty = slice_get-get_or types k type.Truth w in
    let r = cell_read parts types fields vs k ty h typed in
    (get_or vs k (Truth false), record { ty = ty; field = r.0; typed = typed; there = r.1; read = r.2 })
