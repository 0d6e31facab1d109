-- Columns of a table of rows, value by value, and the streams of inputs.
use Rattle.std.proofs.Common.{◌≡◌, ℕ, suc, ◌+◌, ◌-◌, ◌*◌, ◌<◌, List, [], ◌∷◌, ◌++◌, length, take, drop, get_or, refl, sym, ap, ◌∙◌, append_assoc, arith, length-drop}
use Rattle.std.proofs.lemmas.List.{append-nil, get_or_default}
use Rattle.std.proofs.lemmas.Option.{get_or_from_slice_get}
use Rattle.std.specs.Prelude.{Option, Some, None, OnOk, Result, Ok, Err, false, slice_get, slice_index_or}
use Rattle.std.specs.Option.{option_map}
use Rattle.op_network.specs.declared.edge.Edge.{Edge}
use Rattle.op_network.specs.declared.edge.EdgeId.{EdgeId}
use Rattle.op_network.specs.declared.edge.Op.{Op}
use Rattle.op_network.specs.declared.edge.Op.TheVariants as op
use Rattle.op_network.specs.declared.edge.Parts.{Parts}
use Rattle.op_network.specs.declared.value.Value.{Value}
use Rattle.op_network.specs.declared.value.Value.TheVariants.{Truth}
use Rattle.op_network.specs.Operators.{at_edge, operator_value}
use Rattle.op_network.specs.Run.{IsFrame, IsRunAfter, rows}
use Rattle.op_network.specs.Valid.{IsValid, op_of}
use Rattle.cov_report.specs.Values.{edge_line}
use Rattle.cov_station.specs.NetworkText.{edge_lines, stream_in}
use Rattle.cov_station.specs.Playing.{AddsLines, column}

-- one more value was added
pub value_added : (stream stream' whole : List Value) (place width instants i : ℕ) (rest row rest' : List Value) (d : Value)
    → i < instants → place < length row → row ≡ take width rest → rest' ≡ drop width rest
    → stream' ≡ stream ++ get_or row place d ∷ []
    → stream ++ column place (rows width (instants - i) rest) ≡ whole
    → stream' ++ column place (rows width (instants - (i + 1)) rest') ≡ whole
value_added stream stream' whole place width instants i rest row rest' d lt within front moved added e =
    let n : instants - i ≡ suc (instants - (i + 1)) = omega arith in
    let later : List Value = column place (rows width (instants - (i + 1)) (drop width rest)) in
    let there : get_or row place d ≡ slice_index_or (take width rest) place (Truth false) =
    get_or_default row place d (Truth false) within ∙ ap (λ (r : List Value). slice_index_or r place (Truth false)) front in
    ap (λ r. stream' ++ column place (rows width (instants - (i + 1)) r)) moved
    ∙ ap (λ s. s ++ later) added
    ∙ append_assoc stream (get_or row place d ∷ []) later
    ∙ ap (λ w. stream ++ w ∷ later) there
    ∙ ap (λ m. stream ++ column place (rows width m rest)) (sym n)
    ∙ e

pub rest_size : (instants i width : ℕ) (rest rest' : List Value) → i < instants → rest' ≡ drop width rest
    → length rest ≡ (instants - i) * width → length rest' ≡ (instants - (i + 1)) * width
rest_size instants i width rest rest' lt moved size =
    let n : instants - i ≡ (instants - (i + 1)) + 1 = omega arith in
    let m : ((instants - (i + 1)) + 1) * width ≡ (instants - (i + 1)) * width + width = grind arith in
    let whole : length rest ≡ (instants - (i + 1)) * width + width = size ∙ ap (λ k. k * width) n ∙ m in
    ap length moved ∙ length-drop width rest ∙ less whole
  where
    less : {a b : ℕ} → a ≡ b + width → a - width ≡ b
    less h = omega (arith, h)

-- ---- an input's stream is its column

pub at_input : (edges : List Edge) (width i : ℕ) (e : EdgeId) (before : Option (List Value)) (row frame : List Value)
    → op_of edges e.0 ≡ Some (op.Input i) → IsFrame width edges before row frame
    → at_edge frame e ≡ slice_index_or row i (Truth false)
at_input edges width i e before row frame is f = found (slice_get edges e.0) refl is
  where
    found : (o : Option Edge) → slice_get edges e.0 ≡ o → option_map (λ (edge : Edge). edge.op) o ≡ Some (op.Input i)
        → at_edge frame e ≡ slice_index_or row i (Truth false)
    found None there h = absurd (cc)
    found (Some edge) there h =
        let o : edge.op ≡ op.Input i = cc in
        get_or_from_slice_get frame e.0 (operator_value width edge.op edge.ty before frame row) (Truth false) (f.values e.0 edge there)
        ∙ ap (λ (p : Op). operator_value width p edge.ty before frame row) o

stream_is : (edges : List Edge) (width i : ℕ) (e : EdgeId) (before : Option (List Value)) (table frames : List (List Value))
    → op_of edges e.0 ≡ Some (op.Input i) → IsRunAfter width edges before table frames
    → stream_in frames e ≡ column i table
stream_is edges width i e before [] [] is run = refl
stream_is edges width i e before [] (f ∷ frames) is run = absurd run
stream_is edges width i e before (r ∷ table) [] is run = absurd run
stream_is edges width i e before (r ∷ table) (f ∷ frames) is run =
    ap (λ v. v ∷ stream_in frames e) (at_input edges width i e before r f is run.0)
    ∙ ap (λ s. slice_index_or r i (Truth false) ∷ s) (stream_is edges width i e (Some f) table frames is run.1)

-- the line of an input was added, unless it failed
pub line_added : {X Y : Type 0} (parts : Parts) (table : List (List Value)) (place : ℕ) (e : EdgeId) (stream : List Value) (old new : List ℕ)
    (result : Result X Y) → IsValid parts → slice_get parts.inputs place ≡ Some e
    → stream ≡ column place table → OnOk result (new ≡ old ++ edge_line parts e stream)
    → OnOk result (AddsLines parts table (e ∷ []) old new)
line_added parts table place e stream old new (Err fault) valid there is added = tt
line_added parts table place e stream old new (Ok done) valid there is added =
    record { each = λ frames run. go frames (stream_is parts.edges parts.width place e None table frames (valid.inputs.numbered place e there) run) }
  where
    go : (frames : List (List Value)) → stream_in frames e ≡ column place table → new ≡ old ++ edge_lines parts frames (e ∷ [])
    go frames in_frames =
        added ∙ ap (λ s. old ++ edge_line parts e s) (is ∙ sym in_frames)
        ∙ ap (λ w. old ++ w) (sym (append-nil (edge_line parts e (stream_in frames e))))
