-- What comes to an edge, and the row that is put for it.
use Rattle.std.proofs.Common.{◌≡◌, ◌∙◌, ⊎_elim, inr, ℕ, ◌<◌, Bool, true, false, List, [], Option, sym, ap, subst, arith, length, get_or, slice_set, replicate}
use Rattle.std.proofs.lemmas.Bool.{cases_eq}
use Rattle.std.proofs.lemmas.List.{get_or-set_same, get_or-set_other, length-set}
use Rattle.op_network.specs.declared.edge.Edge.{Edge}
use Rattle.op_network.specs.declared.edge.EdgeId.{EdgeId}
use Rattle.op_network.specs.declared.value.Value.{Value}
use Rattle.dep_paths.specs.Observed.{is_pre_edge}
use Rattle.omcdc_tags.specs.Rows.{Adds, ComesIn, EdgeComes, HaveSize, PutsRow, RowComes, kind_of}
use Rattle.omcdc_tags.proofs.Adding.{adds_none}
use Rattle.omcdc_tags.proofs.Marking.{false_true, unmarked}

-- what comes to an edge that is no `Pre`
pub coming_now : (edges : List Edge) (table : List (Option ℕ)) (frame : List Value) (begun : Bool) (before : List (List Bool)) (earlier : List Bool) (rows : List (List Bool)) (starts : List Bool) (e : EdgeId) (old new : List Bool)
    → is_pre_edge edges e ≡ false → Adds old new (ComesIn edges table frame (kind_of begun) rows starts e) → Adds old new (RowComes edges table frame begun before earlier rows starts e)
coming_now edges table frame begun before earlier rows starts e old new other adds =
    subst (λ (pre : Bool). Adds old new (EdgeComes pre begun (ComesIn edges table frame (kind_of begun) before earlier e) (ComesIn edges table frame (kind_of begun) rows starts e))) (sym other) adds

-- what comes to a `Pre` after the first instant
pub coming_later : (edges : List Edge) (table : List (Option ℕ)) (frame : List Value) (begun : Bool) (before : List (List Bool)) (earlier : List Bool) (rows : List (List Bool)) (starts : List Bool) (e : EdgeId) (old new : List Bool)
    → is_pre_edge edges e ≡ true → begun ≡ true → Adds old new (ComesIn edges table frame (kind_of begun) before earlier e) → Adds old new (RowComes edges table frame begun before earlier rows starts e)
coming_later edges table frame false before earlier rows starts e old new pre was adds = absurd (false_true was)
coming_later edges table frame true before earlier rows starts e old new pre was adds =
    subst (λ (delay : Bool). Adds old new (EdgeComes delay true (ComesIn edges table frame 1 before earlier e) (ComesIn edges table frame 1 rows starts e))) (sym pre) adds

-- nothing comes to a `Pre` at the first instant
pub coming_first : (edges : List Edge) (table : List (Option ℕ)) (frame : List Value) (begun : Bool) (before : List (List Bool)) (earlier : List Bool) (rows : List (List Bool)) (starts : List Bool) (e : EdgeId) (row : List Bool)
    → is_pre_edge edges e ≡ true → begun ≡ false → Adds row row (RowComes edges table frame begun before earlier rows starts e)
coming_first edges table frame true before earlier rows starts e row pre was = absurd (false_true (sym was))
coming_first edges table frame false before earlier rows starts e row pre was =
    subst (λ (delay : Bool). Adds row row (EdgeComes delay false (ComesIn edges table frame 0 before earlier e) (ComesIn edges table frame 0 rows starts e))) (sym pre) (adds_none row (λ k. ⊥) (λ k none. none))

-- a row that was empty before what comes was added
pub puts_row : (edges : List Edge) (table : List (Option ℕ)) (frame : List Value) (begun : Bool) (before : List (List Bool)) (earlier : List Bool) (rows : List (List Bool)) (starts : List Bool) (e : EdgeId) (n : ℕ) (row : List Bool) (new : List (List Bool))
    → new ≡ slice_set rows e.0 row → Adds (replicate n false) row (RowComes edges table frame begun before earlier rows starts e) → PutsRow edges table frame begun before earlier rows starts e new
puts_row edges table frame begun before earlier rows starts e n row new put adds = record {
  row = row;
  each = λ k. (λ h. ⊎_elim (λ old. absurd (unmarked n k old)) (λ comes. comes) ((adds.each k).0 h), λ comes. (adds.each k).1 (inr comes));
  put = put;
}

-- the sizes stay where a row is put, and the one that was there is taken out to work in
pub size_kept : (edges : ℕ) (table : List (Option ℕ)) (rows : List (List Bool)) (starts work row : List Bool) (i : ℕ) → HaveSize edges table rows starts work → i < length rows → length row ≡ length starts
    → HaveSize edges table (slice_set rows i row) starts (get_or rows i [])
size_kept edges table rows starts work row i size within long = record {
  few = size.few;
  wide = size.wide;
  places = size.places;
  many = length-set rows i row ∙ size.many;
  row = λ e below. ⊎_elim
      (λ same. ap (λ (r : List Bool). length r) (ap (λ (j : ℕ). get_or (slice_set rows i row) j []) same ∙ get_or-set_same rows i row [] within) ∙ long)
      (λ apart. ap (λ (r : List Bool). length r) (get_or-set_other rows i e.0 row [] apart) ∙ size.row e (omega (arith, below, length-set rows i row)))
      (cases_eq e.0 i);
  in_work = size.row (record { 0 = i }) within;
}

-- another row of the same size to work in
pub work_kept : (edges : ℕ) (table : List (Option ℕ)) (rows : List (List Bool)) (starts work other : List Bool) → HaveSize edges table rows starts work → length other ≡ length starts → HaveSize edges table rows starts other
work_kept edges table rows starts work other size long = record {
  few = size.few;
  wide = size.wide;
  places = size.places;
  many = size.many;
  row = size.row;
  in_work = long;
}

-- other values of the same size
pub starts_kept : (edges : ℕ) (table : List (Option ℕ)) (rows : List (List Bool)) (starts other work : List Bool) → HaveSize edges table rows starts work → length other ≡ length starts → HaveSize edges table rows other work
starts_kept edges table rows starts other work size long = record {
  few = omega (arith, long, size.few);
  wide = size.wide;
  places = λ j k at. omega (arith, long, size.places j k at);
  many = size.many;
  row = λ e below. size.row e below ∙ sym long;
  in_work = size.in_work ∙ sym long;
}
