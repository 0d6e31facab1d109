-- The table from ports to their places, as it grows.
use Rattle.std.proofs.Common.{◌≡◌, ◌≢◌, ◌∙◌, ◌⊎◌, ⊎_elim, inl, inr, ℕ, zero, suc, ◌+◌, ◌*◌, ◌<◌, ◌≤◌, List, [], ◌∷◌, ◌++◌, Option, Some, None, refl, sym, ap, subst, arith, length, length-append, slice_get, slice_set, replicate}
use Rattle.std.proofs.lemmas.Bool.{cases_eq}
use Rattle.std.proofs.lemmas.List.{length-set, length-replicate}
use Rattle.std.proofs.lemmas.Option.{slice_get_within}
use Rattle.op_network.specs.declared.edge.Edge.{Edge}
use Rattle.op_network.specs.declared.edge.EdgeId.{EdgeId}
use Rattle.op_network.specs.declared.form.Form.{Form}
use Rattle.op_network.specs.declared.form.Form.TheVariants.{Input, Const, One, Two, Ite, Arrow, Pre}
use Rattle.op_network.specs.declared.limits.TheConstants.{MOST_EDGES}
use Rattle.op_network.specs.Operators.{form_of, operands_by, operands_in, operands_of}
use Rattle.dep_paths.specs.declared.path.Condition.{Condition}
use Rattle.dep_paths.specs.Conditions.{operand_at}
use Rattle.omcdc_tags.specs.declared.limits.TheConstants.{MOST_OPERANDS, MOST_PORTS}
use Rattle.omcdc_tags.specs.Ports.{Grows, IsTable, index_of, taken}

-- ---- ports have few places

few_by : (form : Form) → length (operands_by form) ≤ MOST_OPERANDS
few_by (Input i) = omega arith
few_by (Const v) = omega arith
few_by (One o a) = omega arith
few_by (Two o a b) = omega arith
few_by (Ite a b c) = omega arith
few_by (Arrow a b) = omega arith
few_by (Pre a) = omega arith

few_in : (o : Option Edge) → length (operands_in o) ≤ MOST_OPERANDS
few_in None = omega arith
few_in (Some edge) = few_by (form_of edge.op)

pub few_operands : (edges : List Edge) (e : EdgeId) → length (operands_of edges e) ≤ MOST_OPERANDS
few_operands edges e = few_in (slice_get edges e.0)

pub narrow_port : (edges : List Edge) (e : EdgeId) (p : ℕ) (a : EdgeId) → operand_at edges (record { edge = e; port = p }) ≡ Some a → p < MOST_OPERANDS
narrow_port edges e p a read = omega (arith, slice_get_within (operands_of edges e) p a read, few_operands edges e)

edge_of_place : (d e p q : ℕ) → p < MOST_OPERANDS → q < MOST_OPERANDS → MOST_OPERANDS * d + p ≡ MOST_OPERANDS * e + q → (d ≡ e) × (p ≡ q)
edge_of_place d e p q small few same = (omega (arith, small, few, same), omega (arith, small, few, same))

-- ports with one place are one
pub same_port : (b c : Condition) → b.port < MOST_OPERANDS → c.port < MOST_OPERANDS → index_of b ≡ index_of c → b ≡ c
same_port b c small few same =
    let parts = edge_of_place b.edge.0 c.edge.0 b.port c.port small few same in
    let at : ℕ → ℕ → Condition = λ (e p : ℕ). record { edge = record { 0 = e }; port = p } in
    ap (λ (e : ℕ). at e b.port) parts.0 ∙ ap (λ (p : ℕ). at c.edge.0 p) parts.1

pub index_within : (port : Condition) (edges : ℕ) (table : List (Option ℕ)) → port.edge.0 < edges → port.port < MOST_OPERANDS → length table ≡ MOST_OPERANDS * edges → index_of port < length table
index_within port edges table within small size = omega (arith, within, small, size)

-- ---- how many ports there are

taken_few : (table : List (Option ℕ)) → taken table ≤ length table
taken_few [] = omega arith
taken_few (None ∷ table) = omega (arith, taken_few table)
taken_few (Some k ∷ table) = omega (arith, taken_few table)

pub few_ports : (edges : ℕ) (ports : List Condition) (table : List (Option ℕ)) → IsTable edges ports table → edges ≤ MOST_EDGES → length ports ≤ MOST_PORTS
few_ports edges ports table is few =
    let counted = is.counted in
    let size = is.size in
    omega (arith, counted, size, few, taken_few table)

taken_more : (table : List (Option ℕ)) (i k : ℕ) → slice_get table i ≡ Some None → taken (slice_set table i (Some k)) ≡ taken table + 1
taken_more [] i k at = absurd (cc)
taken_more (None ∷ table) zero k at = omega arith
taken_more (Some j ∷ table) zero k at = absurd (cc)
taken_more (None ∷ table) (suc i) k at = taken_more table i k at
taken_more (Some j ∷ table) (suc i) k at = omega (arith, taken_more table i k at)

none_taken : (n : ℕ) → taken (replicate n None) ≡ 0
none_taken zero = refl
none_taken (suc n) = none_taken n

-- ---- the table without places

blank_at : (n i k : ℕ) → slice_get (replicate n None) i ≡ Some (Some k) → ⊥
blank_at zero i k at = cc
blank_at (suc n) zero k at = cc
blank_at (suc n) (suc i) k at = blank_at n i k at

pub no_item : {A : Type 0} (k : ℕ) (x : A) → slice_get [] k ≡ Some x → ⊥
no_item k x at = cc

pub no_table : (edges : ℕ) (table : List (Option ℕ)) → table ≡ replicate (MOST_OPERANDS * edges) None → IsTable edges [] table
no_table edges table is = subst (IsTable edges []) (sym is) (record {
  size = length-replicate (MOST_OPERANDS * edges) None;
  counted = sym (none_taken (MOST_OPERANDS * edges));
  within = λ k c at. absurd (no_item k c at);
  narrow = λ k c at. absurd (no_item k c at);
  found = λ k c at. absurd (no_item k c at);
  placed = λ k j at. absurd (blank_at (MOST_OPERANDS * edges) j k at);
})

-- ---- one port more

pub get_push : {A : Type 0} (xs : List A) (y : A) (k : ℕ) (x : A) → slice_get (xs ++ y ∷ []) k ≡ Some x → (slice_get xs k ≡ Some x) ⊎ ((k ≡ length xs) × (y ≡ x))
get_push [] y zero x at = inr (refl, cc)
get_push [] y (suc k) x at = absurd (cc)
get_push (z ∷ xs) y zero x at = inl at
get_push (z ∷ xs) y (suc k) x at = ⊎_elim (λ old. inl old) (λ new. inr (ap suc new.0, new.1)) (get_push xs y k x at)

pub get_old : {A : Type 0} (xs : List A) (y : A) (k : ℕ) (x : A) → slice_get xs k ≡ Some x → slice_get (xs ++ y ∷ []) k ≡ Some x
get_old [] y k x at = absurd (cc)
get_old (z ∷ xs) y zero x at = at
get_old (z ∷ xs) y (suc k) x at = get_old xs y k x at

pub get_new : {A : Type 0} (xs : List A) (y : A) → slice_get (xs ++ y ∷ []) (length xs) ≡ Some y
get_new [] y = refl
get_new (z ∷ xs) y = get_new xs y

set_here : {A : Type 0} (xs : List A) (i : ℕ) (y : A) → i < length xs → slice_get (slice_set xs i y) i ≡ Some y
set_here [] i y lt = absurd (omega (arith, lt))
set_here (x ∷ xs) zero y lt = refl
set_here (x ∷ xs) (suc i) y lt = set_here xs i y (omega (arith, lt))

set_apart : {A : Type 0} (xs : List A) (i j : ℕ) (y : A) → j ≢ i → slice_get (slice_set xs i y) j ≡ slice_get xs j
set_apart [] i j y apart = refl
set_apart (x ∷ xs) zero zero y apart = absurd (apart refl)
set_apart (x ∷ xs) zero (suc j) y apart = refl
set_apart (x ∷ xs) (suc i) zero y apart = refl
set_apart (x ∷ xs) (suc i) (suc j) y apart = set_apart xs i j y (λ same. apart (ap suc same))

pub grows_by_one : (ports new : List Condition) (port : Condition) → new ≡ ports ++ port ∷ [] → Grows ports new
grows_by_one ports new port is = subst (Grows ports) (sym is) (record { kept = λ k c at. get_old ports port k c at })

pub grows_not : (ports : List Condition) → Grows ports ports
grows_not ports = record { kept = λ k c at. at }

pub newest : (ports new : List Condition) (port : Condition) (k : ℕ) → new ≡ ports ++ port ∷ [] → k ≡ length ports → slice_get new k ≡ Some port
newest ports new port k is end = subst (λ (ps : List Condition). slice_get ps k ≡ Some port) (sym is) (subst (λ (n : ℕ). slice_get (ports ++ port ∷ []) n ≡ Some port) (sym end) (get_new ports port))

taken_twice : (o : Option (Option ℕ)) (k : ℕ) → o ≡ Some None → o ≡ Some (Some k) → ⊥
taken_twice o k none some = cc

some_some : (j k : ℕ) → Some (Some j) ≡ Some (Some k) → j ≡ k
some_some j k same = cc

module _ (edges : ℕ) (ports : List Condition) (table : List (Option ℕ)) (port : Condition) (is : IsTable edges ports table) (within : port.edge.0 < edges) (small : port.port < MOST_OPERANDS) (open_place : slice_get table (index_of port) ≡ Some None) where
  -- a port that has a place is another
  apart_from : (k : ℕ) (c : Condition) → slice_get ports k ≡ Some c → index_of c ≢ index_of port
  apart_from k c at same = taken_twice (slice_get table (index_of port)) k open_place (subst (λ (j : ℕ). slice_get table j ≡ Some (Some k)) same (is.found k c at))

  here : index_of port < length table
  here = index_within port edges table within small is.size

  new_table : List (Option ℕ)
  new_table = slice_set table (index_of port) (Some (length ports))

  found_then : (k : ℕ) (c : Condition) → (slice_get ports k ≡ Some c) ⊎ ((k ≡ length ports) × (port ≡ c)) → slice_get (slice_set table (index_of port) (Some (length ports))) (index_of c) ≡ Some (Some k)
  found_then k c (inl old) = set_apart table (index_of port) (index_of c) (Some (length ports)) (apart_from k c old) ∙ is.found k c old
  found_then k c (inr new) =
      subst (λ (d : Condition). slice_get (slice_set table (index_of port) (Some (length ports))) (index_of d) ≡ Some (Some k)) new.1
      (set_here table (index_of port) (Some (length ports)) here ∙ ap (λ (n : ℕ). Some (Some n)) (sym new.0))

  placed_then : (k j : ℕ) → (j ≡ index_of port) ⊎ (j ≢ index_of port) → slice_get (slice_set table (index_of port) (Some (length ports))) j ≡ Some (Some k)
      → (c : Condition) × (slice_get (ports ++ port ∷ []) k ≡ Some c) × (index_of c ≡ j)
  placed_then k j (inl same) at =
      let new : slice_get (slice_set table (index_of port) (Some (length ports))) j ≡ Some (Some (length ports)) =
      subst (λ (i : ℕ). slice_get (slice_set table (index_of port) (Some (length ports))) i ≡ Some (Some (length ports))) (sym same) (set_here table (index_of port) (Some (length ports)) here) in
      let is_new : length ports ≡ k = some_some (length ports) k (sym new ∙ at) in
      (port, subst (λ (n : ℕ). slice_get (ports ++ port ∷ []) n ≡ Some port) is_new (get_new ports port), sym same)
  placed_then k j (inr apart) at =
      let old = is.placed k j (sym (set_apart table (index_of port) j (Some (length ports)) apart) ∙ at) in
      (old.0, get_old ports port k old.0 old.1, old.2)

  within_then : (k : ℕ) (c : Condition) → (slice_get ports k ≡ Some c) ⊎ ((k ≡ length ports) × (port ≡ c)) → (c.edge.0 < edges) × (c.port < MOST_OPERANDS)
  within_then k c (inl old) = (is.within k c old, is.narrow k c old)
  within_then k c (inr new) = subst (λ (d : Condition). (d.edge.0 < edges) × (d.port < MOST_OPERANDS)) new.1 (within, small)

  -- the table with the new port
  with_port : IsTable edges (ports ++ port ∷ []) (slice_set table (index_of port) (Some (length ports)))
  with_port = record {
    size = length-set table (index_of port) (Some (length ports)) ∙ is.size;
    counted =
        let counted = is.counted in
        omega (arith, counted, length-append ports (port ∷ []), taken_more table (index_of port) (length ports) open_place);
    within = λ k c at. (within_then k c (get_push ports port k c at)).0;
    narrow = λ k c at. (within_then k c (get_push ports port k c at)).1;
    found = λ k c at. found_then k c (get_push ports port k c at);
    placed = λ k j at. placed_then k j (cases_eq j (index_of port)) at;
  }

pub table_more : (edges : ℕ) (ports : List Condition) (table : List (Option ℕ)) (port : Condition) (k : ℕ) (new_ports : List Condition) (new : List (Option ℕ)) → IsTable edges ports table → port.edge.0 < edges → port.port < MOST_OPERANDS
    → slice_get table (index_of port) ≡ Some None → k ≡ length ports → new_ports ≡ ports ++ port ∷ [] → new ≡ slice_set table (index_of port) (Some k) → IsTable edges new_ports new
table_more edges ports table port k new_ports new is within small at end more put =
    subst (λ (ps : List Condition). IsTable edges ps new) (sym more)
    (subst (IsTable edges (ports ++ port ∷ [])) (sym put)
    (subst (λ (n : ℕ). IsTable edges (ports ++ port ∷ []) (slice_set table (index_of port) (Some n))) (sym end)
    (with_port edges ports table port is within small at)))

-- the port at a place that the table gives
pub placed_there : (edges : ℕ) (ports : List Condition) (table : List (Option ℕ)) (port : Condition) (k : ℕ) → IsTable edges ports table → port.port < MOST_OPERANDS → slice_get table (index_of port) ≡ Some (Some k) → slice_get ports k ≡ Some port
placed_there edges ports table port k is small at =
    let there = is.placed k (index_of port) at in
    there.1 ∙ ap (λ (c : Condition). Some c) (same_port there.0 port (is.narrow k there.0 there.1) small there.2)
