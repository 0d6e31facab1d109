-- The loop that makes the literals of a path's places.
use Rattle.std.proofs.Common.{◌≡◌, ℕ, suc, ◌+◌, ◌<◌, ◌≤◌, List, [], ◌∷◌, ◌++◌, length, drop, get_or, refl, sym, ap, ap₂, ◌∙◌, subst, arith, Option, Some, append-nil, append_assoc, length-append}
use Rattle.std.specs.Prelude.{slice_get}
use Rattle.std.specs.Option.{option_map}
use Rattle.std.proofs.Math.ListN.{drop_of_length-le}
use Rattle.std.proofs.Math.Seq.{drop-cons}
use Rattle.std.proofs.lemmas.List.Elements.{All-nil, All-push}
use Rattle.cnf_form.specs.declared.lit.Lit.{Lit}
use Rattle.cnf_form.specs.Shape.{Shape}
use Rattle.op_network.specs.declared.edge.Edge.{Edge}
use Rattle.op_network.specs.declared.form.Form.{Form}
use Rattle.op_network.specs.Operators.{form_of}
use Rattle.bit_blast.specs.Circuit.{Circuit, after, yes}
use Rattle.bit_blast.specs.Made.{Makes, IsBelow}
use Rattle.bit_blast.proofs.Circuits.{after_more}
use Rattle.bit_blast.proofs.Laws.{made_vars}
use Rattle.unroll_cnf.specs.Unrolled.{Table, only}
use Rattle.dep_paths.specs.declared.path.Path.{Path}
use Rattle.dep_paths.specs.declared.path.Pin.{Pin}
use Rattle.dep_paths.specs.declared.path.Step.{Step}
use Rattle.goal_cnf.specs.Activity.{lit_at, pin_circuit, place_by, place_in, place_circuit, steps_circuit, path_circuit}
use Rattle.goal_cnf.specs.Made.{AreLits}
use Rattle.goal_cnf.proofs.Making.{SoFar, part_made, part_overfills, none_made, all_made}
use Rattle.goal_cnf.proofs.Reading.{lits_later}

-- a place is that of the edge that its step enters
pub place_is : (n : ℕ) (edges : List Edge) (pin : Option Pin) (place place1 : ℕ) (s : Step) (edge : Edge) (form : Form) (now : Table) (shorter : Lit) (before : Option (List Lit)) (past : Option Lit) → slice_get edges s.edge.0 ≡ Some edge → form ≡ form_of edge.op → place1 ≡ suc place →
    past ≡ option_map (λ (ls : List Lit). lit_at ls place) before → place_by n pin place1 s form now shorter past ≡ place_circuit n edges pin place s now shorter before
place_is n edges pin place place1 s edge form now shorter before past is f k b =
    ap₂ (λ (x : Form) i. place_by n pin i s x now shorter past) f k
    ∙ (ap (place_by n pin (suc place) s (form_of edge.op) now shorter) b
    ∙ ap (λ (o : Option Edge). place_in n pin (suc place) s o now shorter (option_map (λ (ls : List Lit). lit_at ls place) before)) (sym is))

module _ (edges : List Edge) (pin : Option Pin) (now : Table) (before : Option (List Lit)) (p : Path) where
  -- the first place and those behind the first steps are made
  pub record PathSoFar (f g : Shape) (shorter : Lit) (i : ℕ) (lits : List Lit) : Type 0 where
    pub so_far : SoFar (List Lit) f g (path_circuit f.vars edges pin p now before) (steps_circuit g.vars edges pin i now shorter before (drop i p.steps)) (λ r. lits ++ r)
    pub are : AreLits (suc i) g.vars lits
    pub last_below : shorter.var < g.vars

  pub path_start : (f g : Shape) (first : Lit) (lits : List Lit) → Makes Lit f g (pin_circuit f.vars pin 0 (only (now p.start.0)) (yes 0)) first → first.var < g.vars → lits ≡ first ∷ [] → PathSoFar f g first 0 lits
  path_start f g first lits m lt l =
      let one = pin_circuit f.vars pin 0 (only (now p.start.0)) (yes 0) in
      let rest = steps_circuit g.vars edges pin 0 now first before p.steps in
      let same : steps_circuit (after f.vars one.entries) edges pin 0 now one.result before p.steps ≡ rest =
      ap₂ (λ n (x : Lit). steps_circuit n edges pin 0 now x before p.steps) (sym (made_vars Lit f g one first m)) (sym m.gives) in
      let whole = path_circuit f.vars edges pin p now before in
      record {
        so_far = part_made (List Lit) Lit f f g whole whole rest (λ r. r) (λ r. lits ++ r) one first (none_made (List Lit) f whole whole (λ r. r) refl refl) m
            (ap (λ (z : Circuit (List Lit)). one.entries ++ z.entries) same)
            (ap₂ (λ (x : Lit) (z : Circuit (List Lit)). x ∷ z.result) (sym m.gives) same ∙ ap (λ (z : List Lit). z ++ rest.result) (sym l));
        are = record { size = ap length l; below = subst (IsBelow g.vars) (sym l) (All-push (λ (x : Lit). x.var < g.vars) [] first (All-nil (λ (x : Lit). x.var < g.vars)) lt) };
        last_below = lt;
      }

  rest_is : (n i : ℕ) (shorter : Lit) (d : Step) → i < length p.steps → steps_circuit n edges pin i now shorter before (drop i p.steps) ≡ steps_circuit n edges pin i now shorter before (get_or p.steps i d ∷ drop (i + 1) p.steps)
  rest_is n i shorter d lt = ap (steps_circuit n edges pin i now shorter before) (drop-cons p.steps i d lt ∙ ap (λ k. get_or p.steps i d ∷ drop k p.steps) (let e : suc i ≡ i + 1 = omega arith in e))

  pub path_full : (f g : Shape) (shorter : Lit) (i most : ℕ) (lits : List Lit) (d : Step) → PathSoFar f g shorter i lits → i < length p.steps →
      most < after g.vars (place_circuit g.vars edges pin i (get_or p.steps i d) now shorter before).entries → most < after f.vars (path_circuit f.vars edges pin p now before).entries
  path_full f g shorter i most lits d s lt full =
      let one = place_circuit g.vars edges pin i (get_or p.steps i d) now shorter before in
      let later = steps_circuit (after g.vars one.entries) edges pin (suc i) now one.result before (drop (i + 1) p.steps) in
      part_overfills (List Lit) Lit f g most _ _ later (λ r. lits ++ r) one s.so_far (ap (λ (z : Circuit (List Lit)). z.entries) (rest_is g.vars i shorter d lt)) full

  pub path_next : (f g h : Shape) (shorter lit : Lit) (i : ℕ) (lits longer : List Lit) (d : Step) → PathSoFar f g shorter i lits → i < length p.steps →
      Makes Lit g h (place_circuit g.vars edges pin i (get_or p.steps i d) now shorter before) lit → lit.var < h.vars → longer ≡ lits ++ lit ∷ [] → PathSoFar f h lit (i + 1) longer
  path_next f g h shorter lit i lits longer d s lt m below l =
      let one = place_circuit g.vars edges pin i (get_or p.steps i d) now shorter before in
      let vars = made_vars Lit g h one lit m in
      let later = steps_circuit h.vars edges pin (i + 1) now lit before (drop (i + 1) p.steps) in
      let same : steps_circuit (after g.vars one.entries) edges pin (suc i) now one.result before (drop (i + 1) p.steps) ≡ later =
      ap₂ (λ n j. steps_circuit n edges pin j now one.result before (drop (i + 1) p.steps)) (sym vars) (let e : suc i ≡ i + 1 = omega arith in e)
      ∙ ap (λ (x : Lit). steps_circuit h.vars edges pin (i + 1) now x before (drop (i + 1) p.steps)) (sym m.gives) in
      let is = rest_is g.vars i shorter d lt in
      let old = lits_later (suc i) g.vars h.vars lits s.are (omega (arith, vars, after_more g.vars one.entries)) in
      record {
        so_far = part_made (List Lit) Lit f g h _ _ later (λ r. lits ++ r) (λ r. longer ++ r) one lit s.so_far m
            (ap (λ (z : Circuit (List Lit)). z.entries) is ∙ ap (λ (z : Circuit (List Lit)). one.entries ++ z.entries) same)
            (ap (λ (z : Circuit (List Lit)). lits ++ z.result) is
            ∙ (ap₂ (λ (x : Lit) (z : Circuit (List Lit)). lits ++ x ∷ z.result) (sym m.gives) same
            ∙ (sym (append_assoc lits (lit ∷ []) later.result) ∙ ap (λ (z : List Lit). z ++ later.result) (sym l))));
        are = record {
          size = ap length l ∙ omega (arith, length-append lits (lit ∷ []), old.size);
          below = subst (IsBelow h.vars) (sym l) (All-push (λ (x : Lit). x.var < h.vars) lits lit old.below below);
        };
        last_below = below;
      }

  pub path_made : (f g : Shape) (shorter : Lit) (i : ℕ) (lits : List Lit) → PathSoFar f g shorter i lits → length p.steps ≤ i →
      Makes (List Lit) f g (path_circuit f.vars edges pin p now before) lits
  path_made f g shorter i lits s le =
      let end : drop i p.steps ≡ [] = drop_of_length-le p.steps le in
      let none : steps_circuit g.vars edges pin i now shorter before (drop i p.steps) ≡ record { entries = []; result = [] } = ap (steps_circuit g.vars edges pin i now shorter before) end in
      all_made (List Lit) f g _ _ (λ r. lits ++ r) lits s.so_far (ap (λ (z : Circuit (List Lit)). z.entries) none) (sym (append-nil lits) ∙ ap (λ (z : Circuit (List Lit)). lits ++ z.result) (sym none))

  -- where the first place doesn't fit, the path doesn't
  pub first_full : (f : Shape) (most : ℕ) → most < after f.vars (pin_circuit f.vars pin 0 (only (now p.start.0)) (yes 0)).entries → most < after f.vars (path_circuit f.vars edges pin p now before).entries
  first_full f most full =
      let one = pin_circuit f.vars pin 0 (only (now p.start.0)) (yes 0) in
      let whole = path_circuit f.vars edges pin p now before in
      part_overfills (List Lit) Lit f f most whole whole (steps_circuit (after f.vars one.entries) edges pin 0 now one.result before p.steps) (λ r. r) one (none_made (List Lit) f whole whole (λ r. r) refl refl) refl full
