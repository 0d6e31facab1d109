-- The loop that makes the literals `hit` of all instants.
use Rattle.std.proofs.Common.{◌≡◌, ℕ, zero, suc, ◌+◌, ◌<◌, ◌≤◌, Bool, true, false, not, ◌&&◌, List, [], ◌∷◌, ◌++◌, length, drop, map, refl, sym, ap, ap₂, ◌∙◌, subst, arith, Option, Some, None, append-nil, append_assoc, length-append}
use Rattle.std.specs.Prelude.{slice_get, All}
use Rattle.std.specs.Option.{option_map_or}
use Rattle.std.proofs.Math.ListN.{drop_of_length-le}
use Rattle.std.proofs.lemmas.Bool.{ne_eqb}
use Rattle.std.proofs.lemmas.List.Elements.{All-nil, All-push}
use Rattle.cnf_form.specs.declared.lit.Lit.{Lit}
use Rattle.cnf_form.specs.Lits.{same, is_in, no_twice}
use Rattle.cnf_form.specs.Shape.{Shape}
use Rattle.op_network.specs.declared.edge.EdgeId.{EdgeId}
use Rattle.op_network.specs.declared.edge.Parts.{Parts}
use Rattle.op_network.specs.declared.value.Ty.TheVariants as type
use Rattle.op_network.proofs.Typing.{typed_inside}
use Rattle.bit_blast.specs.Circuit.{Circuit, after, yes, with_entry, with_entries}
use Rattle.bit_blast.specs.Circuit as gate
use Rattle.bit_blast.specs.Made.{Makes, IsBelow}
use Rattle.bit_blast.proofs.Circuits.{after-append, after_more, with_entries-append}
use Rattle.bit_blast.proofs.Laws.{made_vars}
use Rattle.bit_blast.proofs.Made.{Within, within}
use Rattle.unroll_cnf.specs.Made.{Streams, table_of, word_at}
use Rattle.unroll_cnf.specs.Unrolled.{Table}
use Rattle.dep_paths.specs.declared.path.Obligation.{Obligation}
use Rattle.dep_paths.specs.declared.path.Obligation.TheVariants.{Bc, Ecc, Mcc, Omc}
use Rattle.dep_paths.specs.declared.path.Path.{Path}
use Rattle.dep_paths.specs.Duties.{Planned}
use Rattle.goal_cnf.specs.Goal.{adm_circuit, hits, last_lit, met_circuit}
use Rattle.goal_cnf.specs.Made.{AreLits, ArePast, CanRead, HasBitBelow, lits_of}
use Rattle.goal_cnf.proofs.Making.{SoFar, part_made, part_overfills, none_made, all_made}
use Rattle.goal_cnf.proofs.Reading.{bit_there, lits_later}

-- ---- literals once

is_in_push : (x y : Lit) (ls : List Lit) → same x y ≡ false → is_in x (ls ++ y ∷ []) ≡ is_in x ls
is_in_push x y [] ne = rw ne refl
is_in_push x y (l ∷ ls) ne = rw (is_in_push x y ls ne) refl

other_var : (x y : Lit) → (x.var ≡ y.var → ⊥) → same x y ≡ false
unfolding same
other_var x y ne = rw (ne_eqb x.var y.var ne) refl

once_push : (n : ℕ) (ls : List Lit) (l : Lit) → Within n ls → n ≤ l.var → no_twice ls ≡ true → no_twice (ls ++ l ∷ []) ≡ true
once_push n [] l w le once = refl
once_push n (x ∷ ls) l w le once =
    let ne : same x l ≡ false = other_var x l (λ e. omega (arith, w.0)) in
    ap₂ (λ a b. not a && b) (is_in_push x l ls ne) (once_push n ls l w.1 le (second (is_in x ls) (no_twice ls) once) ∙ sym (second (is_in x ls) (no_twice ls) once)) ∙ once
  where
    second : (a b : Bool) → (not a && b) ≡ true → b ≡ true
    second true b e = absurd (cc)
    second false b e = e

-- ---- what an instant reads

-- an obligation has a literal
pub some_lits : (parts : Parts) (plan : Planned) (o : Obligation) → 1 ≤ lits_of parts plan o
some_lits parts plan (Bc path) = on_path (slice_get plan.paths path)
  where
    on_path : (p : Option Path) → 1 ≤ option_map_or (λ (p : Path). length p.steps + 1) p 1
    on_path None = omega arith
    on_path (Some p) = omega arith
some_lits parts plan (Ecc path value) = on_path (slice_get plan.paths path)
  where
    on_path : (p : Option Path) → 1 ≤ option_map_or (λ (p : Path). length p.steps + 1) p 1
    on_path None = omega arith
    on_path (Some p) = omega arith
some_lits parts plan (Mcc path pin) = on_path (slice_get plan.paths path)
  where
    on_path : (p : Option Path) → 1 ≤ option_map_or (λ (p : Path). length p.steps + 1) p 1
    on_path None = omega arith
    on_path (Some p) = omega arith
some_lits parts plan (Omc condition value) = omega arith

-- the assertions have bits
pub assert_bits : (parts : Parts) (un : Streams) (t n : ℕ) → CanRead parts un t n → (asserts : List EdgeId) → asserts ≡ parts.asserts → All (HasBitBelow un t n) asserts
assert_bits parts un t n can asserts e = subst (All (HasBitBelow un t n)) (sym e) (λ j d lt. bit_there parts un t n can _ (typed_inside parts.edges _ type.Truth (can.streams.valid.asserts j d lt)))

map_at : (all : List (List (List Lit))) (t : ℕ) → t < length all → drop t (map table_of all) ≡ word_at all t ∷ drop (t + 1) (map table_of all)
map_at [] t lt = absurd (omega arith)
map_at (x ∷ all) zero lt = refl
map_at (x ∷ all) (suc t) lt = map_at all t (omega arith) ∙ ap (λ k. word_at all t ∷ drop k (table_of x ∷ map table_of all)) (let e : suc (t + 1) ≡ suc t + 1 = omega arith in e)

pub length_map : (all : List (List (List Lit))) → length (map table_of all) ≡ length all
length_map [] = refl
length_map (x ∷ all) = ap suc (length_map all)

module _ (parts : Parts) (order : List EdgeId) (plan : Planned) (o : Obligation) (all : List (List (List Lit))) where
  abbrev pub rest_of : ℕ → Option (List Lit) → Lit → ℕ → Circuit (List Lit)
  rest_of n before adm t = hits parts order plan o n before adm (drop t (map table_of all))

  -- the hits of the first instants are made
  pub record HitsSoFar (f g : Shape) (t : ℕ) (before : Option (List Lit)) (adm : Lit) (made : List Lit) : Type 0 where
    pub so_far : SoFar (List Lit) f g (hits parts order plan o f.vars None (yes 0) (map table_of all)) (rest_of g.vars before adm t) (λ r. made ++ r)
    pub past : ArePast (lits_of parts plan o) g.vars before
    pub admits : adm.var < g.vars
    pub are : AreLits t g.vars made
    pub once : no_twice made ≡ true

  pub hits_start : (f : Shape) (adm : Lit) → 0 < f.vars → adm ≡ yes 0 → HitsSoFar f f 0 None adm []
  hits_start f adm some e =
      let same = ap (λ (z : Lit). hits parts order plan o f.vars None z (map table_of all)) (sym e) in
      record {
        so_far = none_made (List Lit) f _ _ (λ r. [] ++ r) (ap (λ (z : Circuit (List Lit)). z.entries) same) (ap (λ (z : Circuit (List Lit)). z.result) same);
        past = tt;
        admits = omega (arith, ap (λ (l : Lit). l.var) e);
        are = record { size = refl; below = All-nil (λ (l : Lit). l.var < f.vars) };
        once = refl;
      }

  module _ (f g : Shape) (t : ℕ) (before : Option (List Lit)) (adm : Lit) (made : List Lit) (s : HitsSoFar f g t before adm made) (lt : t < length all) where
    abbrev now : Table
    now = word_at all t

    abbrev whole : Circuit (List Lit)
    whole = hits parts order plan o f.vars None (yes 0) (map table_of all)

    abbrev met : Circuit (List Lit)
    met = met_circuit g.vars parts order plan o now before

    abbrev joined : ℕ → Circuit Lit
    joined n = adm_circuit n now adm parts.asserts

    abbrev hit : List Lit → Lit → gate.Entry
    hit lits so = gate.And so (last_lit lits)

    abbrev later : ℕ → List Lit → Lit → Circuit (List Lit)
    later n lits so = rest_of n (Some lits) so (t + 1)

    rest_is : (rest_of g.vars before adm t) ≡ hits parts order plan o g.vars before adm (now ∷ drop (t + 1) (map table_of all))
    rest_is = ap (hits parts order plan o g.vars before adm) (map_at all t lt)

    -- where the obligation's gates don't fit
    pub met_overfills : (most : ℕ) → most < after g.vars met.entries → most < after f.vars whole.entries
    met_overfills most full =
        let n = after g.vars met.entries in
        let a = joined n in
        let v = after n a.entries in
        let rest : Circuit (List Lit) = record { entries = a.entries ++ (hit met.result a.result ∷ (later (suc v) met.result a.result).entries); result = [] } in
        part_overfills (List Lit) (List Lit) f g most whole (rest_of g.vars before adm t) rest (λ r. made ++ r) met s.so_far (ap (λ (z : Circuit (List Lit)). z.entries) rest_is) full

    module _ (g1 : Shape) (lits : List Lit) (m1 : Makes (List Lit) g g1 met lits) where
      -- where those of the assertions don't
      pub joined_overfills : (most : ℕ) → most < after g1.vars (joined g1.vars).entries → most < after f.vars whole.entries
      joined_overfills most full =
          let n = after g.vars met.entries in
          let a = joined n in
          let v = after n a.entries in
          let both : Circuit Lit = record { entries = met.entries ++ a.entries; result = a.result } in
          let rest : Circuit (List Lit) = record { entries = hit met.result a.result ∷ (later (suc v) met.result a.result).entries; result = [] } in
          part_overfills (List Lit) Lit f g most whole (rest_of g.vars before adm t) rest (λ r. made ++ r) both s.so_far
          (ap (λ (z : Circuit (List Lit)). z.entries) rest_is ∙ sym (append_assoc met.entries a.entries rest.entries))
          (omega (arith, full, after-append g.vars met.entries a.entries, ap (λ k. after k (joined k).entries) (made_vars (List Lit) g g1 met lits m1)))

      module _ (g2 : Shape) (so : Lit) (m2 : Makes Lit g1 g2 (joined g1.vars) so) where
        vars1 : g1.vars ≡ after g.vars met.entries
        vars1 = made_vars (List Lit) g g1 met lits m1

        vars2 : g2.vars ≡ after g1.vars (joined g1.vars).entries
        vars2 = made_vars Lit g1 g2 (joined g1.vars) so m2

        -- where the hit itself doesn't
        pub hit_overfills : (most : ℕ) → most ≤ g2.vars → most < after f.vars whole.entries
        hit_overfills most full =
            let n = after g.vars met.entries in
            let a = joined n in
            let v = after n a.entries in
            let three : Circuit Lit = record { entries = met.entries ++ (a.entries ++ hit met.result a.result ∷ []); result = yes v } in
            let rest = later (suc v) met.result a.result in
            part_overfills (List Lit) Lit f g most whole (rest_of g.vars before adm t) rest (λ r. made ++ r) three s.so_far
            (ap (λ (z : Circuit (List Lit)). z.entries) rest_is
            ∙ (ap (λ (z : List gate.Entry). met.entries ++ z) (sym (append_assoc a.entries (hit met.result a.result ∷ []) rest.entries))
            ∙ sym (append_assoc met.entries (a.entries ++ hit met.result a.result ∷ []) rest.entries)))
            (omega (
              arith,
              full,
              after-append g.vars met.entries (a.entries ++ hit met.result a.result ∷ []),
              after-append n a.entries (hit met.result a.result ∷ []),
              vars2,
              ap (λ k. after k (joined k).entries) vars1,
            ))

        pub hits_next : (h : Shape) (lit : Lit) (longer : List Lit) → AreLits (lits_of parts plan o) g1.vars lits → g1.vars ≤ g2.vars → so.var < g2.vars → h ≡ with_entry g2 (hit lits so) → lit ≡ yes g2.vars → longer ≡ made ++ lit ∷ [] → HitsSoFar f h (t + 1) (Some lits) so longer
        hits_next h lit longer are le below e r l =
            let n = after g.vars met.entries in
            let a = joined n in
            let v = after n a.entries in
            let three : Circuit Lit = record { entries = met.entries ++ (a.entries ++ hit met.result a.result ∷ []); result = yes v } in
            let rest = later (suc v) met.result a.result in
            let next = later h.vars lits so in
            let same_a : joined g1.vars ≡ a = ap joined vars1 in
            let at_v : g2.vars ≡ v = vars2 ∙ ap (λ k. after k (joined k).entries) vars1 in
            let h_vars : h.vars ≡ suc g2.vars = ap (λ (z : Shape). z.vars) e in
            let so_is : so ≡ a.result = m2.gives ∙ ap (λ (z : Circuit Lit). z.result) same_a in
            let same_rest : rest ≡ next = ap (λ k. later k met.result a.result) (sym (h_vars ∙ ap suc at_v)) ∙ ap₂ (later h.vars) (sym m1.gives) (sym so_is) in
            let makes : Makes Lit g h three lit = record {
              made = e ∙ (ap₂ (λ (x : List Lit) (y : Lit). with_entry g2 (hit x y)) m1.gives so_is
                  ∙ (ap (λ (x : Shape). with_entry x (hit met.result a.result)) (m2.made ∙ ap₂ (λ (x : Shape) (z : Circuit Lit). with_entries x z.entries) m1.made same_a)
                  ∙ (sym (with_entries-append (with_entries g met.entries) a.entries (hit met.result a.result ∷ []))
                  ∙ sym (with_entries-append g met.entries (a.entries ++ hit met.result a.result ∷ [])))));
              gives = r ∙ ap yes at_v;
            } in
            let up : g.vars ≤ g2.vars = omega (arith, vars1, after_more g.vars met.entries) in
            record {
              so_far = part_made (List Lit) Lit f g h whole (rest_of g.vars before adm t) next (λ z. made ++ z) (λ z. longer ++ z) three lit s.so_far makes
                  (ap (λ (z : Circuit (List Lit)). z.entries) rest_is
                  ∙ (ap (λ (z : List gate.Entry). met.entries ++ z) (sym (append_assoc a.entries (hit met.result a.result ∷ []) rest.entries))
                  ∙ (sym (append_assoc met.entries (a.entries ++ hit met.result a.result ∷ []) rest.entries)
                  ∙ ap (λ (z : Circuit (List Lit)). three.entries ++ z.entries) same_rest)))
                  (ap (λ (z : Circuit (List Lit)). made ++ z.result) rest_is
                  ∙ (ap₂ (λ (x : Lit) (z : Circuit (List Lit)). made ++ x ∷ z.result) (sym makes.gives) same_rest
                  ∙ (sym (append_assoc made (lit ∷ []) next.result) ∙ ap (λ (z : List Lit). z ++ next.result) (sym l))));
              past = lits_later (lits_of parts plan o) g1.vars h.vars lits are (omega (arith, h_vars));
              admits = omega (arith, h_vars);
              are = record {
                size = ap length l ∙ omega (arith, length-append made (lit ∷ []), s.are.size);
                below = subst (IsBelow h.vars) (sym l) (All-push (λ (x : Lit). x.var < h.vars) made lit (lits_later t g.vars h.vars made s.are (omega (arith, h_vars))).below (omega (arith, ap (λ (x : Lit). x.var) r, h_vars)));
              };
              once = ap no_twice l ∙ once_push g.vars made lit (within g.vars made s.are.below) (omega (arith, ap (λ (x : Lit). x.var) r)) s.once;
            }

  pub hits_made : (f g : Shape) (t : ℕ) (before : Option (List Lit)) (adm : Lit) (made : List Lit) → HitsSoFar f g t before adm made → length all ≤ t → Makes (List Lit) f g (hits parts order plan o f.vars None (yes 0) (map table_of all)) made
  hits_made f g t before adm made s le =
      let none = ap (hits parts order plan o g.vars before adm) (drop_of_length-le (map table_of all) (omega (arith, length_map all))) in
      all_made (List Lit) f g _ _ (λ r. made ++ r) made s.so_far (ap (λ (z : Circuit (List Lit)). z.entries) none) (sym (append-nil made) ∙ ap (λ (z : Circuit (List Lit)). made ++ z.result) (sym none))
