-- What the source's streams say of a network: an expression's own edges have streams.
use Rattle.std.proofs.Common.{Bool, List, None, Some, [], ap, append_assoc, ap₂, arith, false, flat_map, if◌then◌else◌, is_some, length, length-append, map, pos, refl, replicate, subst, suc, sym, true, zero, ℕ, ◌++◌, ◌+◌, ◌∙◌, ◌∷◌, ◌≡◌}
use Rattle.std.proofs.lemmas.List.{length-map, length-replicate, map-append}
use Rattle.lus_syntax.specs.declared.ast.Expr.{Expr}
use Rattle.lus_types.specs.Names.{Name}
use Rattle.lus_types.specs.Programs.{Node, Program, constant_named, names, or_truth, type_in, type_of_name}
use Rattle.op_network.specs.Operators.{binary_value, if_value, unary_value}
use Rattle.op_network.specs.Values.{default, wrap}
use Rattle.op_network.specs.declared.value.Ty.{Ty}
use Rattle.op_network.specs.declared.value.Value.{Value}
use Rattle.op_network.specs.declared.value.Value.TheVariants.{Truth, Word}
use Rattle.node_expand.specs.Counts.{has_edge, has_edge_level, nodes_called, nodes_called_level, own_count, own_count_level}
use Rattle.node_expand.specs.Fragments.{Call, Callees, Fragment, Places, first_place, fragment, name_fragment, nodes_of, place_all, place_level, place_of, size_of_all, total}
use Rattle.node_expand.specs.Names.{constant_in, unless_variable}
use Rattle.node_expand.specs.NodeRuns.{HasStreams, HaveStreams, Runs, Streams, has_arrow, has_binary, has_call, has_constant, has_if, has_number, has_pre, has_truth, has_unary, has_variable, have_more, have_none, runs}
use Rattle.node_expand.specs.Streams.{HaveLength, Stream, arrow_stream, binary_stream, pre_stream, ternary_stream}
use Rattle.node_expand.proofs.Counted.{calls_counted, own_counted}
use Rattle.node_expand.proofs.Folds.{folded_call, folded_if, folded_name, folded_number, folded_one, folded_truth, folded_two}
use Rattle.node_expand.proofs.FragmentTypes.{fragment_type}
use Rattle.node_expand.proofs.Holding.{Columns, HoldGates, binary_gate, gates_append, unary_gate}
use Rattle.node_expand.proofs.Lists.{all_append, all_left, all_right}
use Rattle.lus_syntax.specs.declared.ast.BinOp.TheVariants as bino
use Rattle.lus_syntax.specs.declared.ast.UnOp.TheVariants as uno

-- streams of so many values
pub pair_long : (n : ℕ) (f : Value → Value → Value) (s r : Stream) → length s ≡ n → length r ≡ n → length (binary_stream f s r) ≡ n
pair_long n f [] r h k = h
pair_long n f (v ∷ s) [] h k = absurd (omega (arith, h, k))
pair_long zero f (v ∷ s) (w ∷ r) h k = absurd (omega (arith, h))
pair_long (suc n) f (v ∷ s) (w ∷ r) h k = ap suc (pair_long n f s r (omega (arith, h)) (omega (arith, k)))

pub three_long : (n : ℕ) (f : Value → Value → Value → Value) (s r q : Stream) → length s ≡ n → length r ≡ n
    → length q ≡ n → length (ternary_stream f s r q) ≡ n
three_long n f [] r q h k l = h
three_long n f (v ∷ s) [] q h k l = absurd (omega (arith, h, k))
three_long n f (v ∷ s) (w ∷ r) [] h k l = absurd (omega (arith, h, l))
three_long zero f (v ∷ s) (w ∷ r) (x ∷ q) h k l = absurd (omega (arith, h))
three_long (suc n) f (v ∷ s) (w ∷ r) (x ∷ q) h k l = ap suc (three_long n f s r q (omega (arith, h)) (omega (arith, k)) (omega (arith, l)))

pub arrow_long : (n : ℕ) (s r : Stream) → length s ≡ n → length r ≡ n → length (arrow_stream s r) ≡ n
arrow_long n [] r h k = h
arrow_long n (v ∷ s) [] h k = absurd (omega (arith, h, k))
arrow_long n (v ∷ s) (w ∷ r) h k = k

pub pre_long : (v : Value) (s : Stream) → length (pre_stream v s) ≡ length s
pre_long v [] = refl
pre_long v (w ∷ s) = ap suc (pre_long w s)

-- the outputs of a run are so long
pub outputs_long : {program : Program} {n : ℕ} {g : Name} {ins outs checks : List Stream}
    → Runs program n g ins outs checks → HaveLength n outs
outputs_long {n = n} (runs {node = node} of found long all) =
    let parts : HaveLength n (map of (names node.inputs) ++ (map of (names node.outputs) ++ map of (names node.locals))) =
    subst (HaveLength n) (ap (map of) (map-append (λ v. v.name) node.inputs _ ∙ ap (λ l. names node.inputs ++ l) (map-append (λ v. v.name) node.outputs node.locals)) ∙ map-append of (names node.inputs) _ ∙ ap (λ l. map of (names node.inputs) ++ l) (map-append of (names node.outputs) (names node.locals))) long in
    all_left _ (map of (names node.outputs)) (map of (names node.locals)) (all_right _ (map of (names node.inputs)) _ parts)

-- a run of a called node
pub record Calling (program : Program) (n : ℕ) : Type 0 where
  pub node : Name
  pub ins : List Stream
  pub outs : List Stream
  pub checks : List Stream
  pub run : Runs program n node ins outs checks

-- from this place on edges have these streams
abbrev pub At : Columns → ℕ → List Stream → Type 0
At col at [] = Unit {0}
At col at (s ∷ streams) = (col at ≡ s) × At col (suc at) streams

pub at_place : (col : Columns) (streams : List Stream) {i j : ℕ} → i ≡ j → At col i streams → At col j streams
at_place col streams e h = subst (λ i. At col i streams) e h

pub at_left : (col : Columns) (at : ℕ) (xs ys : List Stream) → At col at (xs ++ ys) → At col at xs
at_left col at [] ys h = tt
at_left col at (x ∷ xs) ys h = (h.0, at_left col (suc at) xs ys h.1)

pub at_right : (col : Columns) (at : ℕ) (xs ys : List Stream) → At col at (xs ++ ys) → At col (at + length xs) ys
at_right col at [] ys h = at_place col ys (omega arith) h
at_right col at (x ∷ xs) ys h = at_place col ys (omega arith) (at_right col (suc at) xs ys h.1)

-- the stream of a single value
pub only : (col : Columns) (values : List ℕ) (s : Stream) → map col values ≡ s ∷ [] → col (first_place values) ≡ s
only col [] s e = absurd (cc e)
only col (v ∷ values) s e = cc e

module _ (program : Program) (n : ℕ) where
  abbrev pub runners : List (Calling program n) → List Name
  runners calls = map (λ (r : Calling program n). r.node) calls

  abbrev pub checks_of : List (Calling program n) → List Stream
  checks_of calls = flat_map (λ (r : Calling program n). r.checks) calls

  -- the instances that begin at this place have the results of these runs
  abbrev pub Results : Callees → Columns → ℕ → List (Calling program n) → Type 0
  Results callees col start [] = Unit {0}
  Results callees col start (r ∷ calls) = (map col (callees.results r.node start) ≡ r.outs) × Results callees col (start + callees.size r.node) calls

  -- these calls are of the nodes and over the arguments of these runs
  abbrev pub Matches : Columns → List Call → List (Calling program n) → Type 0
  Matches col [] [] = Unit {0}
  Matches col [] (r ∷ more) = ⊥
  Matches col (c ∷ calls) [] = ⊥
  Matches col (c ∷ calls) (r ∷ more) = ((c.node ≡ r.node) × (map col c.args ≡ r.ins)) × Matches col calls more

  pub checks_join : (xs ys : List (Calling program n)) → checks_of (xs ++ ys) ≡ checks_of xs ++ checks_of ys
  checks_join [] ys = refl
  checks_join (x ∷ xs) ys = ap (λ l. x.checks ++ l) (checks_join xs ys) ∙ sym (append_assoc x.checks _ _)

  pub results_left : (callees : Callees) (col : Columns) (start : ℕ) (xs ys : List (Calling program n))
      → Results callees col start (xs ++ ys) → Results callees col start xs
  results_left callees col start [] ys h = tt
  results_left callees col start (x ∷ xs) ys h = (h.0, results_left callees col (start + callees.size x.node) xs ys h.1)

  pub results_right : (callees : Callees) (col : Columns) (start : ℕ) (xs ys : List (Calling program n))
      → Results callees col start (xs ++ ys) → Results callees col (start + size_of_all callees (runners xs)) ys
  results_right callees col start [] ys h = subst (λ k. Results callees col k ys) (omega arith) h
  results_right callees col start (x ∷ xs) ys h = subst (λ k. Results callees col k ys) (omega arith) (results_right callees col (start + callees.size x.node) xs ys h.1)

  pub matches_append : (col : Columns) (calls more : List Call) (xs ys : List (Calling program n))
      → Matches col calls xs → Matches col more ys → Matches col (calls ++ more) (xs ++ ys)
  matches_append col [] more [] ys h k = k
  matches_append col [] more (x ∷ xs) ys h k = absurd h
  matches_append col (c ∷ calls) more [] ys h k = absurd h
  matches_append col (c ∷ calls) more (x ∷ xs) ys h k = (h.0, matches_append col calls more xs ys h.1 k)

  -- a node's variables have streams so long
  module _ (node : Node) (of : Streams) (long : (x : Name) (ty : Ty) → type_in node x ≡ Some ty → length (of x) ≡ n) (callees : Callees) where
    -- a network's streams, in which the variables' edges have the variables' streams
    pub record World : Type 0 where
      pub table : Places
      pub ins : List Stream
      pub col : Columns
      pub bound : (x : Name) (ty : Ty) → type_in node x ≡ Some ty → col (place_of table x) ≡ of x

    -- where own edges have these streams, and the instances the results of these runs, the own edges
    -- hold, the values have the expression's streams, and the calls are those of the runs
    abbrev pub Good : World → List Stream → List Stream → List (Calling program n) → ℕ → ℕ → Fragment → Type 0
    Good w streams own calls at inner m =
        At w.col at own → Results callees w.col inner calls
        → HoldGates program.width n w.ins w.col at m.own × (map w.col m.values ≡ streams) × Matches w.col m.calls calls

    pub record Trace (e : Expr) (streams checks : List Stream) : Type 0 where
      pub own : List Stream
      pub calls : List (Calling program n)
      pub long_values : HaveLength n streams
      pub long_own : HaveLength n own
      pub count : length own ≡ own_count program node e
      pub called_by : runners calls ≡ nodes_called e
      pub checked : checks ≡ checks_of calls
      pub head : has_edge program node e ≡ true → (s : Stream) × (rest : List Stream) × (own ≡ s ∷ rest) × (streams ≡ s ∷ [])
      pub good : (w : World) (at inner : ℕ) → Good w streams own calls at inner (fragment program node callees w.table e at inner)

    pub record Traces (es : List Expr) (streams checks : List Stream) : Type 0 where
      pub own : List Stream
      pub calls : List (Calling program n)
      pub long_own : HaveLength n own
      pub count : length own ≡ total (map (own_count program node) es)
      pub called_by : runners calls ≡ flat_map (λ names. names) (map nodes_called es)
      pub checked : checks ≡ checks_of calls
      pub good : (w : World) (at inner : ℕ)
          → Good w streams own calls at inner (place_all program node callees w.table (map (fragment program node callees w.table) es) at inner)

    -- where the second of two parts begins
    behind_own : {e : Expr} {streams checks : List Stream} (t : Trace e streams checks) (w : World) (at at' inner : ℕ)
        → at + length t.own ≡ at + length (fragment program node callees w.table e at' inner).own
    behind_own {e = e} t w at at' inner = ap (λ k. at + k) (t.count ∙ sym (own_counted program node callees w.table e at' inner))

    behind_calls : {e : Expr} {streams checks : List Stream} (t : Trace e streams checks) (w : World) (at inner : ℕ)
        → inner + size_of_all callees (runners t.calls) ≡ inner + size_of_all callees (nodes_of (fragment program node callees w.table e at inner).calls)
    behind_calls {e = e} t w at inner = ap (λ l. inner + size_of_all callees l) (t.called_by ∙ sym (calls_counted program node callees w.table e at inner))

    not_own : {A : Type 0} {b : Bool} → b ≡ false → b ≡ true → A
    not_own f t = let g : false ≡ true = sym f ∙ t in absurd (cc g)

    mutual
      pub trace : {e : Expr} {streams checks : List Stream} → HasStreams program n node of e streams checks → Trace e streams checks
      trace {e} (has_variable x ty k h) =
          let none : constant_in program node x ≡ None = ap (λ o. unless_variable o (constant_named program x)) h in
          record {
            own = [];
            calls = [];
            long_values = (long x ty h, tt);
            long_own = tt;
            count = sym (folded_name (own_count_level program node) e x k ∙ ap (λ c. if is_some c then 1 else 0) none);
            called_by = sym (folded_name nodes_called_level e x k);
            checked = refl;
            head = not_own (folded_name (has_edge_level program node) e x k ∙ ap is_some none);
            good = λ w at inner. subst (Good w (of x ∷ []) [] [] at inner)
                (sym (ap (λ m. m at inner) (folded_name (place_level program node callees w.table) e x k) ∙ ap (λ c. name_fragment c (or_truth (type_of_name program node x)) (place_of w.table x) at) none))
                (λ own results. (tt, ap (λ s. s ∷ []) (w.bound x ty h), tt));
          }
      trace {e} (has_constant x c k h) = record {
        own = replicate n c.value ∷ [];
        calls = [];
        long_values = (length-replicate n c.value, tt);
        long_own = (length-replicate n c.value, tt);
        count = sym (folded_name (own_count_level program node) e x k ∙ ap (λ o. if is_some o then 1 else 0) h);
        called_by = sym (folded_name nodes_called_level e x k);
        checked = refl;
        head = λ own. (replicate n c.value, [], refl, refl);
        good = λ w at inner. subst (Good w (replicate n c.value ∷ []) (replicate n c.value ∷ []) [] at inner)
            (sym (ap (λ m. m at inner) (folded_name (place_level program node callees w.table) e x k) ∙ ap (λ o. name_fragment o (or_truth (type_of_name program node x)) (place_of w.table x) at) h))
            (λ own results. ((own.0, tt), ap (λ s. s ∷ []) own.0, tt));
      }
      trace {e} (has_number x k) =
          let v : Stream = replicate n (Word (wrap program.width (pos x))) in
          record {
            own = v ∷ [];
            calls = [];
            long_values = (length-replicate n (Word (wrap program.width (pos x))), tt);
            long_own = (length-replicate n (Word (wrap program.width (pos x))), tt);
            count = sym (folded_number (own_count_level program node) e x k);
            called_by = sym (folded_number nodes_called_level e x k);
            checked = refl;
            head = λ own. (v, [], refl, refl);
            good = λ w at inner. subst (Good w (v ∷ []) (v ∷ []) [] at inner) (sym (ap (λ m. m at inner) (folded_number (place_level program node callees w.table) e x k)))
                (λ own results. ((own.0, tt), ap (λ s. s ∷ []) own.0, tt));
          }
      trace {e} (has_truth b k) =
          let v : Stream = replicate n (Truth b) in
          record {
            own = v ∷ [];
            calls = [];
            long_values = (length-replicate n (Truth b), tt);
            long_own = (length-replicate n (Truth b), tt);
            count = sym (folded_truth (own_count_level program node) e b k);
            called_by = sym (folded_truth nodes_called_level e b k);
            checked = refl;
            head = λ own. (v, [], refl, refl);
            good = λ w at inner. subst (Good w (v ∷ []) (v ∷ []) [] at inner) (sym (ap (λ m. m at inner) (folded_truth (place_level program node callees w.table) e b k)))
                (λ own results. ((own.0, tt), ap (λ s. s ∷ []) own.0, tt));
          }
      trace {e} (has_unary {s = s} op o a k is p) =
          let t = trace p in
          let r : Stream = map (unary_value program.width o) s in
          let size : length r ≡ n = length-map s (unary_value program.width o) ∙ t.long_values.0 in
          record {
            own = r ∷ t.own;
            calls = t.calls;
            long_values = (size, tt);
            long_own = (size, t.long_own);
            count = ap suc t.count ∙ sym (folded_one (own_count_level program node) e a op k);
            called_by = t.called_by ∙ sym (folded_one nodes_called_level e a op k);
            checked = t.checked;
            head = λ own. (r, t.own, refl, refl);
            good = λ w at inner.
                subst (Good w (r ∷ []) (r ∷ t.own) t.calls at inner) (sym (ap (λ m. m at inner) (folded_one (place_level program node callees w.table) e a op k)))
                (λ own results.
                let m = fragment program node callees w.table a (suc at) inner in
                let f = t.good w (suc at) inner own.1 results in
                ((own.0 ∙ ap (map (unary_value program.width o)) (sym (only w.col m.values s f.1)) ∙ sym (unary_gate program.width n w.ins w.col op o _ _ is), f.0), ap (λ u. u ∷ []) own.0, f.2));
          }
      trace {e} (has_pre {s = s} ty a k typed p) =
          let t = trace p in
          let r : Stream = pre_stream (default ty) s in
          let size : length r ≡ n = pre_long (default ty) s ∙ t.long_values.0 in
          record {
            own = r ∷ t.own;
            calls = t.calls;
            long_values = (size, tt);
            long_own = (size, t.long_own);
            count = ap suc t.count ∙ sym (folded_one (own_count_level program node) e a uno.Pre k);
            called_by = t.called_by ∙ sym (folded_one nodes_called_level e a uno.Pre k);
            checked = t.checked;
            head = λ own. (r, t.own, refl, refl);
            good = λ w at inner.
                subst (Good w (r ∷ []) (r ∷ t.own) t.calls at inner) (sym (ap (λ m. m at inner) (folded_one (place_level program node callees w.table) e a uno.Pre k)))
                (λ own results.
                let m = fragment program node callees w.table a (suc at) inner in
                let f = t.good w (suc at) inner own.1 results in
                let same_type : m.ty ≡ ty = fragment_type program node callees w.table typed (suc at) inner in
                ((own.0 ∙ ap₂ (λ u v. pre_stream (default u) v) (sym same_type) (sym (only w.col m.values s f.1)), f.0), ap (λ u. u ∷ []) own.0, f.2));
          }
      trace {e} (has_binary {s = s} {r = r} op o a b k is p q) =
          let t = trace p in
          let u = trace q in
          let v : Stream = binary_stream (binary_value program.width o) s r in
          record {
            own = v ∷ (t.own ++ u.own);
            calls = t.calls ++ u.calls;
            long_values = (pair_long n (binary_value program.width o) s r t.long_values.0 u.long_values.0, tt);
            long_own = (pair_long n (binary_value program.width o) s r t.long_values.0 u.long_values.0, all_append _ t.own u.own t.long_own u.long_own);
            count = ap suc (length-append t.own u.own ∙ ap₂ (λ i j. i + j) t.count u.count)
                ∙ sym (folded_two (own_count_level program node) e a b op k);
            called_by = map-append (λ x. x.node) t.calls u.calls ∙ ap₂ (λ i j. i ++ j) t.called_by u.called_by
                ∙ sym (folded_two nodes_called_level e a b op k);
            checked = ap₂ (λ i j. i ++ j) t.checked u.checked ∙ sym (checks_join t.calls u.calls);
            head = λ own. (v, t.own ++ u.own, refl, refl);
            good = λ w at inner.
                subst (Good w (v ∷ []) (v ∷ (t.own ++ u.own)) (t.calls ++ u.calls) at inner) (sym (ap (λ m. m at inner) (folded_two (place_level program node callees w.table) e a b op k)))
                (λ own results.
                let m = fragment program node callees w.table a (suc at) inner in
                let x = fragment program node callees w.table b (suc at + length m.own) (inner + size_of_all callees (nodes_of m.calls)) in
                let f = t.good w (suc at) inner (at_left w.col (suc at) t.own u.own own.1) (results_left callees w.col inner t.calls u.calls results) in
                let g = u.good w (suc at + length m.own) (inner + size_of_all callees (nodes_of m.calls))
                (at_place w.col u.own (behind_own t w (suc at) (suc at) inner) (at_right w.col (suc at) t.own u.own own.1))
                (subst (λ i. Results callees w.col i u.calls) (behind_calls t w (suc at) inner) (results_right callees w.col inner t.calls u.calls results)) in (
                  (own.0 ∙ ap₂ (λ i j. binary_stream (binary_value program.width o) i j) (sym (only w.col m.values s f.1)) (sym (only w.col x.values r g.1)) ∙ sym (binary_gate program.width n w.ins w.col op o _ _ _ is), gates_append program.width n w.ins w.col (suc at) m.own x.own f.0 g.0),
                  ap (λ i. i ∷ []) own.0,
                  matches_append w.col m.calls x.calls t.calls u.calls f.2 g.2,
                ));
          }
      trace {e} (has_arrow {s = s} {r = r} a b k p q) =
          let t = trace p in
          let u = trace q in
          let v : Stream = arrow_stream s r in
          record {
            own = v ∷ (t.own ++ u.own);
            calls = t.calls ++ u.calls;
            long_values = (arrow_long n s r t.long_values.0 u.long_values.0, tt);
            long_own = (arrow_long n s r t.long_values.0 u.long_values.0, all_append _ t.own u.own t.long_own u.long_own);
            count = ap suc (length-append t.own u.own ∙ ap₂ (λ i j. i + j) t.count u.count)
                ∙ sym (folded_two (own_count_level program node) e a b bino.Arrow k);
            called_by = map-append (λ x. x.node) t.calls u.calls ∙ ap₂ (λ i j. i ++ j) t.called_by u.called_by
                ∙ sym (folded_two nodes_called_level e a b bino.Arrow k);
            checked = ap₂ (λ i j. i ++ j) t.checked u.checked ∙ sym (checks_join t.calls u.calls);
            head = λ own. (v, t.own ++ u.own, refl, refl);
            good = λ w at inner.
                subst (Good w (v ∷ []) (v ∷ (t.own ++ u.own)) (t.calls ++ u.calls) at inner) (sym (ap (λ m. m at inner) (folded_two (place_level program node callees w.table) e a b bino.Arrow k)))
                (λ own results.
                let m = fragment program node callees w.table a (suc at) inner in
                let x = fragment program node callees w.table b (suc at + length m.own) (inner + size_of_all callees (nodes_of m.calls)) in
                let f = t.good w (suc at) inner (at_left w.col (suc at) t.own u.own own.1) (results_left callees w.col inner t.calls u.calls results) in
                let g = u.good w (suc at + length m.own) (inner + size_of_all callees (nodes_of m.calls))
                (at_place w.col u.own (behind_own t w (suc at) (suc at) inner) (at_right w.col (suc at) t.own u.own own.1))
                (subst (λ i. Results callees w.col i u.calls) (behind_calls t w (suc at) inner) (results_right callees w.col inner t.calls u.calls results)) in (
                  (own.0 ∙ ap₂ (λ i j. arrow_stream i j) (sym (only w.col m.values s f.1)) (sym (only w.col x.values r g.1)), gates_append program.width n w.ins w.col (suc at) m.own x.own f.0 g.0),
                  ap (λ i. i ∷ []) own.0,
                  matches_append w.col m.calls x.calls t.calls u.calls f.2 g.2,
                ));
          }
      trace {e} (has_if {s = s} {r = r} {q = z} a b c k p q y) =
          let t = trace p in
          let u = trace q in
          let l = trace y in
          let v : Stream = ternary_stream if_value s r z in
          record {
            own = v ∷ (t.own ++ (u.own ++ l.own));
            calls = t.calls ++ (u.calls ++ l.calls);
            long_values = (three_long n if_value s r z t.long_values.0 u.long_values.0 l.long_values.0, tt);
            long_own = (three_long n if_value s r z t.long_values.0 u.long_values.0 l.long_values.0, all_append _ t.own (u.own ++ l.own) t.long_own (all_append _ u.own l.own u.long_own l.long_own));
            count = ap suc (length-append t.own (u.own ++ l.own) ∙ ap₂ (λ i j. i + j) t.count (length-append u.own l.own ∙ ap₂ (λ i j. i + j) u.count l.count))
                ∙ sym (folded_if (own_count_level program node) e a b c k);
            called_by = map-append (λ x. x.node) t.calls (u.calls ++ l.calls)
                ∙ ap₂ (λ i j. i ++ j) t.called_by (map-append (λ x. x.node) u.calls l.calls ∙ ap₂ (λ i j. i ++ j) u.called_by l.called_by)
                ∙ sym (folded_if nodes_called_level e a b c k);
            checked = ap₂ (λ i j. i ++ j) t.checked (ap₂ (λ i j. i ++ j) u.checked l.checked ∙ sym (checks_join u.calls l.calls))
                ∙ sym (checks_join t.calls (u.calls ++ l.calls));
            head = λ own. (v, t.own ++ (u.own ++ l.own), refl, refl);
            good = λ w at inner.
                subst (Good w (v ∷ []) (v ∷ (t.own ++ (u.own ++ l.own))) (t.calls ++ (u.calls ++ l.calls)) at inner) (sym (ap (λ m. m at inner) (folded_if (place_level program node callees w.table) e a b c k)))
                (λ own results.
                let m = fragment program node callees w.table a (suc at) inner in
                let at' = suc at + length m.own in
                let inner' = inner + size_of_all callees (nodes_of m.calls) in
                let x = fragment program node callees w.table b at' inner' in
                let o = fragment program node callees w.table c (at' + length x.own) (inner' + size_of_all callees (nodes_of x.calls)) in
                let f = t.good w (suc at) inner (at_left w.col (suc at) t.own (u.own ++ l.own) own.1) (results_left callees w.col inner t.calls (u.calls ++ l.calls) results) in
                let rest = at_place w.col (u.own ++ l.own) (behind_own t w (suc at) (suc at) inner) (at_right w.col (suc at) t.own (u.own ++ l.own) own.1) in
                let more = subst (λ i. Results callees w.col i (u.calls ++ l.calls)) (behind_calls t w (suc at) inner) (results_right callees w.col inner t.calls (u.calls ++ l.calls) results) in
                let g = u.good w at' inner' (at_left w.col at' u.own l.own rest) (results_left callees w.col inner' u.calls l.calls more) in
                let h = l.good w (at' + length x.own) (inner' + size_of_all callees (nodes_of x.calls))
                (at_place w.col l.own (behind_own u w at' at' inner') (at_right w.col at' u.own l.own rest))
                (subst (λ i. Results callees w.col i l.calls) (behind_calls u w at' inner') (results_right callees w.col inner' u.calls l.calls more)) in (
                  (
                    own.0
                        ∙ ap₂ (λ i j. ternary_stream if_value i j z) (sym (only w.col m.values s f.1)) (sym (only w.col x.values r g.1))
                        ∙ ap (λ i. ternary_stream if_value (w.col (first_place m.values)) (w.col (first_place x.values)) i) (sym (only w.col o.values z h.1)),
                    gates_append program.width n w.ins w.col (suc at) m.own (x.own ++ o.own) f.0 (gates_append program.width n w.ins w.col at' x.own o.own g.0 h.0),
                  ),
                  ap (λ i. i ∷ []) own.0,
                  matches_append w.col m.calls (x.calls ++ o.calls) t.calls (u.calls ++ l.calls) f.2 (matches_append w.col x.calls o.calls u.calls l.calls g.2 h.2),
                ));
          }
      trace {e} (has_call {ins = ins} {outs = outs} {inner = under} g args k ps run) =
          let t = traces ps in
          record {
            own = t.own;
            calls = record { node = g; ins = ins; outs = outs; checks = under; run = run } ∷ t.calls;
            long_values = outputs_long run;
            long_own = t.long_own;
            count = t.count ∙ sym (folded_call (own_count_level program node) e g args k);
            called_by = ap (λ l. g ∷ l) t.called_by ∙ sym (folded_call nodes_called_level e g args k);
            checked = ap (λ l. under ++ l) t.checked;
            head = not_own (folded_call (has_edge_level program node) e g args k);
            good = λ w at inner.
                subst (Good w outs t.own (record { node = g; ins = ins; outs = outs; checks = under; run = run } ∷ t.calls) at inner) (sym (ap (λ m. m at inner) (folded_call (place_level program node callees w.table) e g args k)))
                (λ own results.
                let f = t.good w at (inner + callees.size g) own results.1 in
                (f.0, results.0, ((refl, f.1), f.2)));
          }

      pub traces : {es : List Expr} {streams checks : List Stream} → HaveStreams program n node of es streams checks
          → Traces es streams checks
      traces have_none = record { own = []; calls = []; long_own = tt; count = refl; called_by = refl; checked = refl; good = λ w at inner own results. (tt, refl, tt) }
      traces (have_more {e = e} {es = es} {s = s} {streams = streams} p ps) =
          let t = trace p in
          let u = traces ps in
          record {
            own = t.own ++ u.own;
            calls = t.calls ++ u.calls;
            long_own = all_append _ t.own u.own t.long_own u.long_own;
            count = length-append t.own u.own ∙ ap₂ (λ i j. i + j) t.count u.count;
            called_by = map-append (λ x. x.node) t.calls u.calls ∙ ap₂ (λ i j. i ++ j) t.called_by u.called_by;
            checked = ap₂ (λ i j. i ++ j) t.checked u.checked ∙ sym (checks_join t.calls u.calls);
            good = λ w at inner own results.
                let m = fragment program node callees w.table e at inner in
                let x = place_all program node callees w.table (map (fragment program node callees w.table) es) (at + length m.own) (inner + size_of_all callees (nodes_of m.calls)) in
                let f = t.good w at inner (at_left w.col at t.own u.own own) (results_left callees w.col inner t.calls u.calls results) in
                let g = u.good w (at + length m.own) (inner + size_of_all callees (nodes_of m.calls))
                (at_place w.col u.own (behind_own t w at at inner) (at_right w.col at t.own u.own own))
                (subst (λ i. Results callees w.col i u.calls) (behind_calls t w at inner) (results_right callees w.col inner t.calls u.calls results)) in (
                  gates_append program.width n w.ins w.col at m.own x.own f.0 g.0,
                  ap₂ (λ i j. i ∷ j) (only w.col m.values s f.1) g.1,
                  matches_append w.col m.calls x.calls t.calls u.calls f.2 g.2,
                );
          }
