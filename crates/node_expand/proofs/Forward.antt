-- What a network's streams say of the source: each node runs with the streams of its edges.
use Rattle.std.proofs.Common.{List, None, Option, Some, [], ap, append_assoc, ap₂, arith, length, map, refl, subst, suc, sym, ℕ, ◌++◌, ◌+◌, ◌∙◌, ◌∷◌, ◌≡◌}
use Rattle.std.proofs.lemmas.List.{length-map, map-append}
use Rattle.lus_syntax.specs.declared.ast.Expr.{Expr}
use Rattle.lus_types.specs.Names.{Name, means}
use Rattle.lus_types.specs.ProgramTypes.{HasTypes, HaveTypes, more_types, no_types, types_arrow, types_binary, types_call, types_if, types_name, types_number, types_pre, types_truth, types_unary}
use Rattle.lus_types.specs.Programs.{Node, Program, constant_with, names, or_outer, or_truth, type_in, type_of_name, types}
use Rattle.lus_types.specs.declared.types.Constant.{Constant}
use Rattle.op_network.specs.Values.{default}
use Rattle.op_network.specs.declared.value.Ty.{Ty}
use Rattle.node_expand.specs.Fragments.{Call, Callees, Fragment, Places, first_place, fragment, name_fragment, nodes_of, place_all, place_level, place_of, size_of_all}
use Rattle.node_expand.specs.Instances.{instance_asserts}
use Rattle.node_expand.specs.Names.{unless_variable}
use Rattle.node_expand.specs.Network.{inputs_of}
use Rattle.node_expand.specs.NodeRuns.{HasStreams, HaveStreams, Runs, Streams, has_arrow, has_binary, has_call, has_constant, has_if, has_number, has_pre, has_truth, has_unary, has_variable, have_more, have_none, runs}
use Rattle.node_expand.specs.Streams.{Stream, pre_stream}
use Rattle.node_expand.proofs.Folds.{folded_call, folded_if, folded_name, folded_number, folded_one, folded_truth, folded_two}
use Rattle.node_expand.proofs.FragmentTypes.{fragment_type}
use Rattle.node_expand.proofs.Holding.{Columns, HoldGates, binary_gate, gates_left, gates_right, unary_gate}
use Rattle.lus_syntax.specs.declared.ast.BinOp.TheVariants as bino
use Rattle.lus_syntax.specs.declared.ast.ExprKind.TheVariants as tree
use Rattle.lus_syntax.specs.declared.ast.UnOp.TheVariants as uno

-- a node's run has a stream for each of its outputs
pub runs_outputs : {program : Program} {n : ℕ} {g : Name} {ins outs checks : List Stream} (callee : Node)
    → program.node g ≡ Some callee → Runs program n g ins outs checks → length outs ≡ length callee.outputs
runs_outputs callee found (runs {node = node} env same long all) =
    let one : node ≡ callee = cc in
    length-map (names node.outputs) env ∙ length-map node.outputs (λ v. v.name) ∙ ap (λ (k : Node). length k.outputs) one

-- the streams of a single value
pub single : (col : Columns) (values : List ℕ) → length values ≡ 1 → map col values ≡ col (first_place values) ∷ []
single col [] e = absurd (omega (arith, e))
single col (v ∷ []) e = refl
single col (v ∷ w ∷ values) e = absurd (omega (arith, e))

module _ (program : Program) (n : ℕ) (ins : List Stream) (col : Columns) where
  -- the streams of the assertions of these calls' instances
  abbrev pub call_checks : Callees → ℕ → List Call → List Stream
  call_checks callees start calls = map col (instance_asserts callees start (nodes_of calls))

  -- each call's node runs with the streams of its instance
  abbrev pub CallsRun : Callees → ℕ → List Call → Type 0
  CallsRun callees start [] = Unit {0}
  CallsRun callees start (c ∷ calls) =
      (length c.args ≡ length (inputs_of (program.node c.node)) → Runs program n c.node (map col c.args) (map col (callees.results c.node start)) (map col (callees.asserts c.node start)))
      × CallsRun callees (start + callees.size c.node) calls

  pub checks_append : (callees : Callees) (start : ℕ) (xs ys : List Call)
      → call_checks callees start (xs ++ ys) ≡ call_checks callees start xs ++ call_checks callees (start + size_of_all callees (nodes_of xs)) ys
  checks_append callees start [] ys = ap (λ k. call_checks callees k ys) (omega arith)
  checks_append callees start (c ∷ xs) ys =
      map-append col (callees.asserts c.node start) _
      ∙ ap (λ l. map col (callees.asserts c.node start) ++ l) (checks_append callees (start + callees.size c.node) xs ys ∙ ap (λ k. call_checks callees (start + callees.size c.node) xs ++ call_checks callees k ys) (omega arith))
      ∙ sym (append_assoc (map col (callees.asserts c.node start)) _ _)
      ∙ ap (λ l. l ++ call_checks callees (start + size_of_all callees (nodes_of (c ∷ xs))) ys) (sym (map-append col (callees.asserts c.node start) _))

  pub calls_left : (callees : Callees) (start : ℕ) (xs ys : List Call) → CallsRun callees start (xs ++ ys) → CallsRun callees start xs
  calls_left callees start [] ys h = tt
  calls_left callees start (c ∷ xs) ys h = (h.0, calls_left callees (start + callees.size c.node) xs ys h.1)

  pub calls_right : (callees : Callees) (start : ℕ) (xs ys : List Call) → CallsRun callees start (xs ++ ys)
      → CallsRun callees (start + size_of_all callees (nodes_of xs)) ys
  calls_right callees start [] ys h = subst (λ k. CallsRun callees k ys) (omega arith) h
  calls_right callees start (c ∷ xs) ys h = subst (λ k. CallsRun callees k ys) (omega arith) (calls_right callees (start + callees.size c.node) xs ys h.1)

  module _ (node : Node) (callees : Callees) (table : Places) where
    -- each variable has the stream of its edge
    abbrev pub streams_at : Streams
    streams_at x = col (place_of table x)

    abbrev make : Expr → ℕ → ℕ → Fragment
    make = fragment program node callees table

    -- what stands for the expression has its streams
    abbrev Fits : Expr → ℕ → ℕ → ℕ → Fragment → Type 0
    Fits e k at inner m =
        CallsRun callees inner m.calls → HoldGates program.width n ins col at m.own
        → HasStreams program n node streams_at e (map col m.values) (call_checks callees inner m.calls) × (length m.values ≡ k)

    -- a variable or a constant
    name_fits : {e : Expr} (x : Name) (t ty : Ty) → e.kind ≡ tree.Name x → (found : Option Ty) → type_in node x ≡ found
        → (outer : Option Ty) → program.constant x ≡ outer → or_outer found outer ≡ Some t
        → (at inner : ℕ) → Fits e 1 at inner (name_fragment (unless_variable found (constant_with outer (program.value x))) ty (place_of table x) at)
    name_fits x t ty k (Some s) is outer means some at inner calls hold = (has_variable x s k is, refl)
    name_fits x t ty k None is None means some at inner calls hold = absurd (cc some)
    name_fits {e} x t ty k None is (Some s) means some at inner calls hold =
        let c : Constant = record { ty = s; value = program.value x } in (
          subst (λ r. HasStreams program n node streams_at e (r ∷ []) []) (sym hold.0)
              (has_constant x c k (ap₂ (λ o p. unless_variable o (constant_with p (program.value x))) is means)),
          refl,
        )

    -- two operands
    both_fit : (a b : Expr) (at inner : ℕ) →
        let m = make a (suc at) inner in
        let at' = suc at + length m.own in
        let inner' = inner + size_of_all callees (nodes_of m.calls) in
        let w = make b at' inner' in
        Fits a 1 (suc at) inner m → Fits b 1 at' inner' w
        → CallsRun callees inner (m.calls ++ w.calls) → HoldGates program.width n ins col (suc at) (m.own ++ w.own)
        → HasStreams program n node streams_at a (col (first_place m.values) ∷ []) (call_checks callees inner m.calls)
        × HasStreams program n node streams_at b (col (first_place w.values) ∷ []) (call_checks callees inner' w.calls)
    both_fit a b at inner first second calls hold =
        let m = make a (suc at) inner in
        let at' = suc at + length m.own in
        let inner' = inner + size_of_all callees (nodes_of m.calls) in
        let w = make b at' inner' in
        let f = first (calls_left callees inner m.calls w.calls calls) (gates_left program.width n ins col (suc at) m.own w.own hold) in
        let g = second (calls_right callees inner m.calls w.calls calls) (gates_right program.width n ins col (suc at) m.own w.own hold) in (
          subst (λ s. HasStreams program n node streams_at a s (call_checks callees inner m.calls)) (single col m.values f.1) f.0,
          subst (λ s. HasStreams program n node streams_at b s (call_checks callees inner' w.calls)) (single col w.values g.1) g.0,
        )

    mutual
      pub expr_fits : {e : Expr} {ts : List Ty} → HasTypes (type_of_name program node) program.node e ts
          → (at inner : ℕ) → Fits e (length ts) at inner (make e at inner)
      expr_fits {e} (types_name x t k h) at inner =
          subst (Fits e 1 at inner) (sym (ap (λ m. m at inner) (folded_name (place_level program node callees table) e x k)))
          (name_fits x t (or_truth (type_of_name program node x)) k (type_in node x) refl (program.constant x) refl h at inner)
      expr_fits {e} (types_number x k) at inner =
          subst (Fits e 1 at inner) (sym (ap (λ m. m at inner) (folded_number (place_level program node callees table) e x k)))
          (λ calls hold. (subst (λ s. HasStreams program n node streams_at e (s ∷ []) []) (sym hold.0) (has_number x k), refl))
      expr_fits {e} (types_truth b k) at inner =
          subst (Fits e 1 at inner) (sym (ap (λ m. m at inner) (folded_truth (place_level program node callees table) e b k)))
          (λ calls hold. (subst (λ s. HasStreams program n node streams_at e (s ∷ []) []) (sym hold.0) (has_truth b k), refl))
      expr_fits {e} (types_unary op o a k is gives p) at inner =
          subst (Fits e 1 at inner) (sym (ap (λ m. m at inner) (folded_one (place_level program node callees table) e a op k)))
          (λ calls hold.
          let m = make a (suc at) inner in
          let f = expr_fits p (suc at) inner calls hold.1 in (
            subst (λ s. HasStreams program n node streams_at e (s ∷ []) (call_checks callees inner m.calls))
                (sym (hold.0 ∙ unary_gate program.width n ins col op o _ _ is))
                (has_unary op o a k is (subst (λ s. HasStreams program n node streams_at a s (call_checks callees inner m.calls)) (single col m.values f.1) f.0)),
            refl,
          ))
      expr_fits {e} (types_pre {t = t} a k p) at inner =
          subst (Fits e 1 at inner) (sym (ap (λ m. m at inner) (folded_one (place_level program node callees table) e a uno.Pre k)))
          (λ calls hold.
          let m = make a (suc at) inner in
          let f = expr_fits p (suc at) inner calls hold.1 in (
            subst (λ s. HasStreams program n node streams_at e (s ∷ []) (call_checks callees inner m.calls))
                (sym (hold.0 ∙ ap (λ u. pre_stream (default u) (col (first_place m.values))) (fragment_type program node callees table p (suc at) inner)))
                (has_pre t a k p (subst (λ s. HasStreams program n node streams_at a s (call_checks callees inner m.calls)) (single col m.values f.1) f.0)),
            refl,
          ))
      expr_fits {e} (types_binary op o a b k is gives p q) at inner =
          subst (Fits e 1 at inner) (sym (ap (λ m. m at inner) (folded_two (place_level program node callees table) e a b op k)))
          (λ calls hold.
          let m = make a (suc at) inner in
          let w = make b (suc at + length m.own) (inner + size_of_all callees (nodes_of m.calls)) in
          let two = both_fit a b at inner (expr_fits p (suc at) inner) (expr_fits q (suc at + length m.own) (inner + size_of_all callees (nodes_of m.calls))) calls hold.1 in (
            subst (λ c. HasStreams program n node streams_at e (col at ∷ []) c) (sym (checks_append callees inner m.calls w.calls))
                (subst (λ s. HasStreams program n node streams_at e (s ∷ []) (call_checks callees inner m.calls ++ call_checks callees (inner + size_of_all callees (nodes_of m.calls)) w.calls))
                (sym (hold.0 ∙ binary_gate program.width n ins col op o _ _ _ is))
                (has_binary op o a b k is two.0 two.1)),
            refl,
          ))
      expr_fits {e} (types_arrow a b k gives p q) at inner =
          subst (Fits e 1 at inner) (sym (ap (λ m. m at inner) (folded_two (place_level program node callees table) e a b bino.Arrow k)))
          (λ calls hold.
          let m = make a (suc at) inner in
          let w = make b (suc at + length m.own) (inner + size_of_all callees (nodes_of m.calls)) in
          let two = both_fit a b at inner (expr_fits p (suc at) inner) (expr_fits q (suc at + length m.own) (inner + size_of_all callees (nodes_of m.calls))) calls hold.1 in (
            subst (λ c. HasStreams program n node streams_at e (col at ∷ []) c) (sym (checks_append callees inner m.calls w.calls))
                (subst (λ s. HasStreams program n node streams_at e (s ∷ []) (call_checks callees inner m.calls ++ call_checks callees (inner + size_of_all callees (nodes_of m.calls)) w.calls))
                (sym hold.0)
                (has_arrow a b k two.0 two.1)),
            refl,
          ))
      expr_fits {e} (types_if a b c k gives p q r) at inner =
          subst (Fits e 1 at inner) (sym (ap (λ m. m at inner) (folded_if (place_level program node callees table) e a b c k)))
          (λ calls hold.
          let m = make a (suc at) inner in
          let w = make b (suc at + length m.own) (inner + size_of_all callees (nodes_of m.calls)) in
          let x = make c (suc at + length m.own + length w.own) (inner + size_of_all callees (nodes_of m.calls) + size_of_all callees (nodes_of w.calls)) in
          let later = calls_right callees inner m.calls (w.calls ++ x.calls) calls in
          let behind = gates_right program.width n ins col (suc at) m.own (w.own ++ x.own) hold.1 in
          let f = expr_fits p (suc at) inner (calls_left callees inner m.calls (w.calls ++ x.calls) calls) (gates_left program.width n ins col (suc at) m.own (w.own ++ x.own) hold.1) in
          let g = expr_fits q (suc at + length m.own) (inner + size_of_all callees (nodes_of m.calls)) (calls_left callees (inner + size_of_all callees (nodes_of m.calls)) w.calls x.calls later) (gates_left program.width n ins col (suc at + length m.own) w.own x.own behind) in
          let h = expr_fits r (suc at + length m.own + length w.own) (inner + size_of_all callees (nodes_of m.calls) + size_of_all callees (nodes_of w.calls)) (calls_right callees (inner + size_of_all callees (nodes_of m.calls)) w.calls x.calls later) (gates_right program.width n ins col (suc at + length m.own) w.own x.own behind) in (
            subst (λ c. HasStreams program n node streams_at e (col at ∷ []) c) (sym (checks_append callees inner m.calls (w.calls ++ x.calls) ∙ ap (λ l. call_checks callees inner m.calls ++ l) (checks_append callees (inner + size_of_all callees (nodes_of m.calls)) w.calls x.calls)))
                (subst (λ s. HasStreams program n node streams_at e (s ∷ []) (call_checks callees inner m.calls ++ (call_checks callees (inner + size_of_all callees (nodes_of m.calls)) w.calls ++ call_checks callees (inner + size_of_all callees (nodes_of m.calls) + size_of_all callees (nodes_of w.calls)) x.calls)))
                (sym hold.0)
                (has_if a b c k
                (subst (λ s. HasStreams program n node streams_at a s (call_checks callees inner m.calls)) (single col m.values f.1) f.0)
                (subst (λ s. HasStreams program n node streams_at b s (call_checks callees (inner + size_of_all callees (nodes_of m.calls)) w.calls)) (single col w.values g.1) g.0)
                (subst (λ s. HasStreams program n node streams_at c s (call_checks callees (inner + size_of_all callees (nodes_of m.calls) + size_of_all callees (nodes_of w.calls)) x.calls)) (single col x.values h.1) h.0))),
            refl,
          ))
      expr_fits {e} (types_call g args callee k found ps) at inner =
          subst (Fits e (length (types callee.outputs)) at inner) (sym (ap (λ m. m at inner) (folded_call (place_level program node callees table) e g args k)))
          (λ calls hold.
          let m = place_all program node callees table (map make args) at (inner + callees.size g) in
          let f = exprs_fit ps at (inner + callees.size g) calls.1 hold in
          let run = calls.0 (f.1 ∙ length-map callee.inputs (λ v. v.ty) ∙ ap (λ (o : Option Node). length (inputs_of o)) (sym found)) in (
            subst (λ c. HasStreams program n node streams_at e (map col (callees.results g inner)) c) (sym (map-append col (callees.asserts g inner) _))
                (has_call g args k f.0 run),
            sym (length-map (callees.results g inner) col) ∙ runs_outputs callee found run ∙ sym (length-map callee.outputs (λ v. v.ty)),
          ))

      pub exprs_fit : {es : List Expr} {ts : List Ty} → HaveTypes (type_of_name program node) program.node es ts
          → (at inner : ℕ) → CallsRun callees inner (place_all program node callees table (map make es) at inner).calls
          → HoldGates program.width n ins col at (place_all program node callees table (map make es) at inner).own
          → HaveStreams program n node streams_at es (map col (place_all program node callees table (map make es) at inner).values) (call_checks callees inner (place_all program node callees table (map make es) at inner).calls) × (length (place_all program node callees table (map make es) at inner).values ≡ length ts)
      exprs_fit no_types at inner calls hold = (have_none, refl)
      exprs_fit (more_types {e = e} {es = es} p ps) at inner calls hold =
          let m = make e at inner in
          let w = place_all program node callees table (map make es) (at + length m.own) (inner + size_of_all callees (nodes_of m.calls)) in
          let f = expr_fits p at inner (calls_left callees inner m.calls w.calls calls) (gates_left program.width n ins col at m.own w.own hold) in
          let g = exprs_fit ps (at + length m.own) (inner + size_of_all callees (nodes_of m.calls)) (calls_right callees inner m.calls w.calls calls) (gates_right program.width n ins col at m.own w.own hold) in (
            subst (λ c. HaveStreams program n node streams_at (e ∷ es) (map col (first_place m.values ∷ w.values)) c) (sym (checks_append callees inner m.calls w.calls))
                (have_more (subst (λ s. HasStreams program n node streams_at e s (call_checks callees inner m.calls)) (single col m.values f.1) f.0) g.0),
            ap suc g.1,
          )
