-- In a program none of whose occurrences fails no node reaches itself by calls.
use Rattle.std.proofs.Common.{◌≡◌, ◌∙◌, inl, inr, ℕ, List, [], ◌∷◌, ◌++◌, map, Option, Some, refl, sym, ap, subst}
use Rattle.std.specs.List.{flat_map}
use Rattle.lus_syntax.specs.declared.ast.Decl.{Decl}
use Rattle.lus_syntax.specs.declared.ast.Decl.TheVariants.{NodeDecl}
use Rattle.lus_syntax.specs.declared.ast.Expr.{Expr}
use Rattle.lus_syntax.specs.declared.ast.Item.{Item}
use Rattle.lus_syntax.specs.declared.ast.Item.TheVariants.{Assert, Equation}
use Rattle.lus_types.specs.declared.fault.TypeKind.TheVariants as kind
use Rattle.lus_types.specs.declared.types.Meaning.TheVariants as means
use Rattle.lus_types.specs.declared.types.Position.{Position}
use Rattle.lus_types.specs.declared.types.Position.TheVariants.{Whole, Inside}
use Rattle.op_network.specs.declared.value.Ty.{Ty}
use Rattle.lus_types.specs.Calls.{In, here, called_names, called_in, Calls, Reaches, by_call, by_calls, IsRecursion}
use Rattle.lus_types.specs.Kinds.{IsRecursionOf}
use Rattle.lus_types.specs.Names.{Name, globals, left_of}
use Rattle.lus_types.specs.Occurrences.{Call, Occurrence, Scope, Variables}
use Rattle.lus_types.specs.Programs.{Program, program_of}
use Rattle.lus_types.specs.ProgramTypes as program
use Rattle.lus_types.specs.ProgramTypes.{CallsNode, ReachesNode}
use Rattle.lus_types.specs.Typing.{declarations, node_scope, tables}
use Rattle.lus_types.specs.Walk.{Judged, expression, item, items, judge, left_names, occurs, operand_of, types_of}
use Rattle.lus_types.proofs.FineParts.{AreFine}
use Rattle.lus_types.proofs.FinePrograms.{node_is, the_body, vs}
use Rattle.lus_types.proofs.Judging.{judge_one, judge_two, judge_cond, judge_call}
use Rattle.lus_types.proofs.Members.{in_append, in_left, in_right, in_one}
use Rattle.lus_types.proofs.Trees.{Tree, t_name, t_number, t_truth, t_one, t_two, t_cond, t_call, Trees, t_none, t_more, tree_of, called_name, called_number, called_truth, called_one, called_two, called_cond, called_call}

-- a call of the name in this scope is one of the occurrences
record HasCall (s : Scope) (f : Name) (os : List Occurrence) : Type 0 where
  at : ℕ
  position : Position
  args : List (Option Ty)
  among : In (occurs at (Call s position f args)) os

call_left : (s : Scope) (f : Name) (xs ys : List Occurrence) → HasCall s f xs → HasCall s f (xs ++ ys)
call_left s f xs ys h = record { at = h.at; position = h.position; args = h.args; among = in_left xs ys _ h.among }

call_right : (s : Scope) (f : Name) (xs ys : List Occurrence) → HasCall s f ys → HasCall s f (xs ++ ys)
call_right s f xs ys h = record { at = h.at; position = h.position; args = h.args; among = in_right xs ys _ h.among }

module _ (s : Scope) (f : Name) where
  abbrev Walks : Expr → Position → Judged → Type 0
  Walks e p j = HasCall s f (j.walk p)

  own_call : (e : Expr) (g : Name) (args : List Expr) (p : Position) → f ≡ g → HasCall s f (occurs e.at (Call s p g (types_of (map (judge s) args))) ∷ [])
  own_call e g args p same =
      subst (λ n. HasCall s n (occurs e.at (Call s p g (types_of (map (judge s) args))) ∷ [])) (sym same)
      (record { at = e.at; position = p; args = types_of (map (judge s) args); among = here })

  mutual
    call_in_tree : (e : Expr) (p : Position) → Tree e → In f (called_names e) → HasCall s f ((judge s e).walk p)
    call_in_tree e p (t_name x h) i = elim (subst (In f) (called_name e x h) i) [ ]
    call_in_tree e p (t_number n h) i = elim (subst (In f) (called_number e n h) i) [ ]
    call_in_tree e p (t_truth b h) i = elim (subst (In f) (called_truth e b h) i) [ ]
    call_in_tree e p (t_one op a h t) i =
        subst (Walks e p) (sym (judge_one s e op a h))
        (call_left s f ((judge s a).walk (operand_of op)) _ (call_in_tree a (operand_of op) t (subst (In f) (called_one e op a h) i)))
    call_in_tree e p (t_two op a b h t u) i =
        subst (Walks e p) (sym (judge_two s e op a b h)) (elim (in_append (called_names a) (called_names b) f (subst (In f) (called_two e op a b h) i)) [
          | inl j ↦ call_left s f ((judge s a).walk Inside) _ (call_in_tree a Inside t j)
          | inr j ↦ call_right s f ((judge s a).walk Inside) _ (call_left s f ((judge s b).walk Inside) _ (call_in_tree b Inside u j))
        ])
    call_in_tree e p (t_cond a b c h t u v) i =
        subst (Walks e p) (sym (judge_cond s e a b c h)) (elim (in_append (called_names a) (called_names b ++ called_names c) f (subst (In f) (called_cond e a b c h) i)) [
          | inl j ↦ call_left s f ((judge s a).walk Inside) _ (call_in_tree a Inside t j)
          | inr j ↦ call_right s f ((judge s a).walk Inside) _ (elim (in_append (called_names b) (called_names c) f j) [
            | inl k ↦ call_left s f ((judge s b).walk Inside) _ (call_in_tree b Inside u k)
            | inr k ↦ call_right s f ((judge s b).walk Inside) _ (call_left s f ((judge s c).walk Inside) _ (call_in_tree c Inside v k))
          ])
        ])
    call_in_tree e p (t_call g args h ts) i =
        subst (Walks e p) (sym (judge_call s e g args h)) (elim (in_append (flat_map (λ names. names) (map called_names args)) (g ∷ []) f (subst (In f) (called_call e g args h) i)) [
          | inl j ↦ call_left s f (flat_map (λ (j : Judged). j.walk Inside) (map (judge s) args)) _ (call_in_trees args ts j)
          | inr j ↦ call_right s f (flat_map (λ (j : Judged). j.walk Inside) (map (judge s) args)) _ (own_call e g args p (in_one f g j))
        ])

    call_in_trees : (es : List Expr) → Trees es → In f (flat_map (λ names. names) (map called_names es)) → HasCall s f (flat_map (λ (j : Judged). j.walk Inside) (map (judge s) es))
    call_in_trees [] t_none i = elim i [ ]
    call_in_trees (e ∷ es) (t_more t ts) i = elim (in_append (called_names e) (flat_map (λ names. names) (map called_names es)) f i) [
      | inl j ↦ call_left s f ((judge s e).walk Inside) _ (call_in_tree e Inside t j)
      | inr j ↦ call_right s f ((judge s e).walk Inside) _ (call_in_trees es ts j)
    ]

  call_in_item : (variables : Variables) (before : List Name) (i : Item) → In f (called_in i) → HasCall s f (item s variables before i)
  call_in_item variables before (Assert at e) i = call_left s f (expression s Inside e) _ (call_in_tree e Inside (tree_of e) i)
  call_in_item variables before (Equation at left e) i =
      call_right s f (left_names variables before left) _ (call_left s f (expression s Whole e) _ (call_in_tree e Whole (tree_of e) i))

  call_in_items : (variables : Variables) (before : List Name) (its : List Item) → In f (flat_map called_in its) → HasCall s f (items s variables before its)
  call_in_items variables before [] i = elim i [ ]
  call_in_items variables before (x ∷ its) i = elim (in_append (called_in x) (flat_map called_in its) f i) [
    | inl j ↦ call_left s f (item s variables before x) _ (call_in_item variables before x j)
    | inr j ↦ call_right s f (item s variables before x) _ (call_in_items variables (before ++ left_of x) its j)
  ]

module _ (decls : List Decl) (width : ℕ) (fine : AreFine decls (declarations (tables width decls) 0 0 decls)) where
  abbrev the_program : Program
  the_program = program_of decls width

  abbrev IsNode : Name → ℕ → Type 0
  IsNode f place = globals decls f ≡ Some (means.Node place)

  same_place : (m n : ℕ) → Some (means.Node m) ≡ Some (means.Node n) → m ≡ n
  same_place m n h = cc h

  -- a call of a program is a call between places
  record IsCall (f m : Name) : Type 0 where
    from : ℕ
    to : ℕ
    caller : IsNode f from
    callee : IsNode m to
    calls : Calls decls from to
    ends : IsRecursion decls to from → ⊥

  call_is : (f m : Name) → CallsNode the_program f m → IsCall f m
  call_is f m c =
      let caller = node_is decls width fine f c.caller c.calls in
      let callee = node_is decls width fine m c.callee c.is_called in
      let d = caller.2 in
      let among : In m (flat_map called_in d.items) = subst (λ its. In m (flat_map called_in its)) (sym (ap (λ n. n.items) caller.3)) c.among in
      let variables = vs decls width fine caller.0 d.at d.name d.inputs d.outputs d.locals d.items d.declared in
      let scope = node_scope (tables width decls) caller.0 variables in
      let call = call_in_items scope m variables [] d.items among in
      let ok = the_body decls width fine caller.0 d.at d.name d.inputs d.outputs d.locals d.items d.declared _ call.among in
      record {
        from = caller.0;
        to = callee.0;
        caller = caller.1;
        callee = callee.1;
        calls = record { decl = NodeDecl d.at d.name d.inputs d.outputs d.locals d.items; declared = d.declared; name = m; among = among; means = callee.1 };
        ends = λ r. ok kind.RecursiveNode (refl, subst (λ o. IsRecursionOf decls o caller.0) (sym callee.1) r);
      }

  record IsWay (f h : Name) : Type 0 where
    from : ℕ
    to : ℕ
    caller : IsNode f from
    callee : IsNode h to
    reaches : Reaches decls from to

  way_is : (f h : Name) → ReachesNode the_program f h → IsWay f h
  way_is f h (program.by_call c) = let w = call_is f h c in record { from = w.from; to = w.to; caller = w.caller; callee = w.callee; reaches = by_call w.calls }
  way_is f h (program.by_calls {g = m} c r) =
      let w = call_is f m c in
      let v = way_is m h r in
      record { from = w.from; to = v.to; caller = w.caller; callee = v.callee; reaches = by_calls w.calls (subst (λ n. Reaches decls n v.to) (same_place v.from w.to (sym v.caller ∙ w.callee)) v.reaches) }

  pub no_way_back : (f : Name) → ReachesNode the_program f f → ⊥
  no_way_back f (program.by_call c) =
      let w = call_is f f c in w.ends (inl (same_place w.to w.from (sym w.callee ∙ w.caller)))
  no_way_back f (program.by_calls {g = m} c r) =
      let w = call_is f m c in
      let v = way_is m f r in
      w.ends (inr (subst (λ n. Reaches decls w.to n) (same_place v.to w.from (sym v.callee ∙ w.caller)) (subst (λ n. Reaches decls n v.to) (same_place v.from w.to (sym v.caller ∙ w.callee)) v.reaches)))
