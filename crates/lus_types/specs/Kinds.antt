-- The kinds of faults: where each occurs.
use Rattle.std.specs.Prelude.{◌≡◌, ℕ, ◌-◌, ◌^◌, Bool, true, false, not, ◌&&◌, ◌||◌, ◌==◌, nat_le, nat_lt, List, [], ◌∷◌, length, Option, Some, None, codes}
use Rattle.std.specs.Str.{bytes_eq}
use Rattle.lus_syntax.specs.declared.ast.BinOp.TheVariants as two
use Rattle.lus_syntax.specs.declared.ast.Decl.{Decl}
use Rattle.lus_syntax.specs.declared.ast.Decl.TheVariants.{TypeDecl, ConstDecl, NodeDecl}
use Rattle.lus_syntax.specs.declared.ast.UnOp.TheVariants as one
use Rattle.lus_types.specs.declared.fault.TypeKind.{TypeKind}
use Rattle.lus_types.specs.declared.fault.TypeKind.TheVariants.{Clocked, Unsupported, Duplicate, Unknown, NotANode, Arity, Mismatch, LiteralRange, Undefined, DefinedTwice, DefinesInput, RecursiveNode, NoMain}
use Rattle.lus_types.specs.declared.types.Meaning.{Meaning}
use Rattle.lus_types.specs.declared.types.Meaning.TheVariants.{Enumeration, Constant, Node, Enumerator}
use Rattle.lus_types.specs.declared.types.Position.{Position}
use Rattle.lus_types.specs.declared.types.Position.TheVariants.{Whole, Negated, Inside}
use Rattle.op_network.specs.declared.limits.TheConstants.{MOST_NAMES}
use Rattle.op_network.specs.declared.value.Ty.{Ty}
use Rattle.op_network.specs.declared.value.Ty.TheVariants.{Truth}
use Rattle.lus_types.specs.Calls.{IsRecursion}
use Rattle.lus_types.specs.Names.{Name, globals, is_among, means}
use Rattle.lus_types.specs.declared.expressions.scope.Signature.{Signature}
use Rattle.lus_types.specs.declared.expressions.scope.Variable.{Variable}
use Rattle.lus_types.specs.Occurrences.{typed_call, Thing, in_constant, is_missing, value_named, signature_named, GlobalName, EnumeratorName, InputName, DefinedName, TypeName, Clock, ConstantItself, NameUse, Literal, Unary, Binary, Conditional, Call, LeftName, EquationItself, AssertionItself, TextEnd}
use Rattle.lus_types.specs.Types.{type_named, unary_of, binary_of, conditional_of, all_typed, differ, any_differ}

-- Clocked: `when` and `current`, in an expression or a group.
abbrev pub is_clocked : Thing → Bool
is_clocked Clock = true
is_clocked (Unary scope one.Current a) = true
is_clocked (Binary scope two.When a b) = true
is_clocked _ = false

-- Unsupported: the type `real`; a constant without value; the 257th enumerator; `->`, `fby`, `pre`
-- or a call in a constant; `div`, `mod` and `fby` anywhere.
abbrev pub is_unsupported : Thing → Bool
is_unsupported (TypeName globals word) = bytes_eq word (codes "real")
is_unsupported (ConstantItself ty None) = true
is_unsupported (EnumeratorName globals ty i x) = i == MOST_NAMES
is_unsupported (Unary scope one.Pre a) = in_constant scope
is_unsupported (Binary scope two.Arrow a b) = in_constant scope
is_unsupported (Binary scope two.Div a b) = true
is_unsupported (Binary scope two.Mod a b) = true
is_unsupported (Binary scope two.Fby a b) = true
is_unsupported (Call scope position f args) = in_constant scope
is_unsupported _ = false

-- Duplicate: the second declaration of a name in its space. A global name means its first declaration.
abbrev pub is_duplicate : Thing → Bool
is_duplicate (GlobalName globals meaning x) = not (means meaning (globals x))
is_duplicate (EnumeratorName globals ty i x) = not (means (Enumerator ty i) (globals x))
is_duplicate (InputName before x) = is_among x before
is_duplicate (DefinedName before defined x) = is_among x before
is_duplicate _ = false

-- Unknown: a name that means no type, value or global, as its place asks; a left name that is no variable.
abbrev pub is_unknown : Thing → Bool
is_unknown (TypeName globals word) = is_missing (type_named globals word)
is_unknown (NameUse scope x) = is_missing (value_named scope x)
is_unknown (Call scope position f args) = is_missing (scope.globals f)
is_unknown (LeftName variables before x) = is_missing (variables x)
is_unknown _ = false

abbrev pub means_no_node : Option Meaning → Bool
means_no_node (Some (Node place)) = false
means_no_node (Some (Enumerator ty i)) = true
means_no_node (Some (Constant place)) = true
means_no_node (Some (Enumeration ty)) = true
means_no_node None = false

-- NotANode: a called name that is declared and means no node.
abbrev pub is_not_a_node : Thing → Bool
is_not_a_node (Call scope position f args) = means_no_node (scope.globals f)
is_not_a_node _ = false

-- only a call that is a whole right side may have another number of results than one
abbrev pub too_many_results : Position → ℕ → Bool
too_many_results Whole results = false
too_many_results Negated results = not (results == 1)
too_many_results Inside results = not (results == 1)

abbrev pub wrong_numbers : Position → ℕ → Option Signature → Bool
wrong_numbers position args None = false
wrong_numbers position args (Some s) = not (args == length s.params) || too_many_results position (length s.results)

abbrev pub wrong_number : ℕ → Option (List (Option Ty)) → Bool
wrong_number left None = false
wrong_number left (Some right) = not (left == length right)

-- Arity: a call with a wrong number of arguments, or of results; an equation with a wrong number of left names.
abbrev pub is_arity : Thing → Bool
is_arity (Call scope position f args) = wrong_numbers position (length args) (signature_named scope f)
is_arity (EquationItself left right) = wrong_number (length left) right
is_arity _ = false

abbrev pub wrong_arguments : List (Option Ty) → Option Signature → Bool
wrong_arguments args None = false
wrong_arguments args (Some s) = typed_call args s && any_differ args s.params

abbrev pub wrong_right : List (Option Ty) → Option (List (Option Ty)) → Bool
wrong_right left None = false
wrong_right left (Some right) = all_typed left && (all_typed right && any_differ left right)

abbrev pub wrong_constant : Option (Option Ty) → Option (Option Ty) → Bool
wrong_constant (Some ty) (Some value) = differ ty value
wrong_constant (Some ty) None = false
wrong_constant None value = false

-- Mismatch: an operator, call, equation, assertion or typed constant with wrong types, where each part has one.
abbrev pub is_mismatch : Thing → Bool
is_mismatch (Unary scope op a) = all_typed (a ∷ []) && is_missing (unary_of op a)
is_mismatch (Binary scope op a b) = all_typed (a ∷ b ∷ []) && is_missing (binary_of op a b)
is_mismatch (Conditional a b c) = all_typed (a ∷ b ∷ c ∷ []) && is_missing (conditional_of a b c)
is_mismatch (Call scope position f args) = wrong_arguments args (signature_named scope f)
is_mismatch (EquationItself left right) = wrong_right left right
is_mismatch (AssertionItself ty) = differ ty (Some Truth)
is_mismatch (ConstantItself ty value) = wrong_constant ty value
is_mismatch _ = false

-- the greatest literal is 2^(W-1) - 1, and 2^(W-1) where it is the operand of unary `-`
abbrev pub out_of_range : ℕ → Position → ℕ → Bool
out_of_range width Negated n = nat_lt (2 ^ (width - 1)) n
out_of_range width Whole n = nat_le (2 ^ (width - 1)) n
out_of_range width Inside n = nat_le (2 ^ (width - 1)) n

-- LiteralRange: a literal that is too great for the width.
abbrev pub is_out_of_range : Thing → Bool
is_out_of_range (Literal scope position n) = out_of_range scope.width position n
is_out_of_range _ = false

-- Undefined: an output or local without equation.
abbrev pub is_undefined : Thing → Bool
is_undefined (DefinedName before defined x) = not (defined x)
is_undefined _ = false

-- DefinedTwice: the second left occurrence of a variable in the node.
abbrev pub is_defined_twice : Thing → Bool
is_defined_twice (LeftName variables before x) = is_among x before
is_defined_twice _ = false

abbrev pub is_an_input : Option Variable → Bool
is_an_input None = false
is_an_input (Some v) = v.is_input

-- DefinesInput: an input on a left side.
abbrev pub defines_input : Thing → Bool
defines_input (LeftName variables before x) = is_an_input (variables x)
defines_input _ = false

abbrev pub IsRecursionOf : List Decl → Option Meaning → ℕ → Type 0
IsRecursionOf decls (Some (Node callee)) caller = IsRecursion decls callee caller
IsRecursionOf decls (Some (Enumerator ty i)) caller = ⊥
IsRecursionOf decls (Some (Constant place)) caller = ⊥
IsRecursionOf decls (Some (Enumeration ty)) caller = ⊥
IsRecursionOf decls None caller = ⊥

-- RecursiveNode: a call in a node whose callee is this node or reaches it by calls.
abbrev pub IsRecursiveNode : List Decl → Thing → Type 0
IsRecursiveNode decls (Call scope position f args) = (in_constant scope ≡ false) × IsRecursionOf decls (scope.globals f) scope.place
IsRecursiveNode decls _ = ⊥

abbrev pub is_node : Meaning → Bool
is_node (Node place) = true
is_node (Enumerator ty i) = false
is_node (Constant place) = false
is_node (Enumeration ty) = false

abbrev pub any_node : List Decl → Bool
any_node [] = false
any_node (NodeDecl at name inputs outputs locals items ∷ decls) = true
any_node (TypeDecl at name choices ∷ decls) = any_node decls
any_node (ConstDecl at name ty value ∷ decls) = any_node decls

abbrev pub lacks_node : Option Meaning → Bool
lacks_node None = true
lacks_node (Some meaning) = not (is_node meaning)

abbrev pub lacks_main : List Decl → Option Name → Bool
lacks_main decls None = not (any_node decls)
lacks_main decls (Some main) = lacks_node (globals decls main)

-- NoMain: at the end of the text, where there is no node, or the name given for main means none.
abbrev pub is_no_main : Thing → Bool
is_no_main (TextEnd decls main) = lacks_main decls main
is_no_main _ = false

-- what stands here fails in this way
abbrev pub Fails : List Decl → TypeKind → Thing → Type 0
Fails decls Clocked thing = is_clocked thing ≡ true
Fails decls Unsupported thing = is_unsupported thing ≡ true
Fails decls Duplicate thing = is_duplicate thing ≡ true
Fails decls Unknown thing = is_unknown thing ≡ true
Fails decls NotANode thing = is_not_a_node thing ≡ true
Fails decls Arity thing = is_arity thing ≡ true
Fails decls Mismatch thing = is_mismatch thing ≡ true
Fails decls LiteralRange thing = is_out_of_range thing ≡ true
Fails decls Undefined thing = is_undefined thing ≡ true
Fails decls DefinedTwice thing = is_defined_twice thing ≡ true
Fails decls DefinesInput thing = defines_input thing ≡ true
Fails decls RecursiveNode thing = IsRecursiveNode decls thing
Fails decls NoMain thing = is_no_main thing ≡ true

-- the order in which the kinds count, where an occurrence fails in several ways
abbrev pub rank : TypeKind → ℕ
rank Clocked = 0
rank Unsupported = 1
rank Duplicate = 2
rank Unknown = 3
rank NotANode = 4
rank Arity = 5
rank Mismatch = 6
rank LiteralRange = 7
rank Undefined = 8
rank DefinedTwice = 9
rank DefinesInput = 10
rank RecursiveNode = 11
rank NoMain = 12
