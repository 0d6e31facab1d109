-- Tables of variables that grow by rows.
use Rattle.std.proofs.Common.{◌≡◌, ◌∙◌, Bool, true, false, not, ◌&&◌, ◌||◌, cond, List, [], ◌∷◌, ◌++◌, Option, Some, None, is_some, refl, sym, ap, subst}
use Rattle.std.specs.Str.{bytes_eq}
use Rattle.std.proofs.lemmas.List.{map-append, append_assoc, append-nil}
use Rattle.lus_syntax.specs.declared.ast.Group.{Group}
use Rattle.lus_syntax.specs.declared.ast.Spot.{Spot}
use Rattle.lus_types.specs.declared.expressions.scope.Variable.{Variable}
use Rattle.op_network.specs.declared.value.Ty.{Ty}
use Rattle.lus_types.specs.Names.{Name, Globals, Defined, is_among, entry_of, spot_names, declared_names}
use Rattle.lus_types.specs.Rows.{names_in, IsTableOf, IsGrown}
use Rattle.lus_types.specs.Signatures.{Row, variable, group_variables, variables_in, types_in, variable_type, unless_clocked}
use Rattle.lus_types.specs.Types.{type_named}
use Rattle.lus_types.specs.Walk.{variable_name}

pub known : (row : Row) (x : Name) → is_some (entry_of row x) ≡ is_among x (names_in row)
known [] x = refl
known (e ∷ row) x = elim (bytes_eq x e.0) as (λ b. is_some (cond b (Some e.1) (entry_of row x)) ≡ cond b true (is_among x (names_in row))) [
  | true ↦ refl
  | false ↦ known row x
]

by_input : (a : Bool) (u : Option Ty) → cond (not a && (true || true)) u None ≡ cond (a || false) None u
by_input true u = refl
by_input false u = refl

by_equation : (a b : Bool) (u : Option Ty) → cond (not a && (false || b)) u None ≡ cond (a || not b) None u
by_equation true b u = refl
by_equation false true u = refl
by_equation false false u = refl

pub type_sound : (g : Globals) (is_input : Bool) (d : Defined) (before : List Name) (x : Name) (clock : Option Spot) (ty : Spot)
    → cond (not (is_among x before) && (is_input || d x)) (unless_clocked clock (type_named g ty.text)) None ≡ variable_type g (variable_name is_input d before x) clock ty
type_sound g true d before x clock ty = by_input (is_among x before) (unless_clocked clock (type_named g ty.text))
type_sound g false d before x clock ty = by_equation (is_among x before) (d x) (unless_clocked clock (type_named g ty.text))

pub grown_more : (table last : List (Name × Variable)) (a b c : List (Option Ty)) (row more rest : Row) → IsGrown table a b row more → IsGrown last b c (row ++ more) rest → IsGrown last a c row (more ++ rest)
grown_more table last a b c row more rest h k = record {
  found = λ x. k.found x ∙ ap (λ l. entry_of l x) (append_assoc row more rest);
  types = k.types ∙ ap (λ l. l ++ types_in rest) h.types ∙ append_assoc a (types_in more) (types_in rest) ∙ ap (λ l. a ++ l) (sym (map-append (λ (entry : Name × Variable). entry.1.ty) more rest));
}

module _ (g : Globals) (is_input : Bool) (d : Defined) (clock : Option Spot) (ty : Spot) where
  pub names_of_group : (before : List Name) (names : List Spot) → names_in (group_variables g is_input d clock ty before names) ≡ spot_names names
  names_of_group before [] = refl
  names_of_group before (n ∷ names) = ap (λ l. n.text ∷ l) (names_of_group (before ++ n.text ∷ []) names)

  pub group_append : (before : List Name) (xs ys : List Spot) → group_variables g is_input d clock ty before (xs ++ ys) ≡ group_variables g is_input d clock ty before xs ++ group_variables g is_input d clock ty (before ++ spot_names xs) ys
  group_append before [] ys = ap (λ b. group_variables g is_input d clock ty b ys) (sym (append-nil before))
  group_append before (x ∷ xs) ys = ap (λ l. variable g is_input d clock ty before x ∷ l)
      (group_append (before ++ x.text ∷ []) xs ys ∙ ap (λ b. group_variables g is_input d clock ty (before ++ x.text ∷ []) xs ++ group_variables g is_input d clock ty b ys) (append_assoc before (x.text ∷ []) (spot_names xs)))

module _ (g : Globals) (is_input : Bool) (d : Defined) where
  pub names_of_groups : (before : List Name) (gs : List Group) → names_in (variables_in g is_input d before gs) ≡ declared_names gs
  names_of_groups before [] = refl
  names_of_groups before (x ∷ gs) =
      map-append (λ (entry : Name × Variable). entry.0) (group_variables g is_input d x.clock x.ty before x.names) (variables_in g is_input d (before ++ spot_names x.names) gs)
      ∙ (λ i. names_of_group g is_input d x.clock x.ty before x.names i ++ names_of_groups (before ++ spot_names x.names) gs i)

  pub groups_append : (before : List Name) (xs ys : List Group) → variables_in g is_input d before (xs ++ ys) ≡ variables_in g is_input d before xs ++ variables_in g is_input d (before ++ declared_names xs) ys
  groups_append before [] ys = ap (λ b. variables_in g is_input d b ys) (sym (append-nil before))
  groups_append before (x ∷ xs) ys =
      ap (λ l. group_variables g is_input d x.clock x.ty before x.names ++ l) (groups_append (before ++ spot_names x.names) xs ys ∙ ap (λ b. variables_in g is_input d (before ++ spot_names x.names) xs ++ variables_in g is_input d b ys) (append_assoc before (spot_names x.names) (declared_names xs)))
      ∙ sym (append_assoc (group_variables g is_input d x.clock x.ty before x.names) (variables_in g is_input d (before ++ spot_names x.names) xs) _)

nothing_new : (table : List (Name × Variable)) (a : List (Option Ty)) (row : Row) → IsTableOf table row → IsGrown table a a row []
nothing_new table a row h = record { found = λ x. h x ∙ ap (λ l. entry_of l x) (sym (append-nil row)); types = sym (append-nil a) }

pub none_yet : (table : List (Name × Variable)) (a : List (Option Ty)) (row : Row) → IsTableOf table row → IsGrown table a a row []
none_yet = nothing_new

-- the next name of a group
pub next_name : (g : Globals) (is_input : Bool) (d : Defined) (clock : Option Spot) (ty : Spot) (row : Row) (xs : List Spot) (x : Spot) (table last : List (Name × Variable)) (a b c : List (Option Ty))
    → IsGrown table a b row (group_variables g is_input d clock ty (names_in row) xs)
    → ((r : Row) → IsTableOf table r → IsGrown last b c r (variable g is_input d clock ty (names_in r) x ∷ []))
    → IsGrown last a c row (group_variables g is_input d clock ty (names_in row) (xs ++ x ∷ []))
next_name g is_input d clock ty row xs x table last a b c h k =
    let more = group_variables g is_input d clock ty (names_in row) xs in
    let names : names_in (row ++ more) ≡ names_in row ++ spot_names xs = map-append (λ (entry : Name × Variable). entry.0) row more ∙ ap (λ l. names_in row ++ l) (names_of_group g is_input d clock ty (names_in row) xs) in
    subst (IsGrown last a c row) (ap (λ b. more ++ variable g is_input d clock ty b x ∷ []) names ∙ sym (group_append g is_input d clock ty (names_in row) xs (x ∷ [])))
    (grown_more table last a b c row more _ h (k (row ++ more) h.found))

-- the next group
pub next_group : (g : Globals) (is_input : Bool) (d : Defined) (row : Row) (xs : List Group) (x : Group) (table last : List (Name × Variable)) (a b c : List (Option Ty))
    → IsGrown table a b row (variables_in g is_input d (names_in row) xs)
    → ((r : Row) → IsTableOf table r → IsGrown last b c r (group_variables g is_input d x.clock x.ty (names_in r) x.names))
    → IsGrown last a c row (variables_in g is_input d (names_in row) (xs ++ x ∷ []))
next_group g is_input d row xs x table last a b c h k =
    let more = variables_in g is_input d (names_in row) xs in
    let names : names_in (row ++ more) ≡ names_in row ++ declared_names xs = map-append (λ (entry : Name × Variable). entry.0) row more ∙ ap (λ l. names_in row ++ l) (names_of_groups g is_input d (names_in row) xs) in
    subst (IsGrown last a c row) (ap (λ b. more ++ group_variables g is_input d x.clock x.ty b x.names) names ∙ ap (λ l. more ++ l) (sym (append-nil _)) ∙ sym (groups_append g is_input d (names_in row) xs (x ∷ [])))
    (grown_more table last a b c row more _ h (k (row ++ more) h.found))
