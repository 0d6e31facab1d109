use Rattle.std.proofs.Common.{◌≡◌, ◌∙◌, List, ℕ, Option, Ok, refl, sym, ap, subst}
use Rattle.lus_syntax.specs.declared.ast.Decl.{Decl}
use Rattle.lus_types.specs.declared.expressions.scope.Signature.{Signature}
use Rattle.op_network.specs.declared.value.Ty.{Ty}
use Rattle.lus_types.specs.declared.typed.Checked.{Checked}
use Rattle.lus_types.specs.Checking.{fault_in, TellsCycles}
use Rattle.lus_types.specs.Names.{Name, Globals, globals}
use Rattle.lus_types.specs.Signatures.{signatures}
use Rattle.lus_types.specs.Constants.{constants, constant_types}
use Rattle.lus_types.specs.Typing.{tables, declarations, IsMain}
use Rattle.lus_types.specs.Views.{recursions, globals_seen, name_given}
use Rattle.lus_types.proofs.Faults.{stopped, after, or_none}
use Rattle.lus_types.proofs.Accepted.{accepted, refused, ended}
use Rattle.lus_types.proofs.typed.check_program.Goals as goal

-- the tables that the code has made are those of the program
made : (width : ℕ) (ds decls : List Decl) (g : Globals) (s t u : List (Option Signature)) (k l : List (Option Ty))
    → ds ≡ decls → ((x : Name) → g x ≡ globals ds x) → s ≡ signatures g ds → t ≡ s → u ≡ s → k ≡ constants width g t ds → l ≡ k
    → record { width = width; globals = g; signatures = u; constants = l } ≡ tables width decls
made width ds decls g s t u k l d gs ss ts us ks ls =
    let g_is : g ≡ globals decls = (λ i x. gs x i) ∙ ap globals d in
    let s_is : s ≡ signatures (globals decls) decls = ss ∙ (λ i. signatures (g_is i) (d i)) in
    let k_is : k ≡ constants width (globals decls) (signatures (globals decls) decls) decls = ks ∙ (λ i. constants width (g_is i) ((ts ∙ s_is) i) (d i)) in
    λ i. record { width = width; globals = g_is i; signatures = (us ∙ s_is) i; constants = (ls ∙ k_is) i }

pub returns-in_err-check_decls-clause-refused : goal.returns-in_err-check_decls-clause-refused
returns-in_err-check_decls-clause-refused c =
    let ast = c.args.ast.now in
    let main = name_given c.args.main in
    let r = recursions c.as_slice-4.result.now in
    let d = c.as_slice-decls.ensures in
    let t = made c.args.width c.as_slice-decls.result.now ast.decls (globals_seen c.in_ok-globals.globals) c.in_ok-signatures.signatures c.as_slice.result.now c.as_slice-2.result.now c.in_ok-constants.constants c.as_slice-3.result.now
    d c.in_ok-globals.ensures.ok c.in_ok-signatures.ensures.ok c.as_slice.ensures c.as_slice-2.ensures c.in_ok-constants.ensures.ok c.as_slice-3.ensures in
    let tells : TellsCycles ast.decls r = subst (λ ds. TellsCycles ds r) d (subst (λ ns. TellsCycles c.as_slice-decls.result.now (recursions ns)) (sym c.as_slice-4.ensures) c.in_ok-cycles.ensures.ok) in
    refused ast c.args.width main r tells (λ (it : Checked). Unit {0}) c.from_residual-in_err-check_decls.result
    (stopped _ _ _ _ c.in_err-check_decls.field-0.0 (λ done. Unit {0}) _ c.check_decls.result c.from_residual-in_err-check_decls.result
    (ended ast c.args.width main r) (λ i. fault_in r (declarations (t i) 0 0 (d i)))
    c.check_decls.ensures c.in_err-check_decls.was c.from_residual-in_err-check_decls.ensures)

pub returns-clause-accepted : goal.returns-clause-accepted
returns-clause-accepted c =
    let ast = c.args.ast.now in
    let main = name_given c.args.main in
    let r = recursions c.as_slice-4.result.now in
    let d = c.as_slice-decls.ensures in
    let t = made c.args.width c.as_slice-decls.result.now ast.decls (globals_seen c.in_ok-globals.globals) c.in_ok-signatures.signatures c.as_slice.result.now c.as_slice-2.result.now c.in_ok-constants.constants c.as_slice-3.result.now
    d c.in_ok-globals.ensures.ok c.in_ok-signatures.ensures.ok c.as_slice.ensures c.as_slice-2.ensures c.in_ok-constants.ensures.ok c.as_slice-3.ensures in
    let tells : TellsCycles ast.decls r = subst (λ ds. TellsCycles ds r) d (subst (λ ns. TellsCycles c.as_slice-decls.result.now (recursions ns)) (sym c.as_slice-4.ensures) c.in_ok-cycles.ensures.ok) in
    let last = c.in_ok-place.ensures r in
    accepted ast c.args.width main r tells (Ok c.in_ok-place.place)
    (last.0, after _ _ _ _ (ended ast c.args.width main r) (λ i. fault_in r (declarations (t i) 0 0 (d i))) c.in_ok-check_decls.ensures.1 ∙ last.1)

pub returns-in_err-place-clause-refused : goal.returns-in_err-place-clause-refused
returns-in_err-place-clause-refused c =
    let ast = c.args.ast.now in
    let main = name_given c.args.main in
    let r = recursions c.as_slice-4.result.now in
    let d = c.as_slice-decls.ensures in
    let t = made c.args.width c.as_slice-decls.result.now ast.decls (globals_seen c.in_ok-globals.globals) c.in_ok-signatures.signatures c.as_slice.result.now c.as_slice-2.result.now c.in_ok-constants.constants c.as_slice-3.result.now
    d c.in_ok-globals.ensures.ok c.in_ok-signatures.ensures.ok c.as_slice.ensures c.as_slice-2.ensures c.in_ok-constants.ensures.ok c.as_slice-3.ensures in
    let tells : TellsCycles ast.decls r = subst (λ ds. TellsCycles ds r) d (subst (λ ns. TellsCycles c.as_slice-decls.result.now (recursions ns)) (sym c.as_slice-4.ensures) c.in_ok-cycles.ensures.ok) in
    let first = after _ _ _ _ (ended ast c.args.width main r) (λ i. fault_in r (declarations (t i) 0 0 (d i))) c.in_ok-check_decls.ensures.1 in
    refused ast c.args.width main r tells (λ (it : Checked). Unit {0}) c.from_residual-in_err-place.result
    (stopped _ _ _ _ c.in_err-place.field-0.0 (λ place. IsMain ast.decls main place) _ c.check_main.result c.from_residual-in_err-place.result
    (first ∙ sym (or_none _)) refl (c.check_main.ensures r) c.in_err-place.was c.from_residual-in_err-place.ensures)

pub returns-clause-types : goal.returns-clause-types
returns-clause-types c =
    let decls = c.as_slice-decls.result.now in
    let g_is : globals_seen c.in_ok-globals.globals ≡ globals decls = λ i x. c.in_ok-globals.ensures.ok x i in
    c.in_ok-constants.ensures.ok
    ∙ (λ i. constants c.args.width (g_is i) ((c.as_slice.ensures ∙ c.in_ok-signatures.ensures.ok ∙ (λ j. signatures (g_is j) decls)) i) decls)
    ∙ ap (constant_types c.args.width) c.as_slice-decls.ensures
