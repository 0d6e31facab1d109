-- From the first fault of the walk to the answer of a type check.
use Rattle.std.proofs.Common.{◌≡◌, ◌∙◌, ℕ, List, [], ◌∷◌, ◌++◌, Option, Result, Ok, Err, IfOk, IfErr, ap}
use Rattle.lus_syntax.specs.declared.ast.Ast.{Ast}
use Rattle.lus_types.specs.declared.fault.TypeFault.{TypeFault}
use Rattle.lus_types.specs.declared.fault.TypeFault.TheVariants.{Bad, Memory}
use Rattle.lus_types.specs.Calls.{In, here, there}
use Rattle.lus_types.specs.Checking.{Recursions, Answers, fault_in, fault_at, kind_of, or_else, TellsCycles}
use Rattle.lus_types.specs.Names.{Name}
use Rattle.lus_types.specs.Occurrences.{TextEnd}
use Rattle.lus_types.specs.Typing.{walk, tables, declarations, IsMain, IsAccepted, IsRefusal}
use Rattle.lus_types.proofs.Faults.{fault_append, or_none}
use Rattle.lus_types.proofs.CallsOf.{exact}
use Rattle.lus_types.proofs.FirstFault.{clean, found_first}

-- the walk is that of the declarations, and the end of the text
pub ended : (ast : Ast) (width : ℕ) (main : Option Name) (r : Recursions)
    → fault_in r (walk ast width main) ≡ or_else (fault_in r (declarations (tables width ast.decls) 0 0 ast.decls)) (fault_at ast.length (kind_of r (TextEnd ast.decls main)))
ended ast width main r = fault_append r (declarations (tables width ast.decls) 0 0 ast.decls) _ ∙ ap (or_else (fault_in r (declarations (tables width ast.decls) 0 0 ast.decls))) (or_none _)

module _ (ast : Ast) (width : ℕ) (main : Option Name) (r : Recursions) (tells : TellsCycles ast.decls r) where
  pub accepted : (b : Result ℕ TypeFault) → Answers (fault_in r (walk ast width main)) b (λ place. IsMain ast.decls main place) → IfOk b (λ place. IsAccepted ast width main place)
  accepted (Ok place) h = (clean ast.decls r (walk ast width main) (exact ast width main r tells) h.1, h.0)
  accepted (Err e) h = tt

  refusal : {A : Type 0} → (Q : A → Type 0) (f : TypeFault) → Answers (fault_in r (walk ast width main)) (Err f) Q → IsRefusal ast width main f
  refusal Q (Bad kind at) h = found_first ast.decls r (walk ast width main) kind at (exact ast width main r tells) h
  refusal Q Memory h = tt

  pub refused : {A : Type 0} → (Q : A → Type 0) (b : Result A TypeFault) → Answers (fault_in r (walk ast width main)) b Q → IfErr b (λ fault. IsRefusal ast width main fault)
  refused Q (Ok x) h = tt
  refused Q (Err f) h = refusal Q f h

pub begun : {A : Type 0} (xs ys : List A) (x : A) → In x xs → In x (xs ++ ys)
begun [] ys x i = elim i [ ]
begun (z ∷ zs) ys x here = here
begun (z ∷ zs) ys x (there i) = there (begun zs ys x i)
