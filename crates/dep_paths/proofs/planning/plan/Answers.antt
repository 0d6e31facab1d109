use Rattle.std.proofs.Common.{◌≡◌, ◌≤◌, inr, ap, arith, ℕ, List, length, refl}
use Rattle.std.specs.Prelude.{Err}
use Rattle.std.proofs.lemmas.Result.{err_from_is_err_and}
use Rattle.op_network.specs.declared.edge.Parts.{Parts}
use Rattle.dep_paths.specs.declared.limits.TheConstants.{MOST_OBLIGATIONS, MOST_PATHS}
use Rattle.dep_paths.specs.declared.path.Obligation.{Obligation}
use Rattle.dep_paths.specs.declared.path.Path.{Path}
use Rattle.dep_paths.specs.declared.path.PlanFault.{PlanFault}
use Rattle.dep_paths.specs.declared.path.PlanFault.TheVariants as fault
use Rattle.dep_paths.specs.Duties.{AsksTooMuch, duties}
use Rattle.dep_paths.specs.Paths.{IsListOf, MoreThan}
use Rattle.dep_paths.proofs.Counts.{list_is_longer, one_list}
use Rattle.dep_paths.proofs.planning.plan.Goals as goal

-- within the limit, too much isn't asked
asks_little : (net : Parts) (n : ℕ) (paths : List Path) → IsListOf net n paths → length (duties net.edges paths) ≤ MOST_OBLIGATIONS → AsksTooMuch net n → ⊥
asks_little net n paths listed few more =
    let same = ap (λ ps. length (duties net.edges ps)) (one_list net n paths more.paths listed more.listed) in
    omega (arith, more.many, few, same)

-- where too much is asked, the paths are within their limit
few_paths : (net : Parts) (n : ℕ) → AsksTooMuch net n → MoreThan MOST_PATHS net n → ⊥
few_paths net n more many = omega (arith, more.few, list_is_longer MOST_PATHS net n more.paths more.listed many)

-- a fault of the list is want of memory then
is_memory : (e : PlanFault) → (e ≡ fault.Paths → ⊥) → (e ≡ fault.Obligations → ⊥) → e ≡ fault.Memory
is_memory fault.Paths paths duties = absurd (paths refl)
is_memory fault.Obligations paths duties = absurd (duties refl)
is_memory fault.Memory paths duties = refl

pub returns-in_err-paths-clause-duties_exact : goal.returns-in_err-paths-clause-duties_exact
returns-in_err-paths-clause-duties_exact c = λ more.
    let p = err_from_is_err_and c.from_residual.result c.from_residual.ensures.1 in
    let memory = is_memory c.in_err-paths.field-0.0 (λ e. few_paths c.args.net.now c.args.n more (c.in_err-paths.ensures.many (ap Err e))) (λ e. c.in_err-paths.ensures.never (ap Err e)) in
    inr (cc (p.1, p.2, memory))

pub returns-in-Ok-duties_on-clause-duties_exact : goal.returns-in-Ok-duties_on-clause-duties_exact
returns-in-Ok-duties_on-clause-duties_exact c = λ more.
    let net = ap (λ (parts : Parts). parts.edges) c.parts.ensures.same in
    let counted : length (duties c.as_slice-edges.result.now c.as_slice.result.now) ≡ length (duties c.args.net.now.edges c.in_ok-paths.paths) = ap (length {A = Obligation}) (cc (net, c.as_slice.ensures, c.as_slice-edges.ensures)) in
    absurd (asks_little c.args.net.now c.args.n c.in_ok-paths.paths c.in_ok-paths.ensures.paths (omega (arith, c.if-duty_count.false, c.duty_count.ensures.count, counted)) more)
