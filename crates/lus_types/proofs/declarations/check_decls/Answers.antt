use Rattle.std.proofs.Common.{◌≡◌, ◌∙◌, ◌+◌, ℕ, suc, drop, refl, sym, arith}
use Rattle.lus_syntax.specs.declared.ast.Decl.{Decl}
use Rattle.lus_types.specs.Checking.{fault_in}
use Rattle.lus_types.specs.Names.{next_type}
use Rattle.lus_types.specs.Typing.{declaration, declarations}
use Rattle.lus_types.specs.Views.{recursions, tables_seen}
use Rattle.lus_types.proofs.Faults.{stopped, after, fault_step}
use Rattle.lus_types.proofs.declarations.check_decls.Goals as goal

next_place : (i : ℕ) → suc i ≡ i + 1
next_place i = omega arith

pub returns-in_err-check_decl : goal.returns-in_err-check_decl
returns-in_err-check_decl c =
    let r = recursions c.args.tables.now.cycles.now in
    let t = tables_seen c.args.tables.now in
    let x = c.index-decls-place.result in
    let i = c.loop-place.place in
    stopped _ _ _ _ c.in_err-check_decl.field-0.0 (λ done. Unit {0}) _ c.check_decl.result c.from_residual.result
    (c.loop-place.invariant.1 ∙ fault_step r (λ (b : ℕ × ℕ). declarations t b.0 b.1) (λ (b : ℕ × ℕ). declaration t b.0 b.1) (λ (b : ℕ × ℕ) (d : Decl). (suc b.0, next_type b.1 d)) (λ b d ds. refl) (i, c.loop-place.types) c.args.decls.now i x (omega arith) c.index-decls-place.is)
    refl c.check_decl.ensures c.in_err-check_decl.was c.from_residual.ensures

pub loop-place-preserved : goal.loop-place-preserved
loop-place-preserved c =
    let r = recursions c.args.tables.now.cycles.now in
    let t = tables_seen c.args.tables.now in
    let x = c.index-decls-place.result in
    let i = c.loop-place.place in
    let within = c.loop-place.invariant.0 in
    let grown = c.next_type-types.ensures.one_more in (
      omega arith,
      after _ _ _ _ (c.loop-place.invariant.1 ∙ fault_step r (λ (b : ℕ × ℕ). declarations t b.0 b.1) (λ (b : ℕ × ℕ). declaration t b.0 b.1) (λ (b : ℕ × ℕ) (d : Decl). (suc b.0, next_type b.1 d)) (λ b d ds. refl) (i, c.loop-place.types) c.args.decls.now i x (omega arith) c.index-decls-place.is) refl c.in_ok-check_decl.ensures.1
          ∙ (λ j. fault_in r (declarations t (next_place i j) (sym c.next_type-types.ensures.value j) (drop (i + 1) c.args.decls.now))),
    )
