use Rattle.std.proofs.Common.{◌∙◌, ◌≡◌, Err, ap, arith, refl, rules, subst, sym}
use Rattle.op_network.specs.Valid.{IsValid}
use Rattle.node_expand.specs.declared.fault.ExpandFault.TheVariants.{Depth, Edges}
use Rattle.node_expand.specs.declared.limits.TheConstants.{MOST_DEPTH}
use Rattle.node_expand.specs.Law.{main_name, program_in}
use Rattle.node_expand.proofs.Shut.{shut_deep, shut_few, shut_large, shut_nested, shut_network}
use Rattle.node_expand.proofs.ValidNetworks.{network_is_valid}
use Rattle.node_expand.proofs.expansion.expand.Goals as goal

pub build-requires : goal.build-requires
build-requires c =
    let typed = c.args.typed.now in
    let facts = c.typed_program.ensures in
    let wide = facts.width.narrowest in
    let tables = c.in_ok-tables.tables in
    let deep = c.in_ok-tables.ensures.depth in
    let ready = c.in_ok-tables.ensures.ready in
    subst IsValid (sym (shut_network typed tables.depth c.in_ok-parts.parts deep c.in_ok-parts.ensures))
    (network_is_valid (program_in typed) (main_name typed)
    (record {
      words = λ x. c.one_word.ensures.word typed.width x (omega (arith, wide));
      typed = facts.program;
      values = facts.values;
      identifiers = facts.identifiers;
      types = facts.types;
      outputs = facts.outputs;
      choices = facts.choices;
      width = facts.width;
    })
    (shut_nested typed tables.depth deep ready.nested) (shut_few typed tables.depth deep ready.few))

pub returns-clause-network : goal.returns-clause-network
returns-clause-network c =
    c.build.ensures ∙ shut_network c.args.typed.now c.in_ok-tables.tables.depth c.in_ok-parts.parts c.in_ok-tables.ensures.depth c.in_ok-parts.ensures

pub returns-clause-nested : goal.returns-clause-nested
returns-clause-nested c = shut_nested c.args.typed.now c.in_ok-tables.tables.depth c.in_ok-tables.ensures.depth c.in_ok-tables.ensures.ready.nested

pub returns-in_err-tables-clause-deep : goal.returns-in_err-tables-clause-deep
returns-in_err-tables-clause-deep c = λ e.
    let returned : c.from_residual.result ≡ Err c.in_err-tables.field-0.0 = search rules in
    shut_deep c.args.typed.now MOST_DEPTH refl (c.in_err-tables.ensures.deep (ap (λ f. Err f) (let told = sym returned ∙ e in let same : c.in_err-tables.field-0.0 ≡ Depth = cc told in same)))

pub returns-in_err-tables-clause-shallow : goal.returns-in_err-tables-clause-shallow
returns-in_err-tables-clause-shallow c = λ e.
    let returned : c.from_residual.result ≡ Err c.in_err-tables.field-0.0 = search rules in
    let large = c.in_err-tables.ensures.large (ap (λ f. Err f) (let told = sym returned ∙ e in let same : c.in_err-tables.field-0.0 ≡ Edges = cc told in same)) in
    shut_nested c.args.typed.now MOST_DEPTH refl large.nested

pub returns-in_err-tables-clause-many : goal.returns-in_err-tables-clause-many
returns-in_err-tables-clause-many c = λ e.
    let returned : c.from_residual.result ≡ Err c.in_err-tables.field-0.0 = search rules in
    shut_large c.args.typed.now MOST_DEPTH refl (c.in_err-tables.ensures.large (ap (λ f. Err f) (let told = sym returned ∙ e in let same : c.in_err-tables.field-0.0 ≡ Edges = cc told in same)))
