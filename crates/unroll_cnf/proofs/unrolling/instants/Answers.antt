use Rattle.std.proofs.Common.{◌<◌, ◌∙◌, ap, subst, rules, List, Option}
use Rattle.std.specs.Option.{option_map}
use Rattle.cnf_form.specs.Limits.{most_vars}
use Rattle.cnf_form.specs.declared.lit.Lit.{Lit}
use Rattle.bit_blast.specs.Circuit.{after}
use Rattle.bit_blast.specs.Made.{Makes}
use Rattle.unroll_cnf.specs.Made.{last_of, table_of}
use Rattle.unroll_cnf.specs.Unrolled.{Table, instant, no_words}
use Rattle.unroll_cnf.proofs.Instants.{instants_full, instants_step}
use Rattle.unroll_cnf.proofs.unrolling.instants.Goals as goal

pub returns-in_err-words-clause-full : goal.returns-in_err-words-clause-full
returns-in_err-words-clause-full c = λ e.
    instants_full c.args.parts.now c.args.order.now c.args.k c.args.maker.now c.loop-instant.maker c.loop-instant._instant most_vars c.loop-instant.all c.loop-instant.invariant c.loop-instant-test.true
    (subst (λ (past : Option (List (List Lit))). most_vars < after c.loop-instant.maker.vars (instant c.args.parts.now (option_map table_of past) c.loop-instant.maker.vars no_words c.args.order.now).entries)
    (c.last.ensures ∙ ap last_of c.as_slice.ensures) (c.in_err-words.ensures.full (search rules)))

pub loop-instant-preserved : goal.loop-instant-preserved
loop-instant-preserved c =
    instants_step c.args.parts.now c.args.order.now c.args.k c.args.maker.now c.loop-instant.maker _ c.loop-instant._instant c.loop-instant.all _ c.in_ok-words.words c.loop-instant.invariant c.loop-instant-test.true
    (subst (λ (past : Option (List (List Lit))). Makes Table c.loop-instant.maker c.instant.new.maker (instant c.args.parts.now (option_map table_of past) c.loop-instant.maker.vars no_words c.args.order.now) (table_of c.in_ok-words.words))
    (c.last.ensures ∙ ap last_of c.as_slice.ensures) c.in_ok-words.ensures.made)
    c.in_ok-words.ensures.words c.in_ok-words.ensures.spent c.in_ok-add.ensures.ok
