use Rattle.std.proofs.Common.{rules, arith}
use Rattle.cnf_form.specs.Limits.{most_vars}
use Rattle.unroll_cnf.proofs.Exclusions.{input_full}
use Rattle.unroll_cnf.proofs.Typed.{few_enumerators}
use Rattle.unroll_cnf.proofs.input.input_word.Goals as goal

pub returns-in_err-word-clause-full : goal.returns-in_err-word-clause-full
returns-in_err-word-clause-full c = λ e. input_full c.args.parts.now c.args.maker.now.vars most_vars _ c.args.ty c.bits_of-bits.ensures.value (c.in_err-word.ensures.full (search rules))

pub overflow_cast-names : goal.overflow_cast-names
overflow_cast-names c = omega (arith, c.enumerators-names.ensures, few_enumerators c.args.parts.now.choices c.in-Choice.choice c.requires.choices)
