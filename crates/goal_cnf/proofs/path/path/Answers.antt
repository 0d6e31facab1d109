use Rattle.std.proofs.Common.{◌<◌, ap, ap₂, subst, arith, rules, get_or, List}
use Rattle.std.specs.Option.{option_map}
use Rattle.cnf_form.specs.Limits.{most_vars}
use Rattle.cnf_form.specs.declared.lit.Lit.{Lit}
use Rattle.bit_blast.specs.Circuit.{Circuit, after}
use Rattle.bit_blast.specs.Made.{Makes}
use Rattle.unroll_cnf.specs.Made.{word_at}
use Rattle.dep_paths.specs.declared.path.Step.{Step}
use Rattle.goal_cnf.specs.Activity.{pin_circuit, place_circuit}
use Rattle.goal_cnf.proofs.Reading.{bit_there}
use Rattle.goal_cnf.proofs.PathMaking.{first_full, path_full, path_next}
use Rattle.goal_cnf.proofs.path.path.Goals as goal

pub bit-requires : goal.bit-requires
bit-requires c = (bit_there c.args.parts.now c.args.un.now c.args.t c.args.maker.now.vars c.requires.reads c.args.path.now.start c.requires.path.start).bit

pub pinned-requires-clause-bit : goal.pinned-requires-clause-bit
pinned-requires-clause-bit c = omega (arith, ap (λ (l : Lit). l.var) c.bit.ensures, (bit_there c.args.parts.now c.args.un.now c.args.t c.args.maker.now.vars c.requires.reads c.args.path.now.start c.requires.path.start).below)

pub returns-in_err-shorter-clause-full : goal.returns-in_err-shorter-clause-full
returns-in_err-shorter-clause-full c = λ e.
    first_full c.args.parts.now.edges c.args.pin (word_at c.args.un.now.words c.args.t) (option_map (λ ls. ls.now) c.args.before) c.args.path.now c.args.maker.now most_vars
    (subst (λ (z : Circuit Lit). most_vars < after c.args.maker.now.vars z.entries)
    (ap₂ (λ (x y : Lit). pin_circuit c.args.maker.now.vars c.args.pin 0 x y) c.bit.ensures c.yes-yes.ensures.value)
    (c.in_err-shorter.ensures.full (search rules)))

pub returns-in_err-shorter-2-clause-full : goal.returns-in_err-shorter-2-clause-full
returns-in_err-shorter-2-clause-full c = λ e.
    path_full c.args.parts.now.edges c.args.pin (word_at c.args.un.now.words c.args.t) (option_map (λ ls. ls.now) c.args.before) c.args.path.now c.args.maker.now c.loop-place.maker c.loop-place.shorter c.loop-place.place most_vars c.loop-place.lits (record { edge = record { 0 = 0 }; port = 0 }) c.loop-place.invariant (search rules)
    (subst (λ (z : List Step). most_vars < after c.loop-place.maker.vars (place_circuit c.loop-place.maker.vars c.args.parts.now.edges c.args.pin c.loop-place.place (get_or z c.loop-place.place (record { edge = record { 0 = 0 }; port = 0 })) (word_at c.args.un.now.words c.args.t) c.loop-place.shorter (option_map (λ ls. ls.now) c.args.before)).entries)
    c.as_slice-step-items.ensures (c.in_err-shorter-2.ensures.full (search rules)))

pub loop-place-preserved : goal.loop-place-preserved
loop-place-preserved c = let h = c.in_ok-shorter-2.ensures in let t = c.loop-place-test.true in
    path_next c.args.parts.now.edges c.args.pin (word_at c.args.un.now.words c.args.t) (option_map (λ ls. ls.now) c.args.before) c.args.path.now c.args.maker.now c.loop-place.maker c.next_place.new.maker c.loop-place.shorter c.in_ok-shorter-2.shorter c.loop-place.place c.loop-place.lits c.add-in-loop-place.new.self (record { edge = record { 0 = 0 }; port = 0 }) c.loop-place.invariant (search rules)
    (subst (λ (z : List Step). Makes Lit c.loop-place.maker c.next_place.new.maker (place_circuit c.loop-place.maker.vars c.args.parts.now.edges c.args.pin c.loop-place.place (get_or z c.loop-place.place (record { edge = record { 0 = 0 }; port = 0 })) (word_at c.args.un.now.words c.args.t) c.loop-place.shorter (option_map (λ ls. ls.now) c.args.before)) c.in_ok-shorter-2.shorter)
    c.as_slice-step-items.ensures c.in_ok-shorter-2.ensures.made)
    c.in_ok-shorter-2.ensures.below c.in_ok-add-2.ensures.ok
