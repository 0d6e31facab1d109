use Rattle.std.proofs.Common.{get_or, ◌<◌, sym, subst, rules, List}
use Rattle.std.specs.Option.{option_map}
use Rattle.cnf_form.specs.Limits.{most_vars}
use Rattle.cnf_form.specs.declared.lit.Lit.{Lit}
use Rattle.bit_blast.specs.Circuit.{after}
use Rattle.bit_blast.specs.Made.{Makes}
use Rattle.unroll_cnf.specs.Made.{IsEdgeReady, table_of}
use Rattle.unroll_cnf.specs.Unrolled.{edge_circuit}
use Rattle.unroll_cnf.proofs.Filling.{instant_start, instant_ready, instant_room, instant_full, instant_step, instant_words, instant_spent}
use Rattle.unroll_cnf.proofs.instant.instant.Goals as goal

pub loop-e-init : goal.loop-e-init
loop-e-init c = instant_start c.args.parts.now (option_map (λ words. words.now) c.args.before) c.args.order.now c.args.maker.now c.in_ok-words.words c.requires.order c.requires.some (search rules)

pub edge_word-requires-clause-ready : goal.edge_word-requires-clause-ready
edge_word-requires-clause-ready c =
    subst (IsEdgeReady c.args.parts.now c.loop-e.maker.vars _) (sym c.as_slice.ensures)
    (instant_ready c.args.parts.now c.requires.valid (option_map (λ words. words.now) c.args.before) c.args.order.now c.args.maker.now c.loop-e.maker c.loop-e.e-index (record { 0 = 0 }) c.loop-e.words c.loop-e.invariant c.loop-e-test.true)

pub edge_word-requires-clause-room : goal.edge_word-requires-clause-room
edge_word-requires-clause-room c =
    instant_room c.args.parts.now c.requires.valid (option_map (λ words. words.now) c.args.before) c.args.order.now c.args.maker.now c.loop-e.maker c.loop-e.e-index c.loop-e.words c.requires.order c.loop-e.invariant c.loop-e-test.true c.requires.room

pub returns-in_err-word-clause-full : goal.returns-in_err-word-clause-full
returns-in_err-word-clause-full c = λ e.
    instant_full c.args.parts.now c.requires.valid (option_map (λ words. words.now) c.args.before) c.args.order.now c.args.maker.now c.loop-e.maker c.loop-e.e-index most_vars (record { 0 = 0 }) c.loop-e.words c.loop-e.invariant c.loop-e-test.true
    (subst (λ (now : List (List Lit)). most_vars < after c.loop-e.maker.vars (edge_circuit c.args.parts.now c.loop-e.maker.vars (get_or c.args.order.now c.loop-e.e-index (record { 0 = 0 })) (option_map table_of (option_map (λ words. words.now) c.args.before)) (table_of now)).entries) c.as_slice.ensures (c.in_err-word.ensures.full (search rules)))

pub loop-e-preserved : goal.loop-e-preserved
loop-e-preserved c =
    instant_step c.args.parts.now c.requires.valid (option_map (λ words. words.now) c.args.before) c.args.order.now c.args.maker.now c.loop-e.maker _ c.loop-e.e-index (record { 0 = 0 }) c.loop-e.words _ _ c.requires.past c.loop-e.invariant c.loop-e-test.true
    (subst (λ (now : List (List Lit)). Makes (List Lit) c.loop-e.maker c.edge_word.new.maker (edge_circuit c.args.parts.now c.loop-e.maker.vars (get_or c.args.order.now c.loop-e.e-index (record { 0 = 0 })) (option_map table_of (option_map (λ words. words.now) c.args.before)) (table_of now)) c.in_ok-word.word) c.as_slice.ensures c.in_ok-word.ensures.made) c.put.ensures

pub returns-clause-words : goal.returns-clause-words
returns-clause-words c =
    instant_words c.args.parts.now c.requires.valid (option_map (λ words. words.now) c.args.before) c.args.order.now c.args.maker.now c.loop-e.maker c.loop-e.e-index c.loop-e.words c.requires.order c.loop-e.invariant c.loop-e-test.false

pub returns-clause-spent : goal.returns-clause-spent
returns-clause-spent c =
    instant_spent c.args.parts.now c.requires.valid (option_map (λ words. words.now) c.args.before) c.args.order.now c.args.maker.now c.loop-e.maker c.loop-e.e-index c.loop-e.words c.requires.order c.loop-e.invariant
