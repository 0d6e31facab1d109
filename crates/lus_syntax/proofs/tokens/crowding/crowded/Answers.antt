use Rattle.std.proofs.Common.{◌<◌, ◌+◌, sym, ◌∙◌, subst, arith}
use Rattle.lus_syntax.specs.declared.limits.TheConstants.{MOST_COUNTED}
use Rattle.lus_syntax.proofs.Crowds.{IsCount, step_semicolon, step_counted, step_other, start, semicolon_free, not_here, not_yet, none_more, none_all, least}
use Rattle.lus_syntax.proofs.tokens.crowding.crowded.Goals.{then-is_semicolon, else-is_semicolon+then-is_counted+else-count-eq-MOST_COUNTED, else-is_semicolon+else-is_counted}
use Rattle.lus_syntax.proofs.tokens.crowding.crowded.Goals as goal

pub loop-place-init : goal.loop-place-init
loop-place-init c = record { count = start c.args.tokens.now; bound = omega arith; none = record { none = λ other lt _. absurd (omega arith) } }

pub returns-then-count-eq-MOST_COUNTED-clause-some : goal.returns-then-count-eq-MOST_COUNTED-clause-some
returns-then-count-eq-MOST_COUNTED-clause-some c =
    least _ _ _ (subst (λ n. IsCount c.args.tokens.now c.loop-place.place n) c.if-count-eq-MOST_COUNTED.true c.loop-place.invariant.count)
    c.loop-place.invariant.none c.loop-place-test.true (sym c.is_counted.ensures ∙ c.if-is_counted.true)

pub loop-place-preserved : goal.loop-place-preserved
loop-place-preserved c =
    elim c.if-is_semicolon.branch [
      | then-is_semicolon w ↦
          let is_so = sym c.is_semicolon.ensures ∙ w.if-is_semicolon.true in
          record {
            count = subst (λ n. IsCount c.args.tokens.now (c.loop-place.place + 1) n) (sym w.count-is) (step_semicolon _ _ _ c.loop-place-test.true is_so);
            bound = omega (arith, w.count-is);
            none = none_more _ _ c.loop-place.invariant.none (not_here _ _ _ (semicolon_free _ is_so));
          }
      | else-is_semicolon+then-is_counted+else-count-eq-MOST_COUNTED w ↦
          let not_so = sym c.is_semicolon.ensures ∙ w.if-is_semicolon.false in
          let counted = sym w.is_counted.ensures ∙ w.if-is_counted.true in
          let less : c.loop-place.count < MOST_COUNTED = omega (arith, w.if-count-eq-MOST_COUNTED.false) in
          record {
            count = subst (λ n. IsCount c.args.tokens.now (c.loop-place.place + 1) n) (sym w.count-is) (step_counted _ _ _ _ c.loop-place.invariant.count c.loop-place-test.true not_so counted);
            bound = omega (arith, w.count-is, less);
            none = none_more _ _ c.loop-place.invariant.none (not_yet _ _ _ c.loop-place.invariant.count less);
          }
      | else-is_semicolon+else-is_counted w ↦
          let not_so = sym c.is_semicolon.ensures ∙ w.if-is_semicolon.false in
          let not_counted = sym w.is_counted.ensures ∙ w.if-is_counted.false in
          record {
            count = subst (λ n. IsCount c.args.tokens.now (c.loop-place.place + 1) n) (sym w.count-is) (step_other _ _ _ _ c.loop-place.invariant.count c.loop-place-test.true not_so not_counted);
            bound = omega (arith, w.count-is);
            none = none_more _ _ c.loop-place.invariant.none (not_here _ _ _ not_counted);
          }
    ]

pub returns-clause-none : goal.returns-clause-none
returns-clause-none c = none_all c.args.tokens.now c.loop-place.place c.loop-place.invariant.none c.loop-place-test.false
