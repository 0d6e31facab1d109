use Rattle.std.proofs.Common.{◌≡◌, ◌∙◌, ◌<◌, Some, sym, subst, arith, length, inr, ℕ, [], ◌∷◌}
use Rattle.std.proofs.lemmas.Option.{same_Some, none-some}
use Rattle.proof_check.specs.Check.{open_lits}
use Rattle.sat_core.specs.Solving.{entries_of, vars_of, IsFree}
use Rattle.sat_core.specs.Trail.{lits, lit_at, clauses_of, is_false, IsReason}
use Rattle.sat_core.proofs.ClauseFacts.{length-clauses}
use Rattle.sat_core.proofs.Conflicting.{reason-from, forced-free}
use Rattle.sat_core.proofs.Opens.{look_one, look_many, one_in, one_below}
use Rattle.sat_core.proofs.Passing.{Passing-idle, Passing-more, Passing-rest, one_idle}
use Rattle.sat_core.proofs.Setting.{Solving-push, weight-push}
use Rattle.sat_core.proofs.pass.pass.Goals as goal
use Rattle.sat_core.proofs.pass.pass.Goals.{in-One+then-not-is_set+in_ok-push-in-One, in-One+else-not-is_set, in-Many}

pub is_set-requires : goal.is_set-requires
is_set-requires c =
    let n = length-clauses c.args.formula.now c.args.log.now in
    one_below _ (is_false (lits (entries_of c.loop-at.trail))) c.clause_at.result.now c.in-One.lit (look_one _ _ c.in-One.ensures)
    (rw c.clause_at.ensures (c.loop-at.invariant.solving.well.inside c.loop-at.at (omega arith)))

pub push-requires-clause-inside : goal.push-requires-clause-inside
push-requires-clause-inside c =
    let n = length-clauses c.args.formula.now c.args.log.now in
    one_below _ (is_false (lits (entries_of c.loop-at.trail))) c.clause_at.result.now c.in-One.lit (look_one _ _ c.in-One.ensures)
    (rw c.clause_at.ensures (c.loop-at.invariant.solving.well.inside c.loop-at.at (omega arith)))

pub push-requires-clause-free : goal.push-requires-clause-free
push-requires-clause-free c =
    let one : open_lits (is_false (lits (entries_of c.loop-at.trail))) c.clause_at.result.now ≡ c.in-One.lit ∷ [] = look_one _ _ c.in-One.ensures in
    forced-free _ (entries_of c.loop-at.trail) c.loop-at.trail.places.items c.in-One.lit c.loop-at.trail.placed
    (sym c.if-not-is_set.ensures) (one_in (is_false (lits (entries_of c.loop-at.trail))) c.clause_at.result.now c.in-One.lit one).1

pub loop-at-preserved : goal.loop-at-preserved
loop-at-preserved c = elim c.match-look.branch [
  | in-One+then-not-is_set+in_ok-push-in-One w ↦
      let n = length-clauses c.args.formula.now c.args.log.now in
      let one : open_lits (is_false (lits (entries_of c.loop-at.trail))) c.clause_at.result.now ≡ w.in-One.lit ∷ [] = look_one _ _ w.in-One.ensures in
      let inside : w.in-One.lit.var < vars_of c.loop-at.trail = one_below _ (is_false (lits (entries_of c.loop-at.trail))) c.clause_at.result.now w.in-One.lit one
      (rw c.clause_at.ensures (c.loop-at.invariant.solving.well.inside c.loop-at.at (omega arith))) in
      let free : IsFree c.loop-at.trail w.in-One.lit = forced-free _ (entries_of c.loop-at.trail) c.loop-at.trail.places.items w.in-One.lit c.loop-at.trail.placed
      (sym w.if-not-is_set.ensures) (one_in (is_false (lits (entries_of c.loop-at.trail))) c.clause_at.result.now w.in-One.lit one).1 in
      let here : c.loop-at.at < length (clauses_of c.args.formula.now c.args.log.now) = omega arith in
      let entries = w.in_ok-push-in-One.ensures.entries in
      let vars = w.in_ok-push-in-One.ensures.vars in
      rw (w.trail-is, w.has_set-is) (record {
        solving = Solving-push c.loop-at.trail w.push.new.self (record { lit = w.in-One.lit; reason = Some c.loop-at.at }) entries vars inside free c.args.formula.now c.args.log.now c.loop-at.invariant.solving
            (λ r e. (let q : c.loop-at.at ≡ r = same_Some c.loop-at.at r e in
            subst (λ (k : ℕ). IsReason (clauses_of c.args.formula.now c.args.log.now) (lit_at (entries_of c.loop-at.trail)) (length (entries_of c.loop-at.trail)) w.in-One.lit k) q
            (reason-from (clauses_of c.args.formula.now c.args.log.now) (entries_of c.loop-at.trail) c.loop-at.at w.in-One.lit here (rw (← c.clause_at.ensures) one))))
            (λ e. absurd (none-some c.loop-at.at (sym e)));
        size = vars ∙ c.loop-at.invariant.size;
        passing = Passing-more _ c.args.trail.now c.loop-at.trail _ c.loop-at.has_set w.push.new.self c.loop-at.invariant.passing
            (weight-push c.loop-at.trail w.push.new.self (record { lit = w.in-One.lit; reason = Some c.loop-at.at }) entries vars inside free);
      })
  | in-One+else-not-is_set w ↦
      rw (w.trail-is, w.has_set-is) (record {
        solving = c.loop-at.invariant.solving;
        size = c.loop-at.invariant.size;
        passing = Passing-idle _ c.args.trail.now c.loop-at.trail c.loop-at.at c.loop-at.has_set
            (rw (← c.clause_at.ensures) (one_idle (lits (entries_of c.loop-at.trail)) c.clause_at.result.now w.in-One.lit (look_one _ _ w.in-One.ensures) (sym w.if-not-is_set.ensures)))
            c.loop-at.invariant.passing;
      })
  | in-Many w ↦
      rw (w.trail-is, w.has_set-is) (record {
        solving = c.loop-at.invariant.solving;
        size = c.loop-at.invariant.size;
        passing = Passing-idle _ c.args.trail.now c.loop-at.trail c.loop-at.at c.loop-at.has_set
            (rw (← c.clause_at.ensures) (inr (look_many _ w.in-Many.ensures)))
            c.loop-at.invariant.passing;
      })
]

pub returns-else-has_set-clause-passed : goal.returns-else-has_set-clause-passed
returns-else-has_set-clause-passed c =
    let n = length-clauses c.args.formula.now c.args.log.now in
    Passing-rest (clauses_of c.args.formula.now c.args.log.now) c.args.trail.now c.loop-at.trail c.loop-at.at c.loop-at.has_set
    c.if-has_set.false (omega arith) c.loop-at.invariant.passing
