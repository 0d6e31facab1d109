use Rattle.std.proofs.Common.{◌+◌, ◌≤◌, length, sym, subst, arith}
use Rattle.lus_syntax.specs.Cuts.{Cuts, nothing}
use Rattle.lus_syntax.proofs.Cutting.{skip_within, fits_behind, cuts_skip, cuts_token, gap_of, token_of, token_count}
use Rattle.lus_syntax.proofs.tokens.lexer.lex.Goals as goal

pub loop-at-init : goal.loop-at-init
loop-at-init c = record { cut = subst (λ ts. Cuts c.args.text.now 0 ts 0) (sym c.new-tokens.ensures) nothing; within = omega arith }

pub overflow_add-at : goal.overflow_add-at
overflow_add-at c =
    let s = gap_of _ _ _ _ (c.in-Ok-Gap.ensures) c.in-Ok-Gap.field-0-is c.split_at.ensures.back in
    let le : c.loop-at.at + c.in-Ok-Gap.len ≤ length c.args.text.now = fits_behind c.args.text.now c.loop-at.at c.in-Ok-Gap.len c.loop-at.invariant.within (skip_within s) in
    omega (arith, c.requires)

pub loop-at-preserved-in-Ok-Gap : goal.loop-at-preserved-in-Ok-Gap
loop-at-preserved-in-Ok-Gap c =
    let s = gap_of _ _ _ _ (c.in-Ok-Gap.ensures) c.in-Ok-Gap.field-0-is c.split_at.ensures.back in
    record {
      cut = cuts_skip c.loop-at.invariant.cut _ s;
      within = fits_behind c.args.text.now c.loop-at.at c.in-Ok-Gap.len c.loop-at.invariant.within (skip_within s);
    }

pub loop-at-preserved : goal.loop-at-preserved
loop-at-preserved c =
    let t = token_of _ _ _ _ _ (c.in-Ok-Token.ensures) c.in-Ok-Token.field-0-is c.split_at.ensures.back in
    record {
      cut = subst (λ ts. Cuts c.args.text.now 0 ts (c.loop-at.at + c.in-Ok-Token.len)) (sym c.in_ok-add-in-Ok-Token.ensures.ok) (cuts_token c.loop-at.invariant.cut _ _ t.0 t.1 t.2);
      within = fits_behind c.args.text.now c.loop-at.at c.in-Ok-Token.len c.loop-at.invariant.within t.1.within;
    }

pub returns-clause-count : goal.returns-clause-count
returns-clause-count c = let h = token_count c.loop-at.invariant.cut in omega (arith, c.loop-at.invariant.within)
