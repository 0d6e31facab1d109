use Rattle.std.proofs.Common.{rules, subst, sym}
use Rattle.std.specs.Prelude.{Ok, Err}
use Rattle.cov_station.specs.Sources.{Expands}
use Rattle.cov_station.specs.Steps.{Does}
use Rattle.cov_station.specs.Views.{IsExpansionOf}
use Rattle.cov_station.proofs.ChainSteps.{refused, stopped, took, went_on}
use Rattle.cov_station.proofs.SourceSteps.{cut_whole, few_of, grammatical, uncrowded}
use Rattle.cov_station.proofs.source.compile.Goals as goal

pub returns-in_err-tokens : goal.returns-in_err-tokens
returns-in_err-tokens c = refused (search rules) (stopped c.in_err-tokens.ensures.tokens)

pub returns-in_err-check_crowd : goal.returns-in_err-check_crowd
returns-in_err-check_crowd c =
    refused (search rules) (took c.in_ok-tokens.ensures.tokens (stopped (rw c.as_slice.ensures at c.in_err-check_crowd.ensures)))

pub tree_of-requires-clause-tokens : goal.tree_of-requires-clause-tokens
tree_of-requires-clause-tokens c = rw c.as_slice-2.ensures (cut_whole c.in_ok-tokens.ensures.tokens)

pub tree_of-requires-clause-loose : goal.tree_of-requires-clause-loose
tree_of-requires-clause-loose c = rw c.as_slice-2.ensures (uncrowded (rw c.as_slice.ensures at c.in_ok-check_crowd.ensures))

pub returns-in_err-tree : goal.returns-in_err-tree
returns-in_err-tree c =
    refused (search rules)
    (took c.in_ok-tokens.ensures.tokens
    (took (rw c.as_slice.ensures at c.in_ok-check_crowd.ensures)
    (stopped (rw c.as_slice-2.ensures at c.in_err-tree.ensures))))

pub typed_of-requires-clause-tree : goal.typed_of-requires-clause-tree
typed_of-requires-clause-tree c = grammatical c.in_ok-tokens.ensures.tokens (rw c.as_slice-2.ensures at c.in_ok-tree.ensures)

pub typed_of-requires-clause-few : goal.typed_of-requires-clause-few
typed_of-requires-clause-few c = few_of (rw c.as_slice-2.ensures at c.in_ok-tree.ensures) c.in_ok-tokens.ensures.count c.requires.short

pub returns-in_err-typed : goal.returns-in_err-typed
returns-in_err-typed c =
    refused (search rules)
    (took c.in_ok-tokens.ensures.tokens
    (took (rw c.as_slice.ensures at c.in_ok-check_crowd.ensures)
    (took (rw c.as_slice-2.ensures at c.in_ok-tree.ensures)
    (stopped c.in_err-typed.ensures))))

pub returns-in_err-network : goal.returns-in_err-network
returns-in_err-network c =
    refused (search rules)
    (took c.in_ok-tokens.ensures.tokens
    (took (rw c.as_slice.ensures at c.in_ok-check_crowd.ensures)
    (took (rw c.as_slice-2.ensures at c.in_ok-tree.ensures)
    (went_on c.in_ok-typed.ensures λ source s shown.
    stopped (subst (λ source. Does (Expands source) (λ done parts. IsExpansionOf source parts) (Err c.in_err-network.field-0.0)) (sym shown) c.in_err-network.ensures)))))

pub returns : goal.returns
returns c =
    took c.in_ok-tokens.ensures.tokens
    (took (rw c.as_slice.ensures at c.in_ok-check_crowd.ensures)
    (took (rw c.as_slice-2.ensures at c.in_ok-tree.ensures)
    (went_on c.in_ok-typed.ensures λ source s shown.
    went_on (subst (λ source. Does (Expands source) (λ done parts. IsExpansionOf source parts) (Ok c.in_ok-network.network)) (sym shown) c.in_ok-network.ensures) λ done e expansion.
    c.ordered_of.ensures source expansion)))
