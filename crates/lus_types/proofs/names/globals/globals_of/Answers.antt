use Rattle.std.proofs.Common.{◌≡◌, ◌∙◌, ◌++◌, ◌+◌, ◌∷◌, ℕ, suc, drop, sym, ap, arith}
use Rattle.std.proofs.lemmas.List.{drop_more}
use Rattle.lus_types.specs.Names.{declares, entries_from, entry_of}
use Rattle.lus_types.specs.NameTables.{either}
use Rattle.lus_types.proofs.Tabled.{joined, either_assoc}
use Rattle.lus_types.proofs.names.globals.globals_of.Goals as goal

next_place : (i : ℕ) → i + 1 ≡ suc i
next_place i = omega arith

pub loop-place-preserved : goal.loop-place-preserved
loop-place-preserved c =
    let i = c.loop-place.place in
    let types = c.loop-place.types in
    let next = c.next_type-types.result in
    let d = c.index-decls-place.result in
    let rest = drop (i + 1) c.args.decls.now in
    let within = c.loop-place.invariant.0 in
    let grown = c.next_type-types.ensures.one_more in
    let step : drop i c.args.decls.now ≡ d ∷ rest = drop_more c.args.decls.now i d (omega arith) ∙ ap (λ y. y ∷ rest) (sym c.index-decls-place.is) in (
      omega arith,
      λ x.
          ap (λ o. either o (entry_of (entries_from (i + 1) next rest) x)) (c.in_ok-declare.ensures.ok x)
          ∙ either_assoc (entry_of c.loop-place.table x) (entry_of (declares i types d) x) (entry_of (entries_from (i + 1) next rest) x)
          ∙ ap (either (entry_of c.loop-place.table x))
          (sym (joined (declares i types d) (entries_from (i + 1) next rest) x)
          ∙ (λ j. entry_of (declares i types d ++ entries_from (next_place i j) (c.next_type-types.ensures.value j) rest) x)
          ∙ ap (λ l. entry_of (entries_from i types l) x) (sym step))
          ∙ c.loop-place.invariant.1 x,
    )
