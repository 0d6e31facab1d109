-- Loops that make a circuit part by part.
use Rattle.std.proofs.Common.{◌≡◌, ℕ, ◌<◌, ◌≤◌, [], ◌++◌, sym, ap, ◌∙◌, arith}
use Rattle.cnf_form.specs.Shape.{Shape}
use Rattle.bit_blast.specs.Circuit.{Circuit, after, with_entries}
use Rattle.bit_blast.specs.Made.{Makes}
use Rattle.bit_blast.proofs.Circuits.{after-append, after_more, vars-with_entries, with_entries-append}
use Rattle.bit_blast.proofs.Laws.{made_vars}

-- Of a whole circuit behind f the rest is to be made behind g; `front` makes the whole result of that
-- of the rest.
pub record SoFar (R : Type 0) (f g : Shape) (whole rest : Circuit R) (front : R → R) : Type 0 where
  pub made : with_entries f whole.entries ≡ with_entries g rest.entries
  pub gives : whole.result ≡ front rest.result
  pub more : f.vars ≤ g.vars

module _ (R S : Type 0) (f g : Shape) where
  -- the next part doesn't fit: so the whole circuit doesn't
  pub part_overfills : (most : ℕ) (whole rest later : Circuit R) (front : R → R) (one : Circuit S) → SoFar R f g whole rest front → rest.entries ≡ one.entries ++ later.entries → most < after g.vars one.entries → most < after f.vars whole.entries
  part_overfills most whole rest later front one s e full =
      omega (
        arith,
        full,
        vars-with_entries f whole.entries,
        ap (λ (z : Shape). z.vars) s.made,
        vars-with_entries g rest.entries,
        ap (after g.vars) e,
        after-append g.vars one.entries later.entries,
        after_more (after g.vars one.entries) later.entries,
      )

  -- the next part is made
  pub part_made : (h : Shape) (whole rest later : Circuit R) (front next : R → R) (one : Circuit S) (r : S) → SoFar R f g whole rest front → Makes S g h one r →
      rest.entries ≡ one.entries ++ later.entries → front rest.result ≡ next later.result → SoFar R f h whole later next
  part_made h whole rest later front next one r s m e k = record {
    made = s.made ∙ (ap (with_entries g) e ∙ (with_entries-append g one.entries later.entries ∙ ap (λ (x : Shape). with_entries x later.entries) (sym m.made)));
    gives = s.gives ∙ k;
    more = omega (arith, s.more, made_vars S g h one r m, after_more g.vars one.entries);
  }

module _ (R : Type 0) (f : Shape) where
  pub none_made : (whole rest : Circuit R) (front : R → R) → whole.entries ≡ rest.entries → whole.result ≡ front rest.result → SoFar R f f whole rest front
  none_made whole rest front e k = record { made = ap (with_entries f) e; gives = k; more = omega arith }

  pub all_made : (g : Shape) (whole rest : Circuit R) (front : R → R) (result : R) → SoFar R f g whole rest front → rest.entries ≡ [] → result ≡ front rest.result → Makes R f g whole result
  all_made g whole rest front result s e k = record { made = sym (s.made ∙ ap (with_entries g) e); gives = k ∙ sym s.gives }
