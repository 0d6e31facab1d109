-- A type of a typed program has 1 to 256 enumerators, and they differ.
use Rattle.std.proofs.Common.{◌≡◌, inl, inr, ℕ, suc, ◌≤◌, List, [], ◌∷◌, length, Option, Some, None, Bool, true, false, ◌&&◌, ◌==◌, not, refl, sym, subst, arith}
use Rattle.std.proofs.lemmas.Bool.{eqb-true}
use Rattle.std.proofs.lemmas.List.{length-map}
use Rattle.lus_syntax.specs.declared.ast.Ast.{Ast}
use Rattle.lus_syntax.specs.declared.ast.Decl.{Decl}
use Rattle.lus_syntax.specs.declared.ast.Decl.TheVariants.{TypeDecl}
use Rattle.lus_syntax.specs.declared.ast.Spot.{Spot}
use Rattle.lus_syntax.specs.Grammar.{IsTreeOfGrammar}
use Rattle.lus_types.specs.declared.fault.TypeKind.TheVariants as kind
use Rattle.lus_types.specs.declared.types.Meaning.{Meaning}
use Rattle.lus_types.specs.declared.types.Meaning.TheVariants.{Enumeration as Listed, Constant, Node, Enumerator}
use Rattle.lus_types.specs.Calls.{In, here}
use Rattle.lus_types.specs.Facts.{HasChoices, HasFewEnumerators}
use Rattle.lus_types.specs.Names.{Name, Globals, globals, means, next_type, spot_names}
use Rattle.lus_types.specs.Programs.{Enumeration, enumerations, program_of}
use Rattle.lus_types.specs.ProgramTypes.{AreDistinct}
use Rattle.lus_types.specs.Typing.{IsFineProgram, Tables, declaration, declarations, tables}
use Rattle.lus_types.specs.Walk.{enumerator_names}
use Rattle.lus_types.proofs.FineHeaders.{in_cases, is_yes}
use Rattle.lus_types.proofs.FineParts.{AreFine, fine_front, fine_rest, fine_tail}
use Rattle.lus_types.proofs.FinePrograms.{few_choices}
use Rattle.lus_types.proofs.Identifiers.{IsDeclaredType, all_of, has_enumerator, type_declared}

second_is : (a b : Bool) → (not (a && b) ≡ true → ⊥) → b ≡ true
second_is true b h = is_yes b h
second_is false b h = absurd (h refl)

-- which enumerator of its type a name means, if it means one
number_meant : Option Meaning → ℕ
number_meant (Some (Enumerator ty i)) = i
number_meant (Some (Listed ty)) = 0
number_meant (Some (Constant place)) = 0
number_meant (Some (Node place)) = 0
number_meant None = 0

numbered : (ty i : ℕ) (m : Option Meaning) → (not (means (Enumerator ty i) m) ≡ true → ⊥) → number_meant m ≡ i
unfolding number_meant
numbered ty i (Some (Enumerator p j)) h = sym (eqb-true i j (second_is (ty == p) (i == j) h))
numbered ty i (Some (Listed p)) h = absurd (h refl)
numbered ty i (Some (Constant place)) h = absurd (h refl)
numbered ty i (Some (Node place)) h = absurd (h refl)
numbered ty i None h = absurd (h refl)

module _ (decls : List Decl) where
  module _ (g : Globals) (ty : ℕ) where
    -- the enumerators from one on mean no earlier one
    from_there : (i : ℕ) (choices : List Spot) → AreFine decls (enumerator_names g ty i choices) → (x : Name) → In x (spot_names choices) → i ≤ number_meant (g x)
    from_there i [] f x k = elim k [ ]
    from_there i (c ∷ choices) f x k = elim (in_cases k) [
      | inl same ↦ subst (λ y. i ≤ number_meant (g y)) (sym same) (omega (arith, numbered ty i (g c.text) (f _ here kind.Duplicate)))
      | inr j ↦ omega (arith, from_there (suc i) choices (fine_tail decls _ _ f) x j)
    ]

    differ_from : (i : ℕ) (choices : List Spot) → AreFine decls (enumerator_names g ty i choices) → AreDistinct (spot_names choices)
    differ_from i [] f = tt
    differ_from i (c ∷ choices) f = (
      λ k. omega (arith, from_there (suc i) choices (fine_tail decls _ _ f) c.text k, numbered ty i (g c.text) (f _ here kind.Duplicate)),
      differ_from (suc i) choices (fine_tail decls _ _ f),
    )

  -- the occurrences of a declaration are fine
  fine_in : (t : Tables) (place ty : ℕ) (rest : List Decl) (d : Decl) → AreFine decls (declarations t place ty rest) → In d rest → (p : ℕ) × (k : ℕ) × AreFine decls (declaration t p k d)
  fine_in t place ty [] d f i = elim i [ ]
  fine_in t place ty (e ∷ rest) d f i = elim (in_cases i) [
    | inl same ↦ (place, ty, subst (λ (c : Decl). AreFine decls (declaration t place ty c)) (sym same) (fine_front decls (declaration t place ty e) _ f))
    | inr j ↦ fine_in t (suc place) (next_type ty e) rest d (fine_rest decls (declaration t place ty e) _ f) j
  ]

-- Each type of a typed program has enumerators, at most so many, and they differ.
pub has_choices : (ast : Ast) (width : ℕ) → IsFineProgram ast width → ∥ IsTreeOfGrammar ast ∥₁ → HasChoices (program_of ast.decls width)
has_choices ast width fine tree = all_of HasFewEnumerators (enumerations decls) (λ e i. of_type e (type_declared decls e i))
  where
    decls : List Decl
    decls = ast.decls

    of_type : (e : Enumeration) → IsDeclaredType decls e → HasFewEnumerators e
    of_type e w =
        let own = fine_in decls (tables width decls) 0 0 decls (TypeDecl w.at w.name w.choices) fine w.among in
        let names = fine_tail decls _ _ own.2 in
        let long : length (spot_names w.choices) ≡ length w.choices = length-map w.choices (λ (s : Spot). s.text) in
        subst HasFewEnumerators w.is (record {
          some = omega (arith, has_enumerator ast tree w.at w.name w.choices w.among);
          few = omega (arith, long, few_choices decls width fine own.1 0 w.choices names (omega arith));
          distinct = differ_from decls (globals decls) own.1 0 w.choices names;
        })
