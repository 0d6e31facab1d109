-- The readers that a search by edge and port has found so far.
use Rattle.std.proofs.Common.{◌≡◌, ◌≢◌, ◌⊎◌, inl, inr, ⊎_elim, ℕ, ◌+◌, ◌<◌, ◌≤◌, List, [], ◌∷◌, ◌++◌, Option, Some, None, length, get_or, slice_get, refl, ap, sym, ◌∙◌, subst, arith, Contains}
use Rattle.std.proofs.lemmas.List.Elements.{Contains-push, Contains-push_cases, Contains-append_left, Contains-get_or}
use Rattle.std.proofs.lemmas.List.Quantifiers.{all_pairs_push}
use Rattle.std.proofs.lemmas.Option.{slice_get_within}
use Rattle.std.proofs.lemmas.Bool.{cases_eq}
use Rattle.op_network.specs.declared.edge.Edge.{Edge}
use Rattle.op_network.specs.declared.edge.EdgeId.{EdgeId}
use Rattle.op_network.specs.Operators.{operands_of, operands_in}
use Rattle.op_network.specs.Readers.{ReaderBefore, Reads, IsReaderList, IsReaderListBelow}

pub below_nothing : (edges : List Edge) (e : EdgeId) → IsReaderListBelow edges e 0 0 []
below_nothing edges e = record {
  each = λ r. ((λ h. absurd (omega (arith, h.1))), (λ h. elim h.0 [ inl a ↦ absurd (omega arith) | inr a ↦ absurd (omega (arith, a.1)) ]));
  order = λ i j d lt within. absurd (omega arith);
}

same_reader : (r : EdgeId × ℕ) (i p : ℕ) → r.0.0 ≡ i → r.1 ≡ p → (record { 0 = i }, p) ≡ r
same_reader r i p a b = let at : ℕ → ℕ → EdgeId × ℕ = λ x y. (record { 0 = x }, y) in ap (λ x. at x p) (sym a) ∙ ap (at r.0.0) (sym b)

last_port : (r : EdgeId × ℕ) (i p : ℕ) → ReaderBefore r (record { 0 = i }, p + 1) → ReaderBefore r (record { 0 = i }, p) ⊎ ((record { 0 = i }, p) ≡ r)
last_port r i p h = elim h [
  | inl a ↦ inl (inl a)
  | inr a ↦ ⊎_elim (λ same. inr (same_reader r i p a.0 same)) (λ apart. inl (inr (a.0, omega (arith, a.1)))) (cases_eq r.1 p)
]

one_more : (r : EdgeId × ℕ) (i p : ℕ) → ReaderBefore r (record { 0 = i }, p) → ReaderBefore r (record { 0 = i }, p + 1)
one_more r i p h = elim h [ inl a ↦ inl a | inr a ↦ inr (a.0, omega (arith, a.1)) ]

-- the next port reads the edge
pub below_pushed : (edges : List Edge) (e reader : EdgeId) (p : ℕ) (old new : List (EdgeId × ℕ)) → IsReaderListBelow edges e reader.0 p old
    → slice_get (operands_of edges reader) p ≡ Some e → new ≡ old ++ (reader, p) ∷ [] → IsReaderListBelow edges e reader.0 (p + 1) new
below_pushed edges e reader p old new h reads is = subst (IsReaderListBelow edges e reader.0 (p + 1)) (sym is) (record {
  each = λ r. (
    (λ has. elim (Contains-push_cases old (reader, p) r has) [
      | inl before ↦ let k = (h.each r).0 before in (one_more r reader.0 p k.0, k.1)
      | inr same ↦ subst (λ r. ReaderBefore r (reader, p + 1) × Reads edges r e) same (inr (refl, omega arith), reads)
    ]),
    (λ k. elim (last_port r reader.0 p k.0) [
      | inl before ↦ Contains-append_left old ((reader, p) ∷ []) r ((h.each r).1 (before, k.1))
      | inr same ↦ subst (Contains (old ++ (reader, p) ∷ [])) same (Contains-push old (reader, p))
    ]),
  );
  order = all_pairs_push ReaderBefore old (reader, p) h.order (λ k d within. ((h.each (get_or old k d)).0 (Contains-get_or old k d within)).0);
})

-- the next port does not read the edge
pub below_skipped : (edges : List Edge) (e reader : EdgeId) (p : ℕ) (readers : List (EdgeId × ℕ)) → IsReaderListBelow edges e reader.0 p readers
    → slice_get (operands_of edges reader) p ≢ Some e → IsReaderListBelow edges e reader.0 (p + 1) readers
below_skipped edges e reader p readers h other = record {
  each = λ r. (
    (λ has. let k = (h.each r).0 has in (one_more r reader.0 p k.0, k.1)),
    (λ k. elim (last_port r reader.0 p k.0) [
      | inl before ↦ (h.each r).1 (before, k.1)
      | inr same ↦ absurd (other (subst (λ r. Reads edges r e) (sym same) k.1))
    ]),
  );
  order = h.order;
}

-- all ports of an edge have been seen
pub below_next : (edges : List Edge) (e reader : EdgeId) (p : ℕ) (readers : List (EdgeId × ℕ)) → IsReaderListBelow edges e reader.0 p readers
    → length (operands_of edges reader) ≤ p → IsReaderListBelow edges e (reader.0 + 1) 0 readers
below_next edges e reader p readers h all = record {
  each = λ r. (
    (λ has. let k = (h.each r).0 has in (elim k.0 [ inl a ↦ inl (omega arith) | inr a ↦ inl (omega (arith, a.0)) ], k.1)),
    (λ k. (h.each r).1 (
      elim k.0 [
        | inl a ↦ ⊎_elim (λ same. inr (same, omega (arith, slice_get_within (operands_of edges r.0) r.1 e k.1, ap (λ (n : ℕ). length (operands_of edges (record { 0 = n }))) same))) (λ apart. inl (omega arith)) (cases_eq r.0.0 reader.0)
        | inr a ↦ absurd (omega (arith, a.1))
      ],
      k.1,
    )),
  );
  order = h.order;
}

some_edge : (o : Option Edge) (edges : List Edge) (i p : ℕ) (e : EdgeId) → slice_get edges i ≡ o → slice_get (operands_in o) p ≡ Some e → i < length edges
some_edge None edges i p e is h = cc
some_edge (Some edge) edges i p e is h = slice_get_within edges i edge is

-- all edges have been seen
pub below_all : (edges : List Edge) (e : EdgeId) (n : ℕ) (readers : List (EdgeId × ℕ)) → IsReaderListBelow edges e n 0 readers → length edges ≤ n → IsReaderList edges e readers
below_all edges e n readers h all = record {
  each = λ r. (
    (λ has. ((h.each r).0 has).1),
    (λ k. (h.each r).1 (inl (omega (arith, some_edge (slice_get edges r.0.0) edges r.0.0 r.1 e refl k)), k)),
  );
  order = h.order;
}
