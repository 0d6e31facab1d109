-- How long the rows are.
use Rattle.std.proofs.Common.{◌≡◌, ◌∙◌, ℕ, ◌*◌, ◌<◌, ◌≤◌, Bool, false, List, [], Option, sym, ap, arith, length, replicate}
use Rattle.std.proofs.lemmas.List.{get_or-replicate, length-replicate}
use Rattle.std.proofs.lemmas.Option.{slice_get_within}
use Rattle.dep_paths.specs.declared.path.Condition.{Condition}
use Rattle.omcdc_tags.specs.declared.limits.TheConstants.{MOST_PORTS}
use Rattle.omcdc_tags.specs.declared.sets.TagSets.{TagSets}
use Rattle.omcdc_tags.specs.Ports.{IsTable}
use Rattle.omcdc_tags.specs.Rows.{AreSized, HaveSize}
use Rattle.omcdc_tags.specs.Tags.{row_at}

-- blank rows
pub blank_rows : (edges bits : ℕ) (ports : List Condition) (table : List (Option ℕ)) (rows : List (List Bool)) (starts work : List Bool) → IsTable edges ports table → length ports ≤ MOST_PORTS → bits ≡ 2 * length ports
    → rows ≡ replicate edges (replicate bits false) → length starts ≡ bits → length work ≡ bits → HaveSize edges table rows starts work
blank_rows edges bits ports table rows starts work is few two made start_size work_size = record {
  few = omega (arith, few, two, start_size);
  wide = is.size;
  places = λ j k at.
      let there = is.placed k j at in
      omega (arith, two, start_size, slice_get_within ports k there.0 there.1);
  many = ap (λ (l : List (List Bool)). length l) made ∙ length-replicate edges (replicate bits false);
  row = λ e below.
      let within : e.0 < edges = omega (arith, below, ap (λ (l : List (List Bool)). length l) made, length-replicate edges (replicate bits false)) in
      ap (λ (l : List (List Bool)). length (row_at l e)) made ∙ ap (λ (r : List Bool). length r) (get_or-replicate edges e.0 (replicate bits false) [] within) ∙ length-replicate bits false ∙ sym start_size;
  in_work = work_size ∙ sym start_size;
}

pub are_sized : (edges bits count : ℕ) (ports : List Condition) (table : List (Option ℕ)) (sets : TagSets) → IsTable edges ports table → count ≡ length ports → count ≤ MOST_PORTS → bits ≡ 2 * count
    → sets.reached ≡ replicate edges (replicate bits false) → sets.before ≡ replicate edges (replicate bits false) → sets.observed ≡ replicate bits false
    → sets.values ≡ replicate bits false → sets.earlier ≡ replicate bits false → sets.work ≡ replicate bits false → AreSized edges ports table sets
are_sized edges bits count ports table sets is same few two reached before observed values earlier work =
    let all : length ports ≤ MOST_PORTS = omega (arith, same, few) in
    let twice : bits ≡ 2 * length ports = omega (arith, same, two) in
    let long : (row : List Bool) → row ≡ replicate bits false → length row ≡ bits = λ row made. ap (λ (r : List Bool). length r) made ∙ length-replicate bits false in
    record {
      few = all;
      placed = is;
      observed = long sets.observed observed ∙ twice;
      values = long sets.values values ∙ twice;
      earlier = long sets.earlier earlier ∙ twice;
      now = blank_rows edges bits ports table sets.reached sets.values sets.work is all twice reached (long sets.values values) (long sets.work work);
      before = blank_rows edges bits ports table sets.before sets.earlier sets.work is all twice before (long sets.earlier earlier) (long sets.work work);
    }
