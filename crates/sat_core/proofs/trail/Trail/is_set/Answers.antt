use Rattle.std.proofs.Common.{◌≡◌, ◌∙◌, sym, ap, Some, None, arith}
use Rattle.std.proofs.lemmas.List.{get_or_default}
use Rattle.cnf_form.specs.Lits.{same}
use Rattle.sat_core.specs.declared.trail.Entry.{Entry}
use Rattle.sat_core.specs.Trail.{no_entry, place_of}
use Rattle.sat_core.proofs.Placing.{in-some}
use Rattle.sat_core.proofs.trail.Trail.is_set.Goals as goal

pub index-requires-in-Some : goal.index-requires-in-Some
index-requires-in-Some c =
    let place : place_of c.args.self.now.places.items c.args.lit ≡ Some c.in-Some.at =
    sym (c.index.ensures ∙ get_or_default c.args.self.now.places.items c.args.lit.var c.index.result.now None c.requires) ∙ c.in-Some.is in
    let inside = (c.args.self.now.placed.to c.args.lit c.in-Some.at place).0 in
    omega arith

pub returns-in-Some : goal.returns-in-Some
returns-in-Some c =
    let place : place_of c.args.self.now.places.items c.args.lit ≡ Some c.in-Some.at =
    sym (c.index.ensures ∙ get_or_default c.args.self.now.places.items c.args.lit.var c.index.result.now None c.requires) ∙ c.in-Some.is in
    let inside = (c.args.self.now.placed.to c.args.lit c.in-Some.at place).0 in
    c.is_same.ensures
    ∙ (ap (λ (e : Entry). same e.lit c.args.lit) (c.index-in-Some.ensures ∙ get_or_default c.args.self.now.entries.items c.in-Some.at c.index-in-Some.result.now no_entry inside)
    ∙ sym (in-some _ c.args.self.now.entries.items c.args.self.now.places.items c.args.lit c.in-Some.at c.args.self.now.placed place))
